-- The encoder answers an error exactly where nothing spells the meaning.
use Rattle.std.proofs.Common.{sym, ◌∙◌}
use Rattle.vex_list.proofs.listing.has_none.Goals as goal

pub returns : goal.returns
returns g c = λ h. c.encode_shortest.ensures.none.0 (sym c.is_err.ensures.value ∙ h)
