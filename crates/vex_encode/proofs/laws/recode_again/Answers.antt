use Rattle.vex_encode.proofs.Canon.{canon_spells}
use Rattle.vex_encode.proofs.CanonLaws.{canonical_not_blocked, canonical_decodes, canonical_again}
use Rattle.vex_encode.proofs.laws.recode_again.Goals as goal

pub returns-clause-not_blocked : goal.returns-clause-not_blocked
returns-clause-not_blocked c = canonical_not_blocked c.blocked_or_begun.ensures.begun c.prefix_free.ensures.bytes

pub returns-clause-spells : goal.returns-clause-spells
returns-clause-spells c = canon_spells

pub returns-clause-decodes : goal.returns-clause-decodes
returns-clause-decodes c = canonical_decodes c.prefix_free.ensures.equal c.one_meaning.ensures

pub returns-clause-again : goal.returns-clause-again
returns-clause-again c = canonical_again c.one_meaning.ensures
