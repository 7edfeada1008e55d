use Rattle.x86_settings.proofs.SetterLemmas.{own, other, composite, own_composite, member, other_composite}
use Rattle.x86_settings.proofs.laws.setter_and_getter.Goals as goal

pub returns : goal.returns
returns c = record {
  own = own;
  other = other;
  composite = composite;
  own_composite = own_composite;
  member = member;
  other_composite = other_composite;
}
