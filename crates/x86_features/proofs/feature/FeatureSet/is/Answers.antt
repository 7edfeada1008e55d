use Rattle.std.proofs.Common.{sym, ◌∙◌}
use Rattle.x86_features.proofs.Sets.{same_equal, equal_same}
use Rattle.x86_features.proofs.feature.FeatureSet.is.Goals as goal

pub returns : goal.returns
returns c = (
  λ h. same_equal c.args.self.now c.args.other.now (sym c.eq.ensures ∙ h),
  λ h. c.eq.ensures ∙ equal_same c.args.self.now c.args.other.now h,
)
