use Rattle.std.proofs.Common.{sym, ◌∙◌}
use Rattle.x86_features.proofs.Sets.{union_includes, included_union}
use Rattle.x86_features.proofs.feature.FeatureSet.includes.Goals as goal

pub returns : goal.returns
returns c = (
  λ h. union_includes c.args.self.now c.args.other.now (sym c.union.ensures ∙ c.is.ensures.0 h),
  λ h. c.is.ensures.1 (c.union.ensures ∙ included_union c.args.self.now c.args.other.now h),
)
