-- Which instructions need a feature.
use Rattle.std.proofs.Common.{◌≡◌, ◌↔◌, Bool, true, false, ◌||◌, IsTrue, List, refl, if◌then◌else◌}
use Rattle.x86_opcode.specs.declared.Opcode.{Opcode}
use Rattle.x86_opcode.specs.declared.Opcode.TheVariants.{Invalid, BSF, Legacy, Integer, Float, Fused, Marked}
use Rattle.x86_opcode.specs.Vex.{is_vex}
use Rattle.x86_opcode.specs.Vex.Parts.{is_vex-vex_part}
use Rattle.x86_operand.specs.Meaning.{OperandMeaning}
use Rattle.x86_features.specs.declared.feature.Feature.{Feature}
use Rattle.x86_features.specs.declared.feature.Feature.TheVariants as feature
use Rattle.x86_features.specs.declared.feature.TheConstants.{NONE}
use Rattle.x86_features.specs.declared.rule.Rule.{Rule}
use Rattle.x86_features.specs.declared.rule.Rule.TheVariants.{Avx, ByLength, AesByLength, Broadcast}
use Rattle.x86_features.specs.declared.rule.VectorLength.{VectorLength}
use Rattle.x86_features.specs.declared.rule.VectorLength.TheVariants.{Bits128, Bits256, Bits512}
use Rattle.x86_features.specs.Features.{has}
use Rattle.x86_features.specs.Needs.{integer_line, float_line, opcode_rule, rule_features}
use Rattle.x86_features.specs.Needs.{marked_features}
use Rattle.x86_features.specs.Needs.{plain_features, vector_length, has_memory, features}
use Rattle.x86_features.specs.Laws.{VexAndMarkedNeedFeatures}
use Rattle.x86_features.proofs.Sets.{has_some, some_has}

rule_has_some : (rule : Rule) (length : VectorLength) (in_memory : Bool)
    → has_some (rule_features rule length in_memory) ≡ true
rule_has_some ByLength Bits128 in_memory = refl
rule_has_some ByLength Bits256 in_memory = refl
rule_has_some ByLength Bits512 in_memory = refl
rule_has_some AesByLength Bits128 in_memory = refl
rule_has_some AesByLength Bits256 in_memory = refl
rule_has_some AesByLength Bits512 in_memory = refl
rule_has_some Broadcast length true = refl
rule_has_some Broadcast length false = refl
rule_has_some Avx length in_memory = refl
rule_has_some _ length in_memory = refl

marked_has : (length : VectorLength) → IsTrue (has (marked_features length) feature.Avx512F)
marked_has Bits128 = refl
marked_has Bits256 = refl
marked_has Bits512 = refl

none_has : (f : Feature) → has NONE f ≡ false
none_has feature.Avx = refl
none_has _ = refl

-- what has no line needs nothing, and is no VEX opcode
without : (b : Bool) → b ≡ false → ((f : Feature) × IsTrue (has NONE f)) ↔ IsTrue b
without b empty = (
  λ some. absurd (let none : has NONE some.0 ≡ false = none_has some.0 in let has_it = some.1 in cc),
  λ h. absurd cc,
)

needs : (mark : Bool) (opcode : Opcode) (operands : List OperandMeaning)
    → ((f : Feature) × IsTrue (has (if mark then marked_features (vector_length operands) else
    plain_features (opcode_rule opcode) operands) f)) ↔ IsTrue (mark || is_vex opcode)
unfolding opcode_rule
needs true opcode operands = (λ _. refl, λ _. (feature.Avx512F, marked_has (vector_length operands)))
needs false Invalid operands = without (is_vex Invalid) (is_vex-vex_part Invalid)
needs false BSF operands = without (is_vex BSF) (is_vex-vex_part BSF)
needs false (Legacy part) operands = without (is_vex (Legacy part)) (is_vex-vex_part (Legacy part))
needs false (Marked part) operands = without (is_vex (Marked part)) (is_vex-vex_part (Marked part))
needs false (Integer part) operands = (
  λ _. is_vex-vex_part (Integer part),
  λ _. some_has _ (rule_has_some (integer_line part).rule (vector_length operands) (has_memory operands)),
)
needs false (Float part) operands = (
  λ _. is_vex-vex_part (Float part),
  λ _. some_has _ (rule_has_some (float_line part).rule (vector_length operands) (has_memory operands)),
)
needs false (Fused part) operands = (λ _. is_vex-vex_part (Fused part), λ _. some_has _ refl)

pub vex_and_marked : VexAndMarkedNeedFeatures
unfolding features
vex_and_marked m = needs m.evex m.opcode m.operands
