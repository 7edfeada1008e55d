-- The features that examples need, and the processors that have them, computed.
use Rattle.std.proofs.Common.{◌≡◌, true, false, List, [], ◌∷◌, None, filter, refl}
use Rattle.x86_opcode.specs.declared.Opcode.{Opcode}
use Rattle.x86_opcode.specs.declared.Opcode.TheVariants.{Integer, Float, Fused, Legacy}
use Rattle.x86_opcode.specs.declared.IntegerOpcode.TheVariants.{VPADDD, VAESENC, VPGATHERDD}
use Rattle.x86_opcode.specs.declared.FloatOpcode.TheVariants.{VADDPS, VBROADCASTSS}
use Rattle.x86_opcode.specs.declared.FusedOpcode.TheVariants.{VFMADD231PS}
use Rattle.x86_opcode.specs.declared.LegacyOpcode.TheVariants.{POPCNT}
use Rattle.x86_operand.specs.declared.register.RegisterBank.{RegisterBank}
use Rattle.x86_operand.specs.declared.register.RegisterBank.TheVariants.{Q, X, Y, Z}
use Rattle.x86_operand.specs.Meaning.{OperandMeaning, register, memory, deref, Meaning}
use Rattle.x86_features.specs.declared.feature.Feature.{Feature}
use Rattle.x86_features.specs.declared.feature.Feature.TheVariants as feature
use Rattle.x86_features.specs.Features.{all_features, has}
use Rattle.x86_features.specs.Needs.{features, opcode_rule, vector_length, has_memory, integer_line, integer_line_at}
use Rattle.x86_features.specs.Needs.{float_line}

-- the features of a meaning, in order
abbrev listed : Meaning → List Feature
listed m = filter (has (features m)) all_features

abbrev on : RegisterBank → OperandMeaning
on bank = register (record { bank = bank; num = 1 })

abbrev load : OperandMeaning
load = memory (deref (record { bank = Q; num = 0 }))

abbrev plain : Opcode → List OperandMeaning → Meaning
plain opcode operands = record { evex = false; opcode = opcode; operands = operands; size = None }

abbrev marked : Opcode → List OperandMeaning → Meaning
marked opcode operands = record { evex = true; opcode = opcode; operands = operands; size = None }

sum_of_128_bits : listed (plain (Integer VPADDD) (on X ∷ on X ∷ load ∷ [])) ≡ feature.Avx ∷ []
unfolding features opcode_rule vector_length has_memory integer_line integer_line_at
sum_of_128_bits = refl

sum_of_256_bits : listed (plain (Integer VPADDD) (on Y ∷ on Y ∷ on Y ∷ [])) ≡ feature.Avx2 ∷ []
unfolding features opcode_rule vector_length has_memory integer_line integer_line_at
sum_of_256_bits = refl

cipher_of_128_bits : listed (plain (Integer VAESENC) (on X ∷ on X ∷ on X ∷ [])) ≡ feature.Avx ∷ feature.Aes ∷ []
unfolding features opcode_rule vector_length has_memory integer_line integer_line_at
cipher_of_128_bits = refl

cipher_of_256_bits : listed (plain (Integer VAESENC) (on Y ∷ on Y ∷ load ∷ [])) ≡ feature.Vaes ∷ []
unfolding features opcode_rule vector_length has_memory integer_line integer_line_at
cipher_of_256_bits = refl

gather : listed (plain (Integer VPGATHERDD) (on X ∷ load ∷ on X ∷ [])) ≡ feature.Avx2 ∷ []
unfolding features opcode_rule vector_length has_memory integer_line integer_line_at
gather = refl

broadcast_from_memory : listed (plain (Float VBROADCASTSS) (on X ∷ load ∷ [])) ≡ feature.Avx ∷ []
unfolding features opcode_rule vector_length has_memory float_line
broadcast_from_memory = refl

broadcast_from_a_register : listed (plain (Float VBROADCASTSS) (on X ∷ on X ∷ [])) ≡ feature.Avx2 ∷ []
unfolding features opcode_rule vector_length has_memory float_line
broadcast_from_a_register = refl

fused : listed (plain (Fused VFMADD231PS) (on X ∷ on X ∷ on X ∷ [])) ≡ feature.Fma ∷ []
unfolding features opcode_rule vector_length has_memory
fused = refl

legacy : listed (plain (Legacy POPCNT) []) ≡ []
unfolding features opcode_rule vector_length has_memory
legacy = refl

marked_of_512_bits : listed (marked (Float VADDPS) (on Z ∷ on Z ∷ load ∷ [])) ≡ feature.Avx512F ∷ []
unfolding features vector_length
marked_of_512_bits = refl

marked_of_256_bits : listed (marked (Float VADDPS) (on Y ∷ on Y ∷ load ∷ []))
    ≡ feature.Avx512F ∷ feature.Avx512Vl ∷ []
unfolding features vector_length
marked_of_256_bits = refl
