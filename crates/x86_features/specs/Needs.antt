-- Which features an instruction needs (Intel SDM volume 2, the column "CPUID Feature Flag").
use Rattle.std.specs.Prelude.{ℕ, Bool, true, false, if◌then◌else◌, List, [], ◌∷◌, Option, Some, None, slice_index_or}
use Rattle.std.specs.List.{list_any}
use denote.Enum.Declared.{tag_of}
use Rattle.x86_opcode.specs.declared.Opcode.{Opcode}
use Rattle.x86_opcode.specs.declared.Opcode.TheVariants.{Invalid, Integer, Float, Fused}
use Rattle.x86_opcode.specs.declared.IntegerOpcode.{IntegerOpcode}
use Rattle.x86_opcode.specs.declared.FloatOpcode.{FloatOpcode}
use Rattle.x86_opcode.specs.contracts.IntegerOpcode as the_integer
use Rattle.x86_opcode.specs.contracts.FloatOpcode as the_float
use Rattle.x86_operand.specs.declared.register.RegisterBank.{RegisterBank}
use Rattle.x86_operand.specs.declared.register.RegisterBank.TheVariants.{Y, Z}
use Rattle.x86_operand.specs.Meaning.{OperandMeaning, register, memory, Meaning}
use Rattle.x86_features.specs.declared.feature.FeatureSet.{FeatureSet}
use Rattle.x86_features.specs.declared.feature.TheConstants.{NONE, AVX, AVX2, FMA, F16C, BMI1, BMI2, VAES}
use Rattle.x86_features.specs.declared.feature.TheConstants.{AVX_AND_AES, AVX_AND_PCLMULQDQ, AVX512F}
use Rattle.x86_features.specs.declared.feature.TheConstants.{AVX512F_AND_AVX512VL}
use Rattle.x86_features.specs.declared.rule.Rule.{Rule}
use Rattle.x86_features.specs.declared.rule.Rule.TheVariants.{Avx, Avx2, Fma, F16c, Bmi1, Bmi2, AvxAndAes}
use Rattle.x86_features.specs.declared.rule.Rule.TheVariants.{AvxAndPclmulqdq, ByLength, AesByLength, Broadcast}
use Rattle.x86_features.specs.declared.rule.VectorLength.{VectorLength}
use Rattle.x86_features.specs.declared.rule.VectorLength.TheVariants.{Bits128, Bits256, Bits512}
use Rattle.x86_features.specs.declared.rules.OpcodeLine.{OpcodeLine}
use Rattle.x86_features.specs.declared.rules.TheConstants.{INTEGER_RULES, FLOAT_RULES}

-- what stands where a table has no line: the opcode, with the rule of AVX
abbrev pub no_line : Opcode → OpcodeLine
no_line opcode = record { opcode = opcode; rule = Avx }

-- the line at a place of the table of opcodes on integers, on general registers, or on no operand
unfoldable pub integer_line_at : ℕ → OpcodeLine
integer_line_at place = slice_index_or INTEGER_RULES place (no_line Invalid)

-- the line of such an opcode
unfoldable pub integer_line : IntegerOpcode → OpcodeLine
integer_line part = integer_line_at (tag_of the_integer.the_type part)

-- the line of the table for an opcode on floats
unfoldable pub float_line : FloatOpcode → OpcodeLine
float_line part = slice_index_or FLOAT_RULES (tag_of the_float.the_type part) (no_line (Float part))

-- what the table says of an opcode without the EVEX mark, where a VEX instruction has it
unfoldable pub opcode_rule : Opcode → Option Rule
opcode_rule (Integer part) = Some (integer_line part).rule
opcode_rule (Float part) = Some (float_line part).rule
opcode_rule (Fused part) = Some Fma
opcode_rule _ = None

-- the vector length of a register of a bank: 128 bits where it is no ymm and no zmm register
abbrev pub bank_length : RegisterBank → VectorLength
bank_length Z = Bits512
bank_length Y = Bits256
bank_length _ = Bits128

-- the vector length that an operand has as a register
abbrev pub length_of : OperandMeaning → VectorLength
length_of (register reg) = bank_length reg.bank
length_of _ = Bits128

-- the longer of two vector lengths
abbrev pub longest : VectorLength → VectorLength → VectorLength
longest Bits128 other = other
longest Bits512 other = Bits512
longest Bits256 Bits512 = Bits512
longest Bits256 _ = Bits256

-- the vector length of an instruction with these operands: that of its widest register
unfoldable pub vector_length : List OperandMeaning → VectorLength
vector_length [] = Bits128
vector_length (operand ∷ later) = longest (length_of operand) (vector_length later)

-- whether an operand lies in memory
abbrev pub is_memory : OperandMeaning → Bool
is_memory (memory address) = true
is_memory _ = false

-- whether one of the operands does
unfoldable pub has_memory : List OperandMeaning → Bool
has_memory operands = list_any is_memory operands

-- the features that the line of a vector length names, with an operand in memory or without one
abbrev pub rule_features : Rule → VectorLength → Bool → FeatureSet
rule_features Avx length in_memory = AVX
rule_features Avx2 length in_memory = AVX2
rule_features Fma length in_memory = FMA
rule_features F16c length in_memory = F16C
rule_features Bmi1 length in_memory = BMI1
rule_features Bmi2 length in_memory = BMI2
rule_features AvxAndAes length in_memory = AVX_AND_AES
rule_features AvxAndPclmulqdq length in_memory = AVX_AND_PCLMULQDQ
rule_features ByLength Bits128 in_memory = AVX
rule_features ByLength _ in_memory = AVX2
rule_features AesByLength Bits128 in_memory = AVX_AND_AES
rule_features AesByLength _ in_memory = VAES
rule_features Broadcast length in_memory = if in_memory then AVX else AVX2

-- the features of an instruction with the EVEX mark: AVX512F, and AVX512VL too where it is shorter than 512 bits
abbrev pub marked_features : VectorLength → FeatureSet
marked_features Bits512 = AVX512F
marked_features _ = AVX512F_AND_AVX512VL

-- the features of an instruction without it, by what the table says of its opcode
abbrev pub plain_features : Option Rule → List OperandMeaning → FeatureSet
plain_features (Some rule) operands = rule_features rule (vector_length operands) (has_memory operands)
plain_features None operands = NONE

-- the features that an instruction of this meaning needs
unfoldable pub features : Meaning → FeatureSet
features m =
    if m.evex then marked_features (vector_length m.operands) else plain_features (opcode_rule m.opcode) m.operands
