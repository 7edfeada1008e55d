-- The least settings that permit an instruction in VEX form.
pub mod Lemmas
use Rattle.std.specs.Prelude.{ℕ, List, [], ◌∷◌}
use Rattle.x86_opcode.specs.declared.Opcode.{Opcode}
use Rattle.x86_opcode.specs.declared.Opcode.TheVariants.{Integer, Float}
use Rattle.x86_opcode.specs.declared.IntegerOpcode.TheVariants as integer
use Rattle.x86_opcode.specs.declared.FloatOpcode.TheVariants as float
use Rattle.x86_settings.specs.Settings.{aesni, avx, bmi1, bmi2, f16c}

-- the least set of bits under which a VEX opcode is permitted: BMI1 for these, BMI2 for those, AVX and what else they
-- are part of for eight more, and AVX for every other
unfoldable pub least : Opcode → List ℕ
least (Integer integer.ANDN) = bmi1 ∷ []
least (Integer integer.BEXTR) = bmi1 ∷ []
least (Integer integer.BLSI) = bmi1 ∷ []
least (Integer integer.BLSMSK) = bmi1 ∷ []
least (Integer integer.BLSR) = bmi1 ∷ []
least (Integer integer.BZHI) = bmi2 ∷ []
least (Integer integer.MULX) = bmi2 ∷ []
least (Integer integer.PDEP) = bmi2 ∷ []
least (Integer integer.PEXT) = bmi2 ∷ []
least (Integer integer.RORX) = bmi2 ∷ []
least (Integer integer.SARX) = bmi2 ∷ []
least (Integer integer.SHRX) = bmi2 ∷ []
least (Integer integer.SHLX) = bmi2 ∷ []
least (Integer integer.VAESDEC) = avx ∷ aesni ∷ []
least (Integer integer.VAESDECLAST) = avx ∷ aesni ∷ []
least (Integer integer.VAESENC) = avx ∷ aesni ∷ []
least (Integer integer.VAESENCLAST) = avx ∷ aesni ∷ []
least (Integer integer.VAESIMC) = avx ∷ aesni ∷ []
least (Integer integer.VAESKEYGENASSIST) = avx ∷ aesni ∷ []
least (Float float.VCVTPS2PH) = avx ∷ f16c ∷ []
least (Float float.VCVTPH2PS) = avx ∷ f16c ∷ []
least _ = avx ∷ []
