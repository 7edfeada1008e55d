-- Which instructions settings permit, and what these become.
pub mod Lemmas
use Rattle.std.specs.Prelude.{ℕ, Bool, true, false, ◌&&◌, ◌||◌, not, if◌then◌else◌, List, [], ◌∷◌, Option, Some, None}
use Rattle.x86_opcode.specs.declared.Opcode.{Opcode}
use Rattle.x86_opcode.specs.declared.Opcode.TheVariants.{BSF, Legacy}
use Rattle.x86_opcode.specs.declared.LegacyOpcode.TheVariants.{TZCNT}
use Rattle.x86_opcode.specs.declared.condition.Condition.{Condition}
use Rattle.x86_opcode.specs.declared.condition.Condition.TheVariants as on
use Rattle.x86_opcode.specs.Condition.{opcode_condition}
use Rattle.x86_opcode.specs.Mark.{marked_bit}
use Rattle.x86_settings.specs.Bits.{is_set}
use Rattle.x86_settings.specs.Sets.{all_set}
use Rattle.x86_settings.specs.Settings.{_3dnow, abm, adx, aesni, amd_quirks, avx, bmi1, bmi2, f16c, hreset}
use Rattle.x86_settings.specs.Settings.{intel_quirks, keylocker, lahfsahf, lzcnt, movbe, pclmulqdq, popcnt, rdrand}
use Rattle.x86_settings.specs.Settings.{rdseed, sgx, sha, skinit, sse3, sse4_1, sse4_2, sse4a, ssse3, svm, tsx, vmx}
use Rattle.x86_settings.specs.Settings.{avx512_bitalg, avx512_bw, avx512_cd, avx512_dq, avx512_f, avx512_fma}
use Rattle.x86_settings.specs.Settings.{avx512_vbmi, avx512_vbmi2, avx512_vl, avx512_vpopcntdq, avx512_vnni}
use Rattle.x86_settings.specs.Composites.{avx512}

-- whether the settings meet the condition of an opcode without the EVEX mark
abbrev pub condition_holds : List Bool → Condition → Bool
condition_holds s on.ThreeDNow = is_set s _3dnow
condition_holds s on.Tzcnt = true
condition_holds s on.Sse3 = is_set s sse3
condition_holds s on.Ssse3 = is_set s ssse3
condition_holds s on.Sse41 = is_set s sse4_1
condition_holds s on.Sse4a = is_set s sse4a
condition_holds s on.Sse42 = is_set s sse4_2
condition_holds s on.Aesni = is_set s aesni
condition_holds s on.Pclmulqdq = is_set s pclmulqdq
condition_holds s on.Tsx = is_set s tsx
condition_holds s on.Sha = is_set s sha
condition_holds s on.Sgx = is_set s sgx
condition_holds s on.Movbe = is_set s movbe
condition_holds s on.Popcnt = is_set s popcnt || (is_set s intel_quirks && is_set s sse4_2)
condition_holds s on.Lzcnt = is_set s lzcnt && (not (is_set s amd_quirks) || is_set s abm)
condition_holds s on.Adx = is_set s adx
condition_holds s on.Svm = is_set s svm
condition_holds s on.SvmAndSkinit = is_set s svm && is_set s skinit
condition_holds s on.Lahfsahf = is_set s lahfsahf
condition_holds s on.Rdrand = is_set s rdrand
condition_holds s on.Rdseed = is_set s rdseed
condition_holds s on.Keylocker = is_set s keylocker
condition_holds s on.AmdQuirks = is_set s amd_quirks
condition_holds s on.Vmx = is_set s vmx
condition_holds s on.Hreset = is_set s hreset
condition_holds s on.Bmi1 = is_set s bmi1
condition_holds s on.Bmi2 = is_set s bmi2
condition_holds s on.AvxAndAesni = is_set s avx && is_set s aesni
condition_holds s on.AvxAndF16c = is_set s avx && is_set s f16c
condition_holds s on.Avx = is_set s avx
condition_holds s on.Always = true

-- the bits that every opcode with the EVEX mark needs where `avx512` isn't whole
abbrev pub marked_baseline : List ℕ
marked_baseline =
    avx512_bitalg ∷ avx512_bw ∷ avx512_cd ∷ avx512_dq ∷ avx512_f ∷ avx512_fma ∷ avx512_vbmi ∷ avx512_vbmi2 ∷ avx512_vl
    ∷ avx512_vpopcntdq ∷ avx512_vnni ∷ []

-- whether the bit of its own is set, for an opcode that has one
abbrev pub own_bit_set : List Bool → Option ℕ → Bool
own_bit_set s None = true
own_bit_set s (Some own) = is_set s own

-- whether the settings permit an instruction by its EVEX mark and its opcode
unfoldable pub permits : List Bool → Bool → Opcode → Bool
permits s false opcode = condition_holds s (opcode_condition opcode)
permits s true opcode = all_set s avx512 || (all_set s marked_baseline && own_bit_set s (marked_bit opcode))

-- the opcode that a permitted instruction has then: an unmarked TZCNT is a BSF where `bmi1` isn't set
unfoldable pub revised : List Bool → Bool → Opcode → Opcode
revised s mark (Legacy TZCNT) = if not mark && not (is_set s bmi1) then BSF else Legacy TZCNT
revised s mark opcode = opcode
