use Rattle.std.specs.Prelude.{◌≡◌, ◌↔◌, ℕ, Bool, false, List, [], ◌∷◌, IsTrue}
use Rattle.x86_opcode.specs.declared.Opcode.{Opcode}
use Rattle.x86_opcode.specs.Vex.{is_vex}
use Rattle.x86_settings.specs.Bits.{is_set, with_set, all_bits}
use Rattle.x86_settings.specs.Sets.{all_set, is_among}
use Rattle.x86_settings.specs.Settings.{_3dnow, abm, adx, aesni, amd_quirks, avx, avx512_4fmaps, avx512_4vnniw}
use Rattle.x86_settings.specs.Settings.{avx512_bitalg, avx512_bw, avx512_cd, avx512_dq, avx512_er, avx512_f, avx512_fma}
use Rattle.x86_settings.specs.Settings.{avx512_pf, avx512_vbmi, avx512_vbmi2, avx512_vl, avx512_vpopcntdq, bmi1, bmi2}
use Rattle.x86_settings.specs.Settings.{f16c, intel_quirks, lahfsahf, lzcnt, movbe, pclmulqdq, popcnt, rdrand, rdseed}
use Rattle.x86_settings.specs.Settings.{sgx, sha, skinit, sse3, sse4_1, sse4_2, sse4a, ssse3, svm, tsx, vmx}
use Rattle.x86_settings.specs.Settings.{avx512_vnni, keylocker, hreset}
use Rattle.x86_permit.specs.Permission.{permits, revised}
use Rattle.x86_permit.specs.LeastSettings.{least}

-- the least settings of a VEX opcode are the bits that permit it
abbrev pub LeastSettingsPermit : Type 0
LeastSettingsPermit =
    (s : List Bool) (opcode : Opcode) → IsTrue (is_vex opcode)
    → IsTrue (permits s false opcode) ↔ IsTrue (all_set s (least opcode))

-- a further bit keeps an instruction with a VEX opcode permitted
abbrev pub MoreSettingsPermitMore : Type 0
MoreSettingsPermitMore =
    (s : List Bool) (i : ℕ) (opcode : Opcode) → IsTrue (is_vex opcode)
    → IsTrue (permits s false opcode) → IsTrue (permits (with_set s i) false opcode)

-- an instruction with a VEX opcode keeps it
abbrev pub VexOpcodesStay : Type 0
VexOpcodesStay = (s : List Bool) (opcode : Opcode) → IsTrue (is_vex opcode) → revised s false opcode ≡ opcode

-- where all bits are set, every instruction is permitted
abbrev pub AllSettingsPermitAll : Type 0
AllSettingsPermitAll = (mark : Bool) (opcode : Opcode) → IsTrue (permits all_bits mark opcode)

-- the bits that conditions read
abbrev pub read_bits : List ℕ
read_bits =
    _3dnow ∷ abm ∷ adx ∷ aesni ∷ amd_quirks ∷ avx ∷ avx512_4fmaps ∷ avx512_4vnniw ∷ avx512_bitalg ∷ avx512_bw ∷
    avx512_cd ∷ avx512_dq ∷ avx512_er ∷ avx512_f ∷ avx512_fma ∷ avx512_pf ∷ avx512_vbmi ∷ avx512_vbmi2 ∷
    avx512_vl ∷ avx512_vpopcntdq ∷ bmi1 ∷ bmi2 ∷ f16c ∷ intel_quirks ∷ lahfsahf ∷ lzcnt ∷ movbe ∷ pclmulqdq ∷
    popcnt ∷ rdrand ∷ rdseed ∷ sgx ∷ sha ∷ skinit ∷ sse3 ∷ sse4_1 ∷ sse4_2 ∷ sse4a ∷ ssse3 ∷ svm ∷ tsx ∷ vmx ∷
    avx512_vnni ∷ keylocker ∷ hreset ∷ []

-- two settings agree on the bits that conditions read
abbrev pub AgreeOnReadBits : List Bool → List Bool → Type 0
AgreeOnReadBits s t = (i : ℕ) → IsTrue (is_among read_bits i) → is_set s i ≡ is_set t i

-- every other bit changes neither what is permitted nor what a permitted instruction becomes
pub record OtherBitsChangeNothing : Type 0 where
  pub permitted : (s t : List Bool) → AgreeOnReadBits s t → (mark : Bool) (opcode : Opcode)
      → permits s mark opcode ≡ permits t mark opcode
  pub becomes : (s t : List Bool) → AgreeOnReadBits s t → (mark : Bool) (opcode : Opcode)
      → revised s mark opcode ≡ revised t mark opcode
