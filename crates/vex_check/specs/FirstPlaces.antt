-- One instruction of a run after another. Private functions alone cite what stands here.
use Rattle.std.specs.Prelude.{ℕ, Bool, List, [], ◌∷◌, ◌++◌, Option, Some, None, Result, Ok, Err, is_some, if◌then◌else◌}
use Rattle.std.specs.Option.{option_or}
use Rattle.x86_opcode.specs.declared.Opcode.{Opcode}
use Rattle.x86_operand.specs.declared.error.DecodeError.{DecodeError}
use Rattle.x86_operand.specs.Meaning.{Decoded}
use Rattle.x86_settings.specs.Bits.{no_bits, with_set}
use Rattle.x86_settings.specs.Settings.{aesni, avx, bmi1, bmi2, f16c}
use Rattle.vex_check.specs.declared.needs.First.{First}
use Rattle.vex_check.specs.declared.needs.RunCause.{RunCause}
use Rattle.vex_check.specs.declared.needs.RunCause.TheVariants.{Blocked, Marked}
use Rattle.vex_check.specs.declared.first_places.FirstPlaces.{FirstPlaces}

-- a first place as a list
abbrev pub to_list : Option First → List First
to_list None = []
to_list (Some first) = first ∷ []

-- the first place that needs a bit, once a further place is looked at that needs such bits
abbrev pub kept : (ℕ → Bool) → ℕ → Opcode → ℕ → Option First → Option First
kept needed place opcode bit first = option_or first
    (if needed bit then Some (record { bit = bit; place = place; opcode = opcode }) else None)

-- the first places once a further place is looked at
abbrev pub noted : (ℕ → Bool) → ℕ → Opcode → FirstPlaces → FirstPlaces
noted needed place opcode found = record {
  aesni = kept needed place opcode aesni found.aesni;
  avx = kept needed place opcode avx found.avx;
  bmi1 = kept needed place opcode bmi1 found.bmi1;
  bmi2 = kept needed place opcode bmi2 found.bmi2;
  f16c = kept needed place opcode f16c found.f16c;
}

-- the places that are there, in ascending order of their bits
abbrev pub all_there : FirstPlaces → List First
all_there found = to_list found.aesni ++
    (to_list found.avx ++ (to_list found.bmi1 ++ (to_list found.bmi2 ++ to_list found.f16c)))

-- a bit, where its place is there
abbrev pub with_bit_of : Option First → ℕ → List Bool → List Bool
with_bit_of first bit settings = if is_some first then with_set settings bit else settings

-- the settings with the bits whose places are there
abbrev pub bits_there : FirstPlaces → List Bool
bits_there found =
    with_bit_of found.f16c f16c (with_bit_of found.bmi2 bmi2
    (with_bit_of found.bmi1 bmi1 (with_bit_of found.avx avx (with_bit_of found.aesni aesni no_bits))))

-- ---- the fault of an instruction

-- the cause of a fault by what stands at the front of some bytes, where there is one
abbrev pub cause_of : Result Decoded DecodeError → Option RunCause
cause_of (Ok decoded) = if decoded.meaning.evex then Some Marked else None
cause_of (Err error) = Some (Blocked error)
