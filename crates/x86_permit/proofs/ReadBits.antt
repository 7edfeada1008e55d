-- What conditions read of the settings.
use Rattle.std.proofs.Common.{◌≡◌, ℕ, Bool, true, false, not, ◌&&◌, ◌||◌, List, [], ◌∷◌, refl, ap}
use Rattle.std.specs.List.{list_all}
use Rattle.std.proofs.lemmas.Bool.{and_parts}
use Rattle.x86_opcode.specs.declared.Opcode.{Opcode}
use Rattle.x86_opcode.specs.declared.Opcode.TheVariants.{Legacy, Marked}
use Rattle.x86_opcode.specs.declared.LegacyOpcode.TheVariants.{TZCNT}
use Rattle.x86_opcode.specs.declared.MarkedOpcode.TheVariants as marked
use Rattle.x86_opcode.specs.declared.condition.Condition.{Condition}
use Rattle.x86_opcode.specs.declared.condition.Condition.TheVariants as on
use Rattle.x86_opcode.specs.Condition.{opcode_condition}
use Rattle.x86_opcode.specs.Mark.{marked_bit}
use Rattle.x86_settings.specs.Sets.{all_set, is_among}
use Rattle.x86_settings.specs.Composites.{avx512}
use Rattle.x86_permit.specs.Permission.{condition_holds, permits, revised, own_bit_set, marked_baseline}
use Rattle.x86_permit.specs.Laws.{read_bits, AgreeOnReadBits, OtherBitsChangeNothing}

both : {a b c d : Bool} → a ≡ b → c ≡ d → (a && c) ≡ (b && d)
both p q = cc

either : {a b c d : Bool} → a ≡ b → c ≡ d → (a || c) ≡ (b || d)
either p q = cc

-- a condition reads these bits alone
condition_holds-same : (s t : List Bool) → AgreeOnReadBits s t → (c : Condition)
    → condition_holds s c ≡ condition_holds t c
condition_holds-same s t same on.ThreeDNow = same 1 refl
condition_holds-same s t same on.Tzcnt = refl
condition_holds-same s t same on.Sse3 = same 54 refl
condition_holds-same s t same on.Ssse3 = same 58 refl
condition_holds-same s t same on.Sse41 = same 55 refl
condition_holds-same s t same on.Sse4a = same 57 refl
condition_holds-same s t same on.Sse42 = same 56 refl
condition_holds-same s t same on.Aesni = same 5 refl
condition_holds-same s t same on.Pclmulqdq = same 43 refl
condition_holds-same s t same on.Tsx = same 62 refl
condition_holds-same s t same on.Sha = same 52 refl
condition_holds-same s t same on.Sgx = same 51 refl
condition_holds-same s t same on.Movbe = same 41 refl
condition_holds-same s t same on.Popcnt = either (same 45 refl) (both (same 36 refl) (same 56 refl))
condition_holds-same s t same on.Lzcnt = both (same 39 refl) (either (ap not (same 6 refl)) (same 3 refl))
condition_holds-same s t same on.Adx = same 4 refl
condition_holds-same s t same on.Svm = same 59 refl
condition_holds-same s t same on.SvmAndSkinit = both (same 59 refl) (same 53 refl)
condition_holds-same s t same on.Lahfsahf = same 38 refl
condition_holds-same s t same on.Rdrand = same 48 refl
condition_holds-same s t same on.Rdseed = same 49 refl
condition_holds-same s t same on.Keylocker = same 111 refl
condition_holds-same s t same on.AmdQuirks = same 6 refl
condition_holds-same s t same on.Vmx = same 64 refl
condition_holds-same s t same on.Hreset = same 112 refl
condition_holds-same s t same on.Bmi1 = same 25 refl
condition_holds-same s t same on.Bmi2 = same 26 refl
condition_holds-same s t same on.AvxAndAesni = both (same 7 refl) (same 5 refl)
condition_holds-same s t same on.AvxAndF16c = both (same 7 refl) (same 32 refl)
condition_holds-same s t same on.Avx = same 7 refl
condition_holds-same s t same on.Always = refl

-- whether conditions read all these bits
abbrev all_read : List ℕ → Bool
all_read places = list_all (is_among read_bits) places

all_set-same : (s t : List Bool) → AgreeOnReadBits s t → (places : List ℕ) → all_read places ≡ true
    → all_set s places ≡ all_set t places
all_set-same s t same [] h = refl
all_set-same s t same (i ∷ places) h =
    both (same i (and_parts _ _ h).0) (all_set-same s t same places (and_parts _ _ h).1)

marked_bit-same : (s t : List Bool) → AgreeOnReadBits s t → (o : Opcode)
    → own_bit_set s (marked_bit o) ≡ own_bit_set t (marked_bit o)
unfolding marked_bit
marked_bit-same s t same (Marked marked.V4FMADDPS) = same 10 refl
marked_bit-same s t same (Marked marked.V4FNMADDPS) = same 10 refl
marked_bit-same s t same (Marked marked.V4FMADDSS) = same 10 refl
marked_bit-same s t same (Marked marked.V4FNMADDSS) = same 10 refl
marked_bit-same s t same (Marked marked.VP4DPWSSDS) = same 11 refl
marked_bit-same s t same (Marked marked.VP4DPWSSD) = same 11 refl
marked_bit-same s t same (Marked marked.VPMULLQ) = refl
marked_bit-same s t same (Marked _) = same 16 refl
marked_bit-same s t same _ = refl

permits-same : (s t : List Bool) → AgreeOnReadBits s t → (mark : Bool) (o : Opcode)
    → permits s mark o ≡ permits t mark o
unfolding permits
permits-same s t same false o = condition_holds-same s t same (opcode_condition o)
permits-same s t same true o =
    either (all_set-same s t same avx512 refl)
    (both (all_set-same s t same marked_baseline refl) (marked_bit-same s t same o))

revised-same : (s t : List Bool) → AgreeOnReadBits s t → (mark : Bool) (o : Opcode)
    → revised s mark o ≡ revised t mark o
unfolding revised
revised-same s t same mark (Legacy TZCNT) = rw (same 25 refl)
revised-same s t same mark _ = refl

pub other_bits : OtherBitsChangeNothing
other_bits = record { permitted = permits-same; becomes = revised-same }
