-- What is written for a line, by what decoding its digits answered.
use Rattle.std.proofs.Common.{◌≡◌, ℕ, ◌/◌, ◌<◌, ◌≤◌, Bool, true, false, not, cond, ltb, List, [], ◌∷◌, ◌++◌}
use Rattle.std.proofs.Common.{length, take, None, Result, Ok, Err, ap, ◌∙◌, sym, subst, refl, arith}
use Rattle.std.specs.List.{AllPass}
use Rattle.std.specs.Prelude.{MatchResult, IsErr}
use Rattle.std.proofs.lemmas.Bool.Decides.{nat_tests}
use Rattle.std.proofs.lemmas.List.Elements.{All-head, All-tail}
use Rattle.std.proofs.lemmas.List.{take_at}
use Rattle.hex.specs.Hex.{decode_of, decode_sized, is_hex_digit}
use Rattle.hex.specs.declared.error.FromHexError.{FromHexError}
use Rattle.hex.proofs.HexLemmas.{decode_of-ok}
use Rattle.vex_lines.specs.declared.command.Command.{Command}
use Rattle.vex_lines.specs.declared.command.Command.TheVariants.{EachLine, Sweep, Make}
use Rattle.vex_lines.specs.declared.command.LineCommand.{LineCommand}
use Rattle.vex_lines.specs.declared.report.LineError.TheVariants.{BadHex, LongLine}
use Rattle.vex_asm.specs.Text.{is_blank}
use Rattle.vex_lines.specs.Command.{count_made, reads_text}
use Rattle.vex_lines.specs.Report.{answer, code, digits, line_report, or_bad_hex, or_error, report, sweep_report, taken}
use Rattle.vex_lines.specs.Internal.LineMachine.{long_line}
use Rattle.vex_lines.proofs.LineMachineLemmas.{SameForLong}

-- room for half as many bytes as there are digits is as good as any
decode_sized-half : (text : List ℕ) → decode_sized text (length text / 2) ≡ decode_of text
decode_sized-half text = grind (arith, nat_tests)

-- what decoding answered, and left in the room that it was given
abbrev pub Decoded : Result (List ℕ) FromHexError → Result (Unit {0}) FromHexError → List ℕ → Type 0
Decoded r answer out = MatchResult r (λ bytes. (answer ≡ Ok tt) × (out ≡ bytes)) (λ e. answer ≡ Err e)

decoded_ok : (r : Result (List ℕ) FromHexError) (answer : Result (Unit {0}) FromHexError) (out : List ℕ) (x : Unit {0})
    → Decoded r answer out → answer ≡ Ok x → r ≡ Ok out
decoded_ok (Ok bytes) answer out x h e = ap Ok (sym h.1)
decoded_ok (Err d) answer out x h e = cc

decoded_err : (r : Result (List ℕ) FromHexError) (answer : Result (Unit {0}) FromHexError) (out : List ℕ)
    (d : FromHexError) → Decoded r answer out → answer ≡ Err d → IsErr r
decoded_err (Ok bytes) answer out d h e = let both = h.0 in cc
decoded_err (Err x) answer out d h e = refl

-- digits were decoded into room for half as many bytes
pub record IsDecoded (text room out : List ℕ) (answer : Result (Unit {0}) FromHexError) : Type 0 where
  pub half : length room ≡ length text / 2
  pub same_len : length out ≡ length room
  pub decoded : Decoded (decode_sized text (length room)) answer out

from_decoded : (text room out : List ℕ) (answer : Result (Unit {0}) FromHexError) → IsDecoded text room out answer
    → decode_of text ≡ decode_sized text (length room)
from_decoded text room out answer h = sym (decode_sized-half text) ∙ ap (decode_sized text) (sym h.half)

-- digits that write bytes
pub bytes-decoded : (text room out rest : List ℕ) (answer : Result (Unit {0}) FromHexError) (x : Unit {0})
    → IsDecoded text room out answer
    → answer ≡ Ok x → decode_of text ≡ Ok (take (length text / 2) (out ++ rest))
bytes-decoded text room out rest answer x h e =
    from_decoded text room out answer h
    ∙ decoded_ok (decode_sized text (length room)) answer out x h.decoded e
    ∙ ap Ok (sym (take_at out rest (length text / 2) (h.same_len ∙ h.half)))

-- digits that write none
pub bytes-refused : (text room out : List ℕ) (answer : Result (Unit {0}) FromHexError) (d : FromHexError)
    → IsDecoded text room out answer → answer ≡ Err d → IsErr (decode_of text)
bytes-refused text room out answer d h e = subst IsErr (sym (from_decoded text room out answer h))
    (decoded_err (decode_sized text (length room)) answer out d h.decoded e)

-- a line that isn't too long writes what its digits do
code-short : (line text : List ℕ) → length line ≤ 8192 → text ≡ digits line
    → code line ≡ or_bad_hex (decode_of text)
unfolding code
code-short line text short is = rw is (grind (arith, nat_tests))

digit_is_kept : (b : ℕ) → is_hex_digit b ≡ true → is_blank b ≡ false
digit_is_kept b h = grind (arith, nat_tests)

-- digits have no blank among them
digits-whole : (line : List ℕ) → AllPass is_hex_digit line → line ≡ digits line
digits-whole [] are = refl
digits-whole (b ∷ bs) are =
    let kept : is_blank b ≡ false = digit_is_kept b (All-head (λ (c : ℕ). is_hex_digit c ≡ true) b bs are) in
    ap (λ rest. b ∷ rest) (digits-whole bs (All-tail (λ (c : ℕ). is_hex_digit c ≡ true) b bs are))
    ∙ sym (ap (λ (t : Bool). cond (not t) (b ∷ digits bs) (digits bs)) kept)

-- a line that is decoded as it is
pub code-whole : (line bytes : List ℕ) → length line ≤ 8192 → decode_of line ≡ Ok bytes → code line ≡ Ok bytes
code-whole line bytes short is =
    code-short line line short (digits-whole line (decode_of-ok line bytes is).1) ∙ ap or_bad_hex is

-- a line whose digits are decoded
pub code-decoded : (line text bytes : List ℕ) → length line ≤ 8192 → text ≡ digits line → decode_of text ≡ Ok bytes
    → code line ≡ Ok bytes
code-decoded line text bytes short are is = code-short line text short are ∙ ap or_bad_hex is

bad_hex : (r : Result (List ℕ) FromHexError) → IsErr r → or_bad_hex r ≡ Err BadHex
bad_hex (Ok bytes) is = cc is
bad_hex (Err e) is = refl

-- a line whose digits are refused
pub code-refused : (line text : List ℕ) → length line ≤ 8192 → text ≡ digits line → IsErr (decode_of text)
    → code line ≡ Err BadHex
code-refused line text short are is = code-short line text short are ∙ bad_hex (decode_of text) is

-- nothing is taken of a line that is too long
code-long : (line : List ℕ) → 8192 < length line → code line ≡ Err LongLine
unfolding code
code-long line long =
    let above : ltb 8192 (length line) ≡ true = grind (arith, nat_tests) in
    ap (λ (b : Bool). cond b (Err LongLine) (or_bad_hex (decode_of (digits line)))) above

taken-long : (as_text : Bool) (line : List ℕ) → 8192 < length line → taken as_text line ≡ Err LongLine
taken-long true line long =
    let above : ltb 8192 (length line) ≡ true = grind (arith, nat_tests) in
    ap (λ (b : Bool). cond b (Err LongLine) (Ok line)) above
taken-long false line long = code-long line long

pub line_report-long : (c : LineCommand) (line : List ℕ) → 8192 < length line → line_report c line ≡ long_line
unfolding line_report
line_report-long c line long = ap (or_error (answer c)) (taken-long (reads_text c) line long)

sweep_report-long : (settings : List Bool) (line : List ℕ) → 8192 < length line → sweep_report settings line ≡ long_line
unfolding sweep_report
sweep_report-long settings line long = ap (or_error _) (code-long line long)

-- all lines that are too long have the same report
pub SameForLong-report : (c : Command) → count_made c ≡ None → SameForLong (report c)
SameForLong-report (EachLine c) reads = record { same = line_report-long c }
SameForLong-report (Sweep settings) reads = record { same = sweep_report-long settings }
SameForLong-report (Make count) reads = absurd (cc reads)
