-- Lemmas that no contract cites: the numbers of a slice, and a sweep instruction by instruction.
use Rattle.std.proofs.Common.{◌≡◌, ℕ, zero, suc, ◌+◌, ◌-◌, ◌<◌, ◌≤◌, Bool, List, [], ◌∷◌, length, drop}
use Rattle.std.proofs.Common.{get_or, Ok, Err, sym, ap, ◌∙◌, arith, add-zero}
use Rattle.x86_operand.specs.declared.error.DecodeError.{DecodeError}
use Rattle.x86_operand.specs.Meaning.{Decoded}
use Rattle.x86_address.specs.Bytes.{IsBytes}
use Rattle.vex_decode.specs.Decode.{decode}
use Rattle.vex_encode.specs.declared.sweeper.SweepEnd.TheVariants.{Stopped}
use Rattle.vex_encode.specs.Sweep.{item_at, onto, swept_by, swept_from}

-- the numbers of a slice are bytes
pub are_bytes : (bytes : List ℕ) → ((i : ℕ) → get_or bytes i 0 < 256) → IsBytes bytes
are_bytes [] h = tt
are_bytes (byte ∷ bytes) h = (h 0, are_bytes bytes (λ i. h (suc i)))

-- ---- one instruction after another

-- bytes that are passed over
from-skip : (settings : List Bool) (k place : ℕ) (bytes : List ℕ) → k ≤ length bytes
    → swept_from settings k place bytes ≡ swept_from settings 0 (place + k) (drop k bytes)
unfolding swept_from
from-skip settings zero place bytes within = ap (λ p. swept_from settings 0 p bytes) (sym (add-zero place))
from-skip settings (suc k) place [] within = absurd (omega arith)
from-skip settings (suc k) place (b ∷ bs) within =
    let at : place + 1 + k ≡ place + suc k = omega arith in
    from-skip settings k (place + 1) bs (omega arith) ∙ ap (λ p. swept_from settings 0 p (drop k bs)) at

-- an instruction, and the sweep of what follows it
pub from-step : (settings : List Bool) (place : ℕ) (bytes : List ℕ) (decoded : Decoded)
    → decode settings bytes ≡ Ok decoded
    → 1 ≤ decoded.len → decoded.len ≤ length bytes
    → swept_from settings 0 place bytes ≡ onto (item_at place bytes decoded)
    (swept_from settings 0 (place + decoded.len) (drop decoded.len bytes))
unfolding swept_from
from-step settings place [] decoded first some within = absurd (omega arith)
from-step settings place (b ∷ bs) decoded first some within =
    let n = decoded.len in
    let more : n ≡ suc (n - 1) = omega arith in
    let at : place + 1 + (n - 1) ≡ place + n = omega arith in
    ap (swept_by place (b ∷ bs) (λ decoded. swept_from settings (decoded.len - 1) (place + 1) bs)) first
    ∙ ap (onto (item_at place (b ∷ bs) decoded))
    (from-skip settings (n - 1) (place + 1) bs (omega arith)
    ∙ ap (λ p. swept_from settings 0 p (drop (n - 1) bs)) at
    ∙ ap (λ k. swept_from settings 0 (place + n) (drop k (b ∷ bs))) (sym more))

-- an error
pub from-stop : (settings : List Bool) (place : ℕ) (bytes : List ℕ) (error : DecodeError)
    → decode settings bytes ≡ Err error → 0 < length bytes
    → swept_from settings 0 place bytes ≡ record { items = []; end = Stopped place error }
unfolding swept_from
from-stop settings place [] error first some = absurd (omega arith)
from-stop settings place (b ∷ bs) error first some =
    ap (swept_by place (b ∷ bs) (λ decoded. swept_from settings (decoded.len - 1) (place + 1) bs)) first
