-- A run, instruction by instruction.
use Rattle.std.proofs.Common.{◌≡◌, sym, ◌∙◌, ap, ℕ, zero, suc, ◌+◌, ◌-◌, ◌<◌, ◌≤◌, Bool, List, [], ◌∷◌}
use Rattle.std.proofs.Common.{length, drop, Some, None, Ok, Err, arith, true, false, cond, add-zero}
use Rattle.std.specs.Prelude.{Option, Result, map, replicate, nat_le}
use Rattle.std.specs.Simd.Lanes.{put_chunk}
use Rattle.std.proofs.lemmas.Simd.{length-put_chunk}
use Rattle.std.proofs.lemmas.List.{drop-drop, drop_all, length-drop}
use Rattle.x86_operand.specs.declared.error.DecodeError.{DecodeError}
use Rattle.x86_operand.specs.Meaning.{Decoded}
use Rattle.vex_decode.specs.Decode.{decode}
use Rattle.vex_emul.specs.Machine.{State}
use Rattle.vex_emul.specs.Subset.{work_of}
use Rattle.vex_emul.specs.Operation.{result_of}
use Rattle.vex_emul.specs.Work.{size_of, low, fetched, stored, with_vector, and_then, combined, moved, upper_cleared}
use Rattle.vex_emul.specs.Work.{after}
use Rattle.vex_emul.specs.declared.work.Location.{Location}
use Rattle.vex_emul.specs.declared.work.Location.TheVariants.{Vector, Memory}
use Rattle.vex_emul.specs.declared.work.Work.{Work}
use Rattle.vex_emul.specs.declared.work.Work.TheVariants.{Combine, Move, ZeroUpper, ZeroAll}
use Rattle.vex_emul.specs.Run.{step, step_decoded, step_by, step_into, ran, ran_from, ran_by}
use Rattle.vex_emul.specs.declared.run.HaltCause.{HaltCause}
use Rattle.vex_emul.specs.declared.run.HaltCause.TheVariants.{Unsupported, BadAddress}

-- ---- one instruction, by what a decode answers

pub step-decoded : (settings : List Bool) (state : State) (bytes : List ℕ) (first : Result Decoded DecodeError)
    → first ≡ decode settings bytes → step settings state bytes ≡ step_decoded state first
unfolding step
step-decoded settings state bytes first is = ap (step_decoded state) (sym is)

-- what follows from that, by what the instruction does
module _ (settings : List Bool) (state : State) (bytes : List ℕ) (decoded : Decoded)
    (is : step settings state bytes ≡ step_by state decoded.len (work_of state.q decoded.meaning)) where
  pub step-unsupported : work_of state.q decoded.meaning ≡ None → step settings state bytes ≡ Err Unsupported
  step-unsupported none = is ∙ ap (step_by state decoded.len) none

  module _ (work : Work) (some : work_of state.q decoded.meaning ≡ Some work) where
    pub step-out : after state work ≡ None → step settings state bytes ≡ Err BadAddress
    step-out none = is ∙ ap (step_by state decoded.len) some ∙ ap (step_into decoded.len) none

    pub step-done : (next : State) → after state work ≡ Some next → step settings state bytes ≡ Ok (next, decoded.len)
    step-done next into = is ∙ ap (step_by state decoded.len) some ∙ ap (step_into decoded.len) into

-- ---- the memory keeps its length

stored-room : (s next : State) (n : ℕ) (dest : Location) (bytes : List ℕ) → stored s n dest bytes ≡ Some next
    → length next.memory ≡ length s.memory
unfolding stored
stored-room s next n (Vector i) bytes h =
    let is : with_vector s n i bytes ≡ next = cc in ap (λ (t : State). length t.memory) (sym is)
stored-room s next n (Memory at) bytes h = by (nat_le (at + n) (length s.memory)) h
  where
    by : (b : Bool) → cond b (Some (record s { memory = put_chunk at s.memory bytes })) None ≡ Some next
        → length next.memory ≡ length s.memory
    by true h =
        let is : record s { memory = put_chunk at s.memory bytes } ≡ next = cc in
        ap (λ (t : State). length t.memory) (sym is) ∙ length-put_chunk at s.memory bytes
    by false h = cc

pub after-room : (s next : State) (work : Work) → after s work ≡ Some next → length next.memory ≡ length s.memory
unfolding combined moved
after-room s next (Combine operation wide dest first second) h = by (fetched s (size_of wide) second) h
  where
    by : (o : Option (List ℕ)) → and_then o
        (λ e. Some (with_vector s (size_of wide) dest
        (result_of operation (size_of wide) (low s (size_of wide) first) e))) ≡ Some next
        → length next.memory ≡ length s.memory
    by None h = cc
    by (Some e) h =
        let is : with_vector s (size_of wide) dest (result_of operation (size_of wide) (low s (size_of wide) first) e)
        ≡ next = cc in
        ap (λ (t : State). length t.memory) (sym is)
after-room s next (Move wide dest source) h = by (fetched s (size_of wide) source) h
  where
    by : (o : Option (List ℕ)) → and_then o (λ bytes. stored s (size_of wide) dest bytes) ≡ Some next
        → length next.memory ≡ length s.memory
    by None h = cc
    by (Some bytes) h = stored-room s next (size_of wide) dest bytes h
after-room s next ZeroUpper h =
    let is : record s { vectors = map upper_cleared s.vectors } ≡ next =
    cc in ap (λ (t : State). length t.memory) (sym is)
after-room s next ZeroAll h =
    let is : record s { vectors = replicate 16 (replicate 32 0) } ≡ next =
    cc in ap (λ (t : State). length t.memory) (sym is)

-- ---- one instruction after another

-- bytes that are passed over
from-skip : (settings : List Bool) (k : ℕ) (state : State) (place count : ℕ) (bytes : List ℕ) → k ≤ length bytes
    → ran_from settings k state place count bytes ≡ ran_from settings 0 state (place + k) count (drop k bytes)
unfolding ran_from
from-skip settings zero state place count bytes within =
    ap (λ p. ran_from settings 0 state p count bytes) (sym (add-zero place))
from-skip settings (suc k) state place count [] within = absurd (omega arith)
from-skip settings (suc k) state place count (b ∷ bs) within =
    let at : place + 1 + k ≡ place + suc k = omega arith in
    from-skip settings k state (place + 1) count bs (omega arith)
    ∙ ap (λ p. ran_from settings 0 state p count (drop k bs)) at

-- an instruction that runs, and the run of what follows it
pub from-step : (settings : List Bool) (state next : State) (place count len : ℕ) (bytes : List ℕ)
    → step settings state bytes ≡ Ok (next, len)
    → 1 ≤ len → len ≤ length bytes
    → ran_from settings 0 state place count bytes ≡ ran_from settings 0 next (place + len) (count + 1) (drop len bytes)
unfolding ran_from
from-step settings state next place count len [] is some within = absurd (omega arith)
from-step settings state next place count len (b ∷ bs) is some within =
    let more : suc (len - 1) ≡ len = omega arith in
    let at : place + 1 + (len - 1) ≡ place + len = omega arith in
    ap (ran_by state place count (λ next len. ran_from settings (len - 1) next (place + 1) (count + 1) bs)) is
    ∙ from-skip settings (len - 1) next (place + 1) (count + 1) bs (omega arith)
    ∙ ap (λ p. ran_from settings 0 next p (count + 1) (drop (len - 1) bs)) at
    ∙ ap (λ k. ran_from settings 0 next (place + len) (count + 1) (drop k (b ∷ bs))) more

-- an instruction that halts
pub from-halt : (settings : List Bool) (state : State) (place count : ℕ) (bytes : List ℕ) (cause : HaltCause)
    → step settings state bytes ≡ Err cause
    → 0 < length bytes → ran_from settings 0 state place count bytes
    ≡ (state, Err (record { place = place; count = count; cause = cause }))
unfolding ran_from
from-halt settings state place count [] cause is some = absurd (omega arith)
from-halt settings state place count (b ∷ bs) cause is some =
    ap (ran_by state place count (λ next len. ran_from settings (len - 1) next (place + 1) (count + 1) bs)) is

-- the whole run is the run from this place on
pub record Running (settings : List Bool) (start : State) (code : List ℕ) (state : State) (place count : ℕ) : Type 0
  where
    pub within : place ≤ length code
    pub counted : count ≤ place
    pub room : length state.memory ≡ length start.memory
    pub same : ran settings start code ≡ ran_from settings 0 state place count (drop place code)

module _ (settings : List Bool) (start : State) (code : List ℕ) where
  module _ (state : State) (place count : ℕ) (so_far : Running settings start code state place count) where
    pub Running-step : (next : State) (len : ℕ) → step settings state (drop place code) ≡ Ok (next, len)
        → 1 ≤ len → len ≤ length (drop place code) → length next.memory ≡ length state.memory
        → Running settings start code next (place + len) (count + 1)
    Running-step next len is some within room =
        let left = length-drop place code in
        record {
          within = omega (arith, within, left, so_far.within);
          counted = omega (arith, some, so_far.counted);
          room = room ∙ so_far.room;
          same =
              so_far.same
              ∙ from-step settings state next place count len (drop place code) is some within
              ∙ ap (ran_from settings 0 next (place + len) (count + 1)) (drop-drop len place code);
        }

    pub Running-halt : (cause : HaltCause) → place < length code → step settings state (drop place code) ≡ Err cause
        → ran settings start code ≡ (state, Err (record { place = place; count = count; cause = cause }))
    Running-halt cause more is =
        so_far.same ∙ from-halt settings state place count (drop place code) cause is
        (omega (arith, more, length-drop place code))

    pub Running-end : length code ≤ place → ran settings start code ≡ (state, Ok count)
    unfolding ran_from
    Running-end all = so_far.same ∙ ap (ran_from settings 0 state place count) (drop_all place code all)
