-- The lines of all spellings: from one spelling of a meaning to the next, and of what a decode answers.
use Rattle.std.proofs.Common.{◌≡◌, ℕ, ◌+◌, ◌<◌, List, [], ◌∷◌, ◌++◌, length, Option, Some, None, sym, ap}
use Rattle.std.proofs.Common.{◌∙◌, arith}
use Rattle.std.specs.Prelude.{Bool, Result, flat_map}
use Rattle.std.specs.Io.KnownBytes.{Appends}
use Rattle.std.proofs.lemmas.List.{append-nil, append_assoc}
use Rattle.x86_operand.specs.declared.error.DecodeError.{DecodeError}
use Rattle.x86_operand.specs.Meaning.{Meaning, Decoded}
use Rattle.vex_decode.specs.Decode.{decode}
use Rattle.vex_list.specs.AllSpellings.{all_spellings, spellings_after, spellings_from}
use Rattle.vex_lines.specs.Ends.{AppendsFront}
use Rattle.vex_lines.specs.SpellingLines.{spelling_line, spelling_lines, spellings_of}
use Rattle.vex_lines.proofs.FeedLemmas.{Told}
use Rattle.vex_lines.proofs.WrittenLines.{Wrote, Wrote-fault, Wrote-none, Wrote-step}

-- ---- from one spelling to the next

-- the lines of these spellings were written, and the next one is left with those that come after it
pub record WroteUpTo (m : Meaning) (next : Option (List ℕ)) (first now : Told) : Type 0 where
  pub done : List (List ℕ)
  pub split : all_spellings m ≡ done ++ spellings_from m next
  pub wrote : Wrote spelling_line done first now

pub up_to-first : (m : Meaning) (next : Option (List ℕ)) (first : Told) → all_spellings m ≡ spellings_from m next
    → WroteUpTo m next first first
up_to-first m next first is = record { done = []; split = is; wrote = Wrote-none spelling_line first }

-- the list round the next one
split-next : (m : Meaning) (next : Option (List ℕ)) (b : List ℕ) (first now : Told) → (h : WroteUpTo m next first now)
    → next ≡ Some b
    → all_spellings m ≡ (h.done ++ b ∷ []) ++ spellings_after m b
split-next m next b first now h is = h.split ∙ ap (λ o. h.done ++ spellings_from m o) is
    ∙ sym (append_assoc h.done (b ∷ []) (spellings_after m b))

pub up_to-more : (m : Meaning) (next after : Option (List ℕ)) (b : List ℕ) (first now new : Told)
    → WroteUpTo m next first now → next ≡ Some b
    → spellings_after m b ≡ spellings_from m after → Appends now.text new.text (spelling_line b)
    → new.faults ≡ now.faults → WroteUpTo m after first new
up_to-more m next after b first now new h is following written quiet = record {
  done = h.done ++ b ∷ [];
  split = split-next m next b first now h is ∙ ap (λ t. (h.done ++ b ∷ []) ++ t) following;
  wrote = Wrote-step spelling_line h.done b first now new h.wrote written quiet;
}

-- fewer are left after each
pub fewer-left : (m : Meaning) (next after : Option (List ℕ)) (b : List ℕ) → next ≡ Some b
    → spellings_after m b ≡ spellings_from m after
    → length (spellings_from m after) < length (spellings_from m next)
fewer-left m next after b is following =
    let now : length (spellings_from m next) ≡ 1 + length (spellings_after m b) =
    ap (λ o. length (spellings_from m o)) is ∙ omega arith in
    omega (arith, now, ap length following)

pub up_to-fault : (m : Meaning) (next : Option (List ℕ)) (b : List ℕ) (first now : Told) (new : Option (List ℕ))
    → WroteUpTo m next first now → next ≡ Some b
    → AppendsFront now.text new (spelling_line b)
    → AppendsFront first.text new (flat_map spelling_line (all_spellings m))
up_to-fault m next b first now new h is written =
    Wrote-fault spelling_line (all_spellings m) h.done (spellings_after m b) b first now new h.wrote
    (split-next m next b first now h is) written

-- where there is no next one, all were written
pub up_to-end : (m : Meaning) (next : Option (List ℕ)) (first now : Told) → WroteUpTo m next first now → next ≡ None
    → Appends first.text now.text (flat_map spelling_line (all_spellings m))
up_to-end m next first now h is = rw (h.split ∙ ap (λ o. h.done ++ spellings_from m o) is ∙ append-nil h.done)
    h.wrote.written

-- ---- what a decode answers

pub spellings-are : (settings : List Bool) (bytes : List ℕ) (first : Result Decoded DecodeError)
    → first ≡ decode settings bytes → spelling_lines settings bytes ≡ spellings_of first
unfolding spelling_lines
spellings-are settings bytes first is = ap spellings_of (sym is)
