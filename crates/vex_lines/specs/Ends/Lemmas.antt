-- Lemmas that no contract cites: on what the ends of a run tell.
use Rattle.std.proofs.Common.{◌≡◌, ℕ, List, [], ◌++◌, take, drop, Option, Some, None, sym, ap, refl, ◌∙◌}
use Rattle.std.proofs.lemmas.List.{append-nil, append_assoc, take-append-drop}
use Rattle.std.specs.Io.KnownBytes.{Appends, Consumes, Keeps}
use Rattle.vex_lines.specs.Ends.{AppendsFront, WhereTaken}

-- ---- what is written

pub Appends-none : (old : Option (List ℕ)) → Appends old old []
Appends-none None = tt
Appends-none (Some xs) = sym (append-nil xs)

pub Appends-then : (old mid new : Option (List ℕ)) (a b : List ℕ) → Appends old mid a → Appends mid new b
    → Appends old new (a ++ b)
Appends-then None mid new a b h k = tt
Appends-then (Some xs) None new a b h k = absurd h
Appends-then (Some xs) (Some ys) None a b h k = absurd k
Appends-then (Some xs) (Some ys) (Some zs) a b h k = k ∙ ap (λ t. t ++ b) h ∙ append_assoc xs a b

pub AppendsFront-all : (old new : Option (List ℕ)) (text : List ℕ) → Appends old new text → AppendsFront old new text
AppendsFront-all old new text h = record { front = text; back = []; split = sym (append-nil text); appended = h }

pub AppendsFront-more : (old new : Option (List ℕ)) (a b : List ℕ) → AppendsFront old new a
    → AppendsFront old new (a ++ b)
AppendsFront-more old new a b h = record {
  front = h.front;
  back = h.back ++ b;
  split = ap (λ t. t ++ b) h.split ∙ append_assoc h.front h.back b;
  appended = h.appended;
}

pub AppendsFront-then : (old mid new : Option (List ℕ)) (a b : List ℕ) → Appends old mid a → AppendsFront mid new b
    → AppendsFront old new (a ++ b)
AppendsFront-then old mid new a b h k = record {
  front = a ++ k.front;
  back = k.back;
  split = ap (λ t. a ++ t) k.split ∙ sym (append_assoc a k.front k.back);
  appended = Appends-then old mid new a k.front h k.appended;
}

pub Appends-keeps : (old mid new : Option (List ℕ)) (a : List ℕ) → Appends old mid a → Keeps mid new → Appends old new a
Appends-keeps None mid new a h k = tt
Appends-keeps (Some xs) None new a h k = absurd h
Appends-keeps (Some xs) (Some ys) None a h k = absurd k
Appends-keeps (Some xs) (Some ys) (Some zs) a h k = k ∙ h

pub AppendsFront-keeps : (old mid new : Option (List ℕ)) (a : List ℕ) → AppendsFront old mid a → Keeps mid new
    → AppendsFront old new a
AppendsFront-keeps old mid new a h k = record {
  front = h.front;
  back = h.back;
  split = h.split;
  appended = Appends-keeps old mid new h.front h.appended k;
}

-- a front of a text that was appended to told bytes
pub AppendsFront-take : (old new text : List ℕ) (n : ℕ) → new ≡ old ++ take n text
    → AppendsFront (Some old) (Some new) text
AppendsFront-take old new text n e =
    record { front = take n text; back = drop n text; split = sym (take-append-drop n text); appended = e }

-- nothing was written of a text
pub AppendsFront-none : (old new text : List ℕ) → new ≡ old → AppendsFront (Some old) (Some new) text
AppendsFront-none old new text e =
    record { front = []; back = text; split = refl; appended = e ∙ sym (append-nil old) }

-- ---- what is read

pub Consumes-none : (old : Option (List ℕ)) → Consumes old old []
Consumes-none None = tt
Consumes-none (Some xs) = refl

pub Consumes-then : (old mid new : Option (List ℕ)) (a b : List ℕ) → Consumes old mid a → Consumes mid new b
    → Consumes old new (a ++ b)
Consumes-then None mid new a b h k = tt
Consumes-then (Some xs) None new a b h k = absurd h
Consumes-then (Some xs) (Some ys) None a b h k = absurd k
Consumes-then (Some xs) (Some ys) (Some zs) a b h k = h ∙ ap (λ t. a ++ t) k ∙ sym (append_assoc a b zs)

-- a read that failed took nothing
pub Consumes-keeps : (old mid new : Option (List ℕ)) (a : List ℕ) → Consumes old mid a → Keeps mid new
    → Consumes old new a
Consumes-keeps None mid new a h k = tt
Consumes-keeps (Some xs) None new a h k = absurd h
Consumes-keeps (Some xs) (Some ys) None a h k = absurd k
Consumes-keeps (Some xs) (Some ys) (Some zs) a h k = h ∙ ap (λ t. a ++ t) (sym k)

-- of the bytes that were taken
pub WhereTaken-from : (old new : Option (List ℕ)) (P : List ℕ → Type 0) (taken : List ℕ) → Consumes old new taken
    → P taken → WhereTaken old new P
WhereTaken-from None new P taken h p = tt
WhereTaken-from (Some xs) None P taken h p = h
WhereTaken-from (Some xs) (Some ys) P taken h p = (taken, h, p)
