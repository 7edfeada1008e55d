-- A text that is written in several writes.
use Rattle.std.proofs.Common.{◌≡◌, ℕ, List, [], ◌++◌, length, take, drop, Option, sym, ap, refl, ◌∙◌}
use Rattle.std.proofs.lemmas.List.{append-nil, append_assoc, nil_from_length, take-append-drop}
use Rattle.std.specs.Io.KnownBytes.{Appends, Keeps}
use Rattle.vex_lines.specs.Ends.{AppendsFront}
use Rattle.vex_lines.specs.Ends.Lemmas.{Appends-keeps, Appends-none, Appends-then}

-- a front of the text was written, and the rest is to be written
pub record Writing (text rest : List ℕ) (old now : Option (List ℕ)) : Type 0 where
  pub front : List ℕ
  pub split : text ≡ front ++ rest
  pub appended : Appends old now front

pub Writing-first : (text : List ℕ) (old : Option (List ℕ)) → Writing text text old old
Writing-first text old = record { front = []; split = refl; appended = Appends-none old }

pub Writing-step : (text rest : List ℕ) (old now new : Option (List ℕ)) (n : ℕ) → Writing text rest old now
    → Appends now new (take n rest) → Writing text (drop n rest) old new
Writing-step text rest old now new n w h = record {
  front = w.front ++ take n rest;
  split =
      w.split ∙ ap (λ t. w.front ++ t) (sym (take-append-drop n rest))
      ∙ sym (append_assoc w.front (take n rest) (drop n rest));
  appended = Appends-then old now new w.front (take n rest) w.appended h;
}

pub Writing-done : (text rest : List ℕ) (old now : Option (List ℕ)) → Writing text rest old now → length rest ≡ 0
    → Appends old now text
Writing-done text rest old now w none =
    rw (w.split, nil_from_length rest none, append-nil) w.appended

-- the write of the rest failed, or took nothing
pub Writing-kept : (text rest : List ℕ) (old now new : Option (List ℕ)) → Writing text rest old now → Keeps now new
    → AppendsFront old new text
Writing-kept text rest old now new w kept =
    record {
      front = w.front;
      back = rest;
      split = w.split;
      appended =
          Appends-keeps old now new w.front w.appended kept;
    }

pub Writing-none : (text rest : List ℕ) (old now new : Option (List ℕ)) → Writing text rest old now
    → Appends now new [] → AppendsFront old new text
Writing-none text rest old now new w none =
    record {
      front = w.front;
      back = rest;
      split = w.split;
      appended =
          rw append-nil at (Appends-then old now new w.front [] w.appended none);
    }
