-- The machine of the line buffer does what the lines of all bytes say, whatever a line gives.
use Rattle.std.proofs.Common.{◌≡◌, ℕ, zero, suc, ◌+◌, ◌<◌, ◌≤◌, get_or, take, Bool, true, false, cond, eqb, leb, List}
use Rattle.std.proofs.Common.{[], ◌∷◌, ◌++◌, length, Option, Some, None, ◌⊎◌, inl, inr, sym, ap, ◌∙◌, subst, refl}
use Rattle.std.proofs.Common.{arith}
use Rattle.std.specs.Prelude.{IsSomeAnd, ⊤}
use Rattle.std.proofs.lemmas.Bool.Decides.{nat_tests}
use Rattle.std.proofs.lemmas.List.{append-nil, append_assoc, length-append, length_push}
use Rattle.std.proofs.lemmas.Bool.{cases_lt}
use Rattle.std.specs.List.{flat_map}
use Rattle.vex_lines.specs.Lines.{lines, whole, onto_first, onto_whole}
use Rattle.vex_lines.specs.Internal.LineMachine.{appended, pushed, stepped, line_after, long_line, kept_report, ended_at, ended}
use Rattle.vex_lines.specs.Internal.LineMachine.{last}

-- ---- one piece after another

pub line_after-append : (kept : Option (List ℕ)) (a b : List ℕ)
    → line_after kept (a ++ b) ≡ line_after (line_after kept a) b
unfolding line_after
line_after-append kept [] b = refl
line_after-append kept (x ∷ a) b = line_after-append (stepped kept x) a b

pub line_after-one : (kept : Option (List ℕ)) (b : ℕ) → line_after kept (b ∷ []) ≡ stepped kept b
unfolding line_after
line_after-one kept b = refl

-- ---- a test of a byte, as two cases

either : (b : Bool) → (b ≡ true) ⊎ (b ≡ false)
either true = inl refl
either false = inr refl

stepped-end : (kept : Option (List ℕ)) (b : ℕ) → eqb b 10 ≡ true → stepped kept b ≡ Some []
unfolding stepped
stepped-end kept b e = ap (λ (t : Bool). cond t (Some []) (pushed kept b)) e

stepped-inside : (kept : Option (List ℕ)) (b : ℕ) → eqb b 10 ≡ false → stepped kept b ≡ pushed kept b
unfolding stepped
stepped-inside kept b e = ap (λ (t : Bool). cond t (Some []) (pushed kept b)) e

lines-end : (b : ℕ) (bs : List ℕ) → eqb b 10 ≡ true → lines (b ∷ bs) ≡ [] ∷ lines bs
unfolding lines
lines-end b bs e = ap (λ (t : Bool). cond t ([] ∷ lines bs) (onto_first b (lines bs))) e

lines-inside : (b : ℕ) (bs : List ℕ) → eqb b 10 ≡ false → lines (b ∷ bs) ≡ onto_first b (lines bs)
unfolding lines
lines-inside b bs e = ap (λ (t : Bool). cond t ([] ∷ lines bs) (onto_first b (lines bs))) e

-- ---- the bytes up to the last line end

onto_whole-end : (b : ℕ) → eqb b 10 ≡ true → onto_whole b [] ≡ b ∷ []
onto_whole-end b e = ap (λ (t : Bool). cond t (b ∷ []) []) e

onto_whole-inside : (b : ℕ) → eqb b 10 ≡ false → onto_whole b [] ≡ []
onto_whole-inside b e = ap (λ (t : Bool). cond t (b ∷ []) []) e

-- the bytes are none, or the next line begins after them
abbrev EndsLines : List ℕ → Type 0
EndsLines bs = (bs ≡ []) ⊎ ((kept : Option (List ℕ)) → line_after kept bs ≡ Some [])

EndsLines-onto_whole : (b : ℕ) (front : List ℕ) → EndsLines front → EndsLines (onto_whole b front)
unfolding line_after
EndsLines-onto_whole b [] h = elim (either (eqb b 10)) [
  | inl e ↦ inr (λ kept. ap (line_after kept) (onto_whole-end b e) ∙ stepped-end kept b e)
  | inr e ↦ inl (onto_whole-inside b e)
]
EndsLines-onto_whole b (c ∷ cs) h = elim h [
  | inl none ↦ cc
  | inr ends ↦ inr (λ kept. ends (stepped kept b))
]

EndsLines-whole : (bs : List ℕ) → EndsLines (whole bs)
unfolding whole
EndsLines-whole [] = inl refl
EndsLines-whole (b ∷ bs) = EndsLines-onto_whole b (whole bs) (EndsLines-whole bs)

-- no line is left unfinished
line_after-whole : (bs : List ℕ) → line_after (Some []) (whole bs) ≡ Some []
unfolding line_after
line_after-whole bs = elim (EndsLines-whole bs) [
  | inl none ↦ ap (line_after (Some [])) none
  | inr ends ↦ ends (Some [])
]

-- ---- what is kept of a line

-- what is kept of a whole line
abbrev kept_of : List ℕ → Option (List ℕ)
kept_of line = cond (leb (length line) 8192) (Some line) None

kept_of-short : (line : List ℕ) → length line ≤ 8192 → kept_of line ≡ Some line
kept_of-short line h = grind (arith, nat_tests)

kept_of-long : (line : List ℕ) → 8192 < length line → kept_of line ≡ None
kept_of-long line h = grind (arith, nat_tests)

pushed-room : (line : List ℕ) (b : ℕ) → length line < 8192 → pushed (Some line) b ≡ Some (line ++ b ∷ [])
unfolding pushed
pushed-room line b h = grind (arith, nat_tests)

pushed-full : (line : List ℕ) (b : ℕ) → 8192 ≤ length line → pushed (Some line) b ≡ None
unfolding pushed
pushed-full line b h = grind (arith, nat_tests)

pushed-none : (b : ℕ) → pushed None b ≡ None
unfolding pushed
pushed-none b = refl

pushed-kept_of : (line : List ℕ) (b : ℕ) → pushed (kept_of line) b ≡ kept_of (line ++ b ∷ [])
pushed-kept_of line b =
    let more = length_push line b in
    elim (cases_lt (length line) 8192) [
      | inl room ↦ rw (kept_of-short line (omega arith), kept_of-short (line ++ b ∷ []) (omega arith))
          (pushed-room line b room)
      | inr full ↦ elim (cases_lt 8192 (length line)) [
        | inl long ↦ rw (kept_of-long line long, kept_of-long (line ++ b ∷ []) (omega arith)) (pushed-none b)
        | inr short ↦ rw (kept_of-short line short, kept_of-long (line ++ b ∷ []) (omega arith))
            (pushed-full line b full)
      ]
    ]

appended-kept_of : (line bytes : List ℕ) → appended (kept_of line) bytes ≡ kept_of (line ++ bytes)
unfolding appended
appended-kept_of line [] = ap kept_of (sym (append-nil line))
appended-kept_of line (b ∷ bs) =
    ap (λ k. appended k bs) (pushed-kept_of line b) ∙ appended-kept_of (line ++ b ∷ []) bs
    ∙ ap kept_of (append_assoc line (b ∷ []) bs)

appended-some : (line bytes : List ℕ) → length line ≤ 8192 → appended (Some line) bytes ≡ kept_of (line ++ bytes)
appended-some line bytes fits = ap (λ k. appended k bytes) (sym (kept_of-short line fits)) ∙ appended-kept_of line bytes

-- bytes for which there is room
pub appended_short : (line bytes : List ℕ) → length line + length bytes ≤ 8192
    → appended (Some line) bytes ≡ Some (line ++ bytes)
appended_short line bytes fits =
    let len = length-append line bytes in
    appended-some line bytes (omega arith) ∙ kept_of-short (line ++ bytes) (omega arith)

-- bytes for which there is none
pub appended_long : (line bytes : List ℕ) → length line ≤ 8192 → (length line + length bytes ≤ 8192 → ⊥)
    → appended (Some line) bytes ≡ None
appended_long line bytes fits full =
    let len = length-append line bytes in
    let long : 8192 < length line + length bytes =
    elim (cases_lt 8192 (length line + length bytes)) [ inl h ↦ h | inr h ↦ absurd (full h) ] in
    appended-some line bytes fits ∙ kept_of-long (line ++ bytes) (omega arith)

pub appended_none : (bytes : List ℕ) → appended None bytes ≡ None
unfolding appended
appended_none [] = refl
appended_none (b ∷ bs) = ap (λ k. appended k bs) (pushed-none b) ∙ appended_none bs

-- bytes after an unfinished line, whether there is room for them or not
pub ruleset appending = (appended_short, appended_long, appended_none)

-- ---- bytes that end no line

pub NoEnd : List ℕ → Type 0
NoEnd [] = ⊤
NoEnd (b ∷ bs) = (eqb b 10 ≡ false) × NoEnd bs

-- bytes before the first that ends a line
pub NoEnd-take : (bs : List ℕ) (k : ℕ) → ((i : ℕ) → i < k → ¬ (eqb (get_or bs i 0) 10 ≡ true)) → NoEnd (take k bs)
unfolding NoEnd
NoEnd-take bs zero none = tt
NoEnd-take [] (suc k) none = tt
NoEnd-take (b ∷ bs) (suc k) none = (
  elim (either (eqb b 10)) [ inl e ↦ absurd (none 0 (omega arith) e) | inr e ↦ e ],
  NoEnd-take bs k (λ i below. none (suc i) (omega arith)),
)

pub line_after-inside : (kept : Option (List ℕ)) (bs : List ℕ) → NoEnd bs → line_after kept bs ≡ appended kept bs
unfolding line_after appended NoEnd
line_after-inside kept [] none = refl
line_after-inside kept (b ∷ bs) none =
    ap (λ k. line_after k bs) (stepped-inside kept b none.0) ∙ line_after-inside (pushed kept b) bs none.1

-- a line end leaves an empty line
pub line_after-line : (kept : Option (List ℕ)) (bs : List ℕ) (b : ℕ) → eqb b 10 ≡ true
    → line_after kept (bs ++ b ∷ []) ≡ Some []
line_after-line kept bs b at_end =
    line_after-append kept bs (b ∷ []) ∙ line_after-one (line_after kept bs) b
    ∙ stepped-end (line_after kept bs) b at_end

-- ---- a line begun before the others

-- the lines, with some bytes before the first of them
abbrev onto : List ℕ → List (List ℕ) → List (List ℕ)
onto [] [] = []
onto (x ∷ xs) [] = (x ∷ xs) ∷ []
onto front (l ∷ ls) = (front ++ l) ∷ ls

onto-none : (ls : List (List ℕ)) → onto [] ls ≡ ls
onto-none [] = refl
onto-none (l ∷ ls) = refl

onto-some : (front l : List ℕ) (ls : List (List ℕ)) → onto front (l ∷ ls) ≡ (front ++ l) ∷ ls
onto-some [] l ls = refl
onto-some (x ∷ xs) l ls = refl

onto-push : (front : List ℕ) (b : ℕ) → onto (front ++ b ∷ []) [] ≡ (front ++ b ∷ []) ∷ []
onto-push [] b = refl
onto-push (x ∷ xs) b = refl

onto-onto_first : (front : List ℕ) (b : ℕ) (ls : List (List ℕ))
    → onto front (onto_first b ls) ≡ onto (front ++ b ∷ []) ls
onto-onto_first front b [] = onto-some front (b ∷ []) [] ∙ sym (onto-push front b)
onto-onto_first front b (l ∷ ls) =
    onto-some front (b ∷ l) ls
    ∙ ap (λ t. t ∷ ls) (sym (append_assoc front (b ∷ []) l))
    ∙ sym (onto-some (front ++ b ∷ []) l ls)

-- ---- the lines that end, and the one that is begun then

-- the lines that bytes end, of which the first is begun already
pub ended_lines : List ℕ → List ℕ → List (List ℕ)
ended_lines begun [] = []
ended_lines begun (b ∷ bs) = cond (eqb b 10) (begun ∷ ended_lines [] bs) (ended_lines (begun ++ b ∷ []) bs)

-- the line that is begun after them
pub begun_line : List ℕ → List ℕ → List ℕ
begun_line begun [] = begun
begun_line begun (b ∷ bs) = cond (eqb b 10) (begun_line [] bs) (begun_line (begun ++ b ∷ []) bs)

ended_lines-end : (begun : List ℕ) (b : ℕ) (bs : List ℕ) → eqb b 10 ≡ true
    → ended_lines begun (b ∷ bs) ≡ begun ∷ ended_lines [] bs
unfolding ended_lines
ended_lines-end begun b bs e = ap (λ (t : Bool). cond t (begun ∷ ended_lines [] bs) (ended_lines (begun ++ b ∷ []) bs))
    e

ended_lines-inside : (begun : List ℕ) (b : ℕ) (bs : List ℕ) → eqb b 10 ≡ false
    → ended_lines begun (b ∷ bs) ≡ ended_lines (begun ++ b ∷ []) bs
unfolding ended_lines
ended_lines-inside begun b bs e = ap (λ (t : Bool). cond t (begun ∷ ended_lines [] bs)
    (ended_lines (begun ++ b ∷ []) bs)) e

begun_line-end : (begun : List ℕ) (b : ℕ) (bs : List ℕ) → eqb b 10 ≡ true → begun_line begun (b ∷ bs) ≡ begun_line [] bs
unfolding begun_line
begun_line-end begun b bs e = ap (λ (t : Bool). cond t (begun_line [] bs) (begun_line (begun ++ b ∷ []) bs)) e

begun_line-inside : (begun : List ℕ) (b : ℕ) (bs : List ℕ) → eqb b 10 ≡ false
    → begun_line begun (b ∷ bs) ≡ begun_line (begun ++ b ∷ []) bs
unfolding begun_line
begun_line-inside begun b bs e = ap (λ (t : Bool). cond t (begun_line [] bs) (begun_line (begun ++ b ∷ []) bs)) e

-- all lines are those that a front ends, and then those of the rest, of which the first is begun
lines-from : (begun front rest : List ℕ)
    → onto begun (lines (front ++ rest)) ≡ ended_lines begun front ++ onto (begun_line begun front) (lines rest)
unfolding ended_lines begun_line
lines-from begun [] rest = refl
lines-from begun (b ∷ front) rest = elim (either (eqb b 10)) [
  | inl e ↦
      ap (onto begun) (lines-end b (front ++ rest) e)
      ∙ onto-some begun [] (lines (front ++ rest))
      ∙ ap (λ l. l ∷ lines (front ++ rest)) (append-nil begun)
      ∙ ap (λ ls. begun ∷ ls) (sym (onto-none (lines (front ++ rest))) ∙ lines-from [] front rest)
      ∙ sym (ap (λ ls. ls ++ onto (begun_line begun (b ∷ front)) (lines rest)) (ended_lines-end begun b front e)
      ∙ ap (λ l. (begun ∷ ended_lines [] front) ++ onto l (lines rest)) (begun_line-end begun b front e))
  | inr e ↦
      ap (onto begun) (lines-inside b (front ++ rest) e)
      ∙ onto-onto_first begun b (lines (front ++ rest))
      ∙ lines-from (begun ++ b ∷ []) front rest
      ∙ sym (ap (λ ls. ls ++ onto (begun_line begun (b ∷ front)) (lines rest)) (ended_lines-inside begun b front e)
      ∙ ap (λ l. ended_lines (begun ++ b ∷ []) front ++ onto l (lines rest)) (begun_line-inside begun b front e))
]

-- what is kept of the line that is begun
kept-begun : (begun front : List ℕ) → line_after (kept_of begun) front ≡ kept_of (begun_line begun front)
unfolding line_after begun_line
kept-begun begun [] = refl
kept-begun begun (b ∷ front) = elim (either (eqb b 10)) [
  | inl e ↦
      ap (λ k. line_after k front) (stepped-end (kept_of begun) b e)
      ∙ kept-begun [] front
      ∙ ap kept_of (sym (begun_line-end begun b front e))
  | inr e ↦
      ap (λ k. line_after k front) (stepped-inside (kept_of begun) b e ∙ pushed-kept_of begun b)
      ∙ kept-begun (begun ++ b ∷ []) front
      ∙ ap kept_of (sym (begun_line-inside begun b front e))
]

-- a line that is kept is whole
IsSomeAnd-kept_of : (line : List ℕ) (P : List ℕ → Type 0) → IsSomeAnd (kept_of line) P → P line
IsSomeAnd-kept_of line P h = elim (cases_lt 8192 (length line)) [
  | inl long ↦ absurd (subst (λ k. IsSomeAnd k P) (kept_of-long line long) h)
  | inr short ↦ subst (λ k. IsSomeAnd k P) (kept_of-short line short) h
]

-- the line that a byte 10 ends, among all lines
pub lines-ended : (front rest : List ℕ) → lines (front ++ 10 ∷ rest)
    ≡ ended_lines [] front ++ begun_line [] front ∷ lines rest
lines-ended front rest =
    sym (onto-none (lines (front ++ 10 ∷ rest)))
    ∙ lines-from [] front (10 ∷ rest)
    ∙ ap (λ ls. ended_lines [] front ++ onto (begun_line [] front) ls) (lines-end 10 rest refl)
    ∙ ap (λ ls. ended_lines [] front ++ ls) (onto-some (begun_line [] front) [] (lines rest))
    ∙ ap (λ l. ended_lines [] front ++ l ∷ lines rest) (append-nil (begun_line [] front))

onto-nil : (line : List ℕ) → (line ≡ [] → ⊥) → onto line [] ≡ line ∷ []
onto-nil [] some = absurd (some refl)
onto-nil (b ∷ bs) some = refl

-- the last line, which has no end, among all lines
pub lines-last : (bytes : List ℕ) → (line_after (Some []) bytes ≡ Some [] → ⊥)
    → lines bytes ≡ ended_lines [] bytes ++ begun_line [] bytes ∷ []
unfolding lines
lines-last bytes some =
    ap lines (sym (append-nil bytes))
    ∙ sym (onto-none (lines (bytes ++ [])))
    ∙ lines-from [] bytes []
    ∙ ap (λ ls. ended_lines [] bytes ++ ls)
    (onto-nil (begun_line [] bytes) (λ none. some (kept-begun [] bytes ∙ ap kept_of none)))

-- what holds of the line that is kept holds of the line that is begun
pub begun-is : (bytes : List ℕ) (P : List ℕ → Type 0) → IsSomeAnd (line_after (Some []) bytes) P
    → P (begun_line [] bytes)
begun-is bytes P h = IsSomeAnd-kept_of (begun_line [] bytes) P (subst (λ k. IsSomeAnd k P) (kept-begun [] bytes) h)

-- every line that is too long gives the same
pub record SameForLong (f : List ℕ → List ℕ) : Type 0 where
  pub same : (line : List ℕ) → 8192 < length line → f line ≡ long_line

module _ (f : List ℕ → List ℕ) where
  pub ended-append : (kept : Option (List ℕ)) (a b : List ℕ)
      → ended f kept (a ++ b) ≡ ended f kept a ++ ended f (line_after kept a) b
  unfolding ended line_after
  ended-append kept [] b = refl
  ended-append kept (x ∷ a) b =
      ap (λ t. ended_at f kept x ++ t) (ended-append (stepped kept x) a b)
      ∙ sym (append_assoc (ended_at f kept x) (ended f (stepped kept x) a) (ended f (line_after (stepped kept x) a) b))

  pub ended-one : (kept : Option (List ℕ)) (b : ℕ) → ended f kept (b ∷ []) ≡ ended_at f kept b
  unfolding ended
  ended-one kept b = append-nil (ended_at f kept b)

  ended_at-end : (kept : Option (List ℕ)) (b : ℕ) → eqb b 10 ≡ true → ended_at f kept b ≡ kept_report f kept
  unfolding ended_at
  ended_at-end kept b e = ap (λ (t : Bool). cond t (kept_report f kept) []) e

  ended_at-inside : (kept : Option (List ℕ)) (b : ℕ) → eqb b 10 ≡ false → ended_at f kept b ≡ []
  unfolding ended_at
  ended_at-inside kept b e = ap (λ (t : Bool). cond t (kept_report f kept) []) e

  -- bytes that end no line give nothing
  pub ended-inside : (kept : Option (List ℕ)) (bs : List ℕ) → NoEnd bs → ended f kept bs ≡ []
  unfolding ended NoEnd
  ended-inside kept [] none = refl
  ended-inside kept (b ∷ bs) none =
      ap (λ t. t ++ ended f (stepped kept b) bs) (ended_at-inside kept b none.0)
      ∙ ended-inside (stepped kept b) bs none.1

  -- bytes that end one line give what that line does
  pub ended-line : (kept : Option (List ℕ)) (bs : List ℕ) (b : ℕ) → NoEnd bs → eqb b 10 ≡ true
      → ended f kept (bs ++ b ∷ []) ≡ kept_report f (appended kept bs)
  ended-line kept bs b none at_end =
      ended-append kept bs (b ∷ [])
      ∙ ap (λ t. t ++ ended f (line_after kept bs) (b ∷ [])) (ended-inside kept bs none)
      ∙ ended-one (line_after kept bs) b
      ∙ ended_at-end (line_after kept bs) b at_end
      ∙ ap (kept_report f) (line_after-inside kept bs none)

  -- nothing is left, or a line
  pub last-empty : (kept : Option (List ℕ)) → kept ≡ Some [] → last f kept ≡ []
  unfolding last
  last-empty kept e = ap (last f) e

  pub last-some : (kept : Option (List ℕ)) → (kept ≡ Some [] → ⊥) → last f kept ≡ kept_report f kept
  unfolding last
  last-some None h = refl
  last-some (Some []) h = absurd (h refl)
  last-some (Some (x ∷ xs)) h = refl

  -- bytes up to their last line end have the same ended lines
  ended-onto_whole : (kept : Option (List ℕ)) (b : ℕ) (front bs : List ℕ)
      → ended f (stepped kept b) front ≡ ended f (stepped kept b) bs
      → ended f kept (onto_whole b front) ≡ ended_at f kept b ++ ended f (stepped kept b) bs
  unfolding ended
  ended-onto_whole kept b [] bs h = elim (either (eqb b 10)) [
    | inl e ↦ ap (ended f kept) (onto_whole-end b e) ∙ ap (λ t. ended_at f kept b ++ t) h
    | inr e ↦ ap (ended f kept) (onto_whole-inside b e) ∙ h
        ∙ ap (λ t. t ++ ended f (stepped kept b) bs) (sym (ended_at-inside kept b e))
  ]
  ended-onto_whole kept b (c ∷ cs) bs h = ap (λ t. ended_at f kept b ++ t) h

  pub ended-whole : (kept : Option (List ℕ)) (bs : List ℕ) → ended f kept (whole bs) ≡ ended f kept bs
  unfolding ended whole
  ended-whole kept [] = refl
  ended-whole kept (b ∷ bs) = ended-onto_whole kept b (whole bs) bs (ended-whole (stepped kept b) bs)

  module _ (long : SameForLong f) where
    kept_report-kept_of : (line : List ℕ) → kept_report f (kept_of line) ≡ f line
    kept_report-kept_of line =
        elim (cases_lt 8192 (length line)) [
          | inl h ↦ rw (kept_of-long line h) (sym (long.same line h))
          | inr h ↦ rw (kept_of-short line h) refl
        ]

    -- what the lines give that bytes end
    ended_lines-from : (begun bytes : List ℕ) → flat_map f (ended_lines begun bytes) ≡ ended f (kept_of begun) bytes
    unfolding ended_lines ended
    ended_lines-from begun [] = refl
    ended_lines-from begun (b ∷ bs) = elim (either (eqb b 10)) [
      | inl e ↦
          ap (flat_map f) (ended_lines-end begun b bs e)
          ∙ ap (λ t. f begun ++ t) (ended_lines-from [] bs)
          ∙ sym (ap (λ t. t ++ ended f (stepped (kept_of begun) b) bs)
          (ended_at-end (kept_of begun) b e ∙ kept_report-kept_of begun)
          ∙ ap (λ k. f begun ++ ended f k bs) (stepped-end (kept_of begun) b e))
      | inr e ↦
          ap (flat_map f) (ended_lines-inside begun b bs e)
          ∙ ended_lines-from (begun ++ b ∷ []) bs
          ∙ sym (ap (λ t. t ++ ended f (stepped (kept_of begun) b) bs) (ended_at-inside (kept_of begun) b e)
          ∙ ap (λ k. ended f k bs) (stepped-inside (kept_of begun) b e ∙ pushed-kept_of begun b))
    ]

    pub output-ended_lines : (bytes : List ℕ) → flat_map f (ended_lines [] bytes) ≡ ended f (Some []) bytes
    output-ended_lines bytes = ended_lines-from [] bytes

    -- what is left at the end of the bytes is a line, unless it is empty
    last-kept_of : (line : List ℕ) → flat_map f (onto line []) ≡ last f (kept_of line)
    unfolding last
    last-kept_of [] = refl
    last-kept_of (x ∷ xs) =
        append-nil (f (x ∷ xs))
        ∙ elim (cases_lt 8192 (length (x ∷ xs))) [
          | inl h ↦ long.same (x ∷ xs) h ∙ ap (last f) (sym (kept_of-long (x ∷ xs) h))
          | inr h ↦ ap (last f) (sym (kept_of-short (x ∷ xs) h))
        ]

    -- what more bytes give on a line that is kept so
    abbrev from_kept : Option (List ℕ) → List ℕ → List ℕ
    from_kept kept bs = ended f kept bs ++ last f (line_after kept bs)

    from_kept-step : (kept : Option (List ℕ)) (b : ℕ) (bs : List ℕ)
        → from_kept kept (b ∷ bs) ≡ ended_at f kept b ++ from_kept (stepped kept b) bs
    unfolding ended line_after
    from_kept-step kept b bs = append_assoc (ended_at f kept b) (ended f (stepped kept b) bs)
        (last f (line_after (stepped kept b) bs))

    output-end : (line : List ℕ) (b : ℕ) (bs : List ℕ) → eqb b 10 ≡ true
        → flat_map f (onto line (lines (b ∷ bs))) ≡ f line ++ flat_map f (lines bs)
    output-end line b bs e =
        ap (λ ls. flat_map f (onto line ls)) (lines-end b bs e)
        ∙ ap (flat_map f) (onto-some line [] (lines bs))
        ∙ ap (λ l. f l ++ flat_map f (lines bs)) (append-nil line)

    from_kept-end : (line : List ℕ) (b : ℕ) (bs : List ℕ) → eqb b 10 ≡ true
        → from_kept (kept_of line) (b ∷ bs) ≡ f line ++ from_kept (Some []) bs
    from_kept-end line b bs e =
        from_kept-step (kept_of line) b bs
        ∙ ap (λ k. ended_at f (kept_of line) b ++ from_kept k bs) (stepped-end (kept_of line) b e)
        ∙ ap (λ t. t ++ from_kept (Some []) bs) (ended_at-end (kept_of line) b e ∙ kept_report-kept_of line)

    output-inside : (line : List ℕ) (b : ℕ) (bs : List ℕ) → eqb b 10 ≡ false
        → flat_map f (onto line (lines (b ∷ bs))) ≡ flat_map f (onto (line ++ b ∷ []) (lines bs))
    output-inside line b bs e =
        ap (λ ls. flat_map f (onto line ls)) (lines-inside b bs e)
        ∙ ap (flat_map f) (onto-onto_first line b (lines bs))

    from_kept-inside : (line : List ℕ) (b : ℕ) (bs : List ℕ) → eqb b 10 ≡ false
        → from_kept (kept_of line) (b ∷ bs) ≡ from_kept (kept_of (line ++ b ∷ [])) bs
    from_kept-inside line b bs e =
        from_kept-step (kept_of line) b bs
        ∙ ap (λ t. t ++ from_kept (stepped (kept_of line) b) bs) (ended_at-inside (kept_of line) b e)
        ∙ ap (λ k. from_kept k bs) (stepped-inside (kept_of line) b e ∙ pushed-kept_of line b)

    -- what the lines of all bytes give, the first of them begun already
    output-from : (line bs : List ℕ) → flat_map f (onto line (lines bs)) ≡ from_kept (kept_of line) bs
    unfolding ended line_after lines
    output-from line [] = last-kept_of line
    output-from line (b ∷ bs) =
        elim (either (eqb b 10)) [
          | inl e ↦
              output-end line b bs e
              ∙ ap (λ t. f line ++ t) (ap (flat_map f) (sym (onto-none (lines bs))) ∙ output-from [] bs)
              ∙ sym (from_kept-end line b bs e)
          | inr e ↦
              output-inside line b bs e
              ∙ output-from (line ++ b ∷ []) bs
              ∙ sym (from_kept-inside line b bs e)
        ]

    -- what the lines give that bytes end, and then their last line
    pub output-ended : (bs : List ℕ) → flat_map f (lines bs) ≡ ended f (Some []) bs ++ last f (line_after (Some []) bs)
    output-ended bs = ap (flat_map f) (sym (onto-none (lines bs))) ∙ output-from [] bs

    -- up to their last line end, bytes give what their ended lines give
    pub output-whole : (bs : List ℕ) → flat_map f (lines (whole bs)) ≡ ended f (Some []) bs
    unfolding last
    output-whole bs =
        output-ended (whole bs)
        ∙ ap (λ k. ended f (Some []) (whole bs) ++ last f k) (line_after-whole bs)
        ∙ append-nil (ended f (Some []) (whole bs))
        ∙ ended-whole (Some []) bs
