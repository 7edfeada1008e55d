-- Bytes that count up, the machine at the start of a line, and the lines of what a run changes.
use Rattle.std.proofs.Common.{◌≡◌, ℕ, ◌+◌, ◌-◌, ◌*◌, ◌%◌, ◌<◌, ◌≤◌, Bool, true, false, List, [], ◌∷◌, ◌++◌, length}
use Rattle.std.proofs.Common.{get_or, take, drop, map, zero, suc, ap, sym, ◌∙◌, refl, arith, slice_set, append_assoc}
use Rattle.std.specs.Prelude.{bytes_eq, codes, decimal, flat_map, slice_index_or, if◌then◌else◌, Result, Ok, Err}
use Rattle.std.specs.Io.KnownBytes.{Appends}
use Rattle.std.specs.List.{range_with_len}
use Rattle.std.specs.Simd.Lanes.{chunk}
use Rattle.std.proofs.Math.Seq.{set-append_seam, take-length, drop-length}
use Rattle.std.proofs.lemmas.List.{append-nil, drop_more}
use Rattle.std.proofs.lemmas.List.FromFn.{get_or-range_with_len, length-range_with_len, length-map-range_with_len}
use Rattle.std.proofs.lemmas.List.FromFn.{map-range_with_len_more, take-map-range_with_len}
use Rattle.hex.specs.Hex.{encode_lower}
use Rattle.vex_emul.specs.Machine.{State, start_of}
use Rattle.vex_emul.specs.Run.{ran}
use Rattle.vex_emul.specs.declared.run.Halt.{Halt}
use Rattle.vex_lines.specs.Ends.{AppendsFront, RoseOrIsLast, Writes}
use Rattle.vex_lines.proofs.EndsLemmas.{Writes-all, Writes-fault}
use Rattle.vex_lines.proofs.FeedLemmas.{Told}
use Rattle.vex_lines.proofs.WrittenLines.{Wrote, Wrote-fault, Wrote-step, split-item, take-item}
use Rattle.vex_lines.specs.EmulateLines.{block_line, block_lines, changed_line, counting, emulate_lines, numbers}
use Rattle.vex_lines.specs.EmulateLines.{outcome_lines, ran_line, start, start_memory, start_vector, vector_line}
use Rattle.vex_lines.specs.EmulateLines.{vector_lines}

-- ---- bytes that count up

pub length-counting : (first n : ℕ) → length (counting first n) ≡ n
unfolding counting
length-counting first n = length-map-range_with_len (λ k. k % 256) first n

pub counting-none : (first : ℕ) → counting first 0 ≡ []
unfolding counting
counting-none first = refl

counting-more : (first n : ℕ) → counting first (n + 1) ≡ counting first n ++ (first + n) % 256 ∷ []
unfolding counting
counting-more first n = map-range_with_len_more (λ k. k % 256) first n (first + n) refl

set-seam : {A : Type 0} (xs : List A) (y : A) (ys : List A) (i : ℕ) (a : A) → length xs ≡ i
    → slice_set (xs ++ y ∷ ys) i a ≡ xs ++ a ∷ ys
set-seam xs y ys i a is = ap (λ n. slice_set (xs ++ y ∷ ys) n a) (sym is) ∙ set-append_seam xs y ys a

-- a byte more
pub counted : (first i : ℕ) (bytes initial : List ℕ) → i < length initial → bytes ≡ counting first i ++ drop i initial
    → slice_set bytes i ((first + i) % 256) ≡ counting first (i + 1) ++ drop (i + 1) initial
counted first i bytes initial below is =
    let next = (first + i) % 256 in
    ap (λ bs. slice_set bs i next) (is ∙ ap (λ t. counting first i ++ t) (drop_more initial i 0 below))
    ∙ set-seam (counting first i) (get_or initial i 0) (drop (i + 1) initial) i next (length-counting first i)
    ∙ sym (append_assoc (counting first i) (next ∷ []) (drop (i + 1) initial))
    ∙ ap (λ t. t ++ drop (i + 1) initial) (sym (counting-more first i))

pub counted-all : (first i : ℕ) (bytes initial : List ℕ) → bytes ≡ counting first i ++ drop i initial
    → i ≡ length initial
    → bytes ≡ counting first (length initial)
counted-all first i bytes initial is ended =
    is
    ∙ ap (λ n. counting first n ++ drop n initial) ended
    ∙ ap (λ t. counting first (length initial) ++ t) (drop-length initial)
    ∙ append-nil (counting first (length initial))

drop-range : (f : ℕ → ℕ) (a b n : ℕ) → drop b (map f (range_with_len a (b + n))) ≡ map f (range_with_len (a + b) n)
drop-range f a zero n =
    let all : 0 + n ≡ n = omega arith in
    let same : a ≡ a + 0 = omega arith in
    ap (λ m. map f (range_with_len a m)) all ∙ ap (λ c. map f (range_with_len c n)) same
drop-range f a (suc b) n =
    let more : suc b + n ≡ suc (b + n) = omega arith in
    let same : a + 1 + b ≡ a + suc b = omega arith in
    ap (λ m. drop (suc b) (map f (range_with_len a m))) more
    ∙ drop-range f (a + 1) b n
    ∙ ap (λ c. map f (range_with_len c n)) same

-- a block of bytes that count up does too
pub chunk-counting : (place n all : ℕ) → place + n ≤ all → chunk place n (counting 0 all) ≡ counting place n
unfolding counting
chunk-counting place n all h =
    let rest : all ≡ place + (all - place) = omega (arith, h) in
    let same : 0 + place ≡ place = omega arith in
    ap (λ m. take n (drop place (map (λ k. k % 256) (range_with_len 0 m)))) rest
    ∙ ap (take n) (drop-range (λ k. k % 256) 0 place (all - place))
    ∙ take-map-range_with_len (λ k. k % 256) (0 + place) (all - place) n (omega (arith, h))
    ∙ ap (λ a. map (λ k. k % 256) (range_with_len a n)) same

-- ---- the machine at the start

-- the state with one more register of each kind set
abbrev set_up : State → ℕ → State
set_up s i = record {
  vectors = slice_set s.vectors i (start_vector i);
  q = slice_set s.q i (32 * i);
  memory =
      s.memory;
}

-- the state with so many registers of each kind set
pub started : ℕ → State
started zero = start_of start_memory
started (suc i) = set_up (started i) i

-- no register is set yet, and the memory counts up
pub started-none : (reset : State) (memory filled : List ℕ) → reset ≡ start_of memory → filled ≡ start_memory
    → record reset { memory = filled } ≡ started 0
unfolding started
started-none reset memory filled is counts =
    ap (λ (s : State). record s { memory = filled }) is ∙ ap start_of counts

pub started-more : (i : ℕ) (old mid new : State) (vector : List ℕ) (m : ℕ) → old ≡ started i
    → vector ≡ start_vector i → m ≡ i
    → mid ≡ record old { vectors = slice_set old.vectors i vector }
    → new ≡ record mid { q = slice_set mid.q i (32 * m) } → new ≡ started (i + 1)
unfolding started
started-more i old mid new vector m is counts also one two =
    let more : suc i ≡ i + 1 = omega arith in
    two
    ∙ ap (λ (k : ℕ). record mid { q = slice_set mid.q i (32 * k) }) also
    ∙ ap (λ (s : State). record s { q = slice_set s.q i (32 * i) }) one
    ∙ ap (λ (v : List ℕ). record old { vectors = slice_set old.vectors i v; q = slice_set old.q i (32 * i) }) counts
    ∙ ap (λ (s : State). set_up s i) is
    ∙ ap started more

pub started-all : started 16 ≡ start
unfolding started start numbers
started-all = refl

-- a run from the start leaves as much memory
pub started-room : (begun left : State) → begun ≡ start → length left.memory ≡ length begun.memory
    → length left.memory ≡ 1024
unfolding start
started-room begun left is room = room ∙ ap (λ (s : State). length s.memory) is ∙ length-counting 0 1024

-- ---- the lines

count-numbers : (n : ℕ) → length (numbers n) ≡ n
unfolding numbers
count-numbers n = length-range_with_len 0 n

-- the number at a place is the place
number-at : (n i : ℕ) → i < n → i ≡ get_or (numbers n) i i
unfolding numbers
number-at n i h = let same : 0 + i ≡ i = omega arith in sym (get_or-range_with_len 0 n i i h ∙ same)

take-numbers : (n i : ℕ) → i ≡ n → take i (numbers n) ≡ numbers n
take-numbers n i ended = ap (λ m. take m (numbers n)) (ended ∙ sym (count-numbers n)) ∙ take-length (numbers n)

-- a loop writes a line for each number below n, and has come to i
module _ (line : ℕ → List ℕ) (n i : ℕ) (first now : Told) (wrote : Wrote line (take i (numbers n)) first now) where
  -- it writes the line of i
  pub number-written : (new : Told) → i < n → Appends now.text new.text (line i) → new.faults ≡ now.faults
      → Wrote line (take (i + 1) (numbers n)) first new
  number-written new below written quiet =
      let within : i < length (numbers n) = omega (arith, below, count-numbers n) in
      rw (take-item (numbers n) i i within (number-at n i below))
      (Wrote-step line (take i (numbers n)) i first now new wrote written quiet)

  -- the write of the line of i fails
  pub number-fault : {T E : Type 0} (result : Result T E) (e : E) (new : Told) → result ≡ Err e → i < n
      → AppendsFront now.text new.text (line i) → RoseOrIsLast now.faults new.faults
      → Writes result first.text new.text first.faults new.faults (flat_map line (numbers n))
  number-fault result e new is below front cause =
      let within : i < length (numbers n) = omega (arith, below, count-numbers n) in
      let split = split-item (numbers n) i i within (number-at n i below) in
      let rest = drop (i + 1) (numbers n) in
      Writes-fault result e _ _ _ _ _ is
      (Wrote-fault line (numbers n) (take i (numbers n)) rest i first now new.text wrote split front)
      (rw wrote.quiet at cause)

  -- it ends
  pub numbers-written : {T E : Type 0} (result : Result T E) (x : T) → result ≡ Ok x → n ≤ i → i ≤ n
      → Writes result first.text now.text first.faults now.faults (flat_map line (numbers n))
  numbers-written result x is over within =
      let ended : i ≡ n = omega (arith, over, within) in
      Writes-all result x _ _ _ _ _ is (rw (take-numbers n i ended) at wrote.written) wrote.quiet

pub changed-not : (letter : List ℕ) (number : ℕ) (bytes first : List ℕ) → bytes_eq bytes first ≡ true
    → changed_line letter number bytes first ≡ []
unfolding changed_line
changed-not letter number bytes first e =
    ap (λ (b : Bool). if b then [] else letter ++ decimal number ++ codes " " ++ encode_lower bytes ++ codes "\n") e

pub changed : (letter : List ℕ) (number : ℕ) (bytes first : List ℕ) → bytes_eq bytes first ≡ false
    → changed_line letter number bytes first ≡ letter ++ decimal number ++ codes " " ++ encode_lower bytes ++ codes "\n"
unfolding changed_line
changed letter number bytes first e =
    ap (λ (b : Bool). if b then [] else letter ++ decimal number ++ codes " " ++ encode_lower bytes ++ codes "\n") e

-- the line of a vector and of a block, by what the code compares
pub vector-is : (vectors : List (List ℕ)) (i number : ℕ) (bytes first : List ℕ) → number ≡ i
    → bytes ≡ slice_index_or vectors i []
    → first ≡ start_vector i → changed_line (codes "y") number bytes first ≡ vector_line vectors i
vector-is vectors i number bytes first same these start =
    ap (λ f. changed_line (codes "y") number bytes f) start
    ∙ ap (λ n. changed_line (codes "y") n bytes (start_vector i)) same
    ∙ ap (λ bs. changed_line (codes "y") i bs (start_vector i)) these

pub block-is : (memory : List ℕ) (b : ℕ) (bytes first : List ℕ) → b < 32 → bytes ≡ chunk (32 * b) 32 memory
    → first ≡ counting (32 * b) 32 → changed_line (codes "m") (32 * b) bytes first ≡ block_line memory b
block-is memory b bytes first below these start =
    ap (λ f. changed_line (codes "m") (32 * b) bytes f)
    (start ∙ sym (chunk-counting (32 * b) 32 1024 (omega (arith, below))))
    ∙ ap (λ bs. changed_line (codes "m") (32 * b) bs (chunk (32 * b) 32 start_memory)) these

-- all lines of a run
pub emulated : (settings : List Bool) (code : List ℕ) (state kept : State) (result : Result ℕ Halt)
    → ran settings start code ≡ (state, result) → kept ≡ state
    → emulate_lines settings code ≡ vector_lines kept.vectors ++ block_lines kept.memory ++ ran_line result
unfolding emulate_lines
emulated settings code state kept result is same =
    ap outcome_lines is ∙ ap (λ (s : State). outcome_lines (s, result)) (sym same)
