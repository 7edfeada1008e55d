-- The same bytes as lanes of k bytes, and back: what a vector's change of lanes computes is `lanes` and `bytes_of`.
use Rattle.std.proofs.Common.{◌≡◌, refl, sym, ◌∙◌, ap, subst, ℕ, zero, suc, ◌+◌, ◌*◌, ◌-◌, ◌/◌, ◌%◌, ◌^◌, ◌<◌, List, []}
use Rattle.std.proofs.Common.{◌∷◌, ◌++◌, length, take, drop, arith, Bool, true, false, cond, eqb, map}
use Rattle.std.proofs.Math.Nat.{pow-zero, pow-suc, mul_comm, mul_assoc, mul-suc, mul-zero, mod-eq_of_lt, div-eq_of_lt}
use Rattle.std.proofs.Math.Nat.{one-le-pow, add-mul-div_left, add-mul-mod_self_left, mod-lt, add-zero}
use Rattle.std.specs.Simd.Lanes.{zip2, Each1, number_l, digits_l, top, sel_l}
use Rattle.std.specs.Int.{w8}
use mir.Val.{Fits}
use Rattle.std.specs.Prelude.{replicate}
use Rattle.std.proofs.lemmas.Simd.{Each1-zip2, Each2-all, length-zip2, below_from_Fits}
use Rattle.vex_emul.specs.Lanes.{size_of_lane, lanes, bytes_of, lane_wise, by_lanes, sum_in, difference_in, equality_in}
use Rattle.vex_emul.specs.declared.operation.Lane.{Lane}
use Rattle.vex_emul.specs.declared.operation.Lane.TheVariants.{Byte}

-- a lane below p, and what follows it
parted : (p x r : ℕ) → x < p → ((x + p * r) % p ≡ x) × ((x + p * r) / p ≡ r)
parted p x r lt = (
  add-mul-mod_self_left x p r ∙ mod-eq_of_lt lt,
  omega (arith, add-mul-div_left x r {y = p} (omega arith), div-eq_of_lt lt),
)

below-drop : (m : ℕ) (xs : List ℕ) → Each1 (λ x. x < 256) xs → Each1 (λ x. x < 256) (drop m xs)
below-drop zero xs h = h
below-drop (suc m) [] h = tt
below-drop (suc m) (x ∷ xs) h = below-drop m xs h.1

-- k digits of 256, and what they spell
number-joined : (m : ℕ) (xs : List ℕ) → number_l 256 xs ≡ number_l 256 (take m xs) + 256 ^ m * number_l 256 (drop m xs)
number-joined zero xs = omega (arith, ap (λ p. p * number_l 256 xs) (pow-zero 256))
number-joined (suc m) [] = omega (arith, mul-zero (256 ^ suc m))
number-joined (suc m) (x ∷ xs) =
    let t = number_l 256 (take m xs) in
    let d = number_l 256 (drop m xs) in
    let moved : 256 ^ suc m * d ≡ 256 * (256 ^ m * d) =
    ap (λ p. p * d) (pow-suc 256 m ∙ mul_comm (256 ^ m) 256) ∙ mul_assoc 256 (256 ^ m) d in
    ap (λ n. x + 256 * n) (number-joined m xs) ∙ omega (arith, moved)

number-below : (m : ℕ) (xs : List ℕ) → Each1 (λ x. x < 256) xs → number_l 256 (take m xs) < 256 ^ m
number-below zero xs h = omega (arith, pow-zero 256)
number-below (suc m) [] h = omega (arith, one-le-pow (suc m) 256 (omega arith))
number-below (suc m) (x ∷ xs) h = omega (arith, number-below m xs h.1, pow-suc 256 m, h.0)

number-split : (m : ℕ) (xs : List ℕ) → Each1 (λ x. x < 256) xs
    → (number_l 256 xs % 256 ^ m ≡ number_l 256 (take m xs)) × (number_l 256 xs / 256 ^ m ≡ number_l 256 (drop m xs))
number-split m xs h =
    let joined = number-joined m xs in
    let parts = parted (256 ^ m) (number_l 256 (take m xs)) (number_l 256 (drop m xs)) (number-below m xs h) in
    (ap (λ n. n % 256 ^ m) joined ∙ parts.0, ap (λ n. n / 256 ^ m) joined ∙ parts.1)

digits-split : (k j y r : ℕ) → y < 256 ^ k
    → digits_l 256 (k + j) (y + 256 ^ k * r) ≡ digits_l 256 k y ++ digits_l 256 j r
digits-split zero j y r lt =
    let none : y + 256 ^ 0 * r ≡ r = omega (arith, pow-zero 256, ap (λ p. p * r) (pow-zero 256)) in
    let same : 0 + j ≡ j = omega arith in
    λ i. digits_l 256 (same i) (none i)
digits-split (suc k) j y r lt =
    let z = y + 256 ^ suc k * r in
    let rest = 256 ^ k * r in
    let moved : z ≡ y + 256 * rest =
    ap (λ n. y + n) (ap (λ p. p * r) (pow-suc 256 k ∙ mul_comm (256 ^ k) 256) ∙ mul_assoc 256 (256 ^ k) r) in
    let longer : suc k + j ≡ suc (k + j) = omega arith in
    let first : z % 256 ≡ y % 256 = ap (λ n. n % 256) moved ∙ add-mul-mod_self_left y 256 rest in
    let above : z / 256 ≡ y / 256 + rest = ap (λ n. n / 256) moved ∙ add-mul-div_left y rest {y = 256} (omega arith) in
    let small : y / 256 < 256 ^ k = omega (arith, lt, pow-suc 256 k) in
    ap (λ n. digits_l 256 n z) longer
    ∙ (λ i. first i ∷ digits_l 256 (k + j) (above i))
    ∙ ap (λ l. y % 256 ∷ l) (digits-split k j (y / 256) r small)

lanes-digits : (k n q : ℕ) (xs : List ℕ) → q ≡ 256 ^ k → Each1 (λ x. x < 256) xs
    → digits_l q n (number_l 256 xs) ≡ lanes k n xs
lanes-digits k zero q xs e h = refl
lanes-digits k (suc n) q xs e h =
    let parts = number-split k xs h in
    let first : number_l 256 xs % q ≡ number_l 256 (take k xs) = ap (λ m. number_l 256 xs % m) e ∙ parts.0 in
    let others : digits_l q n (number_l 256 xs / q) ≡ lanes k n (drop k xs) =
    ap (λ m. digits_l q n (number_l 256 xs / m)) e ∙ ap (digits_l q n) parts.1
    ∙ lanes-digits k n q (drop k xs) e (below-drop k xs h) in
    λ i. first i ∷ others i

bytes-digits : (k q m : ℕ) (ys : List ℕ) → q ≡ 256 ^ k → m ≡ k * length ys → Each1 (λ y. y < q) ys
    → digits_l 256 m (number_l q ys) ≡ bytes_of k ys
bytes-digits k q m [] e long h = ap (λ n. digits_l 256 n 0) (long ∙ mul-zero k)
bytes-digits k q m (y ∷ ys) e long h =
    ap (λ n. digits_l 256 n (y + q * number_l q ys)) (long ∙ omega (arith, mul-suc k (length ys)))
    ∙ ap (λ p. digits_l 256 (k + k * length ys) (y + p * number_l q ys)) e
    ∙ digits-split k (k * length ys) y (number_l q ys) (subst (λ p. y < p) e h.0)
    ∙ ap (λ l. digits_l 256 k y ++ l) (bytes-digits k q (k * length ys) ys e refl h.1)

length-lanes : (k n : ℕ) (xs : List ℕ) → length (lanes k n xs) ≡ n
length-lanes k zero xs = refl
length-lanes k (suc n) xs = ap suc (length-lanes k n (drop k xs))

-- a change to lanes of k bytes, an operation lane by lane, and the change back
pub lane_wise-digits : (f : ℕ → ℕ → ℕ) (k n q m : ℕ) (v e : List ℕ) → q ≡ 256 ^ k → m ≡ k * n → ((x y : ℕ) → f x y < q)
    → Each1 (λ x. x < 256) v → Each1 (λ x. x < 256) e
    → digits_l 256 m (number_l q (zip2 f (digits_l q n (number_l 256 v)) (digits_l q n (number_l 256 e))))
    ≡ lane_wise f k n v e
unfolding lane_wise
lane_wise-digits f k n q m v e is_q long small hv he =
    (λ i. digits_l 256 m (number_l q (zip2 f (lanes-digits k n q v is_q hv i) (lanes-digits k n q e is_q he i))))
    ∙ bytes-digits k q m (zip2 f (lanes k n v) (lanes k n e)) is_q
    (long ∙ ap (λ j. k * j) (sym (length-zip2 f (lanes k n v) (lanes k n e)
    (length-lanes k n v ∙ sym (length-lanes k n e)) ∙ length-lanes k n v)))
    (Each1-zip2 f (λ z. z < q) (lanes k n v) (lanes k n e)
    (Each2-all (λ x y. f x y < q) small (lanes k n v) (lanes k n e)))

-- bytes as they are, which are lanes of one byte
pub lane_wise-bytes : (f : ℕ → ℕ → ℕ) (n : ℕ) (v e : List ℕ) → length v ≡ n → length e ≡ n → ((x y : ℕ) → f x y < 256)
    → zip2 f v e ≡ lane_wise f 1 n v e
unfolding lane_wise
lane_wise-bytes f zero [] [] lv le small = refl
lane_wise-bytes f zero [] (y ∷ ys) lv le small = absurd (omega arith)
lane_wise-bytes f zero (x ∷ xs) ys lv le small = absurd (omega arith)
lane_wise-bytes f (suc n) [] ys lv le small = absurd (omega arith)
lane_wise-bytes f (suc n) (x ∷ xs) [] lv le small = absurd (omega arith)
lane_wise-bytes f (suc n) (x ∷ xs) (y ∷ ys) lv le small =
    let first : f x y ≡ f (x + 256 * 0) (y + 256 * 0) % 256 =
    sym (ap (λ n. n % 256) (λ i. f (add-zero x i) (add-zero y i)) ∙ mod-eq_of_lt (small x y)) in
    let others = lane_wise-bytes f n xs ys (omega arith) (omega arith) small in
    λ i. first i ∷ others i

-- an operation on the complement of the first
pub zip2-map_left : (f : ℕ → ℕ → ℕ) (g : ℕ → ℕ) (xs ys : List ℕ) → zip2 f (map g xs) ys ≡ zip2 (λ x y. f (g x) y) xs ys
zip2-map_left f g [] ys = refl
zip2-map_left f g (x ∷ xs) [] = refl
zip2-map_left f g (x ∷ xs) (y ∷ ys) = ap (λ l. f (g x) y ∷ l) (zip2-map_left f g xs ys)

-- ---- the operations stay in their lanes

pub sum-small : (k x y : ℕ) → sum_in k x y < 256 ^ k
sum-small k x y = mod-lt (x + y) (one-le-pow k 256 (omega arith))

pub difference-small : (k x y : ℕ) → difference_in k x y < 256 ^ k
difference-small k x y = mod-lt (x + (256 ^ k - y)) (one-le-pow k 256 (omega arith))

pub equality-small : (k x y : ℕ) → equality_in k x y < 256 ^ k
equality-small k x y = below (eqb x y)
  where
    below : (b : Bool) → cond b (256 ^ k - 1) 0 < 256 ^ k
    below true = omega (arith, one-le-pow k 256 (omega arith))
    below false = omega (arith, one-le-pow k 256 (omega arith))

-- ---- what a kernel computes, at each size of lane

-- on bytes as they are
pub on_bytes : (f : ℕ → ℕ → ℕ → ℕ) → ((k x y : ℕ) → f k x y < 256 ^ k) → (lane : Lane) (n : ℕ) (v e result : List ℕ)
    → lane ≡ Byte → length v ≡ n → length e ≡ n → n / 1 ≡ n → result ≡ zip2 (f 1) v e → result ≡ by_lanes f lane n v e
on_bytes f small lane n v e result is lv le whole computed =
    computed ∙ lane_wise-bytes (f 1) n v e lv le (small 1)
    ∙ ap (λ m. lane_wise (f 1) 1 m v e) (sym whole)
    ∙ ap (λ l. by_lanes f l n v e) (sym is)

-- on m wider lanes, whose range is q
pub on_lanes : (f : ℕ → ℕ → ℕ → ℕ) → ((k x y : ℕ) → f k x y < 256 ^ k)
    → (lane given : Lane) (q m n : ℕ) (v e result : List ℕ)
    → lane ≡ given → q ≡ 256 ^ size_of_lane given → n / size_of_lane given ≡ m → n ≡ size_of_lane given * m
    → Each1 (Fits w8) v → Each1 (Fits w8) e
    → result ≡ digits_l 256 n (number_l q (zip2 (f (size_of_lane given)) (digits_l q m (number_l 256 v))
    (digits_l q m (number_l 256 e))))
    → result ≡ by_lanes f lane n v e
on_lanes f small lane given q m n v e result is range count long fits_v fits_e computed =
    let k = size_of_lane given in
    computed
    ∙ lane_wise-digits (f k) k m q n v e range long (λ x y. subst (λ p. f k x y < p) (sym range) (small k x y))
    (below_from_Fits w8 v fits_v) (below_from_Fits w8 e fits_e)
    ∙ ap (λ j. lane_wise (f k) k j v e) (sym count)
    ∙ ap (λ l. by_lanes f l n v e) (sym is)

-- ---- comparisons

-- what a comparison and a choice by its mask give, lane by lane, where the lanes have h + 1 bits
abbrev pub compared : ℕ → ℕ → ℕ → ℕ → ℕ
compared h most x y = cond (top h (cond (eqb x y) most 0)) most 0

compared-is : (h most x y : ℕ) → top h most ≡ true → top h 0 ≡ false → compared h most x y ≡ cond (eqb x y) most 0
compared-is h most x y set unset = by (eqb x y)
  where
    by : (b : Bool) → cond (top h (cond b most 0)) most 0 ≡ cond b most 0
    by true = ap (λ p. cond p most 0) set
    by false = ap (λ p. cond p most 0) unset

zip2-same : (f g : ℕ → ℕ → ℕ) → ((x y : ℕ) → f x y ≡ g x y) → (xs ys : List ℕ) → zip2 f xs ys ≡ zip2 g xs ys
zip2-same f g e [] ys = refl
zip2-same f g e (x ∷ xs) [] = refl
zip2-same f g e (x ∷ xs) (y ∷ ys) = λ i. e x y i ∷ zip2-same f g e xs ys i

-- a comparison of m wider lanes, whose range is q and whose highest bit is h
pub compared-lanes : (lane given : Lane) (h q m n : ℕ) (v e result : List ℕ)
    → lane ≡ given → q ≡ 256 ^ size_of_lane given → n / size_of_lane given ≡ m → n ≡ size_of_lane given * m
    → top h (256 ^ size_of_lane given - 1) ≡ true → top h 0 ≡ false
    → Each1 (Fits w8) v → Each1 (Fits w8) e
    → result ≡ digits_l 256 n (number_l q (zip2 (compared h (256 ^ size_of_lane given - 1))
    (digits_l q m (number_l 256 v)) (digits_l q m (number_l 256 e))))
    → result ≡ by_lanes equality_in lane n v e
compared-lanes lane given h q m n v e result is range count long set unset fits_v fits_e computed =
    let k = size_of_lane given in
    on_lanes equality_in equality-small lane given q m n v e result is range count long fits_v fits_e
    (computed
    ∙ ap (λ l. digits_l 256 n (number_l q l))
    (zip2-same (compared h (256 ^ k - 1)) (equality_in k) (λ x y. compared-is h (256 ^ k - 1) x y set unset)
    (digits_l q m (number_l 256 v)) (digits_l q m (number_l 256 e))))

selected : (n : ℕ) (v e : List ℕ) → length v ≡ n → length e ≡ n
    → sel_l (map (top 7) (zip2 (λ x y. cond (eqb x y) 255 0) v e)) (replicate n 255) (replicate n 0)
    ≡ zip2 (compared 7 255) v e
selected zero [] e lv le = refl
selected zero (x ∷ v) e lv le = absurd (omega arith)
selected (suc n) [] e lv le = refl
selected (suc n) (x ∷ v) [] lv le = refl
selected (suc n) (x ∷ v) (y ∷ e) lv le = ap (λ l. compared 7 255 x y ∷ l) (selected n v e (omega arith) (omega arith))

-- a comparison of bytes as they are
pub compared-bytes : (lane : Lane) (n : ℕ) (v e result : List ℕ) → lane ≡ Byte → length v ≡ n → length e ≡ n → n / 1 ≡ n
    → result ≡ sel_l (map (top 7) (zip2 (λ x y. cond (eqb x y) 255 0) v e)) (replicate n 255) (replicate n 0)
    → result ≡ by_lanes equality_in lane n v e
compared-bytes lane n v e result is lv le whole computed =
    on_bytes equality_in equality-small lane n v e result is lv le whole
    (computed ∙ selected n v e lv le ∙ zip2-same (compared 7 255) (equality_in 1)
    (λ x y. compared-is 7 255 x y refl refl) v e)
