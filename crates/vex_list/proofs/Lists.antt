-- The order of byte strings, and covering one set after another.
use Rattle.std.specs.Prelude.{◌≡◌, refl, ◌↔◌, IsTrue, not, ◌⊎◌, ℕ, ◌+◌, ◌<◌, ◌≤◌, Bool, true, false, List, Option, Some}
use Rattle.std.specs.Prelude.{None, IsSome, IfSome}
use Rattle.std.specs.Ordering.{ordering_reverse, nat_cmp, is_lt, is_gt}
use Rattle.std.proofs.Common.{Ordering, Less, Equal, Greater}
use Rattle.std.proofs.Math.Nat.{eq-or-lt_of_le}
use Rattle.std.specs.Cmp.Lexicographic.{slice_cmp}
use Rattle.std.proofs.lemmas.Cmp.{nat_list_cmp_total, upto, tied_itself}
use Rattle.std.proofs.Common.{arith, ap, sym, ◌∙◌, inl, inr, subst}
use Rattle.x86_operand.specs.Meaning.{Meaning}
use Rattle.vex_decode.specs.Spelling.{Spells}
use Rattle.vex_list.specs.Order.{AtMost, Before, UpTo}
use Rattle.vex_list.specs.Next.{Between, Covers, Either}

-- what isn't before a string isn't left behind by it
lt_reverse : (o : Ordering) → is_lt (ordering_reverse o) ≡ is_gt o
lt_reverse Less = refl
lt_reverse Equal = refl
lt_reverse Greater = refl

pub turned : (a b : List ℕ) → is_lt (slice_cmp nat_cmp b a) ≡ is_gt (slice_cmp nat_cmp a b)
turned a b = ap is_lt (nat_list_cmp_total.antisymm b a) ∙ lt_reverse (slice_cmp nat_cmp a b)

lt_up : (o : Ordering) → is_lt o ≡ true → is_gt o ≡ false
lt_up Less h = refl
lt_up Equal h = cc
lt_up Greater h = cc

pub not_up : (b : Bool) → b ≡ true → b ≡ false → ⊥
not_up true h k = cc
not_up false h k = cc

pub no_true : (b : Bool) → (b ≡ true → ⊥) → b ≡ false
no_true true h = absurd (h refl)
no_true false h = refl

-- a string that isn't before another: the other comes no later
pub not_before : (a b : List ℕ) → (Before b a → ⊥) → UpTo a b
not_before a b h = sym (turned a b) ∙ no_true _ h

pub before_not : (a b : List ℕ) → UpTo a b → Before b a → ⊥
before_not a b h k = not_up _ k (turned a b ∙ h)

pub up_itself : (a : List ℕ) → UpTo a a
up_itself a = ap is_gt (tied_itself nat_list_cmp_total a)

pub up_chain : (a b c : List ℕ) → UpTo a b → UpTo b c → UpTo a c
up_chain = upto nat_list_cmp_total

pub before_up : (a b : List ℕ) → Before a b → UpTo a b
before_up a b h = lt_up _ h

-- what a test tells of the opposite
pub told : (r : Bool) (P Q : Type 0) → IsTrue r ↔ P → ((P → ⊥) → Q) → (Q → P → ⊥) → IsTrue (not r) ↔ Q
told true P Q e f g = (λ h. cc, λ q. absurd (g q (e.0 refl)))
told false P Q e f g = (λ h. f (λ p. false_true (e.1 p)), λ q. refl) where
  false_true : false ≡ true → ⊥
  false_true h = cc

-- what is there is the bytes
pub some_bytes : (o : Option (List ℕ)) (bytes : List ℕ) → IsSome o → IfSome o (λ found. found ≡ bytes) → o ≡ Some bytes
some_bytes None bytes there is = cc
some_bytes (Some found) bytes there is = ap Some is

-- ---- the nearest so far

at_most_up : (old : Option (List ℕ)) (c b : List ℕ) → (AtMost old c → ⊥) → AtMost old b → UpTo c b
at_most_up None c b h l = absurd l
at_most_up (Some d) c b h l = up_chain c d b (before_up c d (by (is_lt (slice_cmp nat_cmp c d)) refl)) l where
  by : (t : Bool) → is_lt (slice_cmp nat_cmp c d) ≡ t → is_lt (slice_cmp nat_cmp c d) ≡ true
  by true e = e
  by false e = absurd (h (not_before d c (λ k. not_up _ k e)))

-- it becomes the bytes where they are nearer
pub cover_new : (m : Meaning) (previous : List ℕ) (bytes : List ℕ) (old : Option (List ℕ)) →
    Spells bytes m → Before previous bytes → (AtMost old bytes → ⊥)
    → Covers m previous (λ b. b ≡ bytes) old (Some bytes)
cover_new m previous bytes old spells before nearer = record {
  later = λ l. (spells, before);
  kept = λ b l. at_most_up old bytes b nearer l;
  covers = λ b e spells before. subst (UpTo bytes) (sym e) (up_itself bytes);
}

module _ (m : Meaning) (previous : List ℕ) where
  -- over fewer strings
  pub cover_fewer : (over fewer : List ℕ → Type 0) (a b : Option (List ℕ)) → ((s : List ℕ) → fewer s → over s)
      → Covers m previous over a b → Covers m previous fewer a b
  cover_fewer over fewer a b h c = record { later = c.later; kept = c.kept; covers = λ s t. c.covers s (h s t) }

  -- over the one set and then the other
  pub cover_either : (over others : List ℕ → Type 0) (a b c : Option (List ℕ)) → Covers m previous over a b
      → Covers m previous others b c → Covers m previous (Either over others) a c
  cover_either over others a b c p q = record {
    later = λ l. q.later (p.later l);
    kept = λ s l. q.kept s (p.kept s l);
    covers = λ s e spells before. elim e [
      | inl t ↦ q.kept s (p.covers s t spells before)
      | inr t ↦ q.covers s t spells
          before
    ];
  }

  -- over no string
  pub cover_empty : (over : List ℕ → Type 0) (a : Option (List ℕ)) → ((b : List ℕ) → over b → ⊥)
      → Covers m previous over a a
  cover_empty over a none = record { later = λ k. k; kept = λ b k. k; covers = λ b t. absurd (none b t) }

  -- over no number
  pub cover_none : (first : ℕ) (over : ℕ → List ℕ → Type 0) (a : Option (List ℕ))
      → Covers m previous (Between first first over) a a
  cover_none first over a = record {
    later = λ l. l;
    kept = λ b l. l;
    covers = λ b t. absurd (omega (arith, t.1, t.2));
  }

  -- over one more number
  pub cover_more : (first end : ℕ) (over : ℕ → List ℕ → Type 0) (a b c : Option (List ℕ))
      → Covers m previous (Between first end over) a b → Covers m previous (over end) b c
      → Covers m previous (Between first (end + 1) over) a c
  cover_more first end over a b c p q =
      cover_fewer (Either (Between first end over) (over end)) (Between first (end + 1) over) a c (λ s t. by s t)
      (cover_either (Between first end over) (over end) a b c p q)
    where
      at : (s : List ℕ) (i : ℕ) → first ≤ i → over i s → (i ≡ end) ⊎ (i < end)
          → Either (Between first end over) (over end) s
      at s i from t (inr l) = inl (i, from, l, t)
      at s i from t (inl e) = inr (subst (λ i. over i s) e t)

      by : (s : List ℕ) → Between first (end + 1) over s → Either (Between first end over) (over end) s
      by s t = at s t.0 t.1 t.3 (eq-or-lt_of_le (omega (arith, t.2)))

  -- to the end of the numbers
  pub cover_to : (first i end : ℕ) (over : ℕ → List ℕ → Type 0) (a b : Option (List ℕ)) → i ≡ end
      → Covers m previous (Between first i over) a b → Covers m previous (Between first end over) a b
  cover_to first i end over a b e c = subst (λ n. Covers m previous (Between first n over) a b) e c
