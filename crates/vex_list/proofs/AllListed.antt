-- The list of all spellings of a meaning, and the next of them after any bytes.
use Rattle.std.specs.Prelude.{◌≡◌, refl, ℕ, ◌≤◌, length, Bool, true, false, List, [], ◌∷◌, find, filter, cond, Option}
use Rattle.std.specs.Prelude.{Some, None, Ok, Err}
use Rattle.std.specs.Cmp.Lexicographic.{slice_cmp}
use Rattle.std.specs.Ordering.{nat_cmp, is_lt, is_gt}
use Rattle.std.proofs.Common.{Ordering, Less, Equal, Greater, ap, sym, ◌∙◌, inl, inr, subst, arith}
use Rattle.std.proofs.lemmas.List.{append-nil}
use Rattle.std.proofs.lemmas.Map.Lookups.{exact_bytes}
use Rattle.x86_operand.specs.Meaning.{Meaning}
use Rattle.x86_operand.specs.Same.{same_meaning}
use Rattle.x86_operand.specs.Same.Lemmas.{same_meaning_equal, same_meaning_refl}
use Rattle.x86_address.specs.Bytes.{IsBytes}
use Rattle.x86_address.specs.Reading.{Reading}
use Rattle.vex_rows.specs.Row.{Row, Among}
use Rattle.vex_rows.specs.Row.Lists.{among-filter, from-filter, found-find, none-find, no-find}
use Rattle.vex_decode.specs.Laws.{ReadingIsSpelling, SpellingIsRead, SpellingBytes, SpellingLength}
use Rattle.vex_decode.specs.Spelling.{Syntax, Spells, bytes_of, meant}
use Rattle.vex_decode.specs.Walk.{walk}
use Rattle.vex_list.specs.Order.{is_before, Before, UpTo, Ascending, IsNext, IsListOfAll}
use Rattle.vex_list.specs.AllSpellings.{all_spellings, is_spelling, reads_all, spellings_after, spellings_from, strings}
use Rattle.vex_list.specs.Laws.{ListIsOne, NextIsListed, TheseAreAll}
use Rattle.vex_list.proofs.Lists.{before_not, before_up, no_true, not_before, not_up, up_chain, up_itself, turned}
use Rattle.vex_list.proofs.Strings.{ascending_filter, ascending_strings, bytes_in_strings, in_strings}

-- ---- whether bytes spell a meaning

spelled_is : SpellingIsRead → (m : Meaning) (b : List ℕ) → Spells b m → is_spelling m b ≡ true
unfolding is_spelling
spelled_is read m b s =
    let walked : walk b ≡ Ok ((s.row, s.by.parts), []) = ap walk (sym (append-nil b)) ∙ read b [] m s in
    ap (reads_all m) walked ∙ ap (λ n. same_meaning n m) (sym s.by.means) ∙ same_meaning_refl m

is_spelled : ReadingIsSpelling → (m : Meaning) (b : List ℕ) → IsBytes b → is_spelling m b ≡ true → Spells b m
unfolding is_spelling
is_spelled law m b is h = by (walk b) refl h where
  by : (reading : Reading (Row × Syntax)) → walk b ≡ reading → reads_all m reading ≡ true → Spells b m
  by (Ok (read, [])) e h =
      let begins = (law b read.0 read.1 [] is).0 e in
      record {
        row = read.0;
        is_row = begins.is_row;
        by =
            record {
              parts = read.1;
              fits = begins.fits;
              written =
                  begins.written ∙ append-nil (bytes_of read.0 read.1);
              means =
                  sym (same_meaning_equal (meant read.0 read.1) m h);
            };
      }
  by (Ok (read, byte ∷ rest)) e h = cc
  by (Err error) e h = cc

pub these_are_all : SpellingIsRead → ReadingIsSpelling → SpellingBytes → SpellingLength → TheseAreAll
unfolding all_spellings
these_are_all read law are_bytes long m = record {
  ascending = ascending_filter (is_spelling m) (strings 11) (ascending_strings 11);
  spelled = λ b k.
      let kept = from-filter (is_spelling m) b (strings 11) k in
      is_spelled law m b (bytes_in_strings 11 b kept.1) kept.0;
  complete = λ b s. among-filter (is_spelling m) b (strings 11) (spelled_is read m b s)
      (in_strings 11 b (are_bytes b m s) (long b m s).1);
}

-- ---- the list is the only one

apart : (a b : List ℕ) → Before a b → Before b a → ⊥
apart a b h k = before_not a b (before_up a b h) k

not_before_itself : (a : List ℕ) → Before a a → ⊥
not_before_itself a h = apart a a h h

-- lists in order that have the same strings are one
same_list : (xs ys : List (List ℕ)) → Ascending xs → Ascending ys
    → ((b : List ℕ) → Among b xs → Among b ys) → ((b : List ℕ) → Among b ys → Among b xs) → xs ≡ ys
same_list [] [] a b to from = refl
same_list [] (y ∷ ys) a b to from = absurd (from y (inl refl))
same_list (x ∷ xs) [] a b to from = absurd (to x (inl refl))
same_list (x ∷ xs) (y ∷ ys) a b to from =
    let first : x ≡ y = heads (to x (inl refl)) (from y (inl refl)) in
    let others : xs ≡ ys = same_list xs ys a.1 b.1 (λ c k. later c x y xs ys first a.0 k (to c (inr k)))
    (λ c k. later c y x ys xs (sym first) b.0 k (from c (inr k))) in
    cc where
      heads : Among x (y ∷ ys) → Among y (x ∷ xs) → x ≡ y
      heads (inl e) k = e
      heads (inr l) (inl e) = sym e
      heads (inr l) (inr k) = absurd (apart x y (a.0 y k) (b.0 x l))

      later : (c x y : List ℕ) (xs ys : List (List ℕ)) → x ≡ y → ((other : List ℕ) → Among other xs → Before x other)
          → Among c xs → Among c (y ∷ ys) → Among c ys
      later c x y xs ys e before k (inl same) =
          absurd (not_before_itself x (subst (Before x) (same ∙ sym e) (before c k)))
      later c x y xs ys e before k (inr l) = l

pub list_is_one : ListIsOne
list_is_one m xs ys lists other =
    same_list xs ys lists.ascending other.ascending (λ b k. other.complete b (lists.spelled b k))
    (λ b k. lists.complete b (other.spelled b k))

-- ---- the next in a list

-- strings of which neither comes after the other are one
neither : (o : Ordering) → is_gt o ≡ false → is_lt o ≡ false → o ≡ Equal
neither Less h k = cc
neither Equal h k = refl
neither Greater h k = cc

same_string : (a b : List ℕ) → UpTo a b → UpTo b a → a ≡ b
same_string a b h k = exact_bytes a b (neither (slice_cmp nat_cmp a b) h (turned b a ∙ k))

-- what is found first comes no later than all that pass
first_found : (p : List ℕ → Bool) (xs : List (List ℕ)) (found other : List ℕ) → Ascending xs → find p xs ≡ Some found
    → Among other xs → p other ≡ true → UpTo found other
first_found p [] found other a e m h = absurd m
first_found p (x ∷ xs) found other a e m h = by (p x) refl e m (λ k l. first_found p xs found other a.1 k l h) where
  by : (b : Bool) → p x ≡ b → cond b (Some x) (find p xs) ≡ Some found → Among other (x ∷ xs)
      → (find p xs ≡ Some found → Among other xs → UpTo found other) → UpTo found other
  by true k e (inl same) next =
      let is : x ≡ found = cc in
      subst (λ f. UpTo f other) is (subst (UpTo x) (sym same) (up_itself x))
  by true k e (inr l) next = let is : x ≡ found = cc in subst (λ f. UpTo f other) is (before_up x other (a.0 other l))
  by false k e (inl same) next = let no : p other ≡ false = ap p same ∙ k in absurd (cc)
  by false k e (inr l) next = next e l

module _ (m : Meaning) (all : List (List ℕ)) (lists : IsListOfAll m all) (previous : List ℕ) where
  none_after : IsNext m previous None → find (is_before previous) all ≡ None
  none_after next = no-find (is_before previous) all
      (λ b k. no_true (is_before previous b) (λ h. next.least b (lists.spelled b k) h))

  some_after : (c : List ℕ) → IsNext m previous (Some c) → Some c ≡ find (is_before previous) all
  some_after c next = by (find (is_before previous) all) refl where
    by : (o : Option (List ℕ)) → find (is_before previous) all ≡ o → Some c ≡ o
    by None e =
        let no = none-find (is_before previous) all c e (lists.complete c next.later.0) in
        absurd (cc (no, next.later.1))
    by (Some d) e =
        let found = found-find (is_before previous) all d e in
        ap Some (same_string c d (next.least d (lists.spelled d found.0) found.1)
        (first_found (is_before previous) all d c lists.ascending e (lists.complete c next.later.0) next.later.1))

pub next_is_listed : NextIsListed
next_is_listed m all lists previous None next = sym (none_after m all lists previous next)
next_is_listed m all lists previous (Some c) next = some_after m all lists previous c next

-- ---- what is left of a list

-- a test that all elements pass, or none
filter_all : (p : List ℕ → Bool) (xs : List (List ℕ)) → ((b : List ℕ) → Among b xs → p b ≡ true) → filter p xs ≡ xs
filter_all p [] h = refl
filter_all p (x ∷ xs) h = ap (λ t. cond t (x ∷ filter p xs) (filter p xs)) (h x (inl refl))
    ∙ ap (λ t. x ∷ t) (filter_all p xs (λ b k. h b (inr k)))

filter_none : (p : List ℕ → Bool) (xs : List (List ℕ)) → ((b : List ℕ) → Among b xs → p b ≡ false) → filter p xs ≡ []
filter_none p [] h = refl
filter_none p (x ∷ xs) h = ap (λ t. cond t (x ∷ filter p xs) (filter p xs)) (h x (inl refl))
    ∙ filter_none p xs (λ b k. h b (inr k))

-- what comes after the one comes after the other
before_more : (a b c : List ℕ) → Before a b → Before b c → Before a c
before_more a b c h k = by (is_before a c) refl where
  by : (test : Bool) → is_before a c ≡ test → Before a c
  by true e = e
  by false e = absurd (before_not b a (up_chain b c a (before_up b c k) (not_before c a (λ l. not_up _ l e))) h)

-- of a list in order, what comes after a string is the least of that, and then what comes after this one
from_least : (previous c : List ℕ) (xs : List (List ℕ)) → Ascending xs → Among c xs → Before previous c
    → ((b : List ℕ) → Among b xs → Before previous b → UpTo c b)
    → filter (is_before previous) xs ≡ c ∷ filter (is_before c) xs
from_least previous c [] a k before least = absurd k
from_least previous c (x ∷ xs) a (inl e) before least =
    let after : (b : List ℕ) → Among b xs → Before c b = λ b l. subst (λ x. Before x b) (sym e) (a.0 b l) in
    let here : is_before previous x ≡ true = subst (Before previous) e before in
    let itself : is_before c x ≡ false = no_true (is_before c x)
    (λ h. not_before_itself c (subst (Before c) (sym e) h)) in
    ap (λ t. cond t (x ∷ filter (is_before previous) xs) (filter (is_before previous) xs)) here
    ∙ ap (λ t. x ∷ t) (filter_all (is_before previous) xs (λ b l. before_more previous c b before (after b l)))
    ∙ ap (λ y. y ∷ xs) (sym e)
    ∙ ap (λ t. c ∷ t) (sym (filter_all (is_before c) xs after))
    ∙ ap (λ t. c ∷ cond t (x ∷ filter (is_before c) xs) (filter (is_before c) xs)) (sym itself)
from_least previous c (x ∷ xs) a (inr l) before least =
    let ahead = a.0 c l in
    let early : is_before previous x ≡ false =
    no_true (is_before previous x) (λ h. before_not c x (least x (inl refl) h) ahead) in
    let itself : is_before c x ≡ false = no_true (is_before c x) (λ h. apart x c ahead h) in
    ap (λ t. cond t (x ∷ filter (is_before previous) xs) (filter (is_before previous) xs)) early
    ∙ from_least previous c xs a.1 l before (λ b k. least b (inr k))
    ∙ ap (λ t. c ∷ cond t (x ∷ filter (is_before c) xs) (filter (is_before c) xs)) (sym itself)

-- what comes after a string is the next, and what comes after that
pub next_begins : TheseAreAll → (m : Meaning) (previous : List ℕ) (next : Option (List ℕ)) → IsNext m previous next
    → spellings_after m previous ≡ spellings_from m next
unfolding spellings_after
next_begins these m previous None next =
    filter_none (is_before previous) (all_spellings m)
    (λ b k. no_true (is_before previous b) (λ h. next.least b ((these m).spelled b k) h))
next_begins these m previous (Some c) next =
    let lists = these m in
    from_least previous c (all_spellings m) lists.ascending (lists.complete c next.later.0) next.later.1
    (λ b k h. next.least b (lists.spelled b k) h)

-- all of them come after the empty string
not_empty : (b : List ℕ) → 3 ≤ length b → Before [] b
not_empty [] h = absurd (omega (arith, h))
not_empty (byte ∷ b) h = refl

after_empty : TheseAreAll → SpellingLength → (m : Meaning) → spellings_after m [] ≡ all_spellings m
unfolding spellings_after
after_empty these long m = filter_all (is_before []) (all_spellings m)
    (λ b k. not_empty b (long b m ((these m).spelled b k)).0)

pub first_begins : TheseAreAll → SpellingLength → (m : Meaning) (first : Option (List ℕ)) → IsNext m [] first
    → all_spellings m ≡ spellings_from m first
first_begins these long m first next = sym (after_empty these long m) ∙ next_begins these m [] first next
