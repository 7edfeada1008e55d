-- The names of the profiles that have every bit, one after another.
use Rattle.std.proofs.Common.{◌≡◌, ℕ, ◌+◌, ◌<◌, ◌≤◌, Bool, false, Bor, List, [], ◌∷◌, ◌++◌, length, get_or}
use Rattle.std.proofs.Common.{take, drop, ap, sym, ◌∙◌, refl, arith, append_assoc, nat_eq, zero, suc, Some, None}
use Rattle.std.specs.Prelude.{codes, flat_map, map, if◌then◌else◌}
use Rattle.std.proofs.lemmas.Bool.Decides.{nat_tests}
use Rattle.std.proofs.Math.Seq.{take-length}
use Rattle.std.proofs.lemmas.List.{append-nil, drop_more, get_or_default, take_more}
use Rattle.std.proofs.lemmas.Grind.{flat_map-append}
use Rattle.x86_uarch.specs.Profiles.{microarchitectures, profiles}
use Rattle.vex_check.specs.declared.needs.First.{First}
use Rattle.vex_check.specs.declared.needs.RunFault.{RunFault}
use Rattle.vex_check.specs.Needs.{all_needed, fault, firsts, run}
use Rattle.vex_lines.specs.LeastLines.{fault_line, least_by, least_lines, need_line, or_dash, profile_word}
use Rattle.vex_lines.specs.LeastLines.{profiles_line}

-- an element of a list, whatever stands for one past its end
pub at-default : {A : Type 0} (items : List A) (i : ℕ) (d : A) → i < length items
    → get_or items i d ≡ get_or items i (get_or items i d)
at-default items i d h = sym (get_or_default items i (get_or items i d) d h)

-- the word of a name of the code's
abbrev pub seen_word : List Bool → Bor (List ℕ) → List ℕ
seen_word wanted name = profile_word wanted name.now

-- the words of names, as contracts see them
seen_words : (wanted : List Bool) (names : List (Bor (List ℕ)))
    → flat_map (seen_word wanted) names ≡ flat_map (profile_word wanted) (map (λ name. name.now) names)
seen_words wanted [] = refl
seen_words wanted (name ∷ names) = ap (λ t. profile_word wanted name.now ++ t) (seen_words wanted names)

-- ---- the names fit a line

-- how long names are with a space before each
pub widths : List (List ℕ) → ℕ
widths [] = 0
widths (name ∷ names) = suc (length name) + widths names

architectures-width : widths microarchitectures ≡ 180
unfolding widths microarchitectures profiles
architectures-width = refl

architectures-count : length microarchitectures ≡ 23
unfolding microarchitectures profiles
architectures-count = refl

at-map : {A B : Type 0} (f : A → B) (xs : List A) (i : ℕ) (d : A) → f (get_or xs i d) ≡ get_or (map f xs) i (f d)
at-map f [] i d = refl
at-map f (x ∷ xs) zero d = refl
at-map f (x ∷ xs) (suc i) d = at-map f xs i d

-- the names of the code's
abbrev pub AreNames : List (Bor (List ℕ)) → Type 0
AreNames names = map (λ (name : Bor (List ℕ)). name.now) names ≡ microarchitectures

same-count : (names : List (Bor (List ℕ))) → length (map (λ (name : Bor (List ℕ)). name.now) names) ≡ length names
same-count [] = refl
same-count (name ∷ names) = ap suc (same-count names)

count-names : (names : List (Bor (List ℕ))) → AreNames names → length names ≡ 23
count-names names are = sym (same-count names) ∙ ap length are ∙ architectures-count

-- a name of the code's is one of the definition's
same-name : (names : List (Bor (List ℕ))) (i : ℕ) (d : Bor (List ℕ)) → AreNames names
    → (get_or names i d).now ≡ get_or microarchitectures i d.now
same-name names i d are =
    at-map (λ (name : Bor (List ℕ)). name.now) names i d ∙ ap (λ ns. get_or ns i d.now) are

-- the room of a name and of those after it
width-step : (names : List (Bor (List ℕ))) (i : ℕ) (d : Bor (List ℕ)) → AreNames names → i < length names
    → widths (drop i microarchitectures)
    ≡ suc (length (get_or names i d).now) + widths (drop (i + 1) microarchitectures)
unfolding widths
width-step names i d are below =
    let within : i < length microarchitectures = omega (arith, below, count-names names are, architectures-count) in
    ap widths (drop_more microarchitectures i d.now within)
    ∙ ap (λ (name : List ℕ). suc (length name) + widths (drop (i + 1) microarchitectures))
    (sym (same-name names i d are))

-- ---- the line

-- the text so far: the words of the names so far behind the first word, with room for all others
pub record Gathered (wanted : List Bool) (names : List (Bor (List ℕ))) (i : ℕ) (text : List ℕ) : Type 0 where
  pub text_is : text ≡ codes "profiles" ++ flat_map (seen_word wanted) (take i names)
  pub short : length text + widths (drop i microarchitectures) ≤ 188

pub gathered-none : (wanted : List Bool) (names : List (Bor (List ℕ))) (text : List ℕ) → text ≡ codes "profiles"
    → Gathered wanted names 0 text
gathered-none wanted names text is = record {
  text_is = is;
  short = omega (arith, ap length is, architectures-width);
}

pub gathered-step : (wanted : List Bool) (names : List (Bor (List ℕ))) (i : ℕ) (d : Bor (List ℕ)) (text new : List ℕ)
    → AreNames names
    → i < length names → Gathered wanted names i text → new ≡ text ++ profile_word wanted (get_or names i d).now
    → length new ≤ length text + 1 + length (get_or names i d).now → Gathered wanted names (i + 1) new
gathered-step wanted names i d text new are below so_far is longer = record {
  text_is =
      is
      ∙ ap (λ t. t ++ profile_word wanted (get_or names i d).now) so_far.text_is
      ∙ append_assoc (codes "profiles") (flat_map (seen_word wanted) (take i names))
      (profile_word wanted (get_or names i d).now)
      ∙ ap (λ t. codes "profiles" ++ t)
      (ap (λ t. flat_map (seen_word wanted) (take i names) ++ t)
      (sym (append-nil (profile_word wanted (get_or names i d).now)))
      ∙ sym (flat_map-append (seen_word wanted) (take i names) (get_or names i d ∷ []))
      ∙ ap (flat_map (seen_word wanted)) (sym (take_more names i d below)));
  short = omega (arith, so_far.short, longer, width-step names i d are below);
}

-- no word, and a dash for it
dashed : (words : List ℕ)
    → (codes "profiles" ++ words) ++ (if nat_eq (length (codes "profiles" ++ words)) 8 then codes " -" else [])
    ≡ codes "profiles" ++ or_dash words
dashed [] = refl
dashed (c ∷ cs) =
    let long : nat_eq (length (codes "profiles" ++ c ∷ cs)) 8 ≡ false = grind (arith, nat_tests) in
    ap (λ b. (codes "profiles" ++ c ∷ cs) ++ (if b then codes " -" else [])) long
    ∙ append-nil (codes "profiles" ++ c ∷ cs)

pub gathered-line : (wanted : List Bool) (names : List (Bor (List ℕ))) (text : List ℕ) → AreNames names
    → Gathered wanted names (length names) text
    → (text ++ (if nat_eq (length text) 8 then codes " -" else [])) ++ codes "\n" ≡ profiles_line wanted
unfolding profiles_line
gathered-line wanted names text are gathered =
    let words = flat_map (profile_word wanted) microarchitectures in
    let is : text ≡ codes "profiles" ++ words =
    gathered.text_is
    ∙ ap (λ ns. codes "profiles" ++ flat_map (seen_word wanted) ns) (take-all names)
    ∙ ap (λ t. codes "profiles" ++ t) (seen_words wanted names ∙ ap (flat_map (profile_word wanted)) are) in
    ap (λ t. (t ++ (if nat_eq (length t) 8 then codes " -" else [])) ++ codes "\n") is
    ∙ ap (λ t. t ++ codes "\n") (dashed words)
    ∙ append_assoc (codes "profiles") (or_dash words) (codes "\n") where
      take-all : (xs : List (Bor (List ℕ))) → take (length xs) xs ≡ xs
      take-all xs = take-length xs

-- how long the text is at most
pub gathered-room : (wanted : List Bool) (names : List (Bor (List ℕ))) (i : ℕ) (text : List ℕ)
    → Gathered wanted names i text → length text ≤ 188
gathered-room wanted names i text gathered = omega (arith, gathered.short)

pub before-room : (wanted : List Bool) (names : List (Bor (List ℕ))) (i : ℕ) (d : Bor (List ℕ)) (text : List ℕ)
    → AreNames names → i < length names
    → Gathered wanted names i text → length text + 1 + length (get_or names i d).now ≤ 256
before-room wanted names i d text are below gathered =
    omega (arith, gathered.short, width-step names i d are below)

-- ---- all lines

-- the lines of a run without a fault, and of one with a fault
pub lines-needed : (bytes : List ℕ) (found : List First) (least : List Bool) → fault (run bytes) ≡ None
    → found ≡ firsts (run bytes).items
    → least ≡ all_needed (run bytes).items → least_lines bytes ≡ flat_map need_line found ++ profiles_line least
unfolding least_lines
lines-needed bytes found least none these bits =
    ap (λ f. least_by f (run bytes).items) none
    ∙ ap (λ fs. flat_map need_line fs ++ profiles_line (all_needed (run bytes).items)) (sym these)
    ∙ ap (λ l. flat_map need_line found ++ profiles_line l) (sym bits)

pub lines-stopped : (bytes : List ℕ) (f : RunFault) → fault (run bytes) ≡ Some f → least_lines bytes ≡ fault_line f
unfolding least_lines
lines-stopped bytes f is = ap (λ f. least_by f (run bytes).items) is
