use Rattle.std.proofs.Common.{◌≡◌, ◌≢◌, ◌<◌, ◌≤◌, ◌+◌, ◌-◌, ◌==◌, Some, None, Option, false, true, length, get_or, drop}
use Rattle.std.proofs.Common.{take, ℕ, List, [], ◌∷◌, ◌++◌, refl, sym, ap, ◌∙◌, arith}
use Rattle.std.proofs.lemmas.Grind.{common_steps}
use Rattle.std.proofs.lemmas.Bool.{eq-eqb}
use Rattle.std.proofs.lemmas.List.{append_assoc, drop_all}
use Rattle.vex_asm.specs.Parsed.{◌>>=◌, cut}
use Rattle.vex_asm.proofs.operand.cut.Goals as goal

cons_at : (bs : List ℕ) (i : ℕ) → i < length bs → drop i bs ≡ get_or bs i 0 ∷ drop (i + 1) bs
cons_at bs i h = grind (arith, common_steps)

take_at_more : (bs : List ℕ) (i : ℕ) → i < length bs → take (i + 1) bs ≡ take i bs ++ (get_or bs i 0 ∷ [])
take_at_more bs i h = grind (arith, common_steps)

here : (c b : ℕ) (bs : List ℕ) → b ≡ c → cut c (b ∷ bs) ≡ Some ([], bs)
unfolding cut
here c b bs e = let same : (b == c) ≡ true = eq-eqb b c e in rw same refl

later : (c b : ℕ) (bs : List ℕ) → b ≢ c → cut c (b ∷ bs) ≡ (cut c bs >>= λ p. Some (b ∷ p.0, p.1))
unfolding cut
later c b bs e = let no : (b == c) ≡ false = grind arith in rw no refl

-- what is found behind a front is found in all of it
abbrev behind : List ℕ → Option (List ℕ × List ℕ) → Option (List ℕ × List ℕ)
behind front o = o >>= λ p. Some (front ++ p.0, p.1)

regroup : (front : List ℕ) (b : ℕ) (o : Option (List ℕ × List ℕ))
    → behind front (o >>= λ p. Some (b ∷ p.0, p.1)) ≡ behind (front ++ (b ∷ [])) o
regroup front b None = refl
regroup front b (Some p) = ap (λ x. Some (x, p.1)) (sym (append_assoc front (b ∷ []) p.0))

stop : (c i : ℕ) (bs : List ℕ) → i < length bs → get_or bs i 0 ≡ c → cut c bs ≡ behind (take i bs) (cut c (drop i bs))
    → Some (take i bs, take (length bs - (i + 1)) (drop (i + 1) bs)) ≡ cut c bs
stop c i bs h e inv =
    let found : cut c (drop i bs) ≡ Some ([], drop (i + 1) bs) = ap (cut c) (cons_at bs i h) ∙ here c _ _ e in
    let front : take i bs ++ [] ≡ take i bs = grind (arith, common_steps) in
    let back : take (length bs - (i + 1)) (drop (i + 1) bs) ≡ drop (i + 1) bs = grind (arith, common_steps) in
    sym (inv ∙ (ap (behind (take i bs)) found ∙ rw (front, back) refl))

go : (c i : ℕ) (bs : List ℕ) → i < length bs → get_or bs i 0 ≢ c → cut c bs ≡ behind (take i bs) (cut c (drop i bs))
    → cut c bs ≡ behind (take (i + 1) bs) (cut c (drop (i + 1) bs))
go c i bs h e inv =
    let found = ap (cut c) (cons_at bs i h) ∙ later c _ (drop (i + 1) bs) e in
    inv ∙ (ap (behind (take i bs)) found ∙
    (regroup (take i bs) (get_or bs i 0) (cut c (drop (i + 1) bs))
    ∙ ap (λ front. behind front (cut c (drop (i + 1) bs))) (sym (take_at_more bs i h))))

at_end : (c i : ℕ) (bs : List ℕ) → length bs ≤ i → cut c bs ≡ behind (take i bs) (cut c (drop i bs)) → None ≡ cut c bs
unfolding cut
at_end c i bs h inv =
    let none : drop i bs ≡ [] = drop_all i bs h in
    sym (inv ∙ ap (λ t. behind (take i bs) (cut c t)) none)

pub returns-then-bytes-i : goal.returns-then-bytes-i
returns-then-bytes-i c = stop _ _ _ c.loop-i-test.true c.if-bytes-i.true c.loop-i.invariant

pub loop-i-preserved : goal.loop-i-preserved
loop-i-preserved c = go _ _ _ c.loop-i-test.true c.if-bytes-i.false c.loop-i.invariant

pub returns : goal.returns
returns c = at_end _ _ _ c.loop-i-test.false c.loop-i.invariant
