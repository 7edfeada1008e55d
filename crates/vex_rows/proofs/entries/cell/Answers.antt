-- The place of a key's cell in the code is that of the definition.
use Rattle.std.proofs.Common.{◌≡◌, ◌≢◌, ℕ, ◌+◌, ◌*◌, ◌<◌, Bool, true, false, Some, get_or, slice_get, sym, subst, refl}
use Rattle.std.proofs.Common.{ap₂, ◌∙◌, le_refl, arith}
use Rattle.vex_rows.specs.declared.entry.Entry.{Entry}
use Rattle.vex_rows.specs.Index.{bit, cell_of}
use Rattle.vex_rows.specs.Row.{Among}
use Rattle.vex_rows.specs.Rules.{has_key}
use Rattle.vex_rows.specs.Table.{table}
use Rattle.vex_rows.proofs.Index.{found_at, none_at}
use Rattle.vex_rows.proofs.entries.cell.Goals as goal
use mir.Val.{bool_byte}

same_place : (byte : ℕ) (w l : Bool) → 4 * byte + 2 * bool_byte w + bool_byte l ≡ 4 * byte + 2 * bit w + bit l
same_place byte true true = refl
same_place byte true false = refl
same_place byte false true = refl
same_place byte false false = refl

pub returns-in-Some : goal.returns-in-Some
unfolding cell_of
returns-in-Some c =
    let key = c.args.key.now in
    let byte : key.byte < 256 = omega arith in
    let is : c.in-Some.cell.now ≡ cell_of key =
    c.in-Some.ensures.lookup.3.1 65535 ∙ ap₂ (λ cells i. get_or cells i 65535) c.cells_at.ensures
    (same_place key.byte key.w key.l) in
    let Filled : ℕ → Type 0 = λ n. n ≢ 65535
    → (entry : Entry) × (slice_get table n ≡ Some entry) × (has_key entry key ≡ true) in
    let Empty : ℕ → Type 0 = λ n. n ≡ 65535 → (entry : Entry) → Among entry table → has_key entry key ≡ false in
    record { filled = subst Filled (sym is) (found_at key byte); empty = subst Empty (sym is) (none_at key) }

pub returns-in-None-clause-empty : goal.returns-in-None-clause-empty
unfolding cell_of
returns-in-None-clause-empty c =
    let key = c.args.key.now in
    let is : cell_of key ≡ 65535 =
    sym (c.in-None.ensures.lookup.4 (le_refl _) 65535
    ∙ ap₂ (λ cells i. get_or cells i 65535) c.cells_at.ensures (same_place key.byte key.w key.l)) in
    λ _. none_at key is
