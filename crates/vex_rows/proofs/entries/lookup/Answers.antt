-- What a cell names is the only entry that has the key.
use Rattle.std.proofs.Common.{◌≡◌, ℕ, true, Some, slice_get, sym, ap, ◌∙◌}
use Rattle.std.proofs.lemmas.Option.{slice_get_within}
use Rattle.vex_rows.specs.declared.entry.Entry.{Entry}
use Rattle.vex_rows.specs.declared.key.Key.{Key}
use Rattle.vex_rows.specs.Rules.{has_key}
use Rattle.vex_rows.specs.Table.{table}
use Rattle.vex_rows.specs.Table.Lemmas.{one_entry}
use Rattle.vex_rows.specs.Row.{Among}
use Rattle.vex_rows.specs.Row.Lists.{among-slice_get, find-only, no-find}
use Rattle.vex_rows.proofs.entries.lookup.Goals as goal

-- the entry that was taken at a place that names an entry with the key
record Taken (key : Key) (entry : Entry) : Type 0 where
  listed : Among entry table
  has : has_key entry key ≡ true
  only : (other : Entry) → Among other table → has_key other key ≡ true → other ≡ entry

taken : (key : Key) (place : ℕ) → (named : Entry) × (slice_get table place ≡ Some named) × (has_key named key ≡ true)
    → (entry : Entry) → slice_get table place ≡ Some entry → Taken key entry
taken key place named entry at =
    let same : named.0 ≡ entry = let both : Some named.0 ≡ Some entry = sym named.1 ∙ at in cc in
    let has : has_key entry key ≡ true = sym (ap (λ e. has_key e key) same) ∙ named.2 in
    let listed = among-slice_get entry table place at in
    record { listed = listed; has = has; only = λ other m h. one_entry other entry key m listed h has }

pub entry_at-requires : goal.entry_at-requires
entry_at-requires g c = let named = c.cell-cell.ensures.filled c.if-cell.false in slice_get_within table _ _ named.1

pub returns-then-cell-clause-none : goal.returns-then-cell-clause-none
returns-then-cell-clause-none g c = c.cell-cell.ensures.empty c.if-cell.true

pub returns-then-cell-clause-exact : goal.returns-then-cell-clause-exact
returns-then-cell-clause-exact g c =
    sym (no-find (λ entry. has_key entry c.args.key.now) table (c.cell-cell.ensures.empty c.if-cell.true))

pub returns-else-cell-clause-found : goal.returns-else-cell-clause-found
returns-else-cell-clause-found g c =
    let at = taken c.args.key.now _ (c.cell-cell.ensures.filled c.if-cell.false) c.entry_at.result
    c.entry_at.ensures.entry in
    (at.listed, at.has, at.only)

pub returns-else-cell-clause-exact : goal.returns-else-cell-clause-exact
returns-else-cell-clause-exact g c =
    let at = taken c.args.key.now _ (c.cell-cell.ensures.filled c.if-cell.false) c.entry_at.result
    c.entry_at.ensures.entry in
    sym (find-only (λ entry. has_key entry c.args.key.now) table c.entry_at.result at.listed at.has at.only)
