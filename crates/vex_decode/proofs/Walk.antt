-- A decode reads again what a row writes, and what it reads was so written.
use Rattle.std.specs.Prelude.{◌≡◌, refl, ◌⊎◌, ℕ, Bool, true, false, ◌||◌, ◌==◌, List, [], ◌∷◌, ◌++◌, map, Ok}
use Rattle.std.specs.Prelude.{Option, Some, None, if◌then◌else◌}
use Rattle.std.specs.List.{list_all, list_any}
use Rattle.std.proofs.Common.{arith, ap, ap₂, sym, ◌∙◌, inl, inr, subst, append_assoc}
use Rattle.std.proofs.lemmas.Bool.{eqb-true, eq-eqb}
use Rattle.x86_opcode.specs.declared.Opcode.{Opcode}
use Rattle.x86_operand.specs.Kind.{Kind, WithoutModRM}
use Rattle.x86_address.specs.Bytes.{IsBytes}
use Rattle.x86_address.specs.Place.{place_bytes}
use Rattle.x86_address.specs.Reading.{take_byte}
use Rattle.x86_address.specs.Reading.Lemmas.{Answers, Answers-ok, Answers-bind, ReadsByte, take_byte-written}
use Rattle.vex_rows.specs.declared.entry.Entry.{Entry}
use Rattle.vex_rows.specs.declared.key.Map.{Map}
use Rattle.vex_rows.specs.declared.key.Map.TheVariants.{Map0F, Map0F38, Map0F3A}
use Rattle.vex_rows.specs.declared.key.Pp.{Pp}
use Rattle.vex_rows.specs.declared.key.Pp.TheVariants.{Plain, Prefix66, PrefixF3, PrefixF2}
use Rattle.vex_rows.specs.Rules.{has_key, allows, map_number, pp_number}
use Rattle.vex_rows.specs.declared.steps.Check.{Check}
use Rattle.vex_rows.specs.declared.steps.Check.TheVariants.{V0, L0, Reg, Mem, Group, VifMem}
use Rattle.vex_rows.specs.Steps.{steps}
use Rattle.vex_rows.specs.Groups.{groups}
use Rattle.vex_rows.specs.Table.{table}
use Rattle.vex_rows.specs.Row.{Row, Among, IsRow, is_memory, is_group, is_group_check, has_groups, group_choices}
use Rattle.vex_rows.specs.Row.{permits_choice, group_allowed, has_imm}
use Rattle.vex_rows.specs.WellFormed.{is_prefix_check, is_modrm_check, is_late_check}
use Rattle.vex_rows.specs.Row.Lists.{both-parts, from-list_all, list_all-each, found-find, find-only, among-append_left}
use Rattle.vex_rows.specs.Row.Lists.{among-append_right, from-map}
use Rattle.vex_rows.specs.Row.Lemmas.{Chosen, chosen-row, row-chosen, checks_of}
use Rattle.vex_rows.specs.Table.Lemmas.{one_entry, from-has_key, to-has_key}
use Rattle.vex_forms.specs.declared.slot.VvvvRule.{VvvvRule}
use Rattle.vex_forms.specs.declared.slot.VvvvRule.TheVariants.{Named, Zero, Free}
use Rattle.vex_forms.specs.Slots.{v_rule, demands_v}
use Rattle.vex_forms.specs.Slots.Lemmas.{demanded, v_rule-demanded, v_rule-zero}
use Rattle.vex_forms.specs.Fields.{Fields, fields_of}
use Rattle.vex_rows.specs.declared.key.Prefix.{Prefix}
use Rattle.vex_decode.specs.NotedWalk.{HasEntry}
use Rattle.vex_decode.specs.Fields.{PrefixForm, prefix_bytes, IsPrefix}
use Rattle.vex_decode.specs.Spelling.{Syntax, imm_bytes, bytes_of, FitsRule, FitsGroup, IsSyntax}
use Rattle.vex_forms.specs.FormWalk.{passes, Operands, walk_form, row_of}
use Rattle.vex_forms.specs.FormWalk.Lemmas.{Passed, ordered, checks_permit}
use Rattle.vex_decode.specs.Walk.{read_prefix, key_of, entry_of, found, syntax_of, walk}
use Rattle.vex_decode.proofs.Prefix.{is_one-bit, ReadsPrefix, read_prefix-again, read_prefix-written}
use Rattle.vex_decode.proofs.Form.{ReadsForm, WritesForm, step_then, walk_form-again, form-written}

-- an element that passes a test makes some element pass it
any-among : {A : Type 0} (p : A → Bool) (x : A) (xs : List A) → Among x xs → p x ≡ true → list_any p xs ≡ true
any-among p x [] m h = absurd m
any-among p x (y ∷ xs) (inl e) h = rw (sym (ap p e) ∙ h) refl
any-among p x (y ∷ xs) (inr m) h = or_true (p y) (list_any p xs) (any-among p x xs m h) where
  or_true : (a b : Bool) → b ≡ true → (a || b) ≡ true
  or_true true b k = refl
  or_true false b k = k

or_left : (a b : Bool) → a ≡ true → (a || b) ≡ true
or_left true b h = refl
or_left false b h = cc

or_right : (a b : Bool) → b ≡ true → (a || b) ≡ true
or_right true b h = refl
or_right false b h = h

zero_of_rule : (rule : VvvvRule) (v : ℕ) → FitsRule rule v → rule ≡ Zero → v ≡ 0
zero_of_rule Named v fits e = cc
zero_of_rule Zero v fits e = fits
zero_of_rule Free v fits e = cc

module _ (row : Row) (s : Syntax) (chosen : Chosen row) (is : IsSyntax row s) where
  -- vvvv is 0 where a step demands it
  v_before_modrm : (c : Check) → Among c (steps row.entry.form).before_modrm → demands_v row.kind c ≡ true
      → (s.fields.v == 0) ≡ true
  v_before_modrm c m h = eq-eqb _ _ (zero_of_rule (v_rule row) s.fields.v is.v
      (v_rule-demanded row (or_left _ _ (any-among (demands_v row.kind) c (steps row.entry.form).before_modrm m h))))

  v_after_address : (c : Check) → Among c (steps row.entry.form).after_address → demands_v row.kind c ≡ true
      → (s.fields.v == 0) ≡ true
  v_after_address c m h = eq-eqb _ _ (zero_of_rule (v_rule row) s.fields.v is.v
      (v_rule-demanded row (or_right _ _ (any-among (demands_v row.kind) c (steps row.entry.form).after_address m h))))

  -- each check of the row's choice holds
  chosen_before_modrm : (c : Check) → Among c (steps row.entry.form).before_modrm → permits_choice row c ≡ true
  chosen_before_modrm c m = from-list_all (permits_choice row) c (checks_of row.entry) chosen.checks
      (among-append_left c _ _ (among-append_left c _ _ m))

  chosen_after_modrm : (c : Check) → Among c (steps row.entry.form).after_modrm → permits_choice row c ≡ true
  chosen_after_modrm c m = from-list_all (permits_choice row) c (checks_of row.entry) chosen.checks
      (among-append_left c _ _ (among-append_right c (steps row.entry.form).before_modrm _ m))

  chosen_after_address : (c : Check) → Among c (steps row.entry.form).after_address → permits_choice row c ≡ true
  chosen_after_address c m = from-list_all (permits_choice row) c (checks_of row.entry) chosen.checks
      (among-append_right c ((steps row.entry.form).before_modrm ++ (steps row.entry.form).after_modrm) _ m)

  passes_before_modrm : (c : Check) → Among c (steps row.entry.form).before_modrm
      → passes row.entry s.fields WithoutModRM 0 c ≡ true
  passes_before_modrm V0 m = v_before_modrm V0 m refl
  passes_before_modrm L0 m = subst (λ l. (l == 0) ≡ true) (sym is.l) (chosen_before_modrm L0 m)
  passes_before_modrm Reg m = cc (from-list_all is_prefix_check Reg _ (ordered row.entry).before_modrm m)
  passes_before_modrm Mem m = cc (from-list_all is_prefix_check Mem _ (ordered row.entry).before_modrm m)
  passes_before_modrm Group m = cc (from-list_all is_prefix_check Group _ (ordered row.entry).before_modrm m)
  passes_before_modrm VifMem m = cc (from-list_all is_prefix_check VifMem _ (ordered row.entry).before_modrm m)

-- where a form has groups, a row has one, which is the reg field
group_by : (form : _) (l reg : ℕ) (group : Option ℕ) → has_groups form ≡ true → Among group (group_choices form l)
    → group_allowed form l group ≡ true → FitsGroup group reg → is_group (groups form l) reg ≡ true
group_by form l reg None has m allowed fits =
    let e : group_choices form l ≡ map (λ g. Some g.0) (groups form l) = rw has refl in
    let from = from-map (λ g. Some g.0) None (groups form l) (subst (Among None) e m) in
    cc (from.2)
group_by form l reg (Some g) has m allowed fits = subst (λ n. is_group (groups form l) n ≡ true) (sym fits) allowed

has_groups-checked : (row : Row) → Among Group (steps row.entry.form).after_modrm → has_groups row.entry.form ≡ true
unfolding has_groups
has_groups-checked row m = any-among is_group_check Group (steps row.entry.form).after_modrm m refl

if_memory : (b : Bool) (t : Bool) → (b ≡ true → t ≡ true) → (if b then t else true) ≡ true
if_memory true t h = h refl
if_memory false t h = refl

module _ (row : Row) (s : Syntax) (chosen : Chosen row) (is : IsSyntax row s) where
  passes_after_modrm : (c : Check) → Among c (steps row.entry.form).after_modrm
      → passes row.entry s.fields row.kind s.reg c ≡ true
  passes_after_modrm V0 m = cc (from-list_all is_modrm_check V0 _ (ordered row.entry).after_modrm m)
  passes_after_modrm L0 m = cc (from-list_all is_modrm_check L0 _ (ordered row.entry).after_modrm m)
  passes_after_modrm Reg m = chosen_after_modrm row s chosen is Reg m
  passes_after_modrm Mem m = chosen_after_modrm row s chosen is Mem m
  passes_after_modrm Group m =
      let has : has_groups row.entry.form ≡ true = has_groups-checked row m in
      subst (λ l. is_group (groups row.entry.form l) s.reg ≡ true) (sym is.l)
      (group_by row.entry.form row.l s.reg row.group has chosen.group (chosen_after_modrm row s chosen is Group m)
      is.group)
  passes_after_modrm VifMem m = cc (from-list_all is_modrm_check VifMem _ (ordered row.entry).after_modrm m)

  passes_after_address : (c : Check) → Among c (steps row.entry.form).after_address
      → passes row.entry s.fields row.kind s.reg c ≡ true
  passes_after_address V0 m = cc (from-list_all is_late_check V0 _ (ordered row.entry).after_address m)
  passes_after_address L0 m = cc (from-list_all is_late_check L0 _ (ordered row.entry).after_address m)
  passes_after_address Reg m = chosen_after_address row s chosen is Reg m
  passes_after_address Mem m = cc (from-list_all is_late_check Mem _ (ordered row.entry).after_address m)
  passes_after_address Group m = cc (from-list_all is_late_check Group _ (ordered row.entry).after_address m)
  passes_after_address VifMem m = if_memory (is_memory row.kind) (s.fields.v == 0)
      (λ memory. v_after_address row s chosen is VifMem m memory)

  -- what the form of a row writes passes its steps
  writes_form : WritesForm row.entry s.fields (record { kind = row.kind; reg = s.reg; place = s.place; imm = s.imm })
  unfolding has_imm
  writes_form = record {
    before_modrm = list_all-each _ _ (passes_before_modrm row s chosen is);
    after_modrm = list_all-each _ _ passes_after_modrm;
    after_address = list_all-each _ _ passes_after_address;
    kind = chosen.kind;
    of_kind = is.kind;
    reg = is.reg;
    place = is.place;
    imm = is.imm;
  }

-- the number of a map or an implied prefix says which it is
map_number-same : (a b : Map) → map_number a ≡ map_number b → a ≡ b
map_number-same Map0F Map0F e = refl
map_number-same Map0F38 Map0F38 e = refl
map_number-same Map0F3A Map0F3A e = refl
map_number-same _ _ e = absurd (omega arith)

pp_number-same : (a b : Pp) → pp_number a ≡ pp_number b → a ≡ b
pp_number-same Plain Plain e = refl
pp_number-same Prefix66 Prefix66 e = refl
pp_number-same PrefixF3 PrefixF3 e = refl
pp_number-same PrefixF2 PrefixF2 e = refl
pp_number-same _ _ e = absurd (omega arith)

-- an entry is found by each key that it has
pub entry_of-again : (entry : Entry) (f : Fields) → Among entry table → f.map ≡ entry.map → f.pp ≡ entry.pp
    → allows entry.w f.w ≡ true → allows entry.l (f.l == 1) ≡ true → entry_of (key_of f entry.byte) ≡ Some entry
unfolding entry_of
entry_of-again entry f m map pp w l =
    let key = key_of f entry.byte in
    let has : has_key entry key ≡ true = to-has_key entry key
    (record { byte = refl; map = ap map_number (sym map); pp = ap pp_number (sym pp); w = w; l = l }) in
    find-only (λ e. has_key e key) table entry m has (λ other n h. one_entry other entry key n m h has)

-- what is found has the key
pub record Finds (entry : Entry) (f : Fields) (byte : ℕ) : Type 0 where
  pub listed : Among entry table
  pub byte_is : entry.byte ≡ byte
  pub map : f.map ≡ entry.map
  pub pp : f.pp ≡ entry.pp
  pub w : allows entry.w f.w ≡ true
  pub l : allows entry.l (f.l == 1) ≡ true

pub entry_of-finds : (f : Fields) (byte : ℕ) (entry : Entry) → entry_of (key_of f byte) ≡ Some entry
    → Finds entry f byte
unfolding entry_of
entry_of-finds f byte entry e =
    let got = found-find (λ entry. has_key entry (key_of f byte)) table entry e in
    let has = from-has_key entry (key_of f byte) got.1 in
    record {
      listed = got.0;
      byte_is = has.byte;
      map = map_number-same _ _ (sym has.map);
      pp =
          pp_number-same _ _ (sym has.pp);
      w = has.w;
      l = has.l;
    }

-- an entry that has the key has the fields of the prefix
pub has_entry : (prefix : Prefix) (byte : ℕ) (entry : Entry) → Among entry table
    → has_key entry (record { map = prefix.map; pp = prefix.pp; byte = byte; w = prefix.w; l = prefix.l }) ≡ true
    → HasEntry prefix byte entry
has_entry prefix byte entry listed has =
    let same = ap (λ l. has_key entry (record { map = prefix.map; pp = prefix.pp; byte = byte; w = prefix.w; l = l }))
    (is_one-bit prefix.l) in
    let is = from-has_key entry (key_of (fields_of prefix) byte) (same ∙ has) in
    record {
      listed = listed;
      chosen = record {
        map = sym (map_number-same _ _ (sym is.map));
        pp = sym (pp_number-same _ _ (sym is.pp));
        w =
            is.w;
        l = is.l;
      };
    }

-- the group of a row is the reg field that was written
group-same : (has : Bool) (gs : List (ℕ × Opcode)) (group : Option ℕ) (reg : ℕ)
    → Among group (if has then map (λ g. Some g.0) gs else None ∷ []) → FitsGroup group reg
    → (if has then Some reg else None) ≡ group
group-same true gs None reg m fits = cc ((from-map (λ g. Some g.0) None gs m).2)
group-same true gs (Some g) reg m fits = ap Some fits
group-same false gs group reg (inl e) fits = sym e
group-same false gs group reg (inr e) fits = absurd e

group_of_row : (row : Row) (reg : ℕ) → Chosen row → FitsGroup row.group reg
    → (if has_groups row.entry.form then Some reg else None) ≡ row.group
group_of_row row reg chosen fits = group-same (has_groups row.entry.form) (groups row.entry.form row.l) row.group reg
    chosen.group fits

-- the bytes of a spelling with what follows them
spelling_then : (row : Row) (s : Syntax) (rest : List ℕ)
    → bytes_of row s ++ rest ≡ prefix_bytes s.form s.fields ++ row.entry.byte
    ∷ (place_bytes s.reg s.place ++ (imm_bytes (has_imm row) s.imm ++ rest))
spelling_then row s rest =
    append_assoc (prefix_bytes s.form s.fields)
    (row.entry.byte ∷ (place_bytes s.reg s.place ++ imm_bytes (has_imm row) s.imm)) rest
    ∙ ap (λ tail. prefix_bytes s.form s.fields ++ row.entry.byte ∷ tail)
    (append_assoc (place_bytes s.reg s.place) (imm_bytes (has_imm row) s.imm) rest)

-- what a row writes is read again, whatever follows it
pub walk-again : (row : Row) (s : Syntax) (rest : List ℕ) → IsRow row → IsSyntax row s
    → walk (bytes_of row s ++ rest) ≡ Ok ((row, s), rest)
unfolding walk has_imm
walk-again row s rest is_row is =
    let chosen = chosen-row row is_row in
    let after : List ℕ = place_bytes s.reg s.place ++ (imm_bytes (has_imm row) s.imm ++ rest) in
    let operands : Operands = record { kind = row.kind; reg = s.reg; place = s.place; imm = s.imm } in
    let w : allows row.entry.w s.fields.w ≡ true = subst (λ w. allows row.entry.w w ≡ true) (sym is.w) chosen.w in
    let l : allows row.entry.l (s.fields.l == 1) ≡ true =
    subst (λ l. allows row.entry.l (l == 1) ≡ true) (sym is.l) chosen.l in
    let found_is = entry_of-again row.entry s.fields chosen.listed is.map is.pp w l in
    let group = group_of_row row s.reg chosen is.group in
    ap walk (spelling_then row s rest)
    ∙ step_then (read_prefix (prefix_bytes s.form s.fields ++ row.entry.byte ∷ after)) _
    ((s.form, s.fields), row.entry.byte ∷ after) _
    (read_prefix-again s.form s.fields (row.entry.byte ∷ after) is.prefix)
    (step_then (found (entry_of (key_of s.fields row.entry.byte)) after) _ (row.entry, after) _
    (ap (λ o. found o after) found_is)
    (step_then (walk_form row.entry s.fields after) _ (operands, rest) _
    (walk_form-again row.entry s.fields operands rest (writes_form row s chosen is))
    (λ i. Ok ((record { entry = row.entry; w = is.w i; l = is.l i; kind = row.kind; group = group i }, s), rest))))

-- what a decode has read, and how it was written
pub record Walked (bytes : List ℕ) (row : Row) (s : Syntax) (rest : List ℕ) : Type 0 where
  pub is_row : IsRow row
  pub is : IsSyntax row s
  pub written : bytes ≡ bytes_of row s ++ rest
  pub left : IsBytes rest

found-finds : (f : Fields) (byte : ℕ) (bytes : List ℕ)
    → Answers (λ entry rest. Finds entry f byte × (rest ≡ bytes)) (found (entry_of (key_of f byte)) bytes)
found-finds f byte bytes = by (entry_of (key_of f byte)) refl where
  by : (o : Option Entry) → entry_of (key_of f byte) ≡ o
      → Answers (λ entry rest. Finds entry f byte × (rest ≡ bytes)) (found o bytes)
  by None e = λ value rest h. cc
  by (Some entry) e = Answers-ok _ entry bytes (entry_of-finds f byte entry e, refl)

-- a group check that passes
group_passed : (entry : Entry) (f : Fields) (kind : Kind) (reg : ℕ) (cs : List Check)
    → list_any is_group_check cs ≡ true → list_all (passes entry f kind reg) cs ≡ true
    → is_group (groups entry.form f.l) reg ≡ true
group_passed entry f kind reg [] any all = cc
group_passed entry f kind reg (Group ∷ cs) any all = (both-parts (is_group (groups entry.form f.l) reg) _ all).0
group_passed entry f kind reg (V0 ∷ cs) any all =
    group_passed entry f kind reg cs any (both-parts (passes entry f kind reg V0) _ all).1
group_passed entry f kind reg (L0 ∷ cs) any all =
    group_passed entry f kind reg cs any (both-parts (passes entry f kind reg L0) _ all).1
group_passed entry f kind reg (Reg ∷ cs) any all =
    group_passed entry f kind reg cs any (both-parts (passes entry f kind reg Reg) _ all).1
group_passed entry f kind reg (Mem ∷ cs) any all =
    group_passed entry f kind reg cs any (both-parts (passes entry f kind reg Mem) _ all).1
group_passed entry f kind reg (VifMem ∷ cs) any all =
    group_passed entry f kind reg cs any (both-parts (passes entry f kind reg VifMem) _ all).1

is_group-among : (gs : List (ℕ × Opcode)) (reg : ℕ) → is_group gs reg ≡ true → Among (Some reg) (map (λ g. Some g.0) gs)
is_group-among [] reg h = cc
is_group-among (g ∷ gs) reg h = by (g.0 == reg) refl h (is_group-among gs reg) where
  by : (b : Bool) → (g.0 == reg) ≡ b → (b || is_group gs reg) ≡ true
      → (is_group gs reg ≡ true → Among (Some reg) (map (λ g. Some g.0) gs))
      → Among (Some reg) (map (λ g. Some g.0) (g ∷ gs))
  by true e h next = inl (ap Some (sym (eqb-true _ _ e)))
  by false e h next = inr (next h)

group_read : (has : Bool) (gs : List (ℕ × Opcode)) (reg : ℕ) → (has ≡ true → is_group gs reg ≡ true)
    → Among (if has then Some reg else None) (if has then map (λ g. Some g.0) gs else None ∷ [])
group_read true gs reg h = is_group-among gs reg (h refl)
group_read false gs reg h = inl refl

fits_group : (has : Bool) (reg : ℕ) → FitsGroup (if has then Some reg else None) reg
fits_group true reg = refl
fits_group false reg = tt

-- a check that demands that vvvv is 0, and passes
v_passed_before_modrm : (entry : Entry) (f : Fields) (kind : Kind) (cs : List Check)
    → list_all is_prefix_check cs ≡ true → list_any (demands_v kind) cs ≡ true
    → list_all (passes entry f WithoutModRM 0) cs ≡ true → f.v ≡ 0
v_passed_before_modrm entry f kind [] ok any all = cc
v_passed_before_modrm entry f kind (V0 ∷ cs) ok any all = eqb-true _ _ (both-parts (f.v == 0) _ all).0
v_passed_before_modrm entry f kind (L0 ∷ cs) ok any all =
    v_passed_before_modrm entry f kind cs (both-parts (is_prefix_check L0) _ ok).1 any
    (both-parts (passes entry f WithoutModRM 0 L0) _ all).1
v_passed_before_modrm entry f kind (_ ∷ cs) ok any all = cc

v_passed_after_address : (entry : Entry) (f : Fields) (kind : Kind) (reg : ℕ) (cs : List Check)
    → list_all is_late_check cs ≡ true → list_any (demands_v kind) cs ≡ true
    → list_all (passes entry f kind reg) cs ≡ true → f.v ≡ 0
v_passed_after_address entry f kind reg [] ok any all = cc
v_passed_after_address entry f kind reg (Reg ∷ cs) ok any all =
    v_passed_after_address entry f kind reg cs (both-parts (is_late_check Reg) _ ok).1 any
    (both-parts (passes entry f kind reg Reg) _ all).1
v_passed_after_address entry f kind reg (VifMem ∷ cs) ok any all =
    by (is_memory kind) any (both-parts (if is_memory kind then f.v == 0 else true)
    (list_all (passes entry f kind reg) cs) all)
    (λ later. v_passed_after_address entry f kind reg cs (both-parts (is_late_check VifMem) _ ok).1 later) where
      by : (b : Bool) → (b || list_any (demands_v kind) cs) ≡ true
          → ((if b then f.v == 0 else true) ≡ true) × (list_all (passes entry f kind reg) cs ≡ true)
          → (list_any (demands_v kind) cs ≡ true → list_all (passes entry f kind reg) cs ≡ true → f.v ≡ 0) → f.v ≡ 0
      by true h k next = eqb-true _ _ k.0
      by false h k next = next h k.1
v_passed_after_address entry f kind reg (_ ∷ cs) ok any all = cc

either_true : (a b : Bool) → (a || b) ≡ true → (a ≡ true) ⊎ (b ≡ true)
either_true true b h = inl refl
either_true false b h = inr h

fits_rule : (rule : VvvvRule) (v : ℕ) → (rule ≡ Zero → v ≡ 0) → FitsRule rule v
fits_rule Named v h = tt
fits_rule Zero v h = h refl
fits_rule Free v h = tt

module _ (entry : Entry) (form : PrefixForm) (f : Fields) (byte : ℕ) (bytes : List ℕ) (read : Operands) (rest : List ℕ)
    (is_prefix : IsPrefix form f) (finds : Finds entry f byte) (reads : ReadsForm entry f bytes read rest) where
  group_checked : has_groups entry.form ≡ true → is_group (groups entry.form f.l) read.reg ≡ true
  unfolding has_groups
  group_checked h = group_passed entry f read.kind read.reg (steps entry.form).after_modrm h reads.after_modrm

  passed : Passed entry f read
  passed = record {
    before_modrm = reads.before_modrm;
    after_modrm = reads.after_modrm;
    after_address = reads.after_address;
    kind = reads.kind;
    place = reads.of_kind;
  }

  chosen_read : Chosen (row_of entry f read)
  chosen_read = record {
    listed = finds.listed;
    w = finds.w;
    l = finds.l;
    one_bit = is_prefix.l;
    kind = reads.kind;
    group = group_read (has_groups entry.form) (groups entry.form f.l) read.reg group_checked;
    checks = checks_permit entry f read passed;
  }

  v_demanded : demanded (row_of entry f read) ≡ true → f.v ≡ 0
  v_demanded h = elim (either_true (list_any (demands_v read.kind) (steps entry.form).before_modrm)
      (list_any (demands_v read.kind) (steps entry.form).after_address) h) [
        | inl k ↦ v_passed_before_modrm entry f read.kind (steps entry.form).before_modrm (ordered entry).before_modrm k
            reads.before_modrm
        | inr k ↦ v_passed_after_address entry f read.kind read.reg (steps entry.form).after_address
            (ordered entry).after_address k reads.after_address
      ]

  syntax_read : IsSyntax (row_of entry f read) (syntax_of form f read)
  unfolding has_imm
  syntax_read = record {
    prefix = is_prefix;
    map = finds.map;
    pp = finds.pp;
    w = refl;
    l = refl;
    reg = reads.reg;
    place = reads.place;
    kind = reads.of_kind;
    group = fits_group (has_groups entry.form) read.reg;
    v = fits_rule (v_rule (row_of entry f read)) f.v (λ zero. v_demanded (v_rule-zero (row_of entry f read) zero).1);
    imm = reads.imm;
  }

-- what a decode reads was written by the row that it chose
pub walk-written : (bytes : List ℕ) → IsBytes bytes
    → Answers (λ read rest. Walked bytes read.0 read.1 rest) (walk bytes)
unfolding walk has_imm
walk-written bytes is =
    Answers-bind (λ v r. ReadsPrefix bytes (v, r)) _ (read_prefix bytes) _
    (λ v r e. read_prefix-written bytes (v, r) is e) (λ prefix r1 reads_prefix.
    Answers-bind (ReadsByte r1) _ (take_byte r1) _ (take_byte-written r1 reads_prefix.left) (λ byte r2 reads_byte.
    Answers-bind (λ entry r. Finds entry prefix.1 byte × (r ≡ r2)) _ (found (entry_of (key_of prefix.1 byte)) r2) _
    (found-finds prefix.1 byte r2) (λ entry r3 finds.
    Answers-bind (ReadsForm entry prefix.1 r3) _ (walk_form entry prefix.1 r3) _
    (form-written entry prefix.1 r3 (subst IsBytes (sym finds.1) reads_byte.left)) (λ operands r4 reads.
    let row : Row = row_of entry prefix.1 operands in
    let s : Syntax = syntax_of prefix.0 prefix.1 operands in
    Answers-ok (λ read rest. Walked bytes read.0 read.1 rest) (row, s) r4 (record {
      is_row = row-chosen row (chosen_read entry prefix.0 prefix.1 byte r3 operands r4 reads_prefix.is_prefix finds.0
          reads);
      is = syntax_read entry prefix.0 prefix.1 byte r3 operands r4 reads_prefix.is_prefix finds.0 reads;
      written = reads_prefix.written
          ∙ ap (λ tail. prefix_bytes prefix.0 prefix.1 ++ tail)
          (reads_byte.written ∙ ap₂ ◌∷◌ (sym finds.0.byte_is) (sym finds.1 ∙ reads.written))
          ∙ sym (spelling_then row s r4);
      left = reads.left;
    })))))
