-- Lemmas on the walk of a form, and that no contract cites: what has passed where it answers, and that the row that it
-- chooses is a row.
use Rattle.std.specs.Prelude.{◌≡◌, refl, ◌⊎◌, ℕ, ◌/◌, ◌%◌, Bool, true, false, not, ◌&&◌, ◌||◌, ◌==◌, List, [], ◌∷◌}
use Rattle.std.specs.Prelude.{◌++◌, Some, None, Ok, Err, if◌then◌else◌}
use Rattle.std.specs.List.{list_all, list_any}
use Rattle.std.proofs.Common.{ap, ap₂, sym, ◌∙◌, inl, inr, subst, arith}
use Rattle.std.proofs.lemmas.Bool.{eqb-true}
use Rattle.x86_operand.specs.Kind.{Kind, WithoutModRM, InRegister, InMemory, memory_kind}
use Rattle.x86_address.specs.Bytes.{IsBytes}
use Rattle.x86_address.specs.Most.{TakesAtMost}
use Rattle.x86_address.specs.Most.Lemmas.{most_none, most_refused, most_then, most_if, most_wider, most_byte}
use Rattle.x86_address.specs.Most.Lemmas.{most_place}
use Rattle.x86_address.specs.Place.{Place, NoPlace, Direct, Based, RipBased, IsPlace, kind_of, IsOfKind, place_bytes}
use Rattle.x86_address.specs.Laws.{ReadingIsSpelling}
use Rattle.x86_address.specs.Reading.{Reading, ◌>>=◌, take_byte, take_doubleword, take_displacement, take_baseless}
use Rattle.x86_address.specs.Reading.{take_scaled, take_sib, take_place}
use Rattle.vex_rows.specs.declared.entry.Entry.{Entry}
use Rattle.vex_rows.specs.declared.form.Form.{Form}
use Rattle.vex_rows.specs.declared.steps.Check.{Check}
use Rattle.vex_rows.specs.declared.steps.Check.TheVariants.{V0, L0, Reg, Mem, Group, VifMem}
use Rattle.vex_rows.specs.Rules.{allows}
use Rattle.vex_rows.specs.FormRows.{gathers}
use Rattle.vex_rows.specs.Steps.{FormSteps, steps}
use Rattle.vex_rows.specs.Groups.{groups}
use Rattle.vex_rows.specs.Row.{Among, kinds_of, has_groups, is_group, is_register, is_memory_of, group_allowed}
use Rattle.vex_rows.specs.Row.{permits_choice, exists}
use Rattle.vex_rows.specs.WellFormed.{is_prefix_check, is_modrm_check, is_late_check, is_register_check}
use Rattle.vex_rows.specs.WellFormed.{is_memory_check, is_none, checks_address}
use Rattle.vex_rows.specs.Row.Lists.{both-parts, parts-both, from-list_all, list_all-each, among-append}
use Rattle.vex_rows.specs.Row.Lemmas.{checks_of}
use Rattle.vex_rows.specs.Steps.Lemmas.{orderly, gathers_checked}
use Rattle.vex_forms.specs.Fields.{Fields}
use Rattle.vex_forms.specs.FormWalk.{passes, refusal, check_all, kind_of_modrm, kind_by, take_imm, Operands, place_by}
use Rattle.vex_forms.specs.FormWalk.{walk_modrm, walk_alone, walk_form, row_of}
use Rattle.vex_forms.specs.Layout.Lemmas.{is_register-memory_kind, plain-memory_kind, vector_kind}
use Rattle.vex_forms.specs.Written.{imm_bytes, FitsReg, FitsImm}

-- ---- what a walk has passed

-- where one step after another answers, both do
then_ok : {A B : Type 0} (reading : Reading A) (next : A × List ℕ → Reading B) (answer : B × List ℕ)
    → (reading >>= next) ≡ Ok answer → (read : A × List ℕ) × (reading ≡ Ok read) × (next read ≡ Ok answer)
then_ok (Ok read) next answer e = (read, refl, e)
then_ok (Err error) next answer e = cc

same_answer : {A : Type 0} {x y : A × List ℕ} → ◌≡◌ {A = Reading A} (Ok x) (Ok y) → x ≡ y
same_answer e = cc

-- where the checks answer, all have passed
check_all-passed : (entry : Entry) (f : Fields) (kind : Kind) (reg : ℕ) (checks : List Check) (bytes : List ℕ)
    (answer : Unit {0} × List ℕ) → check_all entry f kind reg checks bytes ≡ Ok answer
    → list_all (passes entry f kind reg) checks ≡ true
check_all-passed entry f kind reg [] bytes answer e = refl
check_all-passed entry f kind reg (c ∷ checks) bytes answer e =
    by (passes entry f kind reg c) e (check_all-passed entry f kind reg checks bytes answer) where
      by : (b : Bool) → (if b then check_all entry f kind reg checks bytes else Err (refusal c, bytes)) ≡ Ok answer
          → (check_all entry f kind reg checks bytes ≡ Ok answer → list_all (passes entry f kind reg) checks ≡ true)
          → (b && list_all (passes entry f kind reg) checks) ≡ true
      by true e next = next e
      by false e next = cc

-- the place that was read is of this kind
abbrev Has : Kind → Place × List ℕ → Type 0
Has kind read = IsOfKind kind read.0

-- a place in memory that isn't that of a vector register
plain_place : (place : Place) → kind_of place ≡ InMemory → IsOfKind InMemory place
plain_place place memory = record { plain = memory; sib = λ vector. cc }

direct_place : (rm : ℕ) → IsOfKind InRegister (Direct rm)
direct_place rm = record { plain = refl; sib = λ vector. cc }

-- what is turned into a place has the kind of all such places
turned : {A : Type 0} (kind : Kind) (f : A → Place) (reading : Reading A) (answer : Place × List ℕ)
    → ((value : A) → IsOfKind kind (f value)) → (reading >>= (λ read. Ok (f read.0, read.1))) ≡ Ok answer
    → Has kind answer
turned kind f (Ok read) answer all e = subst (Has kind) (same_answer e) (all read.0)
turned kind f (Err error) answer all e = cc

either_has : (kind : Kind) (test : Bool) (one other : Reading Place) (answer : Place × List ℕ)
    → (one ≡ Ok answer → Has kind answer) → (other ≡ Ok answer → Has kind answer)
    → (if test then one else other) ≡ Ok answer → Has kind answer
either_has kind true one other answer p q e = p e
either_has kind false one other answer p q e = q e

sib_has : (vector : Bool) (mode : ℕ) (bytes : List ℕ) (answer : Place × List ℕ) → take_sib mode bytes ≡ Ok answer
    → Has (memory_kind vector) answer
sib_has vector mode [] answer e = cc
sib_has vector mode (sib ∷ bytes) answer e =
    let kind = memory_kind vector in
    let memory = sym (plain-memory_kind vector) in
    either_has kind (mode == 0 && sib % 8 == 5) (take_baseless sib bytes) (take_scaled mode sib bytes) answer
    (turned kind _ (take_doubleword bytes) answer (λ n. record { plain = memory; sib = λ v. refl }))
    (turned kind _ (take_displacement mode bytes) answer (λ d. record { plain = memory; sib = λ v. refl })) e

-- without SIB
based_has : (mode rm : ℕ) (bytes : List ℕ) (answer : Place × List ℕ)
    → (if mode == 0 && rm == 5 then take_doubleword bytes >>= (λ n. Ok (RipBased n.0, n.1)) else take_displacement mode
    bytes >>= (λ d. Ok (Based rm d.0, d.1))) ≡ Ok answer → Has InMemory answer
based_has mode rm bytes answer =
    either_has InMemory (mode == 0 && rm == 5) _ _ answer
    (turned InMemory RipBased (take_doubleword bytes) answer (λ n. plain_place _ refl))
    (turned InMemory (Based rm) (take_displacement mode bytes) answer (λ d. plain_place _ refl))

-- the fields mod and rm say the kind of the place that is read
place_has : (vector : Bool) (mode rm : ℕ) (bytes : List ℕ) (answer : Place × List ℕ)
    → take_place mode rm bytes ≡ Ok answer → Has (kind_of_modrm vector mode rm) answer
place_has vector mode rm bytes answer = by vector (mode == 3) (rm == 4) where
  by : (vector b four : Bool) → (if b then Ok (Direct rm, bytes) else
      (if four then take_sib mode bytes else if mode == 0 && rm == 5 then take_doubleword bytes >>=
      (λ n. Ok (RipBased n.0, n.1)) else take_displacement mode bytes >>= (λ d. Ok (Based rm d.0, d.1)))) ≡ Ok answer
      → Has (if b then InRegister else memory_kind (vector && four)) answer
  by vector true four e = subst (Has InRegister) (same_answer e) (direct_place rm)
  by vector false true e = sib_has (vector && true) mode bytes answer e
  by true false false e = based_has mode rm bytes answer e
  by false false false e = based_has mode rm bytes answer e

-- what a check of one sort tells, where the checks have passed and one of them is of that sort
check_tells : (entry : Entry) (f : Fields) (kind : Kind) (reg : ℕ) (is_sort : Check → Bool) (test : Kind → Bool)
    → ((c : Check) → is_sort c ≡ true → passes entry f kind reg c ≡ true → test kind ≡ true)
    → (checks : List Check) → list_any is_sort checks ≡ true → list_all (passes entry f kind reg) checks ≡ true
    → test kind ≡ true
check_tells entry f kind reg is_sort test tells [] any all = cc
check_tells entry f kind reg is_sort test tells (c ∷ checks) any all =
    let both = both-parts (passes entry f kind reg c) (list_all (passes entry f kind reg) checks) all in
    by (is_sort c) refl any (λ is. tells c is both.0)
    (λ next. check_tells entry f kind reg is_sort test tells checks next both.1) where
      by : (b : Bool) → is_sort c ≡ b → (b || list_any is_sort checks) ≡ true
          → (is_sort c ≡ true → test kind ≡ true) → (list_any is_sort checks ≡ true → test kind ≡ true)
          → test kind ≡ true
      by true e any here next = here e
      by false e any here next = next any

-- a form that reads no address has checked that the operand is a register
register_tells : (entry : Entry) (f : Fields) (kind : Kind) (reg : ℕ) (c : Check) → is_register_check c ≡ true
    → passes entry f kind reg c ≡ true → is_register kind ≡ true
register_tells entry f kind reg Reg is passed = passed
register_tells entry f kind reg _ is passed = cc

pub register_checked : (entry : Entry) (f : Fields) (kind : Kind) (reg : ℕ) (checks : List Check)
    → list_any is_register_check checks ≡ true → list_all (passes entry f kind reg) checks ≡ true
    → is_register kind ≡ true
register_checked entry f kind reg = check_tells entry f kind reg is_register_check is_register
    (register_tells entry f kind reg)

register_mod : (vector : Bool) (mode rm : ℕ) → is_register (kind_of_modrm vector mode rm) ≡ true → mode ≡ 3
register_mod vector mode rm = by (mode == 3) refl where
  by : (b : Bool) → (mode == 3) ≡ b → is_register (if b then InRegister else memory_kind (vector && rm == 4)) ≡ true
      → mode ≡ 3
  by true h r = eqb-true mode 3 h
  by false h r = let never : false ≡ true = sym (is_register-memory_kind (vector && rm == 4)) ∙ r in cc

register_passed : (entry : Entry) (f : Fields) (vector : Bool) (mode rm reg : ℕ) (checks : List Check)
    → list_any is_register_check checks ≡ true
    → list_all (passes entry f (kind_of_modrm vector mode rm) reg) checks ≡ true → mode ≡ 3
register_passed entry f vector mode rm reg checks any all =
    register_mod vector mode rm (register_checked entry f (kind_of_modrm vector mode rm) reg checks any all)

-- a form that gathers has checked that there is an address
memory_tells : (entry : Entry) (f : Fields) (kind : Kind) (reg : ℕ) (c : Check) → is_memory_check c ≡ true
    → passes entry f kind reg c ≡ true → is_memory_of (gathers entry.form) kind ≡ true
memory_tells entry f kind reg Mem is passed = passed
memory_tells entry f kind reg _ is passed = cc

memory_checked : (entry : Entry) (f : Fields) (kind : Kind) (reg : ℕ) (checks : List Check)
    → list_any is_memory_check checks ≡ true → list_all (passes entry f kind reg) checks ≡ true
    → is_memory_of (gathers entry.form) kind ≡ true
memory_checked entry f kind reg = check_tells entry f kind reg is_memory_check (is_memory_of (gathers entry.form))
    (memory_tells entry f kind reg)

-- so that its kind is one of the form's
modrm_kind : (vector : Bool) (mode rm : ℕ)
    → (vector ≡ true → is_memory_of vector (kind_of_modrm vector mode rm) ≡ true)
    → (kind_of_modrm vector mode rm ≡ InRegister) ⊎ (kind_of_modrm vector mode rm ≡ memory_kind vector)
modrm_kind true mode rm h = inr (vector_kind (kind_of_modrm true mode rm) (h refl))
modrm_kind false mode rm h = by (mode == 3) where
  by : (b : Bool) → ((if b then InRegister else InMemory) ≡ InRegister)
      ⊎ ((if b then InRegister else InMemory) ≡ InMemory)
  by true = inl refl
  by false = inr refl

-- the check of an address that the form has where it gathers
has_memory_check : (vector : Bool) (form : FormSteps) → checks_address vector form ≡ true → vector ≡ true
    → list_any is_memory_check form.after_modrm ≡ true
has_memory_check true form h v = (both-parts (form.modrm && form.address) (list_any is_memory_check form.after_modrm)
    h).1
has_memory_check false form h v = cc

place_by_has : (vector address : Bool) (mode rm : ℕ) (bytes : List ℕ) (answer : Place × List ℕ)
    → (address ≡ false → mode ≡ 3) → place_by address mode rm bytes ≡ Ok answer
    → Has (kind_of_modrm vector mode rm) answer
place_by_has vector true mode rm bytes answer direct e = place_has vector mode rm bytes answer e
place_by_has vector false mode rm bytes answer direct e =
    rw (direct refl) (subst (Has InRegister) (same_answer e) (direct_place rm))

-- the checks that have passed, and the kind of the operand E
pub record Passed (entry : Entry) (f : Fields) (operands : Operands) : Type 0 where
  pub before_modrm : list_all (passes entry f WithoutModRM 0) (steps entry.form).before_modrm ≡ true
  pub after_modrm : list_all (passes entry f operands.kind operands.reg) (steps entry.form).after_modrm ≡ true
  pub after_address : list_all (passes entry f operands.kind operands.reg) (steps entry.form).after_address ≡ true
  pub kind : Among operands.kind (kinds_of entry.form)
  pub place : IsOfKind operands.kind operands.place

-- those from ModRM on
record PassedModRM (entry : Entry) (f : Fields) (form : FormSteps) (operands : Operands) : Type 0 where
  after_modrm : list_all (passes entry f operands.kind operands.reg) form.after_modrm ≡ true
  after_address : list_all (passes entry f operands.kind operands.reg) form.after_address ≡ true
  kind : (operands.kind ≡ InRegister) ⊎ (operands.kind ≡ memory_kind (gathers entry.form))
  place : IsOfKind operands.kind operands.place

walk_modrm-passed : (entry : Entry) (f : Fields) (form : FormSteps) (bytes : List ℕ) (answer : Operands × List ℕ)
    → (form.address || list_any is_register_check form.after_modrm) ≡ true
    → checks_address (gathers entry.form) form ≡ true → walk_modrm entry f form bytes ≡ Ok answer
    → PassedModRM entry f form answer.0
walk_modrm-passed entry f form bytes answer direct address e =
    let modrm = then_ok (take_byte bytes) _ answer e in
    let mode : ℕ = modrm.0.0 / 64 in
    let rm : ℕ = modrm.0.0 % 8 in
    let reg : ℕ = (modrm.0.0 / 8) % 8 in
    let kind : Kind = kind_by entry modrm.0.0 in
    let second = then_ok (check_all entry f kind reg form.after_modrm modrm.0.1) _ answer modrm.2 in
    let place = then_ok (place_by form.address mode rm second.0.1) _ answer second.2 in
    let third = then_ok (check_all entry f kind reg form.after_address place.0.1) _ answer place.2 in
    let imm = then_ok (take_imm form.imm third.0.1) _ answer third.2 in
    let after_modrm = check_all-passed entry f kind reg form.after_modrm modrm.0.1 second.0 second.1 in
    let after_address = check_all-passed entry f kind reg form.after_address place.0.1 third.0 third.1 in
    let registers : form.address ≡ false → mode ≡ 3 =
    λ none. register_passed entry f (gathers entry.form) mode rm reg form.after_modrm
    (subst (λ a. (a || list_any is_register_check form.after_modrm) ≡ true) none direct) after_modrm in
    let found : PassedModRM entry f form (record { kind = kind; reg = reg; place = place.0.0; imm = imm.0.0 }) =
    record {
      after_modrm = after_modrm;
      after_address = after_address;
      kind = modrm_kind (gathers entry.form) mode rm
          (λ vector. memory_checked entry f kind reg form.after_modrm
          (has_memory_check (gathers entry.form) form address vector) after_modrm);
      place = place_by_has (gathers entry.form) form.address mode rm second.0.1 place.0 registers place.1;
    } in
    subst (λ read. PassedModRM entry f form read.0) (same_answer imm.2) found

no_place : IsOfKind WithoutModRM NoPlace
no_place = record { plain = refl; sib = λ vector. cc }

walk_alone-place : (form : FormSteps) (bytes : List ℕ) (answer : Operands × List ℕ) → walk_alone form bytes ≡ Ok answer
    → (answer.0.kind ≡ WithoutModRM) × IsOfKind answer.0.kind answer.0.place
walk_alone-place form bytes answer e =
    let imm = then_ok (take_imm form.imm bytes) _ answer e in
    subst (λ read. (read.0.kind ≡ WithoutModRM) × IsOfKind read.0.kind read.0.place) (same_answer imm.2)
    (refl, no_place)

-- ---- the order of the steps

-- the parts of the test of the order
pub record Ordered (form : FormSteps) : Type 0 where
  pub before_modrm : list_all is_prefix_check form.before_modrm ≡ true
  pub after_modrm : list_all is_modrm_check form.after_modrm ≡ true
  pub after_address : list_all is_late_check form.after_address ≡ true
  pub rest : (if form.modrm then form.address || list_any is_register_check form.after_modrm
      else is_none form.after_modrm && is_none form.after_address && not form.address) ≡ true

pub ordered : (entry : Entry) → Ordered (steps entry.form)
ordered entry =
    let form = steps entry.form in
    let all = both-parts (list_all is_prefix_check form.before_modrm && list_all is_modrm_check form.after_modrm &&
    list_all is_late_check form.after_address) _ (orderly entry.form) in
    let lists = both-parts (list_all is_prefix_check form.before_modrm && list_all is_modrm_check form.after_modrm)
    (list_all is_late_check form.after_address) all.0 in
    let two = both-parts (list_all is_prefix_check form.before_modrm) (list_all is_modrm_check form.after_modrm)
    lists.0 in
    record { before_modrm = two.0; after_modrm = two.1; after_address = lists.1; rest = all.1 }

none_pass : (entry : Entry) (f : Fields) (kind : Kind) (reg : ℕ) (checks : List Check) → is_none checks ≡ true
    → list_all (passes entry f kind reg) checks ≡ true
none_pass entry f kind reg [] h = refl
none_pass entry f kind reg (c ∷ checks) h = cc

-- where a walk answers, all checks have passed
pub walk_form-passed : (entry : Entry) (f : Fields) (bytes : List ℕ) (answer : Operands × List ℕ)
    → walk_form entry f bytes ≡ Ok answer → Passed entry f answer.0
unfolding walk_form
walk_form-passed entry f bytes answer e =
    let form = steps entry.form in
    let first = then_ok (check_all entry f WithoutModRM 0 form.before_modrm bytes) _ answer e in
    let before = check_all-passed entry f WithoutModRM 0 form.before_modrm bytes first.0 first.1 in
    by form.modrm refl before first.0.1 first.2
  where
    by : (b : Bool) → (steps entry.form).modrm ≡ b
        → list_all (passes entry f WithoutModRM 0) (steps entry.form).before_modrm ≡ true → (rest : List ℕ)
        → (if b then walk_modrm entry f (steps entry.form) rest else walk_alone (steps entry.form) rest) ≡ Ok answer
        → Passed entry f answer.0
    by true h before left e =
        let rest = subst (λ m. (if m then (steps entry.form).address || list_any is_register_check
        (steps entry.form).after_modrm else is_none (steps entry.form).after_modrm && is_none
        (steps entry.form).after_address && not (steps entry.form).address) ≡ true) h (ordered entry).rest in
        let passed = walk_modrm-passed entry f (steps entry.form) left answer rest (gathers_checked entry.form) e in
        record {
          before_modrm = before;
          after_modrm = passed.after_modrm;
          after_address = passed.after_address;
          kind = subst (λ m. Among answer.0.kind
              (if m then InRegister ∷ memory_kind (gathers entry.form) ∷ [] else WithoutModRM ∷ [])) (sym h)
              (elim passed.kind [ inl k ↦ inl k | inr k ↦ inr (inl k) ]);
          place = passed.place;
        }
    by false h before left e =
        let rest = subst (λ m. (if m then (steps entry.form).address || list_any is_register_check
        (steps entry.form).after_modrm else is_none (steps entry.form).after_modrm && is_none
        (steps entry.form).after_address && not (steps entry.form).address) ≡ true) h (ordered entry).rest in
        let none = both-parts (is_none (steps entry.form).after_modrm) (is_none (steps entry.form).after_address)
        (both-parts (is_none (steps entry.form).after_modrm && is_none (steps entry.form).after_address) _
        rest).0 in
        record {
          before_modrm = before;
          after_modrm = none_pass entry f _ _ _ none.0;
          after_address = none_pass entry f _ _ _ none.1;
          kind = subst (λ m. Among answer.0.kind
              (if m then InRegister ∷ memory_kind (gathers entry.form) ∷ [] else WithoutModRM ∷ [])) (sym h)
              (inl (walk_alone-place (steps entry.form) left answer e).0);
          place = (walk_alone-place (steps entry.form) left answer e).1;
        }

-- ---- the row that is chosen

allowed_group : (has : Bool) (form : Form) (l reg : ℕ) → is_group (groups form l) reg ≡ true
    → group_allowed form l (if has then Some reg else None) ≡ true
allowed_group true form l reg h = h
allowed_group false form l reg h = refl

module _ (entry : Entry) (f : Fields) (operands : Operands) (passed : Passed entry f operands) where
  permits_before : (c : Check) → Among c (steps entry.form).before_modrm
      → permits_choice (row_of entry f operands) c ≡ true
  permits_before V0 m = refl
  permits_before L0 m = from-list_all (passes entry f WithoutModRM 0) L0 _ passed.before_modrm m
  permits_before Reg m = cc (from-list_all is_prefix_check Reg _ (ordered entry).before_modrm m)
  permits_before Mem m = cc (from-list_all is_prefix_check Mem _ (ordered entry).before_modrm m)
  permits_before Group m = cc (from-list_all is_prefix_check Group _ (ordered entry).before_modrm m)
  permits_before VifMem m = refl

  permits_after_modrm : (c : Check) → Among c (steps entry.form).after_modrm
      → permits_choice (row_of entry f operands) c ≡ true
  permits_after_modrm V0 m = refl
  permits_after_modrm L0 m = cc (from-list_all is_modrm_check L0 _ (ordered entry).after_modrm m)
  permits_after_modrm Reg m = from-list_all (passes entry f operands.kind operands.reg) Reg _ passed.after_modrm m
  permits_after_modrm Mem m = from-list_all (passes entry f operands.kind operands.reg) Mem _ passed.after_modrm m
  permits_after_modrm Group m =
      allowed_group (has_groups entry.form) entry.form f.l operands.reg
      (from-list_all (passes entry f operands.kind operands.reg) Group _ passed.after_modrm m)
  permits_after_modrm VifMem m = refl

  permits_after_address : (c : Check) → Among c (steps entry.form).after_address
      → permits_choice (row_of entry f operands) c ≡ true
  permits_after_address V0 m = refl
  permits_after_address L0 m = cc (from-list_all is_late_check L0 _ (ordered entry).after_address m)
  permits_after_address Reg m = from-list_all (passes entry f operands.kind operands.reg) Reg _ passed.after_address m
  permits_after_address Mem m = cc (from-list_all is_late_check Mem _ (ordered entry).after_address m)
  permits_after_address Group m = cc (from-list_all is_late_check Group _ (ordered entry).after_address m)
  permits_after_address VifMem m = refl

  permits_each : (c : Check) → Among c (checks_of entry) → permits_choice (row_of entry f operands) c ≡ true
  permits_each c m = elim (among-append c ((steps entry.form).before_modrm ++ (steps entry.form).after_modrm)
      (steps entry.form).after_address m) [
        | inl k ↦ elim (among-append c (steps entry.form).before_modrm (steps entry.form).after_modrm k)
            [ inl n ↦ permits_before c n | inr n ↦ permits_after_modrm c n ]
        | inr k ↦ permits_after_address c k
      ]

  -- no check refuses the row that was chosen
  pub checks_permit : list_all (permits_choice (row_of entry f operands)) (checks_of entry) ≡ true
  checks_permit = list_all-each _ _ permits_each

  -- and where the entry's rules allow W and L, it exists
  pub chosen_exists : allows entry.w f.w ≡ true → allows entry.l (f.l == 1) ≡ true
      → exists (row_of entry f operands) ≡ true
  unfolding exists
  chosen_exists w l = parts-both _ _ (parts-both _ _ w l) checks_permit

-- ---- how many bytes a walk takes

most_checks : (entry : Entry) (f : Fields) (kind : Kind) (reg : ℕ) (checks : List Check)
    → TakesAtMost 0 (check_all entry f kind reg checks)
most_checks entry f kind reg [] = most_none _
most_checks entry f kind reg (c ∷ checks) =
    most_if 0 (passes entry f kind reg c) _ _ (most_checks entry f kind reg checks) (most_refused _)

most_imm : (has : Bool) → TakesAtMost 1 (take_imm has)
most_imm has = most_if 1 has _ _ most_byte (most_wider 0 1 _ (omega arith) (most_none _))

most_place_by : (address : Bool) (mode rm : ℕ) → TakesAtMost 5 (place_by address mode rm)
most_place_by address mode rm = most_if 5 address _ _ (most_place mode rm)
    (most_wider 0 5 _ (omega arith) (most_none _))

most_modrm : (entry : Entry) (f : Fields) (form : FormSteps) → TakesAtMost 7 (walk_modrm entry f form)
most_modrm entry f form =
    most_then 1 6 take_byte _ most_byte (λ modrm.
    most_then 0 6 (check_all entry f (kind_by entry modrm) ((modrm / 8) % 8) form.after_modrm) _
    (most_checks entry f _ _ form.after_modrm) (λ second.
    most_then 5 1 (place_by form.address (modrm / 64) (modrm % 8)) _
    (most_place_by form.address (modrm / 64) (modrm % 8)) (λ place.
    most_then 0 1 (check_all entry f (kind_by entry modrm) ((modrm / 8) % 8) form.after_address) _
    (most_checks entry f _ _ form.after_address) (λ third.
    most_then 1 0 (take_imm form.imm) _ (most_imm form.imm) (λ imm. most_none _)))))

most_alone : (form : FormSteps) → TakesAtMost 7 (walk_alone form)
most_alone form = most_wider 1 7 _ (omega arith)
    (most_then 1 0 (take_imm form.imm) _ (most_imm form.imm) (λ imm. most_none _))

-- at most seven
pub most_form : (entry : Entry) (f : Fields) → TakesAtMost 7 (walk_form entry f)
unfolding walk_form
most_form entry f =
    most_then 0 7 (check_all entry f WithoutModRM 0 (steps entry.form).before_modrm) _
    (most_checks entry f WithoutModRM 0 (steps entry.form).before_modrm) (λ first.
    most_if 7 (steps entry.form).modrm _ _ (most_modrm entry f (steps entry.form)) (most_alone (steps entry.form)))

-- ---- how the bytes that a walk takes are written

pub bytes_after : (xs ys : List ℕ) → IsBytes (xs ++ ys) → IsBytes ys
bytes_after [] ys is = is
bytes_after (x ∷ xs) ys is = bytes_after xs ys is.1

-- the bytes of a form's operands, and what is left
pub record Writes (form : FormSteps) (operands : Operands) (bytes rest : List ℕ) : Type 0 where
  pub reg : FitsReg form.modrm operands.reg
  pub place : IsPlace operands.place
  pub imm : FitsImm form.imm operands.imm
  pub written : bytes ≡ place_bytes operands.reg operands.place ++ (imm_bytes form.imm operands.imm ++ rest)

record WritesImm (has : Bool) (imm : ℕ) (bytes rest : List ℕ) : Type 0 where
  fits : FitsImm has imm
  written : bytes ≡ imm_bytes has imm ++ rest

imm_written : (has : Bool) (bytes : List ℕ) (answer : ℕ × List ℕ) → IsBytes bytes → take_imm has bytes ≡ Ok answer
    → WritesImm has answer.0 bytes answer.1
imm_written true [] answer is e = cc
imm_written true (byte ∷ bytes) answer is e =
    subst (λ read. WritesImm true read.0 (byte ∷ bytes) read.1) (same_answer e) (record { fits = is.0; written = refl })
imm_written false bytes answer is e = subst (λ read. WritesImm false read.0 bytes read.1) (same_answer e)
    (record { fits = refl; written = refl })

byte_stood : (bytes : List ℕ) (answer : ℕ × List ℕ) → take_byte bytes ≡ Ok answer → bytes ≡ answer.0 ∷ answer.1
byte_stood [] answer e = cc
byte_stood (byte ∷ bytes) answer e = ap₂ ◌∷◌ (ap (λ read. read.0) (same_answer e)) (ap (λ read. read.1) (same_answer e))

checks_take_none : (entry : Entry) (f : Fields) (kind : Kind) (reg : ℕ) (checks : List Check) (bytes : List ℕ)
    (answer : Unit {0} × List ℕ) → check_all entry f kind reg checks bytes ≡ Ok answer → bytes ≡ answer.1
checks_take_none entry f kind reg [] bytes answer e = ap (λ read. read.1) (same_answer e)
checks_take_none entry f kind reg (c ∷ checks) bytes answer e =
    by (passes entry f kind reg c) e (checks_take_none entry f kind reg checks bytes answer) where
      by : (b : Bool) → (if b then check_all entry f kind reg checks bytes else Err (refusal c, bytes)) ≡ Ok answer
          → (check_all entry f kind reg checks bytes ≡ Ok answer → bytes ≡ answer.1) → bytes ≡ answer.1
      by true e next = next e
      by false e next = cc

-- what place_by reads, take_place does, where the form that reads no address has checked that mod is 3
by_take_place : (address : Bool) (mode rm : ℕ) (bytes : List ℕ) (answer : Place × List ℕ)
    → (address ≡ false → mode ≡ 3) → place_by address mode rm bytes ≡ Ok answer → take_place mode rm bytes ≡ Ok answer
by_take_place true mode rm bytes answer direct e = e
by_take_place false mode rm bytes answer direct e = rw (direct refl) e

walk_modrm-written : ReadingIsSpelling → (entry : Entry) (f : Fields) (form : FormSteps) (bytes : List ℕ)
    (answer : Operands × List ℕ) → IsBytes bytes → form.modrm ≡ true
    → (form.address || list_any is_register_check form.after_modrm) ≡ true → walk_modrm entry f form bytes ≡ Ok answer
    → Writes form answer.0 bytes answer.1
walk_modrm-written place_read entry f form bytes answer is has direct e =
    let modrm = then_ok (take_byte bytes) _ answer e in
    let mode : ℕ = modrm.0.0 / 64 in
    let rm : ℕ = modrm.0.0 % 8 in
    let reg : ℕ = (modrm.0.0 / 8) % 8 in
    let kind : Kind = kind_by entry modrm.0.0 in
    let second = then_ok (check_all entry f kind reg form.after_modrm modrm.0.1) _ answer modrm.2 in
    let place = then_ok (place_by form.address mode rm second.0.1) _ answer second.2 in
    let third = then_ok (check_all entry f kind reg form.after_address place.0.1) _ answer place.2 in
    let imm = then_ok (take_imm form.imm third.0.1) _ answer third.2 in
    let after_modrm = check_all-passed entry f kind reg form.after_modrm modrm.0.1 second.0 second.1 in
    let registers : form.address ≡ false → mode ≡ 3 =
    λ none. register_passed entry f (gathers entry.form) mode rm reg form.after_modrm
    (subst (λ a. (a || list_any is_register_check form.after_modrm) ≡ true) none direct) after_modrm in
    let first = byte_stood bytes modrm.0 modrm.1 in
    let are : IsBytes (modrm.0.0 ∷ modrm.0.1) = subst IsBytes first is in
    let none_second = checks_take_none entry f kind reg form.after_modrm modrm.0.1 second.0 second.1 in
    let none_third = checks_take_none entry f kind reg form.after_address place.0.1 third.0 third.1 in
    let read : take_place mode rm modrm.0.1 ≡ Ok place.0 =
    ap (take_place mode rm) none_second ∙ by_take_place form.address mode rm second.0.1 place.0 registers
    place.1 in
    let stood = (place_read modrm.0.0 modrm.0.1 place.0.0 place.0.1 are.0 are.1).0 read in
    let left : IsBytes third.0.1 = subst IsBytes none_third
    (bytes_after (place_bytes reg place.0.0) place.0.1 (subst IsBytes stood.2 are)) in
    let last = imm_written form.imm third.0.1 imm.0 left imm.1 in
    let found : Writes form (record { kind = kind; reg = reg; place = place.0.0; imm = imm.0.0 }) bytes imm.0.1 =
    record {
      reg = subst (λ m. FitsReg m reg) (sym has) (omega arith);
      place = stood.0;
      imm = last.fits;
      written = first ∙ stood.2 ∙ ap (λ rest. place_bytes reg place.0.0 ++ rest) (none_third ∙ last.written);
    } in
    subst (λ read. Writes form read.0 bytes read.1) (same_answer imm.2) found

walk_alone-written : (form : FormSteps) (bytes : List ℕ) (answer : Operands × List ℕ) → IsBytes bytes
    → form.modrm ≡ false → walk_alone form bytes ≡ Ok answer → Writes form answer.0 bytes answer.1
walk_alone-written form bytes answer is has e =
    let imm = then_ok (take_imm form.imm bytes) _ answer e in
    let last = imm_written form.imm bytes imm.0 is imm.1 in
    let found : Writes form (record { kind = WithoutModRM; reg = 0; place = NoPlace; imm = imm.0.0 }) bytes imm.0.1 =
    record {
      reg = subst (λ m. FitsReg m 0) (sym has) refl;
      place = tt;
      imm = last.fits;
      written = last.written;
    } in
    subst (λ read. Writes form read.0 bytes read.1) (same_answer imm.2) found

-- where a walk answers, its operands were so written
pub walk_form-written : ReadingIsSpelling → (entry : Entry) (f : Fields) (bytes : List ℕ) (answer : Operands × List ℕ)
    → IsBytes bytes → walk_form entry f bytes ≡ Ok answer → Writes (steps entry.form) answer.0 bytes answer.1
unfolding walk_form
walk_form-written place_read entry f bytes answer is e =
    let form = steps entry.form in
    let first = then_ok (check_all entry f WithoutModRM 0 form.before_modrm bytes) _ answer e in
    let none = checks_take_none entry f WithoutModRM 0 form.before_modrm bytes first.0 first.1 in
    subst (λ bytes. Writes (steps entry.form) answer.0 bytes answer.1) (sym none)
    (by form.modrm refl first.0.1 (subst IsBytes none is) first.2)
  where
    by : (b : Bool) → (steps entry.form).modrm ≡ b → (left : List ℕ) → IsBytes left
        → (if b then walk_modrm entry f (steps entry.form) left else walk_alone (steps entry.form) left) ≡ Ok answer
        → Writes (steps entry.form) answer.0 left answer.1
    by true h left is e =
        let rest = subst (λ m. (if m then (steps entry.form).address || list_any is_register_check
        (steps entry.form).after_modrm else is_none (steps entry.form).after_modrm && is_none
        (steps entry.form).after_address && not (steps entry.form).address) ≡ true) h (ordered entry).rest in
        walk_modrm-written place_read entry f (steps entry.form) left answer is h rest e
    by false h left is e = walk_alone-written (steps entry.form) left answer is h e
