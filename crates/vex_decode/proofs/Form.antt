-- What the steps of a form read was so written.
use Rattle.std.specs.Prelude.{◌≡◌, refl, ◌⊎◌, ℕ, ◌+◌, ◌*◌, ◌/◌, ◌%◌, ◌<◌, Bool, true, false, not, ◌&&◌, ◌||◌, List, []}
use Rattle.std.specs.Prelude.{◌∷◌, ◌++◌, Ok, if◌then◌else◌}
use Rattle.std.specs.List.{list_all, list_any}
use Rattle.std.proofs.Common.{ap, ap₂, sym, ◌∙◌, inl, inr, subst, subst₂}
use Rattle.x86_operand.specs.Kind.{Kind, WithoutModRM, InRegister, InMemory, VectorIndexed, is_vector, plain_kind}
use Rattle.x86_operand.specs.Kind.{memory_kind}
use Rattle.x86_address.specs.Bytes.{IsBytes}
use Rattle.x86_address.specs.Place.{Place, NoPlace, Direct, Based, RipBased, Scaled, Baseless, mod_of_displacement}
use Rattle.x86_address.specs.Place.{IsPlace, IsOfKind, kind_of, has_sib, mod_of, rm_of, tail_of, place_bytes}
use Rattle.x86_address.specs.Reading.{Reading, ◌>>=◌}
use Rattle.x86_address.specs.Bytes.{Displacement, Absent, Short, Long}
use Rattle.x86_address.specs.Bytes.Lemmas.{high_field, middle_field, low_field}
use Rattle.x86_address.specs.Place.Lemmas.{place_bytes_split, rm_of_below}
use Rattle.x86_address.specs.Reading.Lemmas.{Answers}
use Rattle.x86_address.specs.Reading.Places.{take_place-again}
use Rattle.x86_address.specs.Reading.Places.{reading_is_spelling}
use Rattle.vex_rows.specs.declared.entry.Entry.{Entry}
use Rattle.vex_rows.specs.declared.steps.Check.{Check}
use Rattle.vex_rows.specs.FormRows.{gathers}
use Rattle.vex_rows.specs.Steps.{FormSteps, steps}
use Rattle.vex_rows.specs.Row.{Among, kinds_of, is_register}
use Rattle.vex_rows.specs.WellFormed.{is_register_check, is_none}
use Rattle.vex_rows.specs.Row.Lists.{both-parts}
use Rattle.vex_forms.specs.Fields.{Fields}
use Rattle.vex_decode.specs.Spelling.{FitsReg, FitsImm, imm_bytes}
use Rattle.vex_forms.specs.FormWalk.{passes, check_all, kind_of_modrm, kind_by, take_imm, Operands, place_by}
use Rattle.vex_forms.specs.FormWalk.{walk_modrm, walk_alone, walk_form}
use Rattle.vex_forms.specs.FormWalk.Lemmas.{bytes_after, ordered, register_checked, walk_form-passed, walk_form-written}
use Rattle.vex_forms.specs.Layout.Lemmas.{is_vector-memory_kind, plain-memory_kind, kinds}

-- the checks pass where all of them hold
pub check_all-again : (entry : Entry) (f : Fields) (kind : Kind) (reg : ℕ) (cs : List Check) (bytes : List ℕ)
    → list_all (passes entry f kind reg) cs ≡ true → check_all entry f kind reg cs bytes ≡ Ok (tt, bytes)
check_all-again entry f kind reg [] bytes h = refl
check_all-again entry f kind reg (c ∷ cs) bytes h =
    let parts = both-parts (passes entry f kind reg c) (list_all (passes entry f kind reg) cs) h in
    rw (parts.0) (check_all-again entry f kind reg cs bytes parts.1)

take_imm-again : (has : Bool) (imm : ℕ) (rest : List ℕ) → FitsImm has imm
    → take_imm has (imm_bytes has imm ++ rest) ≡ Ok (imm, rest)
take_imm-again true imm rest fits = refl
take_imm-again false imm rest fits = ap (λ n. Ok (n, rest)) (sym fits)

-- what the steps of a form read
pub record ReadsForm (entry : Entry) (f : Fields) (bytes : List ℕ) (read : Operands) (rest : List ℕ) : Type 0 where
  pub before_modrm : list_all (passes entry f WithoutModRM 0) (steps entry.form).before_modrm ≡ true
  pub after_modrm : list_all (passes entry f read.kind read.reg) (steps entry.form).after_modrm ≡ true
  pub after_address : list_all (passes entry f read.kind read.reg) (steps entry.form).after_address ≡ true
  pub kind : Among read.kind (kinds_of entry.form)
  pub of_kind : IsOfKind read.kind read.place
  pub reg : FitsReg (steps entry.form).modrm read.reg
  pub place : IsPlace read.place
  pub imm : FitsImm (steps entry.form).imm read.imm
  pub written : bytes ≡ place_bytes read.reg read.place ++ (imm_bytes (steps entry.form).imm read.imm ++ rest)
  pub left : IsBytes rest

-- what the steps of a form read, was so written
pub form-written : (entry : Entry) (f : Fields) (bytes : List ℕ) → IsBytes bytes
    → Answers (ReadsForm entry f bytes) (walk_form entry f bytes)
form-written entry f bytes is = λ read rest e.
    let passed = walk_form-passed entry f bytes (read, rest) e in
    let so = walk_form-written reading_is_spelling entry f bytes (read, rest) is e in
    record {
      before_modrm = passed.before_modrm;
      after_modrm = passed.after_modrm;
      after_address = passed.after_address;
      kind = passed.kind;
      of_kind = passed.place;
      reg = so.reg;
      place = so.place;
      imm = so.imm;
      written = so.written;
      left = bytes_after (imm_bytes (steps entry.form).imm read.imm) rest
          (bytes_after (place_bytes read.reg read.place) _ (subst IsBytes so.written is));
    }

-- what is so with ModRM
with_modrm : (modrm p q : Bool) → (if modrm then p else q) ≡ true → modrm ≡ true → p ≡ true
with_modrm true p q h e = h
with_modrm false p q h e = cc

-- a form with ModRM reads an address, or checks that the operand is a register
pub addressed_form : (entry : Entry) → (steps entry.form).modrm ≡ true
    → ((steps entry.form).address || list_any is_register_check (steps entry.form).after_modrm) ≡ true
addressed_form entry h = with_modrm (steps entry.form).modrm
    ((steps entry.form).address || list_any is_register_check (steps entry.form).after_modrm)
    (is_none (steps entry.form).after_modrm && is_none (steps entry.form).after_address && not
    (steps entry.form).address) (ordered entry).rest h

-- one step answers, and then the next
pub step_then : {A B : Type 0} (step : Reading A) (next : A × List ℕ → Reading B) (read : A × List ℕ)
    (answer : Reading B) → step ≡ Ok read → next read ≡ answer → (step >>= next) ≡ answer
step_then step next read answer h k = ap (λ r. r >>= next) h ∙ k

-- the fields mod and rm say the kind of a place
kind_by_displacement : (vector : Bool) (d : Displacement)
    → kind_of_modrm vector (mod_of_displacement d) 4 ≡ memory_kind vector
kind_by_displacement true Absent = refl
kind_by_displacement true (Short n) = refl
kind_by_displacement true (Long n) = refl
kind_by_displacement false Absent = refl
kind_by_displacement false (Short n) = refl
kind_by_displacement false (Long n) = refl

kind_without_sib : (rm : ℕ) (d : Displacement) → kind_of_modrm false (mod_of_displacement d) rm ≡ InMemory
kind_without_sib rm Absent = refl
kind_without_sib rm (Short n) = refl
kind_without_sib rm (Long n) = refl

memory_by_place : (vector : Bool) (p : Place) → kind_of p ≡ InMemory → (vector ≡ true → has_sib p ≡ true)
    → kind_of_modrm vector (mod_of p) (rm_of p) ≡ memory_kind vector
memory_by_place vector NoPlace memory sib = cc
memory_by_place vector (Direct rm) memory sib = cc
memory_by_place true (Based rm d) memory sib = cc (sib refl)
memory_by_place false (Based rm d) memory sib = kind_without_sib rm d
memory_by_place true (RipBased n) memory sib = cc (sib refl)
memory_by_place false (RipBased n) memory sib = refl
memory_by_place vector (Scaled k i j d) memory sib = kind_by_displacement vector d
memory_by_place vector (Baseless k i n) memory sib = kind_by_displacement vector Absent

register_by_place : (vector : Bool) (p : Place) → kind_of p ≡ InRegister
    → kind_of_modrm vector (mod_of p) (rm_of p) ≡ InRegister
register_by_place vector NoPlace register = cc
register_by_place vector (Direct rm) register = refl
register_by_place vector (Based rm d) register = cc
register_by_place vector (RipBased n) register = cc
register_by_place vector (Scaled k i j d) register = cc
register_by_place vector (Baseless k i n) register = cc

kind_by_place : (vector : Bool) (kind : Kind) (p : Place) → (kind ≡ InRegister) ⊎ (kind ≡ memory_kind vector)
    → IsOfKind kind p → kind_of_modrm vector (mod_of p) (rm_of p) ≡ kind
kind_by_place vector kind p (inl register) is =
    register_by_place vector p (is.plain ∙ ap plain_kind register) ∙ sym register
kind_by_place vector kind p (inr memory) is =
    memory_by_place vector p (is.plain ∙ ap plain_kind memory ∙ plain-memory_kind vector)
    (λ v. is.sib (ap is_vector memory ∙ is_vector-memory_kind vector ∙ v)) ∙ sym memory

-- the kind of the place, whatever index an address has
plain_kinds : (vector : Bool) (kind : Kind) (p : Place) → (kind ≡ InRegister) ⊎ (kind ≡ memory_kind vector)
    → IsOfKind kind p → (kind_of p ≡ InRegister) ⊎ (kind_of p ≡ InMemory)
plain_kinds vector kind p (inl register) is = inl (is.plain ∙ ap plain_kind register)
plain_kinds vector kind p (inr memory) is = inr (is.plain ∙ ap plain_kind memory ∙ plain-memory_kind vector)

plain_register : (kind : Kind) → is_register kind ≡ true → is_register (plain_kind kind) ≡ true
plain_register WithoutModRM h = cc
plain_register InRegister h = refl
plain_register InMemory h = cc
plain_register VectorIndexed h = cc

-- the place of a form that was written is read again
place_by-again : (address : Bool) (p : Place) (rest : List ℕ) → IsPlace p
    → (kind_of p ≡ InRegister) ⊎ (kind_of p ≡ InMemory) → (address ≡ false → is_register (kind_of p) ≡ true)
    → place_by address (mod_of p) (rm_of p) (tail_of p ++ rest) ≡ Ok (p, rest)
place_by-again true p rest is kind direct = take_place-again p rest is kind
place_by-again false NoPlace rest is kind direct = cc (direct refl)
place_by-again false (Direct rm) rest is kind direct = refl
place_by-again false (Based rm d) rest is kind direct = cc (direct refl)
place_by-again false (RipBased n) rest is kind direct = cc (direct refl)
place_by-again false (Scaled k i j d) rest is kind direct = cc (direct refl)
place_by-again false (Baseless k i n) rest is kind direct = cc (direct refl)

-- what the steps of a form ask of what is written
pub record WritesForm (entry : Entry) (f : Fields) (read : Operands) : Type 0 where
  pub before_modrm : list_all (passes entry f WithoutModRM 0) (steps entry.form).before_modrm ≡ true
  pub after_modrm : list_all (passes entry f read.kind read.reg) (steps entry.form).after_modrm ≡ true
  pub after_address : list_all (passes entry f read.kind read.reg) (steps entry.form).after_address ≡ true
  pub kind : Among read.kind (kinds_of entry.form)
  pub of_kind : IsOfKind read.kind read.place
  pub reg : FitsReg (steps entry.form).modrm read.reg
  pub place : IsPlace read.place
  pub imm : FitsImm (steps entry.form).imm read.imm

walk_modrm-again : (entry : Entry) (f : Fields) (form : FormSteps) (read : Operands) (rest : List ℕ) →
    list_all (passes entry f read.kind read.reg) form.after_modrm ≡ true →
    list_all (passes entry f read.kind read.reg) form.after_address ≡ true →
    (form.address || list_any is_register_check form.after_modrm) ≡ true →
    (read.kind ≡ InRegister) ⊎ (read.kind ≡ memory_kind (gathers entry.form)) → IsOfKind read.kind read.place
    → read.reg < 8 → IsPlace read.place → FitsImm form.imm read.imm →
    walk_modrm entry f form (place_bytes read.reg read.place ++ (imm_bytes form.imm read.imm ++ rest)) ≡ Ok (read, rest)
walk_modrm-again entry f form read rest second third direct kind of_kind reg place imm =
    let p = read.place in
    let vector = gathers entry.form in
    let plain = plain_kinds vector read.kind p kind of_kind in
    let n : ℕ = 64 * mod_of p + 8 * read.reg + rm_of p in
    let more : List ℕ = imm_bytes form.imm read.imm ++ rest in
    let low = rm_of_below p place in
    let high_is : n / 64 ≡ mod_of p = high_field (mod_of p) read.reg (rm_of p) reg low in
    let reg_is : (n / 8) % 8 ≡ read.reg = middle_field (mod_of p) read.reg (rm_of p) reg low in
    let rm_is : n % 8 ≡ rm_of p = low_field (mod_of p) read.reg (rm_of p) low in
    let kind_is : kind_by entry n ≡ read.kind =
    ap₂ (kind_of_modrm vector) high_is rm_is ∙ kind_by_place vector read.kind p kind of_kind in
    let second' : list_all (passes entry f (kind_by entry n) ((n / 8) % 8)) form.after_modrm ≡ true =
    subst₂ (λ k r. list_all (passes entry f k r) form.after_modrm ≡ true) (sym kind_is) (sym reg_is) second in
    let third' : list_all (passes entry f (kind_by entry n) ((n / 8) % 8)) form.after_address ≡ true =
    subst₂ (λ k r. list_all (passes entry f k r) form.after_address ≡ true) (sym kind_is) (sym reg_is) third in
    let registers : form.address ≡ false → is_register (kind_of p) ≡ true =
    λ none. ap is_register of_kind.plain
    ∙ plain_register read.kind (register_checked entry f read.kind read.reg form.after_modrm
    (subst (λ a. (a || list_any is_register_check form.after_modrm) ≡ true) none direct) second) in
    let placed : place_by form.address (n / 64) (n % 8) (tail_of p ++ more) ≡ Ok (p, more) =
    subst₂ (λ m r. place_by form.address m r (tail_of p ++ more) ≡ Ok (p, more)) (sym high_is) (sym rm_is)
    (place_by-again form.address p more place plain registers) in
    ap (λ bytes. walk_modrm entry f form (bytes ++ more)) (place_bytes_split read.reg p plain)
    ∙ step_then (check_all entry f (kind_by entry n) ((n / 8) % 8) form.after_modrm (tail_of p ++ more)) _
    (tt, tail_of p ++ more) _ (check_all-again entry f (kind_by entry n) ((n / 8) % 8) form.after_modrm
    (tail_of p ++ more) second')
    (step_then (place_by form.address (n / 64) (n % 8) (tail_of p ++ more)) _ (p, more) _ placed
    (step_then (check_all entry f (kind_by entry n) ((n / 8) % 8) form.after_address more) _ (tt, more) _
    (check_all-again entry f (kind_by entry n) ((n / 8) % 8) form.after_address more third')
    (step_then (take_imm form.imm more) _ (read.imm, rest) _ (take_imm-again form.imm read.imm rest imm)
    (λ i. Ok (record { kind = kind_is i; reg = reg_is i; place = p; imm = read.imm }, rest)))))

kinds_with_modrm : (vector modrm : Bool) (kind : Kind) → modrm ≡ true → Among kind (kinds vector modrm)
    → (kind ≡ InRegister) ⊎ (kind ≡ memory_kind vector)
kinds_with_modrm vector true kind h (inl e) = inl e
kinds_with_modrm vector true kind h (inr (inl e)) = inr e
kinds_with_modrm vector true kind h (inr (inr e)) = absurd e
kinds_with_modrm vector false kind h m = cc

kinds_alone : (vector modrm : Bool) (kind : Kind) → modrm ≡ false → Among kind (kinds vector modrm)
    → kind ≡ WithoutModRM
kinds_alone vector true kind h m = cc
kinds_alone vector false kind h (inl e) = e
kinds_alone vector false kind h (inr e) = absurd e

reg_with_modrm : (modrm : Bool) (reg : ℕ) → modrm ≡ true → FitsReg modrm reg → reg < 8
reg_with_modrm true reg h k = k
reg_with_modrm false reg h k = cc

reg_alone : (modrm : Bool) (reg : ℕ) → modrm ≡ false → FitsReg modrm reg → reg ≡ 0
reg_alone true reg h k = cc
reg_alone false reg h k = k

no_place : (p : Place) → kind_of p ≡ WithoutModRM → p ≡ NoPlace
no_place NoPlace e = refl
no_place (Direct rm) e = cc
no_place (Based rm d) e = cc
no_place (RipBased n) e = cc
no_place (Scaled k i j d) e = cc
no_place (Baseless k i n) e = cc

walk_alone-again : (form : FormSteps) (read : Operands) (rest : List ℕ) → read.kind ≡ WithoutModRM → read.reg ≡ 0
    → read.place ≡ NoPlace → FitsImm form.imm read.imm
    → walk_alone form (place_bytes read.reg read.place ++ (imm_bytes form.imm read.imm ++ rest)) ≡ Ok (read, rest)
walk_alone-again form read rest kind reg place imm =
    ap (λ p. walk_alone form (place_bytes read.reg p ++ (imm_bytes form.imm read.imm ++ rest))) place
    ∙ step_then (take_imm form.imm (imm_bytes form.imm read.imm ++ rest)) _ (read.imm, rest) _
    (take_imm-again form.imm read.imm rest imm)
    (λ i. Ok (record { kind = sym kind i; reg = sym reg i; place = sym place i; imm = read.imm }, rest))

chosen_true : {A : Type 0} (b : Bool) (x y : A) → b ≡ true → (if b then x else y) ≡ x
chosen_true true x y h = refl
chosen_true false x y h = cc

chosen_false : {A : Type 0} (b : Bool) (x y : A) → b ≡ false → (if b then x else y) ≡ y
chosen_false true x y h = cc
chosen_false false x y h = refl

-- what is written of a form is read again
pub walk_form-again : (entry : Entry) (f : Fields) (read : Operands) (rest : List ℕ) → WritesForm entry f read
    → walk_form entry f (place_bytes read.reg read.place ++ (imm_bytes (steps entry.form).imm read.imm ++ rest))
    ≡ Ok (read, rest)
unfolding walk_form
walk_form-again entry f read rest is = by (steps entry.form).modrm refl where
  by : (b : Bool) → (steps entry.form).modrm ≡ b
      → walk_form entry f (place_bytes read.reg read.place ++ (imm_bytes (steps entry.form).imm read.imm ++ rest))
      ≡ Ok (read, rest)
  by true h =
      step_then (check_all entry f WithoutModRM 0 (steps entry.form).before_modrm _) _ (tt, _) _
      (check_all-again entry f WithoutModRM 0 (steps entry.form).before_modrm
      (place_bytes read.reg read.place ++ (imm_bytes (steps entry.form).imm read.imm ++ rest)) is.before_modrm)
      (chosen_true (steps entry.form).modrm _ _ h
      ∙ walk_modrm-again entry f (steps entry.form) read rest is.after_modrm is.after_address (addressed_form entry h)
      (kinds_with_modrm (gathers entry.form) (steps entry.form).modrm read.kind h is.kind) is.of_kind
      (reg_with_modrm _ _ h is.reg) is.place is.imm)
  by false h =
      let without : read.kind ≡ WithoutModRM =
      kinds_alone (gathers entry.form) (steps entry.form).modrm read.kind h is.kind in
      step_then (check_all entry f WithoutModRM 0 (steps entry.form).before_modrm _) _ (tt, _) _
      (check_all-again entry f WithoutModRM 0 (steps entry.form).before_modrm
      (place_bytes read.reg read.place ++ (imm_bytes (steps entry.form).imm read.imm ++ rest)) is.before_modrm)
      (chosen_false (steps entry.form).modrm _ _ h
      ∙ walk_alone-again (steps entry.form) read rest without (reg_alone _ _ h is.reg)
      (no_place read.place (is.of_kind.plain ∙ ap plain_kind without)) is.imm)
