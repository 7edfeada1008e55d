-- What each step takes: a front of the bytes, at most so many, and what it answers there doesn't depend on what
-- follows. And which errors it has.
use Rattle.std.specs.Prelude.{◌≡◌, ◌≢◌, refl, ℕ, ◌+◌, ◌≤◌, ◌/◌, ◌%◌, ◌==◌, ◌&&◌, Bool, true, false, List, [], ◌∷◌, ◌++◌}
use Rattle.std.specs.Prelude.{length, Option, Some, None, Ok, Err, if◌then◌else◌}
use Rattle.std.proofs.Common.{arith, ap, sym, ◌∙◌, append_assoc, length-append}
use Rattle.x86_operand.specs.declared.error.DecodeError.{DecodeError}
use Rattle.x86_operand.specs.declared.error.DecodeError.TheVariants.{ExhaustedInput, InvalidOpcode, InvalidOperand}
use Rattle.x86_operand.specs.declared.error.DecodeError.TheVariants.{Outside}
use Rattle.x86_operand.specs.Kind.{Kind, WithoutModRM}
use Rattle.x86_address.specs.Reading.{Reading, ◌>>=◌, take_byte, take_doubleword, take_long, take_displacement}
use Rattle.x86_address.specs.Reading.{take_baseless, take_scaled, take_sib, take_place}
use Rattle.x86_address.specs.Most.{left_by, TakesAtMost}
use Rattle.vex_rows.specs.declared.entry.Entry.{Entry}
use Rattle.vex_rows.specs.declared.key.Map.{Map}
use Rattle.vex_rows.specs.declared.steps.Check.{Check}
use Rattle.vex_rows.specs.declared.steps.Check.TheVariants.{V0, L0, Reg, Mem, Group, VifMem}
use Rattle.vex_rows.specs.Steps.{FormSteps, steps}
use Rattle.vex_rows.specs.Row.{Row}
use Rattle.vex_forms.specs.Fields.{Fields}
use Rattle.vex_forms.specs.FormWalk.{passes, refusal, check_all, kind_by, take_imm, place_by, walk_modrm, walk_alone}
use Rattle.vex_forms.specs.FormWalk.{walk_form, row_of}
use Rattle.vex_decode.specs.Fields.{PrefixForm, C4, C5}
use Rattle.vex_decode.specs.Spelling.{Syntax}
use Rattle.vex_decode.specs.Walk.{map_of, fields_by_map, read_fields, form_of, read_prefix, key_of, entry_of, found}
use Rattle.vex_decode.specs.Walk.{syntax_of, walk}

-- the same answer, with other bytes left
abbrev pub leaving : {A : Type 0} → List ℕ → Reading A → Reading A
leaving other (Ok read) = Ok (read.0, other)
leaving other (Err error) = Err (error.0, other)

-- the answer is that the bytes are exhausted
abbrev pub Exhausted : {A : Type 0} → Reading A → Type 0
Exhausted (Ok read) = ⊥
Exhausted (Err error) = error.0 ≡ ExhaustedInput

-- the error, where there is one, is so
abbrev pub FailsBy : {A : Type 0} → (DecodeError → Type 0) → Reading A → Type 0
FailsBy P (Ok read) = Unit {0}
FailsBy P (Err error) = P error.0

-- the front that a step takes: it is followed by what the step leaves, which is nothing where the bytes are exhausted,
-- and where other bytes follow it the step answers the same and leaves those
pub record Front {A : Type 0} (P : DecodeError → Type 0) (n : ℕ) (step : List ℕ → Reading A) (bytes : List ℕ)
    (reading : Reading A) : Type 0 where
  pub front : List ℕ
  pub written : bytes ≡ front ++ left_by reading
  pub most : length front ≤ n
  pub ended : Exhausted reading → left_by reading ≡ []
  pub fails : FailsBy P reading
  pub again : (other : List ℕ) → (Exhausted reading → other ≡ []) → step (front ++ other) ≡ leaving other reading

-- a step takes a front of at most so many bytes, and its errors are so
pub record Fronts {A : Type 0} (P : DecodeError → Type 0) (n : ℕ) (step : List ℕ → Reading A) : Type 0 where
  pub at : (bytes : List ℕ) → Front P n step bytes (step bytes)

-- what a decode does once it has read the prefix
abbrev pub walk_on : (PrefixForm × Fields) × List ℕ → Reading (Row × Syntax)
walk_on prefix = do
  byte ← take_byte prefix.1
  entry ← found (entry_of (key_of prefix.0.1 byte.0)) byte.1
  operands ← walk_form entry.0 prefix.0.1 entry.1
  Ok ((row_of entry.0 prefix.0.1 operands.0, syntax_of prefix.0.0 prefix.0.1 operands.0), operands.1)

-- and once it has read the first byte
abbrev pub rest_of : PrefixForm → List ℕ → Reading (Row × Syntax)
rest_of form bytes = read_fields form bytes >>= (λ fields. walk_on ((form, fields.0), fields.1))

-- of errors that are all so
module _ (P : DecodeError → Type 0) (exhausted : P ExhaustedInput) (opcode : P InvalidOpcode)
    (operand : P InvalidOperand) where
  answering : {A : Type 0} (value : A) → Fronts P 0 (λ bytes. Ok (value, bytes))
  answering value = record {
    at = λ bytes. record {
      front = [];
      written = refl;
      most = omega arith;
      ended = λ e. absurd e;
      fails = tt;
      again =
          λ other none. refl;
    };
  }

  refusing : {A : Type 0} (e : DecodeError) → e ≢ ExhaustedInput → P e → Fronts {A = A} P 0 (λ bytes. Err (e, bytes))
  refusing e other_error so = record {
    at = λ bytes. record {
      front = [];
      written = refl;
      most = omega arith;
      ended =
          λ is. absurd (other_error is);
      fails = so;
      again = λ other none. refl;
    };
  }

  both : {A B : Type 0} (m n : ℕ) (step : List ℕ → Reading A) (next : A × List ℕ → Reading B) → Fronts P m step
      → ((a : A) → Fronts P n (λ bytes. next (a, bytes))) → Fronts P (m + n) (λ bytes. step bytes >>= next)
  both {A} {B} m n step next one two = record { at = λ bytes. by bytes (step bytes) (one.at bytes) }
    where
      by : (bytes : List ℕ) (reading : Reading A) → Front P m step bytes reading
          → Front P (m + n) (λ bytes. step bytes >>= next) bytes (reading >>= next)
      by bytes (Ok read) f =
          let g : Front P n (λ b. next (read.0, b)) read.1 (next (read.0, read.1)) = (two read.0).at read.1 in
          record {
            front = f.front ++ g.front;
            written = f.written ∙ ap (λ tail. f.front ++ tail) g.written
                ∙ sym (append_assoc f.front g.front (left_by (next read)));
            most = omega (arith, length-append f.front g.front, f.most, g.most);
            ended = g.ended;
            fails = g.fails;
            again = λ other none. rw (append_assoc f.front g.front other, f.again (g.front ++ other) (λ e. absurd e))
                (g.again other none);
          }
      by bytes (Err error) f = record {
        front = f.front;
        written = f.written;
        most = omega (arith, f.most);
        ended = f.ended;
        fails = f.fails;
        again = λ other none. rw (f.again other none) refl;
      }

  either : {A : Type 0} (n : ℕ) (test : Bool) (one other : List ℕ → Reading A) → Fronts P n one → Fronts P n other
      → Fronts P n (λ bytes. if test then one bytes else other bytes)
  either n true one other p q = p
  either n false one other p q = q

  wider : {A : Type 0} (m n : ℕ) (step : List ℕ → Reading A) → m ≤ n → Fronts P m step → Fronts P n step
  wider m n step within fronts = record {
    at = λ bytes.
        let f = fronts.at bytes in
        record {
          front = f.front;
          written = f.written;
          most = omega (arith, f.most);
          ended = f.ended;
          fails =
              f.fails;
          again = f.again;
        };
  }

  byte : Fronts P 1 take_byte
  byte = record { at = by }
    where
      by : (bytes : List ℕ) → Front P 1 take_byte bytes (take_byte bytes)
      by [] = record {
        front = [];
        written = refl;
        most = omega arith;
        ended = λ e. refl;
        fails = exhausted;
        again =
            λ other none. rw (none refl) refl;
      }
      by (b ∷ bytes) = record {
        front = b ∷ [];
        written = refl;
        most = omega arith;
        ended = λ e. absurd e;
        fails =
            tt;
        again = λ other none. refl;
      }

  -- ---- an address

  doubleword : Fronts P 4 take_doubleword
  doubleword = both 1 3 take_byte _ byte (λ a. both 1 2 take_byte _ byte
      (λ b. both 1 1 take_byte _ byte (λ c. both 1 0 take_byte _ byte (λ d. answering _))))

  long : Fronts P 4 take_long
  long = both 4 0 take_doubleword _ doubleword (λ n. answering _)

  displacement : (mode : ℕ) → Fronts P 4 (take_displacement mode)
  displacement mode =
      either 4 (mode == 0) _ _ (wider 0 4 _ (omega arith) (answering _))
      (either 4 (mode == 1) _ _ (wider 1 4 _ (omega arith) (both 1 0 take_byte _ byte (λ n. answering _))) long)

  sib : (mode : ℕ) → Fronts P 5 (take_sib mode)
  sib mode =
      both 1 4 take_byte _ byte (λ s. either 4 (mode == 0 && s % 8 == 5) (take_baseless s) (take_scaled mode s)
      (both 4 0 take_doubleword _ doubleword (λ n. answering _))
      (both 4 0 (take_displacement mode) _ (displacement mode) (λ d. answering _)))

  place : (mode rm : ℕ) → Fronts P 5 (take_place mode rm)
  place mode rm =
      either 5 (mode == 3) _ _ (wider 0 5 _ (omega arith) (answering _))
      (either 5 (rm == 4) _ _ (sib mode) (either 5 (mode == 0 && rm == 5) _ _
      (wider 4 5 _ (omega arith) (both 4 0 take_doubleword _ doubleword (λ n. answering _)))
      (wider 4 5 _ (omega arith) (both 4 0 (take_displacement mode) _ (displacement mode) (λ d. answering _)))))

  -- ---- a prefix

  by_map : (map : Option Map) (p q : ℕ) → Fronts P 0 (fields_by_map map p q)
  by_map None p q = refusing InvalidOpcode (λ e. cc) opcode
  by_map (Some map) p q = answering _

  fields : (form : PrefixForm) → Fronts P 2 (read_fields form)
  fields C5 = wider 1 2 _ (omega arith) (both 1 0 take_byte _ byte (λ p. answering _))
  fields C4 = both 1 1 take_byte _ byte (λ p. both 1 0 take_byte _ byte (λ q. by_map (map_of (p % 32)) p q))

  form : P Outside → (first : ℕ) → Fronts P 0 (form_of first)
  form outside first = either 0 (first == 0xC5) _ _ (answering C5)
      (either 0 (first == 0xC4) _ _ (answering C4) (refusing Outside (λ e. cc) outside))

  prefix : P Outside → Fronts P 3 read_prefix
  prefix outside = both 1 2 take_byte _ byte
      (λ first. both 0 2 (form_of first) _ (form outside first)
      (λ f. both 2 0 (read_fields f) _ (fields f) (λ fields. answering _)))

  -- ---- a form

  entry_found : (entry : Option Entry) → Fronts P 0 (found entry)
  entry_found None = refusing InvalidOpcode (λ e. cc) opcode
  entry_found (Some entry) = answering _

  -- a check's error is not that the input is exhausted
  refusal_other : (c : Check) → refusal c ≢ ExhaustedInput
  refusal_other V0 e = cc
  refusal_other L0 e = cc
  refusal_other Reg e = cc
  refusal_other Mem e = cc
  refusal_other Group e = cc
  refusal_other VifMem e = cc

  refusal_so : (c : Check) → P (refusal c)
  refusal_so V0 = operand
  refusal_so L0 = operand
  refusal_so Reg = operand
  refusal_so Mem = operand
  refusal_so Group = opcode
  refusal_so VifMem = operand

  checks : (entry : Entry) (f : Fields) (kind : Kind) (reg : ℕ) (cs : List Check)
      → Fronts P 0 (check_all entry f kind reg cs)
  checks entry f kind reg [] = answering _
  checks entry f kind reg (c ∷ cs) = either 0 (passes entry f kind reg c) _ _ (checks entry f kind reg cs)
      (refusing (refusal c) (refusal_other c) (refusal_so c))

  imm : (has : Bool) → Fronts P 1 (take_imm has)
  imm has = either 1 has _ _ byte (wider 0 1 _ (omega arith) (answering _))

  place_of : (address : Bool) (mode rm : ℕ) → Fronts P 5 (place_by address mode rm)
  place_of address mode rm = either 5 address _ _ (place mode rm) (wider 0 5 _ (omega arith) (answering _))

  from_modrm : (entry : Entry) (f : Fields) (form : FormSteps) → Fronts P 7 (walk_modrm entry f form)
  from_modrm entry f form =
      both 1 6 take_byte _ byte (λ modrm.
      both 0 6 (check_all entry f (kind_by entry modrm) ((modrm / 8) % 8) form.after_modrm) _
      (checks entry f _ _ form.after_modrm) (λ second.
      both 5 1 (place_by form.address (modrm / 64) (modrm % 8)) _ (place_of form.address (modrm / 64) (modrm % 8))
      (λ place.
      both 0 1 (check_all entry f (kind_by entry modrm) ((modrm / 8) % 8) form.after_address) _
      (checks entry f _ _ form.after_address) (λ third.
      both 1 0 (take_imm form.imm) _ (imm form.imm) (λ imm. answering _)))))

  alone : (form : FormSteps) → Fronts P 7 (walk_alone form)
  alone form = wider 1 7 _ (omega arith) (both 1 0 (take_imm form.imm) _ (imm form.imm) (λ imm. answering _))

  form_fronts : (entry : Entry) (f : Fields) → Fronts P 7 (walk_form entry f)
  unfolding walk_form
  form_fronts entry f =
      both 0 7 (check_all entry f WithoutModRM 0 (steps entry.form).before_modrm) _
      (checks entry f WithoutModRM 0 (steps entry.form).before_modrm) (λ first.
      either 7 (steps entry.form).modrm _ _ (from_modrm entry f (steps entry.form)) (alone (steps entry.form)))

  -- ---- an instruction, but for the settings

  after_prefix : (prefix : PrefixForm × Fields) → Fronts P 8 (λ bytes. walk_on (prefix, bytes))
  after_prefix prefix =
      both 1 7 take_byte _ byte (λ opcode.
      both 0 7 (found (entry_of (key_of prefix.1 opcode))) _ (entry_found (entry_of (key_of prefix.1 opcode))) (λ entry.
      both 7 0 (walk_form entry prefix.1) _ (form_fronts entry prefix.1) (λ operands. answering _)))

  -- after the first byte
  pub after_form : (form : PrefixForm) → Fronts P 10
      (λ bytes. (read_fields form bytes >>= (λ fields. Ok ((form, fields.0), fields.1))) >>= walk_on)
  after_form form = both 2 8 _ walk_on (both 2 0 (read_fields form) _ (fields form) (λ fields. answering _))
      after_prefix

  pub rest_fronts : (form : PrefixForm) → Fronts P 10 (rest_of form)
  rest_fronts form = both 2 8 (read_fields form) _ (fields form) (λ fields. after_prefix (form, fields))

  pub walk_fronts : P Outside → Fronts P 11 walk
  unfolding walk
  walk_fronts outside = both 3 8 read_prefix walk_on (prefix outside) after_prefix

-- any error
abbrev pub Any : DecodeError → Type 0
Any e = Unit {0}

pub walk_most : TakesAtMost 11 walk
walk_most = record { within = by }
  where
    by : (bytes : List ℕ) → length bytes ≤ 11 + length (left_by (walk bytes))
    by bytes =
        let f : Front Any 11 walk bytes (walk bytes) = (walk_fronts Any tt tt tt tt).at bytes in
        let written : length bytes ≡ length (f.front ++ left_by (walk bytes)) = ap length f.written in
        omega (arith, written, length-append f.front (left_by (walk bytes)), f.most)

-- after the first byte
pub rest_most : (form : PrefixForm) → TakesAtMost 10 (rest_of form)
rest_most form = record { within = by }
  where
    by : (bytes : List ℕ) → length bytes ≤ 10 + length (left_by (rest_of form bytes))
    by bytes =
        let f : Front Any 10 (rest_of form) bytes (rest_of form bytes) = (rest_fronts Any tt tt tt form).at bytes in
        let written : length bytes ≡ length (f.front ++ left_by (rest_of form bytes)) = ap length f.written in
        omega (arith, written, length-append f.front (left_by (rest_of form bytes)), f.most)
