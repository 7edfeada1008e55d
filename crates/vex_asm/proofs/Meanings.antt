-- Meanings: what is read is what is printed.
use Rattle.std.proofs.Common.{◌≡◌, ◌<◌, ◌++◌, ℕ, Bool, true, false, List, [], ◌∷◌, map, Option, Some, None, unwrap_or}
use Rattle.std.proofs.Common.{refl, sym, ap, ◌∙◌, arith, decimal, codes, lit<, IfSome, IsSome}
use Rattle.std.proofs.lemmas.Bool.{and_parts}
use Rattle.std.proofs.lemmas.Option.{same_Some}
use Rattle.std.proofs.lemmas.Fmt.{decimal_nonempty}
use Rattle.std.proofs.lemmas.List.{append_cancel_left}
use Rattle.std.proofs.lemmas.List.Elements.{All-from_recursion, recursion_from_All}
use Rattle.std.specs.List.{join_with_byte, AllByRecursion}
use Rattle.std.specs.Fmt.{signed_decimal}
use Rattle.std.specs.Char.{is_ascii_alphanumeric}
use Rattle.x86_opcode.specs.declared.Opcode.{Opcode}
use Rattle.x86_opcode.specs.Name.{opcode_name}
use Rattle.x86_opcode.specs.Slots.Lemmas.{opcode_name_injective}
use Rattle.x86_operand.specs.declared.address.Index.{Index}
use Rattle.x86_operand.specs.declared.address.Address.{Address}
use Rattle.x86_operand.specs.declared.register.RegisterBank.{RegisterBank}
use Rattle.x86_operand.specs.declared.register.RegisterBank.TheVariants.{Q, D, X, Y, Z, RIP}
use Rattle.x86_operand.specs.Meaning.{OperandMeaning, register, signed, unsigned, memory, nothing, Meaning, Decoded}
use Rattle.x86_operand.specs.Range.{IsIndex, IsAddress, IsOperand, IsMeaning}
use Rattle.vex_asm.specs.Text.{register_text_in, register_text, operand_text, base_text, index_text, mark_text, parts}
use Rattle.vex_asm.specs.Text.{text, words, line_parts, is_filled}
use Rattle.vex_asm.specs.Laws.{IsTextOf}
use Rattle.vex_asm.specs.Parsed.{rest_of, few}
use Rattle.vex_asm.proofs.Names.{is_name, name_plain, name_filled}
use Rattle.vex_asm.proofs.Numbers.{both}
use Rattle.vex_asm.proofs.Addresses.{each, each-append, each-implied, is_plain, plain_decimal, plain_signed}
use Rattle.vex_asm.proofs.Addresses.{plain_register, plain_base, not_space, word_small, byte_small, slash_text}
use Rattle.vex_asm.proofs.Addresses.{star_text}
use Rattle.vex_asm.proofs.LineParts.{IsWord, not_blank, parts-joined, parts-words_of, filled_from}
use Rattle.vex_asm.proofs.Operands.{IsSize, few-text, text-few}

letter_no_blank : (b : ℕ) → is_ascii_alphanumeric b ≡ true → not_blank b ≡ true
letter_no_blank b h = grind arith

letters_plain : (bs : List ℕ) → is_name bs ≡ true → each not_blank bs ≡ true
letters_plain [] h = refl
letters_plain (b ∷ bs) h =
    let parts = and_parts _ _ h in
    both _ _ (letter_no_blank b parts.0) (letters_plain bs parts.1)

head_word : (evex : Bool) (o : Opcode) → IsWord (mark_text evex ++ opcode_name o)
head_word true o = record { filled = refl; plain = letters_plain (opcode_name o) (name_plain o) }
head_word false o = record { filled = name_filled o; plain = letters_plain (opcode_name o) (name_plain o) }

plain_word : (bs : List ℕ) → each is_plain bs ≡ true → each not_blank bs ≡ true
plain_word bs h = each-implied is_plain _ not_space bs h

decimal_word : (n : ℕ) → n < 10000000000 → IsWord (decimal n)
decimal_word n h = record {
  filled = filled_from _ (decimal_nonempty n (omega arith));
  plain =
      plain_word (decimal n) (plain_decimal n h);
}

register_filled : (bank : RegisterBank) (n : ℕ) → is_filled (register_text_in bank n) ≡ true
register_filled Q n = refl
register_filled D n = refl
register_filled X n = refl
register_filled Y n = refl
register_filled Z n = refl
register_filled RIP n = refl

index_plain : (index : Option Index) → IfSome index IsIndex → each not_blank (index_text index) ≡ true
index_plain None h = refl
index_plain (Some index) h = rw (star_text index)
    (each-append not_blank (register_text index.reg) (42 ∷ decimal index.scale)
    (plain_word (register_text index.reg) (plain_register index.reg h.reg))
    (plain_word (decimal index.scale) (plain_decimal index.scale (omega (arith, h.scale)))))

address_plain : (a : Address) → IsAddress a → each not_blank (operand_text (memory a)) ≡ true
address_plain a h = rw (slash_text a)
    (each-append not_blank (base_text a.base) (47 ∷ (index_text a.index ++ 47 ∷ signed_decimal a.disp))
    (plain_word (base_text a.base) (plain_base a.base h.base))
    (each-append not_blank (index_text a.index) (47 ∷ signed_decimal a.disp) (index_plain a.index h.index)
    (plain_word (signed_decimal a.disp) (plain_signed a.disp (word_small a.disp (h.low, h.high))))))

operand_word : (o : OperandMeaning) → IsOperand o → IsWord (operand_text o)
operand_word (register reg) h = record {
  filled = register_filled reg.bank reg.num;
  plain =
      plain_word (register_text reg) (plain_register reg h);
}
operand_word (signed imm) h = record {
  filled = refl;
  plain =
      plain_word (signed_decimal imm) (plain_signed imm (byte_small imm h));
}
operand_word (unsigned imm) h = record {
  filled = refl;
  plain =
      plain_word (decimal imm) (plain_decimal imm (omega arith));
}
operand_word (memory a) h = record { filled = refl; plain = address_plain a h }
operand_word nothing h = record { filled = refl; plain = refl }

behind_words : (os : List OperandMeaning) (size : Option ℕ) → AllByRecursion IsOperand os → IsSize size
    → AllByRecursion IsWord (map operand_text os ++ decimal (unwrap_or size 0) ∷ [])
behind_words [] None h k = (decimal_word 0 (lit< tt), tt)
behind_words [] (Some n) h k = (decimal_word n (omega (arith, k.1)), tt)
behind_words (o ∷ os) size h k = (operand_word o h.0, behind_words os size h.1 k)

-- the parts of a meaning's text are the parts of the line that the text is
pub parts-text : (m : Meaning) → IsMeaning m → line_parts (text m) ≡ parts m
unfolding text
parts-text m h = parts-joined (parts m) (
  head_word m.evex m.opcode,
  behind_words m.operands m.size (recursion_from_All _ _ h.operands) h.size,
)

-- a line whose words are the text of m has the parts of m
pub meant : (line w : List ℕ) (ws : List (List ℕ)) (m : Meaning) → line_parts line ≡ w ∷ ws → IsTextOf line m
    → (mark_text m.evex ++ opcode_name m.opcode ≡ w) × (few (rest_of ws) ≡ Some (m.operands, m.size))
meant line w ws m split h =
    let same : parts m ≡ w ∷ ws = sym (parts-text m h.in_range)
    ∙ (ap line_parts h.text ∙ (parts-words_of line ∙ split)) in
    let front : mark_text m.evex ++ opcode_name m.opcode ≡ w = cc in
    let back : map operand_text m.operands ++ decimal (unwrap_or m.size 0) ∷ [] ≡ ws = cc in (
      front,
      ap (λ x. few (rest_of x)) (sym back)
          ∙ few-text m.operands m.size (recursion_from_All _ _ h.in_range.operands) h.in_range.size h.in_range.few,
    )

-- a line without parts is no meaning's text
pub nothing_meant : (line : List ℕ) (m : Meaning) → line_parts line ≡ [] → IsTextOf line m → ⊥
nothing_meant line m split h =
    let same : parts m ≡ [] = sym (parts-text m h.in_range)
    ∙ (ap line_parts h.text ∙ (parts-words_of line ∙ split)) in cc

-- a line with the parts of m has the text of m as its words
pub spelled : (line w : List ℕ) (ws : List (List ℕ)) (m : Meaning) → line_parts line ≡ w ∷ ws
    → mark_text m.evex ++ opcode_name m.opcode ≡ w → few (rest_of ws) ≡ Some (m.operands, m.size) → IsTextOf line m
unfolding text words
spelled line w ws m split front back =
    let found = text-few ws (m.operands, m.size) back in
    let same : parts m ≡ line_parts line =
    ap (λ x. x ∷ (map operand_text m.operands ++ decimal (unwrap_or m.size 0) ∷ [])) front
    ∙ (ap (λ x. w ∷ x) (sym found.0.0) ∙ sym split) in
    record {
      in_range = record { few = found.1; operands = All-from_recursion _ _ found.0.1; size = found.0.2 };
      text = ap (join_with_byte 32) same;
    }

pub marked_dot : (bs : List ℕ) → is_name (codes "EVEX." ++ bs) ≡ true → ⊥
marked_dot bs h = cc

-- a name with the mark before it is told apart from a name without
pub marked : (bs name : List ℕ) (evex : Bool) (o : Opcode) → bs ≡ codes "EVEX." ++ name
    → mark_text evex ++ opcode_name o ≡ bs → (evex ≡ true) × (opcode_name o ≡ name)
marked bs name true o h e = (refl, append_cancel_left (codes "EVEX.") _ _ (e ∙ h))
marked bs name false o h e =
    let name_so : opcode_name o ≡ codes "EVEX." ++ name = e ∙ h in
    let no = rw name_so at (name_plain o) in
    absurd (marked_dot name no)

heads : (x y : Bool) (o p : Opcode) → mark_text x ++ opcode_name o ≡ mark_text y ++ opcode_name p
    → (x ≡ y) × (opcode_name o ≡ opcode_name p)
heads true true o p e = (refl, append_cancel_left (codes "EVEX.") _ _ e)
heads false false o p e = (refl, e)
heads true false o p e = absurd (marked_dot (opcode_name o) (rw (← e) at (name_plain p)))
heads false true o p e = absurd (marked_dot (opcode_name p) (rw e at (name_plain o)))

-- texts of different meanings differ
pub same_meaning : (a b : Meaning) → IsMeaning a → IsMeaning b → text a ≡ text b → a ≡ b
same_meaning a b h k e =
    let same : parts a ≡ parts b = sym (parts-text a h) ∙ (ap line_parts e ∙ parts-text b k) in
    let front : mark_text a.evex ++ opcode_name a.opcode ≡ mark_text b.evex ++ opcode_name b.opcode = cc in
    let back : map operand_text a.operands ++ decimal (unwrap_or a.size 0) ∷ []
    ≡ map operand_text b.operands ++ decimal (unwrap_or b.size 0) ∷ [] = cc in
    let head = heads a.evex b.evex a.opcode b.opcode front in
    let opcode : a.opcode ≡ b.opcode = opcode_name_injective a.opcode b.opcode head.1 in
    let rest : Some (a.operands, a.size) ≡ Some (b.operands, b.size) =
    sym (few-text a.operands a.size (recursion_from_All _ _ h.operands) h.size h.few)
    ∙ (ap (λ x. few (rest_of x)) back ∙ few-text b.operands b.size (recursion_from_All _ _ k.operands) k.size
    k.few) in
    let pair : (a.operands, a.size) ≡ (b.operands, b.size) = same_Some _ _ rest in
    λ i. record { evex = head.0 i; opcode = opcode i; operands = (pair i).0; size = (pair i).1 }

-- the value that an answer has, where it has one
pub made_so : {A : Type 0} (r : Option A) (x y : A) → IsSome r → IfSome r (λ made. made ≡ x) → x ≡ y → r ≡ Some y
made_so None x y h k e = cc
made_so (Some made) x y h k e = ap (λ z. Some z) (k ∙ e)

pub same_decoded : (a b : Bool) (o p : Opcode) (os ps : List OperandMeaning) (s t : Option ℕ)
    → ◌≡◌ {A = Option (Bool × Opcode)} (Some (a, o)) (Some (b, p))
    → ◌≡◌ {A = Option (List OperandMeaning × Option ℕ)} (Some (os, s)) (Some (ps, t))
    → let x : Decoded = record { meaning = record { evex = a; opcode = o; operands = os; size = s }; len = 0 } in
    let y : Decoded = record { meaning = record { evex = b; opcode = p; operands = ps; size = t }; len = 0 } in x ≡ y
same_decoded a b o p os ps s t e f =
    let one : (a, o) ≡ (b, p) = same_Some _ _ e in
    let two : (os, s) ≡ (ps, t) = same_Some _ _ f in
    λ i. record {
      meaning = record { evex = (one i).0; opcode = (one i).1; operands = (two i).0; size = (two i).1 };
      len = 0;
    }

pub found_text : (r : Option Decoded) (m : Meaning) (line : List ℕ)
    → IfSome r (λ made. made ≡ record { meaning = m; len = 0 }) → IsTextOf line m
    → IfSome r (λ read. (read.len ≡ 0) × IsTextOf line read.meaning)
found_text None m line h e = tt
found_text (Some made) m line h e = (ap (λ (x : Decoded). x.len) h, rw h e)

-- the text of a meaning is its own words
pub words_text : (m : Meaning) → IsMeaning m → words (text m) ≡ text m
unfolding words text
words_text m h = ap (join_with_byte 32) (parts-text m h)

-- a line that is a text has that text as its words
pub as_words : (m : Meaning) (line : List ℕ) → IsMeaning m → text m ≡ line → IsTextOf line m
as_words m line h e = record { in_range = h; text = sym (words_text m h) ∙ ap words e }
