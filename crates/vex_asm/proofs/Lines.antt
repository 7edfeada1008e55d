-- The meaning of a line is the one of which its words are the text.
use Rattle.std.proofs.Common.{◌≡◌, ◌++◌, ℕ, Bool, true, false, List, [], ◌∷◌, take, drop, Option, Some, None, refl, sym}
use Rattle.std.proofs.Common.{ap, ◌∙◌, subst, codes, take-append-drop}
use Rattle.std.specs.Prelude.{bytes_eq, option_map}
use Rattle.std.proofs.lemmas.Slice.Eq.{bytes_eq-Decides}
use Rattle.std.proofs.lemmas.Option.{none-some, same_Some}
use Rattle.x86_opcode.specs.declared.Opcode.{Opcode}
use Rattle.x86_opcode.specs.Name.{opcode_name}
use Rattle.x86_opcode.specs.Slots.{opcode_at, slot}
use Rattle.x86_opcode.specs.Slots.Lemmas.{name_found}
use Rattle.x86_operand.specs.Meaning.{OperandMeaning, Meaning}
use Rattle.vex_asm.specs.Text.{mark_text, line_parts}
use Rattle.vex_asm.specs.Laws.{IsTextOf, MeaningOfLine}
use Rattle.vex_asm.specs.Line.{opcode_of, head_of, meaning_of, meaning_of_parts}
use Rattle.vex_asm.specs.Parsed.{◌>>=◌, when, few, rest_of}
use Rattle.vex_asm.proofs.Names.{name_plain}
use Rattle.vex_asm.proofs.Meanings.{meant, nothing_meant, spelled, marked_dot}

same_bytes : (a b : List ℕ) → bytes_eq a b ≡ true → a ≡ b
same_bytes a b h = (bytes_eq-Decides a b).0 h

eq_bytes : (a b : List ℕ) → a ≡ b → bytes_eq a b ≡ true
eq_bytes a b h = (bytes_eq-Decides a b).1 h

-- the opcode of a name has it
opcode_named : (name : List ℕ) (o : Opcode) → opcode_of name ≡ Some o → opcode_name o ≡ name
unfolding opcode_of
opcode_named name o h = by (bytes_eq (opcode_name found) name) refl h where
  found : Opcode
  found = opcode_at (slot name)

  by : (b : Bool) → bytes_eq (opcode_name found) name ≡ b → when b found ≡ Some o → opcode_name o ≡ name
  by true same e = ap opcode_name (sym (same_Some _ _ e)) ∙ same_bytes _ _ same
  by false same e = absurd (none-some o e)

-- a name leads to the opcode that has it
named_opcode : (name : List ℕ) (o : Opcode) → opcode_name o ≡ name → opcode_of name ≡ Some o
unfolding opcode_of
named_opcode name o h = rw (name_found o name h, eq_bytes (opcode_name o) name h) refl

abbrev with_mark : Bool → Opcode → Bool × Opcode
with_mark mark opcode = (mark, opcode)

-- a word that begins with the mark
begun : (w : List ℕ) → bytes_eq (take 5 w) (codes "EVEX.") ≡ true → w ≡ codes "EVEX." ++ drop 5 w
begun w h = sym (take-append-drop 5 w) ∙ ap (λ front. front ++ drop 5 w) (same_bytes _ _ h)

-- the mark and the opcode of a word make it
head_made : (w : List ℕ) (mark : Bool) (o : Opcode) → head_of w ≡ Some (mark, o) → mark_text mark ++ opcode_name o ≡ w
unfolding head_of
head_made w mark o h = by (bytes_eq (take 5 w) (codes "EVEX.")) refl where
  by : (b : Bool) → bytes_eq (take 5 w) (codes "EVEX.") ≡ b → mark_text mark ++ opcode_name o ≡ w
  by true front = behind (opcode_of (drop 5 w)) refl (rw front at h) where
    behind : (r : Option Opcode) → opcode_of (drop 5 w) ≡ r → option_map (with_mark true) r ≡ Some (mark, o)
        → mark_text mark ++ opcode_name o ≡ w
    behind None found e = absurd (none-some (mark, o) e)
    behind (Some p) found e =
        let pair : (true, p) ≡ (mark, o) = same_Some _ _ e in
        ap (λ (q : Bool × Opcode). mark_text q.0 ++ opcode_name q.1) (sym pair)
        ∙ ap (λ name. codes "EVEX." ++ name) (opcode_named _ p found)
        ∙ sym (begun w front)
  by false front = behind (opcode_of w) refl (rw front at h) where
    behind : (r : Option Opcode) → opcode_of w ≡ r → option_map (with_mark false) r ≡ Some (mark, o)
        → mark_text mark ++ opcode_name o ≡ w
    behind None found e = absurd (none-some (mark, o) e)
    behind (Some p) found e =
        let pair : (false, p) ≡ (mark, o) = same_Some _ _ e in
        ap (λ (q : Bool × Opcode). mark_text q.0 ++ opcode_name q.1) (sym pair) ∙ opcode_named w p found

-- a word that a mark and an opcode make has them
made_head : (w : List ℕ) (mark : Bool) (o : Opcode) → mark_text mark ++ opcode_name o ≡ w → head_of w ≡ Some (mark, o)
unfolding head_of
made_head w true o h = subst (λ w. head_of w ≡ Some (true, o)) h
    (ap (option_map (with_mark true)) (named_opcode (opcode_name o) o refl))
made_head w false o h = by (bytes_eq (take 5 w) (codes "EVEX.")) refl where
  by : (b : Bool) → bytes_eq (take 5 w) (codes "EVEX.") ≡ b → head_of w ≡ Some (false, o)
  by true front =
      let name_so : opcode_name o ≡ codes "EVEX." ++ drop 5 w = h ∙ begun w front in
      absurd (marked_dot (drop 5 w) (rw name_so at (name_plain o)))
  by false front = rw front (ap (option_map (with_mark false)) (named_opcode w o h))

-- the meaning of a line has the line's words as its text
meant_so : (line : List ℕ) (m : Meaning) → meaning_of line ≡ Some m → IsTextOf line m
unfolding meaning_of
meant_so line m h = by (line_parts line) refl h where
  by : (ws : List (List ℕ)) → line_parts line ≡ ws → meaning_of_parts ws ≡ Some m → IsTextOf line m
  by [] split e = absurd (none-some m e)
  by (w ∷ ws) split e = behind (head_of w) (few (rest_of ws)) refl refl e where
    behind : (head : Option (Bool × Opcode)) (rest : Option (List OperandMeaning × Option ℕ)) → head_of w ≡ head
        → few (rest_of ws) ≡ rest
        → (head >>= λ head. rest >>= λ rest. Some
        (record { evex = head.0; opcode = head.1; operands = rest.0; size = rest.1 })) ≡ Some m
        → IsTextOf line m
    behind None rest front back e = absurd (none-some m e)
    behind (Some head) None front back e = absurd (none-some m e)
    behind (Some head) (Some rest) front back e =
        subst (IsTextOf line) (same_Some _ _ e) (spelled line w ws _ split (head_made w head.0 head.1 front) back)

-- a line whose words are the text of a meaning has that meaning
text_meant : (line : List ℕ) (m : Meaning) → IsTextOf line m → meaning_of line ≡ Some m
unfolding meaning_of
text_meant line m h = by (line_parts line) refl where
  by : (ws : List (List ℕ)) → line_parts line ≡ ws → meaning_of line ≡ Some m
  by [] split = absurd (nothing_meant line m split h)
  by (w ∷ ws) split =
      let both = meant line w ws m split h in
      rw (split, made_head w m.evex m.opcode both.0, both.1) refl

pub meaning_of_line : MeaningOfLine
meaning_of_line line m = (meant_so line m, text_meant line m)
