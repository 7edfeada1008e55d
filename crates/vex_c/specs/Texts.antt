-- What the calls on texts and names answer.
use Rattle.std.specs.Prelude.{◌≡◌, ℕ, List, Option, Some, None, codes, ◌==◌, if◌then◌else◌, option_map}
use Rattle.x86_opcode.specs.declared.Opcode.{Opcode}
use Rattle.x86_opcode.specs.Name.{opcode_name}
use Rattle.x86_opcode.specs.Number.{opcode_number}
use Rattle.x86_operand.specs.Meaning.{Meaning}
use Rattle.vex_asm.specs.Laws.{IsTextOf}
use Rattle.vex_asm.specs.Text.{text}
use Rattle.vex_calls.specs.declared.flat_instruction.FlatInstruction.{FlatInstruction}
use Rattle.vex_calls.specs.Errors.{error_name, error_of}
use Rattle.vex_calls.specs.Instructions.{flat_instruction}
use Rattle.vex_c.specs.Answers.{WritesText}

-- the text of what there is, or the number of an error and the room as it was where there is nothing
abbrev pub WritesThere : ℕ → Option (List ℕ) → ℕ → List ℕ → List ℕ → Type 0
WritesThere error None answer old new = (answer ≡ error) × (new ≡ old)
WritesThere error (Some text) answer old new = WritesText text answer old new

-- the struct holds the instruction, of length 0, of a meaning whose text a line has
pub record HoldsRead (line : List ℕ) (flat : FlatInstruction) : Type 0 where
  pub meaning : Meaning
  pub held : flat ≡ flat_instruction (record { meaning = meaning; len = 0 })
  pub text : IsTextOf line meaning

-- a number is that of the opcode of a name
pub record IsNumberOf (name : List ℕ) (number : ℕ) : Type 0 where
  pub opcode : Opcode
  pub named : opcode_name opcode ≡ name
  pub numbered : opcode_number opcode ≡ number

-- the name of what a call answers
abbrev pub answer_name : ℕ → Option (List ℕ)
answer_name n = if n == 0 then Some (codes "Ok") else option_map error_name (error_of n)
