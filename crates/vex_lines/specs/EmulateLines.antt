-- The lines of what the run of code changes, on a machine that starts anew for each line.
use Rattle.std.specs.Prelude.{ℕ, ◌*◌, ◌%◌, Bool, List, [], ◌++◌, codes, decimal, map, flat_map, bytes_eq}
use Rattle.std.specs.Prelude.{slice_index_or, if◌then◌else◌, Result, Ok, Err}
use Rattle.std.specs.List.{range_with_len}
use Rattle.std.specs.Simd.Lanes.{chunk}
use Rattle.hex.specs.Hex.{encode_lower}
use Rattle.vex_emul.specs.Machine.{State}
use Rattle.vex_emul.specs.Run.{Outcome, cause_name, ran}
use Rattle.vex_emul.specs.declared.run.Halt.{Halt}

-- the numbers below a number
unfoldable pub numbers : ℕ → List ℕ
numbers n = range_with_len 0 n

-- so many bytes, which count up from a number, modulo 256
unfoldable pub counting : ℕ → ℕ → List ℕ
counting first n = map (λ k. k % 256) (range_with_len first n)

-- a vector at the start: byte j of vector i is 16 times i and j, modulo 256
abbrev pub start_vector : ℕ → List ℕ
start_vector i = counting (16 * i) 32

-- the memory at the start: 1,024 bytes, of which byte k is k modulo 256
abbrev pub start_memory : List ℕ
start_memory = counting 0 1024

-- the machine at the start of each line; number i is 32 times i
unfoldable pub start : State
start = record {
  vectors = map start_vector (numbers 16);
  q = map (λ i. 32 * i) (numbers 16);
  memory = start_memory;
}

-- the line of some bytes: a letter and a number, which name them, and the bytes in hex digits; none where they are as
-- at the start
unfoldable pub changed_line : List ℕ → ℕ → List ℕ → List ℕ → List ℕ
changed_line letter number bytes first =
    if bytes_eq bytes first then [] else letter ++ decimal number ++ codes " " ++ encode_lower bytes ++ codes "\n"

-- the line of a vector
abbrev pub vector_line : List (List ℕ) → ℕ → List ℕ
vector_line vectors i = changed_line (codes "y") i (slice_index_or vectors i []) (start_vector i)

-- the line of a block of the memory, 32 bytes at a place that 32 divides
abbrev pub block_line : List ℕ → ℕ → List ℕ
block_line memory b = changed_line (codes "m") (32 * b) (chunk (32 * b) 32 memory) (chunk (32 * b) 32 start_memory)

-- the lines of the vectors, and of the blocks of the memory
unfoldable pub vector_lines : List (List ℕ) → List ℕ
vector_lines vectors = flat_map (vector_line vectors) (numbers 16)

unfoldable pub block_lines : List ℕ → List ℕ
block_lines memory = flat_map (block_line memory) (numbers 32)

-- the line of the end: how many instructions ran, or where the run halts, and why
abbrev pub ran_line : Result ℕ Halt → List ℕ
ran_line (Ok count) = codes "end " ++ decimal count ++ codes "\n"
ran_line (Err halt) = codes "stopped " ++ decimal halt.place ++ codes " " ++ cause_name halt.cause ++ codes "\n"

-- the lines of what a run leaves and answers
abbrev pub outcome_lines : Outcome → List ℕ
outcome_lines (state, result) = vector_lines state.vectors ++ block_lines state.memory ++ ran_line result

-- the lines of the run of code under settings, from the start
unfoldable pub emulate_lines : List Bool → List ℕ → List ℕ
emulate_lines settings code = outcome_lines (ran settings start code)
