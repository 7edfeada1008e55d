use Rattle.std.specs.Prelude.{◌≡◌, ℕ, ◌<◌, ◌≤◌, length, IsTrue}
use Rattle.x86_settings.specs.Bits.{is_set}
use Rattle.vex_check.proofs.accept.has_each_bit.Given as goal

-- the bits so far, and how many there are once one was read
abbrev pub invariant-loop-bit : goal.invariant-loop-bit
invariant-loop-bit l = ((i : ℕ) → i < l.bit → IsTrue (is_set l.wanted i) → IsTrue (is_set l.decoder i))
    × (1 ≤ l.bit → length l.wanted ≡ 128)
