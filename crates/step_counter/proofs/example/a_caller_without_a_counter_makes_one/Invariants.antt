-- The ledger is that of the blank.
use Rattle.step_counter.proofs.example.a_caller_without_a_counter_makes_one.Given as goal

abbrev pub ghosts-sum_alone : goal.ghosts-sum_alone
ghosts-sum_alone g a = record { name = a.blank.name; parts = a.blank.parts }
