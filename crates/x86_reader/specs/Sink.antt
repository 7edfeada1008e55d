-- What a sink shows of itself, and what it is to record triples in it.
pub mod Lemmas
use Rattle.std.specs.Prelude.{◌≡◌, ℕ, ◌+◌, ◌-◌, ◌≤◌, ◌↔◌, Bool, IsTrue, if◌then◌else◌, List, ◌++◌, length, take, Option}
use Rattle.std.specs.Prelude.{Some, None, IsSome}
use Rattle.std.specs.Option.{option_map}

-- the first bit and the last bit, and what stands there
abbrev pub Triple : Type 0 → Type 0
Triple D = ℕ × ℕ × D

-- what a sink shows: its triples, where it tells them, and its room, which is how many more it is sure to keep
pub record SinkState (D : Type 0) : Type 0 where
  pub told : Option (List (Triple D))
  pub room : ℕ

-- the sink was given these triples, in this order
pub record Records {D : Type 0} (old new : SinkState D) (triples : List (Triple D)) : Type 0 where
  -- a sink that tells told before, and the triples stand at the end of its list
  pub appended : IsSome new.told → new.told ≡ option_map (λ before. before ++ triples) old.told
  -- a sink that told and had room for them still tells, and its room is less by how many they are
  pub kept : IsSome old.told → length triples ≤ old.room → IsSome new.told × (new.room + length triples ≡ old.room)

-- a `NullSink` tells nothing and has no room
abbrev pub null_state : {D : Type 0} → SinkState D
null_state = record { told = None; room = 0 }

-- how many triples a `ListSink` keeps
abbrev pub most_kept : ℕ
most_kept = 16

-- a `ListSink`: the triples that it keeps, and whether it has dropped none
pub record TripleList (D : Type 0) : Type 0 where
  pub kept : List (Triple D)
  pub whole : Bool

-- what a `ListSink` shows of itself: it tells its triples while it has dropped none
abbrev pub list_state : {D : Type 0} → TripleList D → SinkState D
list_state s = record {
  told = if s.whole then Some s.kept else None;
  room = most_kept - length s.kept;
}

-- of all the triples that it was given, the list keeps the first 16 in order, and it is whole exactly where there were
-- no more
pub record HoldsFirst {D : Type 0} (given : List (Triple D)) (list : TripleList D) : Type 0 where
  pub kept : list.kept ≡ take most_kept given
  pub whole : IsTrue list.whole ↔ (length given ≤ most_kept)
