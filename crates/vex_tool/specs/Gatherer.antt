-- What contracts see of a writer that gathers.
use Rattle.std.specs.Prelude.{ℕ, List, Option}
use Rattle.std.specs.Io.KnownBytes.{append_known}

-- a gatherer: the writer behind it, and the bytes that it has not handed on
pub record GathererView (W : Type 0) : Type 0 where
  pub output : W
  pub gathered : List ℕ

-- the bytes of the writer behind it, where these are told, and then the gathered ones
abbrev pub gatherer_contents : {W : Type 0} → (W → Option (List ℕ)) → GathererView W → Option (List ℕ)
gatherer_contents contents g = append_known (contents g.output) g.gathered
