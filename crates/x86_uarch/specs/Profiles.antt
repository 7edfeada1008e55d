use Rattle.std.specs.Prelude.{ℕ, Bool, List, [], ◌∷◌, Option, codes, drop, map}
use Rattle.std.specs.Str.{bytes_eq}
use Rattle.std.specs.Map.{lookup}
use Rattle.x86_settings.specs.Bits.{no_bits, all_bits}
use Rattle.x86_settings.specs.Sets.{exactly}
use Rattle.x86_uarch.specs.Amd.{k8, k10, bulldozer, piledriver, steamroller, excavator, zen, zen2, zen3, zen4, zen5}
use Rattle.x86_uarch.specs.Intel.{netburst, core, penryn, nehalem, westmere, sandybridge, ivybridge, haswell}
use Rattle.x86_uarch.specs.Intel.{haswell_ex, broadwell, skylake, kabylake}

-- each name that a profile goes by, and its settings
unfoldable pub profiles : List (List ℕ × List Bool)
profiles =
    (codes "default", all_bits)
    ∷ (codes "minimal", no_bits)
    ∷ (codes "k8", exactly k8)
    ∷ (codes "k10", exactly k10)
    ∷ (codes "bulldozer", exactly bulldozer)
    ∷ (codes "piledriver", exactly piledriver)
    ∷ (codes "steamroller", exactly steamroller)
    ∷ (codes "excavator", exactly excavator)
    ∷ (codes "zen", exactly zen)
    ∷ (codes "zen2", exactly zen2)
    ∷ (codes "zen3", exactly zen3)
    ∷ (codes "zen4", exactly zen4)
    ∷ (codes "zen5", exactly zen5)
    ∷ (codes "netburst", exactly netburst)
    ∷ (codes "core", exactly core)
    ∷ (codes "penryn", exactly penryn)
    ∷ (codes "nehalem", exactly nehalem)
    ∷ (codes "westmere", exactly westmere)
    ∷ (codes "sandybridge", exactly sandybridge)
    ∷ (codes "ivybridge", exactly ivybridge)
    ∷ (codes "haswell", exactly haswell)
    ∷ (codes "haswell_ex", exactly haswell_ex)
    ∷ (codes "broadwell", exactly broadwell)
    ∷ (codes "skylake", exactly skylake)
    ∷ (codes "kabylake", exactly kabylake)
    ∷ []

-- the settings of the profile with that name, or none
unfoldable pub profile_of : List ℕ → Option (List Bool)
profile_of name = lookup (bytes_eq name) profiles

-- the names of the microarchitectures, AMD's before Intel's: all but the first two
unfoldable pub microarchitectures : List (List ℕ)
microarchitectures = map (λ profile. profile.0) (drop 2 profiles)
