-- The processors that have names, and their features.
use Rattle.std.specs.Prelude.{ℕ, List, [], ◌∷◌, Option, codes, find, slice_index_or}
use Rattle.std.specs.Str.{bytes_eq}
use denote.Enum.Declared.{tag_of}
use Rattle.x86_features.specs.contracts.processor.Processor.{the_type}
use Rattle.x86_features.specs.declared.feature.FeatureSet.{FeatureSet}
use Rattle.x86_features.specs.declared.feature.TheConstants.{NONE}
use Rattle.x86_features.specs.declared.processor.Processor.{Processor}
use Rattle.x86_features.specs.declared.processor.Processor.TheVariants.{K8, K10, Bulldozer, Piledriver, Steamroller}
use Rattle.x86_features.specs.declared.processor.Processor.TheVariants.{Excavator, Zen, Zen2, Zen3, Zen4, Zen5}
use Rattle.x86_features.specs.declared.processor.Processor.TheVariants.{Netburst, Core, Penryn, Nehalem, Westmere}
use Rattle.x86_features.specs.declared.processor.Processor.TheVariants.{Sandybridge, Ivybridge, Haswell, HaswellEx}
use Rattle.x86_features.specs.declared.processor.Processor.TheVariants.{Broadwell, Skylake, Kabylake}
use Rattle.x86_features.specs.declared.processor.ProcessorLine.{ProcessorLine}
use Rattle.x86_features.specs.declared.processor.TheConstants.{PROCESSORS}

-- all processors, AMD's before Intel's
unfoldable pub all_processors : List Processor
all_processors =
    K8 ∷ K10 ∷ Bulldozer ∷ Piledriver ∷ Steamroller ∷ Excavator ∷ Zen ∷ Zen2 ∷ Zen3 ∷ Zen4 ∷ Zen5 ∷ Netburst ∷ Core
    ∷ Penryn ∷ Nehalem ∷ Westmere ∷ Sandybridge ∷ Ivybridge ∷ Haswell ∷ HaswellEx ∷ Broadwell ∷ Skylake ∷ Kabylake ∷ []

-- the name of a processor
unfoldable pub processor_name : Processor → List ℕ
processor_name K8 = codes "k8"
processor_name K10 = codes "k10"
processor_name Bulldozer = codes "bulldozer"
processor_name Piledriver = codes "piledriver"
processor_name Steamroller = codes "steamroller"
processor_name Excavator = codes "excavator"
processor_name Zen = codes "zen"
processor_name Zen2 = codes "zen2"
processor_name Zen3 = codes "zen3"
processor_name Zen4 = codes "zen4"
processor_name Zen5 = codes "zen5"
processor_name Netburst = codes "netburst"
processor_name Core = codes "core"
processor_name Penryn = codes "penryn"
processor_name Nehalem = codes "nehalem"
processor_name Westmere = codes "westmere"
processor_name Sandybridge = codes "sandybridge"
processor_name Ivybridge = codes "ivybridge"
processor_name Haswell = codes "haswell"
processor_name HaswellEx = codes "haswell_ex"
processor_name Broadwell = codes "broadwell"
processor_name Skylake = codes "skylake"
processor_name Kabylake = codes "kabylake"

-- the processor of a name, or none
unfoldable pub processor_named : List ℕ → Option Processor
processor_named name = find (λ processor. bytes_eq (processor_name processor) name) all_processors

-- the line of the table for a processor
unfoldable pub processor_line : Processor → ProcessorLine
processor_line processor =
    slice_index_or PROCESSORS (tag_of the_type processor) (record { processor = processor; features = NONE })

-- the features that a processor has
unfoldable pub processor_features : Processor → FeatureSet
processor_features processor = (processor_line processor).features
