-- Laws of features and processors: each is the contract of a function in the module `laws`.
use Rattle.std.specs.Prelude.{◌≡◌, ◌↔◌, ◌||◌, map, IsTrue}
use Rattle.x86_opcode.specs.declared.IntegerOpcode.{IntegerOpcode}
use Rattle.x86_opcode.specs.declared.FloatOpcode.{FloatOpcode}
use Rattle.x86_opcode.specs.declared.Opcode.TheVariants.{Integer, Float}
use Rattle.x86_opcode.specs.Vex.{is_vex}
use Rattle.x86_operand.specs.Meaning.{Meaning}
use Rattle.x86_uarch.specs.Profiles.{microarchitectures}
use Rattle.x86_features.specs.declared.feature.Feature.{Feature}
use Rattle.x86_features.specs.declared.processor.Processor.{Processor}
use Rattle.x86_features.specs.Features.{has}
use Rattle.x86_features.specs.Needs.{integer_line, float_line, features}
use Rattle.x86_features.specs.Processors.{all_processors, processor_name, processor_line}

-- each line of the tables of opcodes is that of the opcode which it names
abbrev pub RulesAreInOrder : Type 0
RulesAreInOrder =
    ((part : IntegerOpcode) → (integer_line part).opcode ≡ Integer part)
    × ((part : FloatOpcode) → (float_line part).opcode ≡ Float part)

-- each line of the table of processors is that of the processor which it names
abbrev pub ProcessorsAreInOrder : Type 0
ProcessorsAreInOrder = (processor : Processor) → (processor_line processor).processor ≡ processor

-- the processors have the names of the microarchitectures, in the same order
abbrev pub NamesAreMicroarchitectures : Type 0
NamesAreMicroarchitectures = map processor_name all_processors ≡ microarchitectures

-- an instruction needs a feature exactly where it has the EVEX mark or a VEX opcode
abbrev pub VexAndMarkedNeedFeatures : Type 0
VexAndMarkedNeedFeatures = (m : Meaning)
    → ((feature : Feature) × IsTrue (has (features m) feature)) ↔ IsTrue (m.evex || is_vex m.opcode)
