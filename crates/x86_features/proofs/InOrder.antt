-- The laws of features and processors.
use Rattle.std.proofs.Common.{◌≡◌, refl}
use Rattle.x86_opcode.specs.declared.Opcode.TheVariants.{Integer, Float}
use Rattle.x86_opcode.specs.declared.IntegerOpcode.{IntegerOpcode}
use Rattle.x86_opcode.specs.declared.IntegerOpcode.TheVariants.{ANDN}
use Rattle.x86_opcode.specs.declared.FloatOpcode.{FloatOpcode}
use Rattle.x86_opcode.specs.declared.FloatOpcode.TheVariants.{VADDPS}
use Rattle.x86_uarch.specs.Profiles.{microarchitectures, profiles}
use Rattle.x86_features.specs.declared.processor.Processor.TheVariants.{K8}
use Rattle.x86_features.specs.Needs.{integer_line, integer_line_at, float_line}
use Rattle.x86_features.specs.Processors.{all_processors, processor_name, processor_line}
use Rattle.x86_features.specs.Laws.{NamesAreMicroarchitectures, ProcessorsAreInOrder}

pub integers_in_order : (part : IntegerOpcode) → (integer_line part).opcode ≡ Integer part
unfolding integer_line integer_line_at
integers_in_order ANDN = refl
integers_in_order _ = refl

pub floats_in_order : (part : FloatOpcode) → (float_line part).opcode ≡ Float part
unfolding float_line
floats_in_order VADDPS = refl
floats_in_order _ = refl

pub processors_in_order : ProcessorsAreInOrder
unfolding processor_line
processors_in_order K8 = refl
processors_in_order _ = refl

pub names : NamesAreMicroarchitectures
unfolding all_processors processor_name microarchitectures profiles
names = refl
