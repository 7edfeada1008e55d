use Rattle.std.proofs.Common.{◌≡◌, drop, find}
use Rattle.std.specs.Str.{bytes_eq}
use Rattle.x86_features.specs.Processors.{processor_name, processor_named}
use Rattle.x86_features.proofs.processor.Processor.named.Given as goal

abbrev pub invariant-loop-processor : goal.invariant-loop-processor
invariant-loop-processor l =
    find (λ processor. bytes_eq (processor_name processor) l.name) (drop l.processor-index l.processor-items)
    ≡ processor_named l.name
