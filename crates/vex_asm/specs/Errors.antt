use Rattle.std.specs.Prelude.{ℕ, List, codes}
use Rattle.vex_asm.specs.declared.error.AsmError.{AsmError}
use Rattle.vex_asm.specs.declared.error.AsmError.TheVariants.{BadText, NoSpelling}

-- the name of an error, which is the variant's own spelling
abbrev pub asm_error_name : AsmError → List ℕ
asm_error_name BadText = codes "BadText"
asm_error_name NoSpelling = codes "NoSpelling"
