use Rattle.std.specs.Prelude.{ℕ, List, codes}
use Rattle.x86_operand.specs.declared.error.DecodeError.{DecodeError}
use Rattle.x86_operand.specs.declared.error.DecodeError.TheVariants.{ExhaustedInput, InvalidOpcode, InvalidOperand}
use Rattle.x86_operand.specs.declared.error.DecodeError.TheVariants.{Outside}
use Rattle.x86_operand.specs.declared.error.EncodeError.{EncodeError}
use Rattle.x86_operand.specs.declared.error.EncodeError.TheVariants.{NoSpelling}

-- the spelling of a decoding error, as `name` answers and `Display` writes it
abbrev pub decode_error_name : DecodeError → List ℕ
decode_error_name ExhaustedInput = codes "ExhaustedInput"
decode_error_name InvalidOpcode = codes "InvalidOpcode"
decode_error_name InvalidOperand = codes "InvalidOperand"
decode_error_name Outside = codes "Outside"

-- the spelling of an encoding error, as `name` answers and `Display` writes it
abbrev pub encode_error_name : EncodeError → List ℕ
encode_error_name NoSpelling = codes "NoSpelling"
