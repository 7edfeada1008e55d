-- The errors of the calls: their numbers and names.
use Rattle.std.specs.Prelude.{ℕ, List, codes, Option, Some, None, ◌==◌, if◌then◌else◌}
use Rattle.x86_operand.specs.declared.error.DecodeError.{DecodeError}
use Rattle.x86_operand.specs.declared.error.DecodeError.TheVariants as decode
use Rattle.vex_calls.specs.declared.call_error.CallError.{CallError}
use Rattle.vex_calls.specs.declared.call_error.CallError.TheVariants.{ExhaustedInput, InvalidOpcode, InvalidOperand}
use Rattle.vex_calls.specs.declared.call_error.CallError.TheVariants.{Outside, NoSpelling, BadInstruction, BadEncoding}
use Rattle.vex_calls.specs.declared.call_error.CallError.TheVariants.{BadText, BadSyntax, NoRoom, NoSuchName}
use Rattle.vex_calls.specs.declared.call_error.CallError.TheVariants.{NoSuchNumber, Marked}

-- the number of an error: 0 stands for none
abbrev pub error_number : CallError → ℕ
error_number ExhaustedInput = 1
error_number InvalidOpcode = 2
error_number InvalidOperand = 3
error_number Outside = 4
error_number NoSpelling = 5
error_number BadInstruction = 6
error_number BadEncoding = 7
error_number BadText = 8
error_number BadSyntax = 9
error_number NoRoom = 10
error_number NoSuchName = 11
error_number NoSuchNumber = 12
error_number Marked = 13

-- the error of a number, none of 0 and from 14 on
abbrev pub error_of : ℕ → Option CallError
error_of n =
    if n == 1 then Some ExhaustedInput
    else if n == 2 then Some InvalidOpcode
    else if n == 3 then Some InvalidOperand
    else if n == 4 then Some Outside
    else if n == 5 then Some NoSpelling
    else if n == 6 then Some BadInstruction
    else if n == 7 then Some BadEncoding
    else if n == 8 then Some BadText
    else if n == 9 then Some BadSyntax
    else if n == 10 then Some NoRoom
    else if n == 11 then Some NoSuchName
    else if n == 12 then Some NoSuchNumber
    else if n == 13 then Some Marked
    else None

-- the name of an error
abbrev pub error_name : CallError → List ℕ
error_name ExhaustedInput = codes "ExhaustedInput"
error_name InvalidOpcode = codes "InvalidOpcode"
error_name InvalidOperand = codes "InvalidOperand"
error_name Outside = codes "Outside"
error_name NoSpelling = codes "NoSpelling"
error_name BadInstruction = codes "BadInstruction"
error_name BadEncoding = codes "BadEncoding"
error_name BadText = codes "BadText"
error_name BadSyntax = codes "BadSyntax"
error_name NoRoom = codes "NoRoom"
error_name NoSuchName = codes "NoSuchName"
error_name NoSuchNumber = codes "NoSuchNumber"
error_name Marked = codes "Marked"

-- an error of decoding, among those of the calls
abbrev pub decode_error : DecodeError → CallError
decode_error decode.ExhaustedInput = ExhaustedInput
decode_error decode.InvalidOpcode = InvalidOpcode
decode_error decode.InvalidOperand = InvalidOperand
decode_error decode.Outside = Outside
