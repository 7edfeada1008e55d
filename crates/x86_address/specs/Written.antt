-- A displacement as the code holds it: only private functions cite this.
use Rattle.std.specs.Int.{cast_unsigned, w8}
use Rattle.x86_address.specs.Bytes.{Displacement, Absent, Short, Long}
use Rattle.x86_address.specs.Shortest.{doubleword_of}
use Rattle.x86_address.specs.declared.displacement.Written.{Written}
use Rattle.x86_address.specs.declared.displacement.Written.TheVariants.{Nothing, Byte, Doubleword}

-- a displacement in code, as the fields of a place have it
abbrev pub displacement_of : Written → Displacement
displacement_of Nothing = Absent
displacement_of (Byte n) = Short (cast_unsigned w8 n)
displacement_of (Doubleword n) = Long (doubleword_of n)
