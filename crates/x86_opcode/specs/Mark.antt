use Rattle.std.specs.Prelude.{ℕ, Option, Some, None}
use Rattle.x86_opcode.specs.declared.Opcode.{Opcode}
use Rattle.x86_opcode.specs.declared.Opcode.TheVariants.{Marked}
use Rattle.x86_opcode.specs.declared.MarkedOpcode.TheVariants as marked

-- the settings bit of its own that an opcode needs with the EVEX mark, where it has one: 10 is
-- `avx512_4fmaps`, 11 `avx512_4vnniw` and 16 `avx512_er`
unfoldable pub marked_bit : Opcode → Option ℕ
marked_bit (Marked marked.V4FMADDPS) = Some 10
marked_bit (Marked marked.V4FNMADDPS) = Some 10
marked_bit (Marked marked.V4FMADDSS) = Some 10
marked_bit (Marked marked.V4FNMADDSS) = Some 10
marked_bit (Marked marked.VP4DPWSSDS) = Some 11
marked_bit (Marked marked.VP4DPWSSD) = Some 11
marked_bit (Marked marked.VEXP2PD) = Some 16
marked_bit (Marked marked.VEXP2PS) = Some 16
marked_bit (Marked marked.VRCP28PD) = Some 16
marked_bit (Marked marked.VRCP28PS) = Some 16
marked_bit (Marked marked.VRCP28SD) = Some 16
marked_bit (Marked marked.VRCP28SS) = Some 16
marked_bit (Marked marked.VRSQRT28PD) = Some 16
marked_bit (Marked marked.VRSQRT28PS) = Some 16
marked_bit (Marked marked.VRSQRT28SD) = Some 16
marked_bit (Marked marked.VRSQRT28SS) = Some 16
marked_bit _ = None
