-- The conditions of opcodes without the EVEX mark, written by tools/opcodes.py.
use Rattle.x86_opcode.specs.declared.Opcode.{Opcode}
use Rattle.x86_opcode.specs.declared.Opcode.TheVariants.{Invalid, BSF, Legacy, Integer, Float, Fused, Marked}
use Rattle.x86_opcode.specs.declared.LegacyOpcode.{LegacyOpcode}
use Rattle.x86_opcode.specs.declared.LegacyOpcode.TheVariants as legacy
use Rattle.x86_opcode.specs.declared.IntegerOpcode.{IntegerOpcode}
use Rattle.x86_opcode.specs.declared.IntegerOpcode.TheVariants as integer
use Rattle.x86_opcode.specs.declared.FloatOpcode.{FloatOpcode}
use Rattle.x86_opcode.specs.declared.FloatOpcode.TheVariants as float
use Rattle.x86_opcode.specs.declared.FusedOpcode.{FusedOpcode}
use Rattle.x86_opcode.specs.declared.MarkedOpcode.{MarkedOpcode}
use Rattle.x86_opcode.specs.declared.MarkedOpcode.TheVariants as marked
use Rattle.x86_opcode.specs.declared.condition.Condition.{Condition}
use Rattle.x86_opcode.specs.declared.condition.Condition.TheVariants as on

-- the condition of an opcode: instructions that have no VEX or EVEX prefix
abbrev pub legacy_condition : LegacyOpcode → Condition
legacy_condition legacy.FEMMS = on.ThreeDNow
legacy_condition legacy.PAVGUSB = on.ThreeDNow
legacy_condition legacy.PFADD = on.ThreeDNow
legacy_condition legacy.PFSUB = on.ThreeDNow
legacy_condition legacy.PFSUBR = on.ThreeDNow
legacy_condition legacy.PFACC = on.ThreeDNow
legacy_condition legacy.PFCMPGE = on.ThreeDNow
legacy_condition legacy.PFCMPGT = on.ThreeDNow
legacy_condition legacy.PFCMPEQ = on.ThreeDNow
legacy_condition legacy.PFMAX = on.ThreeDNow
legacy_condition legacy.PFMIN = on.ThreeDNow
legacy_condition legacy.PI2FD = on.ThreeDNow
legacy_condition legacy.PF2ID = on.ThreeDNow
legacy_condition legacy.PFRCP = on.ThreeDNow
legacy_condition legacy.PFRSQRT = on.ThreeDNow
legacy_condition legacy.PFMUL = on.ThreeDNow
legacy_condition legacy.PFRCPIT1 = on.ThreeDNow
legacy_condition legacy.PFRCPIT2 = on.ThreeDNow
legacy_condition legacy.PFRSQIT1 = on.ThreeDNow
legacy_condition legacy.PMULHRW = on.ThreeDNow
legacy_condition legacy.PF2IW = on.ThreeDNow
legacy_condition legacy.PFNACC = on.ThreeDNow
legacy_condition legacy.PFPNACC = on.ThreeDNow
legacy_condition legacy.PI2FW = on.ThreeDNow
legacy_condition legacy.PSWAPD = on.ThreeDNow
legacy_condition legacy.TZCNT = on.Tzcnt
legacy_condition legacy.LDDQU = on.Sse3
legacy_condition legacy.ADDSUBPS = on.Sse3
legacy_condition legacy.ADDSUBPD = on.Sse3
legacy_condition legacy.HADDPS = on.Sse3
legacy_condition legacy.HSUBPS = on.Sse3
legacy_condition legacy.HADDPD = on.Sse3
legacy_condition legacy.HSUBPD = on.Sse3
legacy_condition legacy.MOVSHDUP = on.Sse3
legacy_condition legacy.MOVSLDUP = on.Sse3
legacy_condition legacy.MOVDDUP = on.Sse3
legacy_condition legacy.MONITOR = on.Sse3
legacy_condition legacy.MWAIT = on.Sse3
legacy_condition legacy.PHADDW = on.Ssse3
legacy_condition legacy.PHADDSW = on.Ssse3
legacy_condition legacy.PHADDD = on.Ssse3
legacy_condition legacy.PHSUBW = on.Ssse3
legacy_condition legacy.PHSUBSW = on.Ssse3
legacy_condition legacy.PHSUBD = on.Ssse3
legacy_condition legacy.PABSB = on.Ssse3
legacy_condition legacy.PABSW = on.Ssse3
legacy_condition legacy.PABSD = on.Ssse3
legacy_condition legacy.PMADDUBSW = on.Ssse3
legacy_condition legacy.PMULHRSW = on.Ssse3
legacy_condition legacy.PSHUFB = on.Ssse3
legacy_condition legacy.PSIGNB = on.Ssse3
legacy_condition legacy.PSIGNW = on.Ssse3
legacy_condition legacy.PSIGND = on.Ssse3
legacy_condition legacy.PALIGNR = on.Ssse3
legacy_condition legacy.PMULLD = on.Sse41
legacy_condition legacy.PMULDQ = on.Sse41
legacy_condition legacy.MOVNTDQA = on.Sse41
legacy_condition legacy.BLENDPD = on.Sse41
legacy_condition legacy.BLENDPS = on.Sse41
legacy_condition legacy.BLENDVPD = on.Sse41
legacy_condition legacy.BLENDVPS = on.Sse41
legacy_condition legacy.PBLENDVB = on.Sse41
legacy_condition legacy.BLENDW = on.Sse41
legacy_condition legacy.PMINUW = on.Sse41
legacy_condition legacy.PMINUD = on.Sse41
legacy_condition legacy.PMINSB = on.Sse41
legacy_condition legacy.PMINSD = on.Sse41
legacy_condition legacy.PMAXUW = on.Sse41
legacy_condition legacy.PMAXUD = on.Sse41
legacy_condition legacy.PMAXSB = on.Sse41
legacy_condition legacy.PMAXSD = on.Sse41
legacy_condition legacy.ROUNDPS = on.Sse41
legacy_condition legacy.ROUNDPD = on.Sse41
legacy_condition legacy.ROUNDSS = on.Sse41
legacy_condition legacy.ROUNDSD = on.Sse41
legacy_condition legacy.PBLENDW = on.Sse41
legacy_condition legacy.EXTRACTPS = on.Sse41
legacy_condition legacy.INSERTPS = on.Sse41
legacy_condition legacy.PINSRB = on.Sse41
legacy_condition legacy.PINSRD = on.Sse41
legacy_condition legacy.PINSRQ = on.Sse41
legacy_condition legacy.PMOVSXBW = on.Sse41
legacy_condition legacy.PMOVZXBW = on.Sse41
legacy_condition legacy.PMOVSXBD = on.Sse41
legacy_condition legacy.PMOVZXBD = on.Sse41
legacy_condition legacy.PMOVSXWD = on.Sse41
legacy_condition legacy.PMOVZXWD = on.Sse41
legacy_condition legacy.PMOVSXBQ = on.Sse41
legacy_condition legacy.PMOVZXBQ = on.Sse41
legacy_condition legacy.PMOVSXWQ = on.Sse41
legacy_condition legacy.PMOVZXWQ = on.Sse41
legacy_condition legacy.PMOVSXDQ = on.Sse41
legacy_condition legacy.PMOVZXDQ = on.Sse41
legacy_condition legacy.DPPS = on.Sse41
legacy_condition legacy.DPPD = on.Sse41
legacy_condition legacy.MPSADBW = on.Sse41
legacy_condition legacy.PHMINPOSUW = on.Sse41
legacy_condition legacy.PTEST = on.Sse41
legacy_condition legacy.PCMPEQQ = on.Sse41
legacy_condition legacy.PEXTRB = on.Sse41
legacy_condition legacy.PEXTRW = on.Sse41
legacy_condition legacy.PEXTRD = on.Sse41
legacy_condition legacy.PEXTRQ = on.Sse41
legacy_condition legacy.PACKUSDW = on.Sse41
legacy_condition legacy.EXTRQ = on.Sse4a
legacy_condition legacy.INSERTQ = on.Sse4a
legacy_condition legacy.MOVNTSS = on.Sse4a
legacy_condition legacy.MOVNTSD = on.Sse4a
legacy_condition legacy.CRC32 = on.Sse42
legacy_condition legacy.PCMPESTRI = on.Sse42
legacy_condition legacy.PCMPESTRM = on.Sse42
legacy_condition legacy.PCMPISTRI = on.Sse42
legacy_condition legacy.PCMPISTRM = on.Sse42
legacy_condition legacy.PCMPGTQ = on.Sse42
legacy_condition legacy.AESDEC = on.Aesni
legacy_condition legacy.AESDECLAST = on.Aesni
legacy_condition legacy.AESENC = on.Aesni
legacy_condition legacy.AESENCLAST = on.Aesni
legacy_condition legacy.AESIMC = on.Aesni
legacy_condition legacy.AESKEYGENASSIST = on.Aesni
legacy_condition legacy.PCLMULQDQ = on.Pclmulqdq
legacy_condition legacy.XABORT = on.Tsx
legacy_condition legacy.XBEGIN = on.Tsx
legacy_condition legacy.XEND = on.Tsx
legacy_condition legacy.XTEST = on.Tsx
legacy_condition legacy.SHA1MSG1 = on.Sha
legacy_condition legacy.SHA1MSG2 = on.Sha
legacy_condition legacy.SHA1NEXTE = on.Sha
legacy_condition legacy.SHA1RNDS4 = on.Sha
legacy_condition legacy.SHA256MSG1 = on.Sha
legacy_condition legacy.SHA256MSG2 = on.Sha
legacy_condition legacy.SHA256RNDS2 = on.Sha
legacy_condition legacy.ENCLV = on.Sgx
legacy_condition legacy.ENCLS = on.Sgx
legacy_condition legacy.ENCLU = on.Sgx
legacy_condition legacy.MOVBE = on.Movbe
legacy_condition legacy.POPCNT = on.Popcnt
legacy_condition legacy.LZCNT = on.Lzcnt
legacy_condition legacy.ADCX = on.Adx
legacy_condition legacy.ADOX = on.Adx
legacy_condition legacy.VMRUN = on.Svm
legacy_condition legacy.VMLOAD = on.Svm
legacy_condition legacy.VMSAVE = on.Svm
legacy_condition legacy.CLGI = on.Svm
legacy_condition legacy.VMMCALL = on.Svm
legacy_condition legacy.INVLPGA = on.Svm
legacy_condition legacy.STGI = on.SvmAndSkinit
legacy_condition legacy.SKINIT = on.SvmAndSkinit
legacy_condition legacy.LAHF = on.Lahfsahf
legacy_condition legacy.SAHF = on.Lahfsahf
legacy_condition legacy.RDRAND = on.Rdrand
legacy_condition legacy.RDSEED = on.Rdseed
legacy_condition legacy.AESDEC128KL = on.Keylocker
legacy_condition legacy.AESDEC256KL = on.Keylocker
legacy_condition legacy.AESDECWIDE128KL = on.Keylocker
legacy_condition legacy.AESDECWIDE256KL = on.Keylocker
legacy_condition legacy.AESENC128KL = on.Keylocker
legacy_condition legacy.AESENC256KL = on.Keylocker
legacy_condition legacy.AESENCWIDE128KL = on.Keylocker
legacy_condition legacy.AESENCWIDE256KL = on.Keylocker
legacy_condition legacy.ENCODEKEY128 = on.Keylocker
legacy_condition legacy.ENCODEKEY256 = on.Keylocker
legacy_condition legacy.LOADIWKEY = on.Keylocker
legacy_condition legacy.MONITORX = on.AmdQuirks
legacy_condition legacy.MWAITX = on.AmdQuirks
legacy_condition legacy.CLZERO = on.AmdQuirks
legacy_condition legacy.RDPRU = on.AmdQuirks
legacy_condition legacy.INVEPT = on.Vmx
legacy_condition legacy.INVVPID = on.Vmx
legacy_condition legacy.HRESET = on.Hreset

-- the condition of an opcode: VEX instructions on integers, on general registers, and on no operand
abbrev pub integer_condition : IntegerOpcode → Condition
integer_condition integer.ANDN = on.Bmi1
integer_condition integer.BEXTR = on.Bmi1
integer_condition integer.BLSI = on.Bmi1
integer_condition integer.BLSMSK = on.Bmi1
integer_condition integer.BLSR = on.Bmi1
integer_condition integer.BZHI = on.Bmi2
integer_condition integer.MULX = on.Bmi2
integer_condition integer.PDEP = on.Bmi2
integer_condition integer.PEXT = on.Bmi2
integer_condition integer.RORX = on.Bmi2
integer_condition integer.SARX = on.Bmi2
integer_condition integer.SHLX = on.Bmi2
integer_condition integer.SHRX = on.Bmi2
integer_condition integer.VAESDEC = on.AvxAndAesni
integer_condition integer.VAESDECLAST = on.AvxAndAesni
integer_condition integer.VAESENC = on.AvxAndAesni
integer_condition integer.VAESENCLAST = on.AvxAndAesni
integer_condition integer.VAESIMC = on.AvxAndAesni
integer_condition integer.VAESKEYGENASSIST = on.AvxAndAesni
integer_condition _ = on.Avx

-- the condition of an opcode: VEX instructions on packed and scalar floats
abbrev pub float_condition : FloatOpcode → Condition
float_condition float.VCVTPH2PS = on.AvxAndF16c
float_condition float.VCVTPS2PH = on.AvxAndF16c
float_condition _ = on.Avx

-- the condition of an opcode: fused multiply-add instructions
abbrev pub fused_condition : FusedOpcode → Condition
fused_condition _ = on.Avx

-- the condition of an opcode: instructions that have only an EVEX prefix
abbrev pub marked_condition : MarkedOpcode → Condition
marked_condition marked.VPMULLQ = on.Avx
marked_condition marked.VP4DPWSSDS = on.Always
marked_condition marked.VP4DPWSSD = on.Always
marked_condition marked.V4FMADDPS = on.Always
marked_condition marked.V4FNMADDPS = on.Always
marked_condition marked.V4FMADDSS = on.Always
marked_condition marked.V4FNMADDSS = on.Always
marked_condition marked.VEXP2PD = on.Always
marked_condition marked.VEXP2PS = on.Always
marked_condition marked.VRCP28PD = on.Always
marked_condition marked.VRCP28PS = on.Always
marked_condition marked.VRCP28SD = on.Always
marked_condition marked.VRCP28SS = on.Always
marked_condition marked.VRSQRT28PD = on.Always
marked_condition marked.VRSQRT28PS = on.Always
marked_condition marked.VRSQRT28SD = on.Always
marked_condition marked.VRSQRT28SS = on.Always

-- the condition under which settings permit an opcode without the EVEX mark
unfoldable pub opcode_condition : Opcode → Condition
opcode_condition Invalid = on.Always
opcode_condition BSF = on.Always
opcode_condition (Legacy o) = legacy_condition o
opcode_condition (Integer o) = integer_condition o
opcode_condition (Float o) = float_condition o
opcode_condition (Fused o) = fused_condition o
opcode_condition (Marked o) = marked_condition o
