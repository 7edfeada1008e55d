use Rattle.std.specs.Prelude.{ℕ}

-- The place of each setting's bit. Where several have the same place, each of them is set with the others.

-- 3DNow!
abbrev pub _3dnow : ℕ
_3dnow = 1

-- 3DNow! prefetch
abbrev pub _3dnowprefetch : ℕ
_3dnowprefetch = 2

-- ABM
abbrev pub abm : ℕ
abm = 3

-- ADX
abbrev pub adx : ℕ
adx = 4

-- AES-NI
abbrev pub aesni : ℕ
aesni = 5

-- AMD's quirks
abbrev pub amd_quirks : ℕ
amd_quirks = 6

-- AVX
abbrev pub avx : ℕ
avx = 7

-- AVX2
abbrev pub avx2 : ℕ
avx2 = 8

-- AVX512_4FMAPS
abbrev pub avx512_4fmaps : ℕ
avx512_4fmaps = 10

-- AVX512_4VNNIW
abbrev pub avx512_4vnniw : ℕ
avx512_4vnniw = 11

-- AVX512_BITALG
abbrev pub avx512_bitalg : ℕ
avx512_bitalg = 12

-- AVX512BW
abbrev pub avx512_bw : ℕ
avx512_bw = 13

-- AVX512CD
abbrev pub avx512_cd : ℕ
avx512_cd = 14

-- AVX512DQ
abbrev pub avx512_dq : ℕ
avx512_dq = 15

-- AVX512ER
abbrev pub avx512_er : ℕ
avx512_er = 16

-- AVX512F
abbrev pub avx512_f : ℕ
avx512_f = 17

-- AVX512_FMA
abbrev pub avx512_fma : ℕ
avx512_fma = 18

-- AVX512PF
abbrev pub avx512_pf : ℕ
avx512_pf = 19

-- AVX512_VBMI
abbrev pub avx512_vbmi : ℕ
avx512_vbmi = 20

-- AVX512_VBMI2
abbrev pub avx512_vbmi2 : ℕ
avx512_vbmi2 = 21

-- AVX512VL
abbrev pub avx512_vl : ℕ
avx512_vl = 22

-- AVX512_VPOPCNTDQ
abbrev pub avx512_vpopcntdq : ℕ
avx512_vpopcntdq = 23

-- AVX-VNNI
abbrev pub avx_vnni : ℕ
avx_vnni = 24

-- BMI1
abbrev pub bmi1 : ℕ
bmi1 = 25

-- BMI2
abbrev pub bmi2 : ℕ
bmi2 = 26

-- CLFLUSHOPT
abbrev pub clflushopt : ℕ
clflushopt = 27

-- CLWB
abbrev pub clwb : ℕ
clwb = 28

-- CMOV
abbrev pub cmov : ℕ
cmov = 29

-- CMPXCHG16B
abbrev pub cmpxchg16b : ℕ
cmpxchg16b = 30

-- CX8
abbrev pub cx8 : ℕ
cx8 = 31

-- F16C
abbrev pub f16c : ℕ
f16c = 32

-- FMA3
abbrev pub fma3 : ℕ
fma3 = 33

-- FMA4
abbrev pub fma4 : ℕ
fma4 = 34

-- GFNI
abbrev pub gfni : ℕ
gfni = 35

-- Intel's quirks
abbrev pub intel_quirks : ℕ
intel_quirks = 36

-- INVPCID
abbrev pub invpcid : ℕ
invpcid = 37

-- LAHFSAHF
abbrev pub lahfsahf : ℕ
lahfsahf = 38

-- LZCNT
abbrev pub lzcnt : ℕ
lzcnt = 39

-- MONITOR
abbrev pub monitor : ℕ
monitor = 40

-- MOVBE
abbrev pub movbe : ℕ
movbe = 41

-- MPX
abbrev pub mpx : ℕ
mpx = 42

-- PCLMULQDQ
abbrev pub pclmulqdq : ℕ
pclmulqdq = 43

-- PCOMMIT
abbrev pub pcommit : ℕ
pcommit = 44

-- POPCNT
abbrev pub popcnt : ℕ
popcnt = 45

-- PREFETCHW
abbrev pub prefetchw : ℕ
prefetchw = 46

-- PREFETCHWT1
abbrev pub prefetchwt1 : ℕ
prefetchwt1 = 47

-- RDRAND
abbrev pub rdrand : ℕ
rdrand = 48

-- RDSEED
abbrev pub rdseed : ℕ
rdseed = 49

-- RDTSCP
abbrev pub rdtscp : ℕ
rdtscp = 50

-- SGX
abbrev pub sgx : ℕ
sgx = 51

-- SHA
abbrev pub sha : ℕ
sha = 52

-- SKINIT
abbrev pub skinit : ℕ
skinit = 53

-- SSE3
abbrev pub sse3 : ℕ
sse3 = 54

-- SSE4.1
abbrev pub sse4_1 : ℕ
sse4_1 = 55

-- SSE4.2
abbrev pub sse4_2 : ℕ
sse4_2 = 56

-- SSE4a
abbrev pub sse4a : ℕ
sse4a = 57

-- SSSE3
abbrev pub ssse3 : ℕ
ssse3 = 58

-- SVM
abbrev pub svm : ℕ
svm = 59

-- SYSCALL
abbrev pub syscall : ℕ
syscall = 60

-- TBM
abbrev pub tbm : ℕ
tbm = 61

-- TSX
abbrev pub tsx : ℕ
tsx = 62

-- VAES
abbrev pub vaes : ℕ
vaes = 63

-- VMX
abbrev pub vmx : ℕ
vmx = 64

-- XOP
abbrev pub xop : ℕ
xop = 65

-- XSAVE
abbrev pub xsave : ℕ
xsave = 66

-- XSAVEC
abbrev pub xsavec : ℕ
xsavec = 67

-- XSAVES
abbrev pub xsaves : ℕ
xsaves = 68

-- XSAVEOPT
abbrev pub xsaveopt : ℕ
xsaveopt = 69

-- FSGSBASE
abbrev pub fsgsbase : ℕ
fsgsbase = 70

-- MONITORX
abbrev pub monitorx : ℕ
monitorx = 71

-- WBNOINVD
abbrev pub wbnoinvd : ℕ
wbnoinvd = 72

-- CLZERO
abbrev pub clzero : ℕ
clzero = 72

-- RDPID
abbrev pub rdpid : ℕ
rdpid = 73

-- VPCLMULQDQ
abbrev pub vpclmulqdq : ℕ
vpclmulqdq = 74

-- MOVDIR64B
abbrev pub movdir64b : ℕ
movdir64b = 75

-- ENQCMD
abbrev pub enqcmd : ℕ
enqcmd = 76

-- AMX
abbrev pub amx : ℕ
amx = 77

-- AMX-BF16
abbrev pub amx_bf16 : ℕ
amx_bf16 = 78

-- AMX-TILE
abbrev pub amx_tile : ℕ
amx_tile = 79

-- AMX-INT8
abbrev pub amx_int8 : ℕ
amx_int8 = 80

-- AMX-FP16
abbrev pub amx_fp16 : ℕ
amx_fp16 = 81

-- AMX-IFMA
abbrev pub amx_ifma : ℕ
amx_ifma = 82

-- AMX-NE-CONVERT
abbrev pub amx_ne_convert : ℕ
amx_ne_convert = 83

-- AMX-VNNI-INT8
abbrev pub amx_vnni_int8 : ℕ
amx_vnni_int8 = 84

-- AMX-COMPLEX
abbrev pub amx_complex : ℕ
amx_complex = 84

-- AMX-VNNI-INT16
abbrev pub amx_vnni_int16 : ℕ
amx_vnni_int16 = 84

-- AMX-MOVRS
abbrev pub amx_movrs : ℕ
amx_movrs = 85

-- AMX-FP8
abbrev pub amx_fp8 : ℕ
amx_fp8 = 86

-- AMX-TF32
abbrev pub amx_tf32 : ℕ
amx_tf32 = 87

-- SM3
abbrev pub sm3 : ℕ
sm3 = 90

-- SM4
abbrev pub sm4 : ℕ
sm4 = 91

-- SM4 with an EVEX prefix
abbrev pub sm4_evex : ℕ
sm4_evex = 92

-- APX
abbrev pub apx : ℕ
apx = 99

-- FRED
abbrev pub fred : ℕ
fred = 101

-- USER_MSR
abbrev pub urdmsr : ℕ
urdmsr = 101

-- MSR_IMM
abbrev pub immediate_rdmsr : ℕ
immediate_rdmsr = 102

-- MOVRS
abbrev pub movrs : ℕ
movrs = 103

-- AVX512_FP16
abbrev pub avx512_fp16 : ℕ
avx512_fp16 = 104

-- VAES under AVX-512
abbrev pub avx512_vaes : ℕ
avx512_vaes = 105

-- GFNI under AVX-512
abbrev pub avx512_gfni : ℕ
avx512_gfni = 106

-- VPCLMULQDQ under AVX-512
abbrev pub avx512_vpclmulqdq : ℕ
avx512_vpclmulqdq = 107

-- AVX512_BF16
abbrev pub avx512_bf16 : ℕ
avx512_bf16 = 108

-- AVX512_VNNI
abbrev pub avx512_vnni : ℕ
avx512_vnni = 109

-- AVX512_IFMA
abbrev pub avx512_ifma : ℕ
avx512_ifma = 110

-- Key Locker
abbrev pub keylocker : ℕ
keylocker = 111

-- HRESET
abbrev pub hreset : ℕ
hreset = 112
