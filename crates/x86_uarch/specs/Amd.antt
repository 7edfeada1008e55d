use Rattle.std.specs.Prelude.{ℕ, List, [], ◌∷◌, ◌++◌}
use Rattle.x86_settings.specs.Settings.{_3dnow, _3dnowprefetch, cmov, abm, cmpxchg16b, lahfsahf, sse3, sse4a, svm}
use Rattle.x86_settings.specs.Settings.{aesni, avx, bmi1, f16c, fma4, pclmulqdq, skinit, sse4_1, sse4_2, ssse3, xop}
use Rattle.x86_settings.specs.Settings.{xsave, fma3, tbm, avx2, bmi2, movbe, rdrand, sha, adx, clflushopt, clwb, rdseed}
use Rattle.x86_settings.specs.Settings.{xsavec, xsaves, xsaveopt, fsgsbase, monitorx, wbnoinvd, rdpid, invpcid, vaes}
use Rattle.x86_settings.specs.Settings.{vpclmulqdq, avx512_bw, avx512_cd, avx512_f, avx512_vbmi, avx512_vbmi2}
use Rattle.x86_settings.specs.Settings.{avx512_vl, avx512_vpopcntdq, gfni, avx512_bitalg, avx512_dq, avx512_fma}
use Rattle.x86_settings.specs.Settings.{movdir64b, enqcmd, avx512_vnni}

-- the settings of AMD's K8
abbrev pub k8 : List ℕ
k8 = _3dnow ∷ _3dnowprefetch ∷ cmov ∷ []

-- the settings of AMD's K10
abbrev pub k10 : List ℕ
k10 = k8 ++ abm ∷ cmpxchg16b ∷ lahfsahf ∷ sse3 ∷ sse4a ∷ svm ∷ []

-- the settings of AMD's Bulldozer
abbrev pub bulldozer : List ℕ
bulldozer =
    abm ∷ aesni ∷ avx ∷ bmi1 ∷ cmpxchg16b ∷ f16c ∷ fma4 ∷ lahfsahf ∷ pclmulqdq ∷ skinit ∷ sse3 ∷ sse4_1 ∷ sse4_2
    ∷ sse4a ∷ ssse3 ∷ svm ∷ xop ∷ xsave ∷ []

-- the settings of AMD's Piledriver
abbrev pub piledriver : List ℕ
piledriver = bulldozer ++ fma3 ∷ tbm ∷ []

-- the settings of AMD's Steamroller
abbrev pub steamroller : List ℕ
steamroller = bulldozer

-- the settings of AMD's Excavator
abbrev pub excavator : List ℕ
excavator = bulldozer ++ avx2 ∷ bmi2 ∷ movbe ∷ rdrand ∷ sha ∷ []

-- the settings of AMD's Zen
abbrev pub zen : List ℕ
zen =
    abm ∷ adx ∷ aesni ∷ avx ∷ avx2 ∷ bmi1 ∷ bmi2 ∷ clflushopt ∷ clwb ∷ cmpxchg16b ∷ f16c ∷ fma3 ∷ lahfsahf ∷ movbe
    ∷ pclmulqdq ∷ rdrand ∷ rdseed ∷ sha ∷ skinit ∷ sse3 ∷ sse4_1 ∷ sse4_2 ∷ sse4a ∷ ssse3 ∷ svm ∷ xsave ∷ xsavec
    ∷ xsaves ∷ xsaveopt ∷ fsgsbase ∷ monitorx ∷ []

-- the settings of AMD's Zen 2
abbrev pub zen2 : List ℕ
zen2 = zen ++ wbnoinvd ∷ rdpid ∷ []

-- the settings of AMD's Zen 3
abbrev pub zen3 : List ℕ
zen3 = zen2 ++ invpcid ∷ vaes ∷ vpclmulqdq ∷ []

-- the settings of AMD's Zen 4
abbrev pub zen4 : List ℕ
zen4 =
    zen3 ++ avx512_bw ∷ avx512_cd ∷ avx512_f ∷ avx512_vbmi ∷ avx512_vbmi2 ∷ avx512_vl ∷ avx512_vpopcntdq ∷ gfni ∷ []

-- the settings of AMD's Zen 5
abbrev pub zen5 : List ℕ
zen5 = zen4 ++ avx512_bitalg ∷ avx512_dq ∷ avx512_fma ∷ movdir64b ∷ enqcmd ∷ avx512_vnni ∷ []
