use Rattle.std.specs.Prelude.{ℕ, List, [], ◌∷◌, ◌++◌}
use Rattle.x86_settings.specs.Settings.{cmov, cmpxchg16b, sse3, sse4_1, sse4_2, ssse3, popcnt, aesni, pclmulqdq, avx}
use Rattle.x86_settings.specs.Settings.{f16c, rdrand, abm, avx2, bmi1, bmi2, fma3, tsx, adx, prefetchw, rdseed, mpx}
use Rattle.x86_settings.specs.Settings.{sgx}

-- the settings of Intel's NetBurst
abbrev pub netburst : List ℕ
netburst = cmov ∷ cmpxchg16b ∷ sse3 ∷ []

-- the settings of Intel's Core
abbrev pub core : List ℕ
core = netburst ++ sse4_1 ∷ sse4_2 ∷ ssse3 ∷ []

-- the settings of Intel's Penryn
abbrev pub penryn : List ℕ
penryn = core

-- the settings of Intel's Nehalem
abbrev pub nehalem : List ℕ
nehalem = core ++ popcnt ∷ []

-- the settings of Intel's Westmere
abbrev pub westmere : List ℕ
westmere = nehalem ++ aesni ∷ pclmulqdq ∷ []

-- the settings of Intel's Sandy Bridge
abbrev pub sandybridge : List ℕ
sandybridge = westmere ++ avx ∷ []

-- the settings of Intel's Ivy Bridge
abbrev pub ivybridge : List ℕ
ivybridge = sandybridge ++ f16c ∷ rdrand ∷ []

-- the settings of Intel's Haswell
abbrev pub haswell : List ℕ
haswell = ivybridge ++ abm ∷ avx2 ∷ bmi1 ∷ bmi2 ∷ fma3 ∷ []

-- the settings of Intel's Haswell-EX
abbrev pub haswell_ex : List ℕ
haswell_ex = haswell ++ tsx ∷ []

-- the settings of Intel's Broadwell
abbrev pub broadwell : List ℕ
broadwell = haswell_ex ++ adx ∷ prefetchw ∷ rdseed ∷ []

-- the settings of Intel's Skylake
abbrev pub skylake : List ℕ
skylake = broadwell ++ mpx ∷ sgx ∷ []

-- the settings of Intel's Kaby Lake
abbrev pub kabylake : List ℕ
kabylake = skylake
