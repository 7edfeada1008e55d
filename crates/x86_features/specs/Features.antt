-- CPUID features, and sets of them.
use Rattle.std.specs.Prelude.{ℕ, Bool, ◌||◌, List, [], ◌∷◌, codes}
use Rattle.x86_features.specs.declared.feature.Feature.{Feature}
use Rattle.x86_features.specs.declared.feature.Feature.TheVariants.{Avx, Avx2, Fma, F16c, Bmi1, Bmi2, Aes, Vaes}
use Rattle.x86_features.specs.declared.feature.Feature.TheVariants.{Pclmulqdq, Avx512F, Avx512Vl}
use Rattle.x86_features.specs.declared.feature.FeatureSet.{FeatureSet}

-- all features, in the order in which lists of features stand
abbrev pub all_features : List Feature
all_features =
    Avx ∷ Avx2 ∷ Fma ∷ F16c ∷ Bmi1 ∷ Bmi2 ∷ Aes ∷ Vaes ∷ Pclmulqdq ∷ Avx512F ∷ Avx512Vl ∷ []

-- the name of a feature in the manual
abbrev pub feature_name : Feature → List ℕ
feature_name Avx = codes "AVX"
feature_name Avx2 = codes "AVX2"
feature_name Fma = codes "FMA"
feature_name F16c = codes "F16C"
feature_name Bmi1 = codes "BMI1"
feature_name Bmi2 = codes "BMI2"
feature_name Aes = codes "AES"
feature_name Vaes = codes "VAES"
feature_name Pclmulqdq = codes "PCLMULQDQ"
feature_name Avx512F = codes "AVX512F"
feature_name Avx512Vl = codes "AVX512VL"

-- whether a feature is in a set
abbrev pub has : FeatureSet → Feature → Bool
has set Avx = set.avx
has set Avx2 = set.avx2
has set Fma = set.fma
has set F16c = set.f16c
has set Bmi1 = set.bmi1
has set Bmi2 = set.bmi2
has set Aes = set.aes
has set Vaes = set.vaes
has set Pclmulqdq = set.pclmulqdq
has set Avx512F = set.avx512f
has set Avx512Vl = set.avx512vl

-- the features of two sets together
abbrev pub union : FeatureSet → FeatureSet → FeatureSet
union a b = record {
  avx = a.avx || b.avx;
  avx2 = a.avx2 || b.avx2;
  fma = a.fma || b.fma;
  f16c = a.f16c || b.f16c;
  bmi1 = a.bmi1 || b.bmi1;
  bmi2 = a.bmi2 || b.bmi2;
  aes = a.aes || b.aes;
  vaes = a.vaes || b.vaes;
  pclmulqdq = a.pclmulqdq || b.pclmulqdq;
  avx512f = a.avx512f || b.avx512f;
  avx512vl = a.avx512vl || b.avx512vl;
}
