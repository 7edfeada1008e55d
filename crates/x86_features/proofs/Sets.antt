-- What holds of sets of features.
use Rattle.std.proofs.Common.{◌≡◌, Bool, true, false, ◌||◌, ◌&&◌, IsTrue, List, [], ◌∷◌, refl, sym, ap, subst, ◌∙◌}
use Rattle.std.specs.Bool.{beq}
use Rattle.std.proofs.lemmas.Bool.{and_parts, and_from}
use Rattle.std.specs.List.{list_any}
use Rattle.x86_features.specs.declared.feature.Feature.{Feature}
use Rattle.x86_features.specs.declared.feature.Feature.TheVariants.{Avx, Avx2, Fma, F16c, Bmi1, Bmi2, Aes, Vaes}
use Rattle.x86_features.specs.declared.feature.Feature.TheVariants.{Pclmulqdq, Avx512F, Avx512Vl}
use Rattle.x86_features.specs.declared.feature.FeatureSet.{FeatureSet}
use Rattle.x86_features.specs.Features.{all_features, has, union}

-- ---- equality

-- whether two sets are one, feature by feature
abbrev same : FeatureSet → FeatureSet → Bool
same a b =
    beq a.avx b.avx && (beq a.avx2 b.avx2 && (beq a.fma b.fma && (beq a.f16c b.f16c && (beq a.bmi1 b.bmi1 && (beq
    a.bmi2 b.bmi2 && (beq a.aes b.aes && (beq a.vaes b.vaes && (beq a.pclmulqdq b.pclmulqdq && (beq a.avx512f
    b.avx512f && (beq a.avx512vl b.avx512vl))))))))))

beq_equal : (x y : Bool) → beq x y ≡ true → x ≡ y
beq_equal true true h = refl
beq_equal false false h = refl
beq_equal true false h = sym h
beq_equal false true h = h

beq_self : (x : Bool) → beq x x ≡ true
beq_self true = refl
beq_self false = refl

pub same_equal : (a b : FeatureSet) → same a b ≡ true → a ≡ b
same_equal a b h =
    let h1 = and_parts _ _ h in
    let h2 = and_parts _ _ h1.1 in
    let h3 = and_parts _ _ h2.1 in
    let h4 = and_parts _ _ h3.1 in
    let h5 = and_parts _ _ h4.1 in
    let h6 = and_parts _ _ h5.1 in
    let h7 = and_parts _ _ h6.1 in
    let h8 = and_parts _ _ h7.1 in
    let h9 = and_parts _ _ h8.1 in
    let h10 = and_parts _ _ h9.1 in
    λ i. record {
      avx = beq_equal a.avx b.avx h1.0 i;
      avx2 = beq_equal a.avx2 b.avx2 h2.0 i;
      fma = beq_equal a.fma b.fma h3.0 i;
      f16c = beq_equal a.f16c b.f16c h4.0 i;
      bmi1 = beq_equal a.bmi1 b.bmi1 h5.0 i;
      bmi2 = beq_equal a.bmi2 b.bmi2 h6.0 i;
      aes = beq_equal a.aes b.aes h7.0 i;
      vaes = beq_equal a.vaes b.vaes h8.0 i;
      pclmulqdq = beq_equal a.pclmulqdq b.pclmulqdq h9.0 i;
      avx512f = beq_equal a.avx512f b.avx512f h10.0 i;
      avx512vl = beq_equal a.avx512vl b.avx512vl h10.1 i;
    }

same_self : (a : FeatureSet) → same a a ≡ true
same_self a =
    and_from _ _ (beq_self a.avx) (and_from _ _ (beq_self a.avx2) (and_from _ _ (beq_self a.fma) (and_from _ _
    (beq_self a.f16c) (and_from _ _ (beq_self a.bmi1) (and_from _ _ (beq_self a.bmi2) (and_from _ _ (beq_self a.aes)
    (and_from _ _ (beq_self a.vaes) (and_from _ _ (beq_self a.pclmulqdq) (and_from _ _ (beq_self a.avx512f)
    (beq_self a.avx512vl))))))))))

pub equal_same : (a b : FeatureSet) → a ≡ b → same a b ≡ true
equal_same a b e = subst (λ z. same a z ≡ true) e (same_self a)

-- ---- inclusion

or_absorbs : (a b : Bool) → (b ≡ true → a ≡ true) → (a || b) ≡ a
or_absorbs true b h = refl
or_absorbs false true h = sym (h refl)
or_absorbs false false h = refl

or_right : (a b : Bool) → b ≡ true → (a || b) ≡ true
or_right true b h = refl
or_right false b h = h

has_union : (a b : FeatureSet) (f : Feature) → has (union a b) f ≡ (has a f || has b f)
has_union a b Avx = refl
has_union a b _ = refl

-- a set includes those that add nothing to it
pub union_includes : (a b : FeatureSet) → union a b ≡ a → (f : Feature) → has b f ≡ true → has a f ≡ true
union_includes a b e f h = sym (ap (λ s. has s f) e) ∙ has_union a b f ∙ or_right (has a f) (has b f) h

pub included_union : (a b : FeatureSet) → ((f : Feature) → has b f ≡ true → has a f ≡ true) → union a b ≡ a
included_union a b h = λ i. record {
  avx = or_absorbs a.avx b.avx (h Avx) i;
  avx2 = or_absorbs a.avx2 b.avx2 (h Avx2) i;
  fma = or_absorbs a.fma b.fma (h Fma) i;
  f16c = or_absorbs a.f16c b.f16c (h F16c) i;
  bmi1 = or_absorbs a.bmi1 b.bmi1 (h Bmi1) i;
  bmi2 = or_absorbs a.bmi2 b.bmi2 (h Bmi2) i;
  aes = or_absorbs a.aes b.aes (h Aes) i;
  vaes = or_absorbs a.vaes b.vaes (h Vaes) i;
  pclmulqdq = or_absorbs a.pclmulqdq b.pclmulqdq (h Pclmulqdq) i;
  avx512f = or_absorbs a.avx512f b.avx512f (h Avx512F) i;
  avx512vl = or_absorbs a.avx512vl b.avx512vl (h Avx512Vl) i;
}

-- ---- sets that aren't empty

-- whether a set has a feature
abbrev pub has_some : FeatureSet → Bool
has_some set = list_any (has set) all_features

among_has : (set : FeatureSet) (fs : List Feature) → list_any (has set) fs ≡ true
    → (f : Feature) × IsTrue (has set f)
among_has set [] h = absurd cc
among_has set (f ∷ fs) h = by (has set f) refl (among_has set fs) h where
  by : (b : Bool) → has set f ≡ b → (list_any (has set) fs ≡ true → (g : Feature) × IsTrue (has set g))
      → (b || list_any (has set) fs) ≡ true → (g : Feature) × IsTrue (has set g)
  by true e later h = (f, e)
  by false e later h = later h

pub some_has : (set : FeatureSet) → has_some set ≡ true → (f : Feature) × IsTrue (has set f)
some_has set h = among_has set all_features h
