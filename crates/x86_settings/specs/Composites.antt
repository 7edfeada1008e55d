use Rattle.std.specs.Prelude.{ℕ, List, [], ◌∷◌}
use Rattle.x86_settings.specs.Settings.{sse4_1, sse4_2, avx512_4fmaps, avx512_4vnniw, avx512_bitalg, avx512_bw}
use Rattle.x86_settings.specs.Settings.{avx512_cd, avx512_dq, avx512_er, avx512_f, avx512_fma, avx512_pf, avx512_vbmi}
use Rattle.x86_settings.specs.Settings.{avx512_vbmi2, avx512_vl, avx512_vpopcntdq, avx512_fp16, avx512_vaes}
use Rattle.x86_settings.specs.Settings.{avx512_gfni, avx512_vpclmulqdq, avx512_bf16, avx512_vnni, avx512_ifma}

-- the settings that make up SSE4
abbrev pub sse4 : List ℕ
sse4 = sse4_1 ∷ sse4_2 ∷ []

-- those of AVX-512
abbrev pub avx512 : List ℕ
avx512 =
    avx512_4fmaps ∷ avx512_4vnniw ∷ avx512_bitalg ∷ avx512_bw ∷ avx512_cd ∷ avx512_dq ∷ avx512_er ∷ avx512_f
    ∷ avx512_fma ∷ avx512_pf ∷ avx512_vbmi ∷ avx512_vbmi2 ∷ avx512_vl ∷ avx512_vpopcntdq ∷ []

-- those of AVX10.1
abbrev pub avx10_1 : List ℕ
avx10_1 =
    avx512_bitalg ∷ avx512_bw ∷ avx512_cd ∷ avx512_dq ∷ avx512_f ∷ avx512_vbmi ∷ avx512_vbmi2 ∷ avx512_vpopcntdq
    ∷ avx512_fp16 ∷ avx512_vaes ∷ avx512_gfni ∷ avx512_vpclmulqdq ∷ avx512_bf16 ∷ avx512_vnni ∷ avx512_ifma ∷ []
