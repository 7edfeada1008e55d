-- Lemmas on the scales of an index, which no contract cites.
use Rattle.std.proofs.Common.{inl, inr, ℕ, zero, suc, arith}
use Rattle.x86_address.specs.Spells.{IsScale, IsPower}

-- each scale that SIB can say is a power of 2, and each such power is one
pub power_of_scale : (scale : ℕ) → IsScale scale → IsPower scale
power_of_scale scale (inl e) = (0, omega arith, e)
power_of_scale scale (inr (inl e)) = (1, omega arith, e)
power_of_scale scale (inr (inr (inl e))) = (2, omega arith, e)
power_of_scale scale (inr (inr (inr e))) = (3, omega arith, e)

pub scale_of_power : (scale : ℕ) → IsPower scale → IsScale scale
scale_of_power scale (zero, below, e) = inl e
scale_of_power scale (suc zero, below, e) = inr (inl e)
scale_of_power scale (suc (suc zero), below, e) = inr (inr (inl e))
scale_of_power scale (suc (suc (suc zero)), below, e) = inr (inr (inr e))
scale_of_power scale (suc (suc (suc (suc n))), below, e) = absurd (omega arith)
