-- Four numbers of 16 bits.
use Rattle.std.specs.Prelude.{ℕ, zero, suc, ◌≤◌, [], ◌∷◌, slice_index}
use Rattle.std.proofs.Common.{zero-le}

-- each of four numbers is at most 65,535, and so is what is read past them
pub four_small : (p q r s : ℕ) → p ≤ 65535 → q ≤ 65535 → r ≤ 65535 → s ≤ 65535
    → (value : ℕ) → slice_index (p ∷ (q ∷ (r ∷ (s ∷ [])))) value ≤ 65535
four_small p q r s p_small q_small r_small s_small zero = p_small
four_small p q r s p_small q_small r_small s_small (suc zero) = q_small
four_small p q r s p_small q_small r_small s_small (suc (suc zero)) = r_small
four_small p q r s p_small q_small r_small s_small (suc (suc (suc zero))) = s_small
four_small p q r s p_small q_small r_small s_small (suc (suc (suc (suc value)))) = zero-le
