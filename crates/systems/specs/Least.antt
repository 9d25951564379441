-- The least number below a bound that passes a test, and whether there is one. Assumes nothing: these are definitions.
use Rattle.std.specs.Prelude.{ℕ, zero, suc, Bool, true, false, ltb}

-- The least k below n with p k; n if there is none.
unfoldable pub least : ℕ → (ℕ → Bool) → ℕ
least zero p = zero
least (suc n) p = elim (p zero) [ true ↦ zero | false ↦ suc (least n (λ k. p (suc k))) ]

-- Some k below n has p k.
unfoldable pub any : ℕ → (ℕ → Bool) → Bool
unfolding least
any n p = ltb (least n p) n
