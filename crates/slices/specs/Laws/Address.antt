-- Within a slice, what is left begins so many bytes on. From the definitions in `Address`.
use Rattle.std.specs.Prelude.{ℕ, ◌≤◌, ◌≡◌, cond, List, length}
use Rattle.std.proofs.Common.{ap, le-leb}
use Rattle.slices.specs.Address.{bytes_on, rest_address}

pub rest_within : (address : ℕ × ℕ) (s : List ℕ) (from : ℕ) → from ≤ length s → rest_address address s from ≡ bytes_on address from
unfolding rest_address
rest_within address s from h = ap (λ b. cond b (bytes_on address from) address) (le-leb from (length s) h)
