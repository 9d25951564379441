-- Where a part of a slice lies: in the slice's own memory, so that nothing is copied. An address is a block of memory and an offset in it.
-- Assumes nothing: these are definitions.
use Rattle.std.specs.Prelude.{ℕ, ◌+◌, cond, List, leb, length}

-- The address so many bytes on.
unfoldable pub bytes_on : ℕ × ℕ → ℕ → ℕ × ℕ
bytes_on address n = (address.0, n + address.1)

-- What follows the first `from` bytes of the slice s begins so many bytes on; past the end, it has no bytes and begins where the slice does.
unfoldable pub rest_address : ℕ × ℕ → List ℕ → ℕ → ℕ × ℕ
rest_address address s from = cond (leb from (length s)) (bytes_on address from) address

-- So does what stands from there up to `to`; where it would end before it begins, it has no bytes and begins where the slice does.
unfoldable pub part_address : ℕ × ℕ → List ℕ → ℕ → ℕ → ℕ × ℕ
part_address address s from to = cond (leb from to) (rest_address address s from) address
