-- A line with a number. From document 01, "The report". Assumes nothing: this is a definition.
use Rattle.std.specs.Prelude.{ℕ, List}
use Rattle.lines.specs.Decimal.{decimal}
use Rattle.lines.specs.Written.{line}

-- The key, the number in base ten and byte 10.
unfoldable pub number_line : List ℕ → ℕ → List ℕ
unfolding line decimal
number_line key n = line key (decimal n)
