-- Whether two lists of bytes are the same. Assumes nothing: this is a definition.
use Rattle.std.specs.Prelude.{ℕ, Bool, List, bytes_eq}

unfoldable pub same : List ℕ → List ℕ → Bool
same a b = bytes_eq a b
