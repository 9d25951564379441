-- The library's test of a slice's start is that of a key. From the laws of `same`.
use Rattle.std.specs.Prelude.{ℕ, ◌≡◌, List, length, take, nat_eq}
use Rattle.std.proofs.Common.{sym}
use Rattle.std.specs.List.{starts_with}
use Rattle.sets.specs.Laws.Choice.{alike}
use Rattle.slices.specs.Same.{same}
use Rattle.slices.specs.Laws.Same.{same_true, same_is}
use Rattle.lines.specs.Lines.{starts_with as starts_with_key}

pub starts_with_is : (key s : List ℕ) → starts_with nat_eq s key ≡ starts_with_key key s
unfolding same
starts_with_is key s =
    let front = take (length key) s in
    alike (same key front) (same front key)
    (λ e. same_true front key (sym (same_is key front e)))
    (λ e. same_true key front (sym (same_is front key e)))
