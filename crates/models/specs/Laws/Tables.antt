-- A table that is computed at once: functions that give the same list agree on its members. By induction on the place of the member.
use Rattle.std.specs.Prelude.{◌≡◌}
use Rattle.std.proofs.Common.{sym, ap, ◌∙◌}
use mathlib.Core.List.{List, [], ◌∷◌, map, Memᴰ}

pub map_agree : {A B : Type 0} (f g : A → B) (l : List A) → map f l ≡ map g l → (x : A) → Memᴰ x l → f x ≡ g x
map_agree f g [] e x m = elim m [ ]
map_agree f g (y ∷ l) e x (Memᴰ.head p) = ap f p ∙ head ∙ ap g (sym p)
  where
    head : f y ≡ g y
    head = cc
map_agree f g (y ∷ l) e x (Memᴰ.tail m) = map_agree f g l (cc) x m
