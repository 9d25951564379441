-- What the expression that a text begins with is worth, by the token of the text's first byte and by what stands behind it.
-- From the definitions of `Reading` and `Folded` and the law that what is read is written.
use Prim.Native.Nat.{ℕ, ◌+◌, ◌-◌, ◌≤◌}
use mathlib.Core.Path.{◌≡◌, refl, sym, ap, ap₂, ◌∙◌}
use mathlib.Core.List.{List, [], ◌∷◌}
use native.Mathlib.Omega.{arith}
use borrow.Author.Rules.{part_to_end}
use lib.ListN.{length, take, drop, length-append}
use Rattle.std.specs.Prelude.{Option, Some, None}
use Rattle.std.proofs.lemmas.Option.{some_pair_parts}
use Rattle.exprs.specs.declared.token.Token.{Token}
use Rattle.exprs.specs.declared.token.Token.TheVariants.{Constant, Now, Next, Not, And, Or, Implies, Alike, Other}
use Rattle.exprs.specs.Token.{token_of, operand_count}
use Rattle.exprs.specs.Expr.{Expr, negation, conjunction, disjunction, implication, equivalence, written, size}
use Rattle.exprs.specs.Reading.{with_one, with_two, before, operands, first, read_expr}
use Rattle.exprs.specs.Folded.{folded, worth_of}
use Rattle.exprs.specs.Laws.Reading.{read_written}

module _ {A : Type 0} (leaf : Token → A) (negated : A → A) (joined : Token → A → A → A) where
  worth : Expr → A
  worth e = folded leaf negated joined e

  -- what the first of some expressions answers, and what a text answers
  abbrev of_first : List Expr → Option (A × ℕ)
  of_first es = worth_of leaf negated joined (first es)

  abbrev pub answer : List ℕ → Option (A × ℕ)
  answer l = worth_of leaf negated joined (read_expr l)

  -- the expression that l begins with, where it is worth x and has so many bytes
  record Begins (l : List ℕ) (x : A) (a : ℕ) : Type 0 where
    tree : Expr
    stands : operands l ≡ tree ∷ operands (drop a l)
    is_worth : x ≡ worth tree
    bytes : a ≡ size tree
    fits : a ≤ length l

  begins : (l : List ℕ) {x : A} {a : ℕ} → Some (x, a) ≡ answer l → Begins l x a
  unfolding worth worth_of read_expr first size
  begins l {x} {a} q = go (operands l) refl q
    where
      go : (es : List Expr) → operands l ≡ es → Some (x, a) ≡ of_first es → Begins l x a
      go [] p h = cc
      go (e ∷ es) p h =
          let parts : (x ≡ worth e) × (a ≡ size e) = some_pair_parts x (worth e) a (size e) h in
          let r = read_written l e es p in
          record {
            tree = e;
            stands = p ∙ ap (λ x. e ∷ x) (sym r.others ∙ ap (λ k. operands (drop k l)) (sym parts.1));
            is_worth = parts.0;
            bytes = parts.1;
            fits = omega (arith, parts.1, ap length r.text ∙ length-append (written e) (drop (size e) l));
          }

  -- what was found ends within the text
  pub fits : (l : List ℕ) {x : A} {a : ℕ} → Some (x, a) ≡ answer l → a ≤ length l
  fits l q = (begins l q).fits

  begins_not : (l : List ℕ) → None ≡ answer l → operands l ≡ []
  unfolding worth_of read_expr first
  begins_not l q = go (operands l) q
    where
      go : (es : List Expr) → None ≡ of_first es → es ≡ []
      go [] h = refl
      go (e ∷ es) h = cc

  -- what a call on the part from k on answers
  pub at_part : (s : List ℕ) (k : ℕ) {y : Option (A × ℕ)} → y ≡ answer (take (length s - k) (drop k s)) → y ≡ answer (drop k s)
  at_part s k q = q ∙ ap answer (part_to_end s k)

  -- ---- what a byte makes of the expressions behind it

  leaf_first : (t : Token) (es : List Expr) → operand_count t ≡ Some 0 → Some (leaf t, 1) ≡ of_first (before t es)
  unfolding worth_of folded before first size written
  leaf_first (Constant v) es h = refl
  leaf_first (Now i) es h = refl
  leaf_first (Next i) es h = refl
  leaf_first Not es h = cc
  leaf_first And es h = cc
  leaf_first Or es h = cc
  leaf_first Implies es h = cc
  leaf_first Alike es h = cc
  leaf_first Other es h = cc

  -- an operator with two operands, and the trees that it makes
  record Joins (t : Token) : Type 0 where
    tree_of : Expr → Expr → Expr
    puts : (es : List Expr) → before t es ≡ with_two tree_of es
    bytes_of : (d e : Expr) → size (tree_of d e) ≡ 1 + size d + size e
    worth_is : (d e : Expr) → worth (tree_of d e) ≡ joined t (worth d) (worth e)

  joins : (t : Token) → operand_count t ≡ Some 2 → Joins t
  unfolding before size worth folded written
  joins (Constant v) h = cc
  joins (Now i) h = cc
  joins (Next i) h = cc
  joins Not h = cc
  joins And h = record { tree_of = conjunction; puts = λ es. refl; bytes_of = λ d e. omega (arith, length-append (written d) (written e)); worth_is = λ d e. refl }
  joins Or h = record { tree_of = disjunction; puts = λ es. refl; bytes_of = λ d e. omega (arith, length-append (written d) (written e)); worth_is = λ d e. refl }
  joins Implies h = record { tree_of = implication; puts = λ es. refl; bytes_of = λ d e. omega (arith, length-append (written d) (written e)); worth_is = λ d e. refl }
  joins Alike h = record { tree_of = equivalence; puts = λ es. refl; bytes_of = λ d e. omega (arith, length-append (written d) (written e)); worth_is = λ d e. refl }
  joins Other h = cc

  -- ---- each way out of the recursion

  pub nothing_left : (s : List ℕ) → length s ≡ 0 → None ≡ answer s
  unfolding worth_of read_expr operands first
  nothing_left [] q = refl
  nothing_left (x ∷ s) q = absurd (omega arith)

  pub no_token : (b : ℕ) (r : List ℕ) → Other ≡ token_of b → None ≡ answer (b ∷ r)
  unfolding worth_of read_expr operands before first
  no_token b r p = ap (λ u. of_first (before u (operands r))) p

  pub alone : (b : ℕ) (r : List ℕ) {t : Token} → t ≡ token_of b → operand_count t ≡ Some 0 → Some (leaf t, 1) ≡ answer (b ∷ r)
  unfolding read_expr operands
  alone b r {t} p h = leaf_first t (operands r) h ∙ ap (λ u. of_first (before u (operands r))) p

  -- a text s that begins with the byte b of a token t, and r behind it
  module _ {s r : List ℕ} {b : ℕ} {t : Token} (o : s ≡ b ∷ r) (p : t ≡ token_of b) where
    opened : {es : List Expr} → operands r ≡ es → operands s ≡ before t es
    unfolding operands
    opened q = ap operands o ∙ ap₂ before (sym p) q

    nothing : {es : List Expr} → operands r ≡ es → before t es ≡ [] → None ≡ answer s
    unfolding worth_of read_expr first
    nothing q n = sym (ap of_first (opened q ∙ n))

    found : (e : Expr) (es : List Expr) {x : A} {a : ℕ} → operands s ≡ e ∷ es → x ≡ worth e → a ≡ size e → Some (x, a) ≡ answer s
    unfolding worth worth_of read_expr first
    found e es q v z = ap₂ (λ x a. Some (x, a)) v z ∙ sym (ap of_first q)

    pub none_negated : t ≡ Not → None ≡ answer r → None ≡ answer s
    unfolding before with_one
    none_negated h q = nothing (begins_not r q) (ap (λ u. before u []) h)

    pub none_joined : operand_count t ≡ Some 2 → None ≡ answer r → None ≡ answer s
    unfolding with_two
    none_joined h q = nothing (begins_not r q) ((joins t h).puts [])

    module _ {x : A} {a : ℕ} (q : Some (x, a) ≡ answer r) where
      pub one_negated : t ≡ Not → Some (negated x, 1 + a) ≡ answer s
      unfolding before with_one worth folded size written
      one_negated h =
          let e = begins r q in
          found (negation e.tree) (operands (drop a r)) (opened e.stands ∙ ap (λ u. before u (e.tree ∷ operands (drop a r))) h) (ap negated e.is_worth) (omega (arith, e.bytes))

      pub one_joined : operand_count t ≡ Some 2 → None ≡ answer (drop a r) → None ≡ answer s
      unfolding with_two
      one_joined h n =
          let d = begins r q in
          nothing (d.stands ∙ ap (λ es. d.tree ∷ es) (begins_not (drop a r) n)) ((joins t h).puts _)

      module _ {y : A} {k : ℕ} (n : Some (y, k) ≡ answer (drop a r)) where
        pub both_joined : operand_count t ≡ Some 2 → Some (joined t x y, 1 + a + k) ≡ answer s
        unfolding with_two
        both_joined h =
            let d = begins r q in
            let e = begins (drop a r) n in
            let j = joins t h in
            found (j.tree_of d.tree e.tree) (operands (drop k (drop a r))) (opened (d.stands ∙ ap (λ es. d.tree ∷ es) e.stands) ∙ j.puts _)
            (ap₂ (joined t) d.is_worth e.is_worth ∙ sym (j.worth_is d.tree e.tree)) (ap₂ (λ i j. 1 + i + j) d.bytes e.bytes ∙ sym (j.bytes_of d.tree e.tree))

pub ruleset ways = (fits, nothing_left, no_token, alone, none_negated, one_negated, none_joined)
