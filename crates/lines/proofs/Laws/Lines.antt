-- Each line of a model text but for the rule lines is read exactly where it is written: a legal line is read as what it says with its number of bytes, whatever
-- follows it, and a line that is read is the written form of something legal. From the definitions of `Lines` and `Written`, by the laws of
-- bytes and of reading an expression.
use Prim.Native.Nat.{ℕ, zero, suc, ◌+◌, ◌-◌, ◌/◌, ◌%◌, ◌≤◌, ◌<◌}
use Rattle.std.specs.Prelude.{◌≡◌, refl, ◌≢◌, Bool, true, false, cond, not, eqb, leb, ltb}
use Rattle.std.proofs.Math.Path.{sym, ap, ap₂}
use Rattle.std.proofs.Common.{◌∙◌, take-append-drop}
use Rattle.std.proofs.Math.Bool.{◌&&◌, and-eq-true_iff}
use Rattle.std.proofs.lemmas.Bool.{false≢true}
use mathlib.Core.List.{List, [], ◌∷◌, ◌++◌, append_assoc}
use native.Mathlib.Omega.{arith}
use borrow.Author.Tests.{ne_eqb, eqb-true, lt-ltb, ltb-true, le-leb, lt-leb, leb-true, leb-false, not-false}
use Rattle.std.proofs.Math.ListN.{length, get_or, take, drop, length-append}
use Rattle.std.proofs.Math.Seq.{take-append_seam, drop-append_seam, split_at}
use Rattle.sets.specs.Laws.Choice.{by_test}
use Rattle.exprs.specs.Expr.{written}
use Rattle.lines.specs.declared.classes.Class.TheVariants.{InLine}
use Rattle.lines.specs.Bytes.{belongs, prefix}
use Rattle.slices.specs.Same.{same}
use Rattle.lines.specs.Decimal.{digits_in, decimal}
use Rattle.lines.specs.Lines.{Fault, Read, vars_key, rules_key, init_key, prop_key, line_length, is_line, value_of, says, unless_fault, count_in, counted, count_line, all, fault_of, state_line}
use Rattle.lines.specs.Written.{Within, LegalExpr, line}
use Rattle.lines.specs.Laws.Bytes.{all_nil, all_append, all_more, prefix_all, prefix_seam, all_prefix, prefix_ends}
use Rattle.slices.specs.Laws.Same.{same_true, same_false, same_is}
use Rattle.lines.specs.Laws.Decimal.{decimal_apart}
use Rattle.lines.proofs.Laws.Expressions.{fault_there, fault_back, legal_in_line}

-- A reader of lines accepts the written forms of the legal x, whatever follows, and no other text; `made` is its answer where it accepts.
pub record Reads {X W A : Type 0} (made : W → ℕ → A) (Lawful : X → Type 0) (form : X → List ℕ) (says : X → W) (read : List ℕ → A) : Type 0 where
  pub there : (x : X) → Lawful x → (rest : List ℕ) → read (form x ++ rest) ≡ made (says x) (length (form x))
  pub back : (s : List ℕ) (v : W) (bytes : ℕ) → read s ≡ made v bytes → (x : X) × Lawful x × ((rest : List ℕ) × (s ≡ form x ++ rest))

-- ---- a test that a line has passed

module _ {A : Type 0} (t : Bool) (l f r : A) (apart : f ≡ r → ⊥) where
  passed : cond t l f ≡ r → (t ≡ true) × (l ≡ r)
  passed = go t
    where
      go : (t : Bool) → cond t l f ≡ r → (t ≡ true) × (l ≡ r)
      go true q = (refl, q)
      go false q = absurd (apart q)

pub unfaulted_back : {A : Type 0} (fault : ℕ → A) (number : ℕ) (l r : A) → ((n : ℕ) → fault n ≡ r → ⊥) → unless_fault fault number l ≡ r → number ≡ 0
unfolding unless_fault
unfaulted_back fault zero l r apart q = refl
unfaulted_back fault (suc number) l r apart q = absurd (apart (suc number) q)

pub unfaulted : {A : Type 0} (fault : ℕ → A) (number : ℕ) (l : A) → number ≡ 0 → unless_fault fault number l ≡ l
unfolding unless_fault
unfaulted fault number l z = rw z

-- a line that is read is not refused
not_read : {A : Type 0} (v : A) (bytes number : ℕ) → Fault number ≡ Read v bytes → ⊥
not_read v bytes number q = cc

-- ---- a line

-- s begins with the line of the key and the value
pub record Begins (key value s : List ℕ) : Type 0 where
  pub is : is_line key s ≡ true
  pub value_is : value_of key s ≡ value
  pub bytes : line_length s + 1 ≡ length (line key value)

pub line_append : (key value rest : List ℕ) → line key value ++ rest ≡ key ++ (value ++ 10 ∷ rest)
unfolding line
line_append key value rest = append_assoc key (value ++ 10 ∷ []) rest ∙ ap (λ r. key ++ r) (append_assoc value (10 ∷ []) rest)

pub length_line : (key value : List ℕ) → length (line key value) ≡ length key + length value + 1
unfolding line
length_line key value = omega (arith, length-append key (value ++ 10 ∷ []), length-append value (10 ∷ []))

module _ (key : List ℕ) (k : all InLine key ≡ true) where
  pub line_there : (value rest : List ℕ) → all InLine value ≡ true → Begins key value (line key value ++ rest)
  unfolding is_line value_of belongs
  line_there value rest e =
      let t : List ℕ = value ++ 10 ∷ rest in
      let s : List ℕ = line key value ++ rest in
      let q : s ≡ key ++ t = line_append key value rest in
      let l : line_length s ≡ length key + length value = ap line_length q ∙ prefix_all InLine key t k ∙ ap (λ n. length key + n) (prefix_seam InLine value 10 rest e refl) in
      let n : line_length s - length key ≡ length value = omega arith in
      record {
        is = ap₂ ◌&&◌ (same_true (take (length key) s) key (ap (take (length key)) q ∙ take-append_seam key t))
            (lt-ltb (line_length s) (length s) (omega (arith, length-append (line key value) rest, length_line key value)));
        value_is = ap₂ take n (ap (drop (length key)) q ∙ drop-append_seam key t) ∙ take-append_seam value (10 ∷ rest);
        bytes = omega (arith, length_line key value);
      }

  pub line_back : (s : List ℕ) → is_line key s ≡ true → (rest : List ℕ) × (s ≡ line key (value_of key s) ++ rest) × (all InLine (value_of key s) ≡ true)
  unfolding is_line value_of belongs
  line_back s h =
      let both = (and-eq-true_iff (same (take (length key) s) key) (ltb (line_length s) (length s))).0 h in
      let t : List ℕ = drop (length key) s in
      let q : s ≡ key ++ t = sym (take-append-drop (length key) s) ∙ ap (λ r. r ++ t) (same_is (take (length key) s) key both.0) in
      let p : ℕ = prefix InLine t in
      let l : line_length s ≡ length key + p = ap line_length q ∙ prefix_all InLine key t k in
      let within : p < length t = omega (arith, ltb-true (line_length s) (length s) both.1, ap length q, length-append key t) in
      let ten : get_or t p 0 ≡ 10 = eqb-true (get_or t p 0) 10 (not-false (eqb (get_or t p 0) 10) (prefix_ends InLine t within)) in
      let n : p ≡ line_length s - length key = omega arith in
      let v : take p t ≡ value_of key s = ap (λ m. take m t) n in (
        drop (suc p) t,
        q
            ∙ ap (λ r. key ++ r) (split_at t p 0 within ∙ ap₂ (λ x b. x ++ b ∷ drop (suc p) t) v ten)
            ∙ sym (line_append key (value_of key s) (drop (suc p) t)),
        ap (all InLine) (sym v) ∙ all_prefix InLine t,
      )

-- ---- the counts

-- v is the decimal form of n
count_of : (most n : ℕ) (v : List ℕ) → v ≡ decimal n → count_in most v ≡ cond (leb n most) n 0
unfolding count_in
count_of zero n v q = by_test (λ x. 0 ≡ x) (leb n 0) (λ e. omega (arith, leb-true n 0 e)) (λ _. refl)
count_of (suc m) n v q =
    by_test (λ x. x ≡ cond (leb n (suc m)) n 0) (same v (decimal (suc m)))
    (λ e.
    let is : n ≡ suc m = decimal_apart n (suc m) (sym q ∙ same_is v (decimal (suc m)) e) in
    rw (le-leb n (suc m) (omega arith)) (sym is))
    (λ e.
    let not : n ≢ suc m = λ z. false≢true (sym e ∙ same_true v (decimal (suc m)) (q ∙ ap decimal z)) in
    count_of m n v q ∙ by_test (λ x. x ≡ cond (leb n (suc m)) n 0) (leb n m)
    (λ k. rw (le-leb n (suc m) (omega (arith, leb-true n m k))))
    (λ k. rw (lt-leb n (suc m) (omega (arith, leb-false n m k, not)))))

pub count_there : (most n : ℕ) (v : List ℕ) → v ≡ decimal n → n ≤ most → count_in most v ≡ n
count_there most n v q h = count_of most n v q ∙ rw (le-leb n most h)

-- v is the decimal form of no count
pub count_none : (most : ℕ) (v : List ℕ) → ((n : ℕ) → 1 ≤ n → n ≤ most → v ≢ decimal n) → count_in most v ≡ 0
unfolding count_in
count_none zero v f = refl
count_none (suc m) v f = rw (same_false v (decimal (suc m)) (f (suc m) (omega arith) (omega arith))) (count_none m v (λ n a b. f n a (omega arith)))

pub count_back : (most : ℕ) (v : List ℕ) (n : ℕ) → count_in most v ≡ suc n → (suc n ≤ most) × (v ≡ decimal (suc n))
unfolding count_in
count_back zero v n = λ q. absurd (omega arith)
count_back (suc m) v n =
    by_test (λ x. x ≡ suc n → (suc n ≤ suc m) × (v ≡ decimal (suc n))) (same v (decimal (suc m)))
    (λ e q. (omega arith, same_is v (decimal (suc m)) e ∙ ap decimal q))
    (λ _ q. let b = count_back m v n q in (omega (arith, b.0), b.1))

pub counted_more : (n : ℕ) (s : List ℕ) → n ≢ 0 → counted n s ≡ says n s
unfolding counted
counted_more zero s h = absurd (h refl)
counted_more (suc n) s h = refl

counted_back : (n : ℕ) (s : List ℕ) {v bytes : ℕ} → counted n s ≡ Read v bytes → (m : ℕ) × (n ≡ suc m)
unfolding counted says
counted_back zero s h = cc
counted_back (suc n) s h = (n, refl)

-- a smaller greatest count only leaves counts out
pub count_within : (most more : ℕ) (v : List ℕ) → most ≤ more → count_in most v ≡ cond (leb (count_in more v) most) (count_in more v) 0
count_within most more v h = go (count_in more v) refl
  where
    go : (n : ℕ) → count_in more v ≡ n → count_in most v ≡ cond (leb n most) n 0
    go zero q =
        count_none most v (λ n a b p. absurd (omega (arith, count_there more n v p (omega arith))))
        ∙ by_test (λ x. 0 ≡ x) (leb 0 most) (λ _. refl) (λ _. refl)
    go (suc n) q = count_of most (suc n) v (count_back more v n q).1

digit_in_line : (n : ℕ) → belongs InLine (48 + n) ≡ true
unfolding belongs
digit_in_line n = ap not (ne_eqb (48 + n) 10 (omega arith))

digits_in_line : (most n : ℕ) → all InLine (digits_in most n) ≡ true
unfolding digits_in
digits_in_line zero n = all_nil InLine
digits_in_line (suc most) n =
    by_test (λ v. all InLine v ≡ true) (ltb n 10) (λ _. all_more InLine (48 + n) [] (digit_in_line n) (all_nil InLine))
    (λ _.
    all_append InLine (digits_in most (n / 10)) ((48 + n % 10) ∷ [])
    ∙ ap₂ ◌&&◌ (digits_in_line most (n / 10)) (all_more InLine (48 + n % 10) [] (digit_in_line (n % 10)) (all_nil InLine)))

decimal_in_line : (n : ℕ) → all InLine (decimal n) ≡ true
unfolding decimal
decimal_in_line n = digits_in_line (suc n) n

pub count_reads : (key : List ℕ) → all InLine key ≡ true → (most : ℕ) → Reads Read (Within 1 most) (λ n. line key (decimal n)) (λ n. n) (count_line key most)
unfolding count_line says
count_reads key k most = record {
  there = λ n w rest.
      let s = line key (decimal n) ++ rest in
      let b = line_there key k (decimal n) rest (decimal_in_line n) in
      rw (b.is, b.value_is, count_there most n (decimal n) refl w.at_most) (counted_more n s (omega (arith, w.at_least)) ∙ ap (Read n) b.bytes);
  back = λ s v bytes q.
      let l = passed (is_line key s) _ _ _ (not_read v bytes 1) q in
      let m = counted_back (count_in most (value_of key s)) s l.1 in
      let d = count_back most (value_of key s) m.0 m.1 in
      let r = line_back key k s l.0 in
      (suc m.0, record { at_least = omega arith; at_most = d.0 }, (r.0, r.1 ∙ ap (λ x. line key x ++ r.0) d.1));
}

pub vars_reads : Reads Read (Within 1 7) (λ n. line vars_key (decimal n)) (λ n. n) (count_line vars_key 7)
unfolding all prefix belongs
vars_reads = count_reads vars_key refl 7

pub rules_reads : Reads Read (Within 1 16) (λ n. line rules_key (decimal n)) (λ n. n) (count_line rules_key 16)
unfolding all prefix belongs
rules_reads = count_reads rules_key refl 16

-- ---- the lines with an expression

state_reads : (key : List ℕ) → all InLine key ≡ true → (n : ℕ) → n ≤ 7 → Reads Read (LegalExpr n false) (λ e. line key (written e)) (λ e. length key) (state_line key n)
unfolding state_line says
state_reads key k n h = record {
  there = λ e l rest.
      let s = line key (written e) ++ rest in
      let b = line_there key k (written e) rest (legal_in_line n false e h l) in
      rw (b.is, b.value_is) (unfaulted Fault (fault_of n false (written e)) (says (length key) s) (fault_there n false e h l) ∙ ap (Read (length key)) b.bytes);
  back = λ s v bytes q.
      let l = passed (is_line key s) _ _ _ (not_read v bytes 1) q in
      let f = fault_back n false (value_of key s) (unfaulted_back Fault (fault_of n false (value_of key s)) _ _ (not_read v bytes) l.1) in
      let r = line_back key k s l.0 in
      (f.0, f.1, (r.0, r.1 ∙ ap (λ x. line key x ++ r.0) f.2));
}

pub init_reads : (n : ℕ) → n ≤ 7 → Reads Read (LegalExpr n false) (λ e. line init_key (written e)) (λ e. length init_key) (state_line init_key n)
unfolding all prefix belongs
init_reads = state_reads init_key refl

pub prop_reads : (n : ℕ) → n ≤ 7 → Reads Read (LegalExpr n false) (λ e. line prop_key (written e)) (λ e. length prop_key) (state_line prop_key n)
unfolding all prefix belongs
prop_reads = state_reads prop_key refl
