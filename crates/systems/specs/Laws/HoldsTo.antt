-- The verdict on runs of at most k steps: its meaning, that more start states, steps and bad states can only break it, and that from one step
-- less than there are states on it is the plain verdict. No code uses it yet; it waits for the request of a depth. Assumes nothing.
use Rattle.std.specs.Prelude.{ℕ, suc, ◌≤◌, ◌≡◌, ◌↔◌, true}
use Rattle.std.proofs.Common.{sym, ◌∙◌, true≢false, arith}
use mathlib.Mathlib.Data.Bool.Basic.{partial_order_laws, eq-true_of_not-eq-false, eq-false_of_not-eq-true}
use Rattle.systems.specs.System.{System, HoldsTo}
use Rattle.systems.specs.Verdict.{holds, holds_to, trace_of}
use Rattle.systems.specs.Judged.{judged}
use Rattle.systems.specs.Laws.Walks.{holds_no_breach}
use Rattle.systems.specs.Laws.Holds.{holds_iff, holds_below_iff}
use Rattle.systems.specs.Laws.Compare.{Part, Same, part_breach, same_part, same_sym}

pub holds_to_iff : (M : System) (k : ℕ) → (holds_to M k ≡ true) ↔ HoldsTo M k
unfolding holds_to
holds_to_iff M k = (
  λ e. record { good = λ l r h. eq-false_of_not-eq-true (λ f. (holds_below_iff M (suc k)).0 e l h (record { walk = r; ends = f })) },
  λ h. (holds_below_iff M (suc k)).1 (λ l g b. true≢false (sym b.ends ∙ h.good l b.walk g)),
)

pub part_holds_to : {N M : System} → Part N M → (k : ℕ) → holds_to M k ≡ true → holds_to N k ≡ true
unfolding holds_to
part_holds_to {N} {M} p k e = (holds_below_iff N (suc k)).1 (λ l h b. (holds_below_iff M (suc k)).0 e l h (part_breach p b))

pub same_holds_to : {N M : System} → Same N M → (k : ℕ) → holds_to N k ≡ holds_to M k
same_holds_to {N} {M} e k =
    partial_order_laws.le_antisymm (holds_to N k) (holds_to M k) (part_holds_to (same_part (same_sym e)) k) (part_holds_to (same_part e) k)

-- What holds, holds to every depth.
pub holds_holds_to : (M : System) (k : ℕ) → holds M ≡ true → holds_to M k ≡ true
unfolding holds_to
holds_holds_to M k e = (holds_below_iff M (suc k)).1 (λ l _ b. holds_no_breach ((holds_iff M).0 e) l b)

-- From the depth that is one less than the number of states on, there is no difference.
pub holds_to_holds : (M : System) (k : ℕ) → M.size ≤ suc k → holds_to M k ≡ true → holds M ≡ true
unfolding holds_to
holds_to_holds M k h e =
    eq-true_of_not-eq-false
    (λ f. (holds_below_iff M (suc k)).0 e (trace_of M) (omega (arith, (judged M).at_most_size)) ((judged M).broken f).breach)
