-- What is true of an answer: of the number and the line of a refused one, or of what is given. It is true of what the next lines give, too, if it is of what
-- each line gives. From the definitions of `Body` and of answers alone.
use Rattle.std.specs.Prelude.{ℕ, zero, suc, ◌≤◌, ◌<◌, ◌≡◌, refl}
use Rattle.std.proofs.Common.{subst, ◌∙◌, arith}
use Rattle.std.proofs.Math.Decide.{dec_lt}
use Rattle.refusals.specs.Answers.{Answer, RefusedBy, Given}
use Rattle.bodies.specs.Body.{unless_refused, given_or, last_given}

-- P is true of the number and the line, or Q of what is given.
pub data Answered {A : Type 0} (P : ℕ → ℕ → Type 0) (Q : A → Type 0) : Answer A → Type 0 where
  refused : {number line : ℕ} → P number line → Answered P Q (RefusedBy number line)
  given : {a : A} → Q a → Answered P Q (Given a)

-- Q is true of what is given, if anything is.
abbrev pub IfGiven : {A : Type 0} → (A → Type 0) → Answer A → Type 0
IfGiven Q = Answered (λ _ _. Unit {0}) Q

pub given_of : {A : Type 0} {P : ℕ → ℕ → Type 0} {Q : A → Type 0} {x : Answer A} {a : A} → Answered P Q x → x ≡ Given a → Q a
given_of {Q} {a} (refused p) e = cc
given_of {Q} {a} (given {a = b} q) e = let same : b ≡ a = cc in rw (← same) q

pub refused_of : {A : Type 0} {P : ℕ → ℕ → Type 0} {Q : A → Type 0} {x : Answer A} {number line : ℕ} → Answered P Q x → x ≡ RefusedBy number line → P number line
refused_of {number} {line} (refused {number = m} {line = k} p) e =
    let one : m ≡ number = cc in
    let two : k ≡ line = cc in
    rw (← one, ← two) p
refused_of (given q) e = cc

pub one_given : {A : Type 0} {a b : A} → Given a ≡ Given b → a ≡ b
one_given e = cc

-- what the next lines give
pub answered_next : {A B : Type 0} {P P' : ℕ → ℕ → Type 0} {Q : A → Type 0} {R : B → Type 0} (x : Answer A) (next : A → Answer B) → Answered P Q x
    → ((number line : ℕ) → P number line → P' number line) → ((a : A) → x ≡ Given a → Q a → Answered P' R (next a)) → Answered P' R (unless_refused x next)
unfolding unless_refused
answered_next (RefusedBy number line) next (refused p) w f = refused (w number line p)
answered_next (Given a) next (given q) w f = f a refl q

-- where the next lines give something, the earlier ones did
pub given_before : {A B : Type 0} (x : Answer A) (next : A → Answer B) {b : B} → unless_refused x next ≡ Given b → (a : A) × (x ≡ Given a) × (next a ≡ Given b)
unfolding unless_refused
given_before (RefusedBy number line) next e = cc
given_before (Given a) next e = (a, refl, e)

pub given_next : {A B : Type 0} {x : Answer A} (next : A → Answer B) {a : A} → x ≡ Given a → unless_refused x next ≡ next a
unfolding unless_refused
given_next next e = rw e

pub refused_next : {A B : Type 0} {x : Answer A} (next : A → Answer B) {number line : ℕ} → x ≡ RefusedBy number line → unless_refused x next ≡ RefusedBy number line
unfolding unless_refused
refused_next next e = rw e

-- Q is true of what there is after so many steps, a refused one among them or not, if it is of what there was before them and of what each gives.
pub last_of : {A : Type 0} {Q : A → Type 0} (so_far : ℕ → Answer A) (r : A) → Q r → ((i : ℕ) → IfGiven Q (so_far i)) → (i : ℕ) → Q (last_given so_far r i)
unfolding last_given given_or
last_of so_far r q f zero = q
last_of {A} {Q} so_far r q f (suc i) = go (so_far (suc i)) (f (suc i)) (last_of so_far r q f i)
  where
    go : (x : Answer A) → IfGiven Q x → Q (last_given so_far r i) → Q (given_or x (last_given so_far r i))
    go (RefusedBy number line) w k = k
    go (Given a) (given w) k = w

-- Lines one after the other, where `so_far` tells what the first so many give and `step` what the next one does.
module _ {A : Type 0} (so_far : ℕ → Answer A) (step : ℕ → A → Answer A) (more : (i : ℕ) → so_far (suc i) ≡ unless_refused (so_far i) (step i)) {number line : ℕ} where
  stays_refused : (i k : ℕ) → so_far i ≡ RefusedBy number line → i ≤ k → so_far k ≡ RefusedBy number line
  stays_refused i zero e h = subst (λ m. so_far m ≡ RefusedBy number line) (omega arith) e
  stays_refused i (suc k) e h = go (dec_lt k i) (stays_refused i k e)
    where
      go : Dec (k < i) → (i ≤ k → so_far k ≡ RefusedBy number line) → so_far (suc k) ≡ RefusedBy number line
      go (yes b) f = subst (λ m. so_far m ≡ RefusedBy number line) (omega arith) e
      go (no b) f = more k ∙ refused_next (step k) (f (omega arith))

  -- a line that is refused refuses them all
  pub refused_at : {a : A} (i k : ℕ) → i < k → so_far i ≡ Given a → step i a ≡ RefusedBy number line → so_far k ≡ RefusedBy number line
  refused_at i k h e q = stays_refused (suc i) k (more i ∙ given_next (step i) e ∙ q) (omega arith)
