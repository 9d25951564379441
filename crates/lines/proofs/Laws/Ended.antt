-- What `end_of` answers, and from it each way out of a function that reads a line: the same for counts, for expressions and for rule lines.
-- From the definitions of `Lines` and the numbers of the reasons.
use Rattle.std.specs.Prelude.{ℕ, zero, suc, ◌+◌, ◌-◌, ◌<◌, ◌≡◌, refl, ◌≢◌, Bool, true, false, cond, eqb, ◌≤◌, List, drop, Option, Some, None, Result, Ok, Err, IfOk}
use Rattle.std.specs.Option.{option_map_or, ok_or}
use Rattle.std.proofs.Common.{sym, ◌∙◌, arith}
use Rattle.std.proofs.Math.Path.{ap, subst}
use Rattle.std.proofs.Math.ListN.{length, take}
use Rattle.std.proofs.Math.Dec.{eqb-suc-zero}
use Rattle.refusals.specs.declared.refusal.Reason.{Reason}
use Rattle.refusals.specs.declared.refusal.Reason.TheVariants.{CountWrong}
use Rattle.refusals.specs.Numbers.{number_of}
use Rattle.lines.specs.Lines.{Line, Fault, Read, line_length, is_line, end_of, value_of, says, said_of, ByValue, missing, by_value, unless_fault, fault_number_of, count_in, count_or_none, counted, count_line, fault_of, state_line}
use Rattle.lines.proofs.Laws.Heard.{line_within}

-- the line that s begins with has the key and ends at `end`
pub record Ended (key s : List ℕ) (end : ℕ) : Type 0 where
  pub line : is_line key s ≡ true
  pub length_is : end ≡ line_length s

by_line : (key s : List ℕ) (t : Bool) → is_line key s ≡ t → (end : ℕ) → cond t (Some (line_length s)) None ≡ Some end → Ended key s end
by_line key s true q end h = record { line = q; length_is = cc }
by_line key s false q end h = cc

pub ended : {key s : List ℕ} {r : Option ℕ} {end : ℕ} → r ≡ end_of key s → r ≡ Some end → Ended key s end
unfolding end_of
ended {key} {s} {r} {end} said told = by_line key s (is_line key s) refl end (sym said ∙ told)

by_none : (key s : List ℕ) (t : Bool) → is_line key s ≡ t → cond t (Some (line_length s)) None ≡ None → is_line key s ≡ false
by_none key s true q h = cc
by_none key s false q h = q

pub no_end : (key s : List ℕ) {r : Option ℕ} → r ≡ end_of key s → r ≡ None → is_line key s ≡ false
unfolding end_of
no_end key s said told = by_none key s (is_line key s) refl (sym said ∙ told)

-- an expression that a number refuses
pub faulted : {A : Type 0} (fault : ℕ → A) (number : ℕ) (read : A) → number ≢ 0 → unless_fault fault number read ≡ fault number
unfolding unless_fault
faulted fault zero read h = absurd (h refl)
faulted fault (suc number) read h = refl

module _ {key s : List ℕ} {end : ℕ} (e : Ended key s end) where
  pub end_within : end < length s
  end_within = omega (arith, line_within key s e.line, e.length_is)

  pub value_is : take (end - length key) (drop (length key) s) ≡ value_of key s
  unfolding value_of
  value_is = ap (λ n. take (n - length key) (drop (length key) s)) e.length_is

-- ---- a line read by where it ends

-- what it says, where it ends; and how it is refused, where it has no end
pub by_end : {A : Type 0} (key s : List ℕ) (f : List ℕ → ℕ → A) (fault : A)
    → cond (is_line key s) (f (value_of key s) (line_length s)) fault
    ≡ option_map_or (λ end. f (take (end - length key) (drop (length key) s)) end) (end_of key s) fault
unfolding end_of value_of
by_end {A} key s f fault = go (is_line key s)
  where
    go : (t : Bool)
        → cond t (f (take (line_length s - length key) (drop (length key) s)) (line_length s)) fault
        ≡ option_map_or (λ end. f (take (end - length key) (drop (length key) s)) end) (cond t (Some (line_length s)) None) fault
    go true = refl
    go false = refl

-- no reason has the number 0
pub number_from_one : (reason : Reason) → 1 ≤ number_of reason
number_from_one reason = grind arith

-- ---- a line with a key, by what its value reads as

-- no line has the key, or it has no end
pub line_missing : {A : Type 0} {reads : List ℕ → Result A Reason → Type 0} (key s : List ℕ) {o : Option ℕ} {l : Line A} → o ≡ end_of key s → o ≡ None → l ≡ Fault 1
    → ByValue reads key s l
line_missing key s found none q = rw q (missing (no_end key s found none))

module _ (key s : List ℕ) {o : Option ℕ} {end : ℕ} (found : o ≡ end_of key s) (some : o ≡ Some end) {value : List ℕ}
    (between : value ≡ take (end - length key) (drop (length key) s)) where
  line_ended : Ended key s end
  line_ended = ended found some

  value_found : value ≡ value_of key s
  value_found = between ∙ value_is line_ended

  -- its value is refused
  pub value_refused : {A : Type 0} {reads : List ℕ → Result A Reason → Type 0} {l : Line A} (reason : Reason) → reads value (Err reason) → l ≡ Fault (number_of reason)
      → ByValue reads key s l
  unfolding said_of
  value_refused {reads} reason h q = rw q (by_value {r = Err reason} line_ended.line (subst (λ x. reads x (Err reason)) value_found h))

  -- its value says what the line does
  pub value_said : {A : Type 0} {reads : List ℕ → Result A Reason → Type 0} {v : A} → reads value (Ok v) → ByValue reads key s (Read v (end + 1))
  unfolding said_of says
  value_said {reads} {v} h = rw line_ended.length_is (by_value {r = Ok v} line_ended.line (subst (λ x. reads x (Ok v)) value_found h))

-- a count: what the value reads as says what the line does
count_told : (n : ℕ) (s : List ℕ) {r : Result ℕ Reason} → r ≡ ok_or (count_or_none n) CountWrong → said_of r s ≡ counted n s
unfolding said_of counted
count_told zero s q = rw q refl
count_told (suc n) s q = rw q refl

pub count_by_value : {reads : List ℕ → Result ℕ Reason → Type 0} (key s : List ℕ) (most : ℕ) (l : Line ℕ) → ByValue reads key s l
    → ((v : List ℕ) (r : Result ℕ Reason) → reads v r → r ≡ ok_or (count_or_none (count_in most v)) CountWrong) → l ≡ count_line key most s
unfolding count_line
count_by_value key s most l (missing q) f = rw q refl
count_by_value key s most l (by_value {r} q h) f = rw q (count_told (count_in most (value_of key s)) s (f (value_of key s) r h))

-- an expression
state_told : (number at : ℕ) (s : List ℕ) (r : Result ℕ Reason) → fault_number_of r ≡ number → IfOk r (λ v. v ≡ at) → said_of r s ≡ unless_fault Fault number (says at s)
unfolding said_of unless_fault
state_told number at s (Ok v) q h = rw (← q, h) refl
state_told number at s (Err reason) q h = rw (← q) (sym (faulted Fault (number_of reason) (says at s) (some reason)))
  where
    some : (reason : Reason) → number_of reason ≢ 0
    some reason q = grind (arith, number_from_one)

pub state_by_value : {reads : List ℕ → Result ℕ Reason → Type 0} (key s : List ℕ) (vars : ℕ) (l : Line ℕ) → ByValue reads key s l
    → ((v : List ℕ) (r : Result ℕ Reason) → reads v r → (fault_number_of r ≡ fault_of vars false v) × IfOk r (λ at. at ≡ length key)) → l ≡ state_line key vars s
unfolding state_line
state_by_value key s vars l (missing q) f = rw q refl
state_by_value key s vars l (by_value {r} q h) f =
    let g = f (value_of key s) r h in rw q (state_told (fault_of vars false (value_of key s)) (length key) s r g.0 g.1)

-- what a line says of which an expression is judged first
pub unless_fault_is : {A : Type 0} (fault : ℕ → A) (number : ℕ) (read : A) → unless_fault fault number read ≡ cond (eqb number 0) read (fault number)
unfolding unless_fault
unless_fault_is fault zero read = refl
unless_fault_is fault (suc number) read = rw eqb-suc-zero

-- the bytes of a line are fewer than those of the text
pub end_below : (key s : List ℕ) (end : ℕ) → end_of key s ≡ Some end → end < length s
end_below key s end q = end_within (ended {key = key} {s = s} refl q)
