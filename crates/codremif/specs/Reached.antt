-- What is to hold of the reached states of a set, for an accepted text, a set of its rules and a lent byte for each state or more: a named part for
-- each sentence. From document 02, "Stop when everything is reached". The theorem is in `Demands`. Assumes nothing: these are definitions.
use Rattle.std.specs.Prelude.{ℕ, ◌*◌, ◌^◌, ◌≤◌, ◌<◌, ◌≡◌, ◌⊎◌, List, eqb, length, get_or, drop}
use Rattle.searches.specs.Collecting.{Collecting}
use Rattle.refusals.specs.Answers.{Given}
use Rattle.calls.specs.Answers.{rules_in, states_in, system_in, reached_answer, reached_bytes}
use Rattle.packing.specs.Packing.{reached_parts, packed}

-- What the call gave and wrote for set S, where `told` is how it tells so many pairs.
pub record ReachedStates {A : Type 0} (told : ℕ → A) (text : List ℕ) (S : ℕ) (lent : List ℕ) (answer : A) (bytes : List ℕ) : Type 0 where
  -- The answer is how many pairs were tried.
  pub pairs : ℕ
  pub answered : answer ≡ told pairs
  -- There is one byte for each state by number, 1 or 0, and the bytes past them keep their content.
  pub marks : (s : ℕ) → s < states_in text → (get_or bytes s 0 ≡ 1) ⊎ (get_or bytes s 0 ≡ 0)
  pub past : drop (states_in text) bytes ≡ drop (states_in text) lent
  pub kept : length bytes ≡ length lent
  -- The bytes that are 1 are those of the states that end some run; and of the pairs is true what document 02 says.
  pub collecting : Collecting (system_in text S) (λ s. eqb (get_or bytes s 0) 1) pairs
  -- "and at most 2^N for set 0."
  pub set_zero : S ≡ 0 → pairs ≤ states_in text

-- Of the call in Rattle, and of the exported one by its 64-bit answer.
pub record EverythingReached (text : List ℕ) : Type 0 where
  pub in_rattle : (S : ℕ) → S < 2 ^ rules_in text → (lent : List ℕ) → states_in text ≤ length lent
      → ReachedStates Given text S lent (reached_answer text S lent) (reached_bytes text S lent)
  pub for_hosts : (S : ℕ) → S < 2 ^ rules_in text → (lent : List ℕ) → states_in text ≤ length lent
      → ReachedStates (λ n. 65536 * n) text S lent (packed (reached_parts (reached_answer text S lent))) (reached_bytes text S lent)
