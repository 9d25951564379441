-- What is to hold of blame from a station's log, for an accepted text and an accepted log: a named part for each sentence.
-- From document 02, "Blame from a station's log". The theorem is in `Demands`. Assumes nothing: these are definitions.
use Rattle.std.specs.Prelude.{ℕ, suc, ◌+◌, ◌-◌, ◌*◌, ◌^◌, ◌≤◌, ◌≡◌, true, List, Some, None, length, get_or, take}
use Rattle.sets.specs.Bit.{full}
use Rattle.sets.specs.Sets.{◌⊑◌, Shares}
use Rattle.models.specs.Written.{model_in}
use Rattle.systems.specs.System.{Breach}
use Rattle.logs.specs.declared.blame.Blamed.{Blamed}
use Rattle.logs.specs.Log.{IsLog, LogSays}
use Rattle.semantics.specs.Meaning.{init_met, start_met, step_met, bad_of}
use Rattle.sorting.specs.declared.which.WhichList.TheVariants.{Cores, Cuts}
use Rattle.calls.specs.Answers.{rules_in, states_in, system_in}
use Rattle.refusals.specs.Answers.{Answer, Given}
use Rattle.blaming.specs.Answer.{blame_answer}
use Rattle.packing.specs.Packing.{blame_parts, breach_number, packed}
use Rattle.codremif.specs.Suffices.{TextTelling, WroteList}
use Rattle.codremif.specs.OneCore.{StandsIn}

-- ---- how the calls tell their answers

-- What is answered to a text and a log, and how the blamed set is told with the place of a breach, and with the log's length where there is none.
pub record BlameTelling (A : Type 0) : Type 0 where
  pub answer : (text log : List ℕ) → A
  pub breach : (B place : ℕ) → A
  pub no_breach : (B states : ℕ) → A

-- The call in Rattle.
unfoldable pub blame_by_answers : BlameTelling (Answer Blamed)
blame_by_answers = record {
  answer = blame_answer;
  breach = λ B place. Given (record { set = B; breach = Some place });
  no_breach = λ B states. Given (record { set = B; breach = None });
}

-- What codremif_blame and codremif_breach answer to the same text and log.
pub record HostBlamed : Type 0 where
  pub blame : ℕ
  pub breach : ℕ

unfoldable pub host_blamed : (states : ℕ) → Answer Blamed → HostBlamed
host_blamed states a = record { blame = packed (blame_parts a); breach = breach_number states a }

unfoldable pub blame_by_hosts : BlameTelling HostBlamed
blame_by_hosts = record {
  answer = λ text log. host_blamed (length log) (blame_answer text log);
  breach = λ B place. record { blame = 65536 * B; breach = place };
  no_breach = λ B states. record { blame = 65536 * B + 2 ^ 40; breach = states };
}

-- ---- an accepted log

-- Neither 14 nor 15 fits the log.
pub record AcceptedLog (text log : List ℕ) : Type 0 where
  pub states : IsLog (states_in text) log
  pub init : init_met (model_in text) (get_or log 0 0) ≡ true

-- The blamed set is B, and there is a breach at a place of the log. The lists are as the calls for the cores and the cuts wrote them.
pub record Breached {J L M : Type 0} (w : TextTelling J L M) (text log : List ℕ) (B place : ℕ) : Type 0 where
  -- The log up to that place is a run, ending in a bad state, of the full set without the blamed rules.
  pub run : Breach (system_in text (full (rules_in text) - B)) (take (suc place) log)
  -- "the broken rules share a rule with every core,
  pub every_core : (list : List ℕ) → WroteList w Cores text list → (C : ℕ) → StandsIn C list → Shares B C
  -- and so contain a cut."
  pub a_cut : (list : List ℕ) → WroteList w Cuts text list → (C : ℕ) × StandsIn C list × (C ⊑ B)
  -- Where no rule is blamed, the full set is broken: judging it answers so, where bytes for 128 states are lent.
  pub full_broken : B ≡ 0 → (lent : List ℕ) → 128 ≤ length lent
      → (n : ℕ) × (n ≤ 128) × (w.calls.judge text (full (rules_in text)) lent ≡ w.broken n)

-- What is answered to an accepted log.
pub record Blames {J L M A : Type 0} (w : TextTelling J L M) (t : BlameTelling A) (text log : List ℕ) : Type 0 where
  pub blamed : Blamed
  -- It has the rules that are broken anywhere in the log, and the place of the first state that breaks a property, if there is one.
  pub says : LogSays (rules_in text) (start_met (model_in text)) (step_met (model_in text)) (bad_of (model_in text)) log blamed
  -- This is answered: a breach, or that there is none.
  pub breach : (place : ℕ) → blamed.breach ≡ Some place → t.answer text log ≡ t.breach blamed.set place
  pub no_breach : blamed.breach ≡ None → t.answer text log ≡ t.no_breach blamed.set (length log)
  -- "If there is such a place":
  pub breached : (place : ℕ) → blamed.breach ≡ Some place → Breached w text log blamed.set place

abbrev pub FromLogs : {J L M A : Type 0} → TextTelling J L M → BlameTelling A → List ℕ → Type 0
FromLogs w t text = (log : List ℕ) → AcceptedLog text log → Blames w t text log
