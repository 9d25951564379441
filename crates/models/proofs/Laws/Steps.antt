-- What the steps of reading a whole text ask of each other: the text begins at its first line, and the property lines and the rule lines are due within it.
-- From the ranges of the lines behind `init`.
use Rattle.std.specs.Prelude.{ℕ, ◌≡◌, List, drop}
use Rattle.std.proofs.Common.{arith}
use Rattle.refusals.specs.Answers.{Given}
use Rattle.bodies.specs.declared.progress.LineStart.{LineStart}
use Rattle.bodies.specs.declared.progress.Progress.{Progress}
use Rattle.bodies.specs.Places.{Placed, PartsDue}
use Rattle.bodies.specs.Properties.{property_count}
use Rattle.bodies.specs.Body.{none_read, properties_read}
use Rattle.bodies.specs.Laws.Answered.{given_of}
use Rattle.bodies.specs.Laws.Ranges.{count_ends, count_small, state_ends, state_begins, properties_le, properties_placed}
use Rattle.models.specs.Reading.{text_start}

pub placed_first : (text : List ℕ) → Placed text text_start
placed_first text = record { within = omega arith; counted = omega arith }

pub properties_due : (text : List ℕ) (p : LineStart) → Placed text p → PartsDue text 4 (property_count (drop p.at text)) (none_read p).place
unfolding none_read
properties_due text p h = record { few = properties_le (drop p.at text); place = h }

pub rules_due : (text : List ℕ) (n : ℕ) (p : LineStart) (properties rules : ℕ) (none before : Progress) → PartsDue text 16 rules p → none ≡ none_read p
    → properties_read text n none properties ≡ Given before → PartsDue text 16 rules before.place
unfolding none_read
rules_due text n p properties rules none before h e q =
    let placed : Placed text none.place = rw e h.place in
    record { few = h.few; place = given_of (properties_placed text n none placed properties) q }

pub ruleset steps = (placed_first, count_ends, count_small, state_ends, state_begins)

pub ruleset steps_of_body = (properties_due, rules_due)
