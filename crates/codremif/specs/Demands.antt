-- The demands of the mission, as theorems about what exactly the calls answer and write. Nothing is assumed.
-- To believe them, read these files below crates/ in this order (lines without imports and blank lines, 2,014 in all). What is proved of their
-- definitions stands in `Laws`, of specs/ or of proofs/, and need not be read, and neither need the functions that compute (the reading of a text,
-- the verdict, the lists): the theorems say what they give.
--   a number as a set of rules or of letters           sets/specs/Bit                8
--   expressions, their value and their written form    exprs/specs/Expr             42
--   a number in base ten                               lines/specs/Decimal          10
--   bytes, and those of a name                         lines/specs/Bytes            43
--   a legal rule and its line                          lines/specs/Written          55
--   a model, when it is legal, its written form        models/specs/Written         83
--   how many property lines a text has                 bodies/specs/Properties      16
--   accepted texts are exactly these                   models/proofs/Accepted       34
--   when a text is refused: the numbers 1 to 9         models/specs/Refusals       119
--   the reading answers with the first that fits       models/proofs/Refused        29
--   runs, reached, holds, the trace                    systems/specs/System         51
--   how many numbers below a bound pass a test         systems/specs/Count           6
--   and 1 for one that passes, 0 for one that does not sets/specs/Gathered          19
--   a list given entry by entry                        sets/specs/Tabulated          6
--   the states that runs mark                          traces/specs/Marked           6
--   the collecting of the reached states               searches/specs/Search        42
--   what is to hold of it, for any system              searches/specs/Collecting    14
--   a log of states, and what it says                  logs/specs/Log               44
--   the transition system of a model and a set         semantics/specs/Meaning      51
--   parts, sharing a rule, the order of a list         sets/specs/Sets              30
--   cores and cuts of any judgement                    sets/specs/Cores             33
--   the bytes of a list, and lent bytes                sets/specs/Lists             53
--   demand 3 for any judgement                         sets/specs/Demand3           49
--   unions of one core from each of several judgements sets/specs/Joint             20
--   MUST, MAY and the irrelevant rules                 sets/specs/Kinds             30
--   an order of the rules                              sets/specs/Orders            22
--   one core by an order, and how many judgements      sets/specs/OneCore           25
--   what a set keeps of a list                         sets/specs/Kept               7
--   a model that is changed in rules or properties     models/specs/Changed         35
--   which list is meant, and which kind of rules       sorting/specs/Which          13
--   what each call answers and writes                  calls/specs/Answers         122
--   what finding one core answers                      preferences/specs/Answer     17
--   what blame from a log answers                      blaming/specs/Answer         21
--   the number of each reason to refuse a call         refusals/specs/Numbers       18
--   an answer, refused or given                        refusals/specs/Answers       18
--   a list in bytes, and the first set that fits       lookup/specs/Search          25
--   where a part of a slice lies                       slices/specs/Address         11
--   what two lists say of a set, and the witness       lookup/specs/Suffices        54
--   an answer as one 64-bit number                     packing/specs/Packing        96
--   demand 1 for a text                                codremif/specs/Demand1       89
--   demand 2 for a text                                codremif/specs/Demand2       16
--   demand 3 for a text                                codremif/specs/Demand3       89
--   rules that nobody relies on, for a text            codremif/specs/Relied        69
--   the quick answer, for any lists and for a text's   codremif/specs/Suffices      64
--   several properties together, for a text            codremif/specs/Properties    51
--   the reached states of a set, for a text            codremif/specs/Reached       21
--   one core by an order, for a text                   codremif/specs/OneCore       36
--   rules that speak about power-up, for a text        codremif/specs/PowerUp       35
--   blame from a log, for a text                       codremif/specs/Blame         55
--   the starred examples                               codremif/specs/Examples     112
use Rattle.std.specs.Prelude.{ℕ, ◌^◌, ◌<◌, ◌≡◌}
use mathlib.Core.List.{List, Memᴰ}
use Rattle.refusals.specs.Answers.{Accepted, Answer}
use Rattle.models.specs.Written.{Described, Legal, written_model}
use Rattle.semantics.specs.Meaning.{system_of}
use Rattle.calls.specs.Answers.{rules_in, system_in, text_outcome}
use Rattle.codremif.specs.Demand1.{Demand1, HostDemand1}
use Rattle.codremif.specs.Demand2.{Demand2}
use Rattle.codremif.specs.Demand3.{in_rattle, for_hosts, Asked, TextDemand3, AsCalled, host_asked}
use Rattle.codremif.specs.Examples.{Case, table, Answered}
use Rattle.codremif.specs.Relied.{Relied}
use Rattle.codremif.specs.Suffices.{QuickAnswer, text_by_answers, text_by_hosts}
use Rattle.codremif.specs.Properties.{SeveralProperties}
use Rattle.codremif.specs.Reached.{EverythingReached}
use Rattle.codremif.specs.OneCore.{InMyOrder, one_core_by_answers, one_core_by_hosts}
use Rattle.codremif.specs.PowerUp.{PowerUp}
use Rattle.codremif.specs.Blame.{blame_by_answers, blame_by_hosts, FromLogs}
use Rattle.codremif.specs.Laws.Written.{written_system}
use Rattle.codremif.specs.Laws.Demand1.{calls_meet_demand1, hosts_meet_demand1}
use Rattle.codremif.specs.Laws.Demand2.{judging_meets_demand2}
use Rattle.codremif.specs.Laws.Examples.{table_answered}
use Rattle.codremif.specs.Laws.Demand3.{calls_meet_demand3, hosts_meet_demand3}
use Rattle.codremif.specs.Laws.Relied.{relied}
use Rattle.codremif.specs.Laws.Suffices.{the_quick_answer}
use Rattle.codremif.specs.Laws.Properties.{calls_together, hosts_together}
use Rattle.codremif.specs.Laws.Reached.{everything_is_reached}
use Rattle.codremif.specs.Laws.OneCore.{calls_in_order, hosts_in_order}
use Rattle.codremif.specs.Laws.PowerUp.{power_up_told}
use Rattle.codremif.specs.Laws.Blame.{calls_blame, hosts_blame}

-- A text that is written from a legal model means what the model means: the runs of each set of rules are the model's.
pub meaning : (M : Described) → Legal M → (S : ℕ) → system_in (written_model M) S ≡ system_of M S
meaning = written_system

-- Demand 1: for every text, every call, every set and all lent bytes.
pub demand1 : (text : List ℕ) → Demand1 text
demand1 = calls_meet_demand1

-- The same of the exported calls, by their 64-bit answers and their lent bytes.
pub demand1_hosts : (text : List ℕ) → HostDemand1 text
demand1_hosts = hosts_meet_demand1

-- Demand 2: for every accepted text, every set of its rules and all lent bytes.
pub demand2 : (text : List ℕ) → text_outcome text ≡ Accepted → (S : ℕ) → S < 2 ^ rules_in text → (lent : List ℕ) → Demand2 text S lent
demand2 = judging_meets_demand2

-- Demand 3: for every accepted text, of whatever the three calls were lent and gave. It is the promise of `codremif::together::ask_all`.
pub demand3 : (text : List ℕ) → text_outcome text ≡ Accepted → {a : Asked (Answer ℕ) (Answer ℕ)} → AsCalled text a → TextDemand3 in_rattle text a
demand3 = calls_meet_demand3

-- The same of the exported calls, by their 64-bit answers and their lent bytes.
pub demand3_hosts : (text : List ℕ) → text_outcome text ≡ Accepted → (cores_lent cuts_lent : List ℕ) → TextDemand3 for_hosts text (host_asked text cores_lent cuts_lent)
demand3_hosts = hosts_meet_demand3

-- The starred examples of document 01: for each case of the table the calls give what it says.
pub examples : (c : Case) → Memᴰ c table → Answered c
examples = table_answered

-- Rules nobody relies on: for every accepted text, what the calls for MUST, MAY and the irrelevant rules answer, and that the irrelevant rules can be
-- left out and a rule outside MUST replaced.
pub rules_nobody_relies_on : (text : List ℕ) → text_outcome text ≡ Accepted → Relied text
rules_nobody_relies_on = relied

-- The quick answer in the configuration screen: for every set and any two lists, what the calls say is there; and for every accepted text, every set of
-- its rules, and its lists as the calls wrote them, no set is unlisted, and the answer is that of judging it.
pub quick_answer : QuickAnswer
quick_answer = the_quick_answer

-- Several properties together: for every accepted text, what the calls answer is told by what they answer by each of its properties alone, for every
-- count of properties: the verdicts, the traces and the cores.
pub several_properties : (text : List ℕ) → text_outcome text ≡ Accepted → SeveralProperties text_by_answers text
several_properties = calls_together

-- The same of the exported calls, by their 64-bit answers and their lent bytes.
pub several_properties_hosts : (text : List ℕ) → text_outcome text ≡ Accepted → SeveralProperties text_by_hosts text
several_properties_hosts = hosts_together

-- Stop when everything is reached: for every accepted text, every set of its rules and a lent byte for each state or more, which bytes the call writes,
-- and how many pairs of states it tried.
pub everything_reached : (text : List ℕ) → text_outcome text ≡ Accepted → EverythingReached text
everything_reached = everything_is_reached

-- One core, in my order of preference: for every accepted text and every order of its rules, which core the call answers, or none, and by how many
-- judgements; and by which order it answers a given core.
pub one_core_in_my_order : (text : List ℕ) → text_outcome text ≡ Accepted → InMyOrder text_by_answers one_core_by_answers text
one_core_in_my_order = calls_in_order

-- The same of the exported calls, by their 64-bit answers and their lent bytes.
pub one_core_in_my_order_hosts : (text : List ℕ) → text_outcome text ≡ Accepted → InMyOrder text_by_hosts one_core_by_hosts text
one_core_in_my_order_hosts = hosts_in_order

-- Rules that speak about power-up: for every accepted text, which states a set starts in and what judging it then answers, that a missing start part counts
-- as `1`, and that a text without start parts means what it meant.
pub rules_about_power_up : (text : List ℕ) → text_outcome text ≡ Accepted → PowerUp text
rules_about_power_up = power_up_told

-- Blame from a station's log: for every accepted text and every accepted log, which rules the call blames and where the log first breaks a property; and
-- where it does, that the log up to there is a run of the full set without the blamed rules, that these share a rule with every core, and that a cut is a
-- part of them.
pub blame_from_a_log : (text : List ℕ) → text_outcome text ≡ Accepted → FromLogs text_by_answers blame_by_answers text
blame_from_a_log = calls_blame

-- The same of the exported calls, by their 64-bit answers and their lent bytes.
pub blame_from_a_log_hosts : (text : List ℕ) → text_outcome text ≡ Accepted → FromLogs text_by_hosts blame_by_hosts text
blame_from_a_log_hosts = hosts_blame
