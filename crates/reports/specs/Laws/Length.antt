-- How long a report can be: every place in it fits a `usize`, so that no page begins past what a number can tell, and its pages in order are the
-- report. From the ranges of what is read, the lengths of names, traces and lists. The bound is a rough one: a number is given as many digits as it is great, and one.
use Prim.Native.Nat.{ℕ, zero, suc, ◌+◌, ◌*◌, ◌/◌, ◌%◌, ◌≤◌, ◌<◌}
use Rattle.std.specs.Prelude.{◌≡◌, Bool, false, ltb, get_or}
use Rattle.std.proofs.Math.Path.{refl, ap}
use mathlib.Core.List.{List, [], ◌∷◌, ◌++◌, map, flat_map}
use Rattle.std.proofs.Math.Option.{none}
use native.Mathlib.Omega.{arith}
use Rattle.std.proofs.Math.Decide.{dec_lt}
use Rattle.std.proofs.Common.{suc-mul}
use Rattle.std.proofs.Math.ListN.{length, length-append, get_or-eq_default}
use Rattle.std.proofs.Math.Pow.{pow_mono}
use Rattle.sets.specs.Bit.{has, full}
use Rattle.sets.specs.Lists.{select}
use Rattle.sets.specs.Tabulated.{tabulate}
use Rattle.sets.specs.Laws.Tabulated.{length_tabulate}
use Rattle.sets.specs.Laws.Choice.{by_test}
use Rattle.exprs.specs.Expr.{constant}
use Rattle.lines.specs.Bytes.{bytes}
use Rattle.lines.specs.Decimal.{digits_in, decimal}
use Rattle.lines.specs.Written.{Rule, line}
use Rattle.lines.proofs.Laws.Lines.{length_line}
use Rattle.refusals.specs.Answers.{Outcome, Accepted, Refused}
use Rattle.models.specs.Written.{Described, Legal, rule_at, model_in}
use Rattle.models.proofs.Accepted.{told}
use Rattle.models.specs.Changed.{by_property}
use Rattle.models.proofs.Laws.Ranges.{Refusal, ranges}
use Rattle.systems.specs.System.{System}
use Rattle.systems.specs.Verdict.{holds, trace_of}
use Rattle.systems.specs.Judged.{judged}
use Rattle.semantics.specs.Meaning.{system_of, judge}
use Rattle.sorting.specs.declared.which.WhichList.{WhichList}
use Rattle.sorting.specs.declared.which.WhichList.TheVariants.{Cores, Cuts}
use Rattle.sorting.specs.declared.kinds.Kind.TheVariants.{Must, May, Irrelevant}
use Rattle.sorting.specs.Which.{listed, of_kind}
use Rattle.calls.specs.Answers.{rules_in, judge_in, list_in, text_outcome}
use Rattle.calls.proofs.Laws.Answers.{vars_most}
use Rattle.calls.proofs.Laws.Sizes.{select_length, list_le}
use Rattle.pages.specs.Page.{pages_from}
use Rattle.sections.specs.Laws.Sections.{set_text_lem}
use Rattle.pages.specs.Laws.Page.{pages_are_the_text}
use Rattle.pages.specs.Numbers.{number_line}
use Rattle.sections.specs.Sections.{separated, name_in, set_text, set_line, verdict_lines, verdict_by, verdicts_of, count_key, set_key, list_lines, kind_lines}
use Rattle.reports.specs.Report.{model_report, refusal_report, report_on, report_of}

-- ---- numbers

digits_most : (most n : ℕ) → length (digits_in most n) ≤ most
unfolding digits_in
digits_most zero n = omega arith
digits_most (suc most) n =
    by_test (λ l. length l ≤ suc most) (ltb n 10) {x = (48 + n) ∷ []} {y = digits_in most (n / 10) ++ (48 + n % 10) ∷ []}
    (λ _. omega arith)
    (λ _. omega (arith, digits_most most (n / 10), length-append (digits_in most (n / 10)) ((48 + n % 10) ∷ [])))

number_length : (key : List ℕ) (n : ℕ) → length (number_line key n) ≤ length key + n + 2
unfolding number_line decimal
number_length key n = omega (arith, length_line key (decimal n), digits_most (suc n) n)

-- ---- a line for each entry

lines_length : (f : ℕ → List ℕ) (most : ℕ) (l : List ℕ) → ((i : ℕ) → i < length l → length (f (get_or l i 0)) ≤ most) → length (flat_map f l) ≤ length l * most
unfolding flat_map
lines_length f most [] h = omega arith
lines_length f most (x ∷ l) h =
    omega (arith, h 0 (omega arith), lines_length f most l (λ i k. h (suc i) (omega arith)), length-append (f x) (flat_map f l), suc-mul (length l) most)

-- ---- names

module _ (g : ℕ → List ℕ) (short : (i : ℕ) → length (g i) ≤ 8) where
  others_length : (l : List ℕ) → length (flat_map (λ n. bytes "," ++ n) (map g l)) ≤ 9 * length l
  unfolding flat_map
  others_length [] = omega arith
  others_length (i ∷ l) =
      omega (arith, short i, others_length l, length-append (bytes "," ++ g i) (flat_map (λ n. bytes "," ++ n) (map g l)), length-append (bytes ",") (g i))

  separated_length : (l : List ℕ) → length (separated (map g l)) ≤ 1 + 9 * length l
  unfolding separated flat_map
  separated_length [] = omega arith
  separated_length (i ∷ l) = omega (arith, short i, others_length l, length-append (g i) (flat_map (λ n. bytes "," ++ n) (map g l)))

module _ (M : Described) (legal : Legal M) where
  name_length : (i : ℕ) → length (name_in M i) ≤ 8
  unfolding name_in
  name_length i = go (dec_lt i (length M.rules))
    where
      go : Dec (i < length M.rules) → length (rule_at M.rules i).name ≤ 8
      go (yes h) = (legal.rules i h).name_length.at_most
      go (no h) =
          let absent : rule_at M.rules i ≡ record { name = []; step = constant false; start = none } =
          get_or-eq_default M.rules (record { name = []; step = constant false; start = none }) {n = i} (omega arith) in
          omega (arith, ap (λ (r : Rule). length r.name) absent)

  set_length : (key : List ℕ) (S : ℕ) → length (set_line M key S) ≤ length key + 146
  unfolding set_line
  set_length key S =
      omega (arith, length_line key (set_text M S), ap length (set_text_lem M S), separated_length (name_in M) name_length (select (has S) (length M.rules)), select_length (has S) (length M.rules), legal.count.at_most)

  -- ---- the parts of a report

  count_key_lem : (which : WhichList) → length (count_key which) ≤ 6
  unfolding count_key
  count_key_lem Cores = omega arith
  count_key_lem Cuts = omega arith

  kinds_length : (h : ℕ → Bool) → length (kind_lines M h) ≤ 453
  unfolding kind_lines
  kinds_length h =
      let R : ℕ = length M.rules in
      let must : List ℕ = set_line M (bytes "must=") (of_kind Must R h) in
      let may : List ℕ = set_line M (bytes "may=") (of_kind May R h) in
      let irrelevant : List ℕ = set_line M (bytes "irr=") (of_kind Irrelevant R h) in
      omega (arith, length-append must (may ++ irrelevant), length-append may irrelevant, set_length (bytes "must=") (of_kind Must R h), set_length (bytes "may=") (of_kind May R h), set_length (bytes "irr=") (of_kind Irrelevant R h))

  set_key_lem : (which : WhichList) → length (set_key which) ≤ 5
  unfolding set_key
  set_key_lem Cores = omega arith
  set_key_lem Cuts = omega arith

  list_length : (which : WhichList) (sets : List ℕ) → length sets ≤ 65536 → length (list_lines M which sets) ≤ 9961480
  unfolding list_lines
  list_length which sets few =
      omega (arith, length-append (number_line (count_key which) (length sets)) (flat_map (set_line M (set_key which)) sets), number_length (count_key which) (length sets), count_key_lem which, lines_length (set_line M (set_key which)) 151 sets (λ i h. omega (arith, set_length (set_key which) (get_or sets i 0), set_key_lem which)))

verdict_length : (N : System) → N.size ≤ 128 → length (verdict_lines N) ≤ 17440
unfolding verdict_lines
verdict_length N few =
    let states : List ℕ = flat_map (number_line (bytes "state=")) (trace_of N) in
    by_test (λ l. length l ≤ 17440) (holds N) {x = line (bytes "verdict=") (bytes "holds")} {y = line (bytes "verdict=") (bytes "broken") ++ states}
    (λ _. omega (arith, length_line (bytes "verdict=") (bytes "holds")))
    (λ e.
    omega (arith, length-append (line (bytes "verdict=") (bytes "broken")) states, length_line (bytes "verdict=") (bytes "broken"), (judged N).at_most_size, lines_length (number_line (bytes "state=")) 136 (trace_of N) (λ i h. omega (arith, number_length (bytes "state=") (get_or (trace_of N) i 0), ((judged N).broken e).breach.walk.states i h))))

refusal_length : (number at : ℕ) → Refusal number at → length (refusal_report number at) ≤ 50
unfolding refusal_report
refusal_length number at r =
    omega (arith, length-append (number_line (bytes "refused=") number) (number_line (bytes "line=") at), number_length (bytes "refused=") number, number_length (bytes "line=") at, r.most, r.last_line)

-- ---- the report

module _ (text : List ℕ) where
  is_legal : text_outcome text ≡ Accepted → Legal (model_in text)
  unfolding text_outcome
  is_legal e = (told text e).legal

  is_refusal : (number at : ℕ) → text_outcome text ≡ Refused number at → Refusal number at
  unfolding text_outcome
  is_refusal number at e = (ranges text).refusal number at e

  few_states : (j S : ℕ) → (system_of (by_property j (model_in text)) S).size ≤ 128
  unfolding system_of by_property
  few_states j S = omega (arith, pow_mono (vars_most text))

  verdicts_length : text_outcome text ≡ Accepted → length (verdicts_of (model_in text)) ≤ 69760
  unfolding verdicts_of verdict_by
  verdicts_length e =
      let M : Described = model_in text in
      let places : List ℕ = tabulate (length M.props) (λ j. j) in
      omega (arith, (is_legal e).properties.at_most, length_tabulate (length M.props) (λ j. j), lines_length (verdict_by M) 17440 places (λ i h. verdict_length _ (few_states (get_or places i 0) (full (length M.rules)))))

  few_sets : (which : WhichList) → length (listed which (length (model_in text).rules) (judge (model_in text))) ≤ 65536
  unfolding list_in rules_in judge_in
  few_sets which = list_le which text

  model_length : text_outcome text ≡ Accepted → length (model_report (model_in text)) ≤ 33554432
  unfolding model_report
  model_length e =
      let M : Described = model_in text in
      let R : ℕ = length M.rules in
      let verdicts : List ℕ = verdicts_of M in
      let kinds : List ℕ = kind_lines M (judge M) in
      let cores : List ℕ = list_lines M Cores (listed Cores R (judge M)) in
      let cuts : List ℕ = list_lines M Cuts (listed Cuts R (judge M)) in
      omega (arith, length-append verdicts (kinds ++ (cores ++ cuts)), length-append kinds (cores ++ cuts), length-append cores cuts, verdicts_length e, kinds_length M (is_legal e) (judge M), list_length M (is_legal e) Cores (listed Cores R (judge M)) (few_sets Cores), list_length M (is_legal e) Cuts (listed Cuts R (judge M)) (few_sets Cuts))

  -- No report has more than 2^25 bytes.
  pub report_length : length (report_of text) ≤ 33554432
  unfolding report_of report_on
  report_length = go (text_outcome text) refl
    where
      go : (o : Outcome) → text_outcome text ≡ o → length (report_on o (model_in text)) ≤ 33554432
      go Accepted e = model_length e
      go (Refused number at) e = omega (arith, refusal_length number at (is_refusal number at e))

-- So the pages of an input's report, in order and up to the one that none follows, are the report.
pub pages_are_the_report : (text : List ℕ) (most count : ℕ) → 0 < most → 33554432 < count → pages_from count 0 most (report_of text) ≡ report_of text
pages_are_the_report text most count some enough = pages_are_the_text (report_of text) most count some (omega (arith, report_length text))
