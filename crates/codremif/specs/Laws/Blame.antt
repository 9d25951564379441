-- What `Blame` says is true of every accepted text and every accepted log. From the run that the log is (`Rattle.blaming.proofs.Laws.Run`), from the duality
-- of cores and cuts, and from where the sets of a list stand in its bytes (`lookup`). Assumes nothing.
use Rattle.std.specs.Prelude.{ℕ, ◌-◌, ◌≡◌, Bool, false, List, Option, Some, None, length}
use Rattle.std.proofs.Math.Path.{refl}
use Rattle.std.proofs.Common.{sym, ap, ◌∙◌, arith}
use Rattle.std.proofs.Math.Pow.{ones_lt}
use Rattle.sets.specs.Bit.{full}
use Rattle.sets.specs.Sets.{◌⊑◌, Shares}
use Rattle.sets.specs.Cores.{Cut, breaks}
use Rattle.sets.specs.Lists.{bytes_of, cores_of, cuts_of}
use Rattle.sets.specs.Laws.Cores.{breaks_iff, breaks_core}
use Rattle.sets.specs.Laws.Sets.{part_le}
use Rattle.sets.proofs.Laws.Duality.{duality, breaks_monotone}
use Rattle.sets.specs.Laws.Listed.{cores_of_lists, cuts_of_lists}
use Rattle.refusals.specs.Answers.{Accepted, Given, Answer}
use Rattle.lookup.specs.Laws.Lists.{stands, is_listed, core_small, cut_small}
use Rattle.sorting.specs.declared.which.WhichList.TheVariants.{Cores, Cuts}
use Rattle.sorting.specs.Which as Which
use Rattle.logs.specs.declared.blame.Blamed.{Blamed}
use Rattle.calls.specs.Answers.{rules_in, judge_in, list_in, text_outcome}
use Rattle.calls.proofs.Laws.Answers.{rules_most}
use Rattle.blaming.specs.Answer.{blame_in, blame_answer}
use Rattle.blaming.proofs.Laws.Answer.{blame_says, blamed_below, blame_given}
use Rattle.blaming.proofs.Laws.Run.{log_breach, kept_broken}
use Rattle.packing.specs.Packing.{accepted, parts_by, blamed_parts, blame_parts, breach_number, packed}
use Rattle.codremif.specs.Suffices.{TextTelling, text_by_answers, text_by_hosts}
use Rattle.codremif.specs.OneCore.{StandsIn}
use Rattle.codremif.specs.Blame.{BlameTelling, blame_by_answers, host_blamed, blame_by_hosts, AcceptedLog, Breached, Blames, FromLogs}
use Rattle.codremif.specs.Laws.Demand3.{monotone_in}
use Rattle.codremif.specs.Laws.Suffices.{broken_judged}
use Rattle.codremif.specs.Laws.Telling.{Tells, answers_tell, hosts_tell}

-- ---- how the calls tell what a log says

record TellsBlame {A : Type 0} (t : BlameTelling A) : Type 0 where
  breach : (text log : List ℕ) (B place : ℕ) → blame_answer text log ≡ Given (record { set = B; breach = Some place }) → t.answer text log ≡ t.breach B place
  no_breach : (text log : List ℕ) (B : ℕ) → blame_answer text log ≡ Given (record { set = B; breach = None }) → t.answer text log ≡ t.no_breach B (length log)

answers_tell_blame : TellsBlame blame_by_answers
unfolding blame_by_answers
answers_tell_blame = record { breach = λ text log B place e. e; no_breach = λ text log B e. e }

hosts_tell_blame : TellsBlame blame_by_hosts
unfolding blame_by_hosts host_blamed blame_parts parts_by blamed_parts breach_number packed accepted
hosts_tell_blame = record {
  breach = λ text log B place e. ap (host_blamed (length log)) e ∙ ap (λ (x : ℕ). record { blame = x; breach = place }) (omega arith);
  no_breach = λ text log B e. ap (host_blamed (length log)) e ∙ ap (λ (x : ℕ). record { blame = x; breach = length log }) (omega arith);
}

-- ---- a text and a log

module _ (text : List ℕ) (model : text_outcome text ≡ Accepted) (log : List ℕ) (a : AcceptedLog text log) where
  abbrev R : ℕ
  R = rules_in text

  abbrev h : ℕ → Bool
  h = judge_in text

  abbrev b : Blamed
  b = blame_in text log

  module _ {place : ℕ} (there : b.breach ≡ Some place) where
    broken : h (full R - b.set) ≡ false
    broken = kept_broken text log a.states a.init there

    -- The blamed set shares a rule with each listed core,
    shares_core : (C : ℕ) → StandsIn C (bytes_of (list_in Cores text)) → Shares b.set C
    unfolding list_in Which.listed
    shares_core C s =
        let c = is_listed (λ S. S ≡ C) (cores_of R h) (core_small R h (rules_most text)) s.0 s.1 in
        let core = (cores_of_lists R h).only c.0 c.1 in
        rw c.2 at ((((duality R h (monotone_in text)).removal b.set (blamed_below text log)).0 broken).meets c.0 core.rules core.itself)

    -- and some listed cut is a part of it.
    contains_cut : (C : ℕ) × StandsIn C (bytes_of (list_in Cuts text)) × (C ⊑ b.set)
    unfolding list_in Which.listed
    contains_cut =
        let c = (duality R (breaks R h) (breaks_monotone R h (monotone_in text))).contains b.set ((breaks_iff R h b.set).1 broken) in
        let cut : Cut R h c.0 = (breaks_core R h c.0).0 c.2 in
        let listed = (cuts_of_lists R h).each c.0 (record { rules = omega (arith, part_le {S = c.0} c.1, blamed_below text log); itself = cut }) in
        (c.0, stands (λ S. S ≡ c.0) (cuts_of R h) (cut_small R h (rules_most text)) c.0 listed refl, c.1)

    breached : {J L M : Type 0} (w : TextTelling J L M) → Tells w → Breached w text log b.set place
    breached w tells = record {
      run = log_breach text log a.states a.init there;
      every_core = λ list r C s. shares_core C (rw (tells.wrote text model Cores list r) at s);
      a_cut = λ list r. rw (tells.wrote text model Cuts list r) contains_cut;
      full_broken = λ none lent enough.
          let whole : full R - b.set ≡ full R = omega (arith, none) in
          let j = broken_judged text model (full R) (ones_lt R) (rw whole at broken) lent enough in
          (j.0, j.1, (tells.broken text (full R) lent j.0 j.1).1 j.2);
    }

  -- what is answered where the first bad state stands at a place, or nowhere
  abbrev said : Option ℕ → Answer Blamed
  said breach = Given (record { set = b.set; breach = breach })

  blames : {J L M A : Type 0} (w : TextTelling J L M) → Tells w → (t : BlameTelling A) → TellsBlame t → Blames w t text log
  blames w tells t told = record {
    blamed = b;
    says = blame_says text log;
    breach = λ place there. told.breach text log b.set place (sym (ap said (sym there) ∙ given));
    no_breach = λ none. told.no_breach text log b.set (sym (ap said (sym none) ∙ given));
    breached = λ place there. breached there w tells;
  }
    where
      given : said b.breach ≡ blame_answer text log
      given = blame_given text log model a.states a.init

-- The call in Rattle, and the exported ones.
pub calls_blame : (text : List ℕ) → text_outcome text ≡ Accepted → FromLogs text_by_answers blame_by_answers text
calls_blame text model log a = blames text model log a text_by_answers answers_tell blame_by_answers answers_tell_blame

pub hosts_blame : (text : List ℕ) → text_outcome text ≡ Accepted → FromLogs text_by_hosts blame_by_hosts text
hosts_blame text model log a = blames text model log a text_by_hosts hosts_tell blame_by_hosts hosts_tell_blame
