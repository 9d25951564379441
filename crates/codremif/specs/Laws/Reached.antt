-- What `Reached` says is true of every accepted text. From the laws of the answers, and from what is proved of the search of any system
-- (`Rattle.searches.proofs.Laws.Collecting`). Assumes nothing.
use Rattle.std.specs.Prelude.{ℕ, ◌*◌, ◌^◌, ◌≤◌, ◌<◌, ◌≡◌, ◌⊎◌, Bool, true, false, List}
use Rattle.std.proofs.Math.Path.{refl, ap}
use Rattle.std.proofs.Common.{sym, ◌∙◌, inl, inr, arith}
use mir.Val.{bool_byte}
use Rattle.std.proofs.Math.Dec.{eqb}
use Rattle.std.proofs.Math.ListN.{length, get_or, drop, length-append, length-drop, get_or-append}
use Rattle.std.proofs.Math.Seq.{drop-append_seam}
use Rattle.sets.specs.Lists.{overwritten}
use Rattle.sets.specs.Laws.Tabulated.{get_d_tabulate}
use Rattle.refusals.specs.Answers.{Accepted, Given}
use Rattle.models.specs.Written.{model_in}
use Rattle.systems.specs.System.{System}
use Rattle.traces.specs.Marked.{is_marked}
use Rattle.searches.specs.Search.{search}
use Rattle.searches.specs.Collecting.{Collecting}
use Rattle.searches.proofs.Laws.Collecting.{collecting, same_marks}
use Rattle.semantics.specs.Meaning.{system_of}
use Rattle.semantics.proofs.Laws.Meaning.{step_zero}
use Rattle.calls.specs.Answers.{Gives, rules_in, states_in, system_in, marks_in, pairs_in, text_outcome, reached_answer, reached_bytes}
use Rattle.calls.proofs.Laws.Answers.{reached_enough, length_marks}
use Rattle.packing.specs.Packing.{accepted, parts_by, number_parts, reached_parts, packed}
use Rattle.codremif.specs.Reached.{ReachedStates, EverythingReached}

module _ (text : List ℕ) (model : text_outcome text ≡ Accepted) (S : ℕ) (set : S < 2 ^ rules_in text) (lent : List ℕ) (enough : states_in text ≤ length lent) where
  gives : Gives (pairs_in text S) (marks_in text S) lent (reached_answer text S lent) (reached_bytes text S lent)
  gives = reached_enough text model S lent set enough

  M : System
  M = system_in text S

  -- The byte of a state tells its mark.
  byte_of : (s : ℕ) → s < states_in text → get_or (reached_bytes text S lent) s 0 ≡ bool_byte (is_marked (search M).runs s)
  unfolding M marks_in overwritten
  byte_of s h =
      ap (λ l. get_or l s 0) gives.writes
      ∙ get_or-append (marks_in text S) (drop (length (marks_in text S)) lent) 0 s (omega (arith, h, length_marks text S))
      ∙ get_d_tabulate (states_in text) (λ t. bool_byte (is_marked (search M).runs t)) 0 s h

  one_or_none : (b : Bool) → (bool_byte b ≡ 1) ⊎ (bool_byte b ≡ 0)
  one_or_none true = inl refl
  one_or_none false = inr refl

  byte_told : (b : Bool) → b ≡ eqb (bool_byte b) 1
  byte_told true = refl
  byte_told false = refl

  size_is : M.size ≡ states_in text
  unfolding M states_in system_in system_of
  size_is = refl

  tried : Collecting M (λ s. eqb (get_or (reached_bytes text S lent) s 0) 1) (pairs_in text S)
  unfolding M pairs_in
  tried =
      same_marks
      (λ s h. byte_told (is_marked (search M).runs s) ∙ ap (λ n. eqb n 1) (sym (byte_of s (omega (arith, h, size_is)))))
      (collecting M)

  states : {A : Type 0} (told : ℕ → A) {answer : A} → answer ≡ told (pairs_in text S)
      → ReachedStates told text S lent answer (reached_bytes text S lent)
  unfolding M system_in system_of overwritten
  states told e = record {
    pairs = pairs_in text S;
    answered = e;
    marks = λ s h. rw (byte_of s h) (one_or_none (is_marked (search M).runs s));
    past = ap (drop (states_in text)) gives.writes
        ∙ ap (λ n. drop n (overwritten (marks_in text S) lent)) (sym (length_marks text S))
        ∙ drop-append_seam (marks_in text S) (drop (length (marks_in text S)) lent)
        ∙ ap (λ n. drop n lent) (length_marks text S);
    kept = ap length gives.writes
        ∙ omega (arith, length-append (marks_in text S) (drop (length (marks_in text S)) lent), length-drop (length (marks_in text S)) lent, length_marks text S, enough);
    collecting = tried;
    set_zero = λ z. omega (arith, size_is, tried.all_steps (λ s t _ _. rw z (step_zero (model_in text) s t)));
  }

pub everything_is_reached : (text : List ℕ) → text_outcome text ≡ Accepted → EverythingReached text
unfolding packed reached_parts parts_by number_parts accepted
everything_is_reached text model = record {
  in_rattle = λ S set lent enough. states text model S set lent enough Given (gives text model S set lent enough).says;
  for_hosts = λ S set lent enough.
      states text model S set lent enough (λ n. 65536 * n)
      (ap (λ a. packed (reached_parts a)) (gives text model S set lent enough).says ∙ omega arith);
}
