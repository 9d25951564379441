-- A rule line is read exactly where it is written: a legal one is read as where its parts stand with its number of bytes, whatever follows it, and a
-- line that is read is the written form of a legal rule. From the definitions of `RuleLines` and `Written`, by the laws of lines.
use Rattle.std.specs.Prelude.{ℕ, zero, suc, ◌+◌, ◌≤◌, ◌<◌, ◌≡◌, refl, Bool, true, false, ◌&&◌, List, [], ◌∷◌, ◌++◌, eqb, leb, length, get_or, take, drop}
use Rattle.std.proofs.Common.{sym, ap, ap₂, ◌∙◌, arith, add-one, eq-eqb, eqb-true, le-leb, leb-true, length-take-le}
use Rattle.std.proofs.Math.Bool.{and-eq-true_iff}
use Rattle.std.proofs.Math.Option.{Option, none, some}
use Rattle.std.proofs.Math.Seq.{take-append_seam, get_or-append_seam, drop-append-add, split_at}
use Rattle.exprs.specs.Expr.{Expr, written}
use Rattle.lines.specs.declared.classes.Class.TheVariants.{InLine, InName}
use Rattle.rule_lines.specs.declared.names.RuleParts.{RuleParts}
use Rattle.lines.specs.Bytes.{belongs, prefix}
use Rattle.lines.specs.Lines.{Fault, Read, rule_key, value_of, all}
use Rattle.rule_lines.specs.RuleLines.{is_named, parts_at, rule_line}
use Rattle.lines.specs.Written.{Rule, Within, LegalStart, LegalRule, line, written_start, written_parts, written_rule}
use Rattle.lines.specs.Laws.Bytes.{all_nil, all_append, all_more, all_in_line, prefix_seam, all_prefix}
use Rattle.rule_lines.proofs.Laws.Numbers.{rule_numbers, by_rule}
use Rattle.lines.proofs.Laws.Expressions.{legal_in_line}
use Rattle.rule_lines.proofs.Laws.Parts.{parts_there, parts_back}
use Rattle.lines.proofs.Laws.Lines.{Reads, unfaulted_back, unfaulted, line_there, line_back}

-- a rule line that is read is not refused
no_rule_read : (parts : RuleParts) (bytes number : ℕ) → Fault number ≡ Read parts bytes → ⊥
no_rule_read parts bytes number q = cc

-- the value begins with the name and `:`, and the parts follow
pub record Named (name parts v : List ℕ) : Type 0 where
  pub is : is_named v ≡ true
  pub bytes : prefix InName v ≡ length name
  pub name_is : take (prefix InName v) v ≡ name
  pub parts_are : drop (prefix InName v + 1) v ≡ parts

pub named_there : (name parts : List ℕ) → Within 1 8 (length name) → all InName name ≡ true → Named name parts (name ++ 58 ∷ parts)
unfolding is_named belongs
named_there name parts w a =
    let v : List ℕ = name ++ 58 ∷ parts in
    let p : prefix InName v ≡ length name = prefix_seam InName name 58 parts a refl in
    record {
      is = rw (p, le-leb 1 (length name) w.at_least, le-leb (length name) 8 w.at_most) (eq-eqb _ _ (get_or-append_seam name 58 parts 0));
      bytes = p;
      name_is = rw p (take-append_seam name (58 ∷ parts));
      parts_are = rw p (drop-append-add name (58 ∷ parts) 1);
    }

-- a value that begins with a proper name and `:`
pub record Split (v : List ℕ) : Type 0 where
  pub length_is : Within 1 8 (length (take (prefix InName v) v))
  pub text : v ≡ take (prefix InName v) v ++ 58 ∷ drop (prefix InName v + 1) v

-- a byte that is not 0 stands within the list
get_d_within : (v : List ℕ) (k : ℕ) → 1 ≤ get_or v k 0 → k < length v
get_d_within [] k h = absurd (omega arith)
get_d_within (x ∷ v) zero h = omega arith
get_d_within (x ∷ v) (suc k) h = omega (arith, get_d_within v k h)

pub named_back : (v : List ℕ) → is_named v ≡ true → Split v
unfolding is_named
named_back v h =
    let k : ℕ = prefix InName v in
    let a = (and-eq-true_iff (leb 1 k) (leb k 8 && eqb (get_or v k 0) 58)).0 h in
    let b = (and-eq-true_iff (leb k 8) (eqb (get_or v k 0) 58)).0 a.1 in
    let colon : get_or v k 0 ≡ 58 = eqb-true (get_or v k 0) 58 b.1 in
    let within : k < length v = get_d_within v k (omega arith) in
    let low : 1 ≤ k = leb-true 1 k a.0 in
    let high : k ≤ 8 = leb-true k 8 b.0 in
    record {
      length_is = rw (length-take-le k v (omega arith)) (record { at_least = low; at_most = high });
      text = split_at v k 0 within ∙ ap₂ (λ x m. take k v ++ x ∷ drop m v) colon (sym (add-one k));
    }

start_in_line : (n : ℕ) → n ≤ 7 → (start : Option Expr) → LegalStart n start → all InLine (written_start start) ≡ true
unfolding written_start belongs
start_in_line n h none l = all_nil InLine
start_in_line n h (some e) l = all_more InLine 58 (written e) refl (legal_in_line n false e h l)

pub rule_in_line : (n : ℕ) (r : Rule) → n ≤ 7 → LegalRule n r → all InLine (r.name ++ 58 ∷ written_parts r) ≡ true
unfolding written_parts belongs
rule_in_line n r h l =
    let parts : all InLine (written_parts r) ≡ true =
    all_append InLine (written r.step) (written_start r.start) ∙ ap₂ ◌&&◌ (legal_in_line n true r.step h l.step) (start_in_line n h r.start l.start) in
    all_append InLine r.name (58 ∷ written_parts r) ∙ ap₂ ◌&&◌ (all_in_line InName refl r.name l.name_bytes) (all_more InLine 58 (written_parts r) refl parts)

pub rule_key_in_line : all InLine rule_key ≡ true
unfolding all prefix belongs
rule_key_in_line = refl

pub rule_reads : (n : ℕ) → n ≤ 7 → (taken : List ℕ → Bool) (at : ℕ)
    → Reads Read (λ r. LegalRule n r × (taken r.name ≡ false)) written_rule (λ r. parts_at at (length r.name) (written_parts r)) (rule_line n taken at)
unfolding written_rule written_parts
rule_reads n h taken at = record {
  there = λ r l rest.
      let v = r.name ++ 58 ∷ written_parts r in
      let s = line rule_key v ++ rest in
      let b = line_there rule_key rule_key_in_line v rest (rule_in_line n r h l.0) in
      let m = named_there r.name (written_parts r) l.0.name_length l.0.name_bytes in
      let p = parts_there n h r.step l.0.step r.start l.0.start in
      let v_is : value_of rule_key s ≡ v = b.value_is in
      (rule_numbers n taken at s).by_rest b.is (ap is_named v_is ∙ m.is) (rw (v_is, m.name_is) l.1)
      ∙ rw (v_is, m.parts_are, m.bytes) (unfaulted Fault _ _ p.unrefused ∙ ap (Read (parts_at at (length r.name) (written_parts r))) b.bytes);
  back = λ s parts bytes.
      let v = value_of rule_key s in
      let k = prefix InName v in
      by_rule n taken at s (λ x. x ≡ Read parts bytes → (r : Rule) × (LegalRule n r × (taken r.name ≡ false)) × ((rest : List ℕ) × (s ≡ written_rule r ++ rest)))
      (λ _ q. absurd (no_rule_read parts bytes 1 q))
      (λ _ _ q. absurd (no_rule_read parts bytes 3 q))
      (λ _ _ _ q. absurd (no_rule_read parts bytes 4 q))
      (λ a b c q.
      let e = parts_back n (drop (k + 1) v) (unfaulted_back Fault _ _ _ (no_rule_read parts bytes) q) in
      let m = named_back v b in
      let r = line_back rule_key rule_key_in_line s a in (
        record { name = take k v; step = e.step; start = e.start },
        (record { name_length = m.length_is; name_bytes = all_prefix InName v; step = e.step_legal; start = e.start_legal }, c),
        (r.0, r.1 ∙ ap (λ x. line rule_key x ++ r.0) (m.text ∙ ap (λ x. take k v ++ 58 ∷ x) e.are)),
      ));
}
