-- The loop of `sets::words::agreeing`: the word has the numbers that fit at each rule of the set before this one.
use Rattle.std.proofs.Common.{ℕ, ◌≡◌, Bool}
use Rattle.sets.specs.Gathered.{set_of}
use Rattle.sets.specs.Cores.{none_below}
use Rattle.sets.proofs.Passing.{misses}
use Rattle.sets.proofs.words.agreeing.Given as goal

abbrev pub invariant-loop-rule : goal.invariant-loop-rule
invariant-loop-rule g l =
    (fits : ℕ → ℕ → Bool) → ((i bits : ℕ) → goal.F-post g l.fitting i bits → bits ≡ set_of 64 (fits i))
    → l.word ≡ set_of 64 (λ t. none_below (misses fits l.set t) l.rule)
