-- Tables of sets: bit S % 64 of word S / 64 is the mark of set S. These are definitions.
use Rattle.std.specs.Prelude.{ℕ, ◌+◌, ◌*◌, ◌/◌, ◌%◌, ◌^◌, ◌≤◌, ◌<◌, ◌≡◌, Bool, false, ◌&&◌, List, ltb, length, get_or}
use Rattle.sets.specs.Bit.{has}
use Rattle.sets.specs.Gathered.{set_of}
use Rattle.sets.specs.Tabulated.{tabulate}

-- The mark of set S.
unfoldable pub marked : List ℕ → ℕ → Bool
marked table S = has (get_or table (S / 64) 0) (S % 64)

-- Word w of the table of the sets of R rules that pass the test p: numbers that are no set of the rules have no mark.
abbrev pub word_by : ℕ → (ℕ → Bool) → ℕ → ℕ
word_by R p w = set_of 64 (λ t. ltb (64 * w + t) (2 ^ R) && p (64 * w + t))

-- The table of the sets of R rules that pass the test p. Fewer than six rules have all their sets in a part of its one word.
unfoldable pub table_by : ℕ → (ℕ → Bool) → List ℕ
table_by R p = tabulate ((2 ^ R + 63) / 64) (word_by R p)

-- At most 16 rules, and a table with room for the marks of their sets.
pub record Room (R : ℕ) (table : List ℕ) : Type 0 where
  pub few : R ≤ 16
  pub room : 2 ^ R ≤ 64 * length table

-- A bound of the sets that a table has room for: no more than all sets of 16 rules.
pub record Ending (end : ℕ) (table : List ℕ) : Type 0 where
  pub few : end ≤ 65536
  pub room : end ≤ 64 * length table

-- No number that is no set of R rules has a mark.
pub record NonePast (R : ℕ) (table : List ℕ) : Type 0 where
  pub none : (S : ℕ) → 2 ^ R ≤ S → S < 64 * length table → marked table S ≡ false

-- A table that marks, of the sets of R rules, those that pass the test p, and nothing else.
pub record Marks (R : ℕ) (p : ℕ → Bool) (table : List ℕ) : Type 0 where
  pub few : R ≤ 16
  pub room : 2 ^ R ≤ 64 * length table
  pub each : (S : ℕ) → S < 2 ^ R → marked table S ≡ p S
  pub past : NonePast R table

-- Word w of a table after a change: f says what becomes of each set's mark.
abbrev pub changed_word : (ℕ → Bool → Bool) → List ℕ → ℕ → ℕ
changed_word f table w = set_of 64 (λ t. f (64 * w + t) (marked table (64 * w + t)))

-- The table after the change.
unfoldable pub changed : (ℕ → Bool → Bool) → List ℕ → List ℕ
changed f table = tabulate (length table) (changed_word f table)

-- At most 1,024 words of the table, of which those before `word` are passed already.
pub record FewWords (table : List ℕ) (word words : ℕ) : Type 0 where
  pub few : words ≤ 1024
  pub within : words ≤ length table
  pub passed : word ≤ words
