-- What reading asks of a place: that it is within the text, and that its line's number is no greater than the lines before it can have made it, so
-- that no sum of places wraps. Assumes nothing: these are definitions.
use Rattle.std.specs.Prelude.{ℕ, ◌+◌, ◌≤◌, List, length}
use Rattle.bodies.specs.declared.progress.LineStart.{LineStart}

-- a place of the text; each line before it has a byte at least
pub record Placed (text : List ℕ) (p : LineStart) : Type 0 where
  pub within : p.at ≤ length text
  pub counted : p.line ≤ p.at + 1

-- a line that begins at the place, and has so many bytes, has one at least and ends within the text
pub record EndsWithin (text : List ℕ) (p : LineStart) (bytes : ℕ) : Type 0 where
  pub some : 1 ≤ bytes
  pub within : p.at + bytes ≤ length text

-- a line of so many bytes begins at the place and ends within the text
pub record Passes (text : List ℕ) (p : LineStart) (bytes : ℕ) : Type 0 where
  pub within : p.at + bytes ≤ length text
  pub counted : p.line ≤ p.at + 1

-- the lines of so many parts are due from the place on
pub record PartsDue (text : List ℕ) (most count : ℕ) (p : LineStart) : Type 0 where
  pub few : count ≤ most
  pub place : Placed text p
