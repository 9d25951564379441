-- Texts at which two numbers of document 01 fit, in one table: the reading answers with the one that comes first, and the other fits as well. Each
-- number has a text where a later one fits too, and one where an earlier one does; nothing that concerns the text comes after 9. The last rows have
-- more than one property line, or start parts (document 02). The theorem is in `Refused`: it is computed from the texts as printed here. Assumes nothing: these are definitions.
use Rattle.std.specs.Prelude.{ℕ, ◌≡◌, List, [], ◌∷◌, ◌++◌}
use Rattle.lines.specs.Bytes.{bytes, ended_lines}
use Rattle.refusals.specs.Answers.{Refused, outcome_of}
use Rattle.models.specs.Reading.{read_model}
use Rattle.models.specs.Refusals.{FitsAt}

-- A text, the number and the line that it is refused by, and another number that fits, with its line.
pub record Overlap : Type 0 where
  pub text : List ℕ
  pub number : ℕ
  pub line : ℕ
  pub other : ℕ
  pub other_line : ℕ

unfoldable pub overlaps : List Overlap
unfolding ended_lines
overlaps =
    -- 1 and 2: the first key is wrong, R is 0
    record { text = ended_lines ("bits=1" ∷ "rules=0" ∷ []); number = 1; line = 1; other = 2; other_line = 2 }
    -- 1 and 1: both lines are missing
    ∷ record { text = []; number = 1; line = 1; other = 1; other_line = 2 }
    -- 2 and 1: an earlier line comes first, whatever its number; the last line has no byte 10
    ∷ record { text = ended_lines ("vars=8" ∷ []) ++ bytes "rules=1"; number = 2; line = 1; other = 1; other_line = 2 }
    -- 2 and 2: leading zeros
    ∷ record { text = ended_lines ("vars=01" ∷ "rules=01" ∷ []); number = 2; line = 1; other = 2; other_line = 2 }
    -- 1 and 3: `prop` has no `=`, the rule has no name
    ∷ record { text = ended_lines ("vars=1" ∷ "rules=1" ∷ "init=a" ∷ "prop" ∷ "rule=:A" ∷ []); number = 1; line = 4; other = 3; other_line = 5 }
    -- 3 and 1: the name has nine bytes, and the next rule line is missing
    ∷ record { text = ended_lines ("vars=1" ∷ "rules=2" ∷ "init=a" ∷ "prop=a" ∷ "rule=ninebytes:A" ∷ []); number = 3; line = 5; other = 1; other_line = 6 }
    -- 3 and 4: a name without `:`, and a name twice
    ∷ record {
      text = ended_lines ("vars=1" ∷ "rules=3" ∷ "init=a" ∷ "prop=a" ∷ "rule=r" ∷ "rule=r:A" ∷ "rule=r:A" ∷ []);
      number = 3;
      line = 5;
      other = 4;
      other_line = 7;
    }
    -- 4 and 5, on one line: a name twice, and no byte behind it
    ∷ record { text = ended_lines ("vars=1" ∷ "rules=2" ∷ "init=a" ∷ "prop=a" ∷ "rule=r:A" ∷ "rule=r:" ∷ []); number = 4; line = 6; other = 5; other_line = 6 }
    -- 5 and 6, on one line: 65 bytes, of which one is other than those of expressions
    ∷ record {
      text = ended_lines ("vars=1" ∷ "rules=1" ∷ "init=!!!!!!!!!!!!!!!!!!!!!!!!!!!!!!!!!!!!!!!!!!!!!!!!!!!!!!!!!!!!!!!!h" ∷ []);
      number = 5;
      line = 3;
      other = 6;
      other_line = 3;
    }
    -- 5 and 8, on one line: no byte is no expression either
    ∷ record { text = ended_lines ("vars=1" ∷ "rules=1" ∷ "init=" ∷ []); number = 5; line = 3; other = 8; other_line = 3 }
    -- 6 and 7, on one line, where the letter stands before the byte
    ∷ record { text = ended_lines ("vars=2" ∷ "rules=1" ∷ "init=&c " ∷ []); number = 6; line = 3; other = 7; other_line = 3 }
    -- 7 and 8, on one line: a letter beyond N
    ∷ record { text = ended_lines ("vars=2" ∷ "rules=1" ∷ "init=a" ∷ "prop=&c" ∷ []); number = 7; line = 4; other = 8; other_line = 4 }
    -- 7 and 8, on one line: a capital letter in `init`
    ∷ record { text = ended_lines ("vars=2" ∷ "rules=1" ∷ "init=AA" ∷ []); number = 7; line = 3; other = 8; other_line = 3 }
    -- 8 and 3: an earlier line comes first, whatever its number
    ∷ record { text = ended_lines ("vars=1" ∷ "rules=1" ∷ "init=aa" ∷ "prop=a" ∷ "rule=R:A" ∷ []); number = 8; line = 3; other = 3; other_line = 5 }
    -- 8 and 9: a fault in the last rule line, and bytes behind it
    ∷ record { text = ended_lines ("vars=1" ∷ "rules=1" ∷ "init=a" ∷ "prop=a" ∷ "rule=r:&A" ∷ "" ∷ []); number = 8; line = 5; other = 9; other_line = 6 }
    -- 1 and 9: a rule line is missing where another line stands, and bytes follow
    ∷ record { text = ended_lines ("vars=1" ∷ "rules=1" ∷ "init=a" ∷ "prop=a" ∷ "" ∷ []) ++ bytes "r"; number = 1; line = 5; other = 9; other_line = 6 }
    -- 1 and 9: a fifth property, where the rule line is due, and bytes behind it
    ∷ record {
      text = ended_lines ("vars=1" ∷ "rules=1" ∷ "init=a" ∷ "prop=a" ∷ "prop=a" ∷ "prop=a" ∷ "prop=a" ∷ "prop=a" ∷ "rule=r:A" ∷ []);
      number = 1;
      line = 8;
      other = 9;
      other_line = 9;
    }
    -- 1 and 3: a property behind a rule, where the second rule line is due, and a rule without a name
    ∷ record {
      text = ended_lines ("vars=1" ∷ "rules=3" ∷ "init=a" ∷ "prop=a" ∷ "rule=r:A" ∷ "prop=a" ∷ "rule=:A" ∷ []);
      number = 1;
      line = 6;
      other = 3;
      other_line = 7;
    }
    -- 1 and 1: the second property has no byte 10 at its end, and the rule line is missing
    ∷ record { text = ended_lines ("vars=1" ∷ "rules=1" ∷ "init=a" ∷ "prop=a" ∷ []) ++ bytes "prop=a"; number = 1; line = 5; other = 1; other_line = 6 }
    -- 7 and 8, on one line: a letter beyond N in the second property
    ∷ record { text = ended_lines ("vars=2" ∷ "rules=1" ∷ "init=a" ∷ "prop=a" ∷ "prop=&c" ∷ []); number = 7; line = 5; other = 8; other_line = 5 }
    -- 8 and 3: the second property is two expressions, and the rule has no proper name
    ∷ record {
      text = ended_lines ("vars=1" ∷ "rules=1" ∷ "init=a" ∷ "prop=a" ∷ "prop=aa" ∷ "rule=R:A" ∷ []);
      number = 8;
      line = 5;
      other = 3;
      other_line = 6;
    }
    -- 8 and 9, with two properties: a fault in the last rule line, and bytes behind it
    ∷ record {
      text = ended_lines ("vars=1" ∷ "rules=1" ∷ "init=a" ∷ "prop=a" ∷ "prop=1" ∷ "rule=r:&A" ∷ "" ∷ []);
      number = 8;
      line = 6;
      other = 9;
      other_line = 7;
    }
    -- 4 and 5, on one line: a name twice, and no byte behind the `:` of its start part
    ∷ record {
      text = ended_lines ("vars=2" ∷ "rules=2" ∷ "init=a" ∷ "prop=a" ∷ "rule=r:A" ∷ "rule=r:A:" ∷ []);
      number = 4;
      line = 6;
      other = 5;
      other_line = 6;
    }
    -- 5 and 8, on one line: a start part of no byte is no expression either
    ∷ record {
      text = ended_lines ("vars=2" ∷ "rules=1" ∷ "init=a" ∷ "prop=a" ∷ "rule=r:A:" ∷ []);
      number = 5;
      line = 5;
      other = 8;
      other_line = 5;
    }
    -- 5 and 6, on one line: a start part of 65 bytes, of which one is other than those of expressions
    ∷ record {
      text = ended_lines ("vars=2" ∷ "rules=1" ∷ "init=a" ∷ "prop=a" ∷ "rule=r:A:!!!!!!!!!!!!!!!!!!!!!!!!!!!!!!!!!!!!!!!!!!!!!!!!!!!!!!!!!!!!!!!!h" ∷ []);
      number = 5;
      line = 5;
      other = 6;
      other_line = 5;
    }
    -- 6 and 7, on one line: a third `:`, and a capital letter before it
    ∷ record {
      text = ended_lines ("vars=2" ∷ "rules=1" ∷ "init=a" ∷ "prop=a" ∷ "rule=r:A:A:a" ∷ []);
      number = 6;
      line = 5;
      other = 7;
      other_line = 5;
    }
    -- 6 and 8, on one line: a third `:` is no part of an expression
    ∷ record {
      text = ended_lines ("vars=2" ∷ "rules=1" ∷ "init=a" ∷ "prop=a" ∷ "rule=r:A:a:a" ∷ []);
      number = 6;
      line = 5;
      other = 8;
      other_line = 5;
    }
    -- 7 and 8, on one line: a capital letter in a start part that is two expressions
    ∷ record {
      text = ended_lines ("vars=2" ∷ "rules=1" ∷ "init=a" ∷ "prop=a" ∷ "rule=r:A:AA" ∷ []);
      number = 7;
      line = 5;
      other = 8;
      other_line = 5;
    }
    -- 7 and 8, on one line: both of the step part, though its start part has no byte
    ∷ record {
      text = ended_lines ("vars=2" ∷ "rules=1" ∷ "init=a" ∷ "prop=a" ∷ "rule=r:&C:" ∷ []);
      number = 7;
      line = 5;
      other = 8;
      other_line = 5;
    }
    -- 8 and 3: a start part comes before a later line, whatever its number
    ∷ record {
      text = ended_lines ("vars=2" ∷ "rules=2" ∷ "init=a" ∷ "prop=a" ∷ "rule=r:A:aa" ∷ "rule=R:A" ∷ []);
      number = 8;
      line = 5;
      other = 3;
      other_line = 6;
    }
    -- 8 and 9: a fault in the start part of the last rule line, and bytes behind it
    ∷ record {
      text = ended_lines ("vars=2" ∷ "rules=1" ∷ "init=a" ∷ "prop=a" ∷ "rule=r:A:&a" ∷ "" ∷ []);
      number = 8;
      line = 5;
      other = 9;
      other_line = 6;
    }
    ∷ []

-- What is proved of a row.
pub record Overlapping (c : Overlap) : Type 0 where
  pub refused : outcome_of (read_model c.text) ≡ Refused c.number c.line
  pub also : FitsAt c.text c.other c.other_line
