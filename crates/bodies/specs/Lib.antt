-- The body of a model text, the lines behind `init`: `Properties` says how many property lines there are, `Body` how they and the rule lines are read one
-- after the other, `Places` what the reading asks of a place. What is proved of these stands in `Laws`. Assumes nothing.
pub mod Properties
pub mod Body
pub mod Places
pub mod Laws
