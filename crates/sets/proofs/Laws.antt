-- What is proved of the lists, MUST, the kinds of rules and one core. They stand apart from specs/, so that an edit of such a definition is refused here.
pub mod Must
pub mod ByNumber
pub mod Duality
pub mod MustRules
pub mod Demand3
pub mod Kinds
pub mod OneCore
pub mod Renumbered
pub mod Joint
