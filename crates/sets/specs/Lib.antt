-- A rule set as a number, and the theory of cores and cuts for any judgement of rule sets. The definitions stand here; what is proved of
-- them stands in `Laws` and, of the lists, MUST, the kinds and one core, in proofs/Laws.
pub mod Bit
pub mod Tabulated
pub mod Gathered
pub mod Next
pub mod Sets
pub mod Cores
pub mod Lists
pub mod Orders
pub mod OneCore
pub mod Kinds
pub mod Kept
pub mod Renumbered
pub mod Demand3
pub mod Joint
pub mod Laws
