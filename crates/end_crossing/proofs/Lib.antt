pub mod ByParts
pub mod Grouping
pub mod Kept
pub mod KnownEnds
pub mod Parting
pub mod SameCrossings
pub mod SameGates
pub mod SamePorts
