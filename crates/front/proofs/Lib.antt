-- The lists of a paving; the stores of a placing; what the code writes into a slice's part, and how it searches.
pub mod Lent
pub mod Parts
pub mod Quads
pub mod Searches
pub mod FrameLaws
pub mod KnownLaws
pub mod MeshEdges
pub mod Moved
pub mod Pushed
pub mod ReadLaws
pub mod Sides
pub mod StateAfter
pub mod Step
pub mod StoreLaws
