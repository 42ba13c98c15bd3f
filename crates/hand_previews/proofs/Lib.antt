-- In reading order: what would become of the edge, from the quad that a placing places; a front's links as answers.
pub mod Quads
pub mod Neighbours
pub mod FrontAfter
pub mod ListLaws
pub mod PreviewSteps
