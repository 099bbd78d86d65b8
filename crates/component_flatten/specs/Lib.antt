pub mod Numbered
pub mod Transforms
pub mod Places
pub mod Drawing
pub mod Composites
pub mod Anchors
pub mod Flattening
pub mod SourceDrawing
-- for the code and its proofs alone
pub mod Judging
-- laws for the proofs of other crates
pub mod BaseLaws
