pub mod LeastLemmas
pub mod MeasuringLemmas
pub mod BasesLemmas
pub mod NestingLemmas
pub mod WalkLemmas
mod RegionSides
mod MeasureLaws
pub mod RegionLemmas
pub mod RowLemmas
pub mod LargeLemmas
pub mod ChangeLemmas
pub mod Examples
pub mod NameLemmas
mod MeasuringRows
mod StyleRows
