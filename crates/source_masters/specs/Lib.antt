pub mod MasterReading
pub mod MasterRules
pub mod MasterTables
pub mod Metrics
pub mod OnLiterals
pub mod Parameters
pub mod ReadMasters
pub mod WholeRules
