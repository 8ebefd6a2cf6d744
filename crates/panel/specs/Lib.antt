pub mod Calls
pub mod Checks
pub mod Panels
pub mod Refusals
pub mod Runs
pub mod Sheets
pub mod Sizes
pub mod Standing
