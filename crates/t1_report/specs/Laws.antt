-- The statements of laws.
pub mod Editions
pub mod LaterRules
pub mod Limits
pub mod PassedLines
pub mod PassedNumbers
pub mod Reports
pub mod UnitFaults
pub mod WaiverLines
pub mod WaivedFaults
pub mod Walks
pub mod WithWaivers
