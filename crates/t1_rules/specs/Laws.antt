-- Statements of laws, which the functions of src/laws.rt prove.
pub mod Arguments
pub mod Book
pub mod Calls
pub mod Components
pub mod Editions
pub mod Flex
pub mod FontRules
pub mod Later
pub mod Levels
pub mod Othersubrs
pub mod Replacements
pub mod Seac
pub mod Stems
pub mod StepRules
pub mod Zones
