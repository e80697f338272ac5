pub mod Cuts
pub mod KeyTexts
pub mod Lacking
pub mod LinesWritten
pub mod NamesKept
pub mod OneFault
pub mod ReasonsOfCodes
pub mod WaiverNames
