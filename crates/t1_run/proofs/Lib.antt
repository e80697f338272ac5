pub mod Commands
pub mod FewRead
pub mod FilesRead
pub mod InputLemmas
pub mod RefusalLaws
pub mod RunLemmas
pub mod SingleFault
pub mod Values
