pub mod PutLemmas
pub mod SinkLemmas
