pub mod FieldLemmas
pub mod PartLemmas
pub mod BodyLemmas
pub mod FrontLemmas
pub mod FrameLemmas
