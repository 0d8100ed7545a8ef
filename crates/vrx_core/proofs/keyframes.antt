-- Lemmas on requests for a keyframe.
pub mod AnsweredLemmas
pub mod KeyWantsLemmas
pub mod CompletesLemmas
pub mod KeyLawLemmas
