-- Lemmas on the engine's parts, event by event.
pub mod ListLemmas
pub mod MapLemmas
pub mod RunMoveLemmas
pub mod FrontLemmas
pub mod WindowLemmas
pub mod AddLemmas
pub mod StandLemmas
pub mod FrontKeptLemmas
pub mod TakenLemmas
pub mod GrowLemmas
pub mod PlacesLemmas
pub mod CameLemmas
pub mod KeptLemmas
pub mod CallLemmas
pub mod LeastLemmas
pub mod GoneLemmas
pub mod PastLemmas
