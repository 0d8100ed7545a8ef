-- The sender of a drill is honest, and so is its network.
pub mod PartLemmas
pub mod PlaceLemmas
pub mod TravelsLemmas
pub mod ParityLemmas
pub mod LayersLemmas
pub mod SenderLemmas
pub mod NetworkSizes
pub mod WireFormLemmas
pub mod ComesLemmas
pub mod NetworkLemmas
