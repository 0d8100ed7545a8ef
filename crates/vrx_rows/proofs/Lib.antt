-- Calls worked by hand: over codecs made for the row, over VP8 and over H.264.
pub mod MemberLemmas
pub mod NeighbourRows
pub mod FormRows
pub mod FecRows
pub mod LayerRows
pub mod EngineRows
pub mod HonestRows
pub mod LossRows
pub mod HonestH264Rows
pub mod WholeCallRows
