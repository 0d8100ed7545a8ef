-- Texts and what goes in front of them; the words of RTCP packets and inspections; rows by hand.
pub mod OnLiterals
pub mod KeepsLemmas
pub mod WordLemmas
pub mod InspectionLemmas
pub mod InspectionRows
pub mod TranscriptRows
