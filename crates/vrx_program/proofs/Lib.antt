-- What was read and written; first lines; the events of a run, by any word; what replay and inspect give; the honest
-- call's lines; rows by hand.
pub mod WordsLemmas
pub mod ReadsLemmas
pub mod TextLemmas
pub mod InStepLemmas
pub mod HeadLemmas
pub mod JobLemmas
pub mod RunsLemmas
pub mod ReplayLemmas
pub mod InspectLemmas
pub mod SettingsLemmas
pub mod FaultlessLemmas
pub mod HonestLinesLemmas
pub mod EvidentLemmas
pub mod Rows
pub mod CallRows
pub mod LiveReadLemmas
pub mod LivePlayLemmas
pub mod LiveEndLemmas
pub mod DrillLemmas
