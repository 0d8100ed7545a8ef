-- Lines of octets, and how their parts join; what the reader has and reads; numbers and fields of a line; which
-- reason a bad line has; rows by hand.
pub mod PlaceLemmas
pub mod LinesLemmas
pub mod JoinLemmas
pub mod LineLemmas
pub mod AheadLemmas
pub mod ReadsLemmas
pub mod HeldLemmas
pub mod SaysLemmas
pub mod ReaderLemmas
pub mod OnLiterals
pub mod Rows
pub mod NumberLemmas
pub mod GrammarLemmas
pub mod ReasonLemmas
pub mod ReadingLemmas
pub mod SsrcLemmas
pub mod FieldLemmas
pub mod SettingsLineLemmas
pub mod SettingsLineRows
