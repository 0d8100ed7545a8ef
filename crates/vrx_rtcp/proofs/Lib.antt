-- Headers and bodies read against the grammar, and compounds; the items of a NACK, written and read; rows by hand.
mod BodyLemmas
mod CompoundLemmas
mod FeedbackLemmas
mod HeaderLemmas
mod NamedLemmas
mod NumberLemmas
mod PacketLemmas
mod Rows
mod TestLemmas
