-- Lemmas of what is asked for, and of what is given up.
pub mod MadeLemmas
pub mod RangeLemmas
pub mod MissingLemmas
pub mod SaneLemmas
pub mod FrontLemmas
pub mod AskLemmas
pub mod TakenLemmas
pub mod AskingLemmas
pub mod WantsLemmas
