-- Runs by their conditions, and what one number completes; the search around a number, by links and marks; what is
-- kept of each number; how the parts of a run join; rows by hand.
mod AnswerLemmas
mod ApartLemmas
mod AroundLemmas
mod CompleteLemmas
mod JoinLemmas
mod KeptLemmas
mod LinkLemmas
mod MapLemmas
mod MarkLemmas
mod MemberLemmas
mod MoveLemmas
mod RaiseLemmas
mod Rows
mod RunLemmas
mod StartLemmas
mod ToldLemmas
