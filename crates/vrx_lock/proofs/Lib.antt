-- Sums over lists; places; lists that begin others; shares; how each step keeps the rule; and the seats that callers
-- have.
mod Totals
mod PlaceLemmas
mod BeginLemmas
mod ShareLemmas
mod RuleLemmas
mod StepLemmas
mod SeatLemmas
mod KeptLemmas
mod OfferLemmas
mod JoinLemmas
mod ReplyLemmas
