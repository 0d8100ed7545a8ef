-- lists that rise; the place of a run in a queue; the three queues; the next run; rows
mod NextLemmas
mod OrderLemmas
mod PartLemmas
mod PlaceLemmas
mod Rows
