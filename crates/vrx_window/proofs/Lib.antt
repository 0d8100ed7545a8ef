-- Maps of entries in order; the ring's slots; what stands under a number or was given up; placing, and the edges of
-- the window; rows by hand.
mod ContentLemmas
mod EntryLemmas
mod FateLemmas
mod FecLemmas
mod MarkLemmas
mod MeansLemmas
mod NumberLemmas
mod RingLemmas
mod WindowLemmas
mod WindowRows
