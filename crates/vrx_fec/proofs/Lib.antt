-- Masks and their offsets; levels read one after the other, payloads read and spelled; the XOR at places of levels,
-- one text out of a list, lists in another order; a maker's parts; rows worked by hand.
mod MakerLemmas
mod MaskLemmas
mod OrderLemmas
mod PayloadLemmas
mod ReadingLemmas
mod RebuildLemmas
mod Rows
mod SumLemmas
