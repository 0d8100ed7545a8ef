-- Packets read against the grammar, step by step; the order of faults; rows by hand.
mod FaultLemmas
mod PacketLemmas
mod PacketRows
mod ReadLemmas
mod Steps
