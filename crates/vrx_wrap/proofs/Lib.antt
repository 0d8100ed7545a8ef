-- Pairs of types, what a packet has room for, and originals by their form; rows by hand.
mod FitLemmas
mod Rows
mod RtxLemmas
