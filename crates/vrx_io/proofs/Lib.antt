-- Counts of faults, and what a sink took.
mod FaultsLemmas
mod SinkLemmas
