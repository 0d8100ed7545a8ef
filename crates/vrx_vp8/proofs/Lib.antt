-- Descriptors read, and payloads written and read again; rows by hand.
mod DescriptorLemmas
mod WrittenLemmas
mod Rows
