-- Payloads read and written, unit by unit; access units joined; rows by hand.
mod AccessUnitLemmas
mod PayloadLemmas
mod Rows
mod UnitsLemmas
mod WrittenLemmas
