-- Numbers and pictures beside the newest one, and rows by hand.
mod ExtendedLemmas
mod ExtendedRows
mod PictureRows
