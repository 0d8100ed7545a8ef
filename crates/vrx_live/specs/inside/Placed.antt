-- How the texts of the workers come to their places.
use Rattle.std.specs.Prelude.{ℕ, List, [], ◌∷◌, set}
use Rattle.vrx_live.specs.declared.pieces.Piece.{Piece}
use Rattle.vrx_live.specs.declared.printed.Text.{Text}

-- a text, as contracts see it
abbrev pub told : Text → ℕ × List ℕ
told text = (text.k, text.octets.items)

-- no text yet
abbrev pub blank : ℕ × List ℕ
blank = (0, [])

-- the texts after these pieces were put at their places
abbrev pub placed : List Piece → List (ℕ × List ℕ) → List (ℕ × List ℕ)
placed [] texts = texts
placed (piece ∷ pieces) texts = set (placed pieces texts) piece.place (piece.k, piece.text.items)
