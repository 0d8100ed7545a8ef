-- The shape of a packet: all of it that decides which numbers lie together.
use Rattle.std.specs.Option.{option_map_or}
use Rattle.vrx_codec.specs.Meaning.{Meaning}
use Rattle.vrx_window.specs.Content.{Content}
use Rattle.vrx_frames.specs.Run.{Piece, piece_of}
use Rattle.vrx_frames.specs.declared.shape.Shape.{Shape}
use Rattle.vrx_frames.specs.declared.shape.Shape.TheVariants as shapes

-- the shape of a piece: its timestamp, its marker, and what its payload says of the start of its frame
abbrev pub piece_shape : Piece → Shape
piece_shape piece = shapes.Media piece.packet.ts piece.packet.marker piece.part.start

-- the shape of a content: that of its piece, if it is media that reads as a packet and a part, and else no media
abbrev pub shape_of : Meaning → Content → Shape
shape_of codec content = option_map_or piece_shape (piece_of codec 0 content) shapes.Other
