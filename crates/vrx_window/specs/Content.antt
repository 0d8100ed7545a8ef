-- What a held packet is, whatever else is kept beside it.
use Rattle.std.specs.Prelude.{ℕ, Bool, true, false, ◌&&◌, nat_le, List, map, Option, Some, None}
use Rattle.std.specs.List.{find}
use Rattle.std.specs.Option.{option_map}
use Rattle.vrx_window.specs.declared.held.Held.{Held}
use Rattle.vrx_window.specs.declared.held.Held.TheVariants as helds
use Rattle.vrx_window.specs.Window.{Contents}

-- a media packet by its text, a FEC packet by its payload, or a packet without a payload
pub data Content : Type 0 where
  Media : (text : List ℕ) → Content
  Fec : (payload : List ℕ) → Content
  Empty : Content

-- what is held, by its content
abbrev pub content_of : Held → Content
content_of (helds.Media text marker ts start key layers) = Media text
content_of (helds.Empty marker) = Empty
content_of (helds.Fec payload) = Fec payload

-- a map of held packets, by their contents
abbrev pub contents : List (ℕ × Held) → List (ℕ × Content)
contents entries = map (λ entry. (entry.0, content_of entry.1)) entries

-- a window of held packets, by their contents: all else is the same
abbrev pub contents_of : Contents Held → Contents Content
contents_of window = record {
  newest = window.newest;
  first = window.first;
  packets = contents window.packets;
  dead = window.dead;
}

-- what is held is a FEC packet
abbrev pub is_fec : Held → Bool
is_fec (helds.Media text marker ts start key layers) = false
is_fec (helds.Empty marker) = false
is_fec (helds.Fec payload) = true

-- a FEC packet is held, if anything is
abbrev pub is_fec_held : Option Held → Bool
is_fec_held None = false
is_fec_held (Some held) = is_fec held

-- the least number from one on under which a FEC packet is held, of a map from numbers in their order
abbrev pub next_fec : ℕ → List (ℕ × Held) → Option ℕ
next_fec from packets =
    option_map (λ entry. entry.0) (find (λ entry. nat_le from entry.0 && is_fec entry.1) packets)
