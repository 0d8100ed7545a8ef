-- The plan of a packet: what its arrival rebuilds.
use Rattle.std.specs.Prelude.{◌≡◌, ◌≢◌, ℕ, ◌≤◌, List, [], length, map, All, Some, Ok, IfSome}
use Rattle.vrx_num.specs.declared.limits.TheConstants.{MOST_OCTETS, WINDOW}
use Rattle.vrx_rtp.specs.Packet.{Packet}
use Rattle.vrx_rtp.specs.Reading.{read}
use Rattle.vrx_codec.specs.Joining.{FitsLayers}
use Rattle.vrx_codec.specs.Meaning.{Meaning}
use Rattle.vrx_codec.specs.Part.{Part}
use Rattle.vrx_window.specs.Content.{Content, Media, contents_of}
use Rattle.vrx_window.specs.Window.{Contents, after_placing, would_of}
use Rattle.vrx_window.specs.declared.held.Held.{Held}
use Rattle.vrx_window.specs.declared.placing.Placing.TheVariants.{Fresh}
use Rattle.vrx_repair.specs.Source.{Source}
use Rattle.vrx_repair.specs.Step.{Packets, AreRepairs, IsClosed, repairs, with_repairs}
use Rattle.vrx_repair.specs.declared.repair.Repair.{Repair}

-- the repair as an entry: the text under its number
abbrev pub entry_of : Repair → ℕ × Content
entry_of repair = (repair.number, Media repair.text)

abbrev pub entries_of : List Repair → List (ℕ × Content)
entries_of made = map entry_of made

-- the numbers of repairs
abbrev pub numbers_of : List Repair → List ℕ
numbers_of made = map (λ repair. repair.number) made

-- What stands beside a repair's text is what the text says, as the codec reads it. The text isn't too long, it has no
-- padding, and its payload isn't empty. Its layers fit their bits.
pub record SaysItsText (codec : Meaning) (repair : Repair) : Type 0 where
  pub packet : Packet
  pub part : Part
  pub size : length repair.text ≤ MOST_OCTETS
  pub reads : read repair.text ≡ Some packet
  pub unpadded : packet.padding ≡ 0
  pub marker_is : packet.marker ≡ repair.marker
  pub ts_is : packet.ts ≡ repair.ts
  pub payload : packet.payload ≢ []
  pub part_reads : codec.read packet.payload ≡ Ok part
  pub start_is : part.start ≡ repair.start
  pub key_is : part.key ≡ repair.key
  pub layers_are : part.layers ≡ repair.layers
  pub layers_fit : IfSome part.layers FitsLayers

-- the window after a packet was placed, by contents
abbrev pub placed : ℕ → Held → Contents Held → Contents Content
placed n held window = contents_of (after_placing n held window)

-- the repairs of a window that is seen by its contents: at most as many as it has numbers
unfoldable pub repairs_in : Source → Contents Content → List (ℕ × Content)
repairs_in source window = repairs source window.newest window.dead WINDOW window.packets

-- THE PLAN of a packet beside a window in which its number is fresh: the repairs of the window in which it is placed,
-- each with what its text says
pub record IsPlan (source : Source) (n : ℕ) (held : Held) (window : Contents Held) (plan : List Repair) : Type 0 where
  pub fresh : would_of window n ≡ Fresh
  pub repairs : entries_of plan ≡ repairs_in source (placed n held window)
  pub sound : All (SaysItsText source.codec) plan

-- some source's plan
abbrev pub IsPlanned : ℕ → Held → Contents Held → List Repair → Type 0
IsPlanned n held window plan = (source : Source) × IsPlan source n held window plan

-- the packets that a plan sees: those of the window in which its packet is placed, and the repairs that were made
abbrev pub packets_seen : ℕ → Held → Contents Held → List Repair → Packets
packets_seen n held window made = with_repairs (entries_of made) (placed n held window).packets

-- A window after the repairs were made: just these packets were added, each the step of the least number that had
-- one, and no step is left.
pub record IsRepaired (source : Source) (made : List (ℕ × Content)) (before after : Contents Content) : Type 0 where
  pub newest : after.newest ≡ before.newest
  pub first : after.first ≡ before.first
  pub dead : after.dead ≡ before.dead
  pub packets : after.packets ≡ with_repairs made before.packets
  pub are_repairs : AreRepairs source before.newest before.dead before.packets made
  pub closed : IsClosed source after.newest after.dead after.packets
