-- An honest call in which the packets come in every form, worked by hand: in RED, sent again, in RED and sent again,
-- and as they are; and an empty packet in RED with a block without octets, and without a block.
use Rattle.std.proofs.Common.{◌≡◌, ℕ, true, false, List, [], ◌∷◌, None, inl, inr, refl, arith}
use Rattle.vrx_rtp.specs.Packet.{Packet}
use Rattle.vrx_wrap.specs.Red.{red_of}
use Rattle.vrx_wrap.specs.Rtx.{rtx_of}
use Rattle.vrx_repair.specs.Plan.{repairs_in}
use Rattle.vrx_core.specs.machine.Machine.{Reply, ToDatagram, ToPull, replies, reply, snapshots}
use Rattle.vrx_core.specs.honest.Sender.{Media, Empty}
use Rattle.vrx_core.specs.honest.WireForm.{InRed, Again, RedAgain, bare_red, IsEmptyPacket, IsWireForm}
use Rattle.vrx_core.specs.honest.HonestNetwork.{Origin, FromSender, Elsewhere, HonestNetwork, packets_taken}
use Rattle.vrx_core.specs.declared.event.Event.{Event}
use Rattle.vrx_core.specs.declared.event.Event.TheVariants.{Datagram, Pull}
use Rattle.vrx_core.specs.declared.reply.What.{What}
use Rattle.vrx_core.specs.declared.reply.What.TheVariants as what
use Rattle.vrx_core.specs.declared.reply.What.TheVariants.{Dropped}
use Rattle.vrx_core.specs.declared.reply.Reason.TheVariants.{Repeat}
use Rattle.vrx_core.specs.declared.reply.Pulled.TheVariants.{Frame}
use Rattle.vrx_rows.proofs.NeighbourRows.{codec, settings, sender, first_text, second_text, third_text, fourth_text, first_part, second_part, third_part, fourth_part, empty_packet, carry, plain_form}

-- the first packet in RED: type 97, and the block of type 96
abbrev first_red : List ℕ
first_red = 128 ∷ 225 ∷ 0 ∷ 1 ∷ 0 ∷ 0 ∷ 0 ∷ 0 ∷ 0 ∷ 0 ∷ 0 ∷ 10 ∷ 96 ∷ 5 ∷ 170 ∷ []

first_in_red : IsWireForm settings 1 (Media 0 0 first_text) first_red
first_in_red =
    let wire : Packet = red_of 97 first_part.packet in (
      first_part.packet,
      refl,
      record { how = InRed; wire = wire; travels = refl; carries = carry first_red wire refl refl refl },
    )

-- the second packet sent again: type 98, under the number 7 of the source 12, and the packet's own number 2
abbrev second_rtx : List ℕ
second_rtx = 128 ∷ 98 ∷ 0 ∷ 7 ∷ 0 ∷ 0 ∷ 0 ∷ 9 ∷ 0 ∷ 0 ∷ 0 ∷ 12 ∷ 0 ∷ 2 ∷ 5 ∷ 187 ∷ []

second_again : IsWireForm settings 2 (Media 1 0 second_text) second_rtx
second_again =
    let wire : Packet = rtx_of 98 12 7 second_part.packet in (
      second_part.packet,
      refl,
      record { how = Again 7; wire = wire; travels = refl; carries = carry second_rtx wire refl refl refl },
    )

-- the third packet in RED and sent again: type 99, with two octets of padding
abbrev third_red_rtx : List ℕ
third_red_rtx =
    160 ∷ 227 ∷ 0 ∷ 8 ∷ 0 ∷ 0 ∷ 0 ∷ 9 ∷ 0 ∷ 0 ∷ 0 ∷ 12 ∷ 0 ∷ 3 ∷ 96 ∷ 204 ∷ 0 ∷ 2 ∷ []

third_red_again : IsWireForm settings 3 (Media 1 1 third_text) third_red_rtx
third_red_again =
    let wire : Packet = rtx_of 99 12 8 (red_of 97 third_part.packet) in (
      third_part.packet,
      refl,
      record {
        how = RedAgain 8;
        wire = wire;
        travels = refl;
        carries = carry third_red_rtx (record wire { padding = 2 }) refl refl refl;
      },
    )

-- the empty packet in RED without a block, in RED with a block without octets, and the first of these sent again
abbrev empty_bare : List ℕ
empty_bare = 128 ∷ 97 ∷ 0 ∷ 4 ∷ 0 ∷ 0 ∷ 0 ∷ 9 ∷ 0 ∷ 0 ∷ 0 ∷ 10 ∷ []

abbrev empty_red : List ℕ
empty_red = 128 ∷ 97 ∷ 0 ∷ 4 ∷ 0 ∷ 0 ∷ 0 ∷ 9 ∷ 0 ∷ 0 ∷ 0 ∷ 10 ∷ 96 ∷ []

abbrev empty_bare_rtx : List ℕ
empty_bare_rtx = 128 ∷ 99 ∷ 0 ∷ 9 ∷ 0 ∷ 0 ∷ 0 ∷ 9 ∷ 0 ∷ 0 ∷ 0 ∷ 12 ∷ 0 ∷ 4 ∷ []

empty_is : IsEmptyPacket settings 4 empty_packet
empty_is = record { number_is = refl; type = refl; source = refl; payload = refl }

empty_without_block : IsWireForm settings 4 Empty empty_bare
empty_without_block =
    let wire : Packet = bare_red 97 empty_packet in (
      empty_packet,
      empty_is,
      inr (record { how = InRed; wire = wire; travels = refl; carries = carry empty_bare wire refl refl refl }),
    )

empty_in_red : IsWireForm settings 4 Empty empty_red
empty_in_red =
    let wire : Packet = red_of 97 empty_packet in (
      empty_packet,
      empty_is,
      inl (record { how = InRed; wire = wire; travels = refl; carries = carry empty_red wire refl refl refl }),
    )

empty_again : IsWireForm settings 4 Empty empty_bare_rtx
empty_again =
    let wire : Packet = rtx_of 99 12 9 (bare_red 97 empty_packet) in (
      empty_packet,
      empty_is,
      inr (record {
        how = RedAgain 9;
        wire = wire;
        travels = refl;
        carries = carry empty_bare_rtx wire refl refl refl;
      }),
    )

-- the last packet as it is
fourth_plain : IsWireForm settings 5 (Media 2 0 fourth_text) fourth_text
fourth_plain = (
  fourth_part.packet,
  refl,
  plain_form fourth_text fourth_part.packet (carry fourth_text fourth_part.packet refl refl refl),
)

abbrev events : List Event
events = Datagram 0 first_red ∷ Datagram 1 second_rtx ∷ Datagram 2 third_red_rtx ∷ Datagram 3 empty_bare
    ∷ Datagram 3 empty_red ∷ Datagram 3 empty_bare_rtx ∷ Pull 4 ∷ Datagram 5 fourth_text ∷ Pull 6 ∷ []

abbrev origins : List Origin
origins = FromSender 0 ∷ FromSender 1 ∷ FromSender 2 ∷ FromSender 3 ∷ FromSender 3 ∷ FromSender 3 ∷ Elsewhere
    ∷ FromSender 4 ∷ Elsewhere ∷ []

-- the network is honest
pub network-honest : HonestNetwork settings codec sender [] [] events origins
unfolding repairs_in snapshots packets_taken
network-honest = (
  (first_in_red, tt),
  tt,
  (
    (second_again, (omega arith, omega arith)),
    tt,
    (
      (third_red_again, (omega arith, omega arith)),
      tt,
      (
        (empty_without_block, (omega arith, omega arith)),
        tt,
        (
          (empty_in_red, (omega arith, omega arith)),
          tt,
          (
            (empty_again, (omega arith, omega arith)),
            tt,
            (tt, tt, ((fourth_plain, (omega arith, omega arith)), tt, (tt, tt, tt))),
          ),
        ),
      ),
    ),
  ),
)

-- the reply to a datagram
abbrev answered : What → Reply
answered what = ToDatagram (record { what = what; repaired = []; feedback = record { nack = None; pli = None } })

-- each packet is taken under its own number, as if it came as it is, and the frames are those that were sent
pub frames_pulled : replies settings codec [] events
    ≡ answered (what.Media 65537) ∷ answered (what.Media 65538) ∷ answered (what.Media 65539) ∷ answered
    (what.Empty 65540)
    ∷ answered (Dropped Repeat) ∷ answered (Dropped Repeat)
    ∷ ToPull (Frame (record { first = 65538; last = 65539; ts = 9; key = true; bytes = 5 ∷ 187 ∷ 204 ∷ [] }))
    ∷ answered (what.Media 65541) ∷ ToPull
    (Frame (record { first = 65541; last = 65541; ts = 18; key = false; bytes = 221 ∷ [] })) ∷ []
unfolding repairs_in replies reply snapshots
frames_pulled = refl
