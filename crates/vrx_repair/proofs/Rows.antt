-- Repairs, evaluated on small examples worked by hand.
use Rattle.std.proofs.Common.{◌≡◌, ℕ, List, [], ◌∷◌, Some, None, Ok, refl}
use Rattle.std.specs.Prelude.{◌==◌, slice_index}
use Rattle.std.specs.List.{flat_map}
use Rattle.vrx_codec.specs.Meaning.{Meaning}
use Rattle.vrx_codec.specs.declared.part.Start.TheVariants.{Yes}
use Rattle.vrx_window.specs.Content.{Content, Media, Fec, Empty}
use Rattle.vrx_repair.specs.Source.{Source}
use Rattle.vrx_repair.specs.Step.{Packets, first_step, repairs}

-- a codec that reads each payload
abbrev codec : Meaning
codec = record {
  read = λ payload. Ok (record { start = Yes; key = slice_index payload 0 == 1; layers = None; body = payload });
  join = λ parts. Ok (flat_map (λ part. part.body) parts);
}

abbrev source : Source
source = record { ssrc = 10; media_type = 96; codec = codec }

-- Media of the numbers 1 to 4: what they have after their first twelve octets is 00 aa, 00 bb, 00 cc cd and 00 dd.
abbrev packet : ℕ → ℕ → List ℕ → List ℕ
packet marker_and_type n octets = 128 ∷ marker_and_type ∷ 0 ∷ n ∷ 0 ∷ 0 ∷ 0 ∷ 0 ∷ 0 ∷ 0 ∷ 0 ∷ 10 ∷ octets

abbrev text1 : Content
text1 = Media (packet 96 1 (16 ∷ 0 ∷ 170 ∷ []))

abbrev text2 : Content
text2 = Media (packet 96 2 (0 ∷ 187 ∷ []))

abbrev text3 : Content
text3 = Media (packet 96 3 (0 ∷ 204 ∷ 205 ∷ []))

abbrev text4 : Content
text4 = Media (packet 224 4 (0 ∷ 221 ∷ []))

-- FEC packets over 2 and 3, and over 3 and 4
abbrev fec5 : Content
fec5 = Fec (0 ∷ 0 ∷ 0 ∷ 2 ∷ 0 ∷ 0 ∷ 0 ∷ 0 ∷ 0 ∷ 1 ∷ 0 ∷ 3 ∷ 192 ∷ 0 ∷ 0 ∷ 119 ∷ 205 ∷ [])

abbrev fec6 : Content
fec6 = Fec (0 ∷ 128 ∷ 0 ∷ 3 ∷ 0 ∷ 0 ∷ 0 ∷ 0 ∷ 0 ∷ 1 ∷ 0 ∷ 3 ∷ 192 ∷ 0 ∷ 0 ∷ 17 ∷ 205 ∷ [])

-- 2 comes: 3 is rebuilt from 2, and then 4 from 3
abbrev with_two : Packets
with_two = (65537, text1) ∷ (65538, text2) ∷ (65541, fec5) ∷ (65542, fec6) ∷ []

closes : repairs source (Some 65542) [] 3 with_two ≡ (65539, text3) ∷ (65540, text4) ∷ []
closes = refl

-- without it neither has a step: both lack two
waits : first_step source (Some 65542) [] ((65537, text1) ∷ (65541, fec5) ∷ (65542, fec6) ∷ []) ≡ None
waits = refl

-- 3 was given up, or has left the window: no step
given_up : first_step source (Some 65542) (65539 ∷ []) with_two ≡ None
given_up = refl

left : first_step source (Some 67587) [] with_two ≡ None
left = refl

-- beside an empty packet that the mask names there is no step, nor beside a FEC packet
beside_empty : first_step source (Some 65542) [] ((65538, Empty) ∷ (65541, fec5) ∷ []) ≡ None
beside_empty = refl

beside_fec : first_step source (Some 65542) [] ((65538, fec6) ∷ (65541, fec5) ∷ []) ≡ None
beside_fec = refl

-- number 2 has 5 octets, level 0 protects 2, and level 1 protects number 1 alone: not covered
abbrev uncovered : Packets
uncovered = (65537, Media (packet 96 1 (16 ∷ 0 ∷ 161 ∷ 162 ∷ 163 ∷ [])))
    ∷ (65539, Fec (0 ∷ 128 ∷ 0 ∷ 1 ∷ 0 ∷ 0 ∷ 0 ∷ 0 ∷ 0 ∷ 0 ∷ 0 ∷ 2 ∷ 192 ∷ 0 ∷ 0 ∷ 11 ∷ 0 ∷ 3 ∷ 128 ∷ 0 ∷ 161 ∷ 162 ∷ 163 ∷ []))
    ∷ []

not_covered : first_step source (Some 65539) [] uncovered ≡ None
not_covered = refl

-- 49 protects 48 alone, by bit 47 of a long mask
abbrev fec49 : List ℕ → Content
fec49 parity = Fec (64 ∷ 224 ∷ 0 ∷ 1 ∷ 0 ∷ 0 ∷ 11 ∷ 184 ∷ 0 ∷ 3 ∷ 0 ∷ 3 ∷ 0 ∷ 0 ∷ 0 ∷ 0 ∷ 0 ∷ 1 ∷ parity)

long_mask : first_step source (Some 65585) [] ((65537, text1) ∷ (65585, fec49 (16 ∷ 1 ∷ 187 ∷ [])) ∷ [])
    ≡ Some (65584, Media (128 ∷ 224 ∷ 0 ∷ 48 ∷ 0 ∷ 0 ∷ 11 ∷ 184 ∷ 0 ∷ 0 ∷ 0 ∷ 10 ∷ 16 ∷ 1 ∷ 187 ∷ []))
long_mask = refl

-- the same cut by an octet doesn't read: no step
cut : first_step source (Some 65585) [] ((65537, text1) ∷ (65585, fec49 (16 ∷ 1 ∷ [])) ∷ []) ≡ None
cut = refl

-- two FEC packets that contradict each other: the one with the lesser number goes first, whatever the other says
abbrev contradicted : Packets
contradicted = (65538, text2) ∷ (65541, fec5)
    ∷ (65542, Fec (0 ∷ 0 ∷ 0 ∷ 2 ∷ 0 ∷ 0 ∷ 0 ∷ 0 ∷ 0 ∷ 1 ∷ 0 ∷ 3 ∷ 192 ∷ 0 ∷ 0 ∷ 118 ∷ 205 ∷ [])) ∷ []

least_first : repairs source (Some 65542) [] 2 contradicted ≡ (65539, text3) ∷ []
least_first = refl

-- what is rebuilt is no media: its type is 97, or it has padding, or no payload
other_type : first_step source (Some 65541) []
    ((65538, text2) ∷ (65541, Fec (0 ∷ 1 ∷ 0 ∷ 2 ∷ 0 ∷ 0 ∷ 0 ∷ 0 ∷ 0 ∷ 1 ∷ 0 ∷ 3 ∷ 192 ∷ 0 ∷ 0 ∷ 119 ∷ 205 ∷ [])) ∷ []) ≡ None
other_type = refl

padded : first_step source (Some 65541) []
    ((65538, text2) ∷ (65541, Fec (32 ∷ 0 ∷ 0 ∷ 2 ∷ 0 ∷ 0 ∷ 0 ∷ 0 ∷ 0 ∷ 1 ∷ 0 ∷ 3 ∷ 192 ∷ 0 ∷ 0 ∷ 119 ∷ 1 ∷ [])) ∷ []) ≡ None
padded = refl

without_payload : first_step source (Some 65541) []
    ((65538, text2) ∷ (65541, Fec (0 ∷ 0 ∷ 0 ∷ 2 ∷ 0 ∷ 0 ∷ 0 ∷ 0 ∷ 0 ∷ 2 ∷ 0 ∷ 3 ∷ 192 ∷ 0 ∷ 0 ∷ 119 ∷ 205 ∷ [])) ∷ []) ≡ None
without_payload = refl
