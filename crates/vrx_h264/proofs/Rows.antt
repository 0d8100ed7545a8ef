-- Payloads of H.264, their faults and how they join, on rows worked by hand.
use Rattle.std.specs.Prelude.{◌≡◌, ℕ, true, false, List, [], ◌∷◌, map, refl, None, Result, Ok, Err}
use Rattle.vrx_codec.specs.Part.{Part}
use Rattle.vrx_codec.specs.declared.fault.JoinFault.{JoinFault}
use Rattle.vrx_codec.specs.declared.fault.PartFault.{PartFault}
use Rattle.vrx_codec.specs.declared.part.Start.TheVariants.{Yes, ByNeighbour}
use Rattle.vrx_h264.specs.declared.faults.TheConstants.{EMPTY, KIND, STAP_PAST_END, STAP_ZERO, FU_SHORT, FU_BOTH, FU_NO_START, FU_NO_END, FU_MIXED}
use Rattle.vrx_h264.specs.AccessUnit.{h264}
use Rattle.vrx_h264.specs.Aggregate.{units_of}
use Rattle.vrx_h264.specs.Payload.{Whole, Cut, pieces, part_with, read_part}

-- the parts that payloads are, joined
abbrev joined : List (List ℕ) → Result (List ℕ) JoinFault
joined payloads = h264.join (map (λ payload. part_with payload (pieces payload)) payloads)

-- why a payload isn't read
abbrev refused : ℕ → ℕ → Result Part PartFault
refused code at = Err (record { code = code; at = at })

abbrev not_joined : ℕ → Result (List ℕ) JoinFault
not_joined code = Err (record { code = code })

-- ---- one unit (RFC 6184 5.6)

-- 65b1: an IDR slice, of type 5
idr_alone : read_part (0x65 ∷ 0xb1 ∷ [])
    ≡ Ok (record { start = ByNeighbour; key = true; layers = None; body = 0x65 ∷ 0xb1 ∷ [] })
idr_alone = refl

idr_joined : joined ((0x65 ∷ 0xb1 ∷ []) ∷ []) ≡ Ok (0 ∷ 0 ∷ 0 ∷ 1 ∷ 0x65 ∷ 0xb1 ∷ [])
idr_joined = refl

-- 61b1: another slice, of type 1
slice_alone : read_part (0x61 ∷ 0xb1 ∷ [])
    ≡ Ok (record { start = ByNeighbour; key = false; layers = None; body = 0x61 ∷ 0xb1 ∷ [] })
slice_alone = refl

-- ---- several units (RFC 6184 5.7.1)

-- 78 0002 6742 0002 68ce: a sequence and a picture parameter set
abbrev sets : List ℕ
sets = 0x78 ∷ 0 ∷ 2 ∷ 0x67 ∷ 0x42 ∷ 0 ∷ 2 ∷ 0x68 ∷ 0xce ∷ []

sets_carried : pieces sets ≡ Whole (0x67 ∷ 0x42 ∷ []) ∷ Whole (0x68 ∷ 0xce ∷ []) ∷ []
unfolding units_of
sets_carried = refl

sets_read : read_part sets ≡ Ok (record { start = Yes; key = false; layers = None; body = sets })
unfolding units_of
sets_read = refl

sets_joined : joined (sets ∷ []) ≡ Ok (0 ∷ 0 ∷ 0 ∷ 1 ∷ 0x67 ∷ 0x42 ∷ 0 ∷ 0 ∷ 0 ∷ 1 ∷ 0x68 ∷ 0xce ∷ [])
unfolding units_of
sets_joined = refl

-- ---- fragments (RFC 6184 5.8)

-- 7c85b1 has S and 7c45b2 has E, of the IDR slice 65b1b2
abbrev front_cut : List ℕ
front_cut = 0x7c ∷ 0x85 ∷ 0xb1 ∷ []

abbrev back_cut : List ℕ
back_cut = 0x7c ∷ 0x45 ∷ 0xb2 ∷ []

front_carried : pieces front_cut ≡ Cut (record { indicator = 0x7c; header = 0x85; octets = 0xb1 ∷ [] }) ∷ []
front_carried = refl

front_read : read_part front_cut ≡ Ok (record { start = ByNeighbour; key = true; layers = None; body = front_cut })
front_read = refl

cuts_joined : joined (front_cut ∷ back_cut ∷ []) ≡ Ok (0 ∷ 0 ∷ 0 ∷ 1 ∷ 0x65 ∷ 0xb1 ∷ 0xb2 ∷ [])
cuts_joined = refl

-- ---- why a payload isn't read

no_octet : read_part [] ≡ refused EMPTY 0
no_octet = refl

-- 00 and 19: the types 0 and 25. 7c80: a fragment of type 0. 78 0001 00: a unit of type 0
payload_of_type_0 : read_part (0 ∷ []) ≡ refused KIND 0
payload_of_type_0 = refl

payload_of_type_25 : read_part (0x19 ∷ []) ≡ refused KIND 0
payload_of_type_25 = refl

cut_of_type_0 : read_part (0x7c ∷ 0x80 ∷ []) ≡ refused KIND 1
cut_of_type_0 = refl

unit_of_type_0 : read_part (0x78 ∷ 0 ∷ 1 ∷ 0 ∷ []) ≡ refused KIND 3
unfolding units_of
unit_of_type_0 = refl

-- 78: no unit. 78 0002 6742 00: half of a size. 78 0002 6742 0003 68ce: a unit of two octets that says three
no_unit : read_part (0x78 ∷ []) ≡ refused STAP_PAST_END 1
unfolding units_of
no_unit = refl

half_a_size : read_part (0x78 ∷ 0 ∷ 2 ∷ 0x67 ∷ 0x42 ∷ 0 ∷ []) ≡ refused STAP_PAST_END 5
unfolding units_of
half_a_size = refl

unit_past_end : read_part (0x78 ∷ 0 ∷ 2 ∷ 0x67 ∷ 0x42 ∷ 0 ∷ 3 ∷ 0x68 ∷ 0xce ∷ []) ≡ refused STAP_PAST_END 5
unfolding units_of
unit_past_end = refl

-- 78 0002 6742 0000: a size of 0
size_of_zero : read_part (0x78 ∷ 0 ∷ 2 ∷ 0x67 ∷ 0x42 ∷ 0 ∷ 0 ∷ []) ≡ refused STAP_ZERO 5
unfolding units_of
size_of_zero = refl

-- 7c: no header. 7cc5b1: S and E
no_header : read_part (0x7c ∷ []) ≡ refused FU_SHORT 1
no_header = refl

both_ends : read_part (0x7c ∷ 0xc5 ∷ 0xb1 ∷ []) ≡ refused FU_BOTH 1
both_ends = refl

-- ---- why parts don't join

back_first : joined (back_cut ∷ []) ≡ not_joined FU_NO_START
back_first = refl

front_last : joined (front_cut ∷ []) ≡ not_joined FU_NO_END
front_last = refl

front_again : joined (front_cut ∷ front_cut ∷ []) ≡ not_joined FU_NO_END
front_again = refl

unit_between : joined (front_cut ∷ (0x61 ∷ 0xb1 ∷ []) ∷ back_cut ∷ []) ≡ not_joined FU_NO_END
unit_between = refl

-- 7c41b2: the end of a unit of type 1
other_type : joined (front_cut ∷ (0x7c ∷ 0x41 ∷ 0xb2 ∷ []) ∷ []) ≡ not_joined FU_MIXED
other_type = refl
