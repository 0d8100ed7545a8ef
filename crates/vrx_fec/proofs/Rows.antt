-- FEC payloads (RFC 5109 7 to 9) on rows worked by hand.
use Rattle.std.specs.Prelude.{◌≡◌, ℕ, true, false, List, [], ◌∷◌, ◌++◌, refl, Ok, Err}
use Rattle.vrx_fec.specs.declared.fault.FecFaultKind.TheVariants.{Short, ManyLevels, LevelPastEnd, NotNested, NoneProtected, AheadOfSelf}
use Rattle.vrx_fec.specs.declared.register.RecoverFault.TheVariants.{NotCovered}
use Rattle.vrx_fec.specs.Mask.{offsets}
use Rattle.vrx_fec.specs.Payload.{Payload, octets_of}
use Rattle.vrx_fec.specs.Reading.{fault, reading}
use Rattle.vrx_fec.specs.Rebuilt.{covered, rebuilt}

-- texts of the source 10 with timestamp 0 and of type 96: number 2 with 00bb, 3 with 00cccd, and 4 with the marker
-- and 00dd
abbrev text2 : List ℕ
text2 = 0x80 ∷ 0x60 ∷ 0 ∷ 2 ∷ 0 ∷ 0 ∷ 0 ∷ 0 ∷ 0 ∷ 0 ∷ 0 ∷ 10 ∷ 0 ∷ 0xbb ∷ []

abbrev text3 : List ℕ
text3 = 0x80 ∷ 0x60 ∷ 0 ∷ 3 ∷ 0 ∷ 0 ∷ 0 ∷ 0 ∷ 0 ∷ 0 ∷ 0 ∷ 10 ∷ 0 ∷ 0xcc ∷ 0xcd ∷ []

abbrev text4 : List ℕ
text4 = 0x80 ∷ 0xe0 ∷ 0 ∷ 4 ∷ 0 ∷ 0 ∷ 0 ∷ 0 ∷ 0 ∷ 0 ∷ 0 ∷ 10 ∷ 0 ∷ 0xdd ∷ []

-- ---- two packets, of which one is lost

-- 00000002 00000000 0001 0003c000 0077cd: over 2 and 3
abbrev head5 : List ℕ
head5 = 0 ∷ 0 ∷ 0 ∷ 2 ∷ 0 ∷ 0 ∷ 0 ∷ 0 ∷ 0 ∷ 1 ∷ []

abbrev fec5 : Payload
fec5 = record {
  head = head5;
  long = false;
  base = 2;
  levels = record { mask = 0xc000; octets = 0 ∷ 0x77 ∷ 0xcd ∷ [] } ∷ [];
}

read5 : reading (head5 ++ 0 ∷ 3 ∷ 0xc0 ∷ 0 ∷ 0 ∷ 0x77 ∷ 0xcd ∷ []) 5 ≡ Ok fec5
read5 = refl

spelled5 : octets_of fec5 ≡ head5 ++ 0 ∷ 3 ∷ 0xc0 ∷ 0 ∷ 0 ∷ 0x77 ∷ 0xcd ∷ []
spelled5 = refl

rebuilt3 : rebuilt fec5 ((0, text2) ∷ []) 1 10 ≡ Ok text3
rebuilt3 = refl

rebuilt2 : rebuilt fec5 ((1, text3) ∷ []) 0 10 ≡ Ok text2
rebuilt2 = refl

-- 00800003 00000000 0001 0003c000 0011cd: over 3 and 4, of which one has the marker
abbrev head6 : List ℕ
head6 = 0 ∷ 0x80 ∷ 0 ∷ 3 ∷ 0 ∷ 0 ∷ 0 ∷ 0 ∷ 0 ∷ 1 ∷ []

abbrev fec6 : Payload
fec6 = record {
  head = head6;
  long = false;
  base = 3;
  levels = record { mask = 0xc000; octets = 0 ∷ 0x11 ∷ 0xcd ∷ [] } ∷ [];
}

read6 : reading (head6 ++ 0 ∷ 3 ∷ 0xc0 ∷ 0 ∷ 0 ∷ 0x11 ∷ 0xcd ∷ []) 6 ≡ Ok fec6
read6 = refl

rebuilt4 : rebuilt fec6 ((0, text3) ∷ []) 1 10 ≡ Ok text4
rebuilt4 = refl

-- ---- two levels

-- 00800001 00000000 0000 0002c000 10b1 00038000 a1a2a3: level 0 has two octets of 1 and of 2, level 1 three of 1
abbrev head3 : List ℕ
head3 = 0 ∷ 0x80 ∷ 0 ∷ 1 ∷ 0 ∷ 0 ∷ 0 ∷ 0 ∷ 0 ∷ 0 ∷ []

abbrev fec3 : Payload
fec3 = record {
  head = head3;
  long = false;
  base = 1;
  levels = record { mask = 0xc000; octets = 0x10 ∷ 0xb1 ∷ [] }
      ∷ record { mask = 0x8000; octets = 0xa1 ∷ 0xa2 ∷ 0xa3 ∷ [] } ∷ [];
}

read3 : reading (head3 ++ 0 ∷ 2 ∷ 0xc0 ∷ 0 ∷ 0x10 ∷ 0xb1 ∷ 0 ∷ 3 ∷ 0x80 ∷ 0 ∷ 0xa1 ∷ 0xa2 ∷ 0xa3 ∷ []) 3 ≡ Ok fec3
read3 = refl

-- number 1 with 1000a1a2a3, and number 2 with the marker and 00b1b2b3b4
abbrev text_of_1 : List ℕ
text_of_1 = 0x80 ∷ 0x60 ∷ 0 ∷ 1 ∷ 0 ∷ 0 ∷ 0 ∷ 0 ∷ 0 ∷ 0 ∷ 0 ∷ 10 ∷ 0x10 ∷ 0 ∷ 0xa1 ∷ 0xa2 ∷ 0xa3 ∷ []

abbrev text_of_2 : List ℕ
text_of_2 = 0x80 ∷ 0xe0 ∷ 0 ∷ 2 ∷ 0 ∷ 0 ∷ 0 ∷ 0 ∷ 0 ∷ 0 ∷ 0 ∷ 10 ∷ 0 ∷ 0xb1 ∷ 0xb2 ∷ 0xb3 ∷ 0xb4 ∷ []

-- 2 has five octets after its header, and two of them are covered; all five of 1 are
covered2 : covered fec3 1 ≡ 2
covered2 = refl

not_covered : rebuilt fec3 ((0, text_of_1) ∷ []) 1 10 ≡ Err NotCovered
not_covered = refl

rebuilt1 : rebuilt fec3 ((1, text_of_2) ∷ []) 0 10 ≡ Ok text_of_1
rebuilt1 = refl

-- ---- a long mask

-- 40e00001 00000bb8 0003 0003 000000000001 1001bb: bit 47 of 48 names the number 48
abbrev head49 : List ℕ
head49 = 0x40 ∷ 0xe0 ∷ 0 ∷ 1 ∷ 0 ∷ 0 ∷ 0x0b ∷ 0xb8 ∷ 0 ∷ 3 ∷ []

abbrev fec49 : Payload
fec49 = record {
  head = head49;
  long = true;
  base = 1;
  levels = record { mask = 1; octets = 0x10 ∷ 1 ∷ 0xbb ∷ [] } ∷ [];
}

read49 : reading (head49 ++ 0 ∷ 3 ∷ 0 ∷ 0 ∷ 0 ∷ 0 ∷ 0 ∷ 1 ∷ 0x10 ∷ 1 ∷ 0xbb ∷ []) 49 ≡ Ok fec49
read49 = refl

spelled49 : octets_of fec49 ≡ head49 ++ 0 ∷ 3 ∷ 0 ∷ 0 ∷ 0 ∷ 0 ∷ 0 ∷ 1 ∷ 0x10 ∷ 1 ∷ 0xbb ∷ []
spelled49 = refl

offsets49 : offsets true 1 ≡ 47 ∷ []
offsets49 = refl

-- number 48 with the marker, timestamp 3,000 and 1001bb
abbrev text48 : List ℕ
text48 = 0x80 ∷ 0xe0 ∷ 0 ∷ 48 ∷ 0 ∷ 0 ∷ 0x0b ∷ 0xb8 ∷ 0 ∷ 0 ∷ 0 ∷ 10 ∷ 0x10 ∷ 1 ∷ 0xbb ∷ []

rebuilt48 : rebuilt fec49 [] 47 10 ≡ Ok text48
rebuilt48 = refl

-- ---- faults

-- no octet, and one
short0 : reading [] 1 ≡ Err (fault Short 0)
short0 = refl

short1 : reading (0 ∷ []) 1 ≡ Err (fault Short 1)
short1 = refl

-- the long mask's payload without its last octet
cut : reading (head49 ++ 0 ∷ 3 ∷ 0 ∷ 0 ∷ 0 ∷ 0 ∷ 0 ∷ 1 ∷ 0x10 ∷ 1 ∷ []) 50 ≡ Err (fault LevelPastEnd 10)
cut = refl

-- nine levels without octets
many : reading (head5 ++ 0 ∷ 0 ∷ 0xc0 ∷ 0 ∷ 0 ∷ 0 ∷ 0xc0 ∷ 0 ∷ 0 ∷ 0 ∷ 0xc0 ∷ 0 ∷ 0 ∷ 0 ∷ 0xc0 ∷ 0 ∷ 0 ∷ 0 ∷ 0xc0 ∷ 0
    ∷ 0 ∷ 0 ∷ 0xc0 ∷ 0 ∷ 0 ∷ 0 ∷ 0xc0 ∷ 0 ∷ 0 ∷ 0 ∷ 0xc0 ∷ 0 ∷ 0 ∷ 0 ∷ 0xc0 ∷ 0 ∷ []) 5 ≡ Err (fault ManyLevels 42)
many = refl

-- level 1 names offset 2, which level 0 doesn't; that nothing is read of it after its mask is a fault before that
not_nested : reading (head5 ++ 0 ∷ 1 ∷ 0xc0 ∷ 0 ∷ 7 ∷ 0 ∷ 0 ∷ 0x20 ∷ 0 ∷ []) 5 ≡ Err (fault NotNested 15)
not_nested = refl

past_end_first : reading (head5 ++ 0 ∷ 1 ∷ 0xc0 ∷ 0 ∷ 7 ∷ 0 ∷ 1 ∷ 0x20 ∷ 0 ∷ []) 5 ≡ Err (fault LevelPastEnd 15)
past_end_first = refl

-- no level, and one that names nothing
none : reading head5 5 ≡ Err (fault NoneProtected 10)
none = refl

names_none : reading (head5 ++ 0 ∷ 0 ∷ 0 ∷ 0 ∷ []) 5 ≡ Err (fault NoneProtected 10)
names_none = refl

-- 2 and 3 are protected: by 4, and not by 3, by 2, nor by the number that is half of the numbers beyond 2
ahead_least : reading (head5 ++ 0 ∷ 0 ∷ 0xc0 ∷ 0 ∷ []) 4
    ≡ Ok (record fec5 { levels = record { mask = 0xc000; octets = [] } ∷ [] })
ahead_least = refl

ahead3 : reading (head5 ++ 0 ∷ 0 ∷ 0xc0 ∷ 0 ∷ []) 3 ≡ Err (fault AheadOfSelf 2)
ahead3 = refl

ahead2 : reading (head5 ++ 0 ∷ 0 ∷ 0xc0 ∷ 0 ∷ []) 2 ≡ Err (fault AheadOfSelf 2)
ahead2 = refl

ahead_half : reading (head5 ++ 0 ∷ 0 ∷ 0xc0 ∷ 0 ∷ []) 32770 ≡ Err (fault AheadOfSelf 2)
ahead_half = refl

ahead_below_half : reading (head5 ++ 0 ∷ 0 ∷ 0xc0 ∷ 0 ∷ []) 32769
    ≡ Ok (record fec5 { levels = record { mask = 0xc000; octets = [] } ∷ [] })
ahead_below_half = refl
