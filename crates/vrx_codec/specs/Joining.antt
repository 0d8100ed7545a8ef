-- How a codec joins parts one after the other, and what that has to do with what it means.
use Rattle.std.specs.Prelude.{◌≡◌, ℕ, ◌+◌, ◌*◌, ◌<◌, ◌≤◌, List, [], ◌∷◌, ◌++◌, length, None, IfSome, Result, Ok, Err}
use Rattle.vrx_codec.specs.Part.{Part}
use Rattle.vrx_codec.specs.declared.part.Layers.{Layers}
use Rattle.vrx_codec.specs.declared.fault.JoinFault.{JoinFault}
use Rattle.vrx_codec.specs.Meaning.{Meaning}
use Rattle.vrx_codec.specs.declared.join.Join.{Join}
use Rattle.vrx_num.specs.Octets.{AreOctets}

-- what a part makes of what was joined before it, how many octets were joined in the end, and which octets a part
-- adds
pub record Joining : Type 0 where
  pub step : Join → Part → Result Join JoinFault
  pub end : Join → Result ℕ JoinFault
  pub adds : Join → Part → List ℕ

-- joining begins so: no unit is open, and there are no octets
abbrev pub beginning : Join
beginning = record { unit = None; octets = 0 }

-- no more octets, if the end is right
abbrev pub end_octets : Result ℕ JoinFault → Result (List ℕ) JoinFault
end_octets (Ok octets) = Ok []
end_octets (Err fault) = Err fault

-- these octets, and what is joined after them
abbrev pub with_octets : List ℕ → Result (List ℕ) JoinFault → Result (List ℕ) JoinFault
with_octets front (Ok octets) = Ok (front ++ octets)
with_octets front (Err fault) = Err fault

-- what comes next, if there was no fault
abbrev pub and_then : Result Join JoinFault → (Join → Result (List ℕ) JoinFault) → Result (List ℕ) JoinFault
and_then (Ok state) next = next state
and_then (Err fault) next = Err fault

-- the octets that the parts add one after the other, from a state on
abbrev pub join_from : Joining → List Part → Join → Result (List ℕ) JoinFault
join_from joining [] state = end_octets (joining.end state)
join_from joining (part ∷ parts) state =
    and_then (joining.step state part) (λ next. with_octets (joining.adds state part) (join_from joining parts next))

-- the part that some payload reads as
pub record IsPartRead (meaning : Meaning) (part : Part) : Type 0 where
  pub payload : List ℕ
  pub octets : AreOctets payload
  pub reads : meaning.read payload ≡ Ok part

-- a picture has 15 bits, and a temporal layer two (RFC 7741 4.2)
abbrev pub FitsLayers : Layers → Type 0
FitsLayers layers = (layers.picture < 32768) × (layers.tid < 4)

-- a part of a payload: its body has at most as many octets, and its layers fit
abbrev pub IsWithin : List ℕ → Part → Type 0
IsWithin payload part = (length part.body ≤ length payload) × IfSome part.layers FitsLayers

-- a step raises the octets by exactly those that the part adds, which are at most five times those of its body
abbrev pub Raises : Joining → Join → Part → Join → Type 0
Raises joining state part next =
    let added : ℕ = length (joining.adds state part) in
    (next.octets ≡ state.octets + added) × (added ≤ 5 * length part.body)
