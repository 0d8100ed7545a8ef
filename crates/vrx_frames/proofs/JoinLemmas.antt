-- Joining the parts of packets, one after the other.
use Rattle.std.proofs.Common.{◌≡◌, ℕ, suc, Bool, true, false, ◌||◌, Option, None, ◌+◌, ◌*◌, ◌≤◌, List, ◌∷◌, ◌++◌, length, Some, Result, Ok, Err, IfOk, option_map, refl, sym, ◌∙◌, ap, subst, arith}
use Rattle.std.specs.List.{cons_option}
use Rattle.std.specs.Result.{result_ok}
use Rattle.std.proofs.lemmas.List.{length-append}
use Rattle.std.proofs.lemmas.Option.{none-some, same_Some}
use Rattle.vrx_codec.specs.Part.{Part}
use Rattle.vrx_codec.specs.declared.fault.JoinFault.{JoinFault}
use Rattle.vrx_codec.specs.declared.join.Join.{Join}
use Rattle.vrx_codec.specs.Meaning.{Meaning}
use Rattle.vrx_codec.specs.Joining.{Joining, beginning, with_octets, and_then, join_from, Raises}
use Rattle.vrx_window.specs.Content.{Media, content_of, contents}
use Rattle.vrx_window.specs.Window.{at}
use Rattle.vrx_window.specs.Sound.{SaysItsText, AreSound}
use Rattle.vrx_window.specs.declared.held.Held.{Held}
use Rattle.vrx_window.specs.declared.held.Held.TheVariants as helds
use Rattle.vrx_rtp.specs.Packet.{Packet}
use Rattle.vrx_rtp.specs.Reading.{read}
use Rattle.vrx_codec.specs.declared.part.Start.{Start}
use Rattle.vrx_codec.specs.declared.run.Place.{Place}
use Rattle.std.specs.Option.{option_and_then}
use Rattle.vrx_frames.specs.Run.{Packets, Piece}
use Rattle.vrx_num.specs.OptionChain.{◌>>=◌}
use Rattle.vrx_frames.specs.Judging.{octets_of, says_key}
use Rattle.vrx_frames.specs.Parts.{part_of, part_at, parts_from}
use Rattle.vrx_frames.proofs.MapLemmas.{at_map}

-- how many octets, with so many before them
abbrev pub sized : ℕ → Result (List ℕ) JoinFault → Result ℕ JoinFault
sized k (Ok octets) = Ok (k + length octets)
sized k (Err fault) = Err fault

-- a list's length is its size with none before
pub length-sized : (r : Result (List ℕ) JoinFault) → option_map length (result_ok r) ≡ result_ok (sized 0 r)
length-sized (Ok octets) = ap Some (omega arith)
length-sized (Err fault) = refl

-- a condition of an Ok, of its value
if_ok : {A E : Type 0} (P : A → Type 0) (r : Result A E) (x : A) → r ≡ Ok x → IfOk r P → P x
if_ok P (Ok y) x is p = subst P (same_Some y x (ap result_ok is)) p
if_ok P (Err fault) x is p = absurd (none-some x (ap result_ok is))

-- what has a size has octets
pub octets-of : (r : Result (List ℕ) JoinFault) (n : ℕ) → option_map length (result_ok r) ≡ Some n →
    (octets : List ℕ) × (r ≡ Ok octets) × (length octets ≡ n)
octets-of (Ok octets) n is = (octets, refl, same_Some (length octets) n is)
octets-of (Err fault) n is = absurd (none-some n is)

-- octets in front count before
sized-front : (k m : ℕ) (front : List ℕ) (r : Result (List ℕ) JoinFault) → m ≡ k + length front →
    sized k (with_octets front r) ≡ sized m r
sized-front k m front (Ok octets) is = let long : length (front ++ octets) ≡ length front + length octets =
    length-append front octets in ap Ok (omega arith)
sized-front k m front (Err fault) is = refl

module _ (joining : Joining) where
  -- a part that joins
  pub sum-next : (state : Join) (part : Part) (parts : List Part) (next : Join) → joining.step state part ≡ Ok next →
      next.octets ≡ state.octets + length (joining.adds state part) →
      sized state.octets (join_from joining (part ∷ parts) state) ≡ sized next.octets (join_from joining parts next)
  sum-next state part parts next steps raises =
      ap (λ r. sized state.octets
      (and_then r (λ s. with_octets (joining.adds state part) (join_from joining parts s)))) steps
      ∙ sized-front state.octets next.octets (joining.adds state part) (join_from joining parts next) raises

  -- the law that a part raises the octets
  abbrev RaisesLaw : Type 0
  RaisesLaw = (state : Join) (part : Part) → IfOk (joining.step state part) (λ next. Raises joining state part next)

  pub raised : RaisesLaw → (state : Join) (part : Part) (next : Join) → joining.step state part ≡ Ok next →
      Raises joining state part next
  raised law state part next steps =
      if_ok (λ n. Raises joining state part n) (joining.step state part) next steps (law state part)

  -- so a small body raises them by little
  pub raised-few : RaisesLaw → (state : Join) (part : Part) (next : Join) (i : ℕ) →
      joining.step state part ≡ Ok next → length part.body ≤ 9216 → state.octets ≤ 46080 * i →
      next.octets ≤ 46080 * (i + 1)
  raised-few law state part next i steps small few =
      let r : Raises joining state part next = raised law state part next steps in
      let sum : next.octets ≡ state.octets + length (joining.adds state part) = r.0 in
      let most : length (joining.adds state part) ≤ 5 * length part.body = r.1 in
      omega arith

-- one part more in front
pub parts-next : (codec : Meaning) (packets : Packets) (n count more : ℕ) (part : Part) →
    part_at codec packets n ≡ Some part → count ≡ suc more →
    parts_from codec packets n count ≡ part ∷ parts_from codec packets (n + 1) more
parts-next codec packets n count more part is same =
    ap (λ k. parts_from codec packets n k) same ∙ ap (λ o. cons_option o (parts_from codec packets (n + 1) more)) is

-- what a sound media packet says
pub says-soundly : (codec : Meaning) (packets : List (ℕ × Held)) (n : ℕ) (text : List ℕ) (marker : Bool) (ts : ℕ)
    (start : Start) (key : Bool) (layers : Option Place) → AreSound codec packets →
    at n packets ≡ Some (helds.Media text marker ts start key layers) →
    SaysItsText codec text marker ts start key layers
says-soundly codec packets n text marker ts start key layers sound is =
    sound n (helds.Media text marker ts start key layers) is

-- the part of its text
pub part_of-text : (codec : Meaning) (text : List ℕ) (packet : Packet) (part : Part) → read text ≡ Some packet →
    codec.read packet.payload ≡ Ok part → part_of codec (Media text) ≡ Some part
part_of-text codec text packet part reads part_reads =
    ap (λ o. option_map (λ (p : Piece). p.part)
    (o >>= λ q. result_ok (codec.read q.payload) >>= λ x. Some (made q x))) reads
    ∙ ap (λ r. option_map (λ (p : Piece). p.part) (result_ok r >>= λ x. Some (made packet x))) part_reads where
      made : Packet → Part → Piece
      made q x = record { number = 0; packet = q; part = x }

-- what stands under a number, by its content
pub at-contents : (packets : List (ℕ × Held)) (n : ℕ) → at n (contents packets) ≡ option_map content_of (at n packets)
at-contents packets n = at_map content_of n packets

-- the part of a number
pub part_at-text : (codec : Meaning) (packets : List (ℕ × Held)) (n : ℕ) (held : Held) (text : List ℕ) (part : Part) →
    at n packets ≡ Some held → content_of held ≡ Media text → part_of codec (Media text) ≡ Some part →
    part_at codec (contents packets) n ≡ Some part
part_at-text codec packets n held text part is content part_is =
    ap (option_and_then (part_of codec)) (at-contents packets n ∙ ap (option_map content_of) is ∙ ap Some content)
    ∙ part_is

-- a part that doesn't join
pub sum-fails : (joining : Joining) (state : Join) (part : Part) (parts : List Part) (fault : JoinFault) →
    joining.step state part ≡ Err fault → sized state.octets (join_from joining (part ∷ parts) state) ≡ Err fault
sum-fails joining state part parts fault fails =
    ap (λ r. sized state.octets (and_then r (λ s. with_octets (joining.adds state part) (join_from joining parts s))))
    fails

-- the size that all parts have, joined from the beginning on
pub octets-sized : (joining : Joining) (codec : Meaning) (parts : List Part) →
    ((ps : List Part) → join_from joining ps beginning ≡ codec.join ps) →
    result_ok (sized 0 (join_from joining parts beginning)) ≡ octets_of codec parts
octets-sized joining codec parts law =
    sym (length-sized (join_from joining parts beginning)) ∙ ap (λ r. option_map length (result_ok r)) (law parts)

-- the part of a number whose key is known
key-part : (o : Option Part) (key : Bool) → option_map (λ part. part.key) o ≡ Some key →
    (part : Part) × (o ≡ Some part) × (part.key ≡ key)
key-part None key is = absurd (none-some key is)
key-part (Some part) key is = (part, refl, same_Some part.key key is)

-- some part says a keyframe, if the first does
pub key-here : (codec : Meaning) (packets : Packets) (n count more : ℕ) →
    option_map (λ part. part.key) (part_at codec packets n) ≡ Some true → count ≡ suc more →
    says_key (parts_from codec packets n count) ≡ true
key-here codec packets n count more is same =
    let p : (part : Part) × (part_at codec packets n ≡ Some part) × (part.key ≡ true) =
    key-part (part_at codec packets n) true is in
    ap says_key (parts-next codec packets n count more p.0 p.1 same)
    ∙ ap (λ b. b || says_key (parts_from codec packets (n + 1) more)) p.2

-- if the first doesn't, the others decide
pub key-next : (codec : Meaning) (packets : Packets) (n count more : ℕ) →
    option_map (λ part. part.key) (part_at codec packets n) ≡ Some false → count ≡ suc more →
    says_key (parts_from codec packets n count) ≡ says_key (parts_from codec packets (n + 1) more)
key-next codec packets n count more is same =
    let p : (part : Part) × (part_at codec packets n ≡ Some part) × (part.key ≡ false) =
    key-part (part_at codec packets n) false is in
    ap says_key (parts-next codec packets n count more p.0 p.1 same)
    ∙ ap (λ b. b || says_key (parts_from codec packets (n + 1) more)) p.2
