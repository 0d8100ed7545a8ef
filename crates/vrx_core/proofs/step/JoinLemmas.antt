-- Joining the parts of packets, one after the other.
use Rattle.std.proofs.Common.{◌≡◌, ℕ, ◌-◌, suc, append-nil, ◌+◌, ◌*◌, ◌≤◌, List, [], ◌∷◌, ◌++◌, length, Some, Result, Ok, Err, IfOk, option_map, refl, sym, ◌∙◌, ap, subst, arith, append_assoc}
use Rattle.std.specs.List.{cons_option}
use Rattle.std.specs.Result.{result_ok}
use Rattle.std.proofs.lemmas.List.{length-append}
use Rattle.std.proofs.lemmas.Option.{none-some, same_Some}
use Rattle.vrx_rtp.specs.Packet.{Packet}
use Rattle.vrx_rtp.specs.Reading.{read}
use Rattle.vrx_codec.specs.Part.{Part}
use Rattle.vrx_codec.specs.declared.fault.JoinFault.{JoinFault}
use Rattle.vrx_codec.specs.declared.join.Join.{Join}
use Rattle.vrx_codec.specs.Meaning.{Meaning}
use Rattle.vrx_codec.specs.Joining.{Joining, beginning, end_octets, with_octets, and_then, join_from, Raises}
use Rattle.vrx_window.specs.Content.{Media}
use Rattle.vrx_frames.specs.Run.{Packets, Piece}
use Rattle.vrx_num.specs.OptionChain.{◌>>=◌}
use Rattle.vrx_core.specs.inside.Joins.{join_of}
use Rattle.vrx_frames.specs.Parts.{part_of, part_at, parts_from}

-- a condition of an Ok, of its value
if_ok : {A E : Type 0} (P : A → Type 0) (r : Result A E) (x : A) → r ≡ Ok x → IfOk r P → P x
if_ok P (Ok y) x is p = subst P (same_Some y x (ap result_ok is)) p
if_ok P (Err fault) x is p = absurd (none-some x (ap result_ok is))

-- what has a size has octets
pub octets-of : (r : Result (List ℕ) JoinFault) (n : ℕ) → option_map length (result_ok r) ≡ Some n →
    (octets : List ℕ) × (r ≡ Ok octets) × (length octets ≡ n)
octets-of (Ok octets) n is = (octets, refl, same_Some (length octets) n is)
octets-of (Err fault) n is = absurd (none-some n is)

-- what is joined in front of what is joined
front-front : (out front : List ℕ) (r : Result (List ℕ) JoinFault) →
    with_octets out (with_octets front r) ≡ with_octets (out ++ front) r
front-front out front (Ok octets) = ap Ok (sym (append_assoc out front octets))
front-front out front (Err fault) = refl

-- a result that has a value
record HasValue (r : Result (List ℕ) JoinFault) (out octets : List ℕ) : Type 0 where
  pub rest : List ℕ
  pub is : r ≡ Ok rest
  pub size : length out + length rest ≡ length octets

has_value : (r : Result (List ℕ) JoinFault) (out octets : List ℕ) → with_octets out r ≡ Ok octets →
    HasValue r out octets
has_value (Ok rest) out octets is =
    let same : out ++ rest ≡ octets = same_Some (out ++ rest) octets (ap result_ok is) in
    let long : length (out ++ rest) ≡ length out + length rest = length-append out rest in
    let size : length (out ++ rest) ≡ length octets = ap length same in
    record { rest = rest; is = refl; size = omega arith }
has_value (Err fault) out octets is = absurd (none-some octets (ap result_ok is))

module _ (joining : Joining) where
  -- the law that a part raises the octets
  abbrev RaisesLaw : Type 0
  RaisesLaw = (state : Join) (part : Part) → IfOk (joining.step state part) (λ next. Raises joining state part next)

  pub raised : RaisesLaw → (state : Join) (part : Part) (next : Join) → joining.step state part ≡ Ok next →
      Raises joining state part next
  raised law state part next steps =
      if_ok (λ n. Raises joining state part n) (joining.step state part) next steps (law state part)

  -- so a small body raises them by little
  pub raised-few : RaisesLaw → (state : Join) (part : Part) (next : Join) (i : ℕ) →
      joining.step state part ≡ Ok next → length part.body ≤ 9216 → state.octets ≤ 46080 * i →
      next.octets ≤ 46080 * (i + 1)
  raised-few law state part next i steps small few =
      let r : Raises joining state part next = raised law state part next steps in
      let sum : next.octets ≡ state.octets + length (joining.adds state part) = r.0 in
      let most : length (joining.adds state part) ≤ 5 * length part.body = r.1 in
      omega arith

  -- if parts join after octets, the first of them does
  pub record Joins (state : Join) (part : Part) (parts : List Part) (out octets : List ℕ) : Type 0 where
    pub next : Join
    pub steps : joining.step state part ≡ Ok next
    pub rest : with_octets (out ++ joining.adds state part) (join_from joining parts next) ≡ Ok octets
    pub room : length out + length (joining.adds state part) ≤ length octets

  pub joins-first : (state : Join) (part : Part) (parts : List Part) (out octets : List ℕ) →
      with_octets out (join_from joining (part ∷ parts) state) ≡ Ok octets → Joins state part parts out octets
  joins-first state part parts out octets is = either (joining.step state part) refl where
    either : (r : Result Join JoinFault) → joining.step state part ≡ r → Joins state part parts out octets
    either (Ok next) steps =
        let front : with_octets out (with_octets (joining.adds state part) (join_from joining parts next))
        ≡ Ok octets = sym (ap (λ r.
        with_octets out (and_then r (λ s. with_octets (joining.adds state part) (join_from joining parts s))))
        steps) ∙ is in
        let rest : with_octets (out ++ joining.adds state part) (join_from joining parts next) ≡ Ok octets =
        sym (front-front out (joining.adds state part) (join_from joining parts next)) ∙ front in
        let value : HasValue (join_from joining parts next) (out ++ joining.adds state part) octets =
        has_value (join_from joining parts next) (out ++ joining.adds state part) octets rest in
        let long : length (out ++ joining.adds state part) ≡ length out + length (joining.adds state part) =
        length-append out (joining.adds state part) in
        let size : length (out ++ joining.adds state part) + length value.rest ≡ length octets = value.size in
        record { next = next; steps = steps; rest = rest; room = omega arith }
    either (Err fault) steps =
        absurd (none-some octets
        (ap result_ok (sym (ap (λ r.
        with_octets out (and_then r (λ s. with_octets (joining.adds state part) (join_from joining parts s)))) steps)
        ∙ is)))

  -- the next step is the one that is known
  pub next-step : (state : Join) (part : Part) (a b : Join) → joining.step state part ≡ Ok a →
      joining.step state part ≡ Ok b → a ≡ b
  next-step state part a b is same = same_Some a b (ap result_ok (sym is ∙ same))

-- one part more in front
pub parts-next : (codec : Meaning) (packets : Packets) (n count more : ℕ) (part : Part) →
    part_at codec packets n ≡ Some part → count ≡ suc more →
    parts_from codec packets n count ≡ part ∷ parts_from codec packets (n + 1) more
parts-next codec packets n count more part is same =
    ap (λ k. parts_from codec packets n k) same ∙ ap (λ o. cons_option o (parts_from codec packets (n + 1) more)) is

-- the part of its text
pub part_of-text : (codec : Meaning) (text : List ℕ) (packet : Packet) (part : Part) → read text ≡ Some packet →
    codec.read packet.payload ≡ Ok part → part_of codec (Media text) ≡ Some part
part_of-text codec text packet part reads part_reads =
    ap (λ o. option_map (λ (p : Piece). p.part)
    (o >>= λ q. result_ok (codec.read q.payload) >>= λ x. Some (made q x))) reads
    ∙ ap (λ r. option_map (λ (p : Piece). p.part) (result_ok r >>= λ x. Some (made packet x))) part_reads where
      made : Packet → Part → Piece
      made q x = record { number = 0; packet = q; part = x }

-- no part is left
parts-none : (codec : Meaning) (packets : Packets) (n count : ℕ) → count ≡ 0 → parts_from codec packets n count ≡ []
parts-none codec packets n count none = ap (λ k. parts_from codec packets n k) none

-- what stands before a right end is all
end_octets-all : (r : Result ℕ JoinFault) (out octets : List ℕ) → with_octets out (end_octets r) ≡ Ok octets →
    ◌≡◌ {A = Result (List ℕ) JoinFault} (Ok octets) (Ok out)
end_octets-all (Ok n) out octets is = sym is ∙ ap Ok (append-nil out)
end_octets-all (Err fault) out octets is = absurd (none-some octets (ap result_ok is))

-- what is joined once no part is left
pub all-join_from : (joining : Joining) (codec : Meaning) (packets : Packets) (first last n count : ℕ) (state : Join)
    (out : List ℕ) (size : ℕ)
    → ((ps : List Part) → join_from joining ps beginning ≡ codec.join ps) →
    option_map length (result_ok (join_of codec packets first last)) ≡ Some size → count ≡ 0
    → with_octets out (join_from joining (parts_from codec packets n count) state) ≡ join_from joining
    (parts_from codec packets first (last + 1 - first)) beginning
    → join_of codec packets first last ≡ Ok out
all-join_from joining codec packets first last n count state out size law sized none is =
    let all : (octets : List ℕ) × (join_of codec packets first last ≡ Ok octets) × (length octets ≡ size) =
    octets-of (join_of codec packets first last) size sized in
    let left : with_octets out (end_octets (joining.end state)) ≡ Ok all.0 =
    sym (ap (λ ps. with_octets out (join_from joining ps state)) (parts-none codec packets n count none)) ∙ is
    ∙ law (parts_from codec packets first (last + 1 - first)) ∙ all.1 in
    all.1 ∙ end_octets-all (joining.end state) out all.0 left

-- the part under a number joins, and so do those after it
pub join-here : (joining : Joining) (codec : Meaning) (packets : Packets) (first last n count more : ℕ) (state : Join)
    (part : Part) (out : List ℕ) (size : ℕ)
    → ((ps : List Part) → join_from joining ps beginning ≡ codec.join ps) →
    option_map length (result_ok (join_of codec packets first last)) ≡ Some size
    → part_at codec packets n ≡ Some part → count ≡ suc more
    → with_octets out (join_from joining (parts_from codec packets n count) state) ≡ join_from joining
    (parts_from codec packets first (last + 1 - first)) beginning
    → (octets : List ℕ) × (join_of codec packets first last ≡ Ok octets) × (length octets ≡ size)
    × Joins joining state part (parts_from codec packets (n + 1) more) out octets
join-here joining codec packets first last n count more state part out size law sized part_is one is =
    let all : (octets : List ℕ) × (join_of codec packets first last ≡ Ok octets) × (length octets ≡ size) =
    octets-of (join_of codec packets first last) size sized in (
      all.0,
      all.1,
      all.2,
      joins-first joining state part (parts_from codec packets (n + 1) more) out all.0
          (sym (ap (λ ps. with_octets out (join_from joining ps state))
          (parts-next codec packets n count more part part_is one)) ∙ is
          ∙ law (parts_from codec packets first (last + 1 - first)) ∙ all.1),
    )
