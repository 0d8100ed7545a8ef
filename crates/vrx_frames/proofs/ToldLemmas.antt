-- What is kept once a number was told, beside the window that holds its packet.
use Rattle.std.proofs.Common.{◌≡◌, ◌≢◌, ℕ, ◌+◌, ◌-◌, ◌≤◌, ◌⊎◌, Bool, true, false, not, cond, ◌&&◌, ◌||◌, List, [], ◌∷◌, map, Option, Some, None, is_some, nat_cmp, refl, sym, ◌∙◌, ap, arith, inl, inr}
use Rattle.std.specs.Prelude.{nat_lt, ◌==◌}
use Rattle.std.specs.List.{cons_option, filter}
use Rattle.std.specs.Option.{option_map, option_map_or, option_and_then}
use Rattle.std.specs.Result.{result_ok}
use Rattle.std.specs.FinMap.Entries.{put, where_key}
use Rattle.std.proofs.lemmas.Bool.{true≢false, cases_eq, lt-ltb}
use Rattle.std.proofs.lemmas.Option.{none-some, same_Some}
use Rattle.vrx_rtp.specs.Packet.{Packet}
use Rattle.vrx_codec.specs.Part.{Part}
use Rattle.vrx_codec.specs.Meaning.{Meaning}
use Rattle.vrx_codec.specs.declared.part.Start.{Start}
use Rattle.vrx_codec.specs.declared.run.Place.{Place}
use Rattle.vrx_codec.specs.declared.run.Run.{Run as RunSummary}
use Rattle.vrx_window.specs.Content.{Content, Media, content_of, contents}
use Rattle.vrx_window.specs.Numbered.{Numbered, IsNumbered}
use Rattle.vrx_window.specs.Sound.{SaysItsText, IsSound, AreSound}
use Rattle.vrx_window.specs.Window.{at, is_available, is_inside, in_window}
use Rattle.vrx_window.specs.declared.held.Held.{Held as HeldPacket}
use Rattle.vrx_window.specs.declared.held.Held.TheVariants as helds
use Rattle.vrx_frames.specs.Run.{Packets, Piece, begins, ends_frame, is_passed, is_start, piece_of, stands_after_end}
use Rattle.vrx_num.specs.OptionChain.{◌>>=◌}
use Rattle.vrx_frames.specs.IsRun.{IsPiece}
use Rattle.vrx_frames.specs.Shape.{piece_shape, shape_of}
use Rattle.vrx_frames.specs.Completed.{AreStill, Completes, Known, is_among, known_packets, known_with, shape_at, standing_runs, packets_under}
use Rattle.vrx_frames.specs.Judging.{AnswerFound, AreHeld}
use Rattle.vrx_frames.specs.Parts.{is_media}
use Rattle.vrx_frames.specs.Kept.{IsKept, ends_in, fresh, held_shape, known_of, arrival_with, remember_if, settled_arrival}
use Rattle.vrx_frames.specs.Linked.{ends, ends_at, fact_at, fact_of, fact_with, starts_at}
use Rattle.vrx_frames.specs.declared.shape.Shape.{Shape}
use Rattle.vrx_frames.specs.declared.shape.Shape.TheVariants as shapes
use Rattle.vrx_frames.specs.declared.arrival.Fact.{Fact}
use Rattle.vrx_frames.specs.declared.arrival.Arrival.{Arrival}
use Rattle.vrx_frames.proofs.AroundLemmas.{HasPiece, around, fact_of_piece}
use Rattle.vrx_frames.proofs.CompleteLemmas.{completes}
use Rattle.vrx_frames.proofs.JoinLemmas.{at-contents}
use Rattle.vrx_frames.proofs.KeptLemmas.{in-upto, now-here, now-other, or-true, or-when, settled, under-cases, was}
use Rattle.vrx_frames.proofs.MapLemmas.{among-keys, at_map, at_put, at_where, filter-keys, same-map, sorted-map, sorted-put, sorted-where}
use Rattle.vrx_frames.proofs.StartLemmas.{begins-grows, fact-grows, same-bool, same-start, starts_of}

-- the piece of a sound text
piece-sound : (codec : Meaning) (text : List ℕ) (marker : Bool) (ts : ℕ) (start : Start) (key : Bool)
    (layers : Option Place) (n : ℕ) (s : SaysItsText codec text marker ts start key layers) →
    piece_of codec n (Media text) ≡ Some (record { number = n; packet = s.packet; part = s.part })
piece-sound codec text marker ts start key layers n s =
    ap (λ o. o >>= λ q. result_ok (codec.read q.payload) >>= λ x. Some (made q x)) s.reads
    ∙ ap (λ r. result_ok r >>= λ x. Some (made s.packet x)) s.part_reads where
      made : Packet → Part → Piece
      made q x = record { number = n; packet = q; part = x }

-- the shape of a sound packet's content
pub shape-sound : (codec : Meaning) (held : HeldPacket) → IsSound codec held →
    shape_of codec (content_of held) ≡ held_shape held
shape-sound codec (helds.Media text marker ts start key layers) s =
    ap (λ o. option_map_or piece_shape o shapes.Other) (piece-sound codec text marker ts start key layers 0 s)
    ∙ ap (λ t. shapes.Media t s.packet.marker s.part.start) s.ts_is
    ∙ ap (λ m. shapes.Media ts m s.part.start) s.marker_is ∙ ap (λ x. shapes.Media ts marker x) s.start_is
shape-sound codec (helds.Empty marker) s = refl
shape-sound codec (helds.Fec payload) s = refl

-- whether a frame begins after it
ends-sound : (codec : Meaning) (held : HeldPacket) → IsSound codec held →
    ends_frame (content_of held) ≡ ends (held_shape held)
ends-sound codec (helds.Media text marker ts start key layers) s =
    ap (λ o. option_map_or (λ packet. packet.marker) o false) s.reads ∙ s.marker_is
ends-sound codec (helds.Empty marker) s = refl
ends-sound codec (helds.Fec payload) s = refl

or-grows : (a b c : Bool) → (b ≡ true → c ≡ true) → (a || b) ≡ true → (a || c) ≡ true
or-grows true b c so h = refl
or-grows false b c so h = so h

-- what is there, by cases
packet-cases : (o : Option HeldPacket) → (o ≡ None) ⊎ ((held : HeldPacket) × (o ≡ Some held))
packet-cases None = inl refl
packet-cases (Some held) = inr (held, refl)

-- the shape of what was told
abbrev shapes_of : List (ℕ × Arrival) → List (ℕ × Shape)
shapes_of entries = map (λ entry. (entry.0, entry.1.shape)) entries

at-shapes : (entries : List (ℕ × Arrival)) (n : ℕ) →
    at n (shapes_of entries) ≡ option_map (λ told. told.shape) (at n entries)
at-shapes entries n = at_map (λ (told : Arrival). told.shape) n entries

available-shapes : (entries : List (ℕ × Arrival)) (n : ℕ) →
    is_available n (shapes_of entries) ≡ is_available n entries
available-shapes entries n = ap is_some (at-shapes entries n) ∙ either (at n entries) where
  either : (o : Option Arrival) → is_some (option_map (λ (told : Arrival). told.shape) o) ≡ is_some o
  either None = refl
  either (Some told) = refl

-- what is known under a number
at-known_packets : (entries : List (ℕ × Arrival)) (packets : Packets) (n : ℕ) →
    at n (packets_under (shapes_of entries) packets) ≡ cond (is_available n entries) (at n packets) None
at-known_packets entries packets n = at_where (λ m. is_available m (shapes_of entries)) n packets
    ∙ ap (λ b. cond b (at n packets) None) (available-shapes entries n)

-- whether a number began, by what is kept
abbrev began_at : List (ℕ × Arrival) → ℕ → Bool
began_at entries n = option_map_or (λ (told : Arrival). told.began) (at n entries) false

module _ (codec : Meaning) (held : List (ℕ × HeldPacket)) (newest n : ℕ) (shape : Shape) (earlier passed : Option ℕ)
    (old ring : Numbered Arrival) (here : HeldPacket)
    (sound : AreSound codec held)
    (inside_all : (m : ℕ) → is_available m held ≡ true → in_window newest m ≡ true)
    (is_here : at n held ≡ Some here) (shape_here : shape ≡ held_shape here)
    (kept : IsKept old)
    (absent : is_available n (known_of earlier old).arrivals ≡ false)
    (still : AreStill codec (Some newest) (contents held) (known_of earlier old).arrivals)
    (newest_is : ring.newest ≡ Some newest)
    (entries : (m : ℕ) → at m ring.entries ≡ settled_arrival newest n shape old.entries m)
    (numbered : IsNumbered ring) where
  abbrev packets : Packets
  packets = contents held

  -- what stands under numbers before they are remembered
  abbrev now : ℕ → Option Arrival
  now = arrival_with newest n shape old.entries

  inside : in_window newest n ≡ true
  inside = inside_all n (ap is_some is_here)

  -- what stands under a number afterwards
  record Stood (m : ℕ) (told : Arrival) : Type 0 where
    pub before : Arrival
    pub is : now m ≡ Some before
    pub told_is : told ≡ remember_if (ends_in now (m - 1)) before

  stood : (m : ℕ) (told : Arrival) → at m ring.entries ≡ Some told → Stood m told
  stood m told is = elim (under-cases (now m)) [
    | inl none ↦ absurd (none-some told
        (sym (entries m ∙ ap (option_map (remember_if (ends_in now (m - 1)))) none) ∙ is))
    | inr some ↦ record {
      before = some.0;
      is = some.1;
      told_is =
          same_Some told (remember_if (ends_in now (m - 1)) some.0)
          (sym is ∙ entries m ∙ ap (option_map (remember_if (ends_in now (m - 1)))) some.1);
    }
  ]

  -- the ends of frames are the same
  ends-ring : (m : ℕ) → ends_at ring.entries m ≡ ends_in now m
  ends-ring m =
      ap (λ o. option_map_or (λ (told : Arrival). ends told.shape) o false) (entries m) ∙ either (now m) where
        either : (o : Option Arrival) →
            option_map_or (λ (told : Arrival). ends told.shape)
            (option_map (remember_if (ends_in now (m - 1))) o) false
            ≡ option_map_or (λ (told : Arrival). ends told.shape) o false
        either None = refl
        either (Some told) = refl

  -- each number that stands after the end of a frame is remembered
  pub stays-kept : IsKept ring
  stays-kept = record {
    numbered = numbered;
    settled = λ m told is behind. remembers m told (stood m told is) (sym (ends-ring (m - 1)) ∙ behind);
  } where
    remembers : (m : ℕ) (told : Arrival) → Stood m told → ends_in now (m - 1) ≡ true → told.began ≡ true
    remembers m told s behind =
        ap (λ (t : Arrival). t.began) s.told_is ∙ ap (λ b. s.before.began || b) behind ∙ or-true s.before.began

  -- nothing stood under the number told
  none-before : at n old.entries ≡ None
  none-before = elim (under-cases (at n old.entries)) [
    | inl none ↦ none
    | inr some ↦ absurd (true≢false (sym (ap is_some some.1) ∙ sym (available-shapes old.entries n) ∙ absent))
  ]

  -- the packet of a number told
  record HasPacket (m : ℕ) (told : Arrival) : Type 0 where
    pub packet : HeldPacket
    pub is : at m held ≡ Some packet
    pub shape_is : held_shape packet ≡ told.shape

  has-before : (m : ℕ) (told : Arrival) → now m ≡ Some told → HasPacket m told
  has-before m told is = elim (cases_eq m n) [
    | inl same ↦ record {
      packet = here;
      is = ap (λ k. at k held) same ∙ is_here;
      shape_is = sym shape_here
          ∙ ap (λ (t : Arrival). t.shape)
          (same_Some (fresh shape) told (sym (now-here newest n shape old kept inside) ∙ ap now (sym same) ∙ is));
    }
    | inr other ↦ let w : (in_window newest m ≡ true) × (at m old.entries ≡ Some told) =
        was newest n shape old kept inside m told other is in
        let e : option_map (shape_of codec) (at m packets) ≡ Some told.shape =
        still m told.shape (at-shapes old.entries m ∙ ap (option_map (λ (t : Arrival). t.shape)) w.1) w.0 in
        elim (packet-cases (at m held)) [
          | inl none ↦ absurd (none-some told.shape
              (sym (ap (option_map (shape_of codec)) (at-contents held m ∙ ap (option_map content_of) none)) ∙ e))
          | inr some ↦ record {
            packet = some.0;
            is = some.1;
            shape_is = sym (shape-sound codec some.0 (sound m some.0 some.1))
                ∙ same_Some (shape_of codec (content_of some.0)) told.shape
                (sym (ap (option_map (shape_of codec)) (at-contents held m ∙ ap (option_map content_of) some.1)) ∙ e);
          }
        ]
  ]

  has-packet : (m : ℕ) (told : Arrival) → at m ring.entries ≡ Some told → HasPacket m told
  has-packet m told is =
      let s : Stood m told = stood m told is in
      let h : HasPacket m s.before = has-before m s.before s.is in
      record { packet = h.packet; is = h.is; shape_is = h.shape_is ∙ sym (ap (λ (t : Arrival). t.shape) s.told_is) }

  -- what is known before and after
  abbrev known_before : Packets
  known_before = known_packets (known_of earlier old) packets

  abbrev known_after : Packets
  known_after = known_packets (known_of passed ring) packets

  -- the packet of a number told, as it is known
  known_packets-there : (m : ℕ) (told : Arrival) → at m ring.entries ≡ Some told → (h : HasPacket m told) →
      at m known_after ≡ Some (content_of h.packet)
  known_packets-there m told is h = at-known_packets ring.entries packets m
      ∙ ap (λ b. cond b (at m packets) None) (ap is_some is) ∙ at-contents held m ∙ ap (option_map content_of) h.is

  known_packets-none : (m : ℕ) → at m ring.entries ≡ None → at m known_after ≡ None
  known_packets-none m none =
      at-known_packets ring.entries packets m ∙ ap (λ b. cond b (at m packets) None) (ap is_some none)

  -- a number that is known was told
  told-if : (m : ℕ) (content : Content) → at m known_after ≡ Some content →
      (told : Arrival) × (at m ring.entries ≡ Some told)
  told-if m content is = elim (under-cases (at m ring.entries)) [
    | inl none ↦ absurd (none-some content (sym (known_packets-none m none) ∙ is))
    | inr some ↦ some
  ]

  -- a number stands after the end of a frame, by what is known and by what is kept
  behind-is : (m : ℕ) (told : Arrival) → at m ring.entries ≡ Some told →
      stands_after_end m known_after ≡ ends_in now (m - 1)
  behind-is m told is =
      ap (λ o. is_some o && option_map_or ends_frame (at (m - 1) known_after) false)
      (known_packets-there m told is (has-packet m told is)) ∙ ended ∙ ends-ring (m - 1) where
        ended : option_map_or ends_frame (at (m - 1) known_after) false ≡ ends_at ring.entries (m - 1)
        ended = elim (under-cases (at (m - 1) ring.entries)) [
          | inl none ↦ ap (λ o. option_map_or ends_frame o false) (known_packets-none (m - 1) none)
              ∙ sym (ap (λ o. option_map_or (λ (t : Arrival). ends t.shape) o false) none)
          | inr some ↦ let h : HasPacket (m - 1) some.0 = has-packet (m - 1) some.0 some.1 in
              ap (λ o. option_map_or ends_frame o false) (known_packets-there (m - 1) some.0 some.1 h)
              ∙ ends-sound codec h.packet (sound (m - 1) h.packet h.is) ∙ ap ends h.shape_is
              ∙ sym (ap (λ o. option_map_or (λ (t : Arrival). ends t.shape) o false) some.1)
        ]

  -- which numbers began
  among-before : (m : ℕ) → is_among (known_of earlier old).began m ≡ began_at old.entries m
  among-before m = among-keys (λ (told : Arrival). told.began) m old.entries kept.numbered.rise

  among-after : (m : ℕ) → is_among (known_of passed ring).began m ≡ began_at ring.entries m
  among-after m = among-keys (λ (told : Arrival). told.began) m ring.entries numbered.rise

  -- what began before
  began-before : (m : ℕ) (told : Arrival) → now m ≡ Some told → began_at old.entries m ≡ told.began
  began-before m told is = elim (cases_eq m n) [
    | inl same ↦ ap (λ o. option_map_or (λ (t : Arrival). t.began) o false)
        (ap (λ k. at k old.entries) same ∙ none-before)
        ∙ ap (λ (t : Arrival). t.began)
        (same_Some (fresh shape) told (sym (now-here newest n shape old kept inside) ∙ ap now (sym same) ∙ is))
    | inr other ↦ ap (λ o. option_map_or (λ (t : Arrival). t.began) o false)
        (was newest n shape old kept inside m told other is).1
  ]

  -- the shapes told, as the definition says
  told-is : shapes_of ring.entries ≡ put nat_cmp n (shape_at codec n packets)
      (where_key nat_cmp (is_inside (Some newest)) (shapes_of old.entries))
  told-is = same-map (shapes_of ring.entries)
      (put nat_cmp n (shape_at codec n packets) (where_key nat_cmp (is_inside (Some newest)) (shapes_of old.entries)))
      (sorted-map (λ (t : Arrival). t.shape) ring.entries ∙ numbered.rise)
      (sorted-put n (shape_at codec n packets) (where_key nat_cmp (is_inside (Some newest)) (shapes_of old.entries))
      (sorted-where (is_inside (Some newest)) (shapes_of old.entries)
      (sorted-map (λ (t : Arrival). t.shape) old.entries ∙ kept.numbered.rise)))
      (λ m. at-shapes ring.entries m ∙ ap (option_map (λ (t : Arrival). t.shape)) (entries m) ∙ shape-now m (now m)
      ∙ pushed (m == n) (in_window newest m) (at m old.entries)
      ∙ sym (at_put m n (shape_at codec n packets)
      (where_key nat_cmp (is_inside (Some newest)) (shapes_of old.entries))
      ∙ ap (cond (m == n) (Some (shape_at codec n packets)))
      (at_where (is_inside (Some newest)) m (shapes_of old.entries)
      ∙ ap (λ o. cond (in_window newest m) o None) (at-shapes old.entries m)))) where
        shape-now : (m : ℕ) (o : Option Arrival) →
            option_map (λ (t : Arrival). t.shape) (option_map (remember_if (ends_in now (m - 1))) o) ≡ option_map
            (λ (t : Arrival). t.shape) o
        shape-now m None = refl
        shape-now m (Some t) = refl

        told-shape : shape_at codec n packets ≡ shape
        told-shape = ap (λ o. option_map_or (shape_of codec) o shapes.Other)
            (at-contents held n ∙ ap (option_map content_of) is_here) ∙ shape-sound codec here (sound n here is_here)
            ∙ sym shape_here

        pushed : (a b : Bool) (o : Option Arrival) →
            option_map (λ (t : Arrival). t.shape) (cond a (Some (fresh shape)) (cond b o None)) ≡ cond a
            (Some (shape_at codec n packets)) (cond b (option_map (λ (t : Arrival). t.shape) o) None)
        pushed true b o = ap Some (sym told-shape)
        pushed false true o = refl
        pushed false false o = refl

  -- the numbers that began, of these shapes
  abbrev began_of : List (ℕ × Shape) → List ℕ
  began_of told = filter (λ m.
      is_among (known_of earlier old).began m || stands_after_end m (packets_under told packets))
      (map (λ entry. entry.0) told)

  abbrev made_of : List (ℕ × Shape) → List ℕ → Option ℕ → Known
  made_of told began top = record { arrivals = told; began = began; newest = top; passed = passed }

  -- and so are the numbers that began
  pub known_packets-is : known_of passed ring ≡ known_with codec (Some newest) n passed packets (known_of earlier old)
  known_packets-is = by_fields (shapes_of ring.entries) told-is refl where
    numbers-same : (es : List (ℕ × Arrival)) → map (λ entry. entry.0) (shapes_of es) ≡ map (λ entry. entry.0) es
    numbers-same [] = refl
    numbers-same (e ∷ es) = ap (λ ks. e.0 ∷ ks) (numbers-same es)

    began-is : (m : ℕ) (told : Arrival) → at m ring.entries ≡ Some told →
        told.began ≡ (is_among (known_of earlier old).began m || stands_after_end m known_after)
    began-is m told is =
        let s : Stood m told = stood m told is in
        ap (λ (t : Arrival). t.began) s.told_is
        ∙ ap (λ b. b || ends_in now (m - 1)) (sym (among-before m ∙ began-before m s.before s.is))
        ∙ ap (λ b. is_among (known_of earlier old).began m || b) (sym (behind-is m told is))

    all_began : (known_of passed ring).began ≡ began_of (shapes_of ring.entries)
    all_began = filter-keys (λ (told : Arrival). told.began)
        (λ m. is_among (known_of earlier old).began m || stands_after_end m known_after) ring.entries numbered.rise
        began-is
        ∙ ap (filter (λ m. is_among (known_of earlier old).began m || stands_after_end m known_after))
        (sym (numbers-same ring.entries))

    by_fields : (told : List (ℕ × Shape)) →
        told ≡ put nat_cmp n (shape_at codec n packets)
        (where_key nat_cmp (is_inside (Some newest)) (shapes_of old.entries)) → told ≡ shapes_of ring.entries →
        known_of passed ring ≡ known_with codec (Some newest) n passed packets (known_of earlier old)
    by_fields told e f =
        ap (λ ks. made_of (shapes_of ring.entries) ks ring.newest) all_began
        ∙ ap (made_of (shapes_of ring.entries) (began_of (shapes_of ring.entries))) newest_is
        ∙ ap (λ es. made_of es (began_of es) (Some newest)) (sym f ∙ e)

  -- a number told media is held media
  pub are-held : AreHeld (fact_at passed ring.entries) held
  are-held m fact is = elim (under-cases (at m ring.entries)) [
    | inl none ↦ absurd (none-some fact (sym (ap (option_and_then (fact_of passed m)) none) ∙ is))
    | inr some ↦ let h : HasPacket m some.0 = has-packet m some.0 some.1 in
        ap is_media h.is ∙ media some.0.began h.packet
        (ap (fact_with passed m some.0.began) h.shape_is ∙ sym (ap (option_and_then (fact_of passed m)) some.1) ∙ is)
  ] where
    media : (began : Bool) (packet : HeldPacket) → fact_with passed m began (held_shape packet) ≡ Some fact →
        is_media (Some packet) ≡ true
    media began (helds.Media text marker ts start key layers) e = refl
    media began (helds.Empty marker) e = absurd (none-some fact e)
    media began (helds.Fec payload) e = absurd (none-some fact e)

  -- the tests of starts before and after
  abbrev starts_before : Piece → Bool
  starts_before = is_start passed (is_among (known_of earlier old).began)

  abbrev starts_after : Piece → Bool
  starts_after = is_start passed (is_among (known_of passed ring).began)

  -- a piece that is known, and what is kept of its number
  record IsTold (m : ℕ) (p : Piece) : Type 0 where
    pub told : Arrival
    pub is : at m ring.entries ≡ Some told
    pub shape_is : told.shape ≡ shapes.Media p.packet.ts p.packet.marker p.part.start

  told-piece : (m : ℕ) (p : Piece) → IsPiece codec known_after m p → IsTold m p
  told-piece m p piece =
      let t : (told : Arrival) × (at m ring.entries ≡ Some told) = told-if m (Media piece.text) piece.media in
      let h : HasPacket m t.0 = has-packet m t.0 t.1 in
      let content : content_of h.packet ≡ Media piece.text =
      same_Some (content_of h.packet) (Media piece.text) (sym (known_packets-there m t.0 t.1 h) ∙ piece.media) in
      record {
        told = t.0;
        is = t.1;
        shape_is =
            sym h.shape_is ∙ sym (shape-sound codec h.packet (sound m h.packet h.is)) ∙ ap (shape_of codec) content
            ∙ ap (λ o. option_map_or piece_shape
            (o >>= λ q. result_ok (codec.read q.payload) >>= λ x. Some (made q x)) shapes.Other) piece.reads
            ∙ ap (λ r. option_map_or piece_shape (result_ok r >>= λ x. Some (made p.packet x)) shapes.Other)
            piece.part_reads;
      } where
        made : Packet → Part → Piece
        made q x = record { number = 0; packet = q; part = x }

  -- whether a piece is a start, by what is kept
  start-after : (m : ℕ) (p : Piece) (told : Arrival) → p.number ≡ m → at m ring.entries ≡ Some told →
      starts_after p ≡ begins p.part.start (is_passed passed (m - 1) || told.began)
  start-after m p told number is =
      ap (λ k. begins p.part.start (is_passed passed (k - 1) || is_among (known_of passed ring).began k)) number
      ∙ ap (λ b. begins p.part.start (is_passed passed (m - 1) || b))
      (among-after m ∙ ap (λ o. option_map_or (λ (t : Arrival). t.began) o false) is)

  start-before : (m : ℕ) (p : Piece) (told : Arrival) → p.number ≡ m → now m ≡ Some told →
      starts_before p ≡ begins p.part.start (is_passed passed (m - 1) || told.began)
  start-before m p told number is =
      ap (λ k. begins p.part.start (is_passed passed (k - 1) || is_among (known_of earlier old).began k)) number
      ∙ ap (λ b. begins p.part.start (is_passed passed (m - 1) || b)) (among-before m ∙ began-before m told is)

  -- a piece, as the search sees it
  fact-of : (m : ℕ) (p : Piece) → IsPiece codec known_after m p →
      fact_at passed ring.entries m ≡ Some (fact_of_piece starts_after p)
  fact-of m p piece =
      let t : IsTold m p = told-piece m p piece in
      ap (option_and_then (fact_of passed m)) t.is ∙ ap (fact_with passed m t.told.began) t.shape_is
      ∙ ap (λ b. Some (record { ts = p.packet.ts; marker = p.packet.marker; starts = b }))
      (sym (start-after m p t.told piece.number t.is))

  -- and back
  piece-of : (m : ℕ) (fact : Fact) → fact_at passed ring.entries m ≡ Some fact →
      HasPiece codec starts_after known_after m fact
  piece-of m fact is = elim (under-cases (at m ring.entries)) [
    | inl none ↦ absurd (none-some fact (sym (ap (option_and_then (fact_of passed m)) none) ∙ is))
    | inr some ↦ let h : HasPacket m some.0 = has-packet m some.0 some.1 in
        media some.0.began h.packet (sound m h.packet h.is) (known_packets-there m some.0 some.1 h)
        (ap (fact_with passed m some.0.began) h.shape_is ∙ sym (ap (option_and_then (fact_of passed m)) some.1) ∙ is)
  ] where
    media : (began : Bool) (packet : HeldPacket) → IsSound codec packet →
        at m known_after ≡ Some (content_of packet) → fact_with passed m began (held_shape packet) ≡ Some fact →
        HasPiece codec starts_after known_after m fact
    media began (helds.Media text marker ts start key layers) s there e =
        let p : Piece = record { number = m; packet = s.packet; part = s.part } in
        let piece : IsPiece codec known_after m p =
        record { number = refl; text = text; media = there; reads = s.reads; part_reads = s.part_reads } in
        record {
          piece = p;
          is = piece;
          fact_is = same_Some fact (fact_of_piece starts_after p) (sym is ∙ fact-of m p piece);
        }
    media began (helds.Empty marker) s there e = absurd (none-some fact e)
    media began (helds.Fec payload) s there e = absurd (none-some fact e)

  -- what is known is available
  within : (m : ℕ) (text : List ℕ) → at m known_after ≡ Some (Media text) → at m packets ≡ Some (Media text)
  within m text is =
      let t : (told : Arrival) × (at m ring.entries ≡ Some told) = told-if m (Media text) is in
      sym (at-known_packets ring.entries packets m ∙ ap (λ b. cond b (at m packets) None) (ap is_some t.1)) ∙ is

  -- the number told wasn't known
  absent-before : at n known_before ≡ None
  absent-before = at-known_packets old.entries packets n
      ∙ ap (λ b. cond b (at n packets) None) (sym (available-shapes old.entries n) ∙ absent)

  -- other numbers are known as before
  same-else : (m : ℕ) → m ≢ n → at m known_after ≡ at m known_before
  same-else m other = elim (packet-cases (at m held)) [
    | inl none ↦ nothing ring.entries (at-contents held m ∙ ap (option_map content_of) none)
        ∙ sym (nothing old.entries (at-contents held m ∙ ap (option_map content_of) none))
    | inr some ↦ at-known_packets ring.entries packets m
        ∙ ap (λ b. cond b (at m packets) None) (available (inside_all m (ap is_some some.1)))
        ∙ sym (at-known_packets old.entries packets m)
  ] where
    nothing : (es : List (ℕ × Arrival)) → at m packets ≡ None → at m (packets_under (shapes_of es) packets) ≡ None
    nothing es none = at-known_packets es packets m ∙ ap (λ o. cond (is_available m es) o None) none
        ∙ either (is_available m es) where
          either : (b : Bool) → ◌≡◌ {A = Option Content} (cond b None None) None
          either true = refl
          either false = refl

    available : in_window newest m ≡ true → is_available m ring.entries ≡ is_available m old.entries
    available h = ap is_some (entries m) ∙ somewhere (now m)
        ∙ ap is_some (now-other newest n shape old kept inside m other
        ∙ ap (λ b. cond b (at m old.entries) None) h) where
          somewhere : (o : Option Arrival) → is_some (option_map (remember_if (ends_in now (m - 1))) o) ≡ is_some o
          somewhere None = refl
          somewhere (Some t) = refl

  -- a number that is neither the one told nor the one after it is a start as before
  kept-else : (p : Piece) (m : ℕ) → m ≢ n → m ≢ n + 1 → IsPiece codec known_after m p →
      starts_after p ≡ starts_before p
  kept-else p m other later piece =
      let t : IsTold m p = told-piece m p piece in
      let s : Stood m t.told = stood m t.told t.is in
      start-after m p t.told piece.number t.is
      ∙ ap (λ b. begins p.part.start (is_passed passed (m - 1) || b))
      (ap (λ (u : Arrival). u.began) s.told_is
      ∙ sym (or-when s.before.began (ends_in now (m - 1))
      (settled newest n shape old kept inside m s.before other later s.is)))
      ∙ sym (start-before m p s.before piece.number s.is)

  -- a start stays one
  grows-else : (p : Piece) (m : ℕ) → m ≢ n → IsPiece codec known_after m p → starts_before p ≡ true →
      starts_after p ≡ true
  grows-else p m other piece h =
      let t : IsTold m p = told-piece m p piece in
      let s : Stood m t.told = stood m t.told t.is in
      start-after m p t.told piece.number t.is
      ∙ begins-grows p.part.start (is_passed passed (m - 1) || s.before.began)
      (is_passed passed (m - 1) || t.told.began)
      (or-grows (is_passed passed (m - 1)) s.before.began t.told.began
      (λ b. ap (λ (u : Arrival). u.began) s.told_is ∙ ap (λ c. c || ends_in now (m - 1)) b))
      (sym (start-before m p s.before piece.number s.is) ∙ h)

  -- whether the number after is a start, before and after
  abbrev next_after : Bool
  next_after = nat_lt n newest && starts_at passed ring.entries (n + 1)

  abbrev next_before : Bool
  next_before = nat_lt n newest && starts_at passed old.entries (n + 1)

  newly-is : (p : Piece) → IsPiece codec known_after (n + 1) p →
      (next_after && not next_before) ≡ (starts_after p && not (starts_before p))
  newly-is p piece =
      let t : IsTold (n + 1) p = told-piece (n + 1) p piece in
      let s : Stood (n + 1) t.told = stood (n + 1) t.told t.is in
      let other : n + 1 ≢ n = λ e. absurd (omega arith) in
      let w : (in_window newest (n + 1) ≡ true) × (at (n + 1) old.entries ≡ Some s.before) =
      was newest n shape old kept inside (n + 1) s.before other s.is in
      let upto : n + 1 ≤ newest = in-upto newest (n + 1) w.0 in
      let less : nat_lt n newest ≡ true = lt-ltb n newest (omega arith) in
      let after_is : starts_at passed ring.entries (n + 1) ≡ starts_after p =
      ap (λ o. option_map_or (λ (f : Fact). f.starts) o false) (fact-of (n + 1) p piece) in
      let before_is : starts_at passed old.entries (n + 1) ≡ starts_before p =
      ap (λ o. option_map_or (λ (f : Fact). f.starts) (option_and_then (fact_of passed (n + 1)) o) false) w.1
      ∙ ap (λ x. option_map_or (λ (f : Fact). f.starts) (fact_with passed (n + 1) s.before.began x) false)
      (sym (ap (λ (u : Arrival). u.shape) s.told_is) ∙ t.shape_is)
      ∙ sym (start-before (n + 1) p s.before piece.number s.is) in
      ap (λ b. (b && starts_at passed ring.entries (n + 1)) && not (b && starts_at passed old.entries (n + 1))) less
      ∙ ap (λ b. b && not (starts_at passed old.entries (n + 1))) after_is
      ∙ ap (λ b. starts_after p && not b) before_is

  -- a number that is neither the one told nor the one after it is a fact as before
  pub facts-else : (m : ℕ) → in_window newest m ≡ true → m ≢ n → m ≢ n + 1 →
      fact_at passed ring.entries m ≡ fact_at passed old.entries m
  facts-else m inside_m other later = elim (under-cases (now m)) [
    | inl none ↦ ap (option_and_then (fact_of passed m))
        (entries m ∙ ap (option_map (remember_if (ends_in now (m - 1)))) none)
        ∙ sym (ap (option_and_then (fact_of passed m))
        (sym (now-other newest n shape old kept inside m other ∙ ap (λ b. cond b (at m old.entries) None) inside_m)
        ∙ none))
    | inr some ↦ let w : (in_window newest m ≡ true) × (at m old.entries ≡ Some some.0) =
        was newest n shape old kept inside m some.0 other some.1 in
        ap (option_and_then (fact_of passed m))
        (entries m ∙ ap (option_map (remember_if (ends_in now (m - 1)))) some.1)
        ∙ ap (λ b. fact_with passed m b some.0.shape)
        (sym (or-when some.0.began (ends_in now (m - 1))
        (settled newest n shape old kept inside m some.0 other later some.1)))
        ∙ sym (ap (option_and_then (fact_of passed m)) w.1)
  ]

  -- the number after it is a start if it was one
  next-cases : in_window newest (n + 1) ≡ true →
      ((fact_at passed ring.entries (n + 1) ≡ None) × (fact_at passed old.entries (n + 1) ≡ None))
      ⊎ ((told : Arrival) × (fact_at passed ring.entries (n + 1) ≡ fact_with passed (n + 1)
      (told.began || ends_in now (n + 1 - 1)) told.shape)
      × (fact_at passed old.entries (n + 1) ≡ fact_with passed (n + 1) told.began told.shape))
  next-cases inside_m = elim (under-cases (now (n + 1))) [
    | inl none ↦ inl (
      ap (option_and_then (fact_of passed (n + 1)))
          (entries (n + 1) ∙ ap (option_map (remember_if (ends_in now (n + 1 - 1)))) none),
      ap (option_and_then (fact_of passed (n + 1)))
          (sym (now-other newest n shape old kept inside (n + 1) other
          ∙ ap (λ b. cond b (at (n + 1) old.entries) None) inside_m) ∙ none),
    )
    | inr some ↦ let w : (in_window newest (n + 1) ≡ true) × (at (n + 1) old.entries ≡ Some some.0) =
        was newest n shape old kept inside (n + 1) some.0 other some.1 in
        inr (
          some.0,
          ap (option_and_then (fact_of passed (n + 1)))
              (entries (n + 1) ∙ ap (option_map (remember_if (ends_in now (n + 1 - 1)))) some.1),
          ap (option_and_then (fact_of passed (n + 1))) w.1,
        )
  ] where
    other : n + 1 ≢ n
    other e = absurd (omega arith)

  -- and it is a fact as before, if it is no start newly
  pub facts-next : in_window newest (n + 1) ≡ true → (next_after && not next_before) ≡ false →
      fact_at passed ring.entries (n + 1) ≡ fact_at passed old.entries (n + 1)
  facts-next inside_m old_one = elim (next-cases inside_m) [
    | inl none ↦ none.0 ∙ sym none.1
    | inr some ↦ some.1 ∙ same-start passed passed (n + 1)
        (some.0.began || ends_in now (n + 1 - 1)) some.0.began some.0.shape
        (same-bool _ _ (λ h. new (ap starts_of some.1 ∙ h) (ap starts_of some.2))
        (λ h. fact-grows passed passed (n + 1) some.0.began (some.0.began || ends_in now (n + 1 - 1)) some.0.shape
        (or-so (is_passed passed (n + 1 - 1)) some.0.began (ends_in now (n + 1 - 1))) h)) ∙ sym some.2
  ] where
    less : nat_lt n newest ≡ true
    less = lt-ltb n newest (let upto : n + 1 ≤ newest = in-upto newest (n + 1) inside_m in omega arith)

    or-so : (x y z : Bool) → (x || y) ≡ true → (x || (y || z)) ≡ true
    or-so true y z h = refl
    or-so false true z h = refl
    or-so false false z h = absurd (true≢false (sym h))

    second : (a b : Bool) → (a && not b) ≡ false → a ≡ true → b ≡ true
    second true true e h = refl
    second true false e h = absurd (true≢false e)
    second false b e h = absurd (true≢false (sym h))

    new : {b : Bool} → starts_at passed ring.entries (n + 1) ≡ true → starts_at passed old.entries (n + 1) ≡ b →
        b ≡ true
    new h e = sym e ∙ second (starts_at passed ring.entries (n + 1)) (starts_at passed old.entries (n + 1))
        (sym (ap (λ b. (b && starts_at passed ring.entries (n + 1)) && not
        (b && starts_at passed old.entries (n + 1))) less) ∙ old_one) h

  -- nothing told was media there before
  pub fact-before : fact_at passed old.entries n ≡ None
  fact-before = ap (option_and_then (fact_of passed n)) none-before

  -- the answers are what the number completes
  pub all-completed : (place : ℕ → Option Place) (a b : Option RunSummary) →
      AnswerFound codec place packets (fact_at passed ring.entries) passed n a
      → ((next_after && not next_before) ≡ true →
      AnswerFound codec place packets (fact_at passed ring.entries) passed (n + 1) b) →
      ((next_after && not next_before) ≡ false → b ≡ None)
      → Completes (standing_runs codec place passed (known_of earlier old) packets)
      (standing_runs codec place passed (known_of passed ring) packets) (cons_option a (cons_option b []))
  all-completed place a b first second none =
      completes codec place passed known_before known_after starts_before starts_after n
      (next_after && not next_before) same-else absent-before kept-else grows-else newly-is a b
      (around codec place starts_after known_after packets
      (fact_at passed ring.entries) passed within fact-of piece-of n a first)
      (λ h. around codec place starts_after known_after packets
      (fact_at passed ring.entries) passed within fact-of piece-of (n + 1) b (second h)) none
