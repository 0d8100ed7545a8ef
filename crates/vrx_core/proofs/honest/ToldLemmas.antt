-- What packets of an honest sender tell, one after the other: the places of their frames.
use Rattle.std.proofs.Common.{◌≡◌, ℕ, ◌+◌, ◌-◌, ◌%◌, ◌<◌, ◌≤◌, max, List, [], ◌∷◌, length, slice_get, Contains, Option, Some, None, IfSome, IsSomeAnd, refl, sym, ◌∙◌, ap, subst, arith, inl, inr}
use Rattle.std.specs.Option.{option_and_then, option_map}
use Rattle.std.proofs.lemmas.Bool.{cases_lt}
use Rattle.std.proofs.lemmas.Option.{none-some, same_Some}
use Rattle.vrx_num.specs.Extended.{greater}
use Rattle.vrx_num.specs.Pictures.{GivesPicture, IsPictureNear, extended_picture}
use Rattle.vrx_num.specs.declared.limits.TheConstants.{HALF_PICTURES, PICTURES}
use Rattle.vrx_codec.specs.Meaning.{Meaning}
use Rattle.vrx_codec.specs.declared.part.Layers.{Layers}
use Rattle.vrx_codec.specs.declared.run.Place.{Place}
use Rattle.vrx_window.specs.Content.{Content}
use Rattle.vrx_window.specs.Content as contents
use Rattle.vrx_window.specs.Sound.{on_wire}
use Rattle.vrx_repair.specs.Commit.{place_beside}
use Rattle.vrx_core.specs.machine.Told.{Told, layers_of, newest_picture, told_by, told_with}
use Rattle.vrx_core.specs.honest.Sender.{SentFrame, SentPacket, Media, Fec, Empty, Sender, IsOf, wire_of}
use Rattle.vrx_core.specs.honest.Layers.{IsKey, LayersAreRight, layers_at}
use Rattle.vrx_core.specs.honest.WireForm.{content_sent}
use Rattle.vrx_core.specs.honest.HonestSender.{IsMedia, HonestSender}
use Rattle.vrx_core.specs.honest.HonestNetwork.{AreNearTold, IsNewestTold}
use Rattle.vrx_core.specs.honest.Number.{IsOfFrame}
use Rattle.vrx_core.specs.honest.Ready.{IsNumber}
use Rattle.vrx_core.specs.declared.settings.Settings.{Settings}
use Rattle.vrx_core.proofs.machine.MemberLemmas.{Contains-head, Contains-tail, Contains-either, Contains-empty}
use Rattle.vrx_core.proofs.relation.ListLemmas.{map-from, map-to}
use Rattle.vrx_core.proofs.honest.PartLemmas.{some_from, some_holds}
use Rattle.vrx_core.proofs.honest.NumberLemmas.{IsNumber-grown}
use Rattle.vrx_core.proofs.honest.KeptLemmas.{IsKept, AreKept, kept-among}
use Rattle.vrx_core.proofs.honest.KeepsLemmas.{Came, one-number, one-place, number-before, with_made}
use Rattle.vrx_core.proofs.honest.RightLemmas.{IsMediaUnder, media-under, says-layers}
use Rattle.vrx_core.proofs.honest.LastLemmas.{layers_within, placed, some_if}
use Rattle.vrx_core.proofs.honest.IndexLemmas.{pictures_rise}
use Rattle.vrx_core.proofs.honest.TellLemmas.{TellsFrame, ToldRightly}

-- what is told stays told
told_by-stays : (n : ℕ) (layers : Option Layers) (told : Told) (entry : ℕ × Place) → Contains told entry →
    Contains (told_by n layers told) entry
told_by-stays n None told entry there = there
told_by-stays n (Some layers) told entry there =
    Contains-tail (n, place_beside (newest_picture told) layers) told entry there

pub told-stays : (codec : Meaning) (packets : List (ℕ × Content)) (told : Told) (entry : ℕ × Place) →
    Contains told entry → Contains (told_with codec packets told) entry
told-stays codec [] told entry there = there
told-stays codec ((n, content) ∷ packets) told entry there =
    told-stays codec packets (told_by n (layers_of codec content) told) entry
    (told_by-stays n (layers_of codec content) told entry there)

-- layers tell a place
told_by-here : (n : ℕ) (o : Option Layers) (layers : Layers) (told : Told) → o ≡ Some layers →
    Contains (told_by n o told) (n, place_beside (newest_picture told) layers)
told_by-here n o layers told is =
    subst (λ (q : Option Layers). Contains (told_by n q told) (n, place_beside (newest_picture told) layers)) (sym is)
    (Contains-head (n, place_beside (newest_picture told) layers) told)

-- each packet that says layers tells a place
told-each : (codec : Meaning) (packets : List (ℕ × Content)) (told : Told) (n : ℕ) (content : Content)
    (layers : Layers) → Contains packets (n, content) → layers_of codec content ≡ Some layers →
    (place : Place) × Contains (told_with codec packets told) (n, place)
told-each codec [] told n content layers among is = absurd (Contains-empty (n, content) among)
told-each codec ((m, other) ∷ packets) told n content layers among is =
    elim (Contains-either (m, other) packets (n, content) among) [
      | inl same ↦ let place : Place = place_beside (newest_picture told) layers in (
        place,
        told-stays codec packets (told_by m (layers_of codec other) told) (n, place)
            (subst (λ (k : ℕ). Contains (told_by m (layers_of codec other) told) (k, place))
            (ap (λ (e : ℕ × Content). e.0) same)
            (told_by-here m (layers_of codec other) layers told
            (ap (λ (e : ℕ × Content). layers_of codec e.1) same ∙ is))),
      )
      | inr later ↦ told-each codec packets (told_by m (layers_of codec other) told) n content layers later is
    ]

-- the entry of the newest picture
record HasNewest (told : Told) : Type 0 where
  entry : ℕ × Place
  among : Contains told entry
  is : newest_picture told ≡ Some entry.1.picture
  most : (other : ℕ × Place) → Contains told other → other.1.picture ≤ entry.1.picture

-- there is one, if a place was told
newest-of : (n : ℕ) (place : Place) (told : Told) → HasNewest ((n, place) ∷ told)
newest-of n place [] = record {
  entry = (n, place);
  among = Contains-head (n, place) [];
  is = refl;
  most = λ other there. elim (Contains-either (n, place) [] other there) [
    | inl same ↦ subst (λ (e : ℕ × Place). e.1.picture ≤ place.picture) same (omega arith)
    | inr later ↦ absurd (Contains-empty other later)
  ];
}
newest-of n place ((m, q) ∷ told) =
    let h : HasNewest ((m, q) ∷ told) = newest-of m q told in
    let with_more : newest_picture ((n, place) ∷ (m, q) ∷ told) ≡ Some (max h.entry.1.picture place.picture) =
    ap (λ (o : Option ℕ). greater o place.picture) h.is in
    elim (cases_lt h.entry.1.picture place.picture) [
      | inl less ↦ record {
        entry = (n, place);
        among = Contains-head (n, place) ((m, q) ∷ told);
        is = with_more ∙ ap Some (omega (arith, less));
        most = λ other there. elim (Contains-either (n, place) ((m, q) ∷ told) other there) [
          | inl same ↦ subst (λ (e : ℕ × Place). e.1.picture ≤ place.picture) same (omega arith)
          | inr later ↦ let upto : other.1.picture ≤ h.entry.1.picture = h.most other later in
              omega (arith, less, upto)
        ];
      }
      | inr upto ↦ record {
        entry = h.entry;
        among = Contains-tail (n, place) ((m, q) ∷ told) h.entry h.among;
        is = with_more ∙ ap Some (omega (arith, upto));
        most = λ other there. elim (Contains-either (n, place) ((m, q) ∷ told) other there) [
          | inl same ↦ subst (λ (e : ℕ × Place). e.1.picture ≤ h.entry.1.picture) same upto
          | inr later ↦ h.most other later
        ];
      }
    ]

-- a frame of those that have no layers has none
pub none_there : (place : Place) (o : Option SentFrame) → IfSome o (λ frame. frame.layers ≡ None) →
    option_and_then (λ frame. frame.layers) o ≡ Some place → ⊥
none_there place None none is = none-some place is
none_there place (Some frame) none is = none-some place (sym none ∙ is)

-- the pictures of two frames are as far from each other as the frames
pub rise-between : (frames : List SentFrame) → LayersAreRight frames → (f g : ℕ) (a b : Place) →
    layers_at frames f ≡ Some a → layers_at frames g ≡ Some b → a.picture + g ≡ b.picture + f
rise-between frames (inl keeps) f g a b is_a is_b =
    let within : f < length frames = layers_within frames f a is_a in
    let first : (place : Place) × (layers_at frames 0 ≡ Some place) × (place.tl0 < 256)
    × (IsKey frames 0 → place.tid ≡ 0) = placed frames keeps 0 (omega (arith, within)) in
    let at_first : IsSomeAnd (layers_at frames 0) (λ place. place.picture ≡ first.0.picture) =
    some_from (λ place. place.picture ≡ first.0.picture) (layers_at frames 0) first.0 first.1 refl in
    let of_f : a.picture ≡ first.0.picture + f =
    some_holds (λ place. place.picture ≡ first.0.picture + f) (layers_at frames f) a is_a
    (pictures_rise frames keeps first.0.picture at_first f within) in
    let of_g : b.picture ≡ first.0.picture + g =
    some_holds (λ place. place.picture ≡ first.0.picture + g) (layers_at frames g) b is_b
    (pictures_rise frames keeps first.0.picture at_first g (layers_within frames g b is_b)) in
    omega (arith, of_f, of_g)
rise-between frames (inr none) f g a b is_a is_b = absurd (none_there a (slice_get frames f) (none f) is_a)

-- a packet is of one frame
pub of-one : (f g : ℕ) (o : Option SentPacket) → IsSomeAnd o (IsOf f) → IsSomeAnd o (IsOf g) → f ≡ g
of-one f g None a b = absurd a
of-one f g (Some (Media h k text)) a b = sym a ∙ b
of-one f g (Some (Fec payload)) a b = absurd a
of-one f g (Some Empty) a b = absurd a

-- a number that told a place is of one frame
pub frame-told : (sender : Sender) (js : List ℕ) (rep : ℕ → Type 0) (up down : ℕ) (entry : ℕ × Place)
    (t : TellsFrame sender js rep up down entry) (f : ℕ) → IsOfFrame sender js entry.0 f → f ≡ t.f
frame-told sender js rep up down entry t f of =
    of-one f t.f (slice_get sender.packets t.i)
    (subst (λ (i : ℕ). IsSomeAnd (slice_get sender.packets i) (IsOf f))
    (one-place sender js of.0 t.i entry.0 of.1 t.numbered) of.2) t.of_frame

-- The picture that the receiver knows of a frame, beside the newest one: it is the one with the same constant, if the
-- frames lie near each other.
near-picture : GivesPicture → (newest up down f g a b : ℕ) → PICTURES ≤ newest → newest + down ≡ g + up →
    newest % 32768 ≡ b % 32768 → a + g ≡ b + f → f < g + HALF_PICTURES → g < f + HALF_PICTURES →
    (extended_picture (Some newest) (a % 32768) + down ≡ f + up)
    × (extended_picture (Some newest) (a % 32768) % 32768 ≡ a % 32768)
near-picture picture newest up down f g a b high known same rise ahead behind =
    let p : ℕ = (newest + f) - g in
    let near : IsPictureNear newest (a % 32768) p = record {
      same = omega (arith, high, same, rise, behind);
      not_far_ahead = omega (arith, high, ahead, behind);
      not_far_behind = omega (arith, high, ahead, behind);
    } in
    let given : extended_picture (Some newest) (a % 32768) ≡ p =
    (picture newest (a % 32768) p (omega (arith, high)) (omega arith)).1 near in
    (omega (arith, given, high, known, behind), ap (λ (x : ℕ). x % 32768) given ∙ near.same)

-- a place beside the newest picture is on the wire as it was sent
beside-same : (newest : Option ℕ) (sent : Place) →
    extended_picture newest (sent.picture % 32768) % 32768 ≡ sent.picture % 32768 →
    on_wire (place_beside newest (on_wire sent)) ≡ on_wire sent
beside-same newest sent same =
    ap (λ (x : ℕ). record { picture = x; tl0 = sent.tl0; tid = sent.tid; sync = sent.sync }) same

-- layers on the wire are those of a place
map_there : (o : Option Place) (layers : Layers) → option_map on_wire o ≡ Some layers →
    (sent : Place) × (o ≡ Some sent) × (on_wire sent ≡ layers)
map_there None layers is = absurd (none-some layers is)
map_there (Some sent) layers is = (sent, refl, same_Some (on_wire sent) layers is)

-- a packet of a frame is media
fec_none : (f : ℕ) (payload : List ℕ) (o : Option SentPacket) → IsSomeAnd o (IsOf f) →
    IsSomeAnd o (λ packet. contents.Fec payload ≡ content_sent packet) → ⊥
fec_none f payload None of is = of
fec_none f payload (Some (Media g k text)) of is = absurd (cc)
fec_none f payload (Some (Fec other)) of is = of
fec_none f payload (Some Empty) of is = of

empty_none : (f : ℕ) (o : Option SentPacket) → IsSomeAnd o (IsOf f) →
    IsSomeAnd o (λ packet. contents.Empty ≡ content_sent packet) → ⊥
empty_none f None of is = of
empty_none f (Some (Media g k text)) of is = absurd (cc)
empty_none f (Some (Fec other)) of is = of
empty_none f (Some Empty) of is = of

module _ (settings : Settings) (codec : Meaning) (sender : Sender) (honest : HonestSender settings codec sender)
    (js : List ℕ) where
  -- what media under a number says: the layers of its frame
  media-says : (n : ℕ) (text : List ℕ) (m : IsMediaUnder settings codec sender honest js n text) →
      layers_of codec (contents.Media text) ≡ option_map on_wire m.is_sent.frame.layers
  media-says n text m =
      let media : IsMedia settings codec (wire_of sender m.place) m.is_sent.carried = m.is_sent.part.media in
      ap (λ t. layers_of codec (contents.Media t)) m.same
      ∙ says-layers settings codec sender honest js m.is_sent.carried.text m.is_sent.carried.packet
      m.is_sent.carried.part media.reads media.part_reads
      ∙ m.is_sent.part.layers

  -- a number of a packet that says the place of its frame
  record SaysPlace (n : ℕ) (content : Content) : Type 0 where
    i : ℕ
    numbered : IsNumber sender js i n
    f : ℕ
    of_frame : IsSomeAnd (slice_get sender.packets i) (IsOf f)
    sent : Place
    sent_is : layers_at sender.frames f ≡ Some sent
    is : layers_of codec content ≡ Some (on_wire sent)

  -- each of the sender's packets that says layers does
  says-place : (n : ℕ) (content : Content) (layers : Layers) → IsKept sender js (n, content) →
      layers_of codec content ≡ Some layers → SaysPlace n content
  says-place n (contents.Media text) layers kept is =
      let m : IsMediaUnder settings codec sender honest js n text =
      media-under settings codec sender honest js n text kept in
      let says : layers_of codec (contents.Media text) ≡ option_map on_wire m.is_sent.frame.layers =
      media-says n text m in
      let p : (sent : Place) × (m.is_sent.frame.layers ≡ Some sent) × (on_wire sent ≡ layers) =
      map_there m.is_sent.frame.layers layers (sym says ∙ is) in
      record {
        i = m.place;
        numbered = m.numbered;
        f = m.is_sent.f;
        of_frame = some_from (IsOf m.is_sent.f) (slice_get sender.packets m.place)
            (Media m.is_sent.f m.is_sent.k m.is_sent.carried.text) m.is_sent.part.sent refl;
        sent = p.0;
        sent_is = ap (λ o. option_and_then (λ (frame : SentFrame). frame.layers) o) m.is_sent.sent ∙ p.1;
        is = says ∙ ap (option_map on_wire) p.1;
      }
  says-place n (contents.Fec payload) layers kept is = absurd (none-some layers is)
  says-place n contents.Empty layers kept is = absurd (none-some layers is)

  -- and each packet of a frame with layers says them
  layers-said : (i n f : ℕ) (sent : Place) (content : Content) → IsKept sender js (n, content) →
      IsNumber sender js i n → IsSomeAnd (slice_get sender.packets i) (IsOf f) →
      layers_at sender.frames f ≡ Some sent → layers_of codec content ≡ Some (on_wire sent)
  layers-said i n f sent (contents.Media text) kept numbered of sent_is =
      let m : IsMediaUnder settings codec sender honest js n text =
      media-under settings codec sender honest js n text kept in
      let same : f ≡ m.is_sent.f =
      of-one f m.is_sent.f (slice_get sender.packets m.place)
      (subst (λ (x : ℕ). IsSomeAnd (slice_get sender.packets x) (IsOf f))
      (one-place sender js i m.place n numbered m.numbered) of)
      (some_from (IsOf m.is_sent.f) (slice_get sender.packets m.place)
      (Media m.is_sent.f m.is_sent.k m.is_sent.carried.text) m.is_sent.part.sent refl) in
      let layers : m.is_sent.frame.layers ≡ Some sent =
      sym (ap (λ o. option_and_then (λ (frame : SentFrame). frame.layers) o) m.is_sent.sent)
      ∙ ap (layers_at sender.frames) (sym same) ∙ sent_is in
      media-says n text m ∙ ap (option_map on_wire) layers
  layers-said i n f sent (contents.Fec payload) kept numbered of sent_is =
      absurd (fec_none f payload (slice_get sender.packets kept.place)
      (subst (λ (x : ℕ). IsSomeAnd (slice_get sender.packets x) (IsOf f))
      (one-place sender js i kept.place n numbered kept.numbered) of) kept.carried)
  layers-said i n f sent contents.Empty kept numbered of sent_is =
      absurd (empty_none f (slice_get sender.packets kept.place)
      (subst (λ (x : ℕ). IsSomeAnd (slice_get sender.packets x) (IsOf f))
      (one-place sender js i kept.place n numbered kept.numbered) of) kept.carried)

  module _ (picture : GivesPicture) (rep : ℕ → Type 0) where
    -- each of these told the place of a frame, by these constants; and the newest picture is far above nothing
    record Tells (told : Told) : Type 0 where
      up : ℕ
      down : ℕ
      each : (entry : ℕ × Place) → Contains told entry → TellsFrame sender js rep up down entry
      high : IfSome (newest_picture told) (λ p. PICTURES ≤ p)

    -- an entry more
    more-tells : (told : Told) (up down n : ℕ) (place : Place) (newest : ℕ) →
        ((entry : ℕ × Place) → Contains told entry → TellsFrame sender js rep up down entry) →
        TellsFrame sender js rep up down (n, place) → newest_picture ((n, place) ∷ told) ≡ Some newest →
        PICTURES ≤ newest → Tells ((n, place) ∷ told)
    more-tells told up down n place newest each this is high = record {
      up = up;
      down = down;
      each = λ entry there. elim (Contains-either (n, place) told entry there) [
        | inl same ↦ subst (TellsFrame sender js rep up down) same this
        | inr later ↦ each entry later
      ];
      high = subst (λ (o : Option ℕ). IfSome o (λ p. PICTURES ≤ p)) (sym is) high;
    }

    -- a packet's place is its frame's
    tells-new : (n : ℕ) (content : Content) (s : SaysPlace n content) (told : Told) → Came js rep s.i n →
        AreNearTold sender js (told_by n (Some (on_wire s.sent)) told) → Tells told →
        Tells (told_by n (Some (on_wire s.sent)) told)
    tells-new n content s [] came near t =
        let place : Place = place_beside None (on_wire s.sent) in
        more-tells [] (s.sent.picture % 32768 + PICTURES) s.f n place place.picture
        (λ entry there. absurd (Contains-empty entry there))
        (record {
          i = s.i;
          came = came;
          numbered = s.numbered;
          f = s.f;
          of_frame = s.of_frame;
          place_is = record {
            sent = s.sent;
            sent_is = s.sent_is;
            picture = omega arith;
            same = beside-same None s.sent (omega arith);
          };
        }) refl (omega arith)
    tells-new n content s ((m, q) ∷ told) came near t =
        let h : HasNewest ((m, q) ∷ told) = newest-of m q told in
        let of_h : TellsFrame sender js rep t.up t.down h.entry = t.each h.entry h.among in
        let newest_told : IsNewestTold sender js ((m, q) ∷ told) of_h.f = record {
          entry = h.entry;
          among = h.among;
          of_frame = (of_h.i, of_h.numbered, of_h.of_frame);
          newest = λ other f there of.
              let u : TellsFrame sender js rep t.up t.down other = t.each other there in
              let same : f ≡ u.f = frame-told sender js rep t.up t.down other u f of in
              let upto : other.1.picture ≤ h.entry.1.picture = h.most other there in
              omega (arith, same, upto, u.place_is.picture, of_h.place_is.picture);
        } in
        let close : (s.f < of_h.f + HALF_PICTURES) × (of_h.f < s.f + HALF_PICTURES) =
        near.0 s.f of_h.f (s.i, s.numbered, s.of_frame) newest_told in
        let rise : s.sent.picture + of_h.f ≡ of_h.place_is.sent.picture + s.f =
        rise-between sender.frames honest.layers s.f of_h.f s.sent of_h.place_is.sent s.sent_is of_h.place_is.sent_is in
        let known : h.entry.1.picture % 32768 ≡ of_h.place_is.sent.picture % 32768 =
        ap (λ (l : Layers). l.picture) of_h.place_is.same in
        let high : PICTURES ≤ h.entry.1.picture =
        some_if (λ p. PICTURES ≤ p) (newest_picture ((m, q) ∷ told)) h.entry.1.picture h.is t.high in
        let near_it : (extended_picture (Some h.entry.1.picture) (s.sent.picture % 32768) + t.down ≡ s.f + t.up)
        × (extended_picture (Some h.entry.1.picture) (s.sent.picture % 32768) % 32768 ≡ s.sent.picture % 32768) =
        near-picture picture h.entry.1.picture t.up t.down s.f of_h.f s.sent.picture of_h.place_is.sent.picture high
        of_h.place_is.picture known rise close.0 close.1 in
        let newest : Option ℕ = newest_picture ((m, q) ∷ told) in
        let place : Place = place_beside newest (on_wire s.sent) in
        let beside : place.picture ≡ extended_picture (Some h.entry.1.picture) (s.sent.picture % 32768) =
        ap (λ (o : Option ℕ). extended_picture o (s.sent.picture % 32768)) h.is in
        more-tells ((m, q) ∷ told) t.up t.down n place (max h.entry.1.picture place.picture) t.each
        (record {
          i = s.i;
          came = came;
          numbered = s.numbered;
          f = s.f;
          of_frame = s.of_frame;
          place_is = record {
            sent = s.sent;
            sent_is = s.sent_is;
            picture = ap (λ (x : ℕ). x + t.down) beside ∙ near_it.0;
            same = beside-same newest s.sent (ap (λ (x : ℕ). x % 32768) beside ∙ near_it.1);
          };
        }) (ap (λ (o : Option ℕ). greater o place.picture) h.is) (omega (arith, high))

    -- one packet more, whatever it says
    tells-one : (n : ℕ) (content : Content) (told : Told) → IsKept sender js (n, content) →
        ((i : ℕ) → IsNumber sender js i n → Came js rep i n) →
        AreNearTold sender js (told_by n (layers_of codec content) told) → Tells told →
        Tells (told_by n (layers_of codec content) told)
    tells-one n content told kept came near t = by_layers (layers_of codec content) refl near where
      by_layers : (o : Option Layers) → layers_of codec content ≡ o → AreNearTold sender js (told_by n o told) →
          Tells (told_by n o told)
      by_layers None is near = t
      by_layers (Some layers) is near =
          let s : SaysPlace n content = says-place n content layers kept is in
          let same : Some layers ≡ Some (on_wire s.sent) = sym is ∙ s.is in
          subst (λ (o : Option Layers). Tells (told_by n o told)) (sym same)
          (tells-new n content s told (came s.i s.numbered)
          (subst (λ (o : Option Layers). AreNearTold sender js (told_by n o told)) same near) t)

    -- pictures told before were near too
    near-by : (n : ℕ) (o : Option Layers) (told : Told) → AreNearTold sender js (told_by n o told) →
        AreNearTold sender js told
    near-by n None told near = near
    near-by n (Some layers) told near = near.1

    near-before : (packets : List (ℕ × Content)) (told : Told) →
        AreNearTold sender js (told_with codec packets told) → AreNearTold sender js told
    near-before [] told near = near
    near-before ((n, content) ∷ packets) told near =
        near-by n (layers_of codec content) told
        (near-before packets (told_by n (layers_of codec content) told) near)

    -- packets one after the other
    tells-all : (packets : List (ℕ × Content)) (told : Told) → AreKept sender js packets →
        ((i : ℕ) (entry : ℕ × Content) → Contains packets entry → IsNumber sender js i entry.0 →
        Came js rep i entry.0) → AreNearTold sender js (told_with codec packets told) → Tells told →
        Tells (told_with codec packets told)
    tells-all [] told kept came near t = t
    tells-all ((n, content) ∷ packets) told kept came near t =
        let now : Told = told_by n (layers_of codec content) told in
        tells-all packets now kept.1
        (λ i entry there. came i entry (Contains-tail (n, content) packets entry there)) near
        (tells-one n content told kept.0
        (λ i. came i (n, content) (Contains-head (n, content) packets))
        (near-before packets now near) t)

-- A place that was told stays that of its frame.
pub tells-on : (sender : Sender) (js ks : List ℕ) (rep more : ℕ → Type 0) (up down : ℕ) (entry : ℕ × Place) →
    ((i n : ℕ) → IsNumber sender js i n → IsNumber sender ks i n) →
    ((i n : ℕ) → Came js rep i n → Came ks more i n) → TellsFrame sender js rep up down entry →
    TellsFrame sender ks more up down entry
tells-on sender js ks rep more up down entry numbers comes t = record {
  i = t.i;
  came = comes t.i entry.0 t.came;
  numbered = numbers t.i entry.0 t.numbered;
  f = t.f;
  of_frame = t.of_frame;
  place_is = t.place_is;
}

-- the newest picture is far above nothing
abbrev pub IsHigh : Told → Type 0
IsHigh told = IfSome (newest_picture told) (λ p. PICTURES ≤ p)

-- if the same is told, and the same came
pub told-same : (sender : Sender) (js : List ℕ) (rep more : ℕ → Type 0) (told : Told) →
    ((n : ℕ) → rep n → more n) → ((n : ℕ) → more n → rep n) → ToldRightly sender js rep told →
    ToldRightly sender js more told
told-same sender js rep more told on back t = record {
  up = t.up;
  down = t.down;
  each = λ entry there. tells-on sender js js rep more t.up t.down entry (λ i n is. is)
      (λ i n came. elim came [ inl taken ↦ inl taken | inr repaired ↦ inr (on n repaired) ]) (t.each entry there);
  all = λ i n f sent came. t.all i n f sent
      (elim came [ inl taken ↦ inl taken | inr repaired ↦ inr (back n repaired) ]);
}

module _ (settings : Settings) (codec : Meaning) (sender : Sender) (honest : HonestSender settings codec sender)
    (picture : GivesPicture) (i : ℕ) (js : List ℕ) (rep : ℕ → Type 0) (n : ℕ) (content : Content)
    (made : List (ℕ × Content)) (numbered : IsNumber sender (i ∷ js) i n)
    (upto : (m : ℕ) → rep m → (k : ℕ) × IsNumber sender js k m)
    (kept : AreKept sender (i ∷ js) ((n, content) ∷ made)) (told : Told)
    (near : AreNearTold sender (i ∷ js) (told_with codec ((n, content) ∷ made) told))
    (t : ToldRightly sender js rep told) (is_high : IsHigh told) where
  -- the packets, and the places that are told once they are taken
  abbrev packets : List (ℕ × Content)
  packets = (n, content) ∷ made

  abbrev after : Told
  after = told_with codec packets told

  -- each of them came
  came-each : (k : ℕ) (entry : ℕ × Content) → Contains packets entry → IsNumber sender (i ∷ js) k entry.0 →
      Came (i ∷ js) (with_made made rep) k entry.0
  came-each k entry there is = elim (Contains-either (n, content) made entry there) [
    | inl same ↦
        let number : n ≡ entry.0 = ap (λ (e : ℕ × Content). e.0) same in
        let place : i ≡ k =
        one-place sender (i ∷ js) i k n numbered
        (subst (λ (x : ℕ). IsNumber sender (i ∷ js) k x) (sym number) is) in
        inl (subst (λ (x : ℕ). Contains (i ∷ js) x) place (Contains-head i js))
    | inr later ↦ inr (inl (map-to (λ (repair : ℕ × Content). repair.0) made entry later))
  ]

  tells : Tells settings codec sender honest (i ∷ js) picture (with_made made rep) after
  tells = tells-all settings codec sender honest (i ∷ js) picture (with_made made rep) packets told kept came-each near
      (record {
        up = t.up;
        down = t.down;
        each = λ entry there. tells-on sender js (i ∷ js) rep (with_made made rep) t.up t.down entry
            (IsNumber-grown sender i js)
            (λ k m came. elim came [
              | inl taken ↦ inl (Contains-tail i js k taken)
              | inr repaired ↦ inr (inr repaired)
            ]) (t.each entry there);
        high = is_high;
      })

  -- a packet that came before
  told-before : (k m f : ℕ) (sent : Place) → Came js rep k m → IsNumber sender js k m →
      IsSomeAnd (slice_get sender.packets k) (IsOf f) → layers_at sender.frames f ≡ Some sent →
      (place : Place) × Contains after (m, place)
  told-before k m f sent came is of sent_is =
      let p : (place : Place) × Contains told (m, place) = t.all k m f sent came is of sent_is in
      (p.0, told-stays codec packets told (m, p.0) p.1)

  -- one of these
  told-now : (k m f : ℕ) (sent : Place) (held : Content) → Contains packets (m, held) →
      IsNumber sender (i ∷ js) k m → IsSomeAnd (slice_get sender.packets k) (IsOf f) →
      layers_at sender.frames f ≡ Some sent → (place : Place) × Contains after (m, place)
  told-now k m f sent held there is of sent_is =
      told-each codec packets told m held (on_wire sent) there
      (layers-said settings codec sender honest (i ∷ js) k m f sent held
      (kept-among sender (i ∷ js) packets (m, held) kept there) is of sent_is)

  told-all : (k m f : ℕ) (sent : Place) → Came (i ∷ js) (with_made made rep) k m → IsNumber sender (i ∷ js) k m →
      IsSomeAnd (slice_get sender.packets k) (IsOf f) → layers_at sender.frames f ≡ Some sent →
      (place : Place) × Contains after (m, place)
  told-all k m f sent came is of sent_is = elim came [
    | inl taken ↦ elim (Contains-either i js k taken) [
      | inl same ↦
          let number : n ≡ m =
          one-number sender (i ∷ js) i n m numbered
          (subst (λ (x : ℕ). IsNumber sender (i ∷ js) x m) (sym same) is) in
          told-now k m f sent content
          (subst (λ (x : ℕ). Contains packets (x, content)) number (Contains-head (n, content) made)) is of sent_is
      | inr before ↦ told-before k m f sent (inl before) (number-before sender i js k m before is) of sent_is
    ]
    | inr repaired ↦ elim repaired [
      | inl new ↦
          let p = map-from (λ (repair : ℕ × Content). repair.0) made m new in
          told-now k m f sent p.0.1
          (Contains-tail (n, content) made (m, p.0.1) (subst (λ (x : ℕ). Contains made (x, p.0.1)) p.2 p.1)) is of
          sent_is
      | inr old ↦
          let u : (k : ℕ) × IsNumber sender js k m = upto m old in
          let same : u.0 ≡ k =
          one-place sender (i ∷ js) u.0 k m (IsNumber-grown sender i js u.0 m u.1) is in
          told-before k m f sent (inr old) (subst (λ (x : ℕ). IsNumber sender js x m) same u.1) of sent_is
    ]
  ]

  -- WHAT IS TOLD ONCE A PACKET WAS TAKEN, AND ITS REPAIRS MADE
  pub taken-told : ToldRightly sender (i ∷ js) (with_made made rep) after
  taken-told = record { up = tells.up; down = tells.down; each = tells.each; all = told-all }

  -- and the newest picture is far above nothing still
  pub taken-high : IsHigh after
  taken-high = tells.high
