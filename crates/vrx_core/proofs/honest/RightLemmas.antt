-- What is repaired from an honest sender's packets is the sender's, if parity is true.
use Rattle.std.proofs.Common.{◌≡◌, ℕ, zero, suc, ◌+◌, ◌-◌, ◌%◌, ◌<◌, ◌≤◌, Bool, true, false, if◌then◌else◌, List, [], ◌∷◌, map, slice_get, All, Option, Some, None, IsSomeAnd, is_some, Ok, refl, sym, ◌∙◌, ap, subst, arith, inl, inr, nat_le}
use Rattle.std.specs.List.{AllByRecursion}
use Rattle.std.specs.Option.{option_and_then, option_map_or, option_or}
use Rattle.std.specs.Result.{result_ok}
use Rattle.std.proofs.lemmas.Bool.{cases_eq, leb-true, le-leb}
use Rattle.std.proofs.lemmas.Option.{none-some, same_Some}
use Rattle.std.proofs.lemmas.List.Elements.{All-from_recursion, recursion_from_All}
use Rattle.vrx_num.specs.OptionChain.{◌>>=◌}
use Rattle.vrx_num.specs.declared.limits.TheConstants.{WINDOW, HALF_SPACE}
use Rattle.vrx_rtp.specs.Packet.{Packet}
use Rattle.vrx_rtp.specs.Reading.{read}
use Rattle.vrx_codec.specs.Part.{Part}
use Rattle.vrx_codec.specs.Meaning.{Meaning}
use Rattle.vrx_window.specs.Content.{Content}
use Rattle.vrx_window.specs.Content as contents
use Rattle.vrx_window.specs.Window.{Contents, at, is_available}
use Rattle.vrx_fec.specs.Parity.{Texts}
use Rattle.vrx_fec.specs.Payload.{IsPayload}
use Rattle.vrx_frames.specs.Run.{Packets, Piece}
use Rattle.vrx_repair.specs.Order.{AreRight, StepsAreRight}
use Rattle.vrx_repair.specs.Plan.{repairs_in}
use Rattle.vrx_repair.specs.Source.{Source}
use Rattle.vrx_repair.specs.Step.{first_of, first_step, repairs, step, with_repair, with_repairs}
use Rattle.vrx_repair.specs.Truth.{IsRightMedia, IsRightParity, IsTextOf, TrueRepairs}
use Rattle.vrx_core.specs.machine.Machine.{source_in}
use Rattle.vrx_core.specs.machine.Told.{layers_of}
use Rattle.vrx_core.specs.honest.Sender.{SentPacket, Media, Fec, Empty, Sender, wire_of}
use Rattle.vrx_core.specs.honest.WireForm.{content_sent}
use Rattle.vrx_core.specs.honest.HonestSender.{HasText, IsMedia, IsTrueFec, HonestSender}
use Rattle.vrx_core.specs.honest.Ready.{IsNumber}
use Rattle.vrx_core.specs.declared.settings.Settings.{Settings}
use Rattle.vrx_core.proofs.relation.MapLemmas.{at_put-here, at_put-other}
use Rattle.vrx_core.proofs.honest.NumberLemmas.{IsNumberFrom, IsNumberFrom-oldest, IsNumber-from_oldest, oldest}
use Rattle.vrx_core.proofs.honest.KeptLemmas.{IsKept, AreKept, kept-there, put-kept}
use Rattle.vrx_core.proofs.honest.PartLemmas.{IsMediaSent, IsSent, packet_sent, some_from, some_there}

-- the first that a function gives is what it gives of some number
pub first-some : {X : Type 0} (f : ℕ → Option X) (ns : List ℕ) (x : X) → first_of f ns ≡ Some x →
    (m : ℕ) × (f m ≡ Some x)
first-some f [] x is = absurd (none-some x is)
first-some {X = X} f (n ∷ ns) x is = by_value (f n) refl is (first-some f ns x) where
  by_value : (o : Option X) → f n ≡ o → option_or o (first_of f ns) ≡ Some x
      → (first_of f ns ≡ Some x → (m : ℕ) × (f m ≡ Some x)) → (m : ℕ) × (f m ≡ Some x)
  by_value None none same rest = rest same
  by_value (Some y) some same rest = (n, some ∙ same)

-- each of these is what is right under its number
abbrev pub EachRight : (ℕ → Option Content) → List (ℕ × Content) → Type 0
EachRight right [] = Unit {0}
EachRight right (repair ∷ more) = (right repair.0 ≡ Some repair.1) × EachRight right more

module _ (right : ℕ → Option Content) where
  -- right packets and one more
  repair-right : (packets : Packets) (repair : ℕ × Content) → AreRight right packets →
      right repair.0 ≡ Some repair.1 → AreRight right (with_repair repair packets)
  repair-right packets repair all here n x there = elim (cases_eq n repair.0) [
    | inl same ↦ ap right same ∙ here
        ∙ (sym (at_put-here repair.0 repair.1 packets) ∙ ap (λ k. at k (with_repair repair packets)) (sym same)
        ∙ there)
    | inr apart ↦ all n x (sym (at_put-other n repair.0 repair.1 packets apart) ∙ there)
  ]

  -- REPAIRS OF RIGHT PACKETS ARE RIGHT, if steps from right packets are
  pub repairs-right : (source : Source) (newest : Option ℕ) (dead : List ℕ) →
      StepsAreRight right source newest dead → (more : ℕ) (packets : Packets) → AreRight right packets →
      EachRight right (repairs source newest dead more packets)
  repairs-right source newest dead steps zero packets all = tt
  repairs-right source newest dead steps (suc more) packets all =
      by_value (first_step source newest dead packets) refl (repairs-right source newest dead steps more) where
        by_value : (o : Option (ℕ × Content)) → first_step source newest dead packets ≡ o →
            ((others : Packets) → AreRight right others → EachRight right (repairs source newest dead more others))
            → EachRight right
            (option_map_or (λ repair. repair ∷ repairs source newest dead more (with_repair repair packets)) o [])
        by_value None is later = tt
        by_value (Some repair) is later =
            let m = first-some (step source newest dead packets) (map (λ entry. entry.0) packets) repair is in
            let here : right repair.0 ≡ Some repair.1 = steps packets m.0 repair all m.1 in
            (here, later (with_repair repair packets) (repair-right packets repair all here))

-- A content as it is right under a number. A FEC packet is right only under one that leaves room for its base before
-- it.
abbrev right_content : ℕ → Content → Option Content
right_content n (contents.Media text) = Some (contents.Media text)
right_content n (contents.Fec payload) = if nat_le HALF_SPACE n then Some (contents.Fec payload) else None
right_content n contents.Empty = Some contents.Empty

-- what is right under a number, of a packet
abbrev right_packet : ℕ → SentPacket → Option Content
right_packet n packet = right_content n (content_sent packet)

-- what is right under a number, if this packet of the sender was taken first
abbrev right_from : Sender → ℕ → ℕ → Option Content
right_from sender first n = if nat_le (wire_of sender first + 65536) (n + first)
    then option_and_then (right_packet n) (slice_get sender.packets ((n + first) - (wire_of sender first + 65536)))
    else None

-- what is right under a number, once these packets were taken: the content of the sender's packet that the receiver
-- knows by it
abbrev pub right_of : Sender → List ℕ → ℕ → Option Content
right_of sender [] n = None
right_of sender (first ∷ []) n = right_from sender first n
right_of sender (j ∷ k ∷ js) n = right_of sender (k ∷ js) n

-- a value under a test
tested : (b : Bool) (o : Option Content) (x : Content) → (if b then o else None) ≡ Some x →
    (b ≡ true) × (o ≡ Some x)
tested true o x is = (refl, is)
tested false o x is = absurd (none-some x is)

-- a content that is right is itself
right-same : (n : ℕ) (content x : Content) → right_content n content ≡ Some x → x ≡ content
right-same n (contents.Media text) x is = sym (same_Some (contents.Media text) x is)
right-same n (contents.Fec payload) x is =
    sym (same_Some (contents.Fec payload) x (tested (nat_le HALF_SPACE n) (Some (contents.Fec payload)) x is).1)
right-same n contents.Empty x is = sym (same_Some contents.Empty x is)

-- and it is right under a number that isn't less than half of the space
same-right : (n : ℕ) (content : Content) → HALF_SPACE ≤ n → right_content n content ≡ Some content
same-right n (contents.Media text) far = refl
same-right n (contents.Fec payload) far =
    ap (λ b. if b then Some (contents.Fec payload) else None) (le-leb HALF_SPACE n far)
same-right n contents.Empty far = refl

-- what a packet carries
carries : (n : ℕ) (o : Option SentPacket) (x : Content) → option_and_then (right_packet n) o ≡ Some x →
    IsSomeAnd o (λ packet. x ≡ content_sent packet)
carries n None x is = absurd (none-some x is)
carries n (Some packet) x is = right-same n (content_sent packet) x is

-- and back
carried-is : (n : ℕ) (o : Option SentPacket) (x : Content) → right_content n x ≡ Some x →
    IsSomeAnd o (λ packet. x ≡ content_sent packet) → option_and_then (right_packet n) o ≡ Some x
carried-is n None x right is = absurd is
carried-is n (Some packet) x right is = ap (right_content n) (sym is) ∙ right

-- the number of a FEC packet that is right isn't less than half of the space
fec-far : (n : ℕ) (o : Option SentPacket) (payload : List ℕ) →
    option_and_then (right_packet n) o ≡ Some (contents.Fec payload) → HALF_SPACE ≤ n
fec-far n None payload is = absurd (none-some (contents.Fec payload) is)
fec-far n (Some packet) payload is =
    by_content (content_sent packet) (right-same n (content_sent packet) (contents.Fec payload) is) is where
      by_content : (content : Content) → contents.Fec payload ≡ content →
          right_content n content ≡ Some (contents.Fec payload) → HALF_SPACE ≤ n
      by_content (contents.Media text) same h = absurd (cc)
      by_content (contents.Fec other) same h = leb-true HALF_SPACE n
          (tested (nat_le HALF_SPACE n) (Some (contents.Fec other)) (contents.Fec payload) h).0
      by_content contents.Empty same h = absurd (cc)

module _ (sender : Sender) where
  -- what is right is the sender's
  pub right-kept : (js : List ℕ) (n : ℕ) (x : Content) → right_of sender js n ≡ Some x → IsKept sender js (n, x)
  right-kept [] n x is = absurd (none-some x is)
  right-kept (first ∷ []) n x is =
      let c : ℕ = wire_of sender first + 65536 in
      let place : ℕ = (n + first) - c in
      let t = tested (nat_le c (n + first)) (option_and_then (right_packet n) (slice_get sender.packets place)) x is in
      let upto : c ≤ n + first = leb-true c (n + first) t.0 in
      record { place = place; carried = carries n (slice_get sender.packets place) x t.1; numbered = omega arith }
  right-kept (j ∷ k ∷ js) n x is =
      let later : IsKept sender (k ∷ js) (n, x) = right-kept (k ∷ js) n x is in
      record { place = later.place; carried = later.carried; numbered = later.numbered }

  -- the number of a FEC packet that is right isn't less than half of the space
  right-far : (js : List ℕ) (n : ℕ) (payload : List ℕ) → right_of sender js n ≡ Some (contents.Fec payload) →
      HALF_SPACE ≤ n
  right-far [] n payload is = absurd (none-some (contents.Fec payload) is)
  right-far (first ∷ []) n payload is =
      let c : ℕ = wire_of sender first + 65536 in
      let place : ℕ = (n + first) - c in
      let t = tested (nat_le c (n + first)) (option_and_then (right_packet n) (slice_get sender.packets place))
      (contents.Fec payload) is in
      fec-far n (slice_get sender.packets place) payload t.1
  right-far (j ∷ k ∷ js) n payload is = right-far (k ∷ js) n payload is

  -- and what is the sender's is right
  pub kept-right : (js : List ℕ) (n : ℕ) (x : Content) → right_content n x ≡ Some x → IsKept sender js (n, x) →
      right_of sender js n ≡ Some x
  kept-right [] n x right kept = absurd kept.numbered
  kept-right (first ∷ []) n x right kept =
      let c : ℕ = wire_of sender first + 65536 in
      let number : n + first ≡ c + kept.place = kept.numbered in
      let place_is : kept.place ≡ (n + first) - c = omega arith in
      ap (λ b. if b then option_and_then (right_packet n) (slice_get sender.packets ((n + first) - c)) else None)
      (le-leb c (n + first) (omega arith))
      ∙ ap (λ i. option_and_then (right_packet n) (slice_get sender.packets i)) (sym place_is)
      ∙ carried-is n (slice_get sender.packets kept.place) x right kept.carried
  kept-right (j ∷ k ∷ js) n x right kept =
      kept-right (k ∷ js) n x right
      (record { place = kept.place; carried = kept.carried; numbered = kept.numbered })

  -- a content that is there is that of the sender's packet
  there-carried : (o : Option SentPacket) (found : Option Content) (x : Content) → found ≡ Some x →
      IsSomeAnd o (λ packet. found ≡ Some (content_sent packet)) → IsSomeAnd o (λ packet. x ≡ content_sent packet)
  there-carried None found x is there = absurd there
  there-carried (Some packet) found x is there = same_Some x (content_sent packet) (sym is ∙ there)

  -- the entry of a number is the sender's
  pub entry-kept : (js : List ℕ) (packets : Packets) (n : ℕ) (x : Content) → AreKept sender js packets →
      at n packets ≡ Some x → IsKept sender js (n, x)
  entry-kept js packets n x kept is =
      let k = kept-there sender js n packets kept (ap is_some is) in
      record {
        place = k.0;
        carried = there-carried (slice_get sender.packets k.0) (at n packets) x is k.2;
        numbered = k.1;
      }

  -- packets that are the sender's are right, if their numbers aren't less than half of the space
  pub are-right : (js : List ℕ) (packets : Packets) → ((n : ℕ) → is_available n packets ≡ true → HALF_SPACE ≤ n) →
      AreKept sender js packets → AreRight (right_of sender js) packets
  are-right js packets far kept n x is =
      kept-right js n x (same-right n x (far n (ap is_some is))) (entry-kept js packets n x kept is)

  -- right repairs are the sender's
  pub each-kept : (js : List ℕ) (made : List (ℕ × Content)) → EachRight (right_of sender js) made →
      AreKept sender js made
  each-kept js [] each = tt
  each-kept js (repair ∷ more) each = (right-kept js repair.0 repair.1 each.0, each-kept js more each.1)

  -- the packets with them are the sender's
  pub repaired-kept : (js : List ℕ) (made packets : Packets) → AreKept sender js made → AreKept sender js packets →
      AreKept sender js (with_repairs made packets)
  repaired-kept js [] packets each kept = kept
  repaired-kept js (repair ∷ more) packets each kept =
      repaired-kept js more (with_repair repair packets) each.1
      (put-kept sender js repair.0 repair.1 packets each.0 kept)

-- a packet that brings media is media, with this text
media_is : (packet : SentPacket) (text : List ℕ) → contents.Media text ≡ content_sent packet → IsMediaSent packet
media_is (Media f k other) text is = tt
media_is (Fec payload) text is = absurd (cc)
media_is Empty text is = absurd (cc)

-- the text of media
text_in : Content → List ℕ
text_in (contents.Media text) = text
text_in (contents.Fec payload) = payload
text_in contents.Empty = []

-- a packet that brings a FEC payload is a FEC packet with it
fec_is : (packet : SentPacket) (payload : List ℕ) → contents.Fec payload ≡ content_sent packet →
    packet ≡ Fec payload
unfolding text_in
fec_is (Media f k text) payload is = absurd (cc)
fec_is (Fec other) payload is = ap Fec (sym (ap text_in is))
fec_is Empty payload is = absurd (cc)

-- a packet with a text brings it
brings_text : (text : List ℕ) (packet : SentPacket) → HasText text packet →
    contents.Media text ≡ content_sent packet
brings_text text (Media f k other) same = ap contents.Media (sym same)
brings_text text (Fec payload) same = absurd same
brings_text text Empty same = absurd same

-- the texts are the same
same_text : (packet : SentPacket) (text other : List ℕ) (f k : ℕ) → packet ≡ Media f k other →
    contents.Media text ≡ content_sent packet → text ≡ other
unfolding text_in
same_text packet text other f k is same = ap text_in (same ∙ ap content_sent is)

module _ (settings : Settings) (codec : Meaning) (sender : Sender) (honest : HonestSender settings codec sender)
    (js : List ℕ) where
  -- media of the sender is a media packet, under its number
  pub record IsMediaUnder (n : ℕ) (text : List ℕ) : Type 0 where
    pub place : ℕ
    pub is_sent : IsSent settings codec sender honest place
    pub numbered : IsNumber sender js place n
    pub same : text ≡ is_sent.carried.text

  pub media-under : (n : ℕ) (text : List ℕ) → IsKept sender js (n, contents.Media text) → IsMediaUnder n text
  media-under n text kept =
      let p : (packet : SentPacket) × (slice_get sender.packets kept.place ≡ Some packet)
      × (contents.Media text ≡ content_sent packet) =
      some_there (λ packet. contents.Media text ≡ content_sent packet) (slice_get sender.packets kept.place)
      kept.carried in
      let s : IsSent settings codec sender honest kept.place =
      packet_sent settings codec sender honest kept.place p.0 p.1 (media_is p.0 text p.2) in
      record {
        place = kept.place;
        is_sent = s;
        numbered = kept.numbered;
        same = same_text p.0 text s.carried.text s.f s.k
            (same_Some p.0 (Media s.f s.k s.carried.text) (sym p.1 ∙ s.part.sent)) p.2;
      }

  -- a number has the low 16 bits of its packet's wire number
  low-bits : (i n : ℕ) → IsNumber sender js i n → wire_of sender i ≡ n % 65536
  low-bits i n numbered = by_taken js numbered where
    by_taken : (taken : List ℕ) → IsNumber sender taken i n → wire_of sender i ≡ n % 65536
    by_taken [] is = absurd is
    by_taken (j ∷ others) is =
        low (oldest j others) (IsNumberFrom-oldest sender j others i n is) where
          low : (first : ℕ) → IsNumberFrom sender first i n → wire_of sender i ≡ n % 65536
          low first from = omega arith

  -- each text that is right is the source's
  pub right-media : IsRightMedia (source_in settings codec) (right_of sender js)
  right-media n text is =
      let m : IsMediaUnder n text = media-under n text (right-kept sender js n (contents.Media text) is) in
      let media : IsMedia settings codec (wire_of sender m.place) m.is_sent.carried = m.is_sent.part.media in
      subst (IsTextOf (source_in settings codec) n) (sym m.same) (record {
        packet = m.is_sent.carried.packet;
        below = media.below;
        size = omega (arith, media.size);
        reads = media.reads;
        number = media.number ∙ low-bits m.place n m.numbered;
        ssrc = media.source;
      })

  -- the number of a packet beside another
  number-beside : (i j n m back offset : ℕ) → IsNumber sender js i n → j + back ≡ i + offset → back ≤ n →
      m ≡ (n - back) + offset → IsNumber sender js j m
  number-beside i j n m back offset numbered is within is_m = by_taken js numbered where
    by_taken : (taken : List ℕ) → IsNumber sender taken i n → IsNumber sender taken j m
    by_taken [] none = absurd none
    by_taken (k ∷ others) there =
        let from : IsNumberFrom sender (oldest k others) i n = IsNumberFrom-oldest sender k others i n there in
        let beside : IsNumberFrom sender (oldest k others) j m = omega (arith, from, is, within, is_m) in
        IsNumber-from_oldest sender k others j m beside

  -- the texts that true parity protects are right
  texts-right : (i n back : ℕ) (texts : Texts) → IsNumber sender js i n → back ≤ n →
      All (λ t. (j : ℕ) × (j + back ≡ i + t.0) × IsSomeAnd (slice_get sender.packets j) (HasText t.1)) texts →
      All (λ t. right_of sender js ((n - back) + t.0) ≡ Some (contents.Media t.1)) texts
  texts-right i n back texts numbered within all = All-from_recursion _ texts
      (by_recursion texts (recursion_from_All _ texts all)) where
        one : (t : ℕ × List ℕ) → (j : ℕ) × (j + back ≡ i + t.0) × IsSomeAnd (slice_get sender.packets j) (HasText t.1) →
            right_of sender js ((n - back) + t.0) ≡ Some (contents.Media t.1)
        one t p =
            let q : (packet : SentPacket) × (slice_get sender.packets p.0 ≡ Some packet) × HasText t.1 packet =
            some_there (HasText t.1) (slice_get sender.packets p.0) p.2 in
            kept-right sender js ((n - back) + t.0) (contents.Media t.1) refl (record {
              place = p.0;
              carried = some_from (λ packet. contents.Media t.1 ≡ content_sent packet)
                  (slice_get sender.packets p.0) q.0 q.1 (brings_text t.1 q.0 q.2);
              numbered = number-beside i p.0 n ((n - back) + t.0) back t.0 numbered p.1 within refl;
            })

        by_recursion : (ts : Texts) →
            AllByRecursion (λ t. (j : ℕ) × (j + back ≡ i + t.0)
            × IsSomeAnd (slice_get sender.packets j) (HasText t.1)) ts →
            AllByRecursion (λ t. right_of sender js ((n - back) + t.0) ≡ Some (contents.Media t.1)) ts
        by_recursion [] each = tt
        by_recursion (t ∷ ts) each = (one t each.0, by_recursion ts each.1)

  -- and each FEC payload that is right is true parity of right texts
  pub right-parity : IsRightParity (right_of sender js)
  right-parity m payload is =
      let kept : IsKept sender js (m, contents.Fec payload) = right-kept sender js m (contents.Fec payload) is in
      let far : HALF_SPACE ≤ m = right-far sender js m payload is in
      let p = some_there (λ packet. contents.Fec payload ≡ content_sent packet)
      (slice_get sender.packets kept.place) kept.carried in
      let t : IsTrueFec sender kept.place payload =
      honest.parity kept.place payload (p.1 ∙ ap Some (fec_is p.0 payload p.2)) in
      let low : wire_of sender kept.place ≡ m % 65536 = low-bits kept.place m kept.numbered in
      record {
        says = t.says;
        base = m - t.back;
        texts = t.texts;
        below = t.below;
        spells = subst (λ (own : ℕ). IsPayload payload own t.says) low t.spells;
        base_is = base-is t.says.base t.back m (wire_of sender kept.place) t.near far low t.base_is;
        before = omega arith;
        near = omega (arith, far, t.near);
        true_is = t.true_is;
        texts_right = texts-right kept.place m t.back t.texts kept.numbered (omega (arith, far, t.near)) t.protects;
      } where
        base-is : (base back m own : ℕ) → back < HALF_SPACE → HALF_SPACE ≤ m → own ≡ m % 65536 →
            base ≡ (own + 65536 - back) % 65536 → base ≡ (m - back) % 65536
        base-is base back m own near far low is = omega arith

  -- so steps from right packets are right, and repairs of the sender's packets are the sender's
  pub made-kept : TrueRepairs → (newest : Option ℕ) (dead : List ℕ) (more : ℕ) (packets : Packets) →
      ((n : ℕ) → is_available n packets ≡ true → HALF_SPACE ≤ n) → AreKept sender js packets →
      AreKept sender js (repairs (source_in settings codec) newest dead more packets)
  made-kept truth newest dead more packets far kept =
      each-kept sender js (repairs (source_in settings codec) newest dead more packets)
      (repairs-right (right_of sender js) (source_in settings codec) newest dead
      (truth (right_of sender js) (source_in settings codec) right-media right-parity newest dead) more packets
      (are-right sender js packets far kept))

  -- and so are those of a window
  pub window-kept : TrueRepairs → (window : Contents Content) →
      ((n : ℕ) → is_available n window.packets ≡ true → HALF_SPACE ≤ n) → AreKept sender js window.packets →
      AreKept sender js (repairs_in (source_in settings codec) window)
  unfolding repairs_in
  window-kept truth window far kept = made-kept truth window.newest window.dead WINDOW window.packets far kept

  -- what media says, by its text
  pub says-layers : (text : List ℕ) (packet : Packet) (part : Part) → read text ≡ Some packet →
      codec.read packet.payload ≡ Ok part → layers_of codec (contents.Media text) ≡ part.layers
  says-layers text packet part reads part_reads =
      ap (λ o. option_and_then (λ piece. piece.part.layers) (o >>= finish)) reads
      ∙ ap (λ r. option_and_then (λ (piece : Piece). piece.part.layers) (result_ok r >>= whole packet)) part_reads where
        whole : Packet → Part → Option Piece
        whole packet part = Some (record { number = 0; packet = packet; part = part })

        finish : Packet → Option Piece
        finish packet = result_ok (codec.read packet.payload) >>= whole packet
