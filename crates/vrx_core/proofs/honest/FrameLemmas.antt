-- The runs among an honest sender's packets are its frames.
use Rattle.std.proofs.Common.{◌≡◌, ◌↔◌, ℕ, zero, suc, ◌+◌, ◌-◌, ◌<◌, ◌≤◌, ◌⊎◌, inl, inr, Bool, true, ◌||◌, List, [], ◌∷◌, map, length, slice_get, Contains, Option, Some, IsSomeAnd, is_some, Result, Ok, Err, refl, sym, ◌∙◌, ap, subst, arith}
use Rattle.std.specs.List.{AllByRecursion, list_any}
use Rattle.std.proofs.lemmas.Option.{same_Some}
use Rattle.std.proofs.lemmas.Bool.{true≢false, cases_order}
use Rattle.std.proofs.lemmas.List.{length-map}
use Rattle.std.proofs.lemmas.List.Elements.{All-from_recursion, recursion_from_All}
use Rattle.vrx_rtp.specs.Packet.{Packet}
use Rattle.vrx_rtp.specs.Reading.{read}
use Rattle.vrx_codec.specs.Part.{Part}
use Rattle.vrx_codec.specs.declared.part.Start.{Start}
use Rattle.vrx_codec.specs.declared.part.Start.TheVariants.{Yes, No, ByNeighbour}
use Rattle.vrx_codec.specs.declared.fault.JoinFault.{JoinFault}
use Rattle.vrx_codec.specs.Meaning.{Meaning}
use Rattle.vrx_codec.specs.declared.run.Place.{Place}
use Rattle.vrx_window.specs.Content.{Content}
use Rattle.vrx_window.specs.Content as contents
use Rattle.vrx_window.specs.Window.{at, is_available}
use Rattle.vrx_frames.specs.Run.{Packets, Run, Piece, begins, is_passed, is_start}
use Rattle.vrx_frames.specs.IsRun.{IsPiece, ArePieces, IsRunBy}
use Rattle.vrx_core.specs.machine.Told.{Told, place_told}
use Rattle.vrx_core.specs.honest.Sender.{SentFrame, SentPacket, Media, Fec, Empty, Sender, IsOf}
use Rattle.vrx_core.specs.honest.WireForm.{content_sent}
use Rattle.vrx_core.specs.honest.HonestSender.{CarriedPart, SaysRightly, IsPart, AreParts, Travels, HonestSender}
use Rattle.vrx_core.specs.honest.Ready.{IsNumber}
use Rattle.vrx_core.specs.honest.HonestRuns.{IsFrameRun, IsSamePlace}
use Rattle.vrx_core.specs.declared.settings.Settings.{Settings}
use Rattle.vrx_core.proofs.machine.TestLemmas.{list_any-from, list_any-to, same_test}
use Rattle.vrx_core.proofs.honest.NumberLemmas.{IsNumberFrom, IsNumberFrom-oldest, IsNumber-from_oldest, oldest}
use Rattle.vrx_core.proofs.honest.KeepsLemmas.{Keeps, one-place}
use Rattle.vrx_core.proofs.honest.TellLemmas.{ToldRightly}
use Rattle.vrx_core.proofs.honest.PlaceLemmas.{available-came, same-place}
use Rattle.vrx_core.proofs.honest.KeptLemmas.{AreKept, kept-there}
use Rattle.vrx_core.proofs.honest.PartLemmas.{IsMediaSent, IsSent, packet_sent, frame_travels, frame_spans, size, some_from, some_holds, some_there}

-- the packet so many places later has the number so much greater
pub number_later : (sender : Sender) (js : List ℕ) (i n d j m : ℕ) → IsNumber sender js i n → j ≡ i + d → m ≡ n + d →
    IsNumber sender js j m
number_later sender [] i n d j m is is_j is_m = absurd is
number_later sender (k ∷ js) i n d j m is is_j is_m =
    let c : IsNumberFrom sender (oldest k js) i n = IsNumberFrom-oldest sender k js i n is in
    let e : IsNumberFrom sender (oldest k js) j m = omega arith in
    IsNumber-from_oldest sender k js j m e

-- an Ok holds one value
pub same_ok : {A E : Type 0} (x y : A) → ◌≡◌ {A = Result A E} (Ok x) (Ok y) → x ≡ y
same_ok x y e = ap (λ r. held r x) e where
  held : {A E : Type 0} → Result A E → A → A
  held (Ok z) d = z
  held (Err fault) d = d

-- media has one text
abbrev pub media_text : Content → List ℕ
media_text (contents.Media text) = text
media_text (contents.Fec payload) = payload
media_text contents.Empty = []

-- a packet that brings media is media
pub media_sent : (packet : SentPacket) (text : List ℕ) → content_sent packet ≡ contents.Media text →
    IsMediaSent packet
media_sent (Media f k other) text is = tt
media_sent (Fec payload) text is = absurd (cc)
media_sent Empty text is = absurd (cc)

-- what its pieces say, and what its parts say
abbrev said : List Piece → List Part
said pieces = map (λ p. p.part) pieces

abbrev meant : List CarriedPart → List Part
meant parts = map (λ c. c.part) parts

-- what decides of a number whose payload leaves open whether a frame begins there
abbrev pub is_behind : Option ℕ → (ℕ → Bool) → ℕ → Bool
is_behind front began n = is_passed front (n - 1) || began n

-- a test of a mapped list
any_map : {X Y : Type 0} (f : X → Y) (test : Y → Bool) (xs : List X) →
    list_any test (map f xs) ≡ list_any (λ x. test (f x)) xs
any_map f test [] = refl
any_map f test (x ∷ xs) = ap (λ b. test (f x) || b) (any_map f test xs)

-- the first number, or one after it
first_or_later : (n m : ℕ) → n ≤ m → (n ≡ m) ⊎ (n + 1 ≤ m)
first_or_later n m from =
    elim (cases_order n m) [
      | inl same ↦ inl same
      | inr other ↦ elim other [ inl less ↦ inr (omega arith) | inr more ↦ absurd (omega arith) ]
    ]

-- each number of pieces is available
pub pieces-present : (codec : Meaning) (packets : Packets) (n m : ℕ) (pieces : List Piece) →
    ArePieces codec packets n pieces → n ≤ m → m < n + length pieces → is_available m packets ≡ true
pieces-present codec packets n m [] are from below = absurd (omega arith)
pieces-present codec packets n m (piece ∷ pieces) are from below = elim (first_or_later n m from) [
  | inl same ↦ ap (λ k. is_available k packets) (sym same) ∙ ap is_some are.0.media
  | inr later ↦ pieces-present codec packets (n + 1) m pieces are.1 later (omega arith)
]

module _ (settings : Settings) (codec : Meaning) (sender : Sender) (js : List ℕ) (packets : Packets)
    (kept : AreKept sender js packets) where
  -- what is available at the number of a packet is its text
  at-part : (f : ℕ) (frame : SentFrame) (count k i n : ℕ) (c : CarriedPart) → IsNumber sender js i n →
      IsPart settings codec sender f frame count k i c → is_available n packets ≡ true →
      at n packets ≡ Some (contents.Media c.text)
  at-part f frame count k i n c numbered part available =
      let p = kept-there sender js n packets kept available in
      let there : IsSomeAnd (slice_get sender.packets i) (λ packet. at n packets ≡ Some (content_sent packet)) =
      subst (λ (x : ℕ). IsSomeAnd (slice_get sender.packets x)
      (λ packet. at n packets ≡ Some (content_sent packet))) (one-place sender js p.0 i n p.1 numbered) p.2 in
      some_holds (λ packet. at n packets ≡ Some (content_sent packet)) (slice_get sender.packets i)
      (Media f k c.text) part.sent there

  -- a piece at the number of a packet is the packet's, and says what it says
  piece-packet : (f : ℕ) (frame : SentFrame) (count k i n : ℕ) (c : CarriedPart) (p : Piece) →
      IsNumber sender js i n → IsPart settings codec sender f frame count k i c → IsPiece codec packets n p →
      p.packet ≡ c.packet
  piece-packet f frame count k i n c p numbered part piece =
      let same : piece.text ≡ c.text =
      ap media_text (same_Some (contents.Media piece.text) (contents.Media c.text)
      (sym piece.media ∙ at-part f frame count k i n c numbered part (ap is_some piece.media))) in
      same_Some p.packet c.packet (sym piece.reads ∙ ap read same ∙ part.media.reads)

  piece-part : (f : ℕ) (frame : SentFrame) (count k i n : ℕ) (c : CarriedPart) (p : Piece) → IsNumber sender js i n →
      IsPart settings codec sender f frame count k i c → IsPiece codec packets n p → p.part ≡ c.part
  piece-part f frame count k i n c p numbered part piece =
      same_ok p.part c.part (sym piece.part_reads
      ∙ ap (λ (q : Packet). codec.read q.payload) (piece-packet f frame count k i n c p numbered part piece)
      ∙ part.media.part_reads)

  -- pieces up to a marker, and parts up to the last, say the same
  same_said : (f : ℕ) (frame : SentFrame) (count k i n last : ℕ) (cs : List CarriedPart) (ps : List Piece) → 0
      < length cs → 0 < length ps → k + length cs ≡ count → n + length ps ≡ last + 1 →
      AreParts settings codec sender f frame count k i cs → ArePieces codec packets n ps → IsNumber sender js i n
      → AllByRecursion (λ p. (p.packet.marker ≡ true) ↔ (p.number ≡ last)) ps → said ps ≡ meant cs
  same_said f frame count k i n last [] ps some some' of to parts pieces numbered marker = absurd (omega arith)
  same_said f frame count k i n last (c ∷ cs) [] some some' of to parts pieces numbered marker = absurd (omega arith)
  same_said f frame count k i n last (c ∷ []) (p ∷ []) some some' of to parts pieces numbered marker =
      ap (λ x. x ∷ []) (piece-part f frame count k i n c p numbered parts.0 pieces.0)
  same_said f frame count k i n last (c ∷ []) (p ∷ q ∷ ps) some some' of to parts pieces numbered marker =
      let marked : p.packet.marker ≡ true =
      ap (λ (x : Packet). x.marker) (piece-packet f frame count k i n c p numbered parts.0 pieces.0)
      ∙ parts.0.marker.1 (omega arith) in
      let at_last : p.number ≡ last = marker.0.0 marked in
      let here : p.number ≡ n = pieces.0.number in
      absurd (omega arith)
  same_said f frame count k i n last (c ∷ d ∷ cs) (p ∷ []) some some' of to parts pieces numbered marker =
      let here : p.number ≡ n = pieces.0.number in
      let marked : c.packet.marker ≡ true =
      sym (ap (λ (x : Packet). x.marker) (piece-packet f frame count k i n c p numbered parts.0 pieces.0))
      ∙ marker.0.1 (omega arith) in
      let end : k + 1 ≡ count = parts.0.marker.0 marked in
      absurd (omega arith)
  same_said f frame count k i n last (c ∷ d ∷ cs) (p ∷ q ∷ ps) some some' of to parts pieces numbered marker =
      let first : p.part ≡ c.part = piece-part f frame count k i n c p numbered parts.0 pieces.0 in
      let rest : said (q ∷ ps) ≡ meant (d ∷ cs) =
      same_said f frame count (k + 1) (i + 1) (n + 1) last (d ∷ cs) (q ∷ ps) (omega arith) (omega arith)
      (omega arith) (omega arith) parts.1 pieces.1
      (number_later sender js i n 1 (i + 1) (n + 1) numbered refl refl) marker.1 in
      ap (λ x. x ∷ said (q ∷ ps)) first ∙ ap (λ xs. c.part ∷ xs) rest

  module _ (honest : HonestSender settings codec sender) where
    -- from a number on, none but a first part stands after the end of a frame
    abbrev pub FirstBehind : Option ℕ → (ℕ → Bool) → ℕ → Type 0
    FirstBehind front began from = (i n : ℕ) → from ≤ n → is_available n packets ≡ true → IsNumber sender js i n →
        (s : IsSent settings codec sender honest i) → is_behind front began n ≡ true → s.k ≡ 0

    -- a part that is a start is the first part of a frame
    start_first : (front : Option ℕ) (began : ℕ → Bool) (from i n : ℕ) (s : IsSent settings codec sender honest i) →
        FirstBehind front began from → from ≤ n → is_available n packets ≡ true → IsNumber sender js i n →
        begins s.carried.part.start (is_behind front began n) ≡ true → s.k ≡ 0
    start_first front began from i n s first upto available numbered start = by_start s.carried.part.start refl where
      by_start : (x : Start) → s.carried.part.start ≡ x → s.k ≡ 0
      by_start Yes is = subst (SaysRightly s.k) is s.part.start
      by_start No is = absurd (true≢false (sym start ∙ ap (λ x. begins x (is_behind front began n)) is))
      by_start ByNeighbour is =
          first i n upto available numbered s (sym (ap (λ x. begins x (is_behind front began n)) is) ∙ start)

    -- a first piece that is a start is the first part of a frame
    begins_first : (front : Option ℕ) (began : ℕ → Bool) (n i : ℕ) (p : Piece)
        (s : IsSent settings codec sender honest i) → FirstBehind front began n → IsNumber sender js i n →
        IsPiece codec packets n p → is_start front began p ≡ true → s.k ≡ 0
    begins_first front began n i p s first numbered piece start =
        let says : p.part.start ≡ s.carried.part.start =
        ap (λ (x : Part). x.start)
        (piece-part s.f s.frame (size settings codec sender honest s.f) s.k i n s.carried p numbered s.part
        piece) in
        start_first front began n i n s first (omega arith) (ap is_some piece.media) numbered
        (ap (λ x. begins x (is_behind front began n)) (sym says)
        ∙ ap (λ (m : ℕ). begins p.part.start (is_behind front began m)) (sym piece.number) ∙ start)

    -- a keyframe, by its pieces and by its parts
    same_key : (run : Run) (frame : SentFrame) (ps : List Piece) (cs : List CarriedPart) → said ps ≡ meant cs →
        (run.key ≡ true) ↔ ((p : Piece) × Contains ps p × (p.part.key ≡ true)) →
        (frame.key ≡ true) ↔ ((c : CarriedPart) × Contains cs c × (c.part.key ≡ true)) → run.key ≡ frame.key
    same_key run frame ps cs same run_key frame_key = same_test run.key frame.key
        (λ h. let p = run_key.0 h in
        frame_key.1 (list_any-from (λ c. c.part.key) cs (sym agree ∙ list_any-to (λ q. q.part.key) ps p.0 p.1 p.2)))
        (λ h. let c = frame_key.0 h in
        run_key.1 (list_any-from (λ q. q.part.key) ps (agree ∙ list_any-to (λ q. q.part.key) cs c.0 c.1 c.2))) where
          agree : list_any (λ p. p.part.key) ps ≡ list_any (λ c. c.part.key) cs
          agree = sym (any_map (λ p. p.part) (λ x. x.key) ps) ∙ ap (list_any (λ (x : Part). x.key)) same
              ∙ any_map (λ c. c.part) (λ x. x.key) cs

    -- a run whose first piece is a part of a frame is the frame
    run_of_frame : (rep : ℕ → Type 0) (told : Told) → Keeps sender js rep packets → ToldRightly sender js rep told →
        (front : Option ℕ) (began : ℕ → Bool) (run : Run)
        (r : IsRunBy codec (place_told told) (is_start front began) packets run) (i : ℕ)
        (s : IsSent settings codec sender honest i) (p : Piece) (ps : List Piece) →
        FirstBehind front began run.first → r.pieces ≡ p ∷ ps → IsNumber sender js i run.first →
        IsFrameRun sender js s.f run
    run_of_frame rep told keeps right front began run r i s p ps first_behind is numbered =
        let t : Travels settings codec sender s.f s.frame (honest.place s.f) (honest.parts s.f) =
        frame_travels settings codec sender honest s.f s.frame s.sent in
        let pieces : ArePieces codec packets run.first (p ∷ ps) =
        subst (ArePieces codec packets run.first) is r.from_first in
        let to : run.first + length (p ∷ ps) ≡ run.last + 1 = sym (ap (λ xs. run.first + length xs) is) ∙ r.to_last in
        let start : AllByRecursion (λ q. (is_start front began q ≡ true) ↔ (q.number ≡ run.first)) (p ∷ ps) =
        subst (AllByRecursion (λ q. (is_start front began q ≡ true) ↔ (q.number ≡ run.first))) is
        (recursion_from_All _ r.pieces r.start) in
        let marker : AllByRecursion (λ q. (q.packet.marker ≡ true) ↔ (q.number ≡ run.last)) (p ∷ ps) =
        subst (AllByRecursion (λ q. (q.packet.marker ≡ true) ↔ (q.number ≡ run.last))) is
        (recursion_from_All _ r.pieces r.marker) in
        let ts : AllByRecursion (λ q. q.packet.ts ≡ run.ts) (p ∷ ps) =
        subst (AllByRecursion (λ q. q.packet.ts ≡ run.ts)) is (recursion_from_All _ r.pieces r.ts) in
        let first : s.k ≡ 0 =
        begins_first front began run.first i p s first_behind numbered pieces.0 (start.0.1 pieces.0.number) in
        let here : honest.place s.f + s.k ≡ i = s.here in
        let begin : IsNumber sender js (honest.place s.f) run.first =
        number_later sender js i run.first 0 (honest.place s.f) run.first numbered (omega arith) (omega arith) in
        let some : 0 < length (honest.parts s.f) = t.some in
        let same : said (p ∷ ps) ≡ meant (honest.parts s.f) =
        same_said s.f s.frame (length (honest.parts s.f)) 0 (honest.place s.f) run.first run.last
        (honest.parts s.f) (p ∷ ps) some (omega arith) (omega arith) to t.each pieces begin marker in
        let long : length (p ∷ ps) ≡ length (honest.parts s.f) = sym (length-map (p ∷ ps) (λ (q : Piece). q.part))
        ∙ ap length same ∙ length-map (honest.parts s.f) (λ (c : CarriedPart). c.part) in
        let packet_is : p.packet ≡ s.carried.packet =
        piece-packet s.f s.frame
        (size settings codec sender honest s.f) s.k i run.first s.carried p numbered s.part pieces.0 in
        record {
          frame = s.frame;
          sent = s.sent;
          numbered = record {
            from = honest.place s.f;
            to = honest.place s.f + length (honest.parts s.f) - 1;
            spans = frame_spans settings codec sender honest s.f s.frame s.sent;
            first_is = begin;
            last_is = number_later sender js (honest.place s.f) run.first (length (honest.parts s.f) - 1)
                (honest.place s.f + length (honest.parts s.f) - 1) run.last begin (omega arith) (omega arith);
          };
          ts = sym ts.0 ∙ ap (λ (x : Packet). x.ts) packet_is ∙ s.part.timestamp;
          key = same_key run s.frame r.pieces (honest.parts s.f) (ap said is ∙ same) r.key t.key;
          layers = subst (λ (o : Option Place). IsSamePlace o s.frame.layers) (sym r.layers)
              (same-place sender js rep told right i run.first s.f s.frame s.sent
              (available-came sender js rep packets i run.first keeps numbered (ap is_some pieces.0.media)) numbered
              (some_from (IsOf s.f) (slice_get sender.packets i) (Media s.f s.k s.carried.text) s.part.sent refl));
          bytes = same_ok {E = JoinFault} run.bytes s.frame.bytes
              (sym r.joins ∙ ap codec.join (ap said is ∙ same) ∙ t.joins);
        }

    -- a run is a frame of the sender
    pub run-frame : (rep : ℕ → Type 0) (told : Told) → Keeps sender js rep packets → ToldRightly sender js rep told →
        (front : Option ℕ) (began : ℕ → Bool) (run : Run) → FirstBehind front began run.first →
        IsRunBy codec (place_told told) (is_start front began) packets run → (f : ℕ) × IsFrameRun sender js f run
    run-frame rep told keeps right front began run first_behind r = by_pieces r.pieces refl where
      by_pieces : (xs : List Piece) → r.pieces ≡ xs → (f : ℕ) × IsFrameRun sender js f run
      by_pieces [] is =
          let to : run.first + length r.pieces ≡ run.last + 1 = r.to_last in
          let none : length r.pieces ≡ 0 = ap length is in
          let within : run.first ≤ run.last = r.not_empty in
          absurd (omega arith)
      by_pieces (p ∷ ps) is =
          let piece : IsPiece codec packets run.first p =
          (subst (ArePieces codec packets run.first) is r.from_first).0 in
          let q = kept-there sender js run.first packets kept (ap is_some piece.media) in
          let there : (packet : SentPacket) × (slice_get sender.packets q.0 ≡ Some packet)
          × (at run.first packets ≡ Some (content_sent packet)) =
          some_there (λ packet. at run.first packets ≡ Some (content_sent packet))
          (slice_get sender.packets q.0) q.2 in
          let s : IsSent settings codec sender honest q.0 =
          packet_sent settings codec sender honest q.0 there.0 there.1
          (media_sent there.0 piece.text
          (same_Some (content_sent there.0) (contents.Media piece.text) (sym there.2 ∙ piece.media))) in
          (s.f, run_of_frame rep told keeps right front began run r q.0 s p ps first_behind is q.1)

  -- the pieces of parts, under these numbers
  abbrev pieces_of : ℕ → List CarriedPart → List Piece
  pieces_of n [] = []
  pieces_of n (c ∷ cs) = record { number = n; packet = c.packet; part = c.part } ∷ pieces_of (n + 1) cs

  -- they say what the parts say
  said_parts : (n : ℕ) (cs : List CarriedPart) → said (pieces_of n cs) ≡ meant cs
  said_parts n [] = refl
  said_parts n (c ∷ cs) = ap (λ xs. c.part ∷ xs) (said_parts (n + 1) cs)

  -- and are as many
  as_many : (n : ℕ) (cs : List CarriedPart) → length (pieces_of n cs) ≡ length cs
  as_many n [] = refl
  as_many n (c ∷ cs) = ap suc (as_many (n + 1) cs)

  module _ (f : ℕ) (frame : SentFrame) (count : ℕ) where
    -- if each number is available they are its pieces
    pieces-available : (k i n : ℕ) (cs : List CarriedPart) → AreParts settings codec sender f frame count k i cs →
        IsNumber sender js i n → ((m : ℕ) → n ≤ m → m < n + length cs → is_available m packets ≡ true) →
        ArePieces codec packets n (pieces_of n cs)
    pieces-available k i n [] parts numbered available = tt
    pieces-available k i n (c ∷ cs) parts numbered available = (
      record {
        number = refl;
        text = c.text;
        media = at-part f frame count k i n c numbered parts.0 (available n (omega arith) (omega arith));
        reads = parts.0.media.reads;
        part_reads = parts.0.media.part_reads;
      },
      pieces-available (k + 1) (i + 1) (n + 1) cs parts.1
          (number_later sender js i n 1 (i + 1) (n + 1) numbered refl refl)
          (λ m from upto. available m (omega arith) (omega arith)),
    )

    -- they have one timestamp
    one_ts : (k i n : ℕ) (cs : List CarriedPart) → AreParts settings codec sender f frame count k i cs →
        AllByRecursion (λ p. p.packet.ts ≡ frame.ts) (pieces_of n cs)
    one_ts k i n [] parts = tt
    one_ts k i n (c ∷ cs) parts = (parts.0.timestamp, one_ts (k + 1) (i + 1) (n + 1) cs parts.1)

    -- only the last has the marker
    last_marked : (k i n last : ℕ) (cs : List CarriedPart) → AreParts settings codec sender f frame count k i cs →
        n + count ≡ (last + 1) + k →
        AllByRecursion (λ p. (p.packet.marker ≡ true) ↔ (p.number ≡ last)) (pieces_of n cs)
    last_marked k i n last [] parts to = tt
    last_marked k i n last (c ∷ cs) parts to = (
      (
        λ marked. let end : k + 1 ≡ count = parts.0.marker.0 marked in
            omega arith,
        λ same. parts.0.marker.1 (omega arith),
      ),
      last_marked (k + 1) (i + 1) (n + 1) last cs parts.1 (omega arith),
    )

  -- the run of a frame from a number on, after these places were told
  abbrev pub frame_run : Told → SentFrame → ℕ → List CarriedPart → Run
  frame_run told frame first parts =
      record {
        first = first;
        last = first + length parts - 1;
        ts = frame.ts;
        key = frame.key;
        layers = place_told told first;
        bytes = frame.bytes;
      }

  module _ (honest : HonestSender settings codec sender) where
    -- only the first part of a frame is a start
    first_starts : (front : Option ℕ) (began : ℕ → Bool) (f : ℕ) (frame : SentFrame) (k i n first : ℕ)
        (cs : List CarriedPart) → slice_get sender.frames f ≡ Some frame → FirstBehind honest front began first →
        ((c : CarriedPart) → IsPart settings codec sender f frame (size settings codec sender honest f) 0
        (honest.place f) c → begins c.part.start (is_behind front began first) ≡ true)
        → AreParts settings codec sender f frame (size settings codec sender honest f) k i cs →
        k + length cs ≡ size settings codec sender honest f → i ≡ honest.place f + k → n ≡ first + k →
        IsNumber sender js i n → ((m : ℕ) → n ≤ m → m < n + length cs → is_available m packets ≡ true)
        → AllByRecursion (λ p. (is_start front began p ≡ true) ↔ (p.number ≡ first)) (pieces_of n cs)
    first_starts front began f frame k i n first [] there first_behind begin parts of at_i at_n numbered available =
        tt
    first_starts front began f frame k i n first
        (c ∷ cs) there first_behind begin parts of at_i at_n numbered available = (
          (
            λ s. let zeroth : k ≡ 0 =
                start_first honest front began first i n sent first_behind (omega arith)
                (available n (omega arith) (omega arith)) numbered s in omega arith,
            by_place k refl,
          ),
          first_starts front began f frame (k + 1) (i + 1) (n + 1) first cs there first_behind begin parts.1
              (omega arith)
              (omega arith) (omega arith) (number_later sender js i n 1 (i + 1) (n + 1) numbered refl refl)
              (λ m from upto. available m (omega arith) (omega arith)),
        ) where
          sent : IsSent settings codec sender honest i
          sent = record {
            f = f;
            k = k;
            frame = frame;
            carried = c;
            sent = there;
            within = omega arith;
            here = omega arith;
            part = parts.0;
          }

          by_place : (x : ℕ) → k ≡ x → n ≡ first → begins c.part.start (is_behind front began n) ≡ true
          by_place zero is same =
              let at_place : i ≡ honest.place f = omega arith in
              ap (λ (m : ℕ). begins c.part.start (is_behind front began m)) same
              ∙ begin c (subst (λ (x : ℕ).
              IsPart settings codec sender f frame (size settings codec sender honest f) x (honest.place f) c) is
              (subst (λ (x : ℕ). IsPart settings codec sender f frame (size settings codec sender honest f) k x c)
              at_place parts.0))
          by_place (suc x) is same = absurd (omega arith)

    -- a frame each of whose packets is available, and which begins with its first part, is a run
    pub frame-run : (told : Told) (front : Option ℕ) (began : ℕ → Bool) (f : ℕ) (frame : SentFrame) (first : ℕ) →
        slice_get sender.frames f ≡ Some frame → FirstBehind honest front began first →
        ((c : CarriedPart) → IsPart settings codec sender f frame (size settings codec sender honest f) 0
        (honest.place f) c → begins c.part.start (is_behind front began first) ≡ true)
        → IsNumber sender js (honest.place f) first →
        ((n : ℕ) → first ≤ n → n < first + length (honest.parts f) → is_available n packets ≡ true) →
        IsRunBy codec (place_told told) (is_start front began) packets (frame_run told frame first (honest.parts f))
    frame-run told front began f frame first is first_behind begin numbered available =
        let cs : List CarriedPart = honest.parts f in
        let t : Travels settings codec sender f frame (honest.place f) cs =
        frame_travels settings codec sender honest f frame is in
        let some : 0 < length cs = t.some in
        let many : length (pieces_of first cs) ≡ length cs = as_many first cs in
        let same : said (pieces_of first cs) ≡ meant cs = said_parts first cs in
        let agree : list_any (λ p. p.part.key) (pieces_of first cs) ≡ list_any (λ c. c.part.key) cs =
        sym (any_map (λ p. p.part) (λ x. x.key) (pieces_of first cs)) ∙ ap (list_any (λ (x : Part). x.key)) same
        ∙ any_map (λ c. c.part) (λ x. x.key) cs in
        record {
          pieces = pieces_of first cs;
          from_first = pieces-available f frame (length cs) 0 (honest.place f) first cs t.each numbered available;
          to_last = omega arith;
          not_empty = omega arith;
          ts = All-from_recursion (λ p. p.packet.ts ≡ frame.ts) (pieces_of first cs)
              (one_ts f frame (length cs) 0 (honest.place f) first cs t.each);
          start = All-from_recursion (λ p. (is_start front began p ≡ true) ↔ (p.number ≡ first)) (pieces_of first cs)
              (first_starts front began f frame 0 (honest.place f) first first cs is first_behind begin t.each
              (omega arith) (omega arith) (omega arith) numbered available);
          marker = All-from_recursion (λ p. (p.packet.marker ≡ true) ↔ (p.number ≡ first + length cs - 1))
              (pieces_of first cs) (last_marked f frame (length cs) 0 (honest.place f) first
              (first + length cs - 1) cs t.each (omega arith));
          key = (
            λ h. let c = t.key.0 h in
                list_any-from (λ p. p.part.key) (pieces_of first cs)
                (agree ∙ list_any-to (λ c. c.part.key) cs c.0 c.1 c.2),
            λ p. t.key.1 (list_any-from (λ c. c.part.key) cs
                (sym agree ∙ list_any-to (λ q. q.part.key) (pieces_of first cs) p.0 p.1 p.2)),
          );
          layers = refl;
          joins = ap codec.join same ∙ t.joins;
        }
