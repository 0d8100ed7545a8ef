-- In an honest call a run with layers is deliverable exactly if it is evident to what it refers, and all that was
-- pulled.
use Rattle.std.proofs.Common.{◌≡◌, ℕ, zero, suc, ◌+◌, ◌-◌, ◌<◌, ◌≤◌, Bool, true, false, cond, List, [], ◌∷◌, map, length, slice_get, Contains, Option, Some, None, IfSome, IsSomeAnd, refl, sym, ◌∙◌, ap, subst, arith, inl, inr}
use Rattle.std.proofs.lemmas.Bool.{and_from, and_parts, cases_lt, true≢false}
use Rattle.std.proofs.lemmas.Option.{slice_get_cases, slice_get_within}
use Rattle.vrx_num.specs.declared.limits.TheConstants.{WINDOW}
use Rattle.vrx_codec.specs.Meaning.{Meaning}
use Rattle.vrx_codec.specs.declared.run.Place.{Place}
use Rattle.vrx_window.specs.Window.{is_available}
use Rattle.vrx_frames.specs.Run.{Packets, Run, stands, summary_of}
use Rattle.vrx_refs.specs.References.{Key, judge_delta, references, waits_for}
use Rattle.vrx_buffer.specs.Frames.{is_ready}
use Rattle.vrx_core.specs.machine.Told.{Told, place_told, sightings}
use Rattle.vrx_core.specs.machine.Deliverable.{is_deliverable, judged}
use Rattle.vrx_core.specs.machine.Machine.{latest, last_pulled, snapshots}
use Rattle.vrx_core.specs.honest.Sender.{SentFrame, SentPacket, Sender, IsNoPart, IsOf}
use Rattle.vrx_core.specs.honest.Layers.{HaveNoLayers, IsKey, IsLastKey, IsLastOf, IsLastSinceKey, KeepsLayers, is_on_base, layers_at}
use Rattle.vrx_core.specs.honest.Chain.{IsRuleReference, RefersBy}
use Rattle.vrx_core.specs.honest.HonestSender.{HonestSender}
use Rattle.vrx_core.specs.honest.HonestNetwork.{Origin, greatest, packets_taken}
use Rattle.vrx_core.specs.honest.Number.{SomeHasCome}
use Rattle.vrx_core.specs.honest.Ready.{IsEvident, IsEvidentBy, IsNumber, HasNumbers, WasPulled}
use Rattle.vrx_core.specs.honest.HonestTaken.{IsRepaired}
use Rattle.vrx_core.specs.declared.settings.Settings.{Settings}
use Rattle.vrx_core.specs.declared.event.Event.{Event}
use Rattle.vrx_core.proofs.machine.MemberLemmas.{Contains-either, Contains-empty, Contains-head, Contains-tail}
use Rattle.vrx_core.proofs.honest.KeepsLemmas.{Came, greatest-upto, one-place}
use Rattle.vrx_core.proofs.honest.PartLemmas.{frame_spans, frame_travels, one_span, part-of, size, some_from, some_holds, some_there}
use Rattle.vrx_core.proofs.honest.LastLemmas.{key_first, key_from, last_from, layers_within, placed, since_key}
use Rattle.vrx_core.proofs.honest.IndexLemmas.{base_there}
use Rattle.vrx_core.proofs.honest.ReferLemmas.{key_tid, layers_of, refers}
use Rattle.vrx_core.proofs.honest.WalkLemmas.{ReferencesPulled}
use Rattle.vrx_core.proofs.honest.TellLemmas.{IsPlaceOf, TellsFrame, ToldRightly}
use Rattle.vrx_core.proofs.honest.ToldLemmas.{none_there, of-one}
use Rattle.vrx_core.proofs.honest.PlaceLemmas.{available-came, entry-place, place_among, place_there}
use Rattle.vrx_core.proofs.honest.SightLemmas.{ArePlaced, IsPlaced, SomeCame}
use Rattle.vrx_core.proofs.honest.JudgeLemmas.{IsPlain, judged-from, judged-to}
use Rattle.vrx_core.proofs.honest.HoldsLemmas.{ArePulled, Holds, IsPulled}

-- of a frame with layers the first number told a place, if its packet came
pub first_told : (sender : Sender) (js : List ℕ) (rep : ℕ → Type 0) (told : Told)
    (right : ToldRightly sender js rep told) (i n f : ℕ) (sent : Place) → Came js rep i n → IsNumber sender js i n →
    IsSomeAnd (slice_get sender.packets i) (IsOf f) → layers_at sender.frames f ≡ Some sent →
    (known : Place) × (place_told told n ≡ Some known) × Contains told (n, known)
first_told sender js rep told right i n f sent came is of sent_is =
    let p : (place : Place) × Contains told (n, place) = right.all i n f sent came is of sent_is in
    let q : (known : Place) × (place_told told n ≡ Some known) = place_there n told p.0 p.1 in
    (q.0, q.1, place_among n told q.0 q.1)

-- of frames without layers no number told a place
pub none_told : (sender : Sender) (js : List ℕ) (rep : ℕ → Type 0) (told : Told) → HaveNoLayers sender.frames →
    ToldRightly sender js rep told → (n : ℕ) → place_told told n ≡ None
none_told sender js rep told none right n = by (place_told told n) refl where
  by : (o : Option Place) → place_told told n ≡ o → o ≡ None
  by None is = refl
  by (Some place) is =
      let t : TellsFrame sender js rep right.up right.down (n, place) =
      right.each (n, place) (place_among n told place is) in
      absurd (none_there t.place_is.sent (slice_get sender.frames t.f) (none t.f) t.place_is.sent_is)

-- a frame that is no keyframe has a rule reference
pub has_reference : (sender : Sender) → KeepsLayers sender.frames →
    IfSome (slice_get sender.frames 0) (λ frame. frame.key ≡ true) → (f : ℕ) (place : Place) →
    layers_at sender.frames f ≡ Some place → (IsKey sender.frames f → ⊥) → (g : ℕ) × IsRuleReference sender f g
has_reference sender keeps from_key f place is delta = by (is_on_base place) refl where
  within : f < length sender.frames
  within = layers_within sender.frames f place is

  first : IsKey sender.frames 0
  first = key_first sender.frames from_key (omega (arith, within))

  later : 0 < f
  later = elim (cases_lt 0 f) [
    | inl more ↦ more
    | inr less ↦ let same : 0 ≡ f = omega (arith, less) in
        absurd (delta (subst (λ (x : ℕ). IsKey sender.frames x) same first))
  ]

  by : (b : Bool) → is_on_base place ≡ b → (g : ℕ) × IsRuleReference sender f g
  by true on_base =
      let g : (g : ℕ) × IsLastOf sender.frames 0 f g = base_there sender.frames keeps from_key f later within in (
        g.0,
        refers sender f g.0 place is delta
            (subst (λ (b : Bool). RefersBy sender.frames place b f g.0) (sym on_base) g.1),
      )
  by false plain =
      let k : (k : ℕ) × (0 ≤ k) × IsLastKey sender.frames f k = key_from sender.frames f 0 later first in
      let g : (g : ℕ) × (k.0 ≤ g) × IsLastOf sender.frames 0 f g =
      last_from sender.frames 0 f k.0 k.2.before (key_tid sender.frames keeps k.0 k.2.key) in
      let since : IsLastSinceKey sender.frames 0 f g.0 = since_key sender.frames 0 f g.0 k.0 k.2 g.2 g.1 in (
        g.0,
        refers sender f g.0 place is delta
            (subst (λ (b : Bool). RefersBy sender.frames place b f g.0) (sym plain) (0, omega arith, since)),
      )

-- a frame of the list
frame_there : (frames : List SentFrame) (f : ℕ) → f < length frames →
    (frame : SentFrame) × (slice_get frames f ≡ Some frame)
frame_there frames f within = elim ((slice_get_cases frames f).1) [
  | inl there ↦ (there.0, there.2)
  | inr past ↦ absurd (omega (arith, within, past.0))
]

module _ (settings : Settings) (codec : Meaning) (sender : Sender) (honest : HonestSender settings codec sender) where
  -- frames lie at least as far apart in the packets as in their list
  far_place : (d f : ℕ) → f + d < length sender.frames → honest.place f + d ≤ honest.place (f + d)
  far_place zero f within = let same : honest.place (f + 0) ≡ honest.place f = ap honest.place (omega arith) in
      omega (arith, same)
  far_place (suc d) f within =
      let lower : f + d < length sender.frames = omega (arith, within) in
      let before : honest.place f + d ≤ honest.place (f + d) = far_place d f lower in
      let frame : (frame : SentFrame) × (slice_get sender.frames (f + d) ≡ Some frame) =
      frame_there sender.frames (f + d) lower in
      let some : 0 < size settings codec sender honest (f + d) =
      (frame_travels settings codec sender honest (f + d) frame.0 frame.1).some in
      let apart : honest.place (f + d) + size settings codec sender honest (f + d) ≤ honest.place (f + suc d) =
      honest.in_order (f + d) (f + suc d) (omega arith) within in
      omega (arith, before, some, apart)

  -- a packet of a frame lies at its place or later
  of_within : (k i : ℕ) → IsSomeAnd (slice_get sender.packets i) (IsOf k) →
      (k < length sender.frames) × (honest.place k ≤ i)
  of_within k i of =
      let p : (packet : SentPacket) × (slice_get sender.packets i ≡ Some packet) × IsOf k packet =
      some_there (IsOf k) (slice_get sender.packets i) of in
      elim (honest.no_other i (slice_get_within sender.packets i p.0 p.1)) [
        | inl none ↦ absurd (part-of k p.0 (some_holds IsNoPart (slice_get sender.packets i) p.0 p.1 none) p.2)
        | inr at ↦
            let frame : (frame : SentFrame) × (slice_get sender.frames at.0 ≡ Some frame) =
            frame_there sender.frames at.0 at.1 in
            let some : 0 < size settings codec sender honest at.0 =
            (frame_travels settings codec sender honest at.0 frame.0 frame.1).some in
            let same : at.0 ≡ k =
            of-one at.0 k (slice_get sender.packets i)
            (((frame_spans settings codec sender honest at.0 frame.0 frame.1).exactly i).1
            (at.2, omega (arith, at.3, some))) of in (
              subst (λ (x : ℕ). x < length sender.frames) same at.1,
              subst (λ (x : ℕ). honest.place x ≤ i) same at.2,
            )
      ]

  module _ (h : List Event) (origins : List Origin) where
    -- the packets taken, and the numbers repaired
    abbrev js : List ℕ
    js = packets_taken settings codec h origins

    abbrev rep : ℕ → Type 0
    rep n = IsRepaired (snapshots settings codec h) n

    -- the places told, the frames pulled, the front, and the packets available
    abbrev told_now : Told
    told_now = (latest (snapshots settings codec h)).told

    abbrev runs_pulled : List Run
    runs_pulled = (latest (snapshots settings codec h)).pulled

    abbrev front_now : Option ℕ
    front_now = (latest (snapshots settings codec h)).front

    abbrev packets_now : Packets
    packets_now = (latest (snapshots settings codec h)).window.packets

    module _ (fs : List ℕ) (holds : Holds settings codec sender honest (snapshots settings codec h)
        (packets_taken settings codec h origins) fs) where
      abbrev right : ToldRightly sender js rep told_now
      right = holds.took.told

      -- a packet of a frame has come, under its number
      came-from : (g : ℕ) → SomeHasCome settings codec sender h origins g → SomeCame sender js rep g
      came-from g c = elim c.1 [
        | inl taken ↦ let n : (n : ℕ) × IsNumber sender js c.0 n = holds.counted c.0 taken in
            (c.0, n.0, inl taken, n.1, c.2)
        | inr repaired ↦ (c.0, repaired.0, inr repaired.2, repaired.1, c.2)
      ]

      came-to : (g : ℕ) → SomeCame sender js rep g → SomeHasCome settings codec sender h origins g
      came-to g c = (
        c.0,
        elim c.2 [ inl taken ↦ inl taken | inr repaired ↦ inr (c.1, c.3, repaired) ],
        c.4,
      )

      -- what came lies not above the greatest
      came_upto : (i n : ℕ) → Came js rep i n → IsNumber sender js i n → i ≤ greatest js
      came_upto i n came is = elim came [
        | inl taken ↦ greatest-upto js i taken
        | inr repaired ↦
            let u : (k : ℕ) × IsNumber sender js k n × (k ≤ greatest js) = holds.took.here.keeps.upto n repaired in
            let same : u.0 ≡ i = one-place sender js u.0 i n u.1 is in
            omega (arith, u.2, same)
      ]

      -- no packet came of a frame far beyond one that is available
      came_near : (f first : ℕ) → f < length sender.frames → IsNumber sender js (honest.place f) first →
          is_available first packets_now ≡ true → (k : ℕ) → SomeCame sender js rep k → k ≤ f + 2048
      came_near f first there is available k c =
          let p : (i : ℕ) × Came js rep i first × IsNumber sender js i first × (greatest js < i + WINDOW) =
          holds.took.here.keeps.from first available in
          let at : p.0 ≡ honest.place f = one-place sender js p.0 (honest.place f) first p.2 is in
          let upto : c.0 ≤ greatest js = came_upto c.0 c.1 c.2 c.3 in
          let within : (k < length sender.frames) × (honest.place k ≤ c.0) = of_within k c.0 c.4 in
          elim (cases_lt k f) [
            | inl less ↦ omega (arith, less)
            | inr more ↦
                let same : f + (k - f) ≡ k = omega (arith, more) in
                let far : honest.place f + (k - f) ≤ honest.place (f + (k - f)) =
                far_place (k - f) f (omega (arith, same, within.0)) in
                let place_is : honest.place (f + (k - f)) ≡ honest.place k = ap honest.place same in
                omega (arith, more, far, place_is, within.1, upto, at, p.3)
          ]

      -- the first packet of a frame with numbers
      first_of : (f first last : ℕ) → HasNumbers sender js f first last →
          (i : ℕ) × IsNumber sender js i first × IsSomeAnd (slice_get sender.packets i) (IsOf f)
      first_of f first last n =
          (n.from, n.first_is, (n.spans.exactly n.from).1 (omega arith, n.spans.some))

      -- the frames pulled have their places
      are_placed : KeepsLayers sender.frames → (gs : List ℕ) (runs : List Run) →
          ArePulled settings codec sender honest js told_now gs runs →
          ArePlaced sender right.up right.down gs (map summary_of runs)
      are_placed keeps [] [] p = tt
      are_placed keeps [] (run ∷ runs) p = absurd p
      are_placed keeps (g ∷ gs) [] p = absurd p
      are_placed keeps (g ∷ gs) (run ∷ runs) p = (here, are_placed keeps gs runs p.1) where
        here : IsPlaced sender right.up right.down g (summary_of run)
        here =
            let q : IsPulled settings codec sender honest js told_now g run = p.0 in
            let there : (place : Place) × (layers_at sender.frames g ≡ Some place) × (place.tl0 < 256)
            × (IsKey sender.frames g → place.tid ≡ 0) =
            placed sender.frames keeps g (slice_get_within sender.frames g q.sent q.is) in
            let known : (known : Place) × (run.layers ≡ Some known) × Contains told_now (run.first, known) =
            q.placed there.0 there.1 in
            let first : (i : ℕ) × IsNumber sender js i run.first × IsSomeAnd (slice_get sender.packets i) (IsOf g) =
            first_of g run.first run.last q.numbered in
            record {
              place = known.0;
              layers = known.1;
              place_is =
                  entry-place sender js rep told_now right first.0 run.first g known.0 first.1 first.2 known.2;
              key = (
                λ key. some_from (λ frame. frame.key ≡ true) (slice_get sender.frames g) q.sent q.is (sym q.key ∙ key),
                λ key. q.key
                    ∙ some_holds (λ frame. frame.key ≡ true) (slice_get sender.frames g) q.sent q.is key,
              );
            }

      -- a frame was pulled exactly if it is among these
      was_among : (g : ℕ) (old : Run) → HasNumbers sender js g old.first old.last → (gs : List ℕ) (runs : List Run) →
          ArePulled settings codec sender honest js told_now gs runs → Contains runs old → Contains gs g
      was_among g old n [] [] p c = absurd (Contains-empty old c)
      was_among g old n [] (run ∷ runs) p c = absurd p
      was_among g old n (k ∷ ks) [] p c = absurd p
      was_among g old n (k ∷ ks) (run ∷ runs) p c = elim (Contains-either run runs old c) [
        | inl same ↦
            let q : HasNumbers sender js k run.first run.last = p.0.numbered in
            let a : (i : ℕ) × IsNumber sender js i run.first × IsSomeAnd (slice_get sender.packets i) (IsOf k) =
            first_of k run.first run.last q in
            let b : (i : ℕ) × IsNumber sender js i old.first × IsSomeAnd (slice_get sender.packets i) (IsOf g) =
            first_of g old.first old.last n in
            let at : a.0 ≡ b.0 = one-place sender js a.0 b.0 old.first
            (subst (λ (r : Run). IsNumber sender js a.0 r.first) same a.1) b.1 in
            let frame : k ≡ g = of-one k g (slice_get sender.packets b.0)
            (subst (λ (x : ℕ). IsSomeAnd (slice_get sender.packets x) (IsOf k)) at a.2) b.2 in
            subst (λ (x : ℕ). Contains (k ∷ ks) x) frame (Contains-head k ks)
        | inr later ↦ Contains-tail k ks g (was_among g old n ks runs p.1 later)
      ]

      pub was-from : (g : ℕ) → WasPulled settings codec sender h origins g → Contains fs g
      was-from g was = was_among g was.run was.numbered fs runs_pulled holds.pulled was.pulled

      among_was : (g : ℕ) (gs : List ℕ) (runs : List Run) →
          ArePulled settings codec sender honest js told_now gs runs → Contains gs g →
          (run : Run) × Contains runs run × HasNumbers sender js g run.first run.last
      among_was g [] runs p c = absurd (Contains-empty g c)
      among_was g (k ∷ ks) [] p c = absurd p
      among_was g (k ∷ ks) (run ∷ runs) p c = elim (Contains-either k ks g c) [
        | inl same ↦ (
          run,
          Contains-head run runs,
          subst (λ (x : ℕ). HasNumbers sender js x run.first run.last) same p.0.numbered,
        )
        | inr later ↦
            let rest : (run : Run) × Contains runs run × HasNumbers sender js g run.first run.last =
            among_was g ks runs p.1 later in
            (rest.0, Contains-tail run runs rest.0 rest.1, rest.2)
      ]

      pub was-to : (g : ℕ) → Contains fs g → WasPulled settings codec sender h origins g
      was-to g c =
          let was : (run : Run) × Contains runs_pulled run × HasNumbers sender js g run.first run.last =
          among_was g fs runs_pulled holds.pulled c in
          record { run = was.0; pulled = was.1; numbered = was.2 }

      -- with a frame its rule references were pulled
      pub rule_closed : (g k : ℕ) → Contains fs g → IsRuleReference sender g k → Contains fs k
      rule_closed g k c reference = holds.closed g k c ([], reference)

      -- A run is frame f, its place is that of its first number, it is available, and lies beyond all that was pulled.
      module _ (run : Run) (f : ℕ) (frame : SentFrame) (there : slice_get sender.frames f ≡ Some frame)
          (numbered : HasNumbers sender js f run.first run.last) (key : run.key ≡ frame.key)
          (layers : run.layers ≡ place_told told_now run.first)
          (available : is_available run.first packets_now ≡ true) where
        -- its place
        run_place : (sent : Place) → layers_at sender.frames f ≡ Some sent →
            (known : Place) × (run.layers ≡ Some known) × Contains told_now (run.first, known)
        run_place sent is =
            let first : (i : ℕ) × IsNumber sender js i run.first × IsSomeAnd (slice_get sender.packets i) (IsOf f) =
            first_of f run.first run.last numbered in
            let came : Came js rep first.0 run.first =
            available-came sender js rep packets_now first.0 run.first holds.took.here.keeps first.1 available in
            let q : (known : Place) × (place_told told_now run.first ≡ Some known)
            × Contains told_now (run.first, known) =
            first_told sender js rep told_now right first.0 run.first f sent came first.1 first.2 is in
            (q.0, layers ∙ q.1, q.2)

        -- once it is pulled
        pub run_pulled : IsPulled settings codec sender honest js told_now f run
        run_pulled = record { sent = frame; is = there; numbered = numbered; key = key; placed = run_place }

        -- a run of a frame without layers has none
        pub run_none : HaveNoLayers sender.frames → run.layers ≡ None
        run_none none = layers ∙ none_told sender js rep told_now none right run.first

        -- The frames have layers, and it is no keyframe.
        module _ (keeps : KeepsLayers sender.frames) (delta : frame.key ≡ false)
            (beyond : (g : ℕ) → Contains fs g → g < f) where
          no_key : IsKey sender.frames f → ⊥
          no_key is = true≢false (sym (some_holds (λ x. x.key ≡ true) (slice_get sender.frames f) frame there is)
              ∙ delta)

          -- its place as it was sent
          has_sent : (sent : Place) × (layers_at sender.frames f ≡ Some sent)
          has_sent =
              let p : (place : Place) × (layers_at sender.frames f ≡ Some place) × (place.tl0 < 256)
              × (IsKey sender.frames f → place.tid ≡ 0) =
              placed sender.frames keeps f (slice_get_within sender.frames f frame there) in
              (p.0, p.1)

          -- and as it is known
          known : (known : Place) × (run.layers ≡ Some known) × Contains told_now (run.first, known)
          known = run_place has_sent.0 has_sent.1

          place_is : IsPlaceOf sender right.up right.down f known.0
          place_is =
              let first : (i : ℕ) × IsNumber sender js i run.first
              × IsSomeAnd (slice_get sender.packets i) (IsOf f) = first_of f run.first run.last numbered in
              entry-place sender js rep told_now right first.0 run.first f known.0 first.1 first.2 known.2

          -- its layers are those
          sent_layers : frame.layers ≡ Some place_is.sent
          sent_layers = layers_of sender.frames f place_is.sent frame place_is.sent_is there

          near : (k : ℕ) → SomeCame sender js rep k → k ≤ f + 2048
          near = came_near f run.first (slice_get_within sender.frames f frame there)
              (subst (λ (i : ℕ). IsNumber sender js i run.first)
              (one_span settings codec sender honest f frame numbered.from numbered.to there numbered.spans).0
              numbered.first_is) available

          -- what is judged of it
          abbrev judged_ready : Bool
          judged_ready = is_ready (waits_for (map summary_of runs_pulled)
              (references (sightings told_now) (map summary_of runs_pulled) known.0))

          judged_is : is_ready (judged told_now runs_pulled front_now run) ≡ judged_ready
          judged_is = ap (λ b. is_ready (cond b Key (judge_delta (sightings told_now) (map summary_of runs_pulled)
              front_now run.first run.layers))) (key ∙ delta)
              ∙ ap (λ o. is_ready (judge_delta (sightings told_now) (map summary_of runs_pulled) front_now run.first
              o)) known.1

          -- it is evident to what it refers
          plain-from : (b : Bool) → IsPlain sender js rep f place_is.sent b →
              IsEvidentBy settings codec sender h origins f place_is.sent b
          plain-from true plain = plain
          plain-from false plain = record {
            at = plain.at;
            is_stop = plain.is_stop;
            near = plain.near;
            seen = λ g above below. came-to g (plain.come g above below);
          }

          plain-to : (b : Bool) → IsEvidentBy settings codec sender h origins f place_is.sent b →
              IsPlain sender js rep f place_is.sent b
          plain-to true evident = evident
          plain-to false evident = record {
            at = evident.at;
            is_stop = evident.is_stop;
            near = evident.near;
            come = λ g above below. came-from g (evident.seen g above below);
          }

          -- If it is deliverable, it is evident to what it refers, and that was pulled.
          pub layers-from : is_deliverable told_now runs_pulled front_now run ≡ true →
              IsEvident settings codec sender h origins f run.first frame.layers
              × ((g : ℕ) → IsRuleReference sender f g → Contains fs g)
          layers-from h_ready =
              let both : (stands (last_pulled runs_pulled) run ≡ true)
              × (is_ready (judged told_now runs_pulled front_now run) ≡ true) =
              and_parts (stands (last_pulled runs_pulled) run)
              (is_ready (judged told_now runs_pulled front_now run)) h_ready in
              let j : IsPlain sender js rep f place_is.sent (is_on_base place_is.sent)
              × ReferencesPulled sender f (Contains fs) =
              judged-from sender keeps honest.from_key js rep told_now right fs (map summary_of runs_pulled)
              (are_placed keeps fs runs_pulled holds.pulled) holds.fall rule_closed f known.0 place_is no_key beyond near
              (sym judged_is ∙ both.1) in (
                subst (λ (o : Option Place). IsEvident settings codec sender h origins f run.first o) (sym sent_layers)
                    (plain-from (is_on_base place_is.sent) j.0),
                j.1,
              )

          -- And back.
          pub layers-to : stands (last_pulled runs_pulled) run ≡ true →
              IsEvident settings codec sender h origins f run.first frame.layers →
              ((g : ℕ) → IsRuleReference sender f g → Contains fs g) →
              is_deliverable told_now runs_pulled front_now run ≡ true
          layers-to stands_now evident refs =
              and_from (stands (last_pulled runs_pulled) run) (is_ready (judged told_now runs_pulled front_now run))
              stands_now
              (judged_is
              ∙ judged-to sender keeps honest.from_key js rep told_now right fs (map summary_of runs_pulled)
              (are_placed keeps fs runs_pulled holds.pulled) holds.fall rule_closed f known.0 place_is no_key beyond near
              (plain-to (is_on_base place_is.sent)
              (subst (λ (o : Option Place). IsEvident settings codec sender h origins f run.first o) sent_layers
              evident)) refs)
