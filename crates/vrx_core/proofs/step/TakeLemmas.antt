-- A packet is taken under its number: what the calls of the parts ask for, and what they leave.
use Rattle.std.proofs.Common.{◌≡◌, ℕ, zero, suc, ◌+◌, ◌-◌, ◌*◌, ◌%◌, ◌^◌, ◌<◌, ◌≤◌, max, Bool, true, false, cond, List, [], ◌∷◌, length, Option, Some, None, is_some, IfSome, refl, sym, subst, ap, ◌∙◌, arith, nat_cmp, nat_lt}
use Rattle.std.specs.Prelude.{Ok}
use Rattle.std.specs.List.{AllByRecursion}
use Rattle.std.specs.Option.{option_map_or}
use Rattle.std.specs.FinMap.Entries.{is_sorted, where_key}
use Rattle.std.proofs.lemmas.Bool.{ltb-true}
use Rattle.std.proofs.lemmas.List.Elements.{recursion_from_All}
use Rattle.vrx_num.specs.Extended.{greater}
use Rattle.vrx_num.specs.Pictures.{GivesPicture, IsNewestPicture, IsPictureNear, extended_picture, picture_ahead}
use Rattle.vrx_num.specs.declared.limits.TheConstants.{HALF_PICTURES, HALF_SPACE, MOST_EVENTS, PICTURES, WINDOW}
use Rattle.vrx_codec.specs.Joining.{FitsLayers}
use Rattle.vrx_codec.specs.Meaning.{Meaning}
use Rattle.vrx_codec.specs.declared.part.Layers.{Layers}
use Rattle.vrx_codec.specs.declared.run.Place.{Place}
use Rattle.vrx_codec.specs.declared.run.Run.{Run as RunSummary}
use Rattle.vrx_window.specs.Content.{Content, content_of, contents, contents_of}
use Rattle.vrx_window.specs.IsWindow.{IsWindow}
use Rattle.vrx_window.specs.Sound.{AreSound, on_wire, place_of}
use Rattle.vrx_window.specs.Window.{Contents, in_window, is_available, is_inside, newest_with, after_placing, entries_with}
use Rattle.vrx_window.specs.declared.held.Held.{Held}
use Rattle.vrx_frames.specs.Completed.{IsUpTo, Known, known_with}
use Rattle.vrx_frames.specs.Front.{front_after}
use Rattle.vrx_frames.specs.IsRun.{RunsAre, RunsRise}
use Rattle.vrx_frames.specs.Run.{Packets}
use Rattle.vrx_repair.specs.Commit.{newest_with_layers, pictures_after, place_beside, window_after}
use Rattle.vrx_repair.specs.Plan.{IsPlan, IsRepaired, SaysItsText, entries_of, numbers_of, placed, repairs_in}
use Rattle.vrx_repair.specs.Source.{Source}
use Rattle.vrx_repair.specs.Step.{first_step, repairs, with_repair}
use Rattle.vrx_repair.specs.declared.repair.Repair.{Repair}
use Rattle.vrx_core.specs.machine.Machine.{answer_taken, source_in, what_of}
use Rattle.vrx_core.specs.machine.Verdict.{verdict}
use Rattle.vrx_refs.specs.Finder.{Finder}
use Rattle.vrx_refs.specs.Knows.{Knows}
use Rattle.vrx_refs.specs.declared.sighting.Sighting.{Sighting}
use Rattle.vrx_buffer.specs.Frames.{runs_from}
use Rattle.vrx_core.specs.relation.StandsFor.{Assembly, shapes_of}
use Rattle.vrx_core.specs.inside.Places.{newest_with_place, with_sightings}
use Rattle.vrx_core.specs.inside.Step.{CompletesWith, IsTakenAs, frames_in, known_all, lowest_of, pictures_with}
use Rattle.vrx_core.specs.inside.Fields.{AreFields, CanComplete, CanCompleteAll, ComesOf, IsHandled, IsNear, IsTakenWith, MayBeTaken, assembly_of}
use Rattle.vrx_core.specs.declared.count.Count.{Count}
use Rattle.vrx_core.specs.declared.settings.Settings.{Settings}
use Rattle.vrx_core.specs.declared.assembler.Arrival.{Arrival}
use Rattle.vrx_core.specs.declared.assembler.Outcome.{Outcome}
use Rattle.vrx_core.proofs.relation.CallLemmas.{can-one, can-repairs}
use Rattle.vrx_core.proofs.relation.CameLemmas.{Came, came, left-of, numbers-made}
use Rattle.vrx_core.proofs.relation.GrowLemmas.{KnowsAll, first-is, first-knows, first-rises, known-then, numbers_made, stays-all}
use Rattle.vrx_core.proofs.relation.KeptLemmas.{kept-taken}
use Rattle.vrx_core.proofs.relation.MapLemmas.{at_put-here}
use Rattle.vrx_core.proofs.relation.WindowLemmas.{available-contents, sorted-contents}

-- the extender's new number is the window's
newest-same : (newest : Option ℕ) (n : ℕ) → greater newest n ≡ Some (newest_with newest n)
newest-same None n = refl
newest-same (Some newest) n = refl

-- how far the newest number reaches
reach-on : (newest : Option ℕ) (n events : ℕ) → IsNear newest n →
    IfSome newest (λ m. (65536 ≤ m) × (m ≤ 131072 + HALF_SPACE * events))
    → (65536 ≤ newest_with newest n) × (newest_with newest n ≤ 131072 + HALF_SPACE * (events + 1))
reach-on None n events near reach =
    let low : 65536 ≤ n = near.0 in
    let high : n < 131072 = near.1 in (low, omega arith)
reach-on (Some newest) n events near reach =
    let near_high : n < newest + HALF_SPACE = near.1 in
    let low : 65536 ≤ newest = reach.0 in
    let high : newest ≤ 131072 + HALF_SPACE * events = reach.1 in (grind (arith), grind (arith))

-- so many repairs of a window are made at most
few-repairs : (source : Source) (newest : Option ℕ) (dead : List ℕ) (more : ℕ) (packets : Packets) →
    length (repairs source newest dead more packets) ≤ more
few-repairs source newest dead zero packets = omega arith
few-repairs source newest dead (suc more) packets =
    by (first_step source newest dead packets)
    (λ repair. few-repairs source newest dead more (with_repair repair packets)) where
      by : (o : Option (ℕ × Content)) →
          ((repair : ℕ × Content) → length (repairs source newest dead more (with_repair repair packets)) ≤ more)
          → length (option_map_or (λ repair. repair ∷ repairs source newest dead more (with_repair repair packets)) o [])
          ≤ suc more
      by None few = omega arith
      by (Some repair) few = let rest : length (repairs source newest dead more (with_repair repair packets)) ≤ more =
          few repair in omega arith

few-made : (source : Source) (window : Contents Content) → length (repairs_in source window) ≤ WINDOW
unfolding repairs_in
few-made source window = few-repairs source window.newest window.dead WINDOW window.packets

-- as many entries as repairs
as-many : (made : List Repair) → length (entries_of made) ≡ length made
as-many [] = refl
as-many (repair ∷ more) = ap suc (as-many more)

-- a picture raises the newest by less than half of the space
abbrev UpTo : ℕ → Option ℕ → Type 0
UpTo bound picture = IfSome picture (λ p. p ≤ PICTURES * 2 + HALF_PICTURES * bound)

abbrev IsSmall : Option Layers → Type 0
IsSmall layers = IfSome layers (λ l. l.picture < 32768)

raised : (newest : Option ℕ) (layers : Option Layers) (bound : ℕ) → IsSmall layers → UpTo bound newest →
    UpTo (bound + 1) (newest_with_layers newest layers)
raised None None bound fits room = tt
raised (Some p) None bound fits room = omega (arith, room)
raised None (Some layers) bound fits room = let small : layers.picture < 32768 = fits in omega arith
raised (Some p) (Some layers) bound fits room = by (nat_lt (picture_ahead p layers.picture) HALF_PICTURES) refl where
  by : (b : Bool) → nat_lt (picture_ahead p layers.picture) HALF_PICTURES ≡ b →
      max p (cond b (p + picture_ahead p layers.picture) (p - (PICTURES - picture_ahead p layers.picture)))
      ≤ PICTURES * 2 + HALF_PICTURES * (bound + 1)
  by true is = let less : picture_ahead p layers.picture < HALF_PICTURES =
      ltb-true (picture_ahead p layers.picture) HALF_PICTURES is in omega (arith, room)
  by false is = omega (arith, room)

small-of : (layers : Option Layers) → IfSome layers FitsLayers → IsSmall layers
small-of None fits = tt
small-of (Some layers) fits = fits.0

-- and so does the picture of the packet that came
raised-place : (newest : Option ℕ) (place : Option Place) (bound : ℕ) →
    IfSome place (λ p. p ≡ place_beside newest (on_wire p)) → UpTo bound newest →
    UpTo (bound + 1) (newest_with_place newest place)
raised-place newest None bound beside room = raised newest None bound tt room
raised-place newest (Some place) bound beside room =
    subst (λ (p : Place). UpTo (bound + 1) (greater newest p.picture)) (sym beside)
    (raised newest (Some (on_wire place)) bound (omega arith) room)

-- the picture of a packet can be accepted
pub can-accept : GivesPicture → (newest : Option ℕ) (place : Place) → IfSome newest IsNewestPicture →
    IfSome newest (λ p. p ≤ 2 ^ 61) → place ≡ place_beside newest (on_wire place) →
    (HALF_PICTURES ≤ place.picture) × (place.picture ≤ 2 ^ 62)
can-accept near None place sound room beside =
    let is : place.picture ≡ place.picture % 32768 + PICTURES = ap (λ (p : Place). p.picture) beside in
    let small : place.picture % 32768 < 32768 = omega arith in
    (omega arith, omega arith)
can-accept near (Some newest) place sound room beside =
    let least : PICTURES ≤ newest = sound.at_least in
    let small : place.picture % 32768 < 32768 = omega arith in
    let is : extended_picture (Some newest) (place.picture % 32768) ≡ place.picture =
    sym (ap (λ (p : Place). p.picture) beside) in
    let n : IsPictureNear newest (place.picture % 32768) place.picture =
    (near newest (place.picture % 32768) place.picture (omega arith) small).0 is in
    let low : newest ≤ place.picture + HALF_PICTURES = n.not_far_behind in
    let high : place.picture < newest + HALF_PICTURES = n.not_far_ahead in
    (omega arith, omega (arith, room))

raised-all : (codec : Meaning) (made : List Repair) (newest : Option ℕ) (bound : ℕ) →
    AllByRecursion (SaysItsText codec) made → UpTo bound newest → UpTo (bound + length made) (pictures_after made newest)
raised-all codec [] newest bound says room = more newest room where
  more : (o : Option ℕ) → UpTo bound o → UpTo (bound + 0) o
  more None r = tt
  more (Some p) r = omega (arith, r)
raised-all codec (repair ∷ made) newest bound says room =
    again (pictures_after made (newest_with_layers newest repair.layers))
    (raised-all codec made (newest_with_layers newest repair.layers) (bound + 1) says.1
    (raised newest repair.layers bound (small-of repair.layers
    (subst (λ (o : Option Layers). IfSome o FitsLayers) says.0.layers_are says.0.layers_fit)) room)) where
      again : (o : Option ℕ) → UpTo (bound + 1 + length made) o → UpTo (bound + suc (length made)) o
      again None r = tt
      again (Some p) r = omega (arith, r)

module _ (are : RunsAre) (rise : RunsRise) (codec : Meaning) (settings : Settings) (count : Count)
    (window window' : Contents Held) (pictures pictures' : Option ℕ) (known : Known) (finder : Finder)
    (frames : List RunSummary) (last_pulled front extender : Option ℕ) (n : ℕ) (held : Held) (made : List Repair)
    (fields : AreFields codec extender
    (assembly_of settings count window pictures known finder frames last_pulled front))
    (may : MayBeTaken codec window pictures n held) (planned : IsPlan (source_in settings codec) n held window made) where
  abbrev before : Assembly
  before = assembly_of settings count window pictures known finder frames last_pulled front

  abbrev top : ℕ
  top = newest_with window.newest n

  -- the newest picture, by so many raises
  up-to : (o : Option ℕ) → IfSome o (λ p. p ≤ PICTURES * 2 + HALF_PICTURES * (WINDOW + 1) * count.events) →
      UpTo ((WINDOW + 1) * count.events) o
  up-to None r = tt
  up-to (Some p) r = omega (arith, r)

  -- what accepting the packet's picture asks for
  pub picture-room : IfSome pictures (λ p. p ≤ 2 ^ 61)
  picture-room = by pictures fields.whole.kept.room where
    by : (o : Option ℕ) → IfSome o (λ p. p ≤ PICTURES * 2 + HALF_PICTURES * (WINDOW + 1) * count.events) →
        IfSome o (λ p. p ≤ 2 ^ 61)
    by None room = tt
    by (Some p) room = let few : count.events ≤ MOST_EVENTS = fields.whole.kept.few in omega (arith, room, few)

  -- and what `Plan::commit` does
  pub commit-room : (pictures1 : Option ℕ) → pictures1 ≡ pictures_with pictures held →
      IfSome pictures1 (λ p. p ≤ 2 ^ 61)
  commit-room pictures1 is = subst (λ (o : Option ℕ). IfSome o (λ p. p ≤ 2 ^ 61)) (sym is)
      (by (pictures_with pictures held)
      (raised-place pictures (place_of (Some held)) ((WINDOW + 1) * count.events) may.placed
      (up-to pictures fields.whole.kept.room))) where
        by : (o : Option ℕ) → UpTo ((WINDOW + 1) * count.events + 1) o → IfSome o (λ p. p ≤ 2 ^ 61)
        by None room = tt
        by (Some p) room = let few : count.events ≤ MOST_EVENTS = fields.whole.kept.few in omega (arith, room, few)

  module _ (window_is : window' ≡ window_after made (pictures_with pictures held) (after_placing n held window))
      (pictures_is : pictures' ≡ pictures_after made (pictures_with pictures held)) (sound : AreSound codec window'.packets)
      (whole : IsWindow window') where
    came_in : Came window window' n held made top
    came_in = subst (λ (w : Contents Held). Came window w n held made top) (sym window_is)
        (came (source_in settings codec) window n held made (pictures_with pictures held) fields.whole.window.packets_rise
        fields.whole.window.packets_inside may.fresh planned)

    upto-newest : (o : Option ℕ) → o ≡ window.newest → IsUpTo o window'.newest
    upto-newest o is = subst (λ (x : Option ℕ). IsUpTo x window'.newest) (sym is)
        (subst (IsUpTo window.newest) (sym came_in.newest) came_in.grows.upto)

    entries : Packets
    entries = entries_with top n (content_of held) (contents window.packets)

    -- what the runs ask for at first
    pub can-first : CanComplete codec window' front known n
    can-first = can-one codec window' front (contents window.packets) known n fields.whole.kept.arrivals
        (upto-newest known.newest fields.whole.kept.newest) fields.whole.kept.passed sound here
        (available-contents n window.packets ∙ came_in.missing)
        (λ m there inside. came_in.grows.stays m there (ap (λ o. is_inside o m) (sym came_in.newest) ∙ inside)) where
          here : is_available n window'.packets ≡ true
          here =
              let there : is_available n (entries_with top n (content_of held) (contents window.packets)) ≡ true =
              ap is_some (at_put-here n (content_of held) (where_key nat_cmp (in_window top) (contents window.packets)))
              in
              sym (available-contents n window'.packets) ∙ ap (is_available n) came_in.final
              ∙ ap is_some (stays-all top (entries_with top n (content_of held) (contents window.packets))
              (entries_of made) came_in.gaps n there) ∙ there

    -- and then
    pub can-rest : (numbers : List ℕ) (known1 : Known) → numbers ≡ numbers_of made
        → known1 ≡ known_with codec window'.newest n front (contents window'.packets) known
        → CanCompleteAll codec window' front numbers known1
    can-rest numbers known1 numbers_are known1_is =
        subst (λ ns. CanCompleteAll codec window' front ns known1) (sym (numbers_are ∙ numbers-made made))
        (subst (λ (k : Known). CanCompleteAll codec window' front (numbers_made (entries_of made)) k)
        (sym (known1_is ∙ first))
        (can-repairs codec top front window' came_in.newest sound
        (entries_with top n (content_of held) (contents window.packets)) (entries_of made)
        (known_with codec (Some top) n front (entries_with top n (content_of held) (contents window.packets)) known)
        came_in.final
        (first-rises codec top front [] (contents window.packets) n (content_of held) (entries_of made) known
        sorted told came_in.within came_in.gaps)
        came_in.within came_in.gaps
        (first-knows codec top front [] (contents window.packets) n (content_of held) (entries_of made) known
        sorted told came_in.within came_in.gaps))) where
          sorted : is_sorted nat_cmp (contents window.packets) ≡ true
          sorted = sorted-contents window.packets fields.whole.window.packets_rise

          told : known.arrivals ≡ shapes_of codec (contents window.packets)
          told = fields.whole.kept.arrivals

          first : known_with codec window'.newest n front (contents window'.packets) known
              ≡ known_with codec (Some top) n front (entries_with top n (content_of held) (contents window.packets)) known
          first = ap (λ o. known_with codec o n front (contents window'.packets) known) came_in.newest
              ∙ ap (λ ps. known_with codec (Some top) n front ps known) came_in.final
              ∙ first-is codec top front [] (contents window.packets) n (content_of held) (entries_of made) known
              sorted told came_in.within came_in.gaps

    newest_is : window'.newest ≡ Some top
    newest_is = came_in.newest

    module _ (dropped : List RunSummary) (runs_are : dropped ≡ runs_from (lowest_of window'.newest) frames) where
      -- the runs that are left
      pub stood-first : dropped ≡ frames_in codec window' front known
      stood-first = runs_are ∙ ap (runs_from (lowest_of window'.newest)) fields.whole.kept.frames
          ∙ left-of are rise codec window window' n held made front known fields.whole.kept.arrivals
          fields.whole.window.packets_rise fields.whole.window.packets_inside came_in whole.packets_rise

      module _ (count' : Count) (known' : Known) (finder' : Finder) (frames' : List RunSummary) (front' : Option ℕ)
          (numbers : List ℕ) (key : Bool) (numbers_are : numbers ≡ numbers_of made)
          (repaired : (source : Source) → IsPlan source n held window made →
          IsRepaired source (repairs_in source (placed n held window)) (placed n held window) (contents_of window'))
          (known_is : known' ≡ known_all codec window'.newest front (contents window'.packets) (n ∷ numbers) known)
          (finder_is : (told : List Sighting) (pulled : List RunSummary) → Knows finder told pulled →
          Knows finder' (with_sightings window'.packets (n ∷ numbers) told) pulled)
          (frames_are : frames' ≡ frames_in codec window' front known')
          (completes : CompletesWith codec window' front known known' key)
          (front_is : front' ≡ front_after front last_pulled (contents window'.packets)) where
        abbrev after : Assembly
        after = assembly_of settings count' window' pictures' known' finder' frames' last_pulled front'

        -- the packet was taken
        pub was-taken : IsTakenAs codec
            (assembly_of settings count window pictures known finder frames last_pulled front)
            (assembly_of settings count' window' pictures' known' finder' frames' last_pulled front') n held made
        was-taken = record {
          settings = refl;
          window = window_is;
          pictures = pictures_is;
          repaired = repaired;
          known = known_is ∙ ap (λ ns. known_all codec window'.newest front (contents window'.packets) (n ∷ ns) known)
              numbers_are;
          finder = λ told pulled knows. subst (λ ns. Knows finder' (with_sightings window'.packets (n ∷ ns) told) pulled)
              numbers_are (finder_is told pulled knows);
          frames = frames_are;
          key = key;
          completes = completes;
          last_pulled = refl;
          front = front_is;
        }

        -- and whether a run that it completes is a keyframe
        pub taken-with : (taken : IsTakenAs codec
            (assembly_of settings count window pictures known finder frames last_pulled front)
            (assembly_of settings count' window' pictures' known' finder' frames' last_pulled front') n held made)
            × (key ≡ taken.key)
        unfolding was-taken
        taken-with = (was-taken, refl)

        knows : KnowsAll codec (Some top) front (contents window'.packets) [] known'
        knows = subst (λ (k : Known). KnowsAll codec (Some top) front (contents window'.packets) [] k)
            (sym (known_is
            ∙ ap (λ ns. known_all codec window'.newest front (contents window'.packets) (n ∷ ns) known)
            (numbers_are ∙ numbers-made made)
            ∙ ap (λ o. known_all codec o front (contents window'.packets) (n ∷ numbers_made (entries_of made)) known)
            newest_is))
            (subst (λ ps. KnowsAll codec (Some top) front ps []
            (known_all codec (Some top) front ps (n ∷ numbers_made (entries_of made)) known)) (sym came_in.final)
            (known-then codec top front [] (contents window.packets) n (content_of held) (entries_of made) known
            (sorted-contents window.packets fields.whole.window.packets_rise) fields.whole.kept.arrivals
            came_in.within came_in.gaps))

        room : count'.events ≡ count.events + 1 →
            IfSome pictures' (λ p. p ≤ PICTURES * 2 + HALF_PICTURES * (WINDOW + 1) * count'.events)
        room counts = subst (λ (o : Option ℕ). IfSome o (λ p. p ≤ PICTURES * 2 + HALF_PICTURES * (WINDOW + 1) * count'.events))
            (sym pictures_is) (by (pictures_after made (pictures_with pictures held))
            (raised-all codec made (pictures_with pictures held) ((WINDOW + 1) * count.events + 1)
            (recursion_from_All (SaysItsText codec) made planned.sound)
            (raised-place pictures (place_of (Some held)) ((WINDOW + 1) * count.events) may.placed
            (up-to pictures fields.whole.kept.room)))) where
              few : length made ≤ WINDOW
              few = subst (λ k. k ≤ WINDOW) (sym (sym (as-many made) ∙ ap length planned.repairs))
                  (few-made (source_in settings codec) (placed n held window))

              by : (o : Option ℕ) → UpTo ((WINDOW + 1) * count.events + 1 + length made) o →
                  IfSome o (λ p. p ≤ PICTURES * 2 + HALF_PICTURES * (WINDOW + 1) * count'.events)
              by None r = tt
              by (Some p) r = omega (arith, r, few, counts)

        -- what always holds still does
        pub fields-taken : (extender' : Option ℕ) → count.events < MOST_EVENTS → count'.events ≡ count.events + 1 →
            extender' ≡ greater extender n
            → AreFields codec extender'
            (assembly_of settings count' window' pictures' known' finder' frames' last_pulled front')
        fields-taken extender' less counts extends = record {
          types = fields.types;
          whole = record {
            kept = kept-taken are rise codec
                (assembly_of settings count window pictures known finder frames last_pulled front)
                (assembly_of settings count' window' pictures' known' finder' frames' last_pulled front') n held made
                fields.whole.kept was-taken top newest_is came_in.grows knows sound (omega arith)
                (subst (λ (o : Option ℕ). IfSome o (λ m. (65536 ≤ m) × (m ≤ 131072 + HALF_SPACE * count'.events)))
                (sym newest_is) (subst (λ k. (65536 ≤ top) × (top ≤ 131072 + HALF_SPACE * k)) (sym counts)
                (reach-on window.newest n count.events may.near fields.whole.kept.reach))) (room counts);
            window = whole;
          };
          newest = extends ∙ ap (λ o. greater o n) fields.newest ∙ newest-same window.newest n ∙ sym newest_is;
        }

-- a datagram that was taken was handled
pub handled-taken : (codec : Meaning) (before after : Assembly) (moment : ℕ) (octets : List ℕ) (outcome : Outcome)
    (n : ℕ) (content : Content) (arrival : Arrival)
    → verdict before.settings codec (contents_of before.window) octets ≡ Ok (n, content) →
    IsTakenWith codec before after moment n content arrival
    → outcome.what ≡ answer_taken n content → outcome.arrival ≡ Some arrival →
    IsHandled codec before after moment octets outcome
handled-taken codec before after moment octets outcome n content arrival is taken what_is arrival_is = record {
  answer = what_is ∙ sym (ap what_of is);
  comes = subst (λ v. ComesOf codec before after moment outcome.arrival v) (sym is) (arrival, arrival_is, taken);
}
