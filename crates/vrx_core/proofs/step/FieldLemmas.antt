-- What always holds of the engine's fields, event by event.
use Rattle.std.proofs.Common.{◌≡◌, ℕ, ◌+◌, ◌<◌, true, List, [], ◌∷◌, Contains, Option, Some, None, refl, sym, subst, ap, ◌∙◌, arith}
use Rattle.std.proofs.lemmas.Bool.{false≢true}
use Rattle.std.specs.List.Sorted.{IsStrictlySortedBy}
use Rattle.std.specs.Ordering.{nat_cmp}
use Rattle.vrx_num.specs.declared.limits.TheConstants.{MOST_EVENTS}
use Rattle.vrx_codec.specs.Meaning.{Meaning}
use Rattle.vrx_codec.specs.declared.run.Run.{Run as RunSummary}
use Rattle.vrx_window.specs.Content.{contents}
use Rattle.vrx_window.specs.IsWindow.{IsWindow}
use Rattle.vrx_window.specs.Window.{Contents, after_giving_up, nothing}
use Rattle.vrx_window.specs.declared.held.Held.{Held}
use Rattle.vrx_frames.specs.Completed.{Known, nothing_known}
use Rattle.vrx_frames.specs.Front.{front_after}
use Rattle.vrx_frames.specs.IsRun.{RunsApart, RunsAre, RunsRise}
use Rattle.vrx_core.specs.machine.Machine.{snapshots}
use Rattle.vrx_refs.specs.Finder.{Finder}
use Rattle.vrx_refs.specs.Knows.{Knows}
use Rattle.vrx_refs.specs.References.{was_carried}
use Rattle.vrx_refs.specs.declared.sighting.Sighting.{Sighting}
use Rattle.vrx_buffer.specs.Frames.{runs_from}
use Rattle.vrx_core.specs.relation.StandsFor.{Assembly, IsAssembled}
use Rattle.vrx_core.specs.inside.Seen.{HasTypes}
use Rattle.vrx_core.specs.inside.Step.{IsKept}
use Rattle.vrx_core.specs.inside.Wants.{given_up_all}
use Rattle.vrx_core.specs.inside.Fields.{AreFields, IsWhole, assembly_of}
use Rattle.vrx_core.specs.declared.count.Count.{Count}
use Rattle.vrx_core.specs.declared.settings.Settings.{Settings}
use Rattle.vrx_core.proofs.relation.KeptLemmas.{kept-new, kept-pulled}
use Rattle.vrx_core.proofs.relation.PastLemmas.{stands-opening}

-- no number rises
none-rise : IsStrictlySortedBy nat_cmp []
unfolding IsStrictlySortedBy
none-rise = tt

-- an empty window
whole-empty : (window : Contents Held) → window ≡ nothing → IsWindow window
whole-empty window is = subst (λ (w : Contents Held). IsWindow w) (sym is) (record {
  packets_rise = refl;
  dead_rise = none-rise;
  packets_inside = λ n available. absurd (false≢true available);
  dead_inside = λ n dead. absurd (false≢true dead);
  apart = λ n dead. refl;
  few = omega arith;
})

-- a new engine's fields
pub fields-new : (codec : Meaning) (settings : Settings) (window : Contents Held) (pictures : Option ℕ)
    (known : Known) (finder : Finder) (frames : List RunSummary) (extender : Option ℕ) → HasTypes settings →
    window ≡ nothing → pictures ≡ None → known ≡ nothing_known → frames ≡ [] → extender ≡ None
    → AreFields codec extender
    (assembly_of settings (record { events = 0; clock = 0 }) window pictures known finder frames None None)
fields-new codec settings window pictures known finder frames extender types window_is pictures_is known_is frames_is
    extender_is = record {
      types = types;
      whole = record {
        kept = kept-new codec
            (assembly_of settings (record { events = 0; clock = 0 }) window pictures known finder frames None None) refl
            window_is pictures_is known_is frames_is refl refl;
        window = whole-empty window window_is;
      };
      newest = extender_is ∙ sym (ap (λ (w : Contents Held). w.newest) window_is);
    }

pub stands-new : (codec : Meaning) (settings : Settings) (window : Contents Held) (pictures : Option ℕ)
    (known : Known) (finder : Finder) (frames : List RunSummary) → window ≡ nothing → pictures ≡ None →
    known ≡ nothing_known → Knows finder [] [] → frames ≡ []
    → IsAssembled codec
    (assembly_of settings (record { events = 0; clock = 0 }) window pictures known finder frames None None) []
unfolding snapshots
stands-new codec settings window pictures known finder frames window_is pictures_is known_is knows frames_is = record {
  events = refl;
  clock = refl;
  stands = stands-opening codec
      (assembly_of settings (record { events = 0; clock = 0 }) window pictures known finder frames None None) window_is
      pictures_is known_is knows frames_is refl refl;
}

-- a run was handed out
pub fields-pulled : (are : RunsAre) (rise : RunsRise) (apart : RunsApart) (codec : Meaning) (settings : Settings)
    (count count' : Count) (window : Contents Held) (pictures : Option ℕ) (known : Known) (finder finder' : Finder)
    (frames frames' : List RunSummary) (last_pulled front front' extender : Option ℕ) (run : RunSummary)
    → AreFields codec extender (assembly_of settings count window pictures known finder frames last_pulled front) →
    Contains frames run → count.events < MOST_EVENTS → count'.events ≡ count.events + 1
    → ((told : List Sighting) (pulled : List RunSummary) → was_carried told run.layers ≡ true →
    Knows finder told pulled → Knows finder' told (run ∷ pulled))
    → frames' ≡ runs_from (run.first + 1) frames →
    front' ≡ front_after front (Some run.last) (contents window.packets)
    → AreFields codec extender (assembly_of settings count' window pictures known finder' frames' (Some run.last) front')
fields-pulled are rise apart codec settings count count' window pictures known finder finder' frames frames'
    last_pulled front front' extender run fields there room counts finder_is runs front_is =
    let before : Assembly = assembly_of settings count window pictures known finder frames last_pulled front in
    let after : Assembly = assembly_of settings count' window pictures known finder' frames' (Some run.last) front' in
    let whole : IsWhole codec before = fields.whole in
    record {
      types = fields.types;
      whole = record {
        kept = kept-pulled are rise apart codec before after run whole.kept whole.window.packets_rise
            whole.window.packets_inside there
            (record {
              settings = refl;
              window = refl;
              pictures = refl;
              known = refl;
              finder = finder_is;
              frames = runs;
              last_pulled = refl;
              front = front_is;
            }) counts (omega arith);
        window = whole.window;
      };
      newest = fields.newest;
    }

-- numbers are given up: all else of the window stays
pub given-up-is : (ns : List ℕ) (window : Contents Held) →
    given_up_all ns window ≡ record window { dead = (given_up_all ns window).dead }
given-up-is [] window = refl
given-up-is (n ∷ ns) window = given-up-is ns (after_giving_up n window)

kept-dead : (codec : Meaning) (assembly : Assembly) (dead : List ℕ) → IsKept codec assembly →
    IsKept codec (record assembly { window = record assembly.window { dead = dead } })
kept-dead codec assembly dead kept = record {
  few = kept.few;
  reach = kept.reach;
  sound = kept.sound;
  room = kept.room;
  arrivals = kept.arrivals;
  newest = kept.newest;
  passed = kept.passed;
  front =
      record { both = kept.front.both; ahead = kept.front.ahead; within = kept.front.within; over = kept.front.over };
  behind = kept.behind;
  frames = kept.frames;
}

pub fields-given-up : (codec : Meaning) (settings : Settings) (count : Count) (window window' : Contents Held)
    (pictures : Option ℕ) (known : Known) (finder : Finder) (frames : List RunSummary)
    (last_pulled front extender : Option ℕ) (ns : List ℕ)
    → AreFields codec extender (assembly_of settings count window pictures known finder frames last_pulled front) →
    window' ≡ given_up_all ns window → IsWindow window'
    → AreFields codec extender (assembly_of settings count window' pictures known finder frames last_pulled front)
fields-given-up codec settings count window window' pictures known finder frames last_pulled front extender ns fields is sound =
    subst (λ (w : Contents Held).
    AreFields codec extender (assembly_of settings count w pictures known finder frames last_pulled front)) (sym same)
    (record {
      types = fields.types;
      whole = record {
        kept = kept-dead codec (assembly_of settings count window pictures known finder frames last_pulled front)
            (given_up_all ns window).dead fields.whole.kept;
        window = subst (λ (w : Contents Held). IsWindow w) same sound;
      };
      newest = fields.newest;
    }) where
      same : window' ≡ record window { dead = (given_up_all ns window).dead }
      same = is ∙ given-up-is ns window
