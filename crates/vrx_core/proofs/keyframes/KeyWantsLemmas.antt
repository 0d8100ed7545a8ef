-- What an engine keeps of the requests for a keyframe, event by event: it is what the machine's past gives.
use Rattle.std.proofs.Common.{◌≡◌, ℕ, max, Bool, true, false, cond, not, ◌&&◌, ◌||◌, List, [], ◌∷◌, Option, Some, is_some, Ok, refl, sym, ◌∙◌, ap}
use Rattle.std.specs.List.{list_any}
use Rattle.vrx_asks.specs.KeyAsk.{is_outstanding}
use Rattle.vrx_codec.specs.Meaning.{Meaning}
use Rattle.vrx_window.specs.Content.{Content}
use Rattle.vrx_frames.specs.Run.{Run}
use Rattle.vrx_repair.specs.Source.{Source}
use Rattle.vrx_core.specs.machine.GivenUp.{all_lost, lost_by_packet}
use Rattle.vrx_core.specs.machine.KeyRequest.{completes_key, is_answered, open_request}
use Rattle.vrx_core.specs.machine.Machine.{Snapshot, after_datagram, after_pull, after_tick, latest, opening, after_settling, after_packet, with_requests}
use Rattle.vrx_core.specs.machine.Snapshot.{moved}
use Rattle.vrx_buffer.specs.Order.{greatest_of}
use Rattle.vrx_core.specs.relation.StandsFor.{Wanted, WantsIn, last_key}
use Rattle.vrx_core.specs.inside.Wants.{asks_key, is_lost_open, key_after, lost_ticked, needs_key, nothing_wanted, open_after}
use Rattle.vrx_core.specs.declared.settings.Settings.{Settings}
use Rattle.vrx_core.proofs.keyframes.AnsweredLemmas.{Falls, key_standing, lost-open}

-- Before the first event.
pub opening-key_pulled : nothing_wanted.key_pulled ≡ last_key (latest (opening ∷ [])).pulled
opening-key_pulled = refl

pub opening-keyed : nothing_wanted.keyed ≡ list_any (λ (s : Snapshot). s.key_completed) (opening ∷ [])
opening-keyed = refl

pub opening-key_asked : nothing_wanted.key_asked ≡ open_request (opening ∷ [])
opening-key_asked = refl

-- An event that only moves the clock leaves what is wanted.
module _ (wanted : Wanted) (past : List Snapshot) (moment : ℕ) where
  pub moved-key_pulled : wanted.key_pulled ≡ last_key (latest past).pulled →
      wanted.key_pulled ≡ last_key (latest (moved (latest past) moment ∷ past)).pulled
  moved-key_pulled is = is

  pub moved-keyed : wanted.keyed ≡ list_any (λ (s : Snapshot). s.key_completed) past →
      wanted.keyed ≡ list_any (λ (s : Snapshot). s.key_completed) (moved (latest past) moment ∷ past)
  moved-keyed is = is

  pub moved-key_asked : wanted.key_asked ≡ open_request past →
      wanted.key_asked ≡ open_request (moved (latest past) moment ∷ past)
  moved-key_asked is = is

-- A pull that gives a run.
module _ (codec : Meaning) (wanted : Wanted) (past : List Snapshot) (moment : ℕ) (run : Run) where
  -- if the run is a keyframe, its first number is that of the last keyframe pulled
  pub pulled-key_pulled : wanted.key_pulled ≡ last_key (latest past).pulled →
      cond run.key (Some run.first) wanted.key_pulled ≡ last_key
      (latest (after_pull codec past moment (Some run) ∷ past)).pulled
  pulled-key_pulled is = ap (λ o. cond run.key (Some run.first) o) is

  -- and the rest is left
  pub pulled-keyed : wanted.keyed ≡ list_any (λ (s : Snapshot). s.key_completed) past →
      wanted.keyed ≡ list_any (λ (s : Snapshot). s.key_completed) (after_pull codec past moment (Some run) ∷ past)
  pulled-keyed is = is

  pub pulled-key_asked : wanted.key_asked ≡ open_request past →
      wanted.key_asked ≡ open_request (after_pull codec past moment (Some run) ∷ past)
  pulled-key_asked is = is

-- what is asked for, by equal values
same-asks : (now : ℕ) (wants wants' : Bool) (last last' : Option ℕ) → wants ≡ wants' → last ≡ last' →
    asks_key now wants last ≡ (wants' && not (is_outstanding now last'))
same-asks now wants wants' last last' w l =
    ap (λ b. b && not (is_outstanding now last)) w ∙ ap (λ o. wants' && not (is_outstanding now o)) l

-- and the request that is open after it
same-after : (now : ℕ) (wants : Bool) (last last' : Option ℕ) (asked : Bool) → asks_key now wants last ≡ asked →
    last ≡ last' → key_after now wants last ≡ cond asked (Some now) last'
same-after now wants last last' asked a l = ap (λ b. cond b (Some now) last) a ∙ ap (λ o. cond asked (Some now) o) l

-- A tick.
module _ (settings : Settings) (past : List Snapshot) (moment : ℕ) (wanted : Wanted)
    (falls : Falls (latest past).pulled) (wants : WantsIn wanted past) where
  -- there is need of a keyframe if some number isn't answered, or none ever completed
  needs-is : lost_ticked (max (latest past).now moment) settings.interval wanted ≡ greatest_of
      (all_lost (after_tick settings past moment ∷ past))
      → needs_key (max (latest past).now moment) settings.interval (is_some (latest past).window.newest)
      (key_standing (latest past)) wanted
      ≡ (list_any (λ n. not (is_answered (latest past) n)) (all_lost (after_tick settings past moment ∷ past))
      || (is_some (latest past).window.newest && not (list_any (λ (s : Snapshot). s.key_completed) past)))
  needs-is lost =
      ap (λ o. is_lost_open (key_standing (latest past)) o
      (lost_ticked (max (latest past).now moment) settings.interval wanted)
      || (is_some (latest past).window.newest && not wanted.keyed)) wants.key_pulled
      ∙ ap (λ o. is_lost_open (key_standing (latest past)) (last_key (latest past).pulled) o
      || (is_some (latest past).window.newest && not wanted.keyed)) lost
      ∙ ap (λ b. b || (is_some (latest past).window.newest && not wanted.keyed))
      (sym (lost-open (latest past) falls (all_lost (after_tick settings past moment ∷ past))))
      ∙ ap (λ b. list_any (λ n. not (is_answered (latest past) n)) (all_lost (after_tick settings past moment ∷ past))
      || (is_some (latest past).window.newest && not b)) wants.keyed

  -- a tick asks for a keyframe
  pub ticked-asks : let now : ℕ = max (latest past).now moment in
      lost_ticked now settings.interval wanted ≡ greatest_of (all_lost (after_tick settings past moment ∷ past))
      → asks_key now (needs_key now settings.interval (is_some (latest past).window.newest)
      (key_standing (latest past)) wanted) wanted.key_asked
      ≡ (after_tick settings past moment).key_asked
  ticked-asks lost =
      same-asks (max (latest past).now moment)
      (needs_key (max (latest past).now moment) settings.interval (is_some (latest past).window.newest)
      (key_standing (latest past)) wanted)
      (list_any (λ n. not (is_answered (latest past) n)) (all_lost (after_tick settings past moment ∷ past))
      || (is_some (latest past).window.newest && not (list_any (λ (s : Snapshot). s.key_completed) past)))
      wanted.key_asked (open_request past) (needs-is lost) wants.key_asked

  -- and this request is open then
  pub ticked-key_asked : let now : ℕ = max (latest past).now moment in
      lost_ticked now settings.interval wanted ≡ greatest_of (all_lost (after_tick settings past moment ∷ past))
      → key_after now (needs_key now settings.interval (is_some (latest past).window.newest)
      (key_standing (latest past)) wanted) wanted.key_asked
      ≡ open_request (after_tick settings past moment ∷ past)
  ticked-key_asked lost =
      same-after (max (latest past).now moment)
      (needs_key (max (latest past).now moment) settings.interval (is_some (latest past).window.newest)
      (key_standing (latest past)) wanted) wanted.key_asked (open_request past)
      (after_tick settings past moment).key_asked (ticked-asks lost) wants.key_asked

  -- the rest is left
  pub ticked-key_pulled : wanted.key_pulled ≡ last_key (latest (after_tick settings past moment ∷ past)).pulled
  ticked-key_pulled = wants.key_pulled

  pub ticked-keyed : wanted.keyed ≡ list_any (λ (s : Snapshot). s.key_completed)
      (after_tick settings past moment ∷ past)
  ticked-keyed = wants.keyed

-- one of two tests, in either order
or-swap : (a b : Bool) → (a || b) ≡ (b || a)
or-swap true true = refl
or-swap true false = refl
or-swap false true = refl
or-swap false false = refl

-- A snapshot with its requests, after a packet was placed.
module _ (past : List Snapshot) (s : Snapshot) (wanted : Wanted) (falls : Falls s.pulled)
    (pulled : wanted.key_pulled ≡ last_key s.pulled) (asked : wanted.key_asked ≡ open_request past) where
  -- whether a keyframe completes
  abbrev completed : Bool
  completed = completes_key (latest past).standing s.standing

  -- the keyframe that begins last, of those that stand then
  abbrev last : Option ℕ
  last = key_standing s

  -- it asks for a keyframe
  requests-ask : (lost : Option ℕ) → lost ≡ greatest_of (lost_by_packet past s)
      → asks_key s.now (is_lost_open last wanted.key_pulled lost) (open_after completed wanted.key_asked)
      ≡ (with_requests past s).key_asked
  requests-ask lost is =
      same-asks s.now (is_lost_open last wanted.key_pulled lost)
      (list_any (λ n. not (is_answered s n)) (lost_by_packet past s)) (open_after completed wanted.key_asked)
      (open_after completed (open_request past))
      (ap (λ o. is_lost_open last o lost) pulled ∙ ap (λ o. is_lost_open last (last_key s.pulled) o) is
      ∙ sym (lost-open s falls (lost_by_packet past s)))
      (ap (open_after completed) asked)

  -- and this request is open then
  requests-open : (lost : Option ℕ) → lost ≡ greatest_of (lost_by_packet past s)
      → key_after s.now (is_lost_open last wanted.key_pulled lost) (open_after completed wanted.key_asked)
      ≡ open_request (with_requests past s ∷ past)
  requests-open lost is =
      same-after s.now (is_lost_open last wanted.key_pulled lost) (open_after completed wanted.key_asked)
      (open_after completed (open_request past)) (with_requests past s).key_asked (requests-ask lost is)
      (ap (open_after completed) asked)

-- what a datagram leaves that is taken, before its requests
abbrev placed_after : Source → List Snapshot → (moment n : ℕ) → Content → Snapshot
placed_after source past moment n content =
    after_settling source.codec past (after_packet source n content (moved (latest past) moment))

-- A datagram that is taken.
module _ (source : Source) (past : List Snapshot) (moment n : ℕ) (content : Content) (wanted : Wanted) where
  -- the frames pulled are left
  pub taken-key_pulled : wanted.key_pulled ≡ last_key (latest past).pulled →
      wanted.key_pulled ≡ last_key (latest (after_datagram source past moment (Ok (n, content)) ∷ past)).pulled
  taken-key_pulled is = is

  -- a keyframe completed with it, or before
  pub taken-keyed : wanted.keyed ≡ list_any (λ (s : Snapshot). s.key_completed) past
      → (wanted.keyed || completes_key (latest past).standing
      (after_datagram source past moment (Ok (n, content))).standing) ≡ list_any (λ (s : Snapshot). s.key_completed)
      (after_datagram source past moment (Ok (n, content)) ∷ past)
  taken-keyed is =
      or-swap wanted.keyed (completes_key (latest past).standing
      (after_datagram source past moment (Ok (n, content))).standing)
      ∙ ap (λ b. completes_key (latest past).standing (after_datagram source past moment (Ok (n, content))).standing
      || b) is

  module _ (falls : Falls (latest past).pulled) (pulled : wanted.key_pulled ≡ last_key (latest past).pulled)
      (asked : wanted.key_asked ≡ open_request past) (lost : Option ℕ)
      (lost_is : lost ≡ greatest_of (after_datagram source past moment (Ok (n, content))).lost) where
    -- it asks for a keyframe
    pub taken-asks : let s : Snapshot = after_datagram source past moment (Ok (n, content)) in
        asks_key s.now (is_lost_open (key_standing s) wanted.key_pulled lost)
        (open_after (completes_key (latest past).standing s.standing) wanted.key_asked) ≡ s.key_asked
    taken-asks = requests-ask past (placed_after source past moment n content) wanted falls pulled asked lost lost_is

    -- and this request is open then
    pub taken-key_asked : let s : Snapshot = after_datagram source past moment (Ok (n, content)) in
        key_after s.now (is_lost_open (key_standing s) wanted.key_pulled lost)
        (open_after (completes_key (latest past).standing s.standing) wanted.key_asked) ≡ open_request (s ∷ past)
    taken-key_asked =
        requests-open past (placed_after source past moment n content) wanted falls pulled asked lost lost_is
