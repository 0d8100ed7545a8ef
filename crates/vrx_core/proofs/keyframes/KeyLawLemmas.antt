-- Requests for a keyframe lie apart, and a number that is given up brings one.
use Rattle.std.proofs.Common.{◌≡◌, ℕ, suc, ◌+◌, ◌≤◌, ◌⊎◌, Bool, true, false, cond, not, ◌&&◌, List, [], ◌∷◌, ◌++◌, Any, Contains, Option, Some, None, is_some, IsSomeAnd, Result, Ok, Err, refl, sym, ◌∙◌, ap, subst, append_assoc, arith, inl, inr}
use Rattle.std.specs.List.{list_any}
use Rattle.std.proofs.lemmas.Bool.{and_parts, ltb-false, ltb-true, not-true, not_from_false, or_left}
use Rattle.std.proofs.lemmas.List.Elements.{All-cons, All-nil}
use Rattle.vrx_num.specs.declared.limits.TheConstants.{KEY_REQUEST_WAIT}
use Rattle.vrx_asks.specs.KeyAsk.{is_outstanding}
use Rattle.vrx_codec.specs.Meaning.{Meaning}
use Rattle.vrx_window.specs.Content.{Content}
use Rattle.vrx_frames.specs.Run.{Run}
use Rattle.vrx_repair.specs.Source.{Source}
use Rattle.vrx_core.specs.machine.Asking.{IsOutstanding, KeyRequestsApartHold, LossesAskHold}
use Rattle.vrx_core.specs.machine.GivenUp.{all_lost, lost_by_packet}
use Rattle.vrx_core.specs.machine.KeyRequest.{is_answered, is_needed, open_request, still_open, with_key_request}
use Rattle.vrx_core.specs.machine.Machine.{Snapshot, after_datagram, after_pull, after_tick, latest, next_run, after_settling, after_packet, snapshots, source_in, with_requests}
use Rattle.vrx_core.specs.machine.Snapshot.{moved}
use Rattle.vrx_core.specs.machine.Verdict.{verdict}
use Rattle.vrx_core.specs.declared.settings.Settings.{Settings}
use Rattle.vrx_core.specs.declared.original.NotTaken.{NotTaken}
use Rattle.vrx_core.specs.declared.event.Event.{Event}
use Rattle.vrx_core.specs.declared.event.Event.TheVariants.{Datagram, Tick, Pull}
use Rattle.vrx_core.proofs.machine.MemberLemmas.{Contains-either, Contains-empty}
use Rattle.vrx_core.proofs.machine.TestLemmas.{list_any-to}

-- A snapshot after these: the clock doesn't go back, and it asks for a keyframe only if no request is outstanding.
pub record AsksRightly (past : List Snapshot) (s : Snapshot) : Type 0 where
  pub later : (latest past).now ≤ s.now
  pub none_open : s.key_asked ≡ true → is_outstanding s.now (still_open s past) ≡ false

-- each of the snapshots, the newest first, after those before it
abbrev pub AllAskRightly : List Snapshot → Type 0
AllAskRightly [] = Unit {0}
AllAskRightly (s ∷ past) = AsksRightly past s × AllAskRightly past

-- an event that asks for nothing, and doesn't set the clock back
asks-nothing : (past : List Snapshot) (s : Snapshot) → (latest past).now ≤ s.now → s.key_asked ≡ false →
    AsksRightly past s
asks-nothing past s later none = record { later = later; none_open = λ h. absurd (cc (h, none)) }

-- one that asks by the rule
asks-by : (wants : Bool) (past : List Snapshot) (s : Snapshot) → (latest past).now ≤ s.now →
    AsksRightly past (with_key_request wants past s)
asks-by wants past s later = record {
  later = later;
  none_open = λ h. not-true (is_outstanding s.now (still_open s past))
      ((and_parts wants (not (is_outstanding s.now (still_open s past))) h).1);
}

-- each event does
datagram-asks : (source : Source) (past : List Snapshot) (moment : ℕ) (v : Result (ℕ × Content) NotTaken) →
    AsksRightly past (after_datagram source past moment v)
datagram-asks source past moment (Err left) = asks-nothing past (moved (latest past) moment) (omega arith) refl
datagram-asks source past moment (Ok (n, content)) =
    let s : Snapshot = after_settling source.codec past (after_packet source n content (moved (latest past) moment)) in
    let given : Snapshot = with_requests past s in
    asks-by (list_any (λ n. not (is_answered s n)) (lost_by_packet past s)) past given (omega arith)

tick-asks : (settings : Settings) (past : List Snapshot) (moment : ℕ) →
    AsksRightly past (after_tick settings past moment)
tick-asks settings past moment =
    let after : Snapshot = after_tick settings past moment in
    asks-by (is_needed (after ∷ past)) past after (omega arith)

pull-asks : (codec : Meaning) (past : List Snapshot) (moment : ℕ) (o : Option Run) →
    AsksRightly past (after_pull codec past moment o)
pull-asks codec past moment None = asks-nothing past (after_pull codec past moment None) (omega arith) refl
pull-asks codec past moment (Some run) =
    asks-nothing past (after_pull codec past moment (Some run)) (omega arith) refl

-- so do all events of a history
pub all-ask : (settings : Settings) (codec : Meaning) (h : List Event) → AllAskRightly (snapshots settings codec h)
unfolding snapshots
all-ask settings codec [] = (record { later = omega arith; none_open = λ h. absurd (cc) }, tt)
all-ask settings codec (Datagram moment octets ∷ h) =
    let past : List Snapshot = snapshots settings codec h in
    (datagram-asks (source_in settings codec) past moment (verdict settings codec (latest past).window octets), all-ask settings codec h)
all-ask settings codec (Tick moment ∷ h) =
    (tick-asks settings (snapshots settings codec h) moment, all-ask settings codec h)
all-ask settings codec (Pull moment ∷ h) =
    let past : List Snapshot = snapshots settings codec h in
    (pull-asks codec past moment (next_run (latest past)), all-ask settings codec h)

-- what holds of all holds of the older ones
older-ask : (newer past : List Snapshot) → AllAskRightly (newer ++ past) → AllAskRightly past
older-ask [] past all = all
older-ask (s ∷ newer) past all = older-ask newer past all.1

-- the clock of an older snapshot isn't ahead
clock-upto : (between : List Snapshot) (t : Snapshot) (older : List Snapshot) → AllAskRightly (between ++ t ∷ older) →
    t.now ≤ (latest (between ++ t ∷ older)).now
clock-upto [] t older all = omega arith
clock-upto (u ∷ between) t older all =
    let rest : t.now ≤ (latest (between ++ t ∷ older)).now = clock-upto between t older all.1 in
    let step : (latest (between ++ t ∷ older)).now ≤ u.now = (all.0).later in
    omega arith

-- a keyframe completed in the first of snapshots, or in one of the rest
any-here : (s : Snapshot) (past : List Snapshot) → s.key_completed ≡ true →
    Any (λ (u : Snapshot). u.key_completed ≡ true) (s ∷ past)
any-here s past h = (0, s, omega arith, refl, h)

any-later : (s : Snapshot) (past : List Snapshot) → Any (λ (u : Snapshot). u.key_completed ≡ true) past →
    Any (λ (u : Snapshot). u.key_completed ≡ true) (s ∷ past)
any-later s past a = (suc a.0, a.1, omega (arith, a.2), a.3, a.4)

-- after a request a keyframe completed, or the request is open, or a later one
open-since : (between : List Snapshot) (t : Snapshot) (older : List Snapshot) → AllAskRightly (between ++ t ∷ older) →
    t.key_asked ≡ true
    → Any (λ (u : Snapshot). u.key_completed ≡ true) between
    ⊎ IsSomeAnd (open_request (between ++ t ∷ older)) (λ m. t.now ≤ m)
open-since [] t older all asked =
    inr (subst (λ b. IsSomeAnd (cond b (Some t.now) (cond t.key_completed None (open_request older)))
    (λ m. t.now ≤ m)) (sym asked) (omega arith))
open-since (u ∷ between) t older all asked =
    by u.key_asked u.key_completed refl (open-since between t older all.1 asked) where
      by : (a c : Bool) → u.key_completed ≡ c
          → Any (λ (v : Snapshot). v.key_completed ≡ true) between
          ⊎ IsSomeAnd (open_request (between ++ t ∷ older)) (λ m. t.now ≤ m)
          → Any (λ (v : Snapshot). v.key_completed ≡ true) (u ∷ between)
          ⊎ IsSomeAnd (cond a (Some u.now) (cond c None (open_request (between ++ t ∷ older)))) (λ m. t.now ≤ m)
      by true c is rest = inr (clock-upto (u ∷ between) t older all)
      by false true is rest = inl (any-here u between is)
      by false false is (inl some) = inl (any-later u between some)
      by false false is (inr opened) = inr opened

-- a request that isn't outstanding lies long ago
long-ago : (now since : ℕ) (o : Option ℕ) → IsSomeAnd o (λ m. since ≤ m) → is_outstanding now o ≡ false →
    since + KEY_REQUEST_WAIT ≤ now
long-ago now since None h out = absurd h
long-ago now since (Some m) h out = let upto : m + KEY_REQUEST_WAIT ≤ now =
    ltb-false now (m + KEY_REQUEST_WAIT) out in omega (arith, h)

-- of two requests after which none completed the later comes long after the earlier
apart-in : (s : Snapshot) (between : List Snapshot) (t : Snapshot) (older : List Snapshot) →
    AllAskRightly (s ∷ between ++ t ∷ older) → s.key_asked ≡ true → t.key_asked ≡ true
    → (t.now + KEY_REQUEST_WAIT ≤ s.now) ⊎ Any (λ (u : Snapshot). u.key_completed ≡ true) (s ∷ between)
apart-in s between t older all asked asked' =
    by s.key_completed refl ((all.0).none_open asked) (open-since between t older all.1 asked') where
      by : (c : Bool) → s.key_completed ≡ c →
          is_outstanding s.now (cond c None (open_request (between ++ t ∷ older))) ≡ false
          → Any (λ (u : Snapshot). u.key_completed ≡ true) between
          ⊎ IsSomeAnd (open_request (between ++ t ∷ older)) (λ m. t.now ≤ m)
          → (t.now + KEY_REQUEST_WAIT ≤ s.now) ⊎ Any (λ (u : Snapshot). u.key_completed ≡ true) (s ∷ between)
      by true is out rest = inr (any-here s between is)
      by false is out (inl some) = inr (any-later s between some)
      by false is out (inr opened) = inl (long-ago s.now t.now (open_request (between ++ t ∷ older)) opened out)

-- requests for a keyframe lie apart
pub key-requests-apart : KeyRequestsApartHold
key-requests-apart settings codec h newer between older s t is asked asked' =
    apart-in s between t older
    (older-ask newer (s ∷ between ++ t ∷ older)
    (subst AllAskRightly (is ∙ append_assoc newer (s ∷ between) (t ∷ older)) (all-ask settings codec h))) asked asked'

-- an open request that isn't long ago is outstanding
outstanding-in : (now : ℕ) (past : List Snapshot) → is_outstanding now (open_request past) ≡ true →
    IsOutstanding now past
outstanding-in now [] h = absurd (cc)
outstanding-in now (u ∷ past) h = by u.key_asked u.key_completed refl refl h (λ g. outstanding-in now past g) where
  by : (a c : Bool) → u.key_asked ≡ a → u.key_completed ≡ c →
      is_outstanding now (cond a (Some u.now) (cond c None (open_request past))) ≡ true
      → (is_outstanding now (open_request past) ≡ true → IsOutstanding now past) → IsOutstanding now (u ∷ past)
  by true c asked is g rest = record {
    newer = [];
    asking = u;
    older = past;
    past_is = refl;
    asked = asked;
    less = ltb-true now (u.now + KEY_REQUEST_WAIT) g;
    none_completed = All-nil (λ (v : Snapshot). v.key_completed ≡ false);
  }
  by false true asked is g rest = absurd (cc)
  by false false asked is g rest = let o : IsOutstanding now past = rest g in record {
    newer = u ∷ o.newer;
    asking = o.asking;
    older = o.older;
    past_is = ap (λ (p : List Snapshot). u ∷ p) o.past_is;
    asked = o.asked;
    less = o.less;
    none_completed = All-cons (λ (v : Snapshot). v.key_completed ≡ false) u o.newer is o.none_completed;
  }

-- an event that wants a keyframe asks for one, or a request is outstanding
asks-or-waits : (wants : Bool) (past : List Snapshot) (s : Snapshot) → wants ≡ true
    → ((wants && not (is_outstanding s.now (still_open s past))) ≡ true)
    ⊎ ((s.key_completed ≡ false) × IsOutstanding s.now past)
asks-or-waits wants past s wanted = by s.key_completed refl where
  waits : (out : Bool) → is_outstanding s.now (open_request past) ≡ out → s.key_completed ≡ false
      → ((wants && not out) ≡ true) ⊎ ((s.key_completed ≡ false) × IsOutstanding s.now past)
  waits true is none = inr (none, outstanding-in s.now past is)
  waits false is none = inl (ap (λ b. b && true) wanted)

  by : (c : Bool) → s.key_completed ≡ c
      → ((wants && not (is_outstanding s.now (still_open s past))) ≡ true)
      ⊎ ((s.key_completed ≡ false) × IsOutstanding s.now past)
  by true is = inl (ap (λ b. wants && not (is_outstanding s.now (cond b None (open_request past)))) is
      ∙ ap (λ b. b && true) wanted)
  by false is = subst (λ b. ((wants && not (is_outstanding s.now (cond b None (open_request past)))) ≡ true)
      ⊎ ((s.key_completed ≡ false) × IsOutstanding s.now past)) (sym is)
      (waits (is_outstanding s.now (open_request past)) refl is)

-- a number that is given up and isn't answered is one
some-open : (s : Snapshot) (ns : List ℕ) (n : ℕ) → Contains ns n → is_answered s n ≡ false →
    list_any (λ n. not (is_answered s n)) ns ≡ true
some-open s ns n there not_answered =
    list_any-to (λ n. not (is_answered s n)) ns n there (not_from_false (is_answered s n) not_answered)

-- what is in the first of two lists is in both
in-first : (xs ys : List ℕ) (n : ℕ) → Contains xs n → Contains (xs ++ ys) n
in-first [] ys n there = absurd (Contains-empty n there)
in-first (x ∷ xs) ys n there = elim (Contains-either x xs n there) [
  | inl here ↦ (0, omega arith, here)
  | inr later ↦ let p : Contains (xs ++ ys) n = in-first xs ys n later in (suc p.0, omega (arith, p.1), p.2)
]

-- what a snapshot gives up and doesn't answer brings a request, or one is outstanding
abbrev LossAsks : List Snapshot → Snapshot → Type 0
LossAsks past s = (n : ℕ) → Contains s.lost n → is_answered s n ≡ false →
    (s.key_asked ≡ true) ⊎ ((s.key_completed ≡ false) × IsOutstanding s.now past)

datagram-loss : (source : Source) (past : List Snapshot) (moment : ℕ) (v : Result (ℕ × Content) NotTaken) →
    LossAsks past (after_datagram source past moment v)
datagram-loss source past moment (Err left) n there unanswered = absurd (Contains-empty n there)
datagram-loss source past moment (Ok (k, content)) n there unanswered =
    let s : Snapshot = after_settling source.codec past (after_packet source k content (moved (latest past) moment)) in
    asks-or-waits (list_any (λ n. not (is_answered s n)) (lost_by_packet past s)) past (with_requests past s)
    (some-open s (lost_by_packet past s) n there unanswered)

tick-loss : (settings : Settings) (past : List Snapshot) (moment : ℕ) →
    LossAsks past (after_tick settings past moment)
tick-loss settings past moment n there unanswered =
    let s : Snapshot = after_tick settings past moment in
    asks-or-waits (is_needed (s ∷ past)) past s
    (or_left (list_any (λ n. not (is_answered s n)) (all_lost (s ∷ past)))
    (is_some s.window.newest && not (list_any (λ (u : Snapshot). u.key_completed) (s ∷ past)))
    (some-open s (all_lost (s ∷ past)) n (in-first s.lost (all_lost past) n there) unanswered))

pull-loss : (codec : Meaning) (past : List Snapshot) (moment : ℕ) (o : Option Run) →
    LossAsks past (after_pull codec past moment o)
pull-loss codec past moment None n there unanswered = absurd (Contains-empty n there)
pull-loss codec past moment (Some run) n there unanswered = absurd (Contains-empty n there)

-- a number that is given up brings a request for a keyframe
pub losses-ask : LossesAskHold
unfolding snapshots
losses-ask settings codec h (Datagram moment octets) n there unanswered =
    let past : List Snapshot = snapshots settings codec h in
    datagram-loss (source_in settings codec) past moment (verdict settings codec (latest past).window octets) n there unanswered
losses-ask settings codec h (Tick moment) n there unanswered =
    tick-loss settings (snapshots settings codec h) moment n there unanswered
losses-ask settings codec h (Pull moment) n there unanswered =
    let past : List Snapshot = snapshots settings codec h in
    pull-loss codec past moment (next_run (latest past)) n there unanswered
