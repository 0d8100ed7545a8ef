-- What the steps of an offer come to, and the seat that it leaves.
use Rattle.std.proofs.Common.{◌≡◌, ◌∙◌, ℕ, ◌+◌, ◌<◌, ◌≤◌, List, [], ◌∷◌, ◌++◌, length, None, length-append, sym, ap, subst, ⊎_elim, arith}
use Rattle.vrx_codec.specs.Meaning.{Meaning}
use Rattle.vrx_core.specs.declared.event.Event.{Event}
use Rattle.vrx_core.specs.machine.Machine.{Reply}
use Rattle.vrx_lock.specs.declared.entry.Entry.{Entry}
use Rattle.vrx_lock.specs.declared.known.Known.{Known}
use Rattle.vrx_lock.specs.declared.limits.TheConstants.{MOST_ENTRIES}
use Rattle.vrx_lock.specs.declared.done.OfferFault.{OfferFault}
use Rattle.vrx_lock.specs.declared.done.OfferFault.TheVariants.{Busy, JournalFull, NoMemory}
use Rattle.vrx_lock.specs.declared.done.TickFault.{TickFault}
use Rattle.vrx_lock.specs.declared.done.TickFault.TheVariants as ticks
use Rattle.vrx_lock.specs.declared.view.View.{View}
use Rattle.vrx_lock.specs.declared.view.Hand.TheVariants.{Idle, Holding}
use Rattle.vrx_lock.specs.Lists.{AllBelow, BeginsWith}
use Rattle.vrx_lock.specs.Seats.{BusyAt, DoneAt, FullAt, IsSeat, RefusedAt, TickRefusedAt, next_entry}
use Rattle.vrx_lock.specs.inside.Stored.{Stored}
use Rattle.vrx_lock.specs.inside.Steps.{Appended, Finished, IsHolding, IsNoted, Looked, Place, Released, Seated, Stays, newest}
use Rattle.vrx_lock.proofs.PlaceLemmas.{below-last, below-more, rises-few, rises-last}
use Rattle.vrx_lock.proofs.BeginLemmas.{begins-length, newest-last}
use Rattle.vrx_lock.proofs.RuleLemmas.{one-journal}

-- the journal that an append leaves is that of the value in hand
appended-journal : (m n : Place) (kept : Stored) (place : ℕ) (noted : IsNoted m kept)
    → (a : Appended (newest kept.journal) m place n) → a.journal ++ newest kept.journal ∷ [] ≡ kept.journal
appended-journal m n kept place noted a =
    ap (λ j. j ++ newest kept.journal ∷ []) (one-journal m.0.hand a.journal noted.before a.held noted.holding.hand)
    ∙ ap (λ e. noted.before ++ e ∷ []) (ap newest noted.journal ∙ newest-last noted.before noted.last)
    ∙ sym noted.journal

pub noted-holding : (m n : Place) (kept : Stored) (place : ℕ) → IsNoted m kept → Appended (newest kept.journal) m place n
    → IsHolding kept.journal None n × (kept.setup ≡ n.0.known.setup)
noted-holding m n kept place noted a = (
  record {
    hand = ap (λ (v : View). v.hand) a.view ∙ ap Holding (appended-journal m n kept place noted a);
    slots = a.slots ∙ noted.holding.slots;
    share = subst (λ (v : View). 0 < v.known.share.parts) (sym a.view) noted.holding.share;
  },
  noted.setup ∙ ap (λ (v : View). v.known.setup) (sym a.view),
)

pub finished : (m n o : Place) (kept : Stored) (place : ℕ) → IsNoted m kept → Appended (newest kept.journal) m place n
    → Released n o → Finished m kept.journal place o
finished m n o kept place noted a r =
    let same = appended-journal m n kept place noted a in
    record {
      view = r.view ∙ ap (λ (v : View). record v { hand = Idle }) a.view
          ∙ (λ k. record m.0 {
            known = record m.0.known { seen = same k; places = m.0.known.places ++ place ∷ [] };
            hand = Idle;
          });
      slots = r.slots;
      place_is = omega (arith, ap length same, length-append a.journal (newest kept.journal ∷ []), a.place);
    }

-- a seat makes few calls
pub few-calls : (views : List View) (actor calls : ℕ) → Seated views actor calls → calls ≤ MOST_ENTRIES
few-calls views actor calls seated =
    let known : Known = seated.view.known in
    let is = seated.known in
    omega (arith, seated.calls_is, rises-few 0 (length known.seen) known.places (omega arith) is.rises is.mine, is.few, is.room)

done-seat : (codec : Meaning) (old new : Known) (event : Event) (place : ℕ) (answer : Reply) → IsSeat old
    → DoneAt codec old new event place answer → IsSeat new
done-seat codec old new event place answer is d =
    let long = begins-length d.before old.seen d.begins in
    let below : AllBelow place old.places = below-more (length old.seen) place old.places (omega (arith, long, d.place_is)) is.mine in
    let journal : List Entry = d.before ++ next_entry old event ∷ [] in
    let longer : length journal ≡ place + 1 = omega (arith, d.place_is, length-append d.before (next_entry old event ∷ [])) in
    subst IsSeat (sym d.known) (record {
      rises = rises-last 0 place old.places (omega arith) is.rises below;
      mine = below-last place (length journal) old.places (omega (arith, longer)) below;
      share = is.share;
      few = omega (arith, longer, d.room);
      room = is.room;
    })

busy-seat : (old new : Known) (holder : ℕ) → IsSeat old → BusyAt old new holder → IsSeat new
busy-seat old new holder is b = subst IsSeat (sym b.known) (record {
  rises = is.rises;
  mine = is.mine;
  share = is.share;
  few = is.few;
  room = is.room;
})

seen-seat : (old new : Known) (journal : List Entry) (words counts : List ℕ) → IsSeat old
    → new ≡ record old { seen = journal; words = words; counts = counts } → BeginsWith journal old.seen
    → length journal ≤ old.setup.room → IsSeat new
seen-seat old new journal words counts is e b le = subst IsSeat (sym e) (record {
  rises = is.rises;
  mine = below-more (length old.seen) (length journal) old.places (begins-length journal old.seen b) is.mine;
  share = is.share;
  few = le;
  room = is.room;
})

full-seat : (old new : Known) → IsSeat old → FullAt old new → IsSeat new
full-seat old new is f = seen-seat old new f.journal (old.words ++ 0 ∷ []) (old.counts ++ old.setup.room ∷ []) is f.known f.begins (omega (arith, f.full))

words-seat : (old new : Known) (words : List ℕ) → IsSeat old → new ≡ record old { words = words } → IsSeat new
words-seat old new words is e = subst IsSeat (sym e) (record {
  rises = is.rises;
  mine = is.mine;
  share = is.share;
  few = is.few;
  room = is.room;
})

refused-seat : (old new : Known) (fault : OfferFault) → IsSeat old → RefusedAt old new fault → IsSeat new
refused-seat old new (Busy holder) is b = busy-seat old new holder is b
refused-seat old new JournalFull is f = full-seat old new is f
refused-seat old new NoMemory is h =
    ⊎_elim (λ e. subst IsSeat (sym e) is) (λ e. words-seat old new (old.words ++ 0 ∷ []) is e) h

tick-refused-seat : (old new : Known) (fault : TickFault) → IsSeat old → TickRefusedAt old new fault → IsSeat new
tick-refused-seat old new (ticks.Busy holder) is b = busy-seat old new holder is b
tick-refused-seat old new ticks.JournalFull is f = full-seat old new is f

-- a refused offer keeps the seat's actor and its calls
refused-keeps : (old new : Known) (fault : OfferFault) → RefusedAt old new fault
    → (new.actor ≡ old.actor) × (new.places ≡ old.places)
refused-keeps old new (Busy holder) b = (ap (λ (k : Known). k.actor) b.known, ap (λ (k : Known). k.places) b.known)
refused-keeps old new JournalFull f = (ap (λ (k : Known). k.actor) f.known, ap (λ (k : Known). k.places) f.known)
refused-keeps old new NoMemory h = ⊎_elim
    (λ e. (ap (λ (k : Known). k.actor) e, ap (λ (k : Known). k.places) e))
    (λ e. (ap (λ (k : Known). k.actor) e, ap (λ (k : Known). k.places) e)) h

tick-refused-keeps : (old new : Known) (fault : TickFault) → TickRefusedAt old new fault
    → (new.actor ≡ old.actor) × (new.places ≡ old.places)
tick-refused-keeps old new (ticks.Busy holder) b = (ap (λ (k : Known). k.actor) b.known, ap (λ (k : Known). k.places) b.known)
tick-refused-keeps old new ticks.JournalFull f = (ap (λ (k : Known). k.actor) f.known, ap (λ (k : Known). k.places) f.known)

-- the one view of a list
pub one-view : (v w : View) → v ∷ [] ≡ w ∷ [] → v ≡ w
one-view v w e = cc

module _ (views views' : List View) (actor calls : ℕ) (m n : Place) (seated : Seated views actor calls)
    (before : views ≡ m.0 ∷ []) (after : views' ≡ n.0 ∷ []) where
  abbrev is_view : seated.view ≡ m.0
  is_view = one-view seated.view m.0 (sym seated.views_is ∙ before)

  known-before : IsSeat m.0.known
  known-before = subst (λ (v : View). IsSeat v.known) is_view seated.known

  -- the seat after a step that leaves the turn, and what was told
  pub seated-after : (calls' : ℕ) → n.0.hand ≡ Idle → n.0.told ≡ m.0.told → IsSeat n.0.known
      → n.0.known.actor ≡ m.0.known.actor → calls' ≡ length n.0.known.places → Seated views' actor calls'
  seated-after calls' hand told known same count = record {
    view = n.0;
    views_is = after;
    hand = hand;
    told = told ∙ ap (λ (v : View). v.told) (sym is_view) ∙ seated.told;
    known = known;
    actor_is = seated.actor_is ∙ ap (λ (v : View). v.known.actor) is_view ∙ sym same;
    calls_is = count;
  }

  calls-before : calls ≡ length m.0.known.places
  calls-before = seated.calls_is ∙ ap (λ (v : View). length v.known.places) is_view

  pub seated-done : (codec : Meaning) (event : Event) (place : ℕ) (answer : Reply) → Stays m n
      → DoneAt codec m.0.known n.0.known event place answer → Seated views' actor (calls + 1)
  seated-done codec event place answer stays d = seated-after (calls + 1) stays.hand stays.told
      (done-seat codec m.0.known n.0.known event place answer known-before d) (ap (λ (k : Known). k.actor) d.known)
      (omega (arith, calls-before, ap (λ (k : Known). length k.places) d.known, length-append m.0.known.places (place ∷ [])))

  pub seated-refused : (fault : OfferFault) → Stays m n → RefusedAt m.0.known n.0.known fault → Seated views' actor calls
  seated-refused fault stays h =
      let same = refused-keeps m.0.known n.0.known fault h in
      seated-after calls stays.hand stays.told (refused-seat m.0.known n.0.known fault known-before h) same.0
      (calls-before ∙ ap length (sym same.1))

  pub seated-tick-refused : (fault : TickFault) → Stays m n → TickRefusedAt m.0.known n.0.known fault
      → Seated views' actor calls
  seated-tick-refused fault stays h =
      let same = tick-refused-keeps m.0.known n.0.known fault h in
      seated-after calls stays.hand stays.told (tick-refused-seat m.0.known n.0.known fault known-before h) same.0
      (calls-before ∙ ap length (sym same.1))

  pub seated-looked : (count : ℕ) → Looked m count n → Seated views' actor calls
  seated-looked count look =
      let known : n.0.known ≡ record m.0.known { seen = look.journal; counts = m.0.known.counts ++ count ∷ [] } =
      ap (λ (v : View). v.known) look.view in
      seated-after calls (ap (λ (v : View). v.hand) look.view ∙ ap (λ (v : View). v.hand) (sym is_view) ∙ seated.hand)
      (ap (λ (v : View). v.told) look.view)
      (seen-seat m.0.known n.0.known look.journal m.0.known.words (m.0.known.counts ++ count ∷ []) known-before known look.begins
      (omega (arith, look.count, look.room)))
      (ap (λ (k : Known). k.actor) known) (calls-before ∙ ap (λ (k : Known). length k.places) (sym known))
