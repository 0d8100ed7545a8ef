use Rattle.std.proofs.Common.{◌≡◌, ◌∙◌, ◌≤◌, List, length, ap, sym, subst, arith}
use Rattle.vrx_lock.specs.declared.entry.Entry.{Entry}
use Rattle.vrx_core.specs.relation.StandsFor.{StandsFor}
use Rattle.vrx_lock.specs.Journal.{history}
use Rattle.vrx_lock.specs.Lists.{BeginsWith, counted_from}
use Rattle.vrx_lock.specs.inside.Steps.{known_in}
use Rattle.vrx_lock.proofs.JoinLemmas.{closed-as, kept-setup, not-none, seat-idle}
use Rattle.vrx_lock.proofs.receiver.Receiver.close.Given.{Over}
use Rattle.vrx_lock.proofs.receiver.Receiver.close.Goals as goal

pub unreachable-requires : goal.unreachable-requires
unreachable-requires g c = not-none c.self.inside.board.shared.key c.into_seat.result.id c.into_seat.result.me
    c.args.seat.known _ _ c.take-slot.result
    (seat-idle c.seat.inside.badge.views c.seat.inside.actor c.seat.inside.calls c.into_seat.result.me c.seat.invariant c.into_seat.ensures.2)
    (ap known_in (sym c.into_seat.ensures.2) ∙ ap (λ s. s.known) c.seat.view_is) c.requires.whole
    c.close_with-closed.ensures.values.2 c.take-slot.ensures.value c.in-None.is

closed : (g : Over) (c : goal.After-into_journal g) → BeginsWith c.into_journal.result c.args.seat.known.seen
    × (c.args.seat.known.places ≡ counted_from 0 (length c.into_journal.result))
    × (length c.into_journal.result ≤ c.args.self.setup.room)
closed g c =
    let all = closed-as c.self.inside.board.shared.key c.into_seat.result.id c.into_seat.result.me
    c.args.seat.known _ _ c.take-slot.result
    (seat-idle c.seat.inside.badge.views c.seat.inside.actor c.seat.inside.calls c.into_seat.result.me c.seat.invariant c.into_seat.ensures.2)
    (ap known_in (sym c.into_seat.ensures.2) ∙ ap (λ s. s.known) c.seat.view_is) c.requires.whole
    c.close_with-closed.ensures.values.2 c.take-slot.ensures.value c.in-Some.kept c.in-Some.is in
    subst (λ (j : List Entry). BeginsWith j c.args.seat.known.seen × (c.args.seat.known.places ≡ counted_from 0 (length j))
    × (length j ≤ c.args.self.setup.room)) (sym c.into_journal.ensures.journal)
    (all.0, all.1, omega (arith, all.2, ap (λ r. r.setup.room) c.self.view_is))

pub returns-clause-begins : goal.returns-clause-begins
returns-clause-begins g c = (closed g c).0

pub returns-clause-places : goal.returns-clause-places
returns-clause-places g c = (closed g c).1

pub returns-clause-room : goal.returns-clause-room
returns-clause-room g c = (closed g c).2

pub returns-clause-stands : goal.returns-clause-stands
returns-clause-stands g c =
    let setup = kept-setup c.self.inside.board.shared.key c.into_seat.result.id c.into_seat.result.me
    c.args.seat.known _ _ c.take-slot.result
    (seat-idle c.seat.inside.badge.views c.seat.inside.actor c.seat.inside.calls c.into_seat.result.me c.seat.invariant c.into_seat.ensures.2)
    (ap known_in (sym c.into_seat.ensures.2) ∙ ap (λ s. s.known) c.seat.view_is) c.requires.whole
    c.close_with-closed.ensures.values.2 c.take-slot.ensures.value c.in-Some.kept c.in-Some.is in
    let stood = c.into_journal.ensures.stands in (
      stood.0,
      subst (λ j. StandsFor g.C.Codec.meaning stood.0 (history j)) (sym c.into_journal.ensures.journal) stood.1,
      stood.2 ∙ ap (λ z. z.settings) setup ∙ ap (λ r. r.setup.settings) c.self.view_is,
    )
