use Rattle.std.proofs.Common.{◌+◌, refl, sym, ◌∙◌, ap}
use Rattle.vrx_frames.proofs.RaiseLemmas.{raised-new, raised-none, raised-old}
use Rattle.vrx_frames.proofs.StartLemmas.{starts_of}
use Rattle.vrx_frames.proofs.mark.raise.Goals as goal
use Rattle.vrx_frames.proofs.mark.raise.Goals.{else-here-via-then-here+else-not-starts_at, else-here-via-else-here}

pub returns-in-None : goal.returns-in-None
returns-in-None c = record {
  marked = raised-none c.args.earlier c.args.passed c.in-Some-Some.front c.in-Some-Some.newest
      (c.in-Some-Some.front + 1) c.args.ring.now c.args.marks.now c.requires.marked c.requires.upto
      c.in-Some-Some.is-1 refl (sym (ap starts_of c.in-None.ensures));
}

pub returns-then-not-starts_at : goal.returns-then-not-starts_at
returns-then-not-starts_at c = record {
  marked = raised-new c.args.earlier c.args.passed c.in-Some-Some.front c.in-Some-Some.newest
      (c.in-Some-Some.front + 1) c.args.ring.now c.args.marks.now c.requires.marked c.requires.upto
      c.in-Some-Some.is-1 refl
      c.in-Some.here c.spread.new.marks (sym c.in-Some.ensures) c.if-here.true
      (sym c.if-not-starts_at.ensures) c.spread.ensures.spread c.spread.ensures.newest c.spread.ensures.numbered;
}

pub returns-else-here : goal.returns-else-here
returns-else-here c = record {
  marked = elim c.else-here.branch [
    | else-here-via-then-here+else-not-starts_at w ↦ raised-old c.args.earlier c.args.passed c.in-Some-Some.front
        c.in-Some-Some.newest (c.in-Some-Some.front + 1) c.args.ring.now c.args.marks.now c.requires.marked
        c.requires.upto c.in-Some-Some.is-1 refl (sym w.if-not-starts_at.ensures)
    | else-here-via-else-here w ↦ raised-none c.args.earlier c.args.passed c.in-Some-Some.front c.in-Some-Some.newest
        (c.in-Some-Some.front + 1) c.args.ring.now c.args.marks.now c.requires.marked c.requires.upto
        c.in-Some-Some.is-1 refl (sym (ap starts_of c.in-Some.ensures) ∙ w.if-here.false)
  ];
}
