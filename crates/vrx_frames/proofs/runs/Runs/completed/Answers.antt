use Rattle.std.proofs.Common.{◌≡◌, ◌+◌, not, ◌&&◌, nat_cmp, sym, ◌∙◌, ap, subst}
use Rattle.std.specs.Prelude.{nat_lt}
use Rattle.std.specs.List.Sorted.{IsStrictlySortedBy}
use Rattle.vrx_codec.specs.declared.run.Run.{Run as RunSummary}
use Rattle.vrx_window.specs.Content.{contents}
use Rattle.vrx_window.specs.Sound.{place_at}
use Rattle.vrx_frames.specs.Linked.{starts_at}
use Rattle.vrx_frames.proofs.AnswerLemmas.{IsCall, answers-rise, call-before, call-completes, call-held, call-known, call-marked, call-second, newly_begins, second-rises}
use Rattle.vrx_frames.proofs.runs.Runs.completed.Goals as goal

pub run_after-second-requires-clause-held : goal.run_after-second-requires-clause-held
run_after-second-requires-clause-held g c =
    let call : IsCall g.C.Codec.meaning c.args.window.now c.in-Some-Some.newest c.args.arrived c.held_shape.result
    c.args.self.now c.self.inside.ring c.note.new.ring = record {
      earlier = c.self.inside.passed;
      view_is = c.self.view_is;
      sound = c.requires.sound;
      whole = c.newest.ensures.sound;
      upto = c.requires.newest;
      newest_now = sym c.in-Some-Some.ensures.newest;
      here = c.in-Some-Some.held.now;
      is_here = sym c.in-Some-Some.ensures'.held;
      shape_here = c.held_shape.ensures;
      kept = c.self.invariant.kept;
      absent = c.requires.fresh;
      still = c.requires.same;
      newest_is = c.note.ensures.newest;
      entries = c.note.ensures.entries;
      numbered = c.note.ensures.numbered;
    } in
    call-held g.C.Codec.meaning c.args.window.now c.in-Some-Some.newest c.args.arrived c.held_shape.result
    c.args.passed c.args.self.now c.self.inside.ring c.note.new.ring call

pub run_around-first-requires-clause-held : goal.run_around-first-requires-clause-held
run_around-first-requires-clause-held g c =
    let call : IsCall g.C.Codec.meaning c.args.window.now c.in-Some-Some.newest c.args.arrived c.held_shape.result
    c.args.self.now c.self.inside.ring c.note.new.ring = record {
      earlier = c.self.inside.passed;
      view_is = c.self.view_is;
      sound = c.requires.sound;
      whole = c.newest.ensures.sound;
      upto = c.requires.newest;
      newest_now = sym c.in-Some-Some.ensures.newest;
      here = c.in-Some-Some.held.now;
      is_here = sym c.in-Some-Some.ensures'.held;
      shape_here = c.held_shape.ensures;
      kept = c.self.invariant.kept;
      absent = c.requires.fresh;
      still = c.requires.same;
      newest_is = c.note.ensures.newest;
      entries = c.note.ensures.entries;
      numbered = c.note.ensures.numbered;
    } in
    call-held g.C.Codec.meaning c.args.window.now c.in-Some-Some.newest c.args.arrived c.held_shape.result
    c.args.passed c.args.self.now c.self.inside.ring c.note.new.ring call

pub run_around-first-requires-clause-before : goal.run_around-first-requires-clause-before
run_around-first-requires-clause-before g c =
    let call : IsCall g.C.Codec.meaning c.args.window.now c.in-Some-Some.newest c.args.arrived c.held_shape.result
    c.args.self.now c.self.inside.ring c.note.new.ring = record {
      earlier = c.self.inside.passed;
      view_is = c.self.view_is;
      sound = c.requires.sound;
      whole = c.newest.ensures.sound;
      upto = c.requires.newest;
      newest_now = sym c.in-Some-Some.ensures.newest;
      here = c.in-Some-Some.held.now;
      is_here = sym c.in-Some-Some.ensures'.held;
      shape_here = c.held_shape.ensures;
      kept = c.self.invariant.kept;
      absent = c.requires.fresh;
      still = c.requires.same;
      newest_is = c.note.ensures.newest;
      entries = c.note.ensures.entries;
      numbered = c.note.ensures.numbered;
    } in
    let newly : c.begins_newly-newly.result
    ≡ newly_begins c.in-Some-Some.newest c.args.arrived c.args.passed c.self.inside.ring.entries
    c.note.new.ring.entries =
    c.begins_newly-newly.ensures ∙ ap (λ a. a && not c.next_starts-before.result) c.next_starts-after.ensures
    ∙ ap (λ b. (nat_lt c.args.arrived c.in-Some-Some.newest && starts_at c.args.passed c.note.new.ring.entries
    (c.args.arrived + 1)) && not b) c.next_starts-before.ensures in
    call-before g.C.Codec.meaning c.args.window.now c.in-Some-Some.newest c.args.arrived c.held_shape.result
    c.args.passed c.args.self.now c.self.inside.ring c.note.new.ring call
    (place_at c.args.window.now.packets) c.raise.new.marks c.move_to.new.self c.run_after-second.new.marks
    c.begins_newly-newly.result c.run_after-second.result newly c.raise.ensures.marked c.move_to.ensures.newest
    c.move_to.ensures.entries c.run_after-second.ensures.found

pub invariant_of-self : goal.invariant_of-self
invariant_of-self g c =
    let call : IsCall g.C.Codec.meaning c.args.window.now c.in-Some-Some.newest c.args.arrived c.held_shape.result
    c.args.self.now c.self.inside.ring c.note.new.ring = record {
      earlier = c.self.inside.passed;
      view_is = c.self.view_is;
      sound = c.requires.sound;
      whole = c.newest.ensures.sound;
      upto = c.requires.newest;
      newest_now = sym c.in-Some-Some.ensures.newest;
      here = c.in-Some-Some.held.now;
      is_here = sym c.in-Some-Some.ensures'.held;
      shape_here = c.held_shape.ensures;
      kept = c.self.invariant.kept;
      absent = c.requires.fresh;
      still = c.requires.same;
      newest_is = c.note.ensures.newest;
      entries = c.note.ensures.entries;
      numbered = c.note.ensures.numbered;
    } in
    let newly : c.begins_newly-newly.result
    ≡ newly_begins c.in-Some-Some.newest c.args.arrived c.args.passed c.self.inside.ring.entries
    c.note.new.ring.entries =
    c.begins_newly-newly.ensures ∙ ap (λ a. a && not c.next_starts-before.result) c.next_starts-after.ensures
    ∙ ap (λ b. (nat_lt c.args.arrived c.in-Some-Some.newest && starts_at c.args.passed c.note.new.ring.entries
    (c.args.arrived + 1)) && not b) c.next_starts-before.ensures in
    call-marked g.C.Codec.meaning c.args.window.now c.in-Some-Some.newest c.args.arrived c.held_shape.result
    c.args.passed c.args.self.now c.self.inside.ring c.note.new.ring call
    (place_at c.args.window.now.packets) c.raise.new.marks c.move_to.new.self c.run_after-second.new.marks
    c.begins_newly-newly.result c.run_after-second.result newly c.raise.ensures.marked c.move_to.ensures.newest
    c.move_to.ensures.entries c.run_after-second.ensures.found c.run_around-first.new.marks
    c.run_around-first.ensures.looked c.run_after-second.ensures.newest c.run_around-first.ensures.newest
    c.run_around-first.ensures.numbered

pub returns-clause-known : goal.returns-clause-known
returns-clause-known g c =
    let call : IsCall g.C.Codec.meaning c.args.window.now c.in-Some-Some.newest c.args.arrived c.held_shape.result
    c.args.self.now c.self.inside.ring c.note.new.ring = record {
      earlier = c.self.inside.passed;
      view_is = c.self.view_is;
      sound = c.requires.sound;
      whole = c.newest.ensures.sound;
      upto = c.requires.newest;
      newest_now = sym c.in-Some-Some.ensures.newest;
      here = c.in-Some-Some.held.now;
      is_here = sym c.in-Some-Some.ensures'.held;
      shape_here = c.held_shape.ensures;
      kept = c.self.invariant.kept;
      absent = c.requires.fresh;
      still = c.requires.same;
      newest_is = c.note.ensures.newest;
      entries = c.note.ensures.entries;
      numbered = c.note.ensures.numbered;
    } in
    call-known g.C.Codec.meaning c.args.window.now c.in-Some-Some.newest c.args.arrived c.held_shape.result
    c.args.passed c.args.self.now c.self.inside.ring c.note.new.ring call

pub returns-clause-completes : goal.returns-clause-completes
returns-clause-completes g c =
    let call : IsCall g.C.Codec.meaning c.args.window.now c.in-Some-Some.newest c.args.arrived c.held_shape.result
    c.args.self.now c.self.inside.ring c.note.new.ring = record {
      earlier = c.self.inside.passed;
      view_is = c.self.view_is;
      sound = c.requires.sound;
      whole = c.newest.ensures.sound;
      upto = c.requires.newest;
      newest_now = sym c.in-Some-Some.ensures.newest;
      here = c.in-Some-Some.held.now;
      is_here = sym c.in-Some-Some.ensures'.held;
      shape_here = c.held_shape.ensures;
      kept = c.self.invariant.kept;
      absent = c.requires.fresh;
      still = c.requires.same;
      newest_is = c.note.ensures.newest;
      entries = c.note.ensures.entries;
      numbered = c.note.ensures.numbered;
    } in
    let newly : c.begins_newly-newly.result
    ≡ newly_begins c.in-Some-Some.newest c.args.arrived c.args.passed c.self.inside.ring.entries
    c.note.new.ring.entries =
    c.begins_newly-newly.ensures ∙ ap (λ a. a && not c.next_starts-before.result) c.next_starts-after.ensures
    ∙ ap (λ b. (nat_lt c.args.arrived c.in-Some-Some.newest && starts_at c.args.passed c.note.new.ring.entries
    (c.args.arrived + 1)) && not b) c.next_starts-before.ensures in
    call-completes g.C.Codec.meaning c.args.window.now c.in-Some-Some.newest c.args.arrived c.held_shape.result
    c.args.passed c.args.self.now c.self.inside.ring c.note.new.ring call
    (place_at c.args.window.now.packets) c.run_around-first.result c.run_after-second.result c.list_of.result.items
    c.list_of.ensures c.run_around-first.ensures.found
    (call-second g.C.Codec.meaning c.args.window.now c.in-Some-Some.newest c.args.arrived c.held_shape.result
    c.args.passed c.args.self.now c.self.inside.ring c.note.new.ring call
    (place_at c.args.window.now.packets) c.raise.new.marks c.move_to.new.self c.run_after-second.new.marks
    c.begins_newly-newly.result c.run_after-second.result newly c.raise.ensures.marked c.move_to.ensures.newest
    c.move_to.ensures.entries c.run_after-second.ensures.found)

pub returns-clause-rise : goal.returns-clause-rise
returns-clause-rise g c =
    let call : IsCall g.C.Codec.meaning c.args.window.now c.in-Some-Some.newest c.args.arrived c.held_shape.result
    c.args.self.now c.self.inside.ring c.note.new.ring = record {
      earlier = c.self.inside.passed;
      view_is = c.self.view_is;
      sound = c.requires.sound;
      whole = c.newest.ensures.sound;
      upto = c.requires.newest;
      newest_now = sym c.in-Some-Some.ensures.newest;
      here = c.in-Some-Some.held.now;
      is_here = sym c.in-Some-Some.ensures'.held;
      shape_here = c.held_shape.ensures;
      kept = c.self.invariant.kept;
      absent = c.requires.fresh;
      still = c.requires.same;
      newest_is = c.note.ensures.newest;
      entries = c.note.ensures.entries;
      numbered = c.note.ensures.numbered;
    } in
    let newly : c.begins_newly-newly.result
    ≡ newly_begins c.in-Some-Some.newest c.args.arrived c.args.passed c.self.inside.ring.entries
    c.note.new.ring.entries =
    c.begins_newly-newly.ensures ∙ ap (λ a. a && not c.next_starts-before.result) c.next_starts-after.ensures
    ∙ ap (λ b. (nat_lt c.args.arrived c.in-Some-Some.newest && starts_at c.args.passed c.note.new.ring.entries
    (c.args.arrived + 1)) && not b) c.next_starts-before.ensures in
    subst (λ rs. IsStrictlySortedBy (λ (x y : RunSummary). nat_cmp x.first y.first) rs) (sym c.list_of.ensures)
    (answers-rise g.C.Codec.meaning (place_at c.args.window.now.packets)
    (contents c.args.window.now.packets) c.args.passed c.args.arrived c.note.new.ring.entries
    c.run_around-first.result c.run_after-second.result c.run_around-first.ensures.found
    (second-rises g.C.Codec.meaning
    (place_at c.args.window.now.packets) c.args.window.now c.in-Some-Some.newest c.args.arrived c.args.passed
    c.self.inside.ring.entries c.note.new.ring.entries c.run_after-second.result
    (call-second g.C.Codec.meaning c.args.window.now c.in-Some-Some.newest c.args.arrived c.held_shape.result
    c.args.passed c.args.self.now c.self.inside.ring c.note.new.ring call
    (place_at c.args.window.now.packets) c.raise.new.marks c.move_to.new.self c.run_after-second.new.marks
    c.begins_newly-newly.result c.run_after-second.result newly c.raise.ensures.marked c.move_to.ensures.newest
    c.move_to.ensures.entries c.run_after-second.ensures.found)))
