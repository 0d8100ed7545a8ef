use Rattle.std.proofs.Common.{◌≡◌, Some, ◌∙◌, ap}
use Rattle.vrx_window.specs.Window.{newest_with}
use Rattle.vrx_frames.proofs.KeptLemmas.{newest-moved, newest-placed, told-once, told-twice}
use Rattle.vrx_frames.proofs.keep.note.Goals as goal

pub returns-then-n-newest-clause-entries : goal.returns-then-n-newest-clause-entries
returns-then-n-newest-clause-entries c =
    let is0 : newest_with c.args.ring.now.newest c.args.newest ≡ c.args.newest =
    newest-moved c.args.ring.now.newest c.args.newest c.requires.upto in
    let is1 : newest_with c.move_to.new.self.newest c.args.n ≡ c.args.newest =
    ap (λ o. newest_with o c.args.n) (c.move_to.ensures.newest ∙ ap Some is0)
    ∙ newest-placed c.args.newest c.args.n c.requires.inside in
    told-twice c.args.newest c.args.n c.args.shape c.args.ring.now c.requires.kept c.requires.inside
    c.move_to.new.self.entries c.place.new.self.entries
    (newest_with c.args.ring.now.newest c.args.newest)
    (newest_with c.move_to.new.self.newest c.args.n) is0 is1 c.move_to.ensures.entries c.place.ensures.entries
    c.remember.new.ring.entries c.remember-then-n-newest.new.ring.entries c.remember.ensures.entries
    c.remember-then-n-newest.ensures.entries

pub returns-else-n-newest-clause-entries : goal.returns-else-n-newest-clause-entries
returns-else-n-newest-clause-entries c =
    let is0 : newest_with c.args.ring.now.newest c.args.newest ≡ c.args.newest =
    newest-moved c.args.ring.now.newest c.args.newest c.requires.upto in
    let is1 : newest_with c.move_to.new.self.newest c.args.n ≡ c.args.newest =
    ap (λ o. newest_with o c.args.n) (c.move_to.ensures.newest ∙ ap Some is0)
    ∙ newest-placed c.args.newest c.args.n c.requires.inside in
    told-once c.args.newest c.args.n c.args.shape c.args.ring.now c.requires.kept c.requires.inside
    c.move_to.new.self.entries c.place.new.self.entries
    (newest_with c.args.ring.now.newest c.args.newest)
    (newest_with c.move_to.new.self.newest c.args.n) is0 is1 c.move_to.ensures.entries c.place.ensures.entries
    c.remember.new.ring.entries c.remember.ensures.entries c.if-n-newest.false
