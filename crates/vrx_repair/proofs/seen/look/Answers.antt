use Rattle.std.proofs.Common.{sym, ◌∙◌, ap}
use Rattle.vrx_repair.specs.Plan.{entries_of}
use Rattle.vrx_repair.specs.Seen.{content_seen, window_by}
use Rattle.vrx_repair.proofs.SeenLemmas.{after, after-more, at-repairs}
use Rattle.vrx_repair.proofs.seen.look.Goals as goal

pub loop-repair-init : goal.loop-repair-init
loop-repair-init c =
    ap (after c.args.n (entries_of c.args.seen.now.made.now)) c.sight_placed-found.ensures
    ∙ sym (at-repairs c.args.n (entries_of c.args.seen.now.made.now) (window_by c.args.seen.now).packets)

pub loop-repair-preserved : goal.loop-repair-preserved
loop-repair-preserved c =
    after-more c.args.n c.args.seen.now.made.now c.loop-repair.repair-index c.repair-item.result
    (content_seen c.loop-repair.found) (content_seen c.over-found.result) c.loop-repair-test.true c.repair-item.is
    c.over-found.ensures
    ∙ c.loop-repair.invariant
