use Rattle.std.proofs.Common.{◌∙◌, ap}
use Rattle.vrx_program.proofs.LivePlayLemmas.{flat, put-played, run-plays, same-journal}
use Rattle.vrx_program.proofs.live.play.play_with.Goals as goal

pub returns-in-Ok-run_workers-clause-played : goal.returns-in-Ok-run_workers-clause-played
returns-in-Ok-run_workers-clause-played g c =
    put-played c.args.settings g.C.Codec.meaning c.args.lists c.close-journal.result (flat c.in-Ok-run_workers.printed)
    c.write_all-status.result (g.K.Sink.taken c.args.sink.now) (g.K.Sink.taken c.write_all-status.new.sink)
    (run-plays c.args.settings g.C.Codec.meaning c.args.lists c.run_workers.new.seat.known c.close-journal.result
    c.in-Ok-run_workers.printed c.in-Ok-run_workers.ensures.ok
    (ap (λ z. z.settings) c.run_workers.ensures.setup.0 ∙ ap (λ k. k.setup.settings) c.in-Ok.ensures.seat.1
    ∙ c.in-Ok.ensures.setup.0)
    (same-journal c.close-journal.result c.run_workers.new.seat.known.seen c.run_workers.new.seat.known.places
    c.close-journal.ensures.begins c.run_workers.ensures.places c.close-journal.ensures.places))
    c.write_all-status.ensures.put
