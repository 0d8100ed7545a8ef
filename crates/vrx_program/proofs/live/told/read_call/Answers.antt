use Rattle.std.proofs.Common.{[], refl}
use Rattle.vrx_program.proofs.LiveReadLemmas.{all-told, all-unread}
use Rattle.vrx_program.proofs.live.told.read_call.Goals as goal

pub returns-in-Ok-read_rest-clause-told : goal.returns-in-Ok-read_rest-clause-told
returns-in-Ok-read_rest-clause-told g c = let h = c.in-Ok-read_head.ensures.told in
    all-told (g.S.Source.left c.args.source.now) (g.S.Source.left c.read_rest.new.source) h.0
    c.in-Ok-read_head.head.0 c.in-Ok-read_head.head.1 c.in-Ok-read_rest.lists h.1
    (c.in-Ok-read_rest.ensures.reads (g.S.Source.left c.args.source.now) h.0
    (record { events = []; read = h.2; lists_are = refl }))

pub returns-in-Err-read_rest-clause-unread : goal.returns-in-Err-read_rest-clause-unread
returns-in-Err-read_rest-clause-unread g c = let h = c.in-Ok-read_head.ensures.told in
    all-unread (g.S.Source.left c.args.source.now) h.0 c.in-Ok-read_head.head.0 c.in-Ok-read_head.head.1
    c.in-Err-read_rest.why h.1
    (c.in-Err-read_rest.ensures.reads (g.S.Source.left c.args.source.now) h.0
    (record { events = []; read = h.2; lists_are = refl }))
