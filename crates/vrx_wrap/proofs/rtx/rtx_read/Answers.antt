-- What is read is the original, and when there is none.
use Rattle.vrx_rtp.specs.View.{view as packet_of}
use Rattle.vrx_wrap.specs.View.{view_apt}
use Rattle.vrx_wrap.proofs.RtxLemmas.{original-read, no_apt-read, rtx_empty-read}
use Rattle.vrx_wrap.proofs.rtx.rtx_read.Goals as goal

pub returns-clause-original : goal.returns-clause-original
returns-clause-original c =
    original-read (view_apt c.args.apt.now)
    (packet_of c.args.view.now) c.original.result c.original.ensures.octets c.original.ensures.reads

pub returns-clause-no_apt : goal.returns-clause-no_apt
returns-clause-no_apt c =
    no_apt-read (view_apt c.args.apt.now) (packet_of c.args.view.now) c.original.result c.original.ensures.reads

pub returns-clause-rtx_empty : goal.returns-clause-rtx_empty
returns-clause-rtx_empty c =
    rtx_empty-read (view_apt c.args.apt.now) (packet_of c.args.view.now) c.original.result c.original.ensures.reads
