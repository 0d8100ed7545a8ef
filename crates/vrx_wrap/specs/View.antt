-- What the types of the code stand for.
use Rattle.std.specs.Prelude.{Result, Ok, Err}
use Rattle.vrx_rtp.specs.Packet.{Packet}
use Rattle.vrx_rtp.specs.View.{view}
use Rattle.vrx_rtp.specs.declared.rtp_view.RtpView.{RtpView}
use Rattle.vrx_wrap.specs.declared.apt.Apt.{Apt as AptSeen}
use Rattle.vrx_wrap.specs.declared.red.Block.{Block as BlockSeen}
use Rattle.vrx_wrap.specs.declared.red.RedFault.{RedFault}
use Rattle.vrx_wrap.specs.declared.rtx.RtxFault.{RtxFault}
use Rattle.vrx_wrap.specs.Red.{Block}
use Rattle.vrx_wrap.specs.Rtx.{Apt}

-- the block, without where it lies in memory
abbrev pub view_block : BlockSeen → Block
view_block b = record { pt = b.pt; rest = b.rest.now }

-- the block that was read, or the fault
abbrev pub view_red : Result BlockSeen RedFault → Result Block RedFault
view_red (Ok b) = Ok (view_block b)
view_red (Err e) = Err e

-- the pairs as a list
abbrev pub view_apt : AptSeen → Apt
view_apt a = record { pairs = a.pairs.items; media_ssrc = a.media_ssrc }

-- the original that was read, without where it lies in memory, or the fault
abbrev pub view_original : Result RtpView RtxFault → Result Packet RtxFault
view_original (Ok v) = Ok (view v)
view_original (Err e) = Err e
