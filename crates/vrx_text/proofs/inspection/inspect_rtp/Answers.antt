use Rattle.std.proofs.Common.{Ok, Err, refl, sym, ◌∙◌}
use Rattle.std.proofs.lemmas.Result.{IfOk-weaker}
use Rattle.vrx_rtp.specs.View.{view}
use Rattle.vrx_text.specs.Inspection.{RtpPacket, BadRtp}
use Rattle.vrx_text.proofs.InspectionLemmas.{rtp_only}
use Rattle.vrx_text.proofs.inspection.inspect_rtp.Goals as goal

pub returns-in-Ok-clause-is : goal.returns-in-Ok-clause-is
returns-in-Ok-clause-is c =
    IfOk-weaker c.rtp_line.result _ _
    (λ text e. RtpPacket c.requires (view c.in-Ok.packet) c.in-Ok.ensures.packet e) c.rtp_line.ensures

pub returns-in-Ok-clause-only : goal.returns-in-Ok-clause-only
returns-in-Ok-clause-only c =
    λ line is. IfOk-weaker c.rtp_line.result _ _
    (λ text e. e ∙ sym (rtp_only c.args.k c.args.bytes.now line
    (Ok c.in-Ok.packet) c.requires c.in-Ok.ensures.only c.in-Ok.ensures.fault is)) c.rtp_line.ensures

pub returns-in-Err-clause-is : goal.returns-in-Err-clause-is
returns-in-Err-clause-is c =
    IfOk-weaker c.bad_rtp_line.result _ _
    (λ text e. BadRtp c.requires c.in-Err.fault ((c.in-Err.ensures.fault c.in-Err.fault).0 refl) e)
    c.bad_rtp_line.ensures

pub returns-in-Err-clause-only : goal.returns-in-Err-clause-only
returns-in-Err-clause-only c =
    λ line is. IfOk-weaker c.bad_rtp_line.result _ _
    (λ text e. e ∙ sym (rtp_only c.args.k c.args.bytes.now line
    (Err c.in-Err.fault) c.requires c.in-Err.ensures.only c.in-Err.ensures.fault is)) c.bad_rtp_line.ensures
