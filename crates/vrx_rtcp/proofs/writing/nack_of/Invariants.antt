-- The octets are the head and those of the items so far.
use Rattle.std.proofs.Common.{◌≡◌, ◌+◌, ◌*◌, ◌++◌, length, take}
use Rattle.std.specs.List.{flat_map}
use Rattle.vrx_rtcp.specs.Feedback.{feedback_head}
use Rattle.vrx_rtcp.specs.declared.types.TheConstants.{RTPFB, FMT_NACK}
use Rattle.vrx_rtcp.proofs.FeedbackLemmas.{octets_of}
use Rattle.vrx_rtcp.proofs.writing.nack_of.Given as goal

abbrev pub invariant-loop-item : goal.invariant-loop-item
invariant-loop-item l = record {
  made : l.octets.items ≡ feedback_head FMT_NACK RTPFB l.words l.from_ssrc l.media_ssrc ++ flat_map octets_of
      (take l.item-index l.item-items);
  long : length l.octets.items ≡ 12 + 4 * l.item-index;
}
