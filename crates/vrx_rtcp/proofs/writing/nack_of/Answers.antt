-- The octets are those of the NACK once each item is written.
use Rattle.std.proofs.Common.{◌≡◌, ◌+◌, ◌++◌, List, take, ap, ◌∙◌}
use Rattle.std.specs.List.{flat_map}
use Rattle.std.proofs.lemmas.List.{take_all}
use Rattle.vrx_rtcp.specs.declared.types.TheConstants.{RTPFB, FMT_NACK}
use Rattle.vrx_rtcp.specs.declared.writing.Item.{Item}
use Rattle.vrx_rtcp.specs.Feedback.{feedback_head}
use Rattle.vrx_rtcp.proofs.FeedbackLemmas.{octets_of, nack-made}
use Rattle.vrx_rtcp.proofs.writing.nack_of.Goals as goal

pub returns : goal.returns
returns c =
    let items = c.items_of-items.result.items in
    let each : take c.loop-item.item-index c.as_slice-item-items.result.now ≡ items =
    take_all c.loop-item.item-index c.as_slice-item-items.result.now c.loop-item-test.false
    ∙ c.as_slice-item-items.ensures.value in
    record {
      octets = c.loop-item.invariant.made
          ∙ ap (λ (x : List Item).
          feedback_head FMT_NACK RTPFB (2 + c.len.result) c.args.from_ssrc c.args.media_ssrc ++ flat_map octets_of x)
          each
          ∙ nack-made c.args.from_ssrc c.args.media_ssrc
          (2 + c.len.result) c.args.numbers.now c.split_at.result.1.now items
          c.requires.some c.split_at.ensures.back c.items_of-items.ensures.items
          (ap (λ k. 2 + k) c.len.ensures.value);
    }
