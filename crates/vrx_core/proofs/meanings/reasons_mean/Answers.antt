-- The law is the theorem.
use Rattle.vrx_core.proofs.machine.ReasonLemmas.{reasons_mean}
use Rattle.vrx_core.proofs.machine.SentLemmas.{Wraps}
use Rattle.vrx_core.proofs.meanings.reasons_mean.Goals as goal

pub returns : goal.returns
returns c =
    let wraps : Wraps = record {
      one_original = c.one_original.ensures.one;
      no_apt = c.one_original.ensures.no_apt;
      rtx_empty = c.one_original.ensures.rtx_empty;
      one_block = c.one_block.ensures.one;
      empty = c.one_block.ensures.empty;
      more_blocks = c.one_block.ensures.more_blocks;
      one_payload = c.one_payload.ensures.one;
    } in record {
      reasons = reasons_mean wraps c.one_reading.ensures.read_packet c.one_answer.ensures.passes
          c.one_answer.ensures.fails c.extended_is_near.ensures.none;
    }
