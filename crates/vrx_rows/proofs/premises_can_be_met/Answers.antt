-- The calls of the rows.
use Rattle.vrx_rows.proofs.WholeCallRows as whole
use Rattle.vrx_rows.proofs.HonestH264Rows as h264_rows
use Rattle.vrx_rows.proofs.HonestRows as vp8_rows
use Rattle.vrx_rows.proofs.premises_can_be_met.Goals as goal

pub returns : goal.returns
returns c = record {
  vp8 = record {
    settings = whole.settings;
    sender = whole.sender;
    events = whole.events;
    origins = whole.origins;
    no_fault = whole.no_fault;
    sender_honest = whole.sender-honest;
    network_honest = whole.network-honest;
    pulled = whole.some_pulled;
  };
  h264 = record {
    settings = vp8_rows.settings;
    sender = h264_rows.sender;
    events = h264_rows.events;
    origins = h264_rows.origins;
    no_fault = h264_rows.no_fault;
    sender_honest = h264_rows.sender-honest;
    network_honest = h264_rows.network-honest;
    pulled = h264_rows.some_pulled;
  };
}
