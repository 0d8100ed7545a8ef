use Rattle.std.proofs.Common.{◌∙◌, append_assoc}
use Rattle.vrx_text.specs.Transcript.{error_line}
use Rattle.vrx_text.proofs.transcript.text_of_error.Goals as goal

pub returns : goal.returns
unfolding error_line
returns c = record {
  text = rw c.into_bytes.ensures.value
      (c.in_ok-format.ensures.ok ∙ rw c.error_reason_text-word.ensures (simp append_assoc));
}
