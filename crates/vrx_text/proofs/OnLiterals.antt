-- What an answer unfolds to compute transcripts, and captures too, on a literal.
use Rattle.std.specs.Prelude.{⊤}
use Rattle.vrx_capture.proofs.OnLiterals.{capture_on_literals}
use Rattle.vrx_text.specs.Transcript.{text_of, error_line, transcript}

unfoldable pub text_on_literals : ⊤
unfolding text_of error_line transcript capture_on_literals
text_on_literals = tt
