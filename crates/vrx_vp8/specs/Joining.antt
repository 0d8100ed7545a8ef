-- How VP8's parts join, one after the other.
use Rattle.std.specs.Prelude.{◌+◌, length, Ok}
use Rattle.vrx_codec.specs.Joining.{Joining}

-- each part joins, and adds its body
abbrev pub joining : Joining
joining = record {
  step = λ state part. Ok (record { unit = state.unit; octets = state.octets + length part.body });
  end = λ state. Ok state.octets;
  adds = λ state part. part.body;
}
