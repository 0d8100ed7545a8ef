-- When a keyframe is asked for (picture loss indication, RFC 4585 6.3.1). What is kept is the moment of the last
-- request after which no keyframe completed, if there is one, in milliseconds.
use Rattle.std.specs.Prelude.{ℕ, ◌+◌, Bool, false, nat_lt, Option, Some, None}
use Rattle.vrx_num.specs.declared.limits.TheConstants.{KEY_REQUEST_WAIT}

-- no keyframe completed after the last request, and that is less than 300 milliseconds ago
abbrev pub is_outstanding : ℕ → Option ℕ → Bool
is_outstanding now None = false
is_outstanding now (Some last) = nat_lt now (last + KEY_REQUEST_WAIT)
