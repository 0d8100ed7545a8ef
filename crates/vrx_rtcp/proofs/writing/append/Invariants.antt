use Rattle.std.proofs.Common.{◌≡◌, ◌++◌, take}
use Rattle.vrx_rtcp.proofs.writing.append.Given as goal

abbrev pub invariant-loop-octet : goal.invariant-loop-octet
invariant-loop-octet l = l.octets.items ≡ l.initial.octets.items ++ take l.octet-index l.more
