use Rattle.std.proofs.Common.{◌≡◌, ◌++◌, map}
use Rattle.vrx_core.specs.declared.event.Event.{Event}
use Rattle.vrx_sender.proofs.drill.put_datagrams.Given as goal

abbrev pub invariant-loop-bytes : goal.invariant-loop-bytes
invariant-loop-bytes l = l.events.items ≡ l.initial.events.items ++ map (λ octets. Event.Datagram l.moment octets) l.yielded
