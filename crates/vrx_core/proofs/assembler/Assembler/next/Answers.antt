use Rattle.std.proofs.Common.{subst}
use Rattle.vrx_core.specs.relation.StandsFor.{Assembly}
use Rattle.vrx_core.specs.inside.Fields.{IsNext, IsWhole}
use Rattle.vrx_core.proofs.assembler.Assembler.next.Goals as goal

pub returns : goal.returns
returns g c = record {
  next = subst (λ (p : Assembly). IsNext p c.next.result) c.self.view_is (record {
    stands = c.next.ensures.stands;
    next = c.next.ensures.next;
  });
  whole = subst (λ (p : Assembly). IsWhole g.C.Codec.meaning p) c.self.view_is c.self.invariant.whole;
}
