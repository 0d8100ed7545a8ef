use Rattle.std.proofs.Common.{◌≡◌, ℕ, ◌+◌, length, arith, ap, refl, ◌∙◌}
use Rattle.vrx_sender.specs.Drill.{datagram_again}
use Rattle.vrx_sender.proofs.BroughtLemmas.{with-again, with-in_time, with-late}
use Rattle.vrx_sender.proofs.brought.bring_one.Goals as goal

pub returns-in_ok-push-in-InTime : goal.returns-in_ok-push-in-InTime
returns-in_ok-push-in-InTime c = record {
  with_one = rw c.in-InTime.is (with-in_time c.args.number c.args.brought.now _ c.args.packet.now _
      (c.from_vec.ensures ∙ c.in_ok-datagram-in-InTime.ensures) c.in_ok-push-in-InTime.ensures.items refl refl);
}

pub returns-in_ok-push-in-Late : goal.returns-in_ok-push-in-Late
returns-in_ok-push-in-Late c = record {
  with_one = rw c.in-Late.is (with-late c.args.number c.args.brought.now _ c.args.packet.now _
      (c.from_vec-in-Late.ensures ∙ c.in_ok-datagram-in-Late.ensures) refl c.in_ok-push-in-Late.ensures.items refl);
}

pub returns-in_ok-push-in-SentAgain : goal.returns-in_ok-push-in-SentAgain
returns-in_ok-push-in-SentAgain c =
    let len : c.len.result ≡ length c.args.brought.now.again.items = omega (arith, c.len.ensures, c.args.brought.now.again.ok) in record {
      with_one = rw c.in-SentAgain.is (with-again c.args.number c.args.brought.now _ c.args.packet.now _
          (c.from_vec-in-SentAgain.ensures ∙ c.in_ok-datagram_again-in-SentAgain.ensures
          ∙ ap (λ (n : ℕ). datagram_again (c.args.number + n) c.args.packet.now) len) refl refl
          c.in_ok-push-in-SentAgain.ensures.items);
    }
