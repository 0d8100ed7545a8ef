use Rattle.std.proofs.Common.{[]}
use Rattle.vrx_lock.specs.Journal.{RepliesHold}
use Rattle.vrx_lock.proofs.ReplyLemmas.{replies-at}
use Rattle.vrx_lock.proofs.laws.journal_replies.Goals as goal

replies : RepliesHold
replies settings codec before here after = replies-at settings codec [] before here after

pub returns : goal.returns
returns c = record { replies = replies }
