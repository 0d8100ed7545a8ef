use Rattle.std.proofs.Common.{◌≡◌, ℕ, ◌-◌, ◌≤◌, List, [], ◌++◌, length, drop, take, rules, arith, ◌∙◌, Option, is_some}
use Rattle.std.proofs.lemmas.List.{drop_at, drop_all, length-take-le, length-drop, append-nil}
use Rattle.std.proofs.lemmas.Result.{IfOk-weaker}
use borrow.Rule.Slice.PartMut.{put_mid, post_of}
use Rattle.vrx_io.specs.Source.{Gives}
use Rattle.vrx_capture.specs.Ahead.{ahead}
use Rattle.vrx_capture.proofs.AheadLemmas.{ahead-gives}
use Rattle.vrx_capture.proofs.buffer.read_from.Goals as goal

-- after a place, a buffer holds what was written there
drop-put_mid_rest : (buffer tail : List ℕ) (at : ℕ) → at ≤ length buffer → length tail ≡ length buffer - at →
    drop at (put_mid at (length buffer - at) buffer tail) ≡ tail
drop-put_mid_rest buffer tail at within len =
    let none : post_of at (length buffer - at) buffer ≡ [] =
    drop_all _ (drop at buffer) (omega (arith, length-drop at buffer)) in
    drop_at (take at buffer) (tail ++ post_of at (length buffer - at) buffer) at (length-take-le at buffer within)
    ∙ rw none (append-nil tail)

-- what a read gave stands after that place
gives_behind : (before after : Option (List ℕ)) (buffer tail : List ℕ) (at n : ℕ) → at ≤ length buffer →
    length tail ≡ length buffer - at → is_some after ≡ is_some before → Gives before after n tail →
    before ≡ ahead (take n (drop at (put_mid at (length buffer - at) buffer tail))) after
gives_behind before after buffer tail at n within len tells gives =
    rw (drop-put_mid_rest buffer tail at within len) (ahead-gives before after n tail gives tells)

pub returns-clause-next : goal.returns-clause-next
returns-clause-next g c =
    IfOk-weaker c.read.result _ _
    (λ n. gives_behind (g.S.Source.left c.args.source.now)
    (g.S.Source.left c.read.new.self) c.args.buffer.now c.read.new.buf c.args.at n (omega arith)
    (search rules) c.read.ensures.tells) c.read.ensures.next
