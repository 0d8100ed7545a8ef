use Rattle.std.proofs.Common.{◌≡◌, true, sym, ◌∙◌, ap}
use Rattle.std.specs.Prelude.{not}
use Rattle.vrx_window.specs.Window.{in_window, newest_with}
use Rattle.vrx_repair.specs.Seen.{says_dead}
use Rattle.vrx_repair.proofs.SeenLemmas.{wanted}
use Rattle.vrx_repair.proofs.seen.is_wanted.Goals as goal

pub returns-then-in_window : goal.returns-then-in_window
returns-then-in_window c =
    let inside : in_window (newest_with c.args.seen.now.window.now.newest c.args.seen.now.number) c.args.n ≡ true =
    ap (λ k. in_window k c.args.n) (sym c.newest_of.ensures) ∙ sym c.in_window.ensures ∙ c.if-in_window.true in
    ap not (c.is_dead.ensures ∙ ap says_dead c.would.ensures.would)
    ∙ wanted c.args.seen.now.window.now c.args.seen.now.number c.args.n inside
