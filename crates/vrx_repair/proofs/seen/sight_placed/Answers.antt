use Rattle.std.proofs.Common.{◌≡◌, true, false, sym, ◌∙◌, ap}
use Rattle.vrx_window.specs.Window.{in_window, newest_with}
use Rattle.vrx_repair.proofs.SeenLemmas.{placed-here, placed-inside, placed-outside}
use Rattle.vrx_repair.proofs.seen.sight_placed.Goals as goal

pub returns-then-n-seen : goal.returns-then-n-seen
returns-then-n-seen c =
    c.sight_of.ensures
    ∙ sym (placed-here c.args.n c.args.seen.now.number
    (newest_with c.args.seen.now.window.now.newest c.args.seen.now.number) c.args.seen.now.held.now
    c.args.seen.now.window.now.packets c.if-n-seen.true)

pub returns-then-not-in_window : goal.returns-then-not-in_window
returns-then-not-in_window c =
    let outside : in_window (newest_with c.args.seen.now.window.now.newest c.args.seen.now.number) c.args.n ≡ false =
    ap (λ k. in_window k c.args.n) (sym c.newest_of.ensures) ∙ sym c.in_window.ensures ∙ c.if-not-in_window.true in
    sym (placed-outside c.args.n c.args.seen.now.number
    (newest_with c.args.seen.now.window.now.newest c.args.seen.now.number) c.args.seen.now.held.now
    c.args.seen.now.window.now.packets c.if-n-seen.false outside)

pub returns : goal.returns
returns c =
    let inside : in_window (newest_with c.args.seen.now.window.now.newest c.args.seen.now.number) c.args.n ≡ true =
    ap (λ k. in_window k c.args.n) (sym c.newest_of.ensures) ∙ sym c.in_window.ensures ∙ c.if-not-in_window.false in
    c.sight_in.ensures
    ∙ sym (placed-inside c.args.n c.args.seen.now.number
    (newest_with c.args.seen.now.window.now.newest c.args.seen.now.number) c.args.seen.now.held.now
    c.args.seen.now.window.now.packets c.if-n-seen.false inside)
