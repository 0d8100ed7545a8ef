use Rattle.std.proofs.Common.{◌≡◌, ◌+◌, true, ℕ, Option, IfOk, sym, ◌∙◌, ap, subst}
use Rattle.std.specs.Option.{option_map}
use Rattle.vrx_fec.specs.View.{view}
use Rattle.vrx_window.specs.Content.{Content}
use Rattle.vrx_repair.specs.Plan.{entry_of}
use Rattle.vrx_repair.specs.Seen.{packets_by, window_by}
use Rattle.vrx_repair.specs.Source.{Source, source_of}
use Rattle.vrx_repair.specs.Step.{is_wanted, media_under}
use Rattle.vrx_repair.proofs.FirstLemmas.{under-text}
use Rattle.vrx_repair.proofs.step.rebuilt_under.Goals as goal

pub returns-in-Some-clause-entry : goal.returns-in-Some-clause-entry
returns-in-Some-clause-entry g c =
    let source : Source = source_of g.C.Codec.meaning c.args.reading.now.media_ssrc c.args.reading.now.media_type in
    let window = window_by c.args.seen.now in
    let number : c.args.base + c.from.result ≡ c.args.base + c.args.missing = ap (λ k. c.args.base + k) c.from.ensures in
    let wanted : is_wanted window.newest window.dead (c.args.base + c.args.missing) ≡ true =
    ap (is_wanted window.newest window.dead) (sym number) ∙ sym c.is_wanted.ensures ∙ c.if-not-is_wanted.false in
    let text = ap (option_map (λ t. t.items)) (sym c.in-Some.is) ∙ c.in_ok-rebuild.ensures.text in
    let same = ap (λ n. media_under source n c.in-Some.text.items) number
    ∙ under-text source window.newest window.dead (packets_by c.args.seen.now) c.args.base (view c.args.fec.now)
    c.args.missing c.in-Some.text.items wanted text in
    subst (λ (w : Option (ℕ × Content)). IfOk c.repair_of.result (λ repair. option_map entry_of repair ≡ w)) same
    (c.repair_of.ensures.entry c.args.reading.now.media_ssrc)
