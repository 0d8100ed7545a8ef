use Rattle.std.proofs.Common.{◌≡◌, ◌+◌, ◌-◌, ℕ, Option, Some, None, refl, sym, ◌∙◌, ap, arith}
use Rattle.std.specs.Option.{option_map}
use Rattle.vrx_window.specs.Content.{Content}
use Rattle.vrx_window.specs.Window.{newest_with}
use Rattle.vrx_repair.specs.Plan.{entry_of}
use Rattle.vrx_repair.specs.Seen.{packets_by, window_by}
use Rattle.vrx_repair.specs.Source.{Source, source_of}
use Rattle.vrx_repair.specs.Step.{step}
use Rattle.vrx_repair.proofs.FirstLemmas.{first-found, first-in-window, first-next, first-passed}
use Rattle.vrx_repair.proofs.StepLemmas.{step-not-fec}
use Rattle.vrx_repair.proofs.step.first_step.Goals as goal

pub loop-from-init : goal.loop-from-init
loop-from-init g c =
    let source : Source = source_of g.C.Codec.meaning c.args.reading.now.media_ssrc c.args.reading.now.media_type in
    let newest : ℕ = newest_with c.args.seen.now.window.now.newest c.args.seen.now.number in
    let lowest : c.saturating_sub-from.result ≡ newest - 2047 =
    omega (arith, c.saturating_sub-from.ensures, c.newest_of-newest.ensures) in
    let count : c.newest_of-newest.result + 1 - c.saturating_sub-from.result
    ≡ newest - c.saturating_sub-from.result + 1 =
    omega (arith, c.saturating_sub-from.ensures, c.newest_of-newest.ensures) in
    first-in-window source newest (window_by c.args.seen.now).dead (packets_by c.args.seen.now)
    c.saturating_sub-from.result (c.newest_of-newest.result + 1 - c.saturating_sub-from.result)
    c.requires.inside lowest count

pub returns-in-Some-clause-entry : goal.returns-in-Some-clause-entry
returns-in-Some-clause-entry g c =
    let source : Source = source_of g.C.Codec.meaning c.args.reading.now.media_ssrc c.args.reading.now.media_type in
    let window = window_by c.args.seen.now in
    let f : ℕ → Option (ℕ × Content) = step source window.newest window.dead (packets_by c.args.seen.now) in
    let found : f c.next_fec-next.result ≡ Some (entry_of c.in-Some.repair) =
    sym c.in_ok-repair.ensures.entry ∙ ap (option_map entry_of) c.in-Some.is in
    sym (c.loop-from.invariant
    ∙ first-passed f c.loop-from.from c.next_fec-next.result c.newest_of-newest.result c.next_fec-next.ensures.from
    c.next_fec-next.ensures.upto (λ k later before. step-not-fec source window.newest window.dead
    (packets_by c.args.seen.now) k (c.next_fec-next.ensures.passed k later before))
    ∙ first-found f c.next_fec-next.result (c.newest_of-newest.result + 1 - c.next_fec-next.result)
    (entry_of c.in-Some.repair) (omega (arith, c.next_fec-next.ensures.upto)) found)

pub returns-then-next-newest-clause-entry : goal.returns-then-next-newest-clause-entry
returns-then-next-newest-clause-entry g c =
    let source : Source = source_of g.C.Codec.meaning c.args.reading.now.media_ssrc c.args.reading.now.media_type in
    let window = window_by c.args.seen.now in
    let f : ℕ → Option (ℕ × Content) = step source window.newest window.dead (packets_by c.args.seen.now) in
    let none : f c.next_fec-next.result ≡ None =
    sym c.in_ok-repair.ensures.entry ∙ ap (option_map entry_of) c.in-None.is in
    sym (c.loop-from.invariant
    ∙ first-passed f c.loop-from.from c.next_fec-next.result c.newest_of-newest.result c.next_fec-next.ensures.from
    c.next_fec-next.ensures.upto (λ k later before. step-not-fec source window.newest window.dead
    (packets_by c.args.seen.now) k (c.next_fec-next.ensures.passed k later before))
    ∙ first-next f c.next_fec-next.result (c.next_fec-next.result + 1)
    (c.newest_of-newest.result + 1 - c.next_fec-next.result) 0 (omega (arith, c.if-next-newest.true)) refl none)

pub loop-from-preserved : goal.loop-from-preserved
loop-from-preserved g c =
    let source : Source = source_of g.C.Codec.meaning c.args.reading.now.media_ssrc c.args.reading.now.media_type in
    let window = window_by c.args.seen.now in
    let f : ℕ → Option (ℕ × Content) = step source window.newest window.dead (packets_by c.args.seen.now) in
    let none : f c.next_fec-next.result ≡ None =
    sym c.in_ok-repair.ensures.entry ∙ ap (option_map entry_of) c.in-None.is in
    c.loop-from.invariant
    ∙ first-passed f c.loop-from.from c.next_fec-next.result c.newest_of-newest.result c.next_fec-next.ensures.from
    c.next_fec-next.ensures.upto (λ k later before. step-not-fec source window.newest window.dead
    (packets_by c.args.seen.now) k (c.next_fec-next.ensures.passed k later before))
    ∙ first-next f c.next_fec-next.result (c.next_fec-next.result + 1)
    (c.newest_of-newest.result + 1 - c.next_fec-next.result)
    (c.newest_of-newest.result + 1 - (c.next_fec-next.result + 1))
    (omega (arith, c.if-next-newest.false, c.next_fec-next.ensures.upto)) refl none
