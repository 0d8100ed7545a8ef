use Rattle.std.proofs.Common.{◌≡◌, true, false, refl, ◌∙◌, sym, ap}
use Rattle.std.specs.Option.{option_map_or}
use Rattle.std.proofs.lemmas.Option.{none-some, same_Some}
use Rattle.std.proofs.lemmas.Bool.{true≢false}
use Rattle.vrx_frames.specs.Linked.{IsReach, Sits, fact_at}
use Rattle.vrx_frames.specs.Marked.{IsChain, counts}
use Rattle.vrx_frames.specs.declared.arrival.Fact.{Fact}
use Rattle.vrx_frames.proofs.LinkLemmas.{blocked-none}
use Rattle.vrx_frames.proofs.MarkLemmas.{chain-whole, le-refl, not-false, not-passed, reach-unmarked, whole-chain, whole-counts}
use Rattle.vrx_frames.proofs.mark.span_of.Goals as goal

pub start_of-requires-clause-before : goal.start_of-requires-clause-before
start_of-requires-clause-before c =
    λ none. c.requires.before
    (sym (ap (λ o. option_map_or (λ (f : Fact). f.starts) o false) c.in-Some.ensures) ∙ none)

pub returns-in-None-clause-found : goal.returns-in-None-clause-found
returns-in-None-clause-found c =
    λ ts first last whole from upto.
    absurd (blocked-none (fact_at c.args.passed c.args.ring.now.entries) c.args.n
    (sym c.in-None.ensures) ts first last whole from upto)

pub returns-in-None-start_of-clause-found : goal.returns-in-None-start_of-clause-found
returns-in-None-start_of-clause-found c = λ ts first last whole from upto. not-false _ (λ beyond.
    none-some first ((c.in-None-start_of.ensures.start first
    (whole-counts c.args.passed c.args.passed c.args.ring.now ts first last c.requires.told whole beyond)).1
    (whole-chain (fact_at c.args.passed c.args.ring.now.entries) ts first last c.args.n whole from upto)))

pub returns-then-not-counts-clause-found : goal.returns-then-not-counts-clause-found
returns-then-not-counts-clause-found c = λ ts first last whole from upto. not-false _ (λ beyond.
    let counted =
    whole-counts c.args.passed c.args.passed c.args.ring.now ts first last c.requires.told whole beyond in
    let same = (c.in-Some-start_of.ensures.start first counted).1
    (whole-chain (fact_at c.args.passed c.args.ring.now.entries) ts first last c.args.n whole from upto) in
    true≢false (sym counted ∙ ap (counts c.args.ring.now.newest c.args.passed)
    (sym (same_Some c.in-Some-start_of.first first same))
    ∙ ap (λ o. counts o c.args.passed c.in-Some-start_of.first) (sym c.newest.ensures.newest)
    ∙ sym c.if-not-counts.ensures))

pub returns-then-has_marker-clause-found : goal.returns-then-has_marker-clause-found
returns-then-has_marker-clause-found c =
    let counted : counts c.args.ring.now.newest c.args.passed c.in-Some-start_of.first ≡ true =
    ap (λ o. counts o c.args.passed c.in-Some-start_of.first) (sym c.newest.ensures.newest)
    ∙ sym c.if-not-counts.ensures in
    let chain : IsChain (fact_at c.args.passed c.args.ring.now.entries) c.in-Some-start_of.first c.args.n =
    (c.in-Some-start_of.ensures.start c.in-Some-start_of.first counted).0 refl in
    let reached : IsReach (fact_at c.args.passed c.args.ring.now.entries) c.in-Some.here.ts c.args.n
    c.spread-last.result = c.spread-last.ensures.reached in
    let end : Sits (fact_at c.args.passed c.args.ring.now.entries) c.in-Some.here.ts c.args.n c.spread-last.result
    c.spread-last.result =
    reached.linked.each c.spread-last.result reached.linked.upto (le-refl c.spread-last.result) in (
      chain-whole (fact_at c.args.passed c.args.ring.now.entries) c.in-Some-start_of.first c.args.n
          c.spread-last.result c.in-Some.here.ts c.in-Some.here end.fact
          (sym c.in-Some.ensures) chain reached end.told
          (sym (ap (λ o. option_map_or (λ (f : Fact). f.marker) o false) end.told) ∙ sym c.if-has_marker.ensures),
      chain.linked.upto,
      reached.linked.upto,
      not-passed _ _ counted,
    )

pub returns-else-has_marker-clause-found : goal.returns-else-has_marker-clause-found
returns-else-has_marker-clause-found c = λ ts first last whole from upto.
    absurd (reach-unmarked (fact_at c.args.passed c.args.ring.now.entries) c.in-Some.here.ts c.args.n
    c.spread-last.result c.spread-last.ensures.reached
    (λ fact told. sym (ap (λ o. option_map_or (λ (f : Fact). f.marker) o false) told) ∙ sym c.if-has_marker.ensures)
    ts first last whole from upto)
