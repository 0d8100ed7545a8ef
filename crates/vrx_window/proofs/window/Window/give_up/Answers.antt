use Rattle.std.proofs.Common.{◌∙◌, ap, refl, sym}
use Rattle.vrx_window.specs.Fates.{window_of}
use Rattle.vrx_window.specs.Window.{after_giving_up, is_inside, would_of}
use Rattle.std.proofs.lemmas.Bool.{true≢false}
use Rattle.vrx_window.specs.declared.fate.Fate.TheVariants.{GivenUp}
use Rattle.vrx_window.proofs.FecLemmas.{marked_after}
use Rattle.vrx_window.proofs.WindowLemmas.{fresh_is, shown_after_giving_up}
use Rattle.vrx_window.proofs.window.Window.give_up.Goals as goal

pub returns : goal.returns
returns c =
    let fresh = fresh_is _ c.args.n (ap (λ w. would_of w c.args.n) c.self.view_is ∙ c.requires.fresh) in
    let inside = ap (λ w. is_inside w.newest c.args.n) c.self.view_is ∙ c.requires.inside in
    record {
      given_up = shown_after_giving_up c.self.inside.first c.self.inside.ring c.self.invariant.sound c.args.n fresh
          c.place.new.self c.place.ensures.sound inside c.place.ensures.newest c.place.ensures.entries
          ∙ ap (after_giving_up c.args.n) c.self.view_is;
    }

pub invariant_of-self : goal.invariant_of-self
invariant_of-self c =
    let fresh = fresh_is (window_of c.self.inside.first c.self.inside.ring) c.args.n (ap (λ w. would_of w c.args.n) c.self.view_is ∙ c.requires.fresh) in
    marked_after c.self.inside.ring c.place.new.self c.self.inside.marks c.self.inside.marks
    c.self.inside.has_fec c.self.inside.has_fec c.self.invariant
    c.place.ensures.sound c.args.n GivenUp fresh.young c.place.ensures.entries c.self.invariant.words
    (λ fec. absurd (true≢false (sym fec))) (λ m apart. refl) (λ fec. absurd (true≢false (sym fec))) (λ had. had)
