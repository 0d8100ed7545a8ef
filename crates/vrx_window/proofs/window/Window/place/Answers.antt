use Rattle.std.proofs.Common.{◌∙◌, Some, ap}
use Rattle.std.proofs.lemmas.Bool.{or_left, or_right}
use Rattle.vrx_window.specs.Fates.{window_of}
use Rattle.vrx_window.specs.Window.{after_placing, would_of}
use Rattle.vrx_window.specs.declared.fate.Fate.TheVariants.{Taken}
use Rattle.vrx_window.proofs.FecLemmas.{marked_after}
use Rattle.vrx_window.proofs.WindowLemmas.{fresh_is, shown_placed}
use Rattle.vrx_window.proofs.window.Window.place.Goals as goal

pub returns : goal.returns
returns c =
    let fresh = fresh_is _ c.args.n (ap (λ w. would_of w c.args.n) c.self.view_is ∙ c.requires.fresh) in
    record {
      placed = ap (λ m. window_of (Some m) c.place.new.self) c.unwrap_or.ensures
          ∙ shown_placed c.self.inside.first c.self.inside.ring c.self.invariant.sound c.args.n fresh c.args.held
          c.place.new.self c.place.ensures.sound c.place.ensures.newest c.place.ensures.entries
          ∙ ap (after_placing c.args.n c.args.held) c.self.view_is;
    }

pub invariant_of-self : goal.invariant_of-self
invariant_of-self c =
    let fresh = fresh_is (window_of c.self.inside.first c.self.inside.ring) c.args.n (ap (λ w. would_of w c.args.n) c.self.view_is ∙ c.requires.fresh) in
    marked_after c.self.inside.ring c.place.new.self c.self.inside.marks c.mark.new.marks
    c.self.inside.has_fec _ c.self.invariant
    c.place.ensures.sound c.args.n (Taken c.args.held) fresh.young c.place.ensures.entries c.mark.ensures.words
    (λ fec. c.mark.ensures.here ∙ c.is_fec-marked.ensures.fec ∙ fec) c.mark.ensures.others
    (λ fec. or_right c.self.inside.has_fec _ (c.is_fec-marked.ensures.fec ∙ fec)) (λ had. or_left c.self.inside.has_fec _ had)
