use Rattle.std.proofs.Common.{◌≡◌, ◌∙◌, ◌<◌, length, option_map, Some, refl, sym, ap, arith}
use Rattle.std.specs.Prelude.{slice_get}
use Rattle.std.proofs.lemmas.Option.{slice_get-map, slice_get_read}
use Rattle.vrx_live.specs.inside.Placed.{told}
use Rattle.vrx_live.proofs.PlacedLemmas.{length-map}
use Rattle.vrx_live.proofs.printed.Printed.text.Goals as goal

pub returns : goal.returns
returns c =
    let items = c.self.inside.texts.items in
    let text = c.index-text.result.now in
    let low : c.args.place < length items =
    omega (arith, c.requires.within, ap length c.self.view_is, length-map told items) in
    let at : slice_get items c.args.place ≡ Some text =
    slice_get_read items (length items) c.args.place text refl low c.index-text.ensures in
    record {
      text = (
        text.k,
        ap (λ ts. slice_get ts c.args.place) (sym c.self.view_is) ∙ slice_get-map told items c.args.place
            ∙ ap (option_map told) at ∙ ap (λ os. Some (text.k, os)) (sym c.as_slice.ensures.value),
      );
    }
