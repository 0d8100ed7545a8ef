use Rattle.std.proofs.Common.{◌≡◌, ◌∙◌, ap, drop, length, slice_index, bit_xor, arith, rules, subst, sym}
use Rattle.std.proofs.lemmas.List.{length-drop}
use Rattle.vrx_fec.specs.Rebuilt.{IsOf}
use Rattle.vrx_fec.specs.View.{view}
use Rattle.vrx_fec.proofs.SumLemmas.{one-added, small-field}
use Rattle.vrx_fec.proofs.register.Register.add.Goals as goal

eight : (c : goal.After-add_to_text) → length c.self.inside.fields ≡ 8
eight c = search rules

pub invariant_of-self : goal.invariant_of-self
invariant_of-self c = (
  omega (arith, c.add_to_text.ensures.size, c.self.invariant.0),
  small-field c.self.inside.fields c.xor_into.new.target c.args.text.now c.self.invariant.1
      (c.xor_into.ensures 0 (omega (arith, eight c))
      ∙ ap (λ x. bit_xor (slice_index c.self.inside.fields 0) (slice_index x 0)) c.fields_of.ensures),
)

pub returns : goal.returns
returns c = record {
  adds = λ texts is. one-added (view c.args.fec.now) texts c.args.offset c.args.text.now c.self.inside.fields
      c.xor_into.new.target (drop 12 c.self.inside.text.items) (drop 12 c.add_to_text.new.to.items)
      (subst (λ sums. IsOf sums (view c.args.fec.now) texts) (sym c.self.view_is) is)
      (omega (
        arith,
        length-drop 12 c.self.inside.text.items,
        length-drop 12 c.add_to_text.new.to.items,
        c.add_to_text.ensures.size,
      ))
      (λ k lt. c.xor_into.ensures k (omega (arith, eight c))
      ∙ ap (λ x. bit_xor (slice_index c.self.inside.fields k) (slice_index x k)) c.fields_of.ensures)
      c.add_to_text.ensures.body;
}
