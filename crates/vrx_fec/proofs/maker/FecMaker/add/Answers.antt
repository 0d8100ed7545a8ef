use Rattle.std.proofs.Common.{◌≡◌, ◌<◌, ◌∙◌, ℕ, ◌∷◌, bit_xor, length, slice_index, arith, rules, ap, drop, subst, sym}
use Rattle.vrx_fec.specs.Made.{total}
use Rattle.vrx_fec.specs.Making.{form_of}
use Rattle.vrx_fec.specs.Parity.{IsParity, fields_of, mask_at}
use Rattle.vrx_fec.specs.Payload.{Payload, is_ahead, protected}
use Rattle.vrx_fec.proofs.MakerLemmas.{made-ahead, made-form, made-protected, made-parity, parity-made, parity-more}
use Rattle.vrx_fec.proofs.SumLemmas.{added, small-field}
use Rattle.vrx_fec.proofs.maker.FecMaker.add.Goals as goal

module _ (c : goal.After-add_to_body) where
  eight : length c.self.inside.fields ≡ 8
  eight = search rules

  field : (k : ℕ) → k < 8 → slice_index c.xor_into.new.target k
      ≡ bit_xor (slice_index c.self.inside.fields k) (slice_index (fields_of c.args.text.now) k)
  field k lt = c.xor_into.ensures k (omega (arith, eight))
      ∙ ap (λ x. bit_xor (slice_index c.self.inside.fields k) (slice_index x k)) c.fields_of.ensures

  small : slice_index c.xor_into.new.target 0 < 64
  small = small-field c.self.inside.fields c.xor_into.new.target c.args.text.now c.self.invariant.first_field
      (field 0 (omega arith))

  size : length c.add_to_body.new.body.items ≡ total c.self.inside.spans.items
  size = c.add_to_body.ensures.size ∙ c.self.invariant.size

  octet : (k : ℕ) → k < length c.self.inside.body.items → slice_index c.add_to_body.new.body.items k
      ≡ bit_xor (slice_index c.self.inside.body.items k)
      (added c.self.inside.long (mask_at c.self.inside.spans.items k) c.args.offset (drop 12 c.args.text.now) k)
  octet k lt = c.add_to_body.ensures.body k lt
      ∙ ap (λ s. bit_xor (slice_index c.self.inside.body.items k)
      (added c.self.inside.long (mask_at s k) c.args.offset (drop 12 c.args.text.now) k)) c.as_slice.ensures.value

pub invariant_of-self : goal.invariant_of-self
invariant_of-self c = record {
  planned = c.self.invariant.planned;
  base_fits = c.self.invariant.base_fits;
  first_field = small c;
  size = size c;
  empty = c.self.invariant.empty;
  room = c.self.invariant.room;
}

pub returns-clause-adds : goal.returns-clause-adds
returns-clause-adds c texts is =
    parity-made c.self.inside.long c.self.inside.base c.self.inside.spans.items c.xor_into.new.target
    c.add_to_body.new.body.items (small c) (size c) ((c.args.offset, c.args.text.now) ∷ texts)
    (parity-more c.self.inside.long c.self.inside.spans.items texts c.args.offset c.args.text.now c.self.inside.fields
    c.xor_into.new.target c.self.inside.body.items c.add_to_body.new.body.items
    (made-parity c.self.inside.long c.self.inside.base c.self.inside.spans.items c.self.inside.fields
    c.self.inside.body.items c.self.invariant.first_field c.self.invariant.size texts
    (subst (λ (p : Payload). IsParity p texts) (sym c.self.view_is) is))
    c.add_to_body.ensures.size (field c) (octet c))

pub returns-clause-kept : goal.returns-clause-kept
returns-clause-kept c =
    made-form c.self.inside.long c.self.inside.base c.self.inside.spans.items c.self.inside.fields
    c.xor_into.new.target c.self.inside.body.items c.add_to_body.new.body.items c.self.invariant.size (size c)
    ∙ ap form_of c.self.view_is

pub returns-clause-protects : goal.returns-clause-protects
returns-clause-protects c =
    made-protected c.self.inside.long c.self.inside.base c.self.inside.spans.items c.self.inside.fields
    c.xor_into.new.target c.self.inside.body.items c.add_to_body.new.body.items
    ∙ ap protected c.self.view_is

pub returns-clause-ahead : goal.returns-clause-ahead
returns-clause-ahead c own =
    made-ahead c.self.inside.long c.self.inside.base own c.self.inside.spans.items c.self.inside.fields
    c.xor_into.new.target c.self.inside.body.items c.add_to_body.new.body.items
    ∙ ap (is_ahead own) c.self.view_is
