-- The bytes that a sink took in several writes.
use Rattle.std.proofs.Common.{◌≡◌, ℕ, ◌+◌, List, ◌++◌, length, take, drop, refl, sym, ◌∙◌, ap, arith, append_assoc}
use Rattle.std.specs.declared.option.Option.{Option}
use Rattle.std.specs.declared.option.Option.TheVariants.{None, Some}
use Rattle.std.proofs.Math.Seq.{take-add, take-append-add}
use Rattle.std.proofs.lemmas.List.{take-append-le, length-append}
use Rattle.vrx_io.specs.Sink.{with_more, TakesShortPrefix}

-- two texts taken one after the other
pub extended_twice : (taken : Option (List ℕ)) (text more : List ℕ) →
    with_more (with_more taken text) more ≡ with_more taken (text ++ more)
extended_twice None text more = refl
extended_twice (Some bytes) text more = ap Some (append_assoc bytes text more)

-- the first m bytes of a text and then the first n of what is left of it
pub extended_by_more : (before between after : Option (List ℕ)) (text rest : List ℕ) (m n : ℕ) →
    between ≡ with_more before (take m text) → rest ≡ drop m text → after ≡ with_more between (take n rest) →
    after ≡ with_more before (take (m + n) text)
extended_by_more before between after text rest m n first left more =
    more ∙ ap (λ taken. with_more taken (take n rest)) first ∙ extended_twice before (take m text) (take n rest)
    ∙ ap (λ part. with_more before (take m text ++ take n part)) left
    ∙ ap (with_more before) (sym (take-add m n text))

-- a part of a text is a part of a longer text
pub takes_short_prefix_longer : (before after : Option (List ℕ)) (text more : List ℕ) →
    TakesShortPrefix before after text → TakesShortPrefix before after (text ++ more)
takes_short_prefix_longer before after text more part = record {
  count = part.count;
  short = omega (arith, part.short, length-append text more);
  part = part.part ∙ ap (with_more before) (sym (take-append-le part.count text more (omega (arith, part.short))));
}

-- a whole text and then a part of more is a part of both
pub takes_short_prefix_later : (before between after : Option (List ℕ)) (text more : List ℕ) →
    between ≡ with_more before text → TakesShortPrefix between after more →
    TakesShortPrefix before after (text ++ more)
takes_short_prefix_later before between after text more whole part = record {
  count = length text + part.count;
  short = omega (arith, part.short, length-append text more);
  part = part.part ∙ ap (λ taken. with_more taken (take part.count more)) whole
      ∙ extended_twice before text (take part.count more)
      ∙ ap (with_more before) (sym (take-append-add text more part.count));
}
