-- What a sink took of a text, and how a run ends in one.
use Rattle.std.proofs.Common.{◌≡◌, ℕ, zero, suc, ◌+◌, List, [], ◌∷◌, ◌++◌, length, take, refl, sym, ap, subst, ◌∙◌, append_assoc, append-nil, arith}
use Rattle.std.specs.Prelude.{Option, Some, None}
use Rattle.std.proofs.lemmas.List.{length-append, take-append-le}
use Rattle.vrx_io.specs.Sink.{with_more, TakesShortPrefix}
use Rattle.vrx_program.specs.Outcome.{Outcome, text_of_outcome}
use Rattle.vrx_program.specs.Ends.{TookPrefix, Ends, EndsBadly, EndsAmid}
use Rattle.vrx_program.specs.declared.status.Status.{Status}
use Rattle.vrx_program.specs.declared.status.Status.TheVariants as statuses

pub with_more-none : (taken : Option (List ℕ)) → with_more taken [] ≡ taken
with_more-none None = refl
with_more-none (Some bytes) = ap Some (append-nil bytes)

pub with_more-twice : (taken : Option (List ℕ)) (a b : List ℕ) →
    with_more (with_more taken a) b ≡ with_more taken (a ++ b)
with_more-twice None a b = refl
with_more-twice (Some bytes) a b = ap Some (append_assoc bytes a b)

take-front : (a b : List ℕ) (n : ℕ) → take (length a + n) (a ++ b) ≡ a ++ take n b
take-front [] b n = let e : 0 + n ≡ n = omega arith in ap (λ k. take k b) e
take-front (x ∷ a) b n = let e : suc (length a) + n ≡ suc (length a + n) =
    omega arith in ap (λ k. take k (x ∷ (a ++ b))) e ∙ ap (λ ys. x ∷ ys) (take-front a b n)

take-part : (n : ℕ) (a b : List ℕ) → take (length (take n a)) (a ++ b) ≡ take n a
take-part zero a b = refl
take-part (suc n) [] b = refl
take-part (suc n) (x ∷ a) b = ap (λ ys. x ∷ ys) (take-part n a b)

-- a part of a text is a part of a longer one
pub took-more : (before after : Option (List ℕ)) (text more : List ℕ) → TookPrefix before after text →
    TookPrefix before after (text ++ more)
took-more before after text more (n, took) =
    (length (take n text), took ∙ ap (with_more before) (sym (take-part n text more)))

-- behind a text that was taken whole, a part of the next is a part of both
pub took-later : (before mid after : Option (List ℕ)) (text next : List ℕ) → mid ≡ with_more before text →
    TookPrefix mid after next → TookPrefix before after (text ++ next)
took-later before mid after text next wrote (n, took) = (
  length text + n,
  took ∙ ap (λ m. with_more m (take n next)) wrote ∙ with_more-twice before text (take n next)
      ∙ ap (with_more before) (sym (take-front text next n)),
)

pub part-later : (before mid after : Option (List ℕ)) (told text : List ℕ) → mid ≡ with_more before told →
    TakesShortPrefix mid after text → TakesShortPrefix before after (told ++ text)
part-later before mid after told text wrote part = record {
  count = length told + part.count;
  short = omega (arith, part.short, length-append told text);
  part = part.part ∙ ap (λ m. with_more m (take part.count text)) wrote
      ∙ with_more-twice before told (take part.count text)
      ∙ ap (with_more before) (sym (take-front told text part.count));
}

pub part-longer : (before after : Option (List ℕ)) (text more : List ℕ) → TakesShortPrefix before after text →
    TakesShortPrefix before after (text ++ more)
part-longer before after text more part = record {
  count = part.count;
  short = omega (arith, part.short, length-append text more);
  part = part.part ∙ ap (with_more before) (sym (take-append-le part.count text more (omega (arith, part.short))));
}

-- a run that ends at a refused line, of a capture whose text ends so
pub ends-badly : (status : Status) (outcome : List ℕ → Outcome) (capture told text : List ℕ)
    (before mid after left : Option (List ℕ)) → (outcome capture).status ≡ statuses.BadCapture →
    text_of_outcome (outcome capture) ≡ told ++ text → mid ≡ with_more before told
    → EndsBadly status text mid after → Ends outcome status capture before after left
ends-badly statuses.BadCapture outcome capture told text before mid after left is whole wrote ends = (
  is,
  ends ∙ ap (λ m. with_more m text) wrote ∙ with_more-twice before told text
      ∙ ap (with_more before) (sym whole),
)
ends-badly statuses.WriteFault outcome capture told text before mid after left is whole wrote ends =
    subst (TakesShortPrefix before after) (sym whole) (part-later before mid after told text wrote ends)
ends-badly statuses.NoMemory outcome capture told text before mid after left is whole wrote ends =
    subst (TookPrefix before after) (sym whole) (took-later before mid after told text wrote ends)
ends-badly statuses.Done outcome capture told text before mid after left is whole wrote ends = absurd ends
ends-badly statuses.BadUsage outcome capture told text before mid after left is whole wrote ends = absurd ends
ends-badly statuses.ReadFault outcome capture told text before mid after left is whole wrote ends = absurd ends

-- a run that ends in the text of an event, of a capture whose text goes on with it
pub ends-amid : (status : Status) (outcome : List ℕ → Outcome) (capture told text more : List ℕ)
    (before mid after left : Option (List ℕ)) → text_of_outcome (outcome capture) ≡ told ++ (text ++ more) →
    mid ≡ with_more before told
    → EndsAmid status text mid after → Ends outcome status capture before after left
ends-amid statuses.WriteFault outcome capture told text more before mid after left whole wrote ends =
    subst (TakesShortPrefix before after) (sym whole)
    (part-later before mid after told (text ++ more) wrote (part-longer mid after text more ends))
ends-amid statuses.NoMemory outcome capture told text more before mid after left whole wrote ends =
    subst (TookPrefix before after) (sym whole)
    (took-later before mid after told (text ++ more) wrote (took-more mid after text more ends))
ends-amid statuses.Done outcome capture told text more before mid after left whole wrote ends = absurd ends
ends-amid statuses.BadUsage outcome capture told text more before mid after left whole wrote ends = absurd ends
ends-amid statuses.BadCapture outcome capture told text more before mid after left whole wrote ends = absurd ends
ends-amid statuses.ReadFault outcome capture told text more before mid after left whole wrote ends = absurd ends

pub take-all : (text : List ℕ) → take (length text) text ≡ text
take-all [] = refl
take-all (x ∷ text) = ap (λ t. x ∷ t) (take-all text)
