-- The texts of the others, one after the other from the last on.
use Rattle.std.proofs.Common.{◌≡◌, ◌≢◌, ℕ, zero, suc, ◌+◌, ◌-◌, ◌<◌, ◌≤◌, Bool, true, false, cond, not, List, [], ◌∷◌, Option, Some, None, refl, sym, ◌∙◌, ap, arith}
use Rattle.std.specs.Prelude.{◌==◌}
use Rattle.std.specs.List.{filter}
use Rattle.std.proofs.lemmas.Bool.{eq-eqb, ne_eqb}
use Rattle.vrx_num.specs.OptionChain.{◌>>=◌}
use Rattle.vrx_fec.specs.Mask.{numbers_from, width}
use Rattle.vrx_fec.specs.Parity.{Texts}
use Rattle.vrx_fec.specs.Payload.{Payload, protected}
use Rattle.vrx_fec.specs.Rebuilt.{IsOf, Sums}
use Rattle.vrx_window.specs.Content.{Content, Media}
use Rattle.vrx_window.specs.Window.{at}
use Rattle.vrx_repair.specs.Seen.{HasAdded, others_from, protects, upto}
use Rattle.vrx_repair.specs.Step.{Packets, others_of, text_of, texts_at}
use Rattle.vrx_repair.proofs.OffsetLemmas.{upto-end, upto-next}

-- one text more
with_text : Option Texts → ℕ → List ℕ → Option Texts
with_text ts i text = ts >>= λ us. Some ((i, text) ∷ us)

module _ (packets : Packets) (base : ℕ) where
  -- the texts of one offset more
  texts-more : (i : ℕ) (is : List ℕ) (text : List ℕ) (ts : Texts) → at (base + i) packets ≡ Some (Media text) →
      texts_at packets base is ≡ Some ts → texts_at packets base (i ∷ is) ≡ Some ((i, text) ∷ ts)
  texts-more i is text ts there are =
      ap (λ o. o >>= λ content. text_of content >>= λ t. texts_at packets base is >>= λ us. Some ((i, t) ∷ us)) there
      ∙ ap (λ o. o >>= λ us. Some ((i, text) ∷ us)) are

  texts-lost : (i : ℕ) (is : List ℕ) → (at (base + i) packets >>= text_of) ≡ None →
      texts_at packets base (i ∷ is) ≡ None
  texts-lost i is none = by_value (at (base + i) packets) none where
    after : Content → Option Texts
    after content = text_of content >>= λ t. texts_at packets base is >>= λ us. Some ((i, t) ∷ us)

    by_text : (o : Option (List ℕ)) → o ≡ None → (o >>= λ t. texts_at packets base is >>= λ us. Some ((i, t) ∷ us)) ≡ None
    by_text None e = refl
    by_text (Some t) e = cc

    by_value : (o : Option Content) → (o >>= text_of) ≡ None → (o >>= after) ≡ None
    by_value None e = refl
    by_value (Some x) e = by_text (text_of x) e

  -- none of fewer are none of more
  texts-none : (i : ℕ) (is : List ℕ) → texts_at packets base is ≡ None → texts_at packets base (i ∷ is) ≡ None
  texts-none i is none = by_value (at (base + i) packets) where
    by_text : (o : Option (List ℕ)) → (o >>= λ t. texts_at packets base is >>= λ us. Some ((i, t) ∷ us)) ≡ None
    by_text None = refl
    by_text (Some t) = ap (λ ts. ts >>= λ us. Some ((i, t) ∷ us)) none

    by_value : (o : Option Content) → (o >>= λ content. text_of content >>= λ t. texts_at packets base is >>= λ us. Some ((i, t) ∷ us)) ≡ None
    by_value None = refl
    by_value (Some x) = by_text (text_of x)

  module _ (p : Payload) (missing : ℕ) where
    abbrev from : ℕ → List ℕ
    from = others_from p missing

    -- the offset i, if it is named, and then if it isn't the missing one
    abbrev split : ℕ → Bool → Bool → List ℕ
    split i named other = cond named (cond other (i ∷ from (i + 1)) (from (i + 1))) (from (i + 1))

    other-split : (i : ℕ) → i < width p.long → from i ≡ split i (protects p i) (not (i == missing))
    other-split i less =
        ap (λ ns. others_of missing (filter (protects p) ns)) (upto-next i (width p.long) less) ∙ by_test (protects p i) where
          by_test : (a : Bool) → others_of missing (cond a (i ∷ filter (protects p) (upto (i + 1) (width p.long))) (filter (protects p) (upto (i + 1) (width p.long))))
              ≡ split i a (not (i == missing))
          by_test true = refl
          by_test false = refl

    pub other-skipped : (i : ℕ) → i < width p.long → i ≡ missing → from i ≡ from (i + 1)
    other-skipped i less same = other-split i less
        ∙ ap (λ b. split i (protects p i) (not b)) (eq-eqb i missing same) ∙ by_test (protects p i) where
          by_test : (a : Bool) → split i a false ≡ from (i + 1)
          by_test true = refl
          by_test false = refl

    pub other-unnamed : (i : ℕ) → i < width p.long → protects p i ≡ false → from i ≡ from (i + 1)
    other-unnamed i less is = other-split i less ∙ ap (λ b. split i b (not (i == missing))) is

    pub other-more : (i : ℕ) → i < width p.long → protects p i ≡ true → i ≢ missing → from i ≡ i ∷ from (i + 1)
    other-more i less is other = other-split i less
        ∙ ap (λ b. split i b (not (i == missing))) is
        ∙ ap (λ b. split i true (not b)) (ne_eqb i missing other)

    -- an offset that is left out
    pub added-same : (i : ℕ) (register : Sums) → from i ≡ from (i + 1) →
        HasAdded packets base p missing (i + 1) register → HasAdded packets base p missing i register
    added-same i register same has = record {
      texts = has.texts;
      are = ap (texts_at packets base) same ∙ has.are;
      sums = has.sums;
    }

    -- an offset whose text is added
    pub added-more : (i : ℕ) (old new : Sums) (text : List ℕ) → from i ≡ i ∷ from (i + 1) →
        at (base + i) packets ≡ Some (Media text) → HasAdded packets base p missing (i + 1) old →
        ((texts : Texts) → IsOf old p texts → IsOf new p ((i, text) ∷ texts)) →
        HasAdded packets base p missing i new
    added-more i old new text more there has adds = record {
      texts = (i, text) ∷ has.texts;
      are = ap (texts_at packets base) more ∙ texts-more i (from (i + 1)) text has.texts there has.are;
      sums = adds has.texts has.sums;
    }

    -- an offset under which no media stands
    pub lost-here : (i : ℕ) → from i ≡ i ∷ from (i + 1) → (at (base + i) packets >>= text_of) ≡ None →
        texts_at packets base (from i) ≡ None
    lost-here i more none = ap (texts_at packets base) more ∙ texts-lost i (from (i + 1)) none

    -- what is lost from one offset on is lost from each lesser one on
    lost-before : (i : ℕ) → i < width p.long → texts_at packets base (from (i + 1)) ≡ None →
        texts_at packets base (from i) ≡ None
    lost-before i less none =
        ap (texts_at packets base) (other-split i less) ∙ by_tests (protects p i) (not (i == missing)) where
          by_tests : (a b : Bool) → texts_at packets base (split i a b) ≡ None
          by_tests true true = texts-none i (from (i + 1)) none
          by_tests true false = none
          by_tests false b = none

    lost-all : (i : ℕ) → i ≤ width p.long → texts_at packets base (from i) ≡ None → texts_at packets base (from 0) ≡ None
    lost-all zero upto none = none
    lost-all (suc i) upto none =
        let next : suc i ≡ i + 1 = omega arith in
        lost-all i (omega arith) (lost-before i (omega arith) (ap (λ k. texts_at packets base (from k)) (sym next) ∙ none))

    -- all of them
    from-all : from 0 ≡ others_of missing (protected p)
    from-all = let whole : width p.long - 0 ≡ width p.long = omega arith in
        ap (λ n. others_of missing (filter (protects p) (numbers_from 0 n))) whole

    pub lost-texts : (i : ℕ) → i ≤ width p.long → texts_at packets base (from i) ≡ None →
        texts_at packets base (others_of missing (protected p)) ≡ None
    lost-texts i upto none = ap (texts_at packets base) (sym from-all) ∙ lost-all i upto none

    pub all-texts : (register : Sums) → HasAdded packets base p missing 0 register →
        (texts : Texts) × (texts_at packets base (others_of missing (protected p)) ≡ Some texts) × IsOf register p texts
    all-texts register has = (has.texts, ap (texts_at packets base) (sym from-all) ∙ has.are, has.sums)

    pub no-texts : (i : ℕ) (register : Sums) → i ≡ width p.long → IsOf register p [] → HasAdded packets base p missing i register
    no-texts i register last is = record {
      texts = [];
      are = ap (λ ns. texts_at packets base (others_of missing (filter (protects p) ns)))
          (ap (λ k. upto k (width p.long)) last ∙ upto-end (width p.long));
      sums = is;
    }
