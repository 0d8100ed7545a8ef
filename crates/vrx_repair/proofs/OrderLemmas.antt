-- The closed map is the least one, whatever the order of the steps.
use Rattle.std.proofs.Common.{◌≡◌, ◌⊎◌, ℕ, ◌+◌, ◌%◌, Bool, true, false, cond, not, List, [], ◌∷◌, refl, sym, ◌∙◌, ap, inl, inr}
use Rattle.std.specs.Prelude.{Option, Some, None, is_some}
use Rattle.std.specs.List.{filter}
use Rattle.std.specs.Result.{result_ok}
use Rattle.std.proofs.lemmas.Bool.{cases_eq, cases_Bool, true≢false}
use Rattle.std.proofs.lemmas.Option.{none-some, same_Some}
use Rattle.vrx_num.specs.OptionChain.{◌>>=◌}
use Rattle.vrx_fec.specs.Parity.{Texts}
use Rattle.vrx_fec.specs.Payload.{Payload, protected}
use Rattle.vrx_fec.specs.Reading.{reading}
use Rattle.vrx_fec.specs.Rebuilt.{rebuilt}
use Rattle.vrx_window.specs.Content.{Content}
use Rattle.vrx_window.specs.Window.{at, is_available}
use Rattle.vrx_repair.specs.Order.{AnyOrder, AreAlike, AreRight, AreSteps, StepsAreRight}
use Rattle.vrx_repair.specs.Source.{Source}
use Rattle.vrx_repair.specs.Step.{Packets, IsClosed, base_of, fec_at, is_wanted, media_under, missing_of, only_one, others_of, payload_of, rebuilt_under, step, step_of, text_of, texts_at, with_repair, with_repairs}
use Rattle.vrx_repair.proofs.MapLemmas.{at_put-here, at_put-other}
use Rattle.vrx_repair.proofs.StepLemmas.{chained, only-one, under-number}

-- each packet of some packets is one of others
abbrev IsPartOf : Packets → Packets → Type 0
IsPartOf ps qs = (n : ℕ) (x : Content) → at n ps ≡ Some x → at n qs ≡ Some x

-- what is there
there : (o : Option Content) → is_some o ≡ true → (x : Content) × (o ≡ Some x)
there None is = absurd (true≢false (sym is))
there (Some x) is = (x, refl)

-- what one more packet is
put-cases : (ps : Packets) (r : ℕ × Content) (n : ℕ) (x : Content) → at n (with_repair r ps) ≡ Some x →
    ((n ≡ r.0) × (r.1 ≡ x)) ⊎ (at n ps ≡ Some x)
put-cases ps r n x is = elim (cases_eq n r.0) [
  | inl same ↦ inl (same, same_Some r.1 x (sym (at_put-here r.0 r.1 ps) ∙ ap (λ k. at k (with_repair r ps)) (sym same) ∙ is))
  | inr apart ↦ inr (sym (at_put-other n r.0 r.1 ps apart) ∙ is)
]

module _ (ps qs : Packets) (within : IsPartOf ps qs) (base : ℕ) where
  -- the tests by which numbers are missing
  abbrev p_missing : ℕ → Bool
  p_missing i = not (is_available (base + i) ps)

  abbrev q_missing : ℕ → Bool
  q_missing i = not (is_available (base + i) qs)

  -- what is missing of the greater packets is missing of the lesser ones
  fewer : (i : ℕ) → q_missing i ≡ true → p_missing i ≡ true
  fewer i is = by_value (at (base + i) ps) refl where
    by_value : (o : Option Content) → at (base + i) ps ≡ o → not (is_some o) ≡ true
    by_value None e = refl
    by_value (Some x) e = absurd (true≢false (sym is ∙ ap (λ o. not (is_some o)) (within (base + i) x e)))

  -- of offsets none of which is missing of the lesser packets, none is of the greater ones
  none-missing : (is : List ℕ) → filter p_missing is ≡ [] → filter q_missing is ≡ []
  none-missing [] none = refl
  none-missing (i ∷ is) none = by_tests (p_missing i) (q_missing i) refl refl none (none-missing is) where
    by_tests : (a b : Bool) → p_missing i ≡ a → q_missing i ≡ b → cond a (i ∷ filter p_missing is) (filter p_missing is) ≡ []
        → (filter p_missing is ≡ [] → filter q_missing is ≡ []) → cond b (i ∷ filter q_missing is) (filter q_missing is) ≡ []
    by_tests true b pa qb e rest = cc
    by_tests false true pa qb e rest = absurd (true≢false (sym (fewer i qb) ∙ pa))
    by_tests false false pa qb e rest = rest e

  -- if just one is missing of the lesser packets, just that one is of the greater ones, unless it is there
  one-missing : (is : List ℕ) (k : ℕ) → q_missing k ≡ true → filter p_missing is ≡ k ∷ [] → filter q_missing is ≡ k ∷ []
  one-missing [] k away one = cc
  one-missing (i ∷ is) k away one = by_tests (p_missing i) (q_missing i) refl refl one (one-missing is k away) where
    by_tests : (a b : Bool) → p_missing i ≡ a → q_missing i ≡ b → cond a (i ∷ filter p_missing is) (filter p_missing is) ≡ k ∷ []
        → (filter p_missing is ≡ k ∷ [] → filter q_missing is ≡ k ∷ [])
        → cond b (i ∷ filter q_missing is) (filter q_missing is) ≡ k ∷ []
    by_tests true true pa qb e rest =
        let heads : i ≡ k = cc in
        let tails : filter p_missing is ≡ [] = cc in
        ap (λ ks. i ∷ ks) (none-missing is tails) ∙ ap (λ n. n ∷ []) heads
    by_tests true false pa qb e rest =
        let heads : i ≡ k = cc in
        absurd (true≢false (sym away ∙ ap q_missing (sym heads) ∙ qb))
    by_tests false true pa qb e rest = absurd (true≢false (sym (fewer i qb) ∙ pa))
    by_tests false false pa qb e rest = rest e

  -- texts that the lesser packets have, the greater ones have
  more-texts : (is : List ℕ) (ts : Texts) → texts_at ps base is ≡ Some ts → texts_at qs base is ≡ Some ts
  more-texts [] ts e = e
  more-texts (i ∷ is) ts e =
      let content = chained (at (base + i) ps) after ts e in
      let text = chained (text_of content.0) with_text ts content.2 in
      let texts = chained (texts_at ps base is) (λ us. Some ((i, text.0) ∷ us)) ts text.2 in
      ap (λ o. o >>= after_q) (within (base + i) content.0 content.1)
      ∙ ap (λ o. o >>= with_text_q) text.1
      ∙ ap (λ o. o >>= λ us. Some ((i, text.0) ∷ us)) (more-texts is texts.0 texts.1)
      ∙ texts.2 where
        with_text : List ℕ → Option Texts
        with_text text = texts_at ps base is >>= λ us. Some ((i, text) ∷ us)

        after : Content → Option Texts
        after content = text_of content >>= with_text

        with_text_q : List ℕ → Option Texts
        with_text_q text = texts_at qs base is >>= λ us. Some ((i, text) ∷ us)

        after_q : Content → Option Texts
        after_q content = text_of content >>= with_text_q

module _ (source : Source) (newest : Option ℕ) (dead : List ℕ) where
  -- more packets keep a step, unless what it makes is there
  same-rebuilt : (ps qs : Packets) → IsPartOf ps qs → (base : ℕ) (p : Payload) (i : ℕ) (r : ℕ × Content)
      → rebuilt_under source newest dead ps base p i ≡ Some r → rebuilt_under source newest dead qs base p i ≡ Some r
  same-rebuilt ps qs within base p i r is = by_test (is_wanted newest dead (base + i)) is where
    finish : Texts → Option (ℕ × Content)
    finish others = result_ok (rebuilt p others i source.ssrc) >>= media_under source (base + i)

    by_test : (b : Bool) → cond b (texts_at ps base (others_of i (protected p)) >>= finish) None ≡ Some r
        → cond b (texts_at qs base (others_of i (protected p)) >>= finish) None ≡ Some r
    by_test false e = e
    by_test true e =
        let others = chained (texts_at ps base (others_of i (protected p))) finish r e in
        ap (λ o. o >>= finish) (more-texts ps qs within base (others_of i (protected p)) others.0 others.1) ∙ others.2

  same-step : (ps qs : Packets) → IsPartOf ps qs → (base : ℕ) (p : Payload) (r : ℕ × Content)
      → step_of source newest dead ps base p ≡ Some r
      → ((x : Content) × (at r.0 qs ≡ Some x)) ⊎ (step_of source newest dead qs base p ≡ Some r)
  same-step ps qs within base p r is = elim (cases_Bool (is_available (base + one.0) qs)) [
    | inl here ↦ inl (let x = there (at (base + one.0) qs) here in (x.0, ap (λ n. at n qs) (sym number) ∙ x.1))
    | inr away ↦ inr
        (ap (λ ks. only_one ks >>= rebuilt_under source newest dead qs base p)
        (one-missing ps qs within base (protected p) one.0 (ap not away) (only-one (missing_of ps base (protected p)) one.0 one.1))
        ∙ same-rebuilt ps qs within base p one.0 r one.2)
  ] where
    one : (i : ℕ) × (only_one (missing_of ps base (protected p)) ≡ Some i) × (rebuilt_under source newest dead ps base p i ≡ Some r)
    one = chained (only_one (missing_of ps base (protected p))) (rebuilt_under source newest dead ps base p) r is

    number : base + one.0 ≡ r.0
    number = under-number source newest dead ps base p one.0 r one.2

  -- and so does the FEC packet's number
  grows : (ps qs : Packets) (m : ℕ) (r : ℕ × Content) → IsPartOf ps qs → step source newest dead ps m ≡ Some r
      → ((x : Content) × (at r.0 qs ≡ Some x)) ⊎ (step source newest dead qs m ≡ Some r)
  grows ps qs m r within is =
      let fec = chained (fec_at ps m) (λ p. step_of source newest dead ps (base_of m p) p) r is in
      let content = chained (at m ps) read_content fec.0 fec.1 in
      let same : fec_at qs m ≡ Some fec.0 =
      ap (λ o. o >>= read_content) (within m content.0 content.1) ∙ content.2 in
      elim (same-step ps qs within (base_of m fec.0) fec.0 r fec.2) [
        | inl x ↦ inl x
        | inr still ↦ inr (ap (λ o. o >>= λ p. step_of source newest dead qs (base_of m p) p) same ∙ still)
      ] where
        read_content : Content → Option Payload
        read_content content = payload_of content >>= λ payload. result_ok (reading payload (m % 65536))

  module _ (right : ℕ → Option Content) (sound : StepsAreRight right source newest dead) where
    -- all that steps make lies within each closed map of right packets that has what they began with
    least : (ps qs : Packets) (rs : List (ℕ × Content)) → AreRight right ps → AreRight right qs → IsPartOf ps qs →
        IsClosed source newest dead qs → AreSteps source newest dead ps rs → IsPartOf (with_repairs rs ps) qs
    least ps qs [] p q within closed steps = within
    least ps qs (r ∷ rs) p q within closed steps =
        let here : right r.0 ≡ Some r.1 = sound ps steps.0.0 r p steps.0.1 in
        let there_too : at r.0 qs ≡ Some r.1 = elim (grows ps qs steps.0.0 r within steps.0.1) [
          | inl x ↦ x.1 ∙ sym (q r.0 x.0 x.1) ∙ here
          | inr still ↦ absurd (none-some r (sym (closed steps.0.0) ∙ still))
        ] in
        least (with_repair r ps) qs rs (λ n x is. elim (put-cases ps r n x is) [
          | inl same ↦ ap right same.0 ∙ here ∙ ap Some same.1
          | inr old ↦ p n x old
        ]) q (λ n x is. elim (put-cases ps r n x is) [
          | inl same ↦ ap (λ k. at k qs) same.0 ∙ there_too ∙ ap Some same.1
          | inr old ↦ within n x old
        ]) closed steps.1

    -- packets stay right
    stay-right : (ps : Packets) (rs : List (ℕ × Content)) → AreRight right ps → AreSteps source newest dead ps rs →
        AreRight right (with_repairs rs ps)
    stay-right ps [] p steps = p
    stay-right ps (r ∷ rs) p steps = stay-right (with_repair r ps) rs (λ n x is. elim (put-cases ps r n x is) [
      | inl same ↦ ap right same.0 ∙ sound ps steps.0.0 r p steps.0.1 ∙ ap Some same.1
      | inr old ↦ p n x old
    ]) steps.1

    -- what repairs are put into stays, if it is right
    stays : (ps : Packets) (rs : List (ℕ × Content)) → AreRight right ps → AreSteps source newest dead ps rs →
        IsPartOf ps (with_repairs rs ps)
    stays ps [] p steps n x is = is
    stays ps (r ∷ rs) p steps n x is = stays (with_repair r ps) rs (λ k y there. elim (put-cases ps r k y there) [
      | inl same ↦ ap right same.0 ∙ sound ps steps.0.0 r p steps.0.1 ∙ ap Some same.1
      | inr old ↦ p k y old
    ]) steps.1 n x (elim (cases_eq n r.0) [
      | inl same ↦
          ap (λ k. at k (with_repair r ps)) same ∙ at_put-here r.0 r.1 ps
          ∙ sym (sound ps steps.0.0 r p steps.0.1) ∙ ap right (sym same) ∙ p n x is
      | inr apart ↦ at_put-other n r.0 r.1 ps apart ∙ is
    ])

-- two packets that are part of each other are alike
alike : (ps qs : Packets) → IsPartOf ps qs → IsPartOf qs ps → AreAlike ps qs
alike ps qs a b n = by_values (at n ps) (at n qs) refl refl where
  by_values : (o p : Option Content) → at n ps ≡ o → at n qs ≡ p → o ≡ p
  by_values None None is js = refl
  by_values (Some x) p is js = sym (a n x is) ∙ js
  by_values None (Some y) is js = sym is ∙ b n y js

pub any-order : AnyOrder
any-order right source newest dead sound ps made others p steps closed steps_too closed_too =
    alike (with_repairs made ps) (with_repairs others ps)
    (least source newest dead right sound ps (with_repairs others ps) made p
    (stay-right source newest dead right sound ps others p steps_too)
    (stays source newest dead right sound ps others p steps_too) closed_too steps)
    (least source newest dead right sound ps (with_repairs made ps) others p
    (stay-right source newest dead right sound ps made p steps)
    (stays source newest dead right sound ps made p steps) closed steps_too)
