-- What repairs are: each fills a gap of the packets, and what was available stays.
use Rattle.std.proofs.Common.{◌≡◌, ℕ, zero, suc, ◌+◌, ◌⊎◌, Bool, true, false, cond, not, List, [], ◌∷◌, map, Contains, Option, Some, None, refl, sym, ◌∙◌, ap, subst, inl, inr, nat_cmp}
use Rattle.std.specs.List.{filter}
use Rattle.std.specs.Option.{option_map_or, option_or}
use Rattle.std.specs.Result.{result_ok}
use Rattle.std.specs.FinMap.Entries.{is_sorted}
use Rattle.std.proofs.lemmas.Bool.{and_parts, cases_eq, not-true}
use Rattle.std.proofs.lemmas.Option.{none-some, same_Some}
use Rattle.vrx_num.specs.OptionChain.{◌>>=◌}
use Rattle.vrx_rtp.specs.Packet.{Packet}
use Rattle.vrx_codec.specs.Part.{Part}
use Rattle.vrx_fec.specs.Payload.{Payload, protected}
use Rattle.vrx_fec.specs.Rebuilt.{rebuilt}
use Rattle.vrx_window.specs.Content.{Content, Media}
use Rattle.vrx_window.specs.Window.{at, is_available, is_dead, is_inside}
use Rattle.vrx_repair.specs.Source.{Source, media_in}
use Rattle.vrx_repair.specs.Step.{Packets, base_of, fec_at, first_of, first_step, is_wanted, media_under, missing_of, only_one, others_of, rebuilt_under, repairs, step, step_of, texts_at, with_repair, with_repairs}
use Rattle.vrx_core.proofs.relation.ListLemmas.{Contains-either, Contains-empty, Contains-head as Contains-first, Contains-tail as Contains-later}
use Rattle.vrx_core.proofs.relation.MapLemmas.{at_put-here, at_put-other, none-of, sorted_put}

-- a chain that gives something
pub chained : {A B : Type 0} (o : Option A) (f : A → Option B) (y : B) → (o >>= f) ≡ Some y →
    (x : A) × (o ≡ Some x) × (f x ≡ Some y)
chained None f y is = absurd (none-some y is)
chained (Some x) f y is = (x, refl, is)

-- a condition under which something is given
pub guard : {A : Type 0} (b : Bool) (o : Option A) (y : A) → cond b o None ≡ Some y → (b ≡ true) × (o ≡ Some y)
guard true o y is = (refl, is)
guard false o y is = absurd (none-some y is)

-- a list of just one
only-one : (xs : List ℕ) (i : ℕ) → only_one xs ≡ Some i → xs ≡ i ∷ []
only-one [] i is = absurd (none-some i is)
only-one (x ∷ []) i is = ap (λ k. k ∷ []) (same_Some x i is)
only-one (x ∷ y ∷ ys) i is = absurd (none-some i is)

-- the one that passes a test passes it
passes : (p : ℕ → Bool) (xs : List ℕ) (i : ℕ) → filter p xs ≡ i ∷ [] → p i ≡ true
passes p [] i is = absurd (none-some 0 (ap first_member is)) where
  first_member : List ℕ → Option ℕ
  first_member [] = None
  first_member (x ∷ xs) = Some 0
passes p (x ∷ xs) i is = by_test (p x) refl is (passes p xs i) where
  head_is : (ys : List ℕ) → x ∷ ys ≡ i ∷ [] → x ≡ i
  head_is ys same = cc

  by_test : (b : Bool) → p x ≡ b → cond b (x ∷ filter p xs) (filter p xs) ≡ i ∷ []
      → (filter p xs ≡ i ∷ [] → p i ≡ true) → p i ≡ true
  by_test true holds same rest = ap p (sym (head_is (filter p xs) same)) ∙ holds
  by_test false fails same rest = rest same

module _ (source : Source) (newest : Option ℕ) (dead : List ℕ) where
  -- a repair fills a gap: nothing stands under its number, which is in the window and wasn't given up; and it is media
  pub record Fills (packets : Packets) (repair : ℕ × Content) : Type 0 where
    pub text : List ℕ
    pub said : Packet × Part
    pub content_is : repair.1 ≡ Media text
    pub media : media_in source text ≡ Some said
    pub missing : at repair.0 packets ≡ None
    pub inside : is_inside newest repair.0 ≡ true
    pub alive : is_dead repair.0 dead ≡ false

  -- each of these fills a gap, once those before it were made
  abbrev pub FillAll : Packets → List (ℕ × Content) → Type 0
  FillAll packets [] = Unit {0}
  FillAll packets (repair ∷ more) = Fills packets repair × FillAll (with_repair repair packets) more

  -- what is rebuilt under an offset from a base
  record RebuiltSays (number : ℕ) (repair : ℕ × Content) : Type 0 where
    text : List ℕ
    said : Packet × Part
    same : (number, Media text) ≡ repair
    media : media_in source text ≡ Some said
    wanted : is_wanted newest dead number ≡ true

  rebuilt-says : (packets : Packets) (base : ℕ) (p : Payload) (i : ℕ) (repair : ℕ × Content) →
      rebuilt_under source newest dead packets base p i ≡ Some repair → RebuiltSays (base + i) repair
  rebuilt-says packets base p i repair is =
      let wanted = guard (is_wanted newest dead (base + i)) rebuild repair is in
      let others = chained (texts_at packets base (others_of i (protected p))) finish repair wanted.1 in
      let text = chained (result_ok (rebuilt p others.0 i source.ssrc)) (media_under source (base + i)) repair others.2 in
      let said = chained (media_in source text.0) (λ x. Some (base + i, Media text.0)) repair text.2 in
      record {
        text = text.0;
        said = said.0;
        same = same_Some (base + i, Media text.0) repair said.2;
        media = said.1;
        wanted = wanted.0;
      } where
        finish : List (ℕ × List ℕ) → Option (ℕ × Content)
        finish others = result_ok (rebuilt p others i source.ssrc) >>= media_under source (base + i)

        rebuild : Option (ℕ × Content)
        rebuild = texts_at packets base (others_of i (protected p)) >>= finish

  step-of-fills : (packets : Packets) (base : ℕ) (p : Payload) (repair : ℕ × Content) →
      step_of source newest dead packets base p ≡ Some repair → Fills packets repair
  step-of-fills packets base p repair is =
      let one = chained (only_one (missing_of packets base (protected p)))
      (rebuilt_under source newest dead packets base p) repair is in
      let i : ℕ = one.0 in
      let s : RebuiltSays (base + i) repair = rebuilt-says packets base p i repair one.2 in
      let number : base + i ≡ repair.0 = ap (λ e. e.0) s.same in
      let missing : is_available (base + i) packets ≡ false = not-true (is_available (base + i) packets)
      (passes (λ k. not (is_available (base + k) packets)) (protected p) i
      (only-one (missing_of packets base (protected p)) i one.1)) in
      let wanted = and_parts (is_inside newest (base + i)) (not (is_dead (base + i) dead)) s.wanted in
      record {
        text = s.text;
        said = s.said;
        content_is = sym (ap (λ e. e.1) s.same);
        media = s.media;
        missing = ap (λ n. at n packets) (sym number) ∙ none-of (at (base + i) packets) missing;
        inside = ap (is_inside newest) (sym number) ∙ wanted.0;
        alive = ap (λ n. is_dead n dead) (sym number) ∙ not-true (is_dead (base + i) dead) wanted.1;
      }

  -- a step fills a gap
  pub step-fills : (packets : Packets) (m : ℕ) (repair : ℕ × Content) →
      step source newest dead packets m ≡ Some repair → Fills packets repair
  step-fills packets m repair is =
      let fec = chained (fec_at packets m) (λ p. step_of source newest dead packets (base_of m p) p) repair is in
      step-of-fills packets (base_of m fec.0) fec.0 repair fec.2

  -- the first step is some number's
  first-some : (f : ℕ → Option (ℕ × Content)) (ns : List ℕ) (repair : ℕ × Content) → first_of f ns ≡ Some repair →
      (m : ℕ) × (f m ≡ Some repair)
  first-some f [] repair is = absurd (none-some repair is)
  first-some f (n ∷ ns) repair is = by_value (f n) refl is (first-some f ns repair) where
    by_value : (o : Option (ℕ × Content)) → f n ≡ o → option_or o (first_of f ns) ≡ Some repair
        → (first_of f ns ≡ Some repair → (m : ℕ) × (f m ≡ Some repair)) → (m : ℕ) × (f m ≡ Some repair)
    by_value None none same rest = rest same
    by_value (Some x) some same rest = (n, some ∙ same)

  -- the repairs fill gaps
  pub repairs-fill : (more : ℕ) (packets : Packets) → FillAll packets (repairs source newest dead more packets)
  repairs-fill zero packets = tt
  repairs-fill (suc more) packets =
      by_value (first_step source newest dead packets) refl
      (λ repair. repairs-fill more (with_repair repair packets)) where
        by_value : (o : Option (ℕ × Content)) → first_step source newest dead packets ≡ o →
            ((repair : ℕ × Content) → FillAll (with_repair repair packets)
            (repairs source newest dead more (with_repair repair packets))) → FillAll packets
            (option_map_or (λ repair. repair ∷ repairs source newest dead more (with_repair repair packets)) o [])
        by_value None is further = tt
        by_value (Some repair) is further =
            let m = first-some (step source newest dead packets) (map (λ entry. entry.0) packets) repair is in
            (step-fills packets m.0 repair m.1, further repair)

  -- what stands under a number stays
  pub fill-stays : (packets : Packets) (made : List (ℕ × Content)) → FillAll packets made → (n : ℕ) (content : Content) →
      at n packets ≡ Some content → at n (with_repairs made packets) ≡ Some content
  fill-stays packets [] fill n content there = there
  fill-stays packets (repair ∷ more) fill n content there =
      fill-stays (with_repair repair packets) more fill.1 n content
      (at_put-other n repair.0 repair.1 packets
      (λ same. none-some content (sym (fill.0).missing ∙ ap (λ k. at k packets) (sym same) ∙ there)) ∙ there)

  -- a repair is there in the end
  pub fill-here : (packets : Packets) (made : List (ℕ × Content)) → FillAll packets made → (repair : ℕ × Content) →
      Contains made repair → at repair.0 (with_repairs made packets) ≡ Some repair.1
  fill-here packets [] fill repair among = absurd (Contains-empty repair among)
  fill-here packets (first ∷ more) fill repair among = elim (Contains-either first more repair among) [
    | inl same ↦ fill-stays (with_repair first packets) more fill.1 repair.0 repair.1
        (subst (λ r. at r.0 (with_repair first packets) ≡ Some r.1) same (at_put-here first.0 first.1 packets))
    | inr later ↦ fill-here (with_repair first packets) more fill.1 repair later
  ]

  -- nothing stood under a number at first, if nothing does once one was filled
  none-before : (packets : Packets) (first : ℕ × Content) (n : ℕ) → Fills packets first →
      at n (with_repair first packets) ≡ None → at n packets ≡ None
  none-before packets first n fills none = elim (cases_eq n first.0) [
    | inl same ↦ absurd (none-some first.1 (sym none ∙ ap (λ k. at k (with_repair first packets)) same
        ∙ at_put-here first.0 first.1 packets))
    | inr apart ↦ sym (at_put-other n first.0 first.1 packets apart) ∙ none
  ]

  -- each repair fills a gap of the packets as they were at first
  pub fill-each : (packets : Packets) (made : List (ℕ × Content)) → FillAll packets made → (repair : ℕ × Content) →
      Contains made repair → Fills packets repair
  fill-each packets [] fill repair among = absurd (Contains-empty repair among)
  fill-each packets (first ∷ more) fill repair among = elim (Contains-either first more repair among) [
    | inl same ↦ subst (Fills packets) same fill.0
    | inr later ↦
        let f : Fills (with_repair first packets) repair =
        fill-each (with_repair first packets) more fill.1 repair later in
        record {
          text = f.text;
          said = f.said;
          content_is = f.content_is;
          media = f.media;
          missing = none-before packets first repair.0 fill.0 f.missing;
          inside = f.inside;
          alive = f.alive;
        }
  ]

  -- what is there in the end was there at first, or was filled in
  pub fill-from : (packets : Packets) (made : List (ℕ × Content)) → FillAll packets made → (n : ℕ) (content : Content) →
      at n (with_repairs made packets) ≡ Some content → (at n packets ≡ Some content) ⊎ Contains made (n, content)
  fill-from packets [] fill n content there = inl there
  fill-from packets (first ∷ more) fill n content there =
      elim (fill-from (with_repair first packets) more fill.1 n content there) [
        | inl was ↦ elim (cases_eq n first.0) [
          | inl same ↦ inr (subst (λ r. Contains (first ∷ more) r)
              (here same (same_Some first.1 content (sym (at_put-here first.0 first.1 packets)
              ∙ ap (λ k. at k (with_repair first packets)) (sym same) ∙ was))) (Contains-first first more))
          | inr apart ↦ inl (sym (at_put-other n first.0 first.1 packets apart) ∙ was)
        ]
        | inr later ↦ inr (Contains-later first more (n, content) later)
      ] where
        here : n ≡ first.0 → first.1 ≡ content → first ≡ (n, content)
        here number same = λ i. (sym number i, same i)

  -- and the numbers rise
  pub fill-rises : (made : List (ℕ × Content)) (packets : Packets) → is_sorted nat_cmp packets ≡ true →
      is_sorted nat_cmp (with_repairs made packets) ≡ true
  fill-rises [] packets rises = rises
  fill-rises (repair ∷ more) packets rises =
      fill-rises more (with_repair repair packets) (sorted_put repair.0 repair.1 packets rises)
