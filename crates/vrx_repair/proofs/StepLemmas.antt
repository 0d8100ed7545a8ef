-- What a step says, and what none says.
use Rattle.std.proofs.Common.{◌≡◌, ◌≢◌, ℕ, zero, suc, ◌+◌, ◌%◌, ◌<◌, ◌≤◌, Bool, true, false, cond, not, List, [], ◌∷◌, map, refl, sym, ◌∙◌, ap, arith, inl, inr, nat_cmp}
use Rattle.std.specs.Prelude.{Option, Some, None, is_some}
use Rattle.std.specs.List.{filter}
use Rattle.std.specs.Option.{option_or}
use Rattle.std.specs.Result.{result_ok}
use Rattle.std.specs.FinMap.Entries.{below_all, is_sorted}
use Rattle.std.proofs.lemmas.Bool.{and_parts, cases_eq, cases_Bool, false_from_ne_true, not-true, true≢false}
use Rattle.std.proofs.lemmas.Option.{none-some, same_Some}
use Rattle.vrx_num.specs.OptionChain.{◌>>=◌}
use Rattle.vrx_rtp.specs.Packet.{Packet}
use Rattle.vrx_codec.specs.Part.{Part}
use Rattle.vrx_fec.specs.Mask.{numbers_from}
use Rattle.vrx_fec.specs.Parity.{Texts}
use Rattle.vrx_fec.specs.Payload.{Payload, protected}
use Rattle.vrx_fec.specs.Reading.{reading}
use Rattle.vrx_fec.specs.Rebuilt.{rebuilt}
use Rattle.vrx_window.specs.Content.{Content, Media, Fec, Empty}
use Rattle.vrx_window.specs.Window.{at, is_available, is_dead, is_inside}
use Rattle.vrx_repair.specs.Seen.{is_fec_at}
use Rattle.vrx_repair.specs.Source.{Source, media_in}
use Rattle.vrx_repair.specs.Step.{Packets, base_of, fec_at, first_of, first_step, is_wanted, media_under, missing_of, only_one, others_of, payload_of, rebuilt_under, step, step_of, texts_at}
use Rattle.vrx_repair.proofs.MapLemmas.{at_first, at_later, available_cases, below-available, gone}

-- a chain that gives something
pub chained : {A B : Type 0} (o : Option A) (f : A → Option B) (y : B) → (o >>= f) ≡ Some y →
    (x : A) × (o ≡ Some x) × (f x ≡ Some y)
chained None f y is = absurd (none-some y is)
chained (Some x) f y is = (x, refl, is)

-- a condition under which something is given
guard : {A : Type 0} (b : Bool) (o : Option A) (y : A) → cond b o None ≡ Some y → (b ≡ true) × (o ≡ Some y)
guard true o y is = (refl, is)
guard false o y is = absurd (none-some y is)

-- a list of just one
pub only-one : (xs : List ℕ) (i : ℕ) → only_one xs ≡ Some i → xs ≡ i ∷ []
only-one [] i is = absurd (none-some i is)
only-one (x ∷ []) i is = ap (λ k. k ∷ []) (same_Some x i is)
only-one (x ∷ y ∷ ys) i is = absurd (none-some i is)

-- the one that passes a test passes it
passes : (p : ℕ → Bool) (xs : List ℕ) (i : ℕ) → filter p xs ≡ i ∷ [] → p i ≡ true
passes p [] i is = absurd (none-some 0 (ap first_member is)) where
  first_member : List ℕ → Option ℕ
  first_member [] = None
  first_member (x ∷ xs) = Some 0
passes p (x ∷ xs) i is = by_test (p x) refl is (passes p xs i) where
  head_is : (ys : List ℕ) → x ∷ ys ≡ i ∷ [] → x ≡ i
  head_is ys same = cc

  by_test : (b : Bool) → p x ≡ b → cond b (x ∷ filter p xs) (filter p xs) ≡ i ∷ []
      → (filter p xs ≡ i ∷ [] → p i ≡ true) → p i ≡ true
  by_test true holds same rest = ap p (sym (head_is (filter p xs) same)) ∙ holds
  by_test false fails same rest = rest same

-- the first of numbers that give nothing
none-first : {X : Type 0} (f : ℕ → Option X) (count lo : ℕ) → ((k : ℕ) → lo ≤ k → f k ≡ None) →
    first_of f (numbers_from lo count) ≡ None
none-first f zero lo none = refl
none-first f (suc count) lo none =
    ap (λ o. option_or o (first_of f (numbers_from (lo + 1) count))) (none lo (omega arith))
    ∙ none-first f count (lo + 1) (λ k later. none k (omega arith))

module _ {X : Type 0} (f : ℕ → Option X) where
  -- the first of a map's numbers is the first of all numbers of a stretch that has them, if only they give something
  pub first-range : (count lo : ℕ) (ps : Packets) → is_sorted nat_cmp ps ≡ true
      → ((k : ℕ) → lo ≤ k → at k ps ≡ None → f k ≡ None)
      → ((k : ℕ) → is_available k ps ≡ true → (lo ≤ k) × (k < lo + count))
      → first_of f (map (λ e. e.0) ps) ≡ first_of f (numbers_from lo count)
  first-range count lo [] sorted none inside = sym (none-first f count lo (λ k later. none k later refl))
  first-range zero lo (e ∷ es) sorted none inside =
      let w : (lo ≤ e.0) × (e.0 < lo + 0) = inside e.0 (ap is_some (at_first e es)) in absurd (omega arith)
  first-range (suc c) lo (e ∷ es) sorted none inside =
      elim (cases_eq lo e.0) [
        | inl same ↦
            ap (λ n. option_or (f n) (first_of f (map (λ d. d.0) es))) (sym same)
            ∙ ap (option_or (f lo)) (first-range c (lo + 1) es parts.1
            (λ k after is. none k (omega arith) (at_later k e es (λ equal. omega arith) ∙ is))
            (λ k is. let less : e.0 < k = later k is in
            let v : (lo ≤ k) × (k < lo + suc c) = inside k (among k is) in (omega arith, omega arith)))
        | inr apart ↦
            let nothing : at lo (e ∷ es) ≡ None = gone (at lo (e ∷ es)) (unavailable lo w.0 apart) in
            first-range c (lo + 1) (e ∷ es) sorted
            (λ k after is. none k (omega arith) is)
            (λ k is. let v : (lo ≤ k) × (k < lo + suc c) = inside k is in
            let not_first : k ≢ lo = λ equal. true≢false (sym is ∙ ap (λ n. is_available n (e ∷ es)) equal ∙ ap is_some nothing) in
            (omega arith, omega arith))
            ∙ sym (ap (λ o. option_or o (first_of f (numbers_from (lo + 1) c))) (none lo (omega arith) nothing))
      ] where
        parts : (below_all nat_cmp e.0 es ≡ true) × (is_sorted nat_cmp es ≡ true)
        parts = and_parts (below_all nat_cmp e.0 es) (is_sorted nat_cmp es) sorted

        w : (lo ≤ e.0) × (e.0 < lo + suc c)
        w = inside e.0 (ap is_some (at_first e es))

        later : (k : ℕ) → is_available k es ≡ true → e.0 < k
        later k is = below-available e.0 k es parts.0 is

        among : (k : ℕ) → is_available k es ≡ true → is_available k (e ∷ es) ≡ true
        among k is = let less : e.0 < k = later k is in ap is_some (at_later k e es (λ same. omega arith)) ∙ is

        unavailable : (k : ℕ) → k ≤ e.0 → k ≢ e.0 → is_available k (e ∷ es) ≡ false
        unavailable k upto apart = false_from_ne_true (is_available k (e ∷ es)) (λ is. elim (available_cases k e es is) [
          | inl same ↦ apart same
          | inr there ↦ (let less : e.0 < k = later k there in absurd (omega arith))
        ])

or-none : {X : Type 0} (o p : Option X) → option_or o p ≡ None → (o ≡ None) × (p ≡ None)
or-none None p none = (refl, none)
or-none (Some x) p none = absurd (none-some x (sym none))

-- what is none under all numbers of a map
first-none : {X : Type 0} (f : ℕ → Option X) (ps : Packets) → first_of f (map (λ e. e.0) ps) ≡ None → (k : ℕ) →
    is_available k ps ≡ true → f k ≡ None
first-none f [] none k is = absurd (true≢false (sym is))
first-none f (e ∷ es) none k is =
    let parts = or-none (f e.0) (first_of f (map (λ d. d.0) es)) none in
    elim (available_cases k e es is) [
      | inl same ↦ ap f same ∙ parts.0
      | inr later ↦ first-none f es parts.1 k later
    ]

module _ (source : Source) (newest : Option ℕ) (dead : List ℕ) where
  -- a number under which nothing stands has no step
  pub step-nothing : (ps : Packets) (m : ℕ) → at m ps ≡ None → step source newest dead ps m ≡ None
  step-nothing ps m is =
      ap (λ o. ((o >>= λ content. payload_of content >>= λ payload. result_ok (reading payload (m % 65536)))
      >>= λ p. step_of source newest dead ps (base_of m p) p)) is

  -- nor has one under which no FEC packet stands
  pub step-not-fec : (ps : Packets) (m : ℕ) → is_fec_at ps m ≡ false → step source newest dead ps m ≡ None
  step-not-fec ps m is = by_content (at m ps) is where
    by_content : (o : Option Content) → is_some (o >>= payload_of) ≡ false
        → ((o >>= λ content. payload_of content >>= λ payload. result_ok (reading payload (m % 65536)))
        >>= λ p. step_of source newest dead ps (base_of m p) p) ≡ None
    by_content None h = refl
    by_content (Some (Media text)) h = refl
    by_content (Some (Fec payload)) h = absurd (true≢false h)
    by_content (Some Empty) h = refl

  -- if no number of the map has a step, none has
  pub closed : (ps : Packets) → first_step source newest dead ps ≡ None → (m : ℕ) → step source newest dead ps m ≡ None
  closed ps none m = elim (cases_Bool (is_available m ps)) [
    | inl there ↦ first-none (step source newest dead ps) ps none m there
    | inr away ↦ step-nothing ps m (gone (at m ps) away)
  ]

  -- what a step says: its number isn't available, is in the window and wasn't given up, and what is rebuilt is media
  pub record StepSays (ps : Packets) (r : ℕ × Content) : Type 0 where
    pub text : List ℕ
    pub said : Packet × Part
    pub is : r ≡ (r.0, Media text)
    pub media : media_in source text ≡ Some said
    pub fresh : at r.0 ps ≡ None
    pub inside : is_inside newest r.0 ≡ true
    pub alive : is_dead r.0 dead ≡ false

  -- what is rebuilt under an offset: the number is wanted, and its text is media
  record RebuiltSays (number : ℕ) (r : ℕ × Content) : Type 0 where
    text : List ℕ
    said : Packet × Part
    same : (number, Media text) ≡ r
    media : media_in source text ≡ Some said
    wanted : is_wanted newest dead number ≡ true

  rebuilt-says : (ps : Packets) (base : ℕ) (p : Payload) (i : ℕ) (r : ℕ × Content) →
      rebuilt_under source newest dead ps base p i ≡ Some r → RebuiltSays (base + i) r
  rebuilt-says ps base p i r is =
      let wanted = guard (is_wanted newest dead (base + i)) rebuild r is in
      let others = chained (texts_at ps base (others_of i (protected p))) finish r wanted.1 in
      let text = chained (result_ok (rebuilt p others.0 i source.ssrc)) (media_under source (base + i)) r others.2 in
      let said = chained (media_in source text.0) (under text.0) r text.2 in
      record {
        text = text.0;
        said = said.0;
        same = same_Some (base + i, Media text.0) r said.2;
        media = said.1;
        wanted = wanted.0;
      } where
        under : List ℕ → Packet × Part → Option (ℕ × Content)
        under text said = Some (base + i, Media text)

        finish : Texts → Option (ℕ × Content)
        finish others = result_ok (rebuilt p others i source.ssrc) >>= media_under source (base + i)

        rebuild : Option (ℕ × Content)
        rebuild = texts_at ps base (others_of i (protected p)) >>= finish

  pub under-number : (ps : Packets) (base : ℕ) (p : Payload) (i : ℕ) (r : ℕ × Content) →
      rebuilt_under source newest dead ps base p i ≡ Some r → base + i ≡ r.0
  under-number ps base p i r is = ap (λ e. e.0) (rebuilt-says ps base p i r is).same

  says : (ps : Packets) (base : ℕ) (p : Payload) (r : ℕ × Content) → step_of source newest dead ps base p ≡ Some r →
      StepSays ps r
  says ps base p r is =
      let one = chained (only_one (missing_of ps base (protected p))) (rebuilt_under source newest dead ps base p) r is in
      let i : ℕ = one.0 in
      let s : RebuiltSays (base + i) r = rebuilt-says ps base p i r one.2 in
      let number : base + i ≡ r.0 = ap (λ e. e.0) s.same in
      let missing : is_available (base + i) ps ≡ false = not-true (is_available (base + i) ps)
      (passes (λ k. not (is_available (base + k) ps)) (protected p) i
      (only-one (missing_of ps base (protected p)) i one.1)) in
      let wanted = and_parts (is_inside newest (base + i)) (not (is_dead (base + i) dead)) s.wanted in
      record {
        text = s.text;
        said = s.said;
        is = sym s.same ∙ ap (λ n. (n, Media s.text)) number;
        media = s.media;
        fresh = ap (λ n. at n ps) (sym number) ∙ gone (at (base + i) ps) missing;
        inside = ap (is_inside newest) (sym number) ∙ wanted.0;
        alive = ap (λ n. is_dead n dead) (sym number) ∙ not-true (is_dead (base + i) dead) wanted.1;
      }

  pub step-says : (ps : Packets) (m : ℕ) (r : ℕ × Content) → step source newest dead ps m ≡ Some r → StepSays ps r
  step-says ps m r is =
      let fec = chained (fec_at ps m) (λ p. step_of source newest dead ps (base_of m p) p) r is in
      says ps (base_of m fec.0) fec.0 r fec.2

  -- the first step is some number's
  first-some : (f : ℕ → Option (ℕ × Content)) (ns : List ℕ) (r : ℕ × Content) → first_of f ns ≡ Some r →
      (m : ℕ) × (f m ≡ Some r)
  first-some f [] r is = absurd (none-some r is)
  first-some f (n ∷ ns) r is = by_value (f n) refl is (first-some f ns r) where
    by_value : (o : Option (ℕ × Content)) → f n ≡ o → option_or o (first_of f ns) ≡ Some r
        → (first_of f ns ≡ Some r → (m : ℕ) × (f m ≡ Some r)) → (m : ℕ) × (f m ≡ Some r)
    by_value None none same rest = rest same
    by_value (Some x) some same rest = (n, some ∙ same)

  pub first-says : (ps : Packets) (r : ℕ × Content) → first_step source newest dead ps ≡ Some r → StepSays ps r
  first-says ps r is =
      let m = first-some (step source newest dead ps) (map (λ e. e.0) ps) r is in step-says ps m.0 r m.1
