-- What a receiver takes and keeps in an honest call, said in the sender's terms.
use Rattle.std.proofs.Common.{◌≡◌, ℕ, ◌+◌, ◌<◌, ◌≤◌, ◌↔◌, ◌⊎◌, max, true, false, Bool, List, [], ◌∷◌, slice_get, Contains, Option, Some, None, IsSomeAnd, is_some, is_ok, Result, Ok, Err, refl, sym, ◌∙◌, ap, subst, arith, inl, inr}
use Rattle.std.proofs.lemmas.Bool.{both_ways, false_from_ne_true, lt-leb, true≢false}
use Rattle.vrx_num.specs.Extended.{Extends, GivesMeant, extended_number}
use Rattle.vrx_num.specs.Pictures.{GivesPicture}
use Rattle.vrx_num.specs.declared.limits.TheConstants.{WINDOW, HALF_SPACE}
use Rattle.vrx_codec.specs.Meaning.{Meaning}
use Rattle.vrx_window.specs.Content.{Content}
use Rattle.vrx_window.specs.Window.{Contents, at, is_available, is_too_old, newest_with, would_of}
use Rattle.vrx_window.specs.declared.placing.Placing.TheVariants as placings
use Rattle.vrx_frames.specs.Run.{Packets}
use Rattle.vrx_repair.specs.Laws.{RepairsAre}
use Rattle.vrx_repair.specs.Order.{AnyOrder}
use Rattle.vrx_repair.specs.Truth.{TrueRepairs}
use Rattle.vrx_core.specs.machine.SettingsFault.{fault_of}
use Rattle.vrx_core.specs.machine.Verdict.{verdict}
use Rattle.vrx_core.specs.machine.GivenUp.{is_lost}
use Rattle.vrx_core.specs.machine.Machine.{latest, next_run, what_of, what_in, answer_taken, snapshots, reply}
use Rattle.vrx_core.specs.honest.Sender.{SentPacket, Sender, wire_of}
use Rattle.vrx_core.specs.honest.Layers.{LayersAreRight}
use Rattle.vrx_core.specs.honest.WireForm.{content_sent}
use Rattle.vrx_core.specs.honest.HonestSender.{HonestSender}
use Rattle.vrx_core.specs.honest.HonestNetwork.{Origin, FromSender, Elsewhere, IsNear, IsDelivery, HonestNetwork, PicturesAreNear, greatest, packets_taken}
use Rattle.vrx_core.specs.honest.HonestTaken.{IsInReach, IsNewestOf, IsRepaired, IsToTake, KeepsRightly, TakesPacket, IsTakenRightly, TakesRightly, HonestTakenHolds}
use Rattle.vrx_core.specs.honest.Ready.{IsNumber}
use Rattle.vrx_core.specs.declared.settings.Settings.{Settings}
use Rattle.vrx_core.specs.declared.event.Event.{Event}
use Rattle.vrx_core.specs.declared.event.Event.TheVariants.{Datagram, Tick, Pull}
use Rattle.vrx_core.specs.declared.original.NotTaken.{NotTaken}
use Rattle.vrx_core.proofs.machine.MemberLemmas.{Contains-empty}
use Rattle.vrx_core.proofs.machine.PacketLemmas.{open-newest}
use Rattle.vrx_core.proofs.machine.VerdictLemmas.{IsFresh, fresh-is, fresh-from}
use Rattle.vrx_core.proofs.honest.LostLemmas.{Matches, matches}
use Rattle.vrx_core.proofs.honest.BroughtLemmas.{verdict_taken, verdict_take}
use Rattle.vrx_core.proofs.honest.NumberLemmas.{taken-number, wire_below, is_number-extends}
use Rattle.vrx_core.proofs.honest.PartLemmas.{some_from}
use Rattle.vrx_core.proofs.honest.KeptLemmas.{AreKept, kept-there}
use Rattle.vrx_core.proofs.honest.KeepsLemmas.{Came, Keeps, greatest-upto, near-number, number-near, one-number, one-place}
use Rattle.vrx_core.proofs.honest.OrderLemmas.{any-order}
use Rattle.vrx_core.proofs.honest.PlaceLemmas.{tells-rightly}
use Rattle.vrx_core.proofs.honest.WireLemmas.{FormLaws, Brings, brings}
use Rattle.vrx_core.proofs.honest.TookLemmas.{Took, opening-took, brought-took, aside-took, tick-took, pull-took}

-- a list of which nothing is available
nothing_there : (sender : Sender) (rep : ℕ → Type 0) (packets : Packets) (n : ℕ) → Keeps sender [] rep packets →
    is_available n packets ≡ false
nothing_there sender rep packets n keeps =
    false_from_ne_true (is_available n packets) (λ h. (keeps.from n h).2)

-- an Ok has a value
ok_value : (r : Result (ℕ × Content) NotTaken) → is_ok r ≡ true → (x : ℕ × Content) × (r ≡ Ok x)
ok_value (Ok x) h = (x, refl)
ok_value (Err reason) h = absurd (cc)

-- packet i was taken or repaired, if these packets were taken and these numbers repaired
abbrev CameIn : Sender → (ℕ → Type 0) → ℕ → List ℕ → Type 0
CameIn sender rep i js = Contains js i ⊎ ((n : ℕ) × IsNumber sender js i n × rep n)

-- by its number
came-in : (sender : Sender) (rep : ℕ → Type 0) (i n : ℕ) (js : List ℕ) → IsNumber sender js i n → Came js rep i n →
    CameIn sender rep i js
came-in sender rep i n js is came = elim came [ inl taken ↦ inl taken | inr repaired ↦ inr (n, is, repaired) ]

-- and back
came-at : (sender : Sender) (rep : ℕ → Type 0) (i n : ℕ) (js : List ℕ) → IsNumber sender js i n →
    CameIn sender rep i js → Came js rep i n
came-at sender rep i n js is came = elim came [
  | inl taken ↦ inl taken
  | inr repaired ↦ inr (subst rep (one-number sender js i repaired.0 n repaired.1 is) repaired.2)
]

-- before the first packet was taken none came
none-came : (sender : Sender) (rep : ℕ → Type 0) (i : ℕ) → CameIn sender rep i [] → ⊥
none-came sender rep i came = elim came [ inl taken ↦ Contains-empty i taken | inr repaired ↦ repaired.1 ]

-- packet i is one to take, after these packets were taken and these numbers repaired, and after these were given up
record ToTake (sender : Sender) (rep : ℕ → Type 0) (lost : ℕ → Bool) (i : ℕ) (js : List ℕ) : Type 0 where
  in_reach : IsInReach i js
  not_come : CameIn sender rep i js → ⊥
  not_lost : (n : ℕ) → IsNumber sender js i n → lost n ≡ false

module _ (meant : GivesMeant) (settings : Settings) (codec : Meaning) (sender : Sender) (window : Contents Content)
    (rep : ℕ → Type 0) (lost : ℕ → Bool) (match : Matches window lost) (i : ℕ) (octets : List ℕ)
    (b : Brings settings codec sender i octets) where
  -- the verdict on it
  abbrev v : Result (ℕ × Content) NotTaken
  v = verdict settings codec window octets

  -- if it is taken, it is as this number, and as what it brings
  taken_is : (n : ℕ) (content : Content) → v ≡ Ok (n, content) →
      (extended_number window.newest (wire_of sender i) ≡ Some n) × (content ≡ content_sent b.packet)
      × (would_of window n ≡ placings.Fresh)
  taken_is n content is = verdict_taken settings codec window octets
      (record { wire = wire_of sender i; content = content_sent b.packet }) n content b.is is

  -- a number that is neither too old nor given up nor available is taken
  take_is : (n : ℕ) → extended_number window.newest (wire_of sender i) ≡ Some n → is_too_old window.newest n ≡ false →
      lost n ≡ false → is_available n window.packets ≡ false → is_ok v ≡ true
  take_is n number old alive again =
      ap is_ok (verdict_take settings codec window octets
      (record { wire = wire_of sender i; content = content_sent b.packet }) n b.is number
      (fresh-from window n (record { young = old; alive = match.dead n old ∙ alive; free = again })))

  -- the answer to a sender's datagram that is near those taken, if it is taken, is what it brings under its packet's
  -- number
  brought-answer : (js : List ℕ) → IsNewestOf sender js window.newest → IsNear i js → is_ok v ≡ true →
      (n : ℕ) × IsNumber sender (i ∷ js) i n × (what_of v ≡ answer_taken n (content_sent b.packet))
  brought-answer js newest near h =
      let x : (x : ℕ × Content) × (v ≡ Ok x) = ok_value v h in
      let took : (extended_number window.newest (wire_of sender i) ≡ Some x.0.0) × (x.0.1 ≡ content_sent b.packet)
      × (would_of window x.0.0 ≡ placings.Fresh) = taken_is x.0.0 x.0.1 x.1 in (
        x.0.0,
        taken-number meant sender js window.newest i x.0.0 newest near took.0,
        ap what_of x.1
            ∙ ap (answer_taken x.0.0) took.1,
      )

  -- the first packet is taken
  first-packets_taken : Keeps sender [] rep window.packets → window.newest ≡ None → is_ok v ≡ true
  first-packets_taken keeps none =
      let n : ℕ = wire_of sender i + 65536 in
      take_is n (ap (λ (o : Option ℕ). extended_number o (wire_of sender i)) none)
      (ap (λ (o : Option ℕ). is_too_old o n) none) (match.none none n) (nothing_there sender rep window.packets n keeps)

  module _ (j : ℕ) (js : List ℕ) (m : ℕ) (newest : window.newest ≡ Some m) (from : 65536 ≤ m)
      (number : IsNumber sender (j ∷ js) (greatest (j ∷ js)) m) (keeps : Keeps sender (j ∷ js) rep window.packets)
      (near : IsNear i (j ∷ js)) where
    -- its number beside the newest
    later-number : extended_number window.newest (wire_of sender i) ≡ extended_number (Some m) (wire_of sender i)
    later-number = ap (λ (o : Option ℕ). extended_number o (wire_of sender i)) newest

    -- a later packet that is one to take is taken
    later-packets_taken : ToTake sender rep lost i (j ∷ js) → is_ok v ≡ true
    later-packets_taken to_take =
        let e : (n : ℕ) × IsNumber sender (j ∷ js) i n × Extends m (wire_of sender i) n =
        is_number-extends sender j js m i from number to_take.in_reach.0 to_take.in_reach.1 in
        let given : extended_number window.newest (wire_of sender i) ≡ Some e.0 =
        later-number ∙ (meant m (wire_of sender i) e.0 (omega arith) (wire_below sender i)).1 e.2 in
        let less : m < e.0 + WINDOW =
        near-number sender (j ∷ js) i (greatest (j ∷ js)) e.0 m WINDOW e.1 number to_take.in_reach.1 in
        let old : is_too_old window.newest e.0 ≡ false =
        ap (λ (o : Option ℕ). is_too_old o e.0) newest ∙ lt-leb (e.0 + WINDOW) m less in
        let again : is_available e.0 window.packets ≡ false =
        false_from_ne_true _ (λ h.
        to_take.not_come (came-in sender rep i e.0 (j ∷ js) e.1 (subst (λ (x : ℕ). Came (j ∷ js) rep x e.0)
        (one-place sender (j ∷ js) (keeps.from e.0 h).0 i e.0 (keeps.from e.0 h).2 e.1) (keeps.from e.0 h).1))) in
        take_is e.0 given old (to_take.not_lost e.0 e.1) again

    -- a later packet that is taken is one to take
    later-to_take : is_ok v ≡ true → ToTake sender rep lost i (j ∷ js)
    later-to_take h =
        let x : (x : ℕ × Content) × (v ≡ Ok x) = ok_value v h in
        let n : ℕ = x.0.0 in
        let took : (extended_number window.newest (wire_of sender i) ≡ Some n) × (x.0.1 ≡ content_sent b.packet)
        × (would_of window n ≡ placings.Fresh) = taken_is n x.0.1 x.1 in
        let e : Extends m (wire_of sender i) n =
        (meant m (wire_of sender i) n (omega arith) (wire_below sender i)).0 (sym later-number ∙ took.0) in
        let here : IsNumber sender (j ∷ js) i n =
        taken-number meant sender (j ∷ js) window.newest i n (m, newest, from, number) near took.0 in
        let opened : IsFresh window n = fresh-is window n took.2 in
        let less : newest_with window.newest n < n + WINDOW = open-newest window.newest n opened.young in
        let with_m : newest_with window.newest n ≡ max m n = ap (λ (o : Option ℕ). newest_with o n) newest in
        let less_m : m < n + WINDOW = omega arith in
        let close : greatest (j ∷ js) < i + WINDOW =
        number-near sender (j ∷ js) i (greatest (j ∷ js)) n m WINDOW here number less_m in
        let alive : lost n ≡ false = sym (match.dead n opened.young) ∙ opened.alive in
        record {
          in_reach =
              (number-near sender (j ∷ js) (greatest (j ∷ js)) i m n HALF_SPACE number here e.not_far_ahead, close);
          not_come = λ c. both_ways (is_available n window.packets) opened.free
              (keeps.all i n (came-at sender rep i n (j ∷ js) here c) here close);
          not_lost = λ k is. ap lost (one-number sender (j ∷ js) i k n is here) ∙ alive;
        }

  -- a sender's datagram that is near those taken is taken exactly if its packet is one to take
  rightly-packets_taken : (js : List ℕ) → IsNewestOf sender js window.newest → Keeps sender js rep window.packets →
      IsNear i js → (is_ok v ≡ true) ↔ ToTake sender rep lost i js
  rightly-packets_taken [] newest keeps near = (
    λ _. record { in_reach = tt; not_come = none-came sender rep i; not_lost = λ n is. absurd is },
    λ _.
        first-packets_taken keeps newest,
  )
  rightly-packets_taken (j ∷ js) newest keeps near = (
    later-to_take j js newest.0 newest.1 newest.2 newest.3 keeps near,
    later-packets_taken j js newest.0 newest.1 newest.2 newest.3 keeps near,
  )

-- a number available is that of a packet to keep
available_keeps : (sender : Sender) (rep : ℕ → Type 0) (js : List ℕ) (packets : Packets) (i n : ℕ) →
    Keeps sender js rep packets → IsNumber sender js i n → is_available n packets ≡ true →
    CameIn sender rep i js × (greatest js < i + WINDOW)
available_keeps sender rep js packets i n keeps is h =
    let p : (k : ℕ) × Came js rep k n × IsNumber sender js k n × (greatest js < k + WINDOW) = keeps.from n h in
    subst (λ (x : ℕ). CameIn sender rep x js × (greatest js < x + WINDOW)) (one-place sender js p.0 i n p.2 is)
    (came-in sender rep p.0 n js p.2 p.1, p.3)

-- a packet to keep has a number, which is available
keeps_available : (sender : Sender) (rep : ℕ → Type 0) (js : List ℕ) (newest : Option ℕ) (packets : Packets) (i : ℕ) →
    IsNewestOf sender js newest → Keeps sender js rep packets → CameIn sender rep i js → greatest js < i + WINDOW →
    (n : ℕ) × IsNumber sender js i n × (is_available n packets ≡ true)
keeps_available sender rep [] newest packets i is keeps came near = absurd (none-came sender rep i came)
keeps_available sender rep (j ∷ js) newest packets i is keeps came near =
    let upto : i ≤ greatest (j ∷ js) = elim came [
      | inl taken ↦ greatest-upto (j ∷ js) i taken
      | inr repaired ↦
          let p : (k : ℕ) × IsNumber sender (j ∷ js) k repaired.0 × (k ≤ greatest (j ∷ js)) =
          keeps.upto repaired.0 repaired.2 in
          subst (λ (x : ℕ). x ≤ greatest (j ∷ js)) (one-place sender (j ∷ js) p.0 i repaired.0 p.1 repaired.1) p.2
    ] in
    let e : (n : ℕ) × IsNumber sender (j ∷ js) i n × Extends is.0 (wire_of sender i) n =
    is_number-extends sender j js is.0 i is.2 is.3 (omega arith) near in
    (e.0, e.1, keeps.all i e.0 (came-at sender rep i e.0 (j ∷ js) e.1 came) e.1 near)

module _ (settings : Settings) (codec : Meaning) (sender : Sender) (h : List Event) (origins : List Origin) where
  -- the packets now
  abbrev packets_now : Packets
  packets_now = (latest (snapshots settings codec h)).window.packets

  -- a packet that stands at a number makes it available
  there_available : (n : ℕ) (o : Option SentPacket) →
      IsSomeAnd o (λ packet. at n packets_now ≡ Some (content_sent packet)) → is_available n packets_now ≡ true
  there_available n None there = absurd there
  there_available n (Some packet) there = ap is_some there

  -- a packet of an available number stands there with its content
  available_there : (i n : ℕ) → AreKept sender (packets_taken settings codec h origins) packets_now →
      IsNumber sender (packets_taken settings codec h origins) i n → is_available n packets_now ≡ true
      → IsSomeAnd (slice_get sender.packets i) (λ packet. at n packets_now ≡ Some (content_sent packet))
  available_there i n kept is h' =
      let p = kept-there sender (packets_taken settings codec h origins) n packets_now kept h' in
      subst (λ (k : ℕ). IsSomeAnd (slice_get sender.packets k)
      (λ packet. at n packets_now ≡ Some (content_sent packet)))
      (one-place sender (packets_taken settings codec h origins) p.0 i n p.1 is) p.2

  -- the packets available are those to keep, and the newest number and the places told are the sender's
  kept_rightly : LayersAreRight sender.frames →
      Took sender (snapshots settings codec h) (packets_taken settings codec h origins) →
      KeepsRightly settings codec sender h origins
  kept_rightly right t = record {
    kept = λ i. (
      λ k. available_keeps sender (IsRepaired (snapshots settings codec h)) (packets_taken settings codec h origins)
          packets_now i k.0 t.here.keeps k.1 (there_available k.0 (slice_get sender.packets i) k.2),
      λ k. let p = keeps_available sender (IsRepaired (snapshots settings codec h))
          (packets_taken settings codec h origins) (latest (snapshots settings codec h)).window.newest packets_now i
          t.here.newest t.here.keeps k.0 k.1 in
          (p.0, p.1, available_there i p.0 t.here.kept p.1 p.2),
    );
    only = λ n h'. let p = t.here.keeps.from n h' in (
      p.0,
      p.2,
      (
        came-in sender (IsRepaired (snapshots settings codec h)) p.0 n (packets_taken settings codec h origins) p.2 p.1,
        p.3,
      ),
    );
    newest = t.here.newest;
    told = tells-rightly sender right (packets_taken settings codec h origins) (IsRepaired (snapshots settings codec h))
        (latest (snapshots settings codec h)).told t.told;
  }

  -- what is one to take by its numbers is one to take
  is_to_take : (i : ℕ) → ToTake sender (IsRepaired (snapshots settings codec h))
      (is_lost (snapshots settings codec h)) i
      (packets_taken settings codec h origins) → IsToTake settings codec sender h origins i
  is_to_take i to = record {
    in_reach = to.in_reach;
    not_come = to.not_come;
    not_given_up = λ given. true≢false (sym given.2 ∙ to.not_lost given.0 given.1);
  }

  -- and back
  to_take : (i : ℕ) → IsToTake settings codec sender h origins i →
      ToTake sender (IsRepaired (snapshots settings codec h)) (is_lost (snapshots settings codec h)) i
      (packets_taken settings codec h origins)
  to_take i to = record {
    in_reach = to.in_reach;
    not_come = to.not_come;
    not_lost = λ n is. false_from_ne_true (is_lost (snapshots settings codec h) n) (λ l. to.not_given_up (n, is, l));
  }

  module _ (meant : GivesMeant) (picture : GivesPicture) (laws : FormLaws) (truth : TrueRepairs)
      (good : fault_of settings ≡ None)
      (honest : HonestSender settings codec sender)
      (t : Took sender (snapshots settings codec h) (packets_taken settings codec h origins)) where
    -- what was taken after one event more
    pub took_step : (e : Event) (o : Origin) → IsDelivery settings codec sender h origins e o →
        PicturesAreNear settings codec sender (e ∷ h) (o ∷ origins) →
        Took sender (snapshots settings codec (e ∷ h)) (packets_taken settings codec (e ∷ h) (o ∷ origins))
    unfolding snapshots packets_taken
    took_step (Datagram moment octets) (FromSender i) delivery near =
        brought-took sender meant picture truth settings codec honest (snapshots settings codec h)
        (packets_taken settings codec h origins) t moment i octets
        (brings laws settings codec good sender honest i octets delivery.0) delivery.1 near
    took_step (Datagram moment octets) Elsewhere delivery near =
        aside-took sender meant picture truth settings codec honest (snapshots settings codec h)
        (packets_taken settings codec h origins) t moment octets delivery
    took_step (Tick moment) (FromSender i) delivery near = absurd delivery
    took_step (Tick moment) Elsewhere delivery near =
        tick-took sender meant picture truth settings codec honest (snapshots settings codec h)
        (packets_taken settings codec h origins) t moment
    took_step (Pull moment) (FromSender i) delivery near = absurd delivery
    took_step (Pull moment) Elsewhere delivery near =
        pull-took sender meant picture truth settings codec honest (snapshots settings codec h)
        (packets_taken settings codec h origins) t moment (next_run (latest (snapshots settings codec h)))

    module _ (any : AnyOrder) (are : RepairsAre) where
      -- a datagram of the sender is taken and answered rightly
      takes_packet : (moment : ℕ) (octets : List ℕ) (i : ℕ) →
          IsDelivery settings codec sender h origins (Datagram moment octets) (FromSender i) →
          TakesPacket settings codec sender h origins moment octets i
      unfolding reply
      takes_packet moment octets i delivery =
          let window : Contents Content = (latest (snapshots settings codec h)).window in
          let js : List ℕ = packets_taken settings codec h origins in
          let b : Brings settings codec sender i octets =
          brings laws settings codec good sender honest i octets delivery.0 in
          let rep : ℕ → Type 0 = IsRepaired (snapshots settings codec h) in
          let lost : ℕ → Bool = is_lost (snapshots settings codec h) in
          let match : Matches window lost = matches settings codec h in
          let exact : (is_ok (verdict settings codec window octets) ≡ true) ↔ ToTake sender rep lost i js =
          rightly-packets_taken meant settings codec sender window rep lost match i octets b js t.here.newest t.here.keeps
          delivery.1 in
          record {
            exactly = (λ h'. is_to_take i (exact.0 h'), λ to. exact.1 (to_take i to));
            answer = λ h'.
                let p = brought-answer meant settings codec sender window rep lost match i octets b js t.here.newest
                delivery.1 h' in (
                  p.0,
                  p.1,
                  some_from (λ packet.
                      what_in (reply settings codec h (Datagram moment octets)) ≡ Some
                      (answer_taken p.0 (content_sent packet))) (slice_get sender.packets i) b.packet b.sent
                      (ap Some p.2),
                );
            any_order = any-order truth any are settings codec sender honest meant picture h origins t moment octets i b
                delivery.1;
          }

      -- an event takes what is to be taken
      rightly_step : (e : Event) (o : Origin) → IsDelivery settings codec sender h origins e o →
          IsTakenRightly settings codec sender h origins e o
      rightly_step (Datagram moment octets) (FromSender i) delivery = takes_packet moment octets i delivery
      rightly_step (Datagram moment octets) Elsewhere delivery = tt
      rightly_step (Tick moment) o delivery = tt
      rightly_step (Pull moment) o delivery = tt

-- before the first event
pub first_took : (settings : Settings) (codec : Meaning) (sender : Sender) →
    Took sender (snapshots settings codec []) (packets_taken settings codec [] [])
unfolding snapshots packets_taken
first_took settings codec sender = opening-took sender

module _ (meant : GivesMeant) (picture : GivesPicture) (laws : FormLaws) (truth : TrueRepairs) (any : AnyOrder)
    (are : RepairsAre) (settings : Settings)
    (codec : Meaning) (sender : Sender) (good : fault_of settings ≡ None)
    (honest : HonestSender settings codec sender) where
  -- the rest of an honest call takes and keeps rightly
  takes_from : (events : List Event) (h : List Event) (origins later : List Origin) →
      Took sender (snapshots settings codec h) (packets_taken settings codec h origins) →
      HonestNetwork settings codec sender h origins events later →
      TakesRightly settings codec sender h origins events later
  takes_from [] h origins [] t network = kept_rightly settings codec sender h origins honest.layers t
  takes_from [] h origins (o ∷ os) t network = absurd network
  takes_from (e ∷ es) h origins [] t network = absurd network
  takes_from (e ∷ es) h origins (o ∷ os) t network = (
    kept_rightly settings codec sender h origins honest.layers t,
    rightly_step settings codec sender h origins meant picture laws truth good honest t any are e o network.0,
    takes_from es (e ∷ h) (o ∷ origins) os
        (took_step settings codec sender h origins meant picture laws truth good honest t e o network.0 network.1)
        network.2,
  )

-- every honest call takes and keeps rightly
pub honest_taken : GivesMeant → GivesPicture → FormLaws → TrueRepairs → AnyOrder → RepairsAre → HonestTakenHolds
honest_taken meant picture laws truth any are settings codec sender events origins good honest network =
    takes_from meant picture laws truth any are settings codec sender good honest events [] [] origins
    (first_took settings codec sender) network
