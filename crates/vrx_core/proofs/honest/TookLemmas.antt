-- What a receiver has taken of an honest sender, after each event of an honest call.
use Rattle.std.proofs.Common.{◌≡◌, ℕ, ◌+◌, ◌<◌, ◌≤◌, true, if◌then◌else◌, List, [], ◌∷◌, slice_get, Contains, Option, Some, None, IsSomeAnd, is_ok, Result, Ok, Err, refl, sym, ◌∙◌, ap, subst, arith, inl, inr}
use Rattle.std.specs.Prelude.{IsErr}
use Rattle.std.specs.List.{AllByRecursion}
use Rattle.std.proofs.lemmas.Option.{same_Some}
use Rattle.vrx_num.specs.Extended.{GivesMeant, extended_number}
use Rattle.vrx_num.specs.Pictures.{GivesPicture}
use Rattle.vrx_num.specs.declared.limits.TheConstants.{WINDOW, HALF_SPACE}
use Rattle.vrx_codec.specs.Meaning.{Meaning}
use Rattle.vrx_window.specs.Content.{Content}
use Rattle.vrx_window.specs.Window.{Contents, after_placing, is_available, is_inside, newest_with, would_of}
use Rattle.vrx_window.specs.declared.placing.Placing.TheVariants as placings
use Rattle.vrx_frames.specs.Run.{Packets, Run}
use Rattle.vrx_repair.specs.Plan.{repairs_in}
use Rattle.vrx_repair.specs.Source.{Source}
use Rattle.vrx_repair.specs.Step.{with_repairs}
use Rattle.vrx_repair.specs.Truth.{TrueRepairs}
use Rattle.vrx_core.specs.machine.Original.{original}
use Rattle.vrx_core.specs.machine.Told.{Told}
use Rattle.vrx_core.specs.machine.Verdict.{verdict}
use Rattle.vrx_core.specs.machine.Machine.{Snapshot, opening, latest, source_in, with_repaired, after_datagram, after_tick, after_pull}
use Rattle.vrx_core.specs.honest.Sender.{SentPacket, Sender, wire_of}
use Rattle.vrx_core.specs.honest.WireForm.{content_sent}
use Rattle.vrx_core.specs.honest.HonestSender.{HonestSender}
use Rattle.vrx_core.specs.honest.HonestNetwork.{AreNearTold, IsNear, greatest}
use Rattle.vrx_core.specs.honest.HonestTaken.{IsNewestOf, IsRepaired}
use Rattle.vrx_core.specs.honest.Ready.{IsNumber}
use Rattle.vrx_core.specs.declared.settings.Settings.{Settings}
use Rattle.vrx_core.specs.declared.original.NotTaken.{NotTaken}
use Rattle.vrx_core.proofs.machine.PacketLemmas.{open-newest}
use Rattle.vrx_core.proofs.machine.AvailableLemmas.{pull_window, window-order}
use Rattle.vrx_core.proofs.machine.MemberLemmas.{Contains-empty}
use Rattle.vrx_core.proofs.machine.RepairLemmas.{Fills}
use Rattle.vrx_core.proofs.machine.RepairedLemmas.{made-each, made-from, made-here, made-stays}
use Rattle.vrx_core.proofs.machine.VerdictLemmas.{fresh-is}
use Rattle.vrx_core.proofs.honest.BroughtLemmas.{verdict_taken, verdict_aside}
use Rattle.vrx_core.proofs.honest.NumberLemmas.{IsNumber-upto, taken-number, taken-newest}
use Rattle.vrx_core.proofs.honest.KeptLemmas.{IsKept, AreKept, kept-among, placed-kept, grown-kept}
use Rattle.vrx_core.proofs.honest.KeepsLemmas.{Came, IsMadeAt, Keeps, made-keeps, near-number, number-near, placed-keeps}
use Rattle.vrx_core.proofs.honest.RightLemmas.{repaired-kept, window-kept}
use Rattle.vrx_core.proofs.honest.TellLemmas.{ToldRightly}
use Rattle.vrx_core.proofs.honest.ToldLemmas.{IsHigh, taken-high, taken-told, told-same}
use Rattle.vrx_core.proofs.honest.WireLemmas.{Brings}

-- the newest number is that of the greatest packet taken
pub newest-number : (sender : Sender) (i : ℕ) (js : List ℕ) (m : ℕ) → IsNewestOf sender (i ∷ js) (Some m) →
    IsNumber sender (i ∷ js) (greatest (i ∷ js)) m
newest-number sender i js m is =
    subst (λ (x : ℕ). IsNumber sender (i ∷ js) (greatest (i ∷ js)) x) (sym (same_Some m is.0 is.1)) is.3

-- a value of which a condition holds
some_at : {A : Type 0} (P : A → Type 0) (o : Option A) (x : A) → o ≡ Some x → P x → IsSomeAnd o P
some_at {A = A} P o x is p = subst (λ (q : Option A). IsSomeAnd q P) (sym is) p

module _ (sender : Sender) where
  -- what was kept at the end of each event is the sender's
  abbrev pub WereKept : List ℕ → List Snapshot → Type 0
  WereKept js past = AllByRecursion (λ t. AreKept sender js t.window.packets) past

  -- the window has the sender's packets, and no others; these numbers were repaired so far
  pub record TookNow (window : Contents Content) (js : List ℕ) (rep : ℕ → Type 0) : Type 0 where
    pub newest : IsNewestOf sender js window.newest
    pub kept : AreKept sender js window.packets
    pub keeps : Keeps sender js rep window.packets

  -- after these packets were taken the window has them, and what was kept at each earlier time is the sender's too;
  -- and the places that packets told are those of their frames
  pub record Took (past : List Snapshot) (js : List ℕ) : Type 0 where
    pub here : TookNow (latest past).window js (IsRepaired past)
    pub were : WereKept js past
    pub told : ToldRightly sender js (IsRepaired past) (latest past).told
    pub high : IsHigh (latest past).told

  -- what was kept stays the sender's when one more packet is taken
  pub were_grown : (i : ℕ) (js : List ℕ) (past : List Snapshot) → WereKept js past → WereKept (i ∷ js) past
  were_grown i js [] were = tt
  were_grown i js (t ∷ past) were = (grown-kept sender js i t.window.packets were.0, were_grown i js past were.1)

  -- before the first event
  pub opening-took : Took (opening ∷ []) []
  opening-took = record {
    here = record {
      newest = refl;
      kept = tt;
      keeps = record {
        from = λ n h. absurd (cc);
        all = λ i n c is near. absurd is;
        upto = λ n repaired. elim repaired [ inl there ↦ absurd (Contains-empty n there) | inr none ↦ absurd none ];
      };
    };
    were = (tt, tt);
    told = record {
      up = 0;
      down = 0;
      each = λ entry there. absurd (Contains-empty entry there);
      all = λ i n f sent came is. absurd is;
    };
    high = tt;
  }

  -- an event that repairs nothing
  quiet-repaired : (past : List Snapshot) (s : Snapshot) (n : ℕ) → s.repaired ≡ [] → IsRepaired (s ∷ past) n →
      IsRepaired past n
  quiet-repaired past s n none repaired = elim repaired [
    | inl there ↦ absurd (Contains-empty n (subst (λ (xs : List ℕ). Contains xs n) none there))
    | inr before ↦ before
  ]

  quiet-keeps : (past : List Snapshot) (s : Snapshot) (js : List ℕ) (packets : Packets) → s.repaired ≡ [] →
      Keeps sender js (IsRepaired past) packets → Keeps sender js (IsRepaired (s ∷ past)) packets
  quiet-keeps past s js packets none keeps = record {
    from = λ n h. let p = keeps.from n h in
        (p.0, elim p.1 [ inl taken ↦ inl taken | inr repaired ↦ inr (inr repaired) ], p.2, p.3);
    all = λ i n came is near. keeps.all i n
        (elim came [ inl taken ↦ inl taken | inr repaired ↦ inr (quiet-repaired past s n none repaired) ]) is near;
    upto = λ n repaired. keeps.upto n (quiet-repaired past s n none repaired);
  }

  quiet-told : (past : List Snapshot) (s : Snapshot) (js : List ℕ) (told : Told) → s.repaired ≡ [] →
      ToldRightly sender js (IsRepaired past) told → ToldRightly sender js (IsRepaired (s ∷ past)) told
  quiet-told past s js told none t =
      told-same sender js (IsRepaired past) (IsRepaired (s ∷ past)) told (λ n repaired. inr repaired)
      (λ n repaired. quiet-repaired past s n none repaired) t

  -- an event that leaves the window and the places told
  pub still-took : (past : List Snapshot) (js : List ℕ) (s : Snapshot) → s.window ≡ (latest past).window →
      s.told ≡ (latest past).told → s.repaired ≡ [] → Took past js → Took (s ∷ past) js
  still-took past js s same same_told none t =
      let now : TookNow s.window js (IsRepaired past) =
      subst (λ (w : Contents Content). TookNow w js (IsRepaired past)) (sym same) t.here in
      record {
        here = record {
          newest = now.newest;
          kept = now.kept;
          keeps = quiet-keeps past s js s.window.packets none now.keeps;
        };
        were = (now.kept, t.were);
        told = quiet-told past s js s.told none
            (subst (ToldRightly sender js (IsRepaired past)) (sym same_told) t.told);
        high = subst IsHigh (sym same_told) t.high;
      }

  -- a pull tells no place
  pull_told : (codec : Meaning) (past : List Snapshot) (moment : ℕ) (o : Option Run) →
      (after_pull codec past moment o).told ≡ (latest past).told
  pull_told codec past moment None = refl
  pull_told codec past moment (Some run) = refl

  -- and repairs nothing
  pull_repaired : (codec : Meaning) (past : List Snapshot) (moment : ℕ) (o : Option Run) →
      (after_pull codec past moment o).repaired ≡ []
  pull_repaired codec past moment None = refl
  pull_repaired codec past moment (Some run) = refl

  -- available numbers aren't less than half of the space
  pub far-from : (i : ℕ) (js : List ℕ) (rep : ℕ → Type 0) (newest : Option ℕ) (packets : Packets) →
      IsNewestOf sender (i ∷ js) newest → Keeps sender (i ∷ js) rep packets → (n : ℕ) →
      is_available n packets ≡ true → HALF_SPACE ≤ n
  far-from i js rep newest packets is keeps n h =
      let p : (k : ℕ) × Came (i ∷ js) rep k n × IsNumber sender (i ∷ js) k n × (greatest (i ∷ js) < k + WINDOW) =
      keeps.from n h in
      let near : is.0 < n + WINDOW =
      near-number sender (i ∷ js) p.0 (greatest (i ∷ js)) n is.0 WINDOW p.2 is.3 p.3 in
      omega (arith, near, is.2)

  module _ (meant : GivesMeant) (picture : GivesPicture) (truth : TrueRepairs) (settings : Settings) (codec : Meaning)
      (honest : HonestSender settings codec sender) (past : List Snapshot) (js : List ℕ)
      (t : Took past js) (moment : ℕ) where
    -- the source whose packets are repaired
    abbrev source : Source
    source = source_in settings codec

    -- octets that aren't taken, whatever came before
    pub aside-took : (octets : List ℕ) → IsErr (original settings codec octets) →
        Took (after_datagram source past moment (verdict settings codec (latest past).window octets) ∷ past) js
    aside-took octets aside =
        let v : (left : NotTaken) × (verdict settings codec (latest past).window octets ≡ Err left) =
        verdict_aside settings codec (latest past).window octets aside in
        subst (λ (r : Result (ℕ × Content) NotTaken). Took (after_datagram source past moment r ∷ past) js) (sym v.1)
        (still-took past js (after_datagram source past moment (Err v.0)) refl refl refl t)

    -- the entry of a sender's packet that is taken
    taken-kept : (i n : ℕ) (packet : SentPacket) (content : Content) → slice_get sender.packets i ≡ Some packet →
        content ≡ content_sent packet → IsNumber sender (i ∷ js) i n → IsKept sender (i ∷ js) (n, content)
    taken-kept i n packet content there same numbered = record {
      place = i;
      carried = some_at (λ p. content ≡ content_sent p) (slice_get sender.packets i) packet there same;
      numbered = numbered;
    }

    -- a repair is that of a packet in the window, not above the greatest
    made-at : (i m : ℕ) (placed : Contents Content) → AreKept sender (i ∷ js) (repairs_in source placed) →
        IsNumber sender (i ∷ js) (greatest (i ∷ js)) m → placed.newest ≡ Some m → (repair : ℕ × Content) →
        Contains (repairs_in source placed) repair → IsMadeAt sender (i ∷ js) repair
    made-at i m placed kept newest is repair among =
        let fills : Fills source placed.newest placed.dead placed.packets repair =
        made-each source placed repair among in
        let k : IsKept sender (i ∷ js) repair =
        kept-among sender (i ∷ js) (repairs_in source placed) repair kept among in
        let order : (m < repair.0 + WINDOW) × (repair.0 ≤ m) = window-order m repair.0
        (ap (λ (o : Option ℕ). is_inside o repair.0) (sym is) ∙ fills.inside) in
        record {
          place = k.place;
          numbered = k.numbered;
          upto = IsNumber-upto sender (i ∷ js) k.place (greatest (i ∷ js)) repair.0 m k.numbered newest order.1;
          near = number-near sender (i ∷ js) k.place (greatest (i ∷ js)) repair.0 m WINDOW k.numbered newest order.0;
        }

    -- the window in which a sender's packet is placed that is near those taken
    pub placed-now : (i : ℕ) (octets : List ℕ) → Brings settings codec sender i octets → IsNear i js →
        (n : ℕ) (content : Content) → verdict settings codec (latest past).window octets ≡ Ok (n, content) →
        TookNow (after_placing n content (latest past).window) (i ∷ js) (IsRepaired past)
    placed-now i octets b near n content is =
        let window : Contents Content = (latest past).window in
        let took : (extended_number window.newest (wire_of sender i) ≡ Some n) × (content ≡ content_sent b.packet)
        × (would_of window n ≡ placings.Fresh) =
        verdict_taken settings codec window octets
        (record { wire = wire_of sender i; content = content_sent b.packet }) n content b.is is in
        let numbered : IsNumber sender (i ∷ js) i n =
        taken-number meant sender js window.newest i n t.here.newest near took.0 in
        let fresh : IsNewestOf sender (i ∷ js) (Some (newest_with window.newest n)) =
        taken-newest meant sender js window.newest i n t.here.newest near took.0 in
        record {
          newest = fresh;
          kept = placed-kept sender (i ∷ js) (newest_with window.newest n) n content window.packets
              (taken-kept i n b.packet content b.sent took.1 numbered)
              (grown-kept sender js i window.packets t.here.kept);
          keeps = placed-keeps sender js (IsRepaired past) window.packets t.here.keeps i (newest_with window.newest n) n
              content numbered (newest-number sender i js (newest_with window.newest n) fresh)
              (open-newest window.newest n (fresh-is window n took.2).young);
        }

    -- a sender's datagram that is near those taken, whatever the verdict
    content_sent_verdict : (i : ℕ) (octets : List ℕ) → Brings settings codec sender i octets → IsNear i js →
        (r : Result (ℕ × Content) NotTaken) → verdict settings codec (latest past).window octets ≡ r →
        AreNearTold sender (if is_ok r then i ∷ js else js) (after_datagram source past moment r).told →
        Took (after_datagram source past moment r ∷ past) (if is_ok r then i ∷ js else js)
    content_sent_verdict i octets b near (Err left) is near_told =
        still-took past js (after_datagram source past moment (Err left)) refl refl refl t
    content_sent_verdict i octets b near (Ok (n, content)) is near_told =
        let window : Contents Content = (latest past).window in
        let took : (extended_number window.newest (wire_of sender i) ≡ Some n) × (content ≡ content_sent b.packet)
        × (would_of window n ≡ placings.Fresh) =
        verdict_taken settings codec window octets
        (record { wire = wire_of sender i; content = content_sent b.packet }) n content b.is is in
        let numbered : IsNumber sender (i ∷ js) i n =
        taken-number meant sender js window.newest i n t.here.newest near took.0 in
        let entry : IsKept sender (i ∷ js) (n, content) =
        taken-kept i n b.packet content b.sent took.1 numbered in
        let placed : Contents Content = after_placing n content window in
        let now : TookNow placed (i ∷ js) (IsRepaired past) = placed-now i octets b near n content is in
        let made : List (ℕ × Content) = repairs_in source placed in
        let made_kept : AreKept sender (i ∷ js) made =
        window-kept settings codec sender honest (i ∷ js) truth placed
        (far-from i js (IsRepaired past) placed.newest placed.packets now.newest now.keeps) now.kept in
        let was_upto : (m : ℕ) → IsRepaired past m → (k : ℕ) × IsNumber sender js k m =
        λ m repaired. let u = t.here.keeps.upto m repaired in (u.0, u.1) in
        let kept : AreKept sender (i ∷ js) (with_repairs made placed.packets) =
        repaired-kept sender (i ∷ js) made placed.packets made_kept now.kept in
        record {
          here = record {
            newest = now.newest;
            kept = kept;
            keeps = made-keeps sender (i ∷ js) (IsRepaired past) placed.packets
                (with_repaired made placed).packets now.keeps made (made-from source placed)
                (made-stays source placed) (made-here source placed)
                (made-at i (newest_with window.newest n) placed made_kept
                (newest-number sender i js (newest_with window.newest n) now.newest) refl);
          };
          were = (kept, were_grown i js past t.were);
          told = taken-told settings codec sender honest picture i js (IsRepaired past) n content made numbered
              was_upto (entry, made_kept) (latest past).told near_told t.told t.high;
          high = taken-high settings codec sender honest picture i js (IsRepaired past) n content made numbered
              was_upto (entry, made_kept) (latest past).told near_told t.told t.high;
        }

    -- a sender's datagram that is near those taken
    pub brought-took : (i : ℕ) (octets : List ℕ) → Brings settings codec sender i octets → IsNear i js →
        AreNearTold sender (if is_ok (verdict settings codec (latest past).window octets) then i ∷ js else js)
        (after_datagram source past moment (verdict settings codec (latest past).window octets)).told →
        Took (after_datagram source past moment (verdict settings codec (latest past).window octets) ∷ past)
        (if is_ok (verdict settings codec (latest past).window octets) then i ∷ js else js)
    brought-took i octets b near near_told =
        content_sent_verdict i octets b near (verdict settings codec (latest past).window octets) refl near_told

    -- a tick
    pub tick-took : Took (after_tick settings past moment ∷ past) js
    tick-took = record {
      here = record {
        newest = t.here.newest;
        kept = t.here.kept;
        keeps = quiet-keeps past (after_tick settings past moment) js (latest past).window.packets refl t.here.keeps;
      };
      were = (t.here.kept, t.were);
      told = quiet-told past (after_tick settings past moment) js (latest past).told refl t.told;
      high = t.high;
    }

    -- a pull, whatever it gives
    pub pull-took : (o : Option Run) → Took (after_pull codec past moment o ∷ past) js
    pull-took o = still-took past js (after_pull codec past moment o) (pull_window codec past moment o)
        (pull_told codec past moment o) (pull_repaired codec past moment o) t
