-- What a datagram that was handled leaves: the missing numbers stay fresh.
use Rattle.std.proofs.Common.{◌≡◌, ℕ, ◌+◌, ◌*◌, ◌^◌, ◌<◌, ◌≤◌, List, Option, Some, None, IfSome, Result, Ok, Err, true, false, sym, ◌∙◌, ap, subst, arith}
use Rattle.vrx_codec.specs.Meaning.{Meaning}
use Rattle.vrx_num.specs.declared.limits.TheConstants.{HALF_SPACE, MOST_EVENTS}
use Rattle.vrx_window.specs.Content.{Content, contents, contents_of}
use Rattle.vrx_window.specs.Window.{Contents, after_placing, is_available}
use Rattle.vrx_window.specs.declared.held.Held.{Held}
use Rattle.vrx_frames.specs.Completed.{is_among}
use Rattle.vrx_repair.specs.Plan.{IsRepaired, entries_of, placed, repairs_in}
use Rattle.vrx_repair.specs.Step.{with_repairs}
use Rattle.vrx_core.specs.machine.Machine.{source_in}
use Rattle.vrx_core.specs.machine.Verdict.{verdict}
use Rattle.vrx_core.specs.relation.StandsFor.{Assembly, Wanted}
use Rattle.vrx_core.specs.inside.Fields.{ComesOf, IsHandled, IsTakenWith, IsWhole}
use Rattle.vrx_core.specs.inside.Wants.{AreBelow, AreFresh, wanted_with}
use Rattle.vrx_core.specs.declared.assembler.Arrival.{Arrival}
use Rattle.vrx_core.specs.declared.assembler.Outcome.{Outcome}
use Rattle.vrx_core.specs.declared.original.NotTaken.{NotTaken}
use Rattle.vrx_core.proofs.relation.CameLemmas.{from-all, numbers-made}
use Rattle.vrx_core.proofs.relation.WindowLemmas.{available-contents}
use Rattle.vrx_core.proofs.step.FreshLemmas.{below-fresh, fresh-taken}

module _ (codec : Meaning) (before after : Assembly) (wanted : Wanted) (moment : ℕ) (octets : List ℕ)
    (outcome : Outcome) (handled : IsHandled codec before after moment octets outcome) (whole : IsWhole codec before)
    (fresh : AreFresh before.window wanted.asks) where
  -- the missing numbers are below the newest number before
  below-by : (arrival : Option Arrival) (v : Result (ℕ × Content) NotTaken) →
      ComesOf codec before after moment arrival v → IfSome arrival (λ (a : Arrival). AreBelow a.newest wanted.asks)
  below-by arrival (Err left) comes =
      subst (λ (o : Option Arrival). IfSome o (λ (a : Arrival). AreBelow a.newest wanted.asks)) (sym comes.0) tt
  below-by arrival (Ok (n, content)) comes =
      subst (λ (o : Option Arrival). IfSome o (λ (a : Arrival). AreBelow a.newest wanted.asks)) (sym comes.1)
      (subst (λ newest. AreBelow newest wanted.asks) (sym comes.2.arrives.newest_is)
      (below-fresh before.window wanted.asks fresh))

  pub arrival-below : IfSome outcome.arrival (λ (a : Arrival). AreBelow a.newest wanted.asks)
  arrival-below =
      below-by outcome.arrival (verdict before.settings codec (contents_of before.window) octets) handled.comes

  -- which is short
  short-newest : (o : Option ℕ) → IfSome o (λ m. (65536 ≤ m) × (m ≤ 131072 + HALF_SPACE * before.events)) →
      before.events ≤ MOST_EVENTS → IfSome o (λ m. m < 2 ^ 62)
  short-newest None reach few = tt
  short-newest (Some m) reach few = let upto : m ≤ 131072 + HALF_SPACE * before.events =
      reach.1 in let less : m < 2 ^ 62 = omega arith in less

  short-by : (arrival : Option Arrival) (v : Result (ℕ × Content) NotTaken) →
      ComesOf codec before after moment arrival v →
      IfSome arrival (λ (a : Arrival). IfSome a.newest (λ m. m < 2 ^ 62))
  short-by arrival (Err left) comes =
      subst (λ (o : Option Arrival). IfSome o (λ (a : Arrival). IfSome a.newest (λ m. m < 2 ^ 62))) (sym comes.0) tt
  short-by arrival (Ok (n, content)) comes =
      subst (λ (o : Option Arrival). IfSome o (λ (a : Arrival). IfSome a.newest (λ m. m < 2 ^ 62))) (sym comes.1)
      (subst (λ newest. IfSome newest (λ m. m < 2 ^ 62)) (sym comes.2.arrives.newest_is)
      (short-newest before.window.newest whole.kept.reach whole.kept.few))

  pub arrival-short : IfSome outcome.arrival (λ (a : Arrival). IfSome a.newest (λ m. m < 2 ^ 62))
  arrival-short =
      short-by outcome.arrival (verdict before.settings codec (contents_of before.window) octets) handled.comes

  -- and they stay fresh
  fresh-by : (now : ℕ) (front key : Option ℕ) (arrival : Option Arrival) (v : Result (ℕ × Content) NotTaken) →
      ComesOf codec before after moment arrival v →
      AreFresh after.window (wanted_with now front key arrival wanted).asks
  fresh-by now front key arrival (Err left) comes =
      subst (λ (o : Option Arrival). AreFresh after.window (wanted_with now front key o wanted).asks) (sym comes.0)
      (subst (λ (a : Assembly). AreFresh a.window wanted.asks) (sym comes.1) fresh)
  fresh-by now front key arrival (Ok (n, content)) comes =
      let t = comes.2 in
      subst (λ (o : Option Arrival). AreFresh after.window (wanted_with now front key o wanted).asks) (sym comes.1)
      (fresh-taken before.window after.window n t.held comes.0 now front wanted.asks whole.window t.arrives.number_is
      t.arrives.newest_is (repaired t).newest (repaired t).dead (from comes.0 t) fresh) where
        -- by contents, just the repairs came beside the packet
        repaired : {a : Arrival} (t : IsTakenWith codec before after moment n content a) →
            IsRepaired (source_in before.settings codec)
            (repairs_in (source_in before.settings codec) (placed n t.held before.window))
            (placed n t.held before.window) (contents_of after.window)
        repaired t = t.taken.repaired (source_in before.settings codec) t.planned

        from : (a : Arrival) (t : IsTakenWith codec before after moment n content a) (m : ℕ) →
            is_available m after.window.packets ≡ true → is_among a.repaired m ≡ false →
            is_available m (after_placing n t.held before.window).packets ≡ true
        from a t m there none =
            let first : Contents Held = after_placing n t.held before.window in
            sym (available-contents m first.packets)
            ∙ from-all (contents first.packets) (entries_of t.made) m
            (sym (ap (is_available m) ((repaired t).packets
            ∙ ap (λ rs. with_repairs rs (contents first.packets)) (sym t.planned.repairs)))
            ∙ available-contents m after.window.packets ∙ there)
            (ap (λ ns. is_among ns m) (sym (t.arrives.repaired_is ∙ numbers-made t.made)) ∙ none)

  pub arrival-fresh : (now : ℕ) (front key : Option ℕ) →
      AreFresh after.window (wanted_with now front key outcome.arrival wanted).asks
  arrival-fresh now front key =
      fresh-by now front key outcome.arrival
      (verdict before.settings codec (contents_of before.window) octets) handled.comes
