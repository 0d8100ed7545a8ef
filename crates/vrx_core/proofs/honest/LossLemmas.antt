-- Each packet that is given up brings a request for a keyframe.
use Rattle.std.proofs.Common.{◌≡◌, ℕ, Bool, true, false, List, [], ◌∷◌, Contains, Option, Some, None, ◌⊎◌, refl, inl, inr}
use Rattle.std.specs.Option.{IsSome}
use Rattle.vrx_codec.specs.Meaning.{Meaning}
use Rattle.vrx_frames.specs.Run.{Run}
use Rattle.vrx_core.specs.machine.KeyRequest.{is_answered}
use Rattle.vrx_core.specs.machine.Machine.{Snapshot, after_pull, latest, next_run, pli_for, reply, replies, snapshots}
use Rattle.vrx_core.specs.honest.Sender.{Sender}
use Rattle.vrx_core.specs.honest.HonestNetwork.{Origin, HonestNetwork}
use Rattle.vrx_core.specs.honest.HonestCall.{AsksForKey, StaysOutstanding, AsksForLoss, LossesAsked}
use Rattle.vrx_core.specs.declared.settings.Settings.{Settings}
use Rattle.vrx_core.specs.declared.event.Event.{Event}
use Rattle.vrx_core.specs.declared.event.Event.TheVariants.{Datagram, Tick, Pull}
use Rattle.vrx_core.proofs.machine.MemberLemmas.{Contains-empty}
use Rattle.vrx_core.proofs.keyframes.KeyLawLemmas.{losses-ask}

-- a PLI is there if a keyframe is asked for
some-pli : (settings : Settings) (asked : Bool) → asked ≡ true → IsSome (pli_for settings asked)
some-pli settings true is = refl
some-pli settings false is = absurd (cc)

-- a pull gives no number up
pull-loses : (codec : Meaning) (past : List Snapshot) (moment : ℕ) (o : Option Run) (n : ℕ) →
    Contains (after_pull codec past moment o).lost n → ⊥
pull-loses codec past moment None n there = Contains-empty n there
pull-loses codec past moment (Some run) n there = Contains-empty n there

module _ (settings : Settings) (codec : Meaning) (h : List Event) where
  -- a number that an event gives up brings a request, by the reply to the event
  loss-asks : (e : Event) (n : ℕ) → Contains (latest (snapshots settings codec (e ∷ h))).lost n →
      (latest (snapshots settings codec (e ∷ h))).key_asked ≡ true → AsksForKey (reply settings codec h e)
  unfolding snapshots reply
  loss-asks (Datagram moment octets) n there asked =
      some-pli settings (latest (snapshots settings codec (Datagram moment octets ∷ h))).key_asked asked
  loss-asks (Tick moment) n there asked =
      some-pli settings (latest (snapshots settings codec (Tick moment ∷ h))).key_asked asked
  loss-asks (Pull moment) n there asked =
      let past : List Snapshot = snapshots settings codec h in
      absurd (pull-loses codec past moment (next_run (latest past)) n there)

  -- so does a number that is given up and isn't answered, or a request is outstanding
  loss-brings : (e : Event) (n : ℕ) → Contains (latest (snapshots settings codec (e ∷ h))).lost n
      → AsksForKey (reply settings codec h e)
      ⊎ ((is_answered (latest (snapshots settings codec (e ∷ h))) n ≡ true) ⊎ StaysOutstanding settings codec h e)
  loss-brings e n there = by (is_answered (latest (snapshots settings codec (e ∷ h))) n) refl where
    by : (b : Bool) → is_answered (latest (snapshots settings codec (e ∷ h))) n ≡ b
        → AsksForKey (reply settings codec h e)
        ⊎ ((is_answered (latest (snapshots settings codec (e ∷ h))) n ≡ true) ⊎ StaysOutstanding settings codec h e)
    by true is = inr (inl is)
    by false is = elim (losses-ask settings codec h e n there is) [
      | inl asked ↦ inl (loss-asks e n there asked)
      | inr waits ↦ inr (inr waits)
    ]

module _ (settings : Settings) (codec : Meaning) (sender : Sender) where
  -- one event
  asks-for-loss : (h : List Event) (origins : List Origin) (e : Event) (o : Origin) →
      AsksForLoss settings codec sender h origins e o (reply settings codec h e)
  asks-for-loss h origins e o i n is there = loss-brings settings codec h e n there

  -- the events that follow a history
  pub losses-asked : (events : List Event) (h : List Event) (origins later : List Origin) →
      HonestNetwork settings codec sender h origins events later
      → LossesAsked settings codec sender h origins events later (replies settings codec h events)
  unfolding replies
  losses-asked [] h origins [] network = tt
  losses-asked [] h origins (o ∷ os) network = absurd network
  losses-asked (e ∷ es) h origins [] network = absurd network
  losses-asked (e ∷ es) h origins (o ∷ os) network =
      (asks-for-loss h origins e o, losses-asked es (e ∷ h) (o ∷ origins) os network.2)
