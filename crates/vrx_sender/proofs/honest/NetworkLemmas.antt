-- A network that brings wire forms is honest, if there are few packets and few frames: all of them are near.
use Rattle.std.proofs.Common.{◌≡◌, ℕ, ◌<◌, ◌≤◌, Bool, true, false, if◌then◌else◌, All, List, [], ◌∷◌, length, Option, Some, None, slice_get, IsSomeAnd, refl, arith}
use Rattle.std.proofs.lemmas.List.Elements.{All-tail}
use Rattle.std.proofs.lemmas.Option.{slice_get_within}
use Rattle.vrx_vp8.specs.Descriptor.{vp8}
use Rattle.vrx_core.specs.machine.Machine.{latest, snapshots}
use Rattle.vrx_core.specs.machine.Told.{Told}
use Rattle.vrx_core.specs.honest.HonestNetwork.{AreNearTold, Elsewhere, FromSender, HonestNetwork, IsNear, Origin, PicturesAreNear, greatest, packets_taken, takes}
use Rattle.vrx_core.specs.honest.Number.{IsOfFrame}
use Rattle.vrx_core.specs.honest.Sender.{SentPacket}
use Rattle.vrx_core.specs.declared.event.Event.{Event}
use Rattle.vrx_core.specs.declared.event.Event.TheVariants.{Datagram, Tick, Pull}
use Rattle.vrx_sender.specs.Draws.{Drawn}
use Rattle.vrx_sender.specs.Packets.{packets_from, sender_of, settings}
use Rattle.vrx_sender.proofs.honest.ComesLemmas.{Brings}
use Rattle.vrx_sender.proofs.honest.WireFormLemmas.{IsCarried}
use Rattle.vrx_sender.proofs.honest.NetworkSizes.{AreSized, few-packets, frame-before, packets-before}

-- the packets that came are among the first 32,768
abbrev pub AreFew : List Origin → Type 0
AreFew [] = Unit {0}
AreFew (FromSender i ∷ origins) = (i < 32768) × AreFew origins
AreFew (Elsewhere ∷ origins) = AreFew origins

-- and so are those that were taken
few-taken : (h : List Event) (origins : List Origin) → AreFew origins → greatest (packets_taken settings vp8 h origins) < 32768
unfolding packets_taken
few-taken [] origins few = omega arith
few-taken (e ∷ h) [] few = omega arith
few-taken (e ∷ h) (Elsewhere ∷ origins) few = few-taken h origins few
few-taken (Tick moment ∷ h) (FromSender i ∷ origins) few = few-taken h origins few.1
few-taken (Pull moment ∷ h) (FromSender i ∷ origins) few = few-taken h origins few.1
few-taken (Datagram moment octets ∷ h) (FromSender i ∷ origins) few =
    by (takes settings vp8 h octets) (packets_taken settings vp8 h origins) (few-taken h origins few.1)
  where
    by : (b : Bool) (taken : List ℕ) → greatest taken < 32768 → greatest (if b then i ∷ taken else taken) < 32768
    by true taken lt = omega (arith, few.0, lt)
    by false taken lt = lt

near : (i : ℕ) (taken : List ℕ) → i < 32768 → greatest taken < 32768 → IsNear i taken
near i [] small lt = tt
near i (j ∷ taken) small lt = (omega (arith, small), omega (arith, lt))

within : (all : List SentPacket) (i : ℕ) (P : SentPacket → Type 0) → IsSomeAnd (slice_get all i) P → i < length all
within all i P is = by (slice_get all i) refl is
  where
    by : (o : Option SentPacket) → slice_get all i ≡ o → IsSomeAnd o P → i < length all
    by None e none = absurd none
    by (Some s) e holds = slice_get_within all i s e

module _ (ds : List Drawn) (few : length ds ≤ 6000) (sized : AreSized 0 ds) where
  frame-few : (taken : List ℕ) (n f : ℕ) → IsOfFrame (sender_of ds) taken n f → f < 6000
  frame-few taken n f of =
      frame-before 6000 f of.0 (packets_from 0 0 ds) (packets-before 6000 0 0 ds (omega (arith, few))) of.2

  near-told : (taken : List ℕ) (told : Told) → AreNearTold (sender_of ds) taken told
  near-told taken [] = tt
  near-told taken (entry ∷ told) = (
    λ f g of newest.
        let here : f < 6000 = frame-few taken entry.0 f of in
        let there : g < 6000 = frame-few taken newest.entry.0 g newest.of_frame in
        (omega (arith, here), omega (arith, there)),
    near-told taken told,
  )

  pictures-near : (h : List Event) (origins : List Origin) → PicturesAreNear settings vp8 (sender_of ds) h origins
  pictures-near h origins = near-told (packets_taken settings vp8 h origins) (latest (snapshots settings vp8 h)).told

  -- events that bring wire forms are those of an honest network
  pub network : (h : List Event) (origins : List Origin) (events : List Event) → AreFew origins →
      All (Brings (packets_from 0 0 ds)) events →
      (others : List Origin) × HonestNetwork settings vp8 (sender_of ds) h origins events others
  network h origins [] few-origins bring = ([], tt)
  network h origins (Tick moment ∷ events) few-origins bring =
      let e : Event = Tick moment in
      let rest = network (e ∷ h) (Elsewhere ∷ origins) events few-origins (All-tail (Brings (packets_from 0 0 ds)) e events bring) in
      (Elsewhere ∷ rest.0, (tt, pictures-near (e ∷ h) (Elsewhere ∷ origins), rest.1))
  network h origins (Pull moment ∷ events) few-origins bring =
      let e : Event = Pull moment in
      let rest = network (e ∷ h) (Elsewhere ∷ origins) events few-origins (All-tail (Brings (packets_from 0 0 ds)) e events bring) in
      (Elsewhere ∷ rest.0, (tt, pictures-near (e ∷ h) (Elsewhere ∷ origins), rest.1))
  network h origins (Datagram moment octets ∷ events) few-origins bring =
      let e : Event = Datagram moment octets in
      let it : IsCarried (packets_from 0 0 ds) octets = bring 0 e (omega arith) in
      let small : it.0 < 32768 = omega (arith, within (packets_from 0 0 ds) it.0 _ it.1, few-packets ds few sized) in
      let rest = network (e ∷ h) (FromSender it.0 ∷ origins) events (small, few-origins) (All-tail (Brings (packets_from 0 0 ds)) e events bring) in (
        FromSender it.0 ∷ rest.0,
        (
          (it.1, near it.0 (packets_taken settings vp8 h origins) small (few-taken h origins few-origins)),
          pictures-near (e ∷ h) (FromSender it.0 ∷ origins),
          rest.1,
        ),
      )
