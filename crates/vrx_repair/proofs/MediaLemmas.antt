-- What a text that is media says.
use Rattle.std.proofs.Common.{◌≡◌, ℕ, ◌<◌, ◌≤◌, cond, ◌&&◌, List, length, Option, Some, None, Result, Ok, Err, IfSome, option_map, refl, sym, ap, subst, arith}
use Rattle.std.specs.Prelude.{◌==◌, nat_lt}
use Rattle.std.specs.Result.{result_ok}
use Rattle.std.proofs.lemmas.Bool.{and_parts, eqb-true, ltb-true}
use Rattle.std.proofs.lemmas.Option.{cond_some, none-some, same_Some}
use Rattle.vrx_num.specs.OptionChain.{◌>>=◌}
use Rattle.vrx_num.specs.declared.limits.TheConstants.{MOST_OCTETS}
use Rattle.vrx_rtp.specs.Packet.{Packet}
use Rattle.vrx_rtp.specs.Reading.{read}
use Rattle.vrx_codec.specs.Joining.{FitsLayers}
use Rattle.vrx_codec.specs.Part.{Part}
use Rattle.vrx_repair.specs.Plan.{SaysItsText}
use Rattle.vrx_repair.specs.Seen.{facts_in}
use Rattle.vrx_repair.specs.Source.{Source, is_bare, media_in}
use Rattle.vrx_repair.specs.declared.media.Facts.{Facts}
use Rattle.vrx_repair.proofs.StepLemmas.{chained}

pub ok-of : {A E : Type 0} (r : Result A E) (x : A) → result_ok r ≡ Some x → r ≡ Ok x
ok-of (Ok y) x is = ap Ok (same_Some y x is)
ok-of (Err e) x is = absurd (none-some x is)

-- a text that is media: its packet and its part
pub record IsMedia (source : Source) (text : List ℕ) (packet : Packet) (part : Part) : Type 0 where
  pub reads : read text ≡ Some packet
  pub part_reads : source.codec.read packet.payload ≡ Ok part
  pub unpadded : packet.padding ≡ 0
  pub payload : 0 < length packet.payload

pub is-media : (source : Source) (text : List ℕ) (said : Packet × Part) → media_in source text ≡ Some said →
    IsMedia source text said.0 said.1
is-media source text said is =
    let packet = chained (read text) with_part said is in
    let part = chained (result_ok (source.codec.read packet.0.payload)) (bare packet.0) said packet.2 in
    let tested = cond_some (is_bare source.media_type packet.0) (packet.0, part.0) said part.2 in
    let first = and_parts (packet.0.padding == 0 && packet.0.pt == source.media_type)
    (nat_lt 0 (length packet.0.payload)) tested.0 in
    let second = and_parts (packet.0.padding == 0) (packet.0.pt == source.media_type) first.0 in
    let both : IsMedia source text packet.0 part.0 = record {
      reads = packet.1;
      part_reads = ok-of (source.codec.read packet.0.payload) part.0 part.1;
      unpadded = eqb-true packet.0.padding 0 second.0;
      payload = ltb-true 0 (length packet.0.payload) first.1;
    } in
    subst (λ (s : Packet × Part). IsMedia source text s.0 s.1) tested.1 both where
      bare : Packet → Part → Option (Packet × Part)
      bare packet part = cond (is_bare source.media_type packet) (Some (packet, part)) None

      with_part : Packet → Option (Packet × Part)
      with_part packet = result_ok (source.codec.read packet.payload) >>= bare packet

-- what is mapped to something is there
mapped : {A B : Type 0} (f : A → B) (o : Option A) (y : B) → Some y ≡ option_map f o → (x : A) × (o ≡ Some x) × (f x ≡ y)
mapped f None y is = absurd (none-some y (sym is))
mapped f (Some x) y is = (x, refl, same_Some (f x) y (sym is))

-- a repair with what its text says
pub says-soundly : (source : Source) (number : ℕ) (text : List ℕ) (facts : Facts) →
    Some facts ≡ option_map facts_in (media_in source text) → length text ≤ MOST_OCTETS →
    IfSome facts.layers FitsLayers →
    SaysItsText source.codec (record {
      number = number;
      text = text;
      marker = facts.marker;
      ts = facts.ts;
      start = facts.start;
      key = facts.key;
      layers = facts.layers;
    })
says-soundly source number text facts is size fit =
    let m = mapped facts_in (media_in source text) facts is in
    let media : IsMedia source text m.0.0 m.0.1 = is-media source text m.0 m.1 in
    record {
      packet = m.0.0;
      part = m.0.1;
      size = size;
      reads = media.reads;
      unpadded = media.unpadded;
      marker_is = ap (λ (f : Facts). f.marker) m.2;
      ts_is = ap (λ (f : Facts). f.ts) m.2;
      payload = λ none. (let long : 0 < length m.0.0.payload = media.payload in
          let short : length m.0.0.payload ≡ 0 = ap length none in absurd (omega arith));
      part_reads = media.part_reads;
      start_is = ap (λ (f : Facts). f.start) m.2;
      key_is = ap (λ (f : Facts). f.key) m.2;
      layers_are = ap (λ (f : Facts). f.layers) m.2;
      layers_fit = subst (λ l. IfSome l FitsLayers) (ap (λ (f : Facts). f.layers) (sym m.2)) fit;
    }
