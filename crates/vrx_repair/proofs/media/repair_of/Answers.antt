use Rattle.std.proofs.Common.{◌≡◌, ◌≤◌, List, ℕ, length, option_map, sym, ◌∙◌, ap, arith}
use Rattle.vrx_num.specs.declared.limits.TheConstants.{MOST_OCTETS}
use Rattle.vrx_repair.specs.Seen.{facts_in}
use Rattle.vrx_repair.specs.Source.{Source, media_in, source_of}
use Rattle.vrx_repair.proofs.MediaLemmas.{says-soundly}
use Rattle.vrx_repair.proofs.media.repair_of.Goals as goal

pub returns-in_ok-from_vec-in-Some-clause-sound : goal.returns-in_ok-from_vec-in-Some-clause-sound
returns-in_ok-from_vec-in-Some-clause-sound g c =
    let source : Source = source_of g.C.Codec.meaning 0 c.args.media_type in
    let same : c.in_ok-from_vec-in-Some.field-0 ≡ c.args.text.items = c.in_ok-from_vec-in-Some.ensures.ok in
    let few : length c.args.text.items ≤ MOST_OCTETS = c.requires in
    let size : length c.in_ok-from_vec-in-Some.field-0 ≤ MOST_OCTETS = omega (arith, ap length same) in
    says-soundly source c.args.number c.in_ok-from_vec-in-Some.field-0 c.in-Some.facts
    (c.in-Some.ensures.said 0
    ∙ ap (λ (t : List ℕ). option_map facts_in (media_in source t)) (c.as_slice.ensures.value ∙ sym same))
    size c.in-Some.ensures.fits
