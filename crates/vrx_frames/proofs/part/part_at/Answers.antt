use Rattle.std.proofs.Common.{◌≡◌, ◌≤◌, ◌∙◌, Some, sym, ap, length, arith, is_some}
use Rattle.vrx_num.specs.declared.limits.TheConstants.{MOST_OCTETS}
use Rattle.vrx_window.specs.Content.{Media}
use Rattle.vrx_window.specs.declared.held.Held.TheVariants as helds
use Rattle.vrx_frames.specs.Parts.{part_of}
use Rattle.vrx_frames.proofs.JoinLemmas.{says-soundly, part_of-text, part_at-text}
use Rattle.vrx_frames.proofs.part.part_at.Goals as goal

pub part_of-requires : goal.part_of-requires
part_of-requires g c =
    let here = sym c.in-Some-Media.ensures.held ∙ ap Some c.in-Some-Media.field-0-is in
    let s = says-soundly g.C.Codec.meaning c.args.window.now.packets c.args.n c.in-Some-Media.text
    c.in-Some-Media.field-0-1 c.in-Some-Media.field-0-2 c.in-Some-Media.field-0-3 c.in-Some-Media.field-0-4
    c.in-Some-Media.field-0-5 c.requires.sound here in
    ap (λ t. is_some (part_of g.C.Codec.meaning (Media t))) c.as_slice.ensures
    ∙ ap is_some (part_of-text g.C.Codec.meaning c.in-Some-Media.text s.packet s.part s.reads s.part_reads)

pub returns-clause-part : goal.returns-clause-part
returns-clause-part g c =
    let here = sym c.in-Some-Media.ensures.held ∙ ap Some c.in-Some-Media.field-0-is in
    part_at-text g.C.Codec.meaning c.args.window.now.packets c.args.n
    (helds.Media c.in-Some-Media.text c.in-Some-Media.field-0-1 c.in-Some-Media.field-0-2 c.in-Some-Media.field-0-3
    c.in-Some-Media.field-0-4 c.in-Some-Media.field-0-5) c.as_slice.result.now _ here
    (ap Media (sym c.as_slice.ensures)) c.part_of.ensures.part

pub returns-clause-body : goal.returns-clause-body
returns-clause-body g c =
    let here = sym c.in-Some-Media.ensures.held ∙ ap Some c.in-Some-Media.field-0-is in
    let s = says-soundly g.C.Codec.meaning c.args.window.now.packets c.args.n c.in-Some-Media.text
    c.in-Some-Media.field-0-1 c.in-Some-Media.field-0-2 c.in-Some-Media.field-0-3 c.in-Some-Media.field-0-4
    c.in-Some-Media.field-0-5 c.requires.sound here in
    let few : length c.in-Some-Media.text ≤ MOST_OCTETS = s.size in
    let size : length c.as_slice.result.now ≡ length c.in-Some-Media.text = ap length c.as_slice.ensures in
    let within : length c.part_of.result.body.now ≤ length c.as_slice.result.now = c.part_of.ensures.body in
    omega arith
