use Rattle.std.proofs.Common.{◌∙◌, Some, refl, sym, ap}
use Rattle.std.specs.Option.{option_map}
use Rattle.vrx_codec.specs.Part.{Part}
use Rattle.vrx_window.specs.declared.held.Held.TheVariants as helds
use Rattle.vrx_frames.proofs.JoinLemmas.{says-soundly, part_of-text, part_at-text}
use Rattle.vrx_frames.proofs.judge.key_at.Goals as goal

pub returns : goal.returns
returns g c =
    let here = sym c.in-Some-Media.ensures.held ∙ ap Some c.in-Some-Media.field-0-is in
    let s = says-soundly g.C.Codec.meaning c.args.window.now.packets c.args.n c.in-Some-Media.field-0-0
    c.in-Some-Media.field-0-1 c.in-Some-Media.field-0-2 c.in-Some-Media.field-0-3 c.in-Some-Media.key
    c.in-Some-Media.field-0-5 c.requires.sound here in
    record {
      key = ap (option_map (λ (p : Part). p.key))
          (part_at-text g.C.Codec.meaning c.args.window.now.packets c.args.n
          (helds.Media c.in-Some-Media.field-0-0 c.in-Some-Media.field-0-1 c.in-Some-Media.field-0-2
          c.in-Some-Media.field-0-3 c.in-Some-Media.key c.in-Some-Media.field-0-5) c.in-Some-Media.field-0-0 s.part
          here refl (part_of-text g.C.Codec.meaning c.in-Some-Media.field-0-0 s.packet s.part s.reads s.part_reads))
          ∙ ap Some s.key_is;
    }
