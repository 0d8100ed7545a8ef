use Rattle.std.proofs.Common.{map, sym, ap, ◌∙◌}
use Rattle.std.specs.String.{string_bytes}
use Rattle.vrx_program.proofs.DrillLemmas.{same-unless, three-words, triple}
use Rattle.vrx_program.proofs.drill.drill_of.Goals as goal

pub returns : goal.returns
returns c = record {
  are = ap (map string_bytes) (triple c.args.words.now c.word-item.result c.seed-item.result c.frames-item.result
      c.in-len3.len_at_least c.in-len3.len_below c.word-item.is c.seed-item.is c.frames-item.is)
      ∙ three-words _ _ _ _ _ _ (sym c.as_str.ensures.value ∙ same-unless _ _ c.ne.result c.ne.ensures c.if-ne.false)
      (sym c.as_str-2.ensures.value ∙ c.in_ok-seed.ensures.number)
      (sym c.as_str-3.ensures.value ∙ c.in_ok-frames.ensures.0);
  seed_fits = c.in_ok-seed.ensures.fits;
  some = c.in_ok-frames.ensures.1.0;
  few = c.in_ok-frames.ensures.1.1;
}
