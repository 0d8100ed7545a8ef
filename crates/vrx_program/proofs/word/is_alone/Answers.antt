use Rattle.std.proofs.Common.{map, [], ◌∷◌, ap, sym, ◌∙◌}
use Rattle.std.specs.String.{string_bytes}
use Rattle.std.specs.Cmp.Lexicographic.{same_text}
use Rattle.vrx_program.proofs.WordsLemmas.{single, head_same, texts_alike}
use Rattle.vrx_program.proofs.word.is_alone.Goals as goal

pub returns-in-len1 : goal.returns-in-len1
returns-in-len1 c =
    let one =
    single c.args.words.now c.word-item.result c.in-len1.len_at_least c.in-len1.len_below c.word-item.is in (
      λ yes. ap (map string_bytes) one
          ∙ ap (λ w. w ∷ []) (sym c.as_str.ensures.value ∙ same_text _ _ (sym (sym c.eq.ensures ∙ yes))),
      λ words. c.eq.ensures ∙ texts_alike _ _
          (c.as_str.ensures.value ∙ head_same _ _ (sym (ap (map string_bytes) one) ∙ words)),
    )
