-- What the types of the code stand for.
use Rattle.vrx_refs.specs.declared.judged.Judged.{Judged}
use Rattle.vrx_refs.specs.declared.judged.Judged.TheVariants as judged
use Rattle.vrx_refs.specs.References.{Judgement, Key, Needs, Unknown}

-- what was judged, its pictures as a list
abbrev pub view : Judged → Judgement
view judged.Key = Key
view (judged.Needs pictures) = Needs pictures.items
view judged.Unknown = Unknown
