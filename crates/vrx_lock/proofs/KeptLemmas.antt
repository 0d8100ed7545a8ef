-- The engine stands for its journal, before and after one entry more.
use Rattle.std.proofs.Common.{◌≡◌, ◌∙◌, ℕ, ◌<◌, ◌≤◌, List, [], ◌∷◌, ◌++◌, length, length-append, sym, ap, subst, arith}
use Rattle.vrx_num.specs.declared.limits.TheConstants.{MOST_EVENTS}
use Rattle.vrx_codec.specs.Meaning.{Meaning}
use Rattle.vrx_core.specs.relation.StandsFor.{EngineParts, StandsFor}
use Rattle.vrx_lock.specs.declared.entry.Entry.{Entry}
use Rattle.vrx_lock.specs.declared.limits.TheConstants.{MOST_ENTRIES}
use Rattle.vrx_lock.specs.Journal.{history}
use Rattle.vrx_lock.specs.inside.Stored.{Stored}
use Rattle.vrx_lock.proofs.BeginLemmas.{history-last, history-length}

-- an engine whose journal has room takes another event
pub room-left : (codec : Meaning) (parts : EngineParts) (journal : List Entry) (room : ℕ)
    → StandsFor codec parts (history journal) → length journal < room → room ≤ MOST_ENTRIES → parts.events < MOST_EVENTS
room-left codec parts journal room stands lt few = omega (arith, stands.assembled.events, history-length journal)

pub noted : (codec : Meaning) (parts : EngineParts) (journal journal' : List Entry) (e : Entry) (room capacity capacity' : ℕ)
    → journal' ≡ journal ++ e ∷ [] → StandsFor codec parts (e.event ∷ history journal) → length journal < room
    → room ≤ capacity → capacity ≤ capacity' → room ≤ MOST_ENTRIES
    → StandsFor codec parts (history journal') × (room ≤ capacity') × (length journal' ≤ room) × (room ≤ MOST_ENTRIES)
noted codec parts journal journal' e room capacity capacity' is stands lt le more few = (
  subst (StandsFor codec parts) (sym (ap history is ∙ history-last journal e)) stands,
  omega arith,
  omega (arith, lt, ap length is, length-append journal (e ∷ [])),
  few,
)

-- room that a value is seen to have
pub has-room : (z kept : Stored) → z ≡ kept → length kept.journal < kept.setup.room → length z.journal < z.setup.room
has-room z kept e lt = subst (λ (x : Stored). length x.journal < x.setup.room) (sym e) lt
