-- The calls of three actors, and the orders in which a journal may have them.
use Rattle.std.specs.Prelude.{◌≡◌, ◌==◌, ◌+◌, ℕ, List, [], ◌∷◌, filter, length, map}
use Rattle.vrx_core.specs.declared.event.Event.{Event}
use Rattle.vrx_lock.specs.declared.entry.Entry.{Entry}
use Rattle.vrx_lock.specs.Journal.{entry}
use Rattle.vrx_live.specs.declared.actors.TheConstants.{DATAGRAMS, TICKS, PULLS}
use Rattle.vrx_live.specs.declared.lists.Lists.{Lists}

-- a call: the number of the line of its event, and its entry in the journal
abbrev pub Call : Type 0
Call = ℕ × Entry

-- the calls of an actor for these lines, in order; the first has this turn
abbrev pub calls_from : ℕ → ℕ → List (ℕ × Event) → List Call
calls_from actor turn [] = []
calls_from actor turn (line ∷ lines) = (line.0, entry actor turn line.1) ∷ calls_from actor (turn + 1) lines

-- those of these calls that are an actor's, in order
abbrev pub calls_of : ℕ → List Call → List Call
calls_of actor calls = filter (λ call. call.1.actor == actor) calls

-- the entries of calls
abbrev pub entries_of : List Call → List Entry
entries_of calls = map (λ call. call.1) calls

-- Calls in one order are an interleaving of three lists: each actor's calls are those for its list, in the list's order
-- and with turns from 1 on, and there are no others.
pub record Interleaves (lists : Lists) (calls : List Call) : Type 0 where
  pub datagrams : calls_of DATAGRAMS calls ≡ calls_from DATAGRAMS 1 lists.datagrams
  pub ticks : calls_of TICKS calls ≡ calls_from TICKS 1 lists.ticks
  pub pulls : calls_of PULLS calls ≡ calls_from PULLS 1 lists.pulls
  pub no_others : length calls ≡ length lists.datagrams + length lists.ticks + length lists.pulls
