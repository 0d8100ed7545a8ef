-- What a run of the three workers leaves.
use Rattle.std.specs.Prelude.{◌≡◌, ℕ, List, [], take}
use Rattle.vrx_codec.specs.Meaning.{Meaning}
use Rattle.vrx_lock.specs.declared.known.Known.{Known}
use Rattle.vrx_live.specs.declared.lists.Lists.{Lists}
use Rattle.vrx_live.specs.Calls.{Call, Interleaves, entries_of}
use Rattle.vrx_live.specs.Texts.{texts_from}

-- The workers made all calls of their lists: what the seat has seen is an interleaving of these, and at each place stands
-- the text of the machine's reply there, with the number of the event's line.
pub record HaveRun (codec : Meaning) (lists : Lists) (known : Known) (printed : List (ℕ × List ℕ)) : Type 0 where
  pub calls : List Call
  pub order : Interleaves lists calls
  pub seen : known.seen ≡ entries_of calls
  pub texts : printed ≡ texts_from known.setup.settings codec [] calls

-- lists up to these numbers of lines
abbrev pub fronts : ℕ → ℕ → ℕ → Lists → Lists
fronts datagrams ticks pulls lists = record {
  datagrams = take datagrams lists.datagrams;
  ticks = take ticks lists.ticks;
  pulls = take pulls lists.pulls;
}

-- memory ran out: what the seat has seen is an interleaving of the calls that were done, which are for the first lines
-- of each list
pub record HaveStopped (lists : Lists) (known : Known) : Type 0 where
  pub datagrams : ℕ
  pub ticks : ℕ
  pub pulls : ℕ
  pub calls : List Call
  pub order : Interleaves (fronts datagrams ticks pulls lists) calls
  pub seen : known.seen ≡ entries_of calls
