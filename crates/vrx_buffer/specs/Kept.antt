-- How three queues stand for the runs.
use Rattle.std.specs.Prelude.{◌≡◌, ℕ, ◌<◌, ◌≤◌, Bool, true, false, ◌&&◌, not, nat_lt, if◌then◌else◌, List, [], ◌∷◌, length, slice_set, Option, Some, None, is_none, Result, IfOk, IfErr}
use Rattle.std.specs.List.{filter, insert, list_all, remove}
use Rattle.vrx_num.specs.declared.limits.TheConstants.{WINDOW}
use Rattle.vrx_codec.specs.declared.run.Run.{Run}
use Rattle.vrx_refs.specs.References.{has_layer}
use Rattle.vrx_buffer.specs.Frames.{with_run, without}
use Rattle.vrx_buffer.specs.Order.{put_by, rises_by}

-- what holds of a queue: its runs rise by first number, and it has room for 2,048
pub record IsQueue (runs : List Run) (capacity : ℕ) : Type 0 where
  pub rise : rises_by (λ run. run.first) runs ≡ true
  pub room : WINDOW ≤ capacity

-- a run is key; it isn't, and has no layers; it isn't, and has layers
abbrev pub is_key : Run → Bool
is_key run = run.key

abbrev pub is_plain : Run → Bool
is_plain run = not run.key && is_none run.layers

abbrev pub is_layered : Run → Bool
is_layered run = not run.key && not (is_none run.layers)

-- all runs of two lists, in their order
abbrev pub joined : List Run → List Run → List Run
joined [] runs = runs
joined (run ∷ others) runs = put_by (λ r. r.first) run (joined others runs)

-- all runs of the three queues, in their order
abbrev pub runs_of : (keys plain layered : List Run) → List Run
runs_of keys plain layered = joined keys (joined plain layered)

-- the runs' TIDs are among the four that there are
abbrev pub have_layers : List Run → Bool
have_layers runs = list_all (λ run. has_layer run.layers) runs

-- each queue has the runs of its kind; and what always holds of the runs
pub record AreKept (runs keys plain layered : List Run) : Type 0 where
  pub rise : rises_by (λ run. run.first) runs ≡ true
  pub few : length runs ≤ WINDOW
  pub layers : have_layers runs ≡ true
  pub keys_are : keys ≡ filter is_key runs
  pub plain_are : plain ≡ filter is_plain runs
  pub layered_are : layered ≡ filter is_layered runs

-- the best run so far begins before another
abbrev pub is_before : Option Run → Run → Bool
is_before None run = false
is_before (Some best) run = nat_lt best.first run.first

-- the better one of the best run so far and another: the one with the lesser first number
abbrev pub lesser : Option Run → Option Run → Option Run
lesser best None = best
lesser best (Some run) = if is_before best run then best else Some run

-- Where a run that begins at n stands among runs, or the place where it is missing. It can be removed there, or
-- another one can be put in its place.
pub record IsPlace (n : ℕ) (runs : List Run) (place : Result ℕ ℕ) : Type 0 where
  pub inside : IfOk place (λ at. at < length runs)
  pub left : IfOk place (λ at. remove runs at ≡ without n runs)
  pub replaced : IfOk place (λ at. (run : Run) → run.first ≡ n → slice_set runs at run ≡ with_run run runs)
  pub upto : IfErr place (λ at. at ≤ length runs)
  pub missing : IfErr place (λ at. runs ≡ without n runs)
  pub inserted : IfErr place (λ at. (run : Run) → run.first ≡ n → insert runs at run ≡ with_run run runs)
