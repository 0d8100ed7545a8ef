-- The value in the slot, as the rule sees it: nothing of the engine.
use Rattle.std.specs.Prelude.{List}
use Rattle.vrx_lock.specs.declared.entry.Entry.{Entry}
use Rattle.vrx_lock.specs.declared.known.Setup.{Setup}

pub record Stored : Type 0 where
  pub setup : Setup
  pub journal : List Entry

abbrev pub stored : Setup → List Entry → Stored
stored setup journal = record { setup = setup; journal = journal }
