-- What the types of the code stand for.
use Rattle.std.specs.Prelude.{ℕ, map, List, Result, Ok, Err, Vec}
use Rattle.vrx_fec.specs.declared.fault.FecFault.{FecFault}
use Rattle.vrx_fec.specs.declared.fec.Fec.{Fec}
use Rattle.vrx_fec.specs.declared.fec.Level.{Level as LevelSeen}
use Rattle.vrx_fec.specs.declared.register.RecoverFault.{RecoverFault}
use Rattle.vrx_fec.specs.Payload.{Level, Payload}

-- the level, without where it lies in memory
abbrev pub view_level : LevelSeen → Level
view_level level = record { mask = level.mask; octets = level.octets.now }

-- the payload, without where it lies in memory
abbrev pub view : Fec → Payload
view fec = record {
  head = fec.head;
  long = fec.long;
  base = fec.base;
  levels = map view_level fec.levels.items;
}

-- what was read, seen so, or the fault
abbrev pub result_by : {X Y : Type 0} → (X → Y) → Result X FecFault → Result Y FecFault
result_by f (Ok x) = Ok (f x)
result_by f (Err e) = Err e

-- the payload that was read, or the fault
abbrev pub view_result : Result Fec FecFault → Result Payload FecFault
view_result result = result_by view result

-- the octets that were rebuilt, or the fault
abbrev pub view_rebuilt : {Z : Type 0} → Result (Vec ℕ Z) RecoverFault → Result (List ℕ) RecoverFault
view_rebuilt (Ok text) = Ok text.items
view_rebuilt (Err e) = Err e
