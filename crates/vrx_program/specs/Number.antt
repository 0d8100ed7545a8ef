-- The numbers of the statuses, and the lines that report them to a person.
use Rattle.std.specs.Prelude.{ℕ, List, codes, Option, Some, None}
use Rattle.vrx_program.specs.declared.status.Status.{Status}
use Rattle.vrx_program.specs.declared.status.Status.TheVariants.{Done, BadUsage, BadCapture, ReadFault, WriteFault, NoMemory}

abbrev pub number_of : Status → ℕ
number_of Done = 0
number_of BadUsage = 1
number_of BadCapture = 2
number_of ReadFault = 3
number_of WriteFault = 4
number_of NoMemory = 5

-- the line on standard error: none if the run was done
abbrev pub cause_of : Status → Option (List ℕ)
cause_of Done = None
cause_of BadUsage = Some (codes "usage: vrx replay|live|inspect < CAPTURE, or vrx drill SEED FRAMES")
cause_of BadCapture = Some (codes "vrx: a line of the capture is bad, or its settings are refused")
cause_of ReadFault = Some (codes "vrx: a read failed")
cause_of WriteFault = Some (codes "vrx: a write failed")
cause_of NoMemory = Some (codes "vrx: out of memory")
