-- The settings of a call have no fault.
use Rattle.std.proofs.Common.{◌≡◌, ℕ, Bool, true, false, List, [], ◌∷◌, length, refl, ap, subst}
use Rattle.std.specs.Prelude.{nat_lt, Option, Some, None, Result, Ok, Err, if◌then◌else◌}
use Rattle.std.specs.Result.{result_ok}
use Rattle.std.proofs.lemmas.Option.{none-some, same_Some}
use Rattle.vrx_core.specs.machine.SettingsFault.{fault_of}
use Rattle.vrx_core.specs.declared.settings.Settings.{Settings}
use Rattle.vrx_core.specs.declared.settings.NewFault.{NewFault}
use Rattle.vrx_core.specs.declared.settings.NewFault.TheVariants as faults
use Rattle.vrx_capture.specs.Line.{lines_of, longest_line}
use Rattle.vrx_capture.specs.SettingsLine.{settings_in}
use Rattle.vrx_capture.specs.declared.settings_line.CodecName.{CodecName}
use Rattle.vrx_text.specs.declared.transcript.ErrorReason.{ErrorReason}
use Rattle.vrx_text.specs.declared.transcript.ErrorReason.TheVariants as errors
use Rattle.vrx_program.specs.Replay.{unless_fault, settings_or_reason, settings_of, Call, call_from, call_in, call_of}

-- a result that is an error is no value
no_value : {A : Type 0} (reason : ErrorReason) (x : A) → ◌≡◌ {A = Result A ErrorReason} (Err reason) (Ok x) → ⊥
no_value reason x is = none-some x (ap result_ok is)

-- settings that are taken are those that were told, and have no fault
unless_fault-none : (codec : CodecName) (settings : Settings) (fault : Option NewFault)
    (told : CodecName × Settings) → unless_fault codec settings fault ≡ Ok told → (fault ≡ None) × (settings ≡ told.1)
unless_fault-none codec settings None told is =
    (refl, ap (λ (t : CodecName × Settings). t.1) (same_Some (codec, settings) told (ap result_ok is)))
unless_fault-none codec settings (Some faults.BadType) told is = absurd (no_value errors.Settings told is)
unless_fault-none codec settings (Some faults.SameType) told is = absurd (no_value errors.Settings told is)
unless_fault-none codec settings (Some faults.SameSsrc) told is = absurd (no_value errors.Settings told is)
unless_fault-none codec settings (Some faults.RedMissing) told is = absurd (no_value errors.Settings told is)
unless_fault-none codec settings (Some faults.BadInterval) told is = absurd (no_value errors.Settings told is)
unless_fault-none codec settings (Some faults.NoMemory) told is = absurd (no_value errors.Settings told is)

settings_or_reason-none : (o : Option (CodecName × Settings)) (told : CodecName × Settings) →
    settings_or_reason o ≡ Ok told → fault_of told.1 ≡ None
settings_or_reason-none None told is = absurd (no_value errors.Settings told is)
settings_or_reason-none (Some (codec, settings)) told is = let t =
    unless_fault-none codec settings (fault_of settings) told is in subst (λ s. fault_of s ≡ None) t.1 t.0

within-none : (long : Bool) (o : Option (CodecName × Settings)) (told : CodecName × Settings) →
    (if long then Err errors.Settings else settings_or_reason o) ≡ Ok told → fault_of told.1 ≡ None
within-none true o told is = absurd (no_value errors.Settings told is)
within-none false o told is = settings_or_reason-none o told is

pub line-none : (line : List ℕ) (told : CodecName × Settings) → settings_of line ≡ Ok told → fault_of told.1 ≡ None
unfolding settings_of
line-none line told is = within-none (nat_lt longest_line (length line)) (settings_in line) told is

from-none : (first : Result (CodecName × Settings) ErrorReason) (lines : List (List ℕ)) (call : Call) →
    ((told : CodecName × Settings) → first ≡ Ok told → fault_of told.1 ≡ None) → call_from first lines ≡ Ok call →
    fault_of call.settings ≡ None
from-none (Err reason) lines call right is = absurd (no_value reason call is)
from-none (Ok told) lines call right is =
    subst (λ (s : Settings). fault_of s ≡ None) (ap (λ (c : Call). c.settings) (same_Some _ call (ap result_ok is)))
    (right told refl)

in-none : (lines : List (List ℕ)) (call : Call) → call_in lines ≡ Ok call → fault_of call.settings ≡ None
in-none [] call is = absurd (no_value errors.Settings call is)
in-none (line ∷ lines) call is = from-none (settings_of line) lines call (line-none line) is

-- the settings of a capture's call have no fault
pub call-faultless : (capture : List ℕ) (call : Call) → call_of capture ≡ Ok call → fault_of call.settings ≡ None
call-faultless capture call is = in-none (lines_of capture) call is
