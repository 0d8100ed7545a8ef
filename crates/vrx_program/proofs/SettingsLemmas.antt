-- When the settings that a line tells are taken.
use Rattle.std.proofs.Common.{◌≡◌, ◌≢◌, ◌⊎◌, ℕ, ◌≤◌, Bool, true, false, List, length, sym, ◌∙◌, ap, inl, inr}
use Rattle.std.specs.Prelude.{Some, None, is_none, Result, Ok, Err, IfOk}
use Rattle.vrx_num.specs.declared.no_memory.NoMemory.{NoMemory}
use Rattle.vrx_core.specs.machine.SettingsFault.{fault_of}
use Rattle.vrx_core.specs.declared.settings.Settings.{Settings}
use Rattle.vrx_core.specs.declared.settings.NewFault.{NewFault}
use Rattle.vrx_core.specs.declared.settings.NewFault.TheVariants as faults
use Rattle.vrx_capture.specs.Line.{longest_line}
use Rattle.vrx_capture.specs.SettingsLine.{settings_in}
use Rattle.vrx_capture.specs.declared.settings_line.CodecName.{CodecName}
use Rattle.vrx_text.specs.declared.transcript.ErrorReason.TheVariants as errors
use Rattle.vrx_program.specs.Replay.{unless_fault, settings_or_reason, settings_of}
use Rattle.vrx_program.specs.Inspect.{has_right_settings, is_head}
use Rattle.vrx_program.proofs.ReplayLemmas.{settings-short}
use Rattle.vrx_program.proofs.InspectLemmas.{head-short}

module _ (line : List ℕ) (short : length line ≤ longest_line) where
  -- the line tells no settings
  pub settings-none : settings_in line ≡ None → settings_of line ≡ Err errors.Settings
  settings-none none = settings-short line short ∙ ap settings_or_reason none

  pub head-none : settings_in line ≡ None → is_head line ≡ false
  head-none none = head-short line short ∙ ap has_right_settings none

  -- it tells these settings
  module _ (codec : CodecName) (settings : Settings) (told : settings_in line ≡ Some (codec, settings)) where
    pub told-is : settings_of line ≡ unless_fault codec settings (fault_of settings)
    told-is = settings-short line short ∙ ap settings_or_reason told

    head-is : is_head line ≡ is_none (fault_of settings)
    head-is = head-short line short ∙ ap has_right_settings told

    pub head-unless_fault : fault_of settings ≡ None → is_head line ≡ true
    head-unless_fault none = head-is ∙ ap is_none none

    head-fault : (fault : NewFault) → (fault ≡ faults.NoMemory) ⊎ (fault_of settings ≡ Some fault) →
        fault ≢ faults.NoMemory → is_head line ≡ false
    head-fault fault (inl memory) other = absurd (other memory)
    head-fault fault (inr has) other = head-is ∙ ap is_none has

    pub head-right : (fault : NewFault) → (fault ≡ faults.NoMemory) ⊎ (fault_of settings ≡ Some fault) →
        (result : Result Bool NoMemory) → IfOk result (λ right. right ≡ false) →
        IfOk result (λ right. fault ≢ faults.NoMemory) → IfOk result (λ right. right ≡ is_head line)
    head-right fault has (Ok right) is other = is ∙ sym (head-fault fault has other)
    head-right fault has (Err none) is other = tt
