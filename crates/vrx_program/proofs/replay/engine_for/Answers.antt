use Rattle.std.proofs.Common.{◌≡◌, ◌⊎◌, Some, Err, inl, inr, sym, ap, subst}
use Rattle.vrx_core.specs.machine.SettingsFault.{fault_of}
use Rattle.vrx_core.specs.declared.settings.NewFault.{NewFault}
use Rattle.vrx_core.specs.declared.settings.NewFault.TheVariants.{BadType, SameType, SameSsrc, RedMissing, BadInterval, NoMemory}
use Rattle.vrx_core.specs.declared.settings.Settings.{Settings}
use Rattle.vrx_capture.specs.declared.settings_line.CodecName.{CodecName}
use Rattle.vrx_program.specs.Job.{IfRefused}
use Rattle.vrx_program.specs.Replay.{hindrance_of, unless_fault}
use Rattle.vrx_program.specs.declared.job.Unanswered.{Unanswered}
use Rattle.vrx_program.proofs.replay.engine_for.Goals as goal

-- the reason is that of the settings' fault, whatever the codec
abbrev IsReason : Settings → Unanswered → Type 0
IsReason settings why =
    IfRefused why (λ reason. (name : CodecName) → unless_fault name settings (fault_of settings) ≡ Err reason)

reason-is : (settings : Settings) (fault : NewFault) → fault_of settings ≡ Some fault →
    IsReason settings (hindrance_of fault)
reason-is settings BadType is = λ name. ap (unless_fault name settings) is
reason-is settings SameType is = λ name. ap (unless_fault name settings) is
reason-is settings SameSsrc is = λ name. ap (unless_fault name settings) is
reason-is settings RedMissing is = λ name. ap (unless_fault name settings) is
reason-is settings BadInterval is = λ name. ap (unless_fault name settings) is
reason-is settings NoMemory is = tt

hindered : (settings : Settings) (fault : NewFault) → (fault ≡ NoMemory) ⊎ (fault_of settings ≡ Some fault) →
    IsReason settings (hindrance_of fault)
hindered settings fault (inl none) = subst (λ f. IsReason settings (hindrance_of f)) (sym none) tt
hindered settings fault (inr is) = reason-is settings fault is

pub returns-in-Err-clause-refused : goal.returns-in-Err-clause-refused
returns-in-Err-clause-refused g c = subst (IsReason c.args.settings) (sym c.hindrance_of.ensures.reason)
    (hindered c.args.settings c.in-Err.fault c.in-Err.ensures.refused)
