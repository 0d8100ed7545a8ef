use Rattle.std.proofs.Common.{◌∙◌, refl, sym, ap}
use Rattle.vrx_program.specs.Replay.{unless_fault}
use Rattle.vrx_program.proofs.LiveReadLemmas.{fault-stopped}
use Rattle.vrx_program.proofs.SettingsLemmas.{settings-none, told-is}
use Rattle.vrx_program.proofs.live.told.read_first.Goals as goal

pub returns-in_default-clause-refused : goal.returns-in_default-clause-refused
returns-in_default-clause-refused c = (
  refl,
  settings-none c.args.line.now c.requires.short (sym c.read_settings.ensures.settings ∙ c.in_default.is),
)

pub returns-in-None-clause-told : goal.returns-in-None-clause-told
returns-in-None-clause-told c =
    told-is c.args.line.now c.requires.short c.in-Some.codec c.in-Some.settings
    (sym c.read_settings.ensures.settings ∙ c.in-Some.is)
    ∙ ap (unless_fault c.in-Some.codec c.in-Some.settings) c.in-None.ensures.fault

pub returns-in-Some-fault_of-clause-refused : goal.returns-in-Some-fault_of-clause-refused
returns-in-Some-fault_of-clause-refused c =
    fault-stopped c.args.line.now c.in-Some.codec c.in-Some.settings c.in-Some-fault_of.fault
    (told-is c.args.line.now c.requires.short c.in-Some.codec c.in-Some.settings
    (sym c.read_settings.ensures.settings ∙ c.in-Some.is))
    c.in-Some-fault_of.ensures.fault c.unread_of.result c.unread_of.ensures
