use Rattle.std.proofs.Common.{sym, ◌∙◌}
use Rattle.vrx_program.proofs.SettingsLemmas.{head-none, head-unless_fault, head-right}
use Rattle.vrx_program.proofs.inspect.has_right_settings.Goals as goal

pub returns-in_default : goal.returns-in_default
returns-in_default c = record {
  right =
      sym (head-none c.args.line.now c.requires.short (sym c.read_settings.ensures.settings ∙ c.in_default.is));
}

pub returns-in-None : goal.returns-in-None
returns-in-None c = record {
  right = sym (head-unless_fault c.args.line.now c.requires.short c.in-Some.field-0-0 c.in-Some.settings
      (sym c.read_settings.ensures.settings ∙ c.in-Some.is) c.in-None.ensures.fault);
}

pub returns-in-Some-fault_of : goal.returns-in-Some-fault_of
returns-in-Some-fault_of c =
    record {
      right = head-right c.args.line.now c.requires.short c.in-Some.field-0-0 c.in-Some.settings
          (sym c.read_settings.ensures.settings ∙ c.in-Some.is) c.in-Some-fault_of.fault
          c.in-Some-fault_of.ensures.fault
          c.is_right_with.result c.is_right_with.ensures.right c.is_right_with.ensures.no_memory;
    }
