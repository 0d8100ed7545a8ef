use Rattle.std.proofs.Common.{sym, ◌∙◌}
use Rattle.vrx_core.specs.declared.settings.NewFault.TheVariants.{BadType, SameType, SameSsrc, RedMissing, BadInterval}
use Rattle.vrx_core.proofs.machine.SettingsLemmas.{fault-bad_type, fault-same_type, fault-same_ssrc, fault-red_missing, fault-bad_interval, told-fault, told-none, never-fault}
use Rattle.vrx_core.proofs.engine.Engine.new.Goals as goal

pub returns-in-Some-clause-bad_type : goal.returns-in-Some-clause-bad_type
returns-in-Some-clause-bad_type g c =
    told-fault c.args.settings c.in-Some.fault BadType (sym c.fault_of.ensures ∙ c.in-Some.is)
    (fault-bad_type c.args.settings)

pub returns-in-None-clause-bad_type : goal.returns-in-None-clause-bad_type
returns-in-None-clause-bad_type g c =
    told-none c.args.settings c.with_settings.result BadType
    (sym c.fault_of.ensures ∙ c.in-None.is) c.with_settings.ensures.no_memory (λ e. cc)
    (fault-bad_type c.args.settings)

pub returns-in-Some-clause-same_type : goal.returns-in-Some-clause-same_type
returns-in-Some-clause-same_type g c =
    told-fault c.args.settings c.in-Some.fault SameType (sym c.fault_of.ensures ∙ c.in-Some.is)
    (fault-same_type c.args.settings)

pub returns-in-None-clause-same_type : goal.returns-in-None-clause-same_type
returns-in-None-clause-same_type g c =
    told-none c.args.settings c.with_settings.result SameType
    (sym c.fault_of.ensures ∙ c.in-None.is) c.with_settings.ensures.no_memory (λ e. cc)
    (fault-same_type c.args.settings)

pub returns-in-Some-clause-same_ssrc : goal.returns-in-Some-clause-same_ssrc
returns-in-Some-clause-same_ssrc g c =
    told-fault c.args.settings c.in-Some.fault SameSsrc (sym c.fault_of.ensures ∙ c.in-Some.is)
    (fault-same_ssrc c.args.settings)

pub returns-in-None-clause-same_ssrc : goal.returns-in-None-clause-same_ssrc
returns-in-None-clause-same_ssrc g c =
    told-none c.args.settings c.with_settings.result SameSsrc
    (sym c.fault_of.ensures ∙ c.in-None.is) c.with_settings.ensures.no_memory (λ e. cc)
    (fault-same_ssrc c.args.settings)

pub returns-in-Some-clause-red_missing : goal.returns-in-Some-clause-red_missing
returns-in-Some-clause-red_missing g c =
    told-fault c.args.settings c.in-Some.fault RedMissing (sym c.fault_of.ensures ∙ c.in-Some.is)
    (fault-red_missing c.args.settings)

pub returns-in-None-clause-red_missing : goal.returns-in-None-clause-red_missing
returns-in-None-clause-red_missing g c =
    told-none c.args.settings c.with_settings.result RedMissing
    (sym c.fault_of.ensures ∙ c.in-None.is) c.with_settings.ensures.no_memory (λ e. cc)
    (fault-red_missing c.args.settings)

pub returns-in-Some-clause-bad_interval : goal.returns-in-Some-clause-bad_interval
returns-in-Some-clause-bad_interval g c =
    told-fault c.args.settings c.in-Some.fault BadInterval (sym c.fault_of.ensures ∙ c.in-Some.is)
    (fault-bad_interval c.args.settings)

pub returns-in-None-clause-bad_interval : goal.returns-in-None-clause-bad_interval
returns-in-None-clause-bad_interval g c =
    told-none c.args.settings c.with_settings.result BadInterval
    (sym c.fault_of.ensures ∙ c.in-None.is) c.with_settings.ensures.no_memory (λ e. cc)
    (fault-bad_interval c.args.settings)

pub returns-in-Some-clause-no_memory : goal.returns-in-Some-clause-no_memory
returns-in-Some-clause-no_memory g c memory =
    absurd (never-fault c.args.settings c.in-Some.fault (sym c.fault_of.ensures ∙ c.in-Some.is) memory)
