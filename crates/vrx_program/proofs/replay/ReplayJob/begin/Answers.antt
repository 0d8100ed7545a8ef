use Rattle.std.proofs.Common.{sym, ap, ◌∙◌}
use Rattle.std.specs.Prelude.{Some, Ok}
use Rattle.vrx_capture.specs.declared.settings_line.CodecName.TheVariants.{Vp8, H264}
use Rattle.vrx_text.specs.declared.transcript.ErrorReason.TheVariants.{Settings}
use Rattle.vrx_program.specs.Replay.{unless_fault}
use Rattle.vrx_program.proofs.ReplayLemmas.{replay-begins, replay-refusal, refusal-why}
use Rattle.vrx_program.proofs.SettingsLemmas.{settings-none, told-is}
use Rattle.vrx_program.proofs.replay.ReplayJob.begin.Goals as goal

pub returns-in_default-clause-refused : goal.returns-in_default-clause-refused
returns-in_default-clause-refused c =
    replay-refusal c.args.line.now Settings
    (settings-none c.args.line.now c.requires.short (sym c.read_settings.ensures.settings ∙ c.in_default.is))

pub returns-in-Ok-clause-begins : goal.returns-in-Ok-clause-begins
returns-in-Ok-clause-begins c = replay-begins c.args.line.now Vp8 c.in-Ok.engine.settings
    ((told-is c.args.line.now c.requires.short Vp8 c.in-Some.settings
    (sym c.read_settings.ensures.settings ∙ c.in-Some.is ∙ ap (λ name. Some (name, c.in-Some.settings)) c.in-Vp8.is))
    ∙ ap (unless_fault Vp8 c.in-Some.settings) c.in-Ok.ensures.settings.0
    ∙ ap (λ s. Ok (Vp8, s)) (sym c.in-Ok.ensures.settings.1))

pub returns-in-Err-clause-refused : goal.returns-in-Err-clause-refused
returns-in-Err-clause-refused c =
    refusal-why c.args.line.now Vp8 c.in-Some.settings
    (told-is c.args.line.now c.requires.short Vp8 c.in-Some.settings
    (sym c.read_settings.ensures.settings ∙ c.in-Some.is ∙ ap (λ name. Some (name, c.in-Some.settings)) c.in-Vp8.is))
    c.in-Err.why c.in-Err.ensures.refused

pub returns-in-Ok-engine_for-clause-begins : goal.returns-in-Ok-engine_for-clause-begins
returns-in-Ok-engine_for-clause-begins c = replay-begins c.args.line.now H264 c.in-Ok-engine_for.engine.settings
    ((told-is c.args.line.now c.requires.short H264 c.in-Some.settings
    (sym c.read_settings.ensures.settings ∙ c.in-Some.is ∙ ap (λ name. Some (name, c.in-Some.settings)) c.in-H264.is))
    ∙ ap (unless_fault H264 c.in-Some.settings) c.in-Ok-engine_for.ensures.settings.0
    ∙ ap (λ s. Ok (H264, s)) (sym c.in-Ok-engine_for.ensures.settings.1))

pub returns-in-Err-engine_for-clause-refused : goal.returns-in-Err-engine_for-clause-refused
returns-in-Err-engine_for-clause-refused c =
    refusal-why c.args.line.now H264 c.in-Some.settings
    (told-is c.args.line.now c.requires.short H264 c.in-Some.settings
    (sym c.read_settings.ensures.settings ∙ c.in-Some.is ∙ ap (λ name. Some (name, c.in-Some.settings)) c.in-H264.is))
    c.in-Err-engine_for.why c.in-Err-engine_for.ensures.refused
