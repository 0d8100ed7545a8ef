use Rattle.vrx_capture.proofs.SettingsLineLemmas.{settings_mean}
use Rattle.vrx_capture.proofs.settings_laws.settings_lines_mean.Goals as goal

pub returns : goal.returns
returns c = record { spelled = settings_mean }
