use Rattle.std.proofs.Common.{refl, subst}
use Rattle.vrx_program.specs.Counts.{IsCounted}
use Rattle.vrx_program.specs.DrillText.{drill_text}
use Rattle.vrx_program.specs.Words.{gives}
use Rattle.vrx_program.specs.Runs.{ReadsInStep}
use Rattle.vrx_program.specs.declared.word.Word.TheVariants.{Replay, Inspect}
use Rattle.vrx_program.proofs.DrillLemmas.{drill-complete, drill-no-word, honest-drill}
use Rattle.vrx_program.proofs.HonestLinesLemmas.{honest-lines}
use Rattle.vrx_program.proofs.WordsLemmas.{same_word}
use Rattle.vrx_program.proofs.RunsLemmas.{tells-still}
use Rattle.vrx_program.proofs.run.Goals as goal

pub returns-in-Some-Replay-clause-in_step : goal.returns-in-Some-Replay-clause-in_step
returns-in-Some-Replay-clause-in_step g c word is =
    subst (λ w. ReadsInStep (gives w) g.S.Source.is_read g.S.Source.left c.args.source.now c.drive.new.source
    (g.K.Sink.taken c.args.sink.now) (g.K.Sink.taken c.drive.new.sink))
    (same_word Replay word _ (rw c.in-Some-Replay.field-0-is at c.in-Some-Replay.ensures.word) is)
    c.drive.ensures.over.in_step

pub returns-in-Some-Replay-clause-tells : goal.returns-in-Some-Replay-clause-tells
returns-in-Some-Replay-clause-tells g c =
    tells-still (gives Replay) g.S.Source.is_read g.S.Source.left c.args.source.now c.drive.new.source
    (g.K.Sink.taken c.args.sink.now) (g.K.Sink.taken c.drive.new.sink) c.drive.ensures.over.in_step

pub returns-in-Some-Inspect-clause-in_step : goal.returns-in-Some-Inspect-clause-in_step
returns-in-Some-Inspect-clause-in_step g c word is =
    subst (λ w. ReadsInStep (gives w) g.S.Source.is_read g.S.Source.left c.args.source.now
    c.drive-in-Some-Inspect.new.source (g.K.Sink.taken c.args.sink.now)
    (g.K.Sink.taken c.drive-in-Some-Inspect.new.sink))
    (same_word Inspect word _ (rw c.in-Some-Inspect.field-0-is at c.in-Some-Inspect.ensures.word) is)
    c.drive-in-Some-Inspect.ensures.over.in_step

pub returns-in-Some-Inspect-clause-tells : goal.returns-in-Some-Inspect-clause-tells
returns-in-Some-Inspect-clause-tells g c =
    tells-still (gives Inspect) g.S.Source.is_read g.S.Source.left c.args.source.now
    c.drive-in-Some-Inspect.new.source (g.K.Sink.taken c.args.sink.now)
    (g.K.Sink.taken c.drive-in-Some-Inspect.new.sink) c.drive-in-Some-Inspect.ensures.over.in_step

pub returns-in-Some-Replay-clause-honest : goal.returns-in-Some-Replay-clause-honest
returns-in-Some-Replay-clause-honest g c words =
    honest-lines c.honest_call.ensures.honest c.lines_join.ensures.lines
    (g.S.Source.left c.args.source.now) c.drive.result (g.K.Sink.taken c.args.sink.now)
    (g.K.Sink.taken c.drive.new.sink) (g.S.Source.left c.drive.new.source) c.drive.ensures.over.ends

pub returns-in-None-clause-honest : goal.returns-in-None-clause-honest
returns-in-None-clause-honest g c words = absurd (c.in-None.ensures.word Replay words)

-- ---- the words of a drill

pub returns-in-None-clause-usage : goal.returns-in-None-clause-usage
returns-in-None-clause-usage g c =
    (λ is. (c.in-None.ensures.word, c.run_drill.ensures.usage.0 is), λ both. c.run_drill.ensures.usage.1 both.1)

pub returns-in-None-clause-untouched : goal.returns-in-None-clause-untouched
returns-in-None-clause-untouched g c is = (refl, c.run_drill.ensures.untouched is)

pub returns-in-None-clause-read_fault : goal.returns-in-None-clause-read_fault
returns-in-None-clause-read_fault g c is =
    let reads = g.S.Source.faults c.args.source.now in
    (subst (λ s. IsCounted s reads reads (g.K.Sink.faults c.args.sink.now) (g.K.Sink.faults c.run_drill.new.sink)) is
    (c.run_drill.ensures.counted reads)).0

pub returns-in-None-clause-write_fault : goal.returns-in-None-clause-write_fault
returns-in-None-clause-write_fault g c is =
    let reads = g.S.Source.faults c.args.source.now in
    (subst (λ s. IsCounted s reads reads (g.K.Sink.faults c.args.sink.now) (g.K.Sink.faults c.run_drill.new.sink)) is
    (c.run_drill.ensures.counted reads)).1

pub returns-in-None-clause-drill_ends : goal.returns-in-None-clause-drill_ends
returns-in-None-clause-drill_ends g c seed frames drill = c.run_drill.ensures.ends seed frames drill

pub returns-in-None-clause-drill_complete : goal.returns-in-None-clause-drill_complete
returns-in-None-clause-drill_complete g c seed frames drill no_fault =
    drill-complete c.run_drill.result (drill_text seed frames) (g.K.Sink.taken c.args.sink.now) (g.K.Sink.taken c.run_drill.new.sink)
    (g.S.Source.faults c.args.source.now) (g.K.Sink.faults c.args.sink.now) (g.K.Sink.faults c.run_drill.new.sink)
    (c.run_drill.ensures.ends seed frames drill) (c.run_drill.ensures.counted (g.S.Source.faults c.args.source.now)) no_fault

pub returns-in-Some-Replay-clause-usage : goal.returns-in-Some-Replay-clause-usage
returns-in-Some-Replay-clause-usage g c = (
  λ is. absurd (c.drive.ensures.status is),
  λ both. absurd (both.0 Replay (rw c.in-Some-Replay.field-0-is at c.in-Some-Replay.ensures.word)),
)

pub returns-in-Some-Inspect-clause-usage : goal.returns-in-Some-Inspect-clause-usage
returns-in-Some-Inspect-clause-usage g c = (
  λ is. absurd (c.drive-in-Some-Inspect.ensures.status is),
  λ both. absurd (both.0 Inspect (rw c.in-Some-Inspect.field-0-is at c.in-Some-Inspect.ensures.word)),
)

pub returns-in-Some-Replay-clause-drill_reads : goal.returns-in-Some-Replay-clause-drill_reads
returns-in-Some-Replay-clause-drill_reads g c seed frames drill =
    absurd (drill-no-word Replay seed frames _ (rw c.in-Some-Replay.field-0-is at c.in-Some-Replay.ensures.word) drill)

pub returns-in-Some-Replay-clause-drill_ends : goal.returns-in-Some-Replay-clause-drill_ends
returns-in-Some-Replay-clause-drill_ends g c seed frames drill =
    absurd (drill-no-word Replay seed frames _ (rw c.in-Some-Replay.field-0-is at c.in-Some-Replay.ensures.word) drill)

pub returns-in-Some-Replay-clause-drill_complete : goal.returns-in-Some-Replay-clause-drill_complete
returns-in-Some-Replay-clause-drill_complete g c seed frames drill =
    absurd (drill-no-word Replay seed frames _ (rw c.in-Some-Replay.field-0-is at c.in-Some-Replay.ensures.word) drill)

pub returns-in-Some-Inspect-clause-drill_reads : goal.returns-in-Some-Inspect-clause-drill_reads
returns-in-Some-Inspect-clause-drill_reads g c seed frames drill =
    absurd (drill-no-word Inspect seed frames _ (rw c.in-Some-Inspect.field-0-is at c.in-Some-Inspect.ensures.word) drill)

pub returns-in-Some-Inspect-clause-drill_ends : goal.returns-in-Some-Inspect-clause-drill_ends
returns-in-Some-Inspect-clause-drill_ends g c seed frames drill =
    absurd (drill-no-word Inspect seed frames _ (rw c.in-Some-Inspect.field-0-is at c.in-Some-Inspect.ensures.word) drill)

pub returns-in-Some-Inspect-clause-drill_complete : goal.returns-in-Some-Inspect-clause-drill_complete
returns-in-Some-Inspect-clause-drill_complete g c seed frames drill =
    absurd (drill-no-word Inspect seed frames _ (rw c.in-Some-Inspect.field-0-is at c.in-Some-Inspect.ensures.word) drill)

-- ---- a drill is an honest call

pub returns-in-None-clause-drill_honest : goal.returns-in-None-clause-drill_honest
returns-in-None-clause-drill_honest g c seed frames drill few =
    honest-drill c.honest_call.ensures.honest c.honest_sender.ensures.honest c.honest_network.ensures.honest seed frames few

pub returns-in-Some-Replay-clause-drill_honest : goal.returns-in-Some-Replay-clause-drill_honest
returns-in-Some-Replay-clause-drill_honest g c seed frames drill few =
    honest-drill c.honest_call.ensures.honest c.honest_sender.ensures.honest c.honest_network.ensures.honest seed frames few

pub returns-in-Some-Inspect-clause-drill_honest : goal.returns-in-Some-Inspect-clause-drill_honest
returns-in-Some-Inspect-clause-drill_honest g c seed frames drill few =
    honest-drill c.honest_call.ensures.honest c.honest_sender.ensures.honest c.honest_network.ensures.honest seed frames few
