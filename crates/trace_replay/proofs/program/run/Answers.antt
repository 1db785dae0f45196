use Rattle.trace_replay.proofs.Commands.{replay_no_drive, replay_no_gen, replay_no_show, replay_no_snap}
use Rattle.trace_replay.proofs.Flat.{answers_flat}
use Rattle.trace_replay.proofs.Headline.{drains_all, ends_by_text, shows_by_text, tells_allowed, tells_good, tells_unready}
use Rattle.trace_replay.proofs.program.run.Goals as goal

pub returns-clause-reads_allowed : goal.returns-clause-reads_allowed
returns-clause-reads_allowed g c planned =
    tells_allowed _ _ _ _ _ _ _ _ _ _ _ c.run_command.result.status planned (c.run_command.ensures.run (replay_no_show _ planned.0) (replay_no_snap _ planned.0) (replay_no_drive _ planned.0) (replay_no_gen _ planned.0))

pub returns-clause-reads_good : goal.returns-clause-reads_good
returns-clause-reads_good g c planned =
    tells_good _ _ _ _ _ _ _ _ _ _ _ c.run_command.result.status planned (c.run_command.ensures.run (replay_no_show _ planned.0) (replay_no_snap _ planned.0) (replay_no_drive _ planned.0) (replay_no_gen _ planned.0))

pub returns-clause-unready : goal.returns-clause-unready
returns-clause-unready g c planned =
    tells_unready _ _ _ _ _ _ _ _ _ _ _ c.run_command.result.status planned (c.run_command.ensures.run (replay_no_show _ planned.0) (replay_no_snap _ planned.0) (replay_no_drive _ planned.0) (replay_no_gen _ planned.0))

pub returns-clause-drained : goal.returns-clause-drained
returns-clause-drained g c replays done =
    drains_all _ _ _ _ _ _ _ _ _ _ _ c.run_command.result.status (c.run_command.ensures.run (replay_no_show _ replays) (replay_no_snap _ replays) (replay_no_drive _ replays) (replay_no_gen _ replays)) done

pub returns-clause-by_text : goal.returns-clause-by_text
returns-clause-by_text g c planned =
    ends_by_text _ _ _ _ _ _ _ _ _ _ _ c.run_command.result.status planned (c.run_command.ensures.run (replay_no_show _ planned.0) (replay_no_snap _ planned.0) (replay_no_drive _ planned.0) (replay_no_gen _ planned.0)) _ _ _ _
    c.run_command.ensures.source_faults
    c.run_command.ensures.sink_faults

pub returns-clause-shown_by_text : goal.returns-clause-shown_by_text
returns-clause-shown_by_text g c shows =
    shows_by_text _ _ _ _ _ _ _ _ c.run_command.result.status (c.run_command.ensures.show shows) c.run_command.ensures.source_faults c.run_command.ensures.sink_faults

pub returns-clause-flat_answers : goal.returns-clause-flat_answers
returns-clause-flat_answers g c drives done =
    answers_flat _ _ _ _ _ _ _ _ _ _ _ c.run_command.result.status (c.run_command.ensures.drive drives) done
