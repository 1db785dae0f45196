use Rattle.trace_replay.proofs.MadeDrives.{quiet_source}
use Rattle.trace_replay.proofs.Naming.{drive_named, gen_named, replay_named, snap_named}
use Rattle.trace_replay.proofs.program.run_command.Goals as goal

pub returns-in-Ok-Replay-clause-run : goal.returns-in-Ok-Replay-clause-run
returns-in-Ok-Replay-clause-run g c other1 other2 other3 other4 =
    let is = rw c.in-Ok-Replay.field-0-is at c.in-Ok-Replay.ensures.command in
    replay_named _ _ _ _ _ _ _ _ _ _ _ _ _ c.run_replay.result.status is.0 is.1 is.3 (c.run_replay.ensures.run _ is.2)

pub returns-in-Ok-Snap-clause-snap : goal.returns-in-Ok-Snap-clause-snap
returns-in-Ok-Snap-clause-snap g c snaps =
    let is = rw c.in-Ok-Snap.field-0-is at c.in-Ok-Snap.ensures.command in
    snap_named _ _ _ _ _ _ _ _ _ _ _ _ _ c.run_snap.result.status is.0 is.1 is.3 (c.run_snap.ensures.run _ is.2)

pub returns-in-Ok-Drive-clause-drive : goal.returns-in-Ok-Drive-clause-drive
returns-in-Ok-Drive-clause-drive g c drives =
    let is = rw c.in-Ok-Drive.field-0-is at c.in-Ok-Drive.ensures.command in
    drive_named _ _ _ _ _ _ _ _ _ _ _ _ _ _ _ c.run_drive.result.status is.0 is.1 is.3 is.4 is.5 (c.run_drive.ensures.run _ is.2)

pub returns-in-Ok-Gen-clause-generated : goal.returns-in-Ok-Gen-clause-generated
returns-in-Ok-Gen-clause-generated g c gens =
    let is = rw c.in-Ok-Gen.field-0-is at c.in-Ok-Gen.ensures.command in
    gen_named _ _ _ _ _ _ _ _ _ _ _ _ c.run_gen.result.status is.0 is.1 is.4 is.3 (c.run_gen.ensures.run _ is.2)

pub returns-in-Ok-Gen-clause-source_faults : goal.returns-in-Ok-Gen-clause-source_faults
returns-in-Ok-Gen-clause-source_faults g c = quiet_source (g.S.Source.faults c.args.source.now) c.run_gen.result.status c.run_gen.ensures.reads
