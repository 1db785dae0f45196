use Rattle.std.proofs.Common.{rules}
use Rattle.drive_run.proofs.Runs.{drain_cut, drive_ends, room_cut}
use Rattle.drive_run.proofs.run.end_of_drive.Goals.{then-is_err-via-then-is_err, then-is_err-via-else-is_err+then-is_err-2}
use Rattle.drive_run.proofs.run.end_of_drive.Goals as goal

pub returns-then-is_err-clause-ends : goal.returns-then-is_err-clause-ends
returns-then-is_err-clause-ends g c = elim c.then-is_err.branch [
  | then-is_err-via-then-is_err w ↦ rw w.sink-is (drain_cut _ _ _ _ _ _ _ _ _ c.drain.result c.drain.ensures.plays c.drain.ensures.cause (search rules))
  | then-is_err-via-else-is_err+then-is_err-2 w ↦
      rw w.sink-is (room_cut _ _ _ _ _ _ _ _ _ _ _ _ c.drain.result w.make_room.result c.drain.ensures.plays c.drain.ensures.cause
      (search rules) w.make_room.ensures.text w.make_room.ensures.cause (search rules))
]

pub returns-clause-ends : goal.returns-clause-ends
returns-clause-ends g c =
    drive_ends _ _ _ _ _ _ _ _ _ _ _ _ c.drain.result c.make_room.result c.drain.ensures.plays c.drain.ensures.cause (search rules) c.make_room.ensures.text c.make_room.ensures.cause
    c.push_counts.new.self _ _ c.finish.result (search rules) (rw c.counts.ensures at c.push_counts.ensures) c.finish.ensures.ends
