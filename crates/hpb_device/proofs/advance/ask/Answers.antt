use Rattle.std.proofs.Common.{◌≡◌, ◌-◌, ◌<◌, min, arith, inl, refl, rules}
use Rattle.hpb_device.specs.Task.{bytes_taken}
use Rattle.hpb_device.proofs.Left.{asked_fewer}
use Rattle.hpb_device.proofs.advance.ask.Goals as goal

pub returns-then-left-eq0-clause-advances : goal.returns-then-left-eq0-clause-advances
returns-then-left-eq0-clause-advances g c =
    let ok = c.requires.task in (
      inl (
        record {
          sent = omega (arith, ok.within.sent, ok.accepted.given, c.requires.gives);
          come = omega (arith, c.requires.come, c.requires.bytes, ok.within.asked);
          programmed = c.requires.programmed;
        },
        c.good.ensures,
      ),
      refl,
    )

pub returns-clause-advances : goal.returns-clause-advances
returns-clause-advances g c =
    let task = c.args.task in
    let more : task.asked < bytes_taken task.command = omega (arith, c.requires.bytes) in
    let counted : c.min-count.result ≡ min 32768 (bytes_taken task.command - task.asked) = omega (arith, c.requires.bytes) in (
      (
        c.min-count.result,
        record {
          all_come = c.requires.come;
          all_programmed = c.requires.programmed;
          more = more;
          counted = counted;
          sent = search rules;
          task_is = refl;
        },
      ),
      refl,
      search rules,
    )

pub returns-clause-fewer : goal.returns-clause-fewer
returns-clause-fewer g c =
    let task = c.args.task in
    let more : task.asked < bytes_taken task.command = omega (arith, c.requires.bytes) in
    let counted : c.min-count.result ≡ min 32768 (bytes_taken task.command - task.asked) = omega (arith, c.requires.bytes) in
    λ pages wait. asked_fewer c.args.limits pages wait task c.min-count.result c.requires.task.accepted.served more c.requires.task.within.whole_asked counted
