use Rattle.std.proofs.Common.{◌≤◌, ◌∙◌, List, [], ap, arith, refl, subst, sym}
use Rattle.flash_pages.specs.Chip.{Page}
use Rattle.flash_pages.specs.declared.chip.Geometry.{Geometry}
use Rattle.region_state.specs.declared.shape.Shape.{Shape}
use Rattle.hpb_device.specs.Standing.{DeviceStandsForeign, first_of}
use Rattle.hpb_device.specs.State.{IsSound}
use Rattle.trace_replay.specs.Beginning.{IsFresh, IsServedBy}
use Rattle.trace_replay.proofs.Naming.{replay_program}
use Rattle.trace_replay.specs.Programs.{ReplayServes}
use Rattle.trace_replay.proofs.Serving.{chip_refused}
use Rattle.trace_replay.proofs.Transcripts.{other_chip, same_chip, serves_no_unit, serves_unit}
use Rattle.trace_replay.proofs.program.run_replay.Goals as goal

pub returns-then-ne-clause-run : goal.returns-then-ne-clause-run
returns-then-ne-clause-run g c unit unit_is =
    chip_refused {source = c.args.source.now} (IsServedBy c.args.replayed.named.chip unit (g.F.Flash.geometry c.args.flash))
    (ReplayServes unit c.args.replayed.image c.args.tells_chip (g.F.Flash.geometry c.args.flash) (g.F.Flash.pages c.args.flash) (g.F.Flash.pages c.refused.result.flash) (g.F.Flash.faults c.args.flash) (g.F.Flash.faults c.refused.result.flash)
    (g.S.Source.left c.args.source.now) (g.S.Source.left c.args.source.now) (g.K.Sink.written c.args.sink.now) (g.K.Sink.written c.refused.new.sink)) _ _ c.refused.result.status
    (λ (is, limits, serves). other_chip _ _ _ c.ne.ensures c.if-ne.true (c.geometry.ensures ∙ is))
    refl (ap g.F.Flash.pages c.refused.ensures.flash) c.refused.ensures.refused

pub returns-in-Err-default-Geometry-clause-run : goal.returns-in-Err-default-Geometry-clause-run
returns-in-Err-default-Geometry-clause-run g c unit unit_is =
    let none = rw c.in-Err-default-Geometry.field-0-1-is at c.in-Err-default-Geometry.ensures.refused in
    chip_refused {source = c.args.source.now} (IsServedBy c.args.replayed.named.chip unit (g.F.Flash.geometry c.args.flash))
    (ReplayServes unit c.args.replayed.image c.args.tells_chip (g.F.Flash.geometry c.args.flash) (g.F.Flash.pages c.args.flash) (g.F.Flash.pages c.refused-in-Err-default-Geometry.result.flash) (g.F.Flash.faults c.args.flash) (g.F.Flash.faults c.refused-in-Err-default-Geometry.result.flash)
    (g.S.Source.left c.args.source.now) (g.S.Source.left c.args.source.now) (g.K.Sink.written c.args.sink.now) (g.K.Sink.written c.refused-in-Err-default-Geometry.new.sink)) _ _ c.refused-in-Err-default-Geometry.result.status
    (serves_no_unit _ _ unit c.args.replayed.named.unit unit_is none)
    refl (ap g.F.Flash.pages c.refused-in-Err-default-Geometry.ensures.flash ∙ ap g.F.Flash.pages c.in-Err-default-Geometry.ensures.given_back) c.refused-in-Err-default-Geometry.ensures.refused

pub replay_over-requires : goal.replay_over-requires
replay_over-requires g c =
    let made = c.in-Ok.ensures in
    record {
      begun = record {
        begins = made.begins;
        stands = made.stands;
        foreign = subst (λ (chip : List Page). ¬ IsSound c.in-Ok.device → DeviceStandsForeign c.in-Ok.device chip (first_of c.in-Ok.device) []) (sym made.pages) made.foreign;
        hints = made.hints;
        fetched = made.fetched;
        counted = made.counted;
      };
      some_page = subst (λ (chip : Geometry). 1 ≤ chip.pages) (sym made.geometry) (omega (arith, made.begun.1.limits.least_pages));
      unread = c.in-Ok-new.ensures.reader;
      fresh = c.in-Ok-new.ensures.output;
    }

pub returns-clause-run : goal.returns-clause-run
returns-clause-run g c unit unit_is =
    let made = c.in-Ok.ensures in
    let geometry = g.F.Flash.geometry c.args.flash in
    let (served, same) = serves_unit c.args.replayed.named.chip geometry unit c.args.replayed.named.unit unit_is (sym c.geometry.ensures ∙ same_chip _ _ _ c.ne.ensures c.if-ne.false) made.begun in
    let fresh : IsFresh c.in-Ok.device unit geometry (g.F.Flash.pages c.args.flash) (g.F.Flash.faults c.args.flash) = record {
      shape_is = made.shape ∙ same;
      luns = made.luns;
      units = made.units ∙ ap (λ (s : Shape). s.units) same;
      pages_are = made.pages;
      geometry_is = made.geometry;
      faults_are = made.faults;
      some_block = omega (arith, made.begun.1.limits.least_blocks);
      some_page = omega (arith, made.begun.1.limits.least_pages);
    } in
    replay_program unit c.args.replayed.image geometry _ _ _ _ _ _ _ _ _ _ c.replay_over.result.status served c.args.tells_chip
    (c.replay_over.ensures.run unit geometry (g.F.Flash.pages c.args.flash) (g.F.Flash.faults c.args.flash) fresh)

pub returns-clause-limits : goal.returns-clause-limits
returns-clause-limits g c done = c.in-Ok.ensures.begun.1.limits
