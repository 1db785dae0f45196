use Rattle.std.proofs.Common.{◌≡◌, ◌≤◌, ◌∙◌, List, [], ap, arith, inl, refl, subst, sym}
use Rattle.flash_pages.specs.Chip.{Page}
use Rattle.flash_pages.specs.declared.chip.Geometry.{Geometry}
use Rattle.region_state.specs.declared.shape.Shape.{Shape}
use Rattle.hpb_device.specs.Begun.{IsBegun}
use Rattle.hpb_device.specs.Standing.{DeviceStandsForeign, first_of}
use Rattle.hpb_device.specs.State.{DeviceState, IsSound}
use Rattle.hpb_driver.specs.State.{CanDrive}
use Rattle.hpb_link.specs.State.{LinkState}
use Rattle.trace_replay.specs.Beginning.{IsFresh, IsServedBy, link_begun}
use Rattle.trace_replay.proofs.Driven.{can_drive}
use Rattle.trace_replay.proofs.Naming.{drive_or_starved}
use Rattle.trace_replay.specs.Programs.{DriveServes}
use Rattle.trace_replay.proofs.Serving.{chip_refused}
use Rattle.trace_replay.proofs.Transcripts.{other_chip, same_chip, serves_no_unit, serves_unit}
use Rattle.trace_replay.proofs.driving.run_drive.Goals as goal

pub returns-then-ne-clause-run : goal.returns-then-ne-clause-run
returns-then-ne-clause-run g c unit unit_is =
    chip_refused {source = c.args.source.now} (IsServedBy c.args.driven.named.chip unit (g.F.Flash.geometry c.args.flash))
    (DriveServes unit c.args.driven.plain c.args.driven.answers c.args.driven.image (g.F.Flash.geometry c.args.flash) (g.F.Flash.pages c.args.flash) (g.F.Flash.pages c.refused.result.flash) (g.F.Flash.faults c.args.flash) (g.F.Flash.faults c.refused.result.flash)
    (g.S.Source.left c.args.source.now) (g.S.Source.left c.args.source.now) (g.K.Sink.written c.args.sink.now) (g.K.Sink.written c.refused.new.sink)) _ _ c.refused.result.status
    (λ (is, limits, serves). other_chip _ _ _ c.ne.ensures c.if-ne.true (c.geometry.ensures ∙ is))
    refl (ap g.F.Flash.pages c.refused.ensures.flash) c.refused.ensures.refused

pub returns-in-Err-default-Geometry-clause-run : goal.returns-in-Err-default-Geometry-clause-run
returns-in-Err-default-Geometry-clause-run g c unit unit_is =
    let none = rw c.in-Err-default-Geometry.field-0-1-is at c.in-Err-default-Geometry.ensures.refused in
    chip_refused {source = c.args.source.now} (IsServedBy c.args.driven.named.chip unit (g.F.Flash.geometry c.args.flash))
    (DriveServes unit c.args.driven.plain c.args.driven.answers c.args.driven.image (g.F.Flash.geometry c.args.flash) (g.F.Flash.pages c.args.flash) (g.F.Flash.pages c.refused-in-Err-default-Geometry.result.flash) (g.F.Flash.faults c.args.flash) (g.F.Flash.faults c.refused-in-Err-default-Geometry.result.flash)
    (g.S.Source.left c.args.source.now) (g.S.Source.left c.args.source.now) (g.K.Sink.written c.args.sink.now) (g.K.Sink.written c.refused-in-Err-default-Geometry.new.sink)) _ _ c.refused-in-Err-default-Geometry.result.status
    (serves_no_unit _ _ unit c.args.driven.named.unit unit_is none)
    refl (ap g.F.Flash.pages c.refused-in-Err-default-Geometry.ensures.flash ∙ ap g.F.Flash.pages c.in-Err-default-Geometry.ensures.given_back) c.refused-in-Err-default-Geometry.ensures.refused

pub drive_over-requires : goal.drive_over-requires
drive_over-requires g c =
    let made = c.in-Ok.ensures in
    let is = c.in-Ok-link_of.ensures.begun in
    let device : c.in-Ok-link_of.link.device ≡ c.in-Ok.device = ap (λ (l : LinkState). l.device) is in
    let begun : IsBegun c.in-Ok.device = record {
      begins = made.begins;
      stands = made.stands;
      foreign = subst (λ (chip : List Page). ¬ IsSound c.in-Ok.device → DeviceStandsForeign c.in-Ok.device chip (first_of c.in-Ok.device) []) (sym made.pages) made.foreign;
      hints = made.hints;
      fetched = made.fetched;
      counted = made.counted;
    } in
    record {
      begun = subst IsBegun (sym device) begun;
      some_page = subst (λ (d : DeviceState). 1 ≤ d.store.geometry.pages) (sym device)
          (subst (λ (chip : Geometry). 1 ≤ chip.pages) (sym made.geometry) (omega (arith, made.begun.1.limits.least_pages)));
      serves = subst (λ (d : DeviceState). CanDrive d.shape 1) (sym device) (subst (λ (s : Shape). CanDrive s 1) (sym made.shape) (can_drive c.args.driven.named.unit made.begun.0));
      one = ap (λ (d : DeviceState). d.store.luns) device ∙ made.luns;
      link = is ∙ (λ i. link_begun (sym device i) c.args.driven.plain ((sym made.shape ∙ ap (λ (d : DeviceState). d.shape) (sym device)) i));
    }

pub returns-in-Ok-link_of-clause-run : goal.returns-in-Ok-link_of-clause-run
returns-in-Ok-link_of-clause-run g c unit unit_is =
    let made = c.in-Ok.ensures in
    let geometry = g.F.Flash.geometry c.args.flash in
    let (served, same) = serves_unit c.args.driven.named.chip geometry unit c.args.driven.named.unit unit_is (sym c.geometry.ensures ∙ same_chip _ _ _ c.ne.ensures c.if-ne.false) made.begun in
    let fresh : IsFresh c.in-Ok.device unit geometry (g.F.Flash.pages c.args.flash) (g.F.Flash.faults c.args.flash) = record {
      shape_is = made.shape ∙ same;
      luns = made.luns;
      units = made.units ∙ ap (λ (s : Shape). s.units) same;
      pages_are = made.pages;
      geometry_is = made.geometry;
      faults_are = made.faults;
      some_block = omega (arith, made.begun.1.limits.least_blocks);
      some_page = omega (arith, made.begun.1.limits.least_pages);
    } in
    let device = ap (λ (l : LinkState). l.device) c.in-Ok-link_of.ensures.begun in
    drive_or_starved unit c.args.driven.image geometry _ _ _ _ _ _ _ _ _ c.drive_over.result.status c.args.driven.plain c.args.driven.answers served
    (c.drive_over.ensures.run unit geometry (g.F.Flash.pages c.args.flash) (g.F.Flash.faults c.args.flash)
    (subst (λ (d : DeviceState). IsFresh d unit geometry (g.F.Flash.pages c.args.flash) (g.F.Flash.faults c.args.flash)) (sym device) fresh))

pub returns-in-Err-clause-run : goal.returns-in-Err-clause-run
returns-in-Err-clause-run g c unit unit_is =
    let made = c.in-Ok.ensures in
    inl ((refl, c.into_flash.ensures.pages ∙ (ap (λ (d : DeviceState). d.store.pages) c.in-Err.ensures.back ∙ made.pages)), refl)
