use Rattle.std.proofs.Common.{◌≡◌, ◌≤◌, ◌∙◌, ap, arith, inl, refl, subst, sym}
use Rattle.std.specs.Prelude.{⊤}
use Rattle.flash_pages.specs.declared.chip.Geometry.{Geometry}
use Rattle.region_state.specs.declared.shape.Shape.{Shape}
use Rattle.drive_rules.specs.Lines.{drive_begun}
use Rattle.hpb_device.specs.State.{DeviceState}
use Rattle.hpb_link.specs.Stands.{AtDrive}
use Rattle.hpb_link.specs.State.{LinkState}
use Rattle.trace_replay.specs.Beginning.{IsFresh, IsServedBy, link_begun}
use Rattle.trace_replay.specs.Making.{MadeIs}
use Rattle.trace_replay.proofs.Driven.{begins_at}
use Rattle.trace_replay.proofs.Naming.{made_or_starved}
use Rattle.trace_replay.proofs.Serving.{program_refused}
use Rattle.trace_replay.proofs.Transcripts.{other_chip, same_chip, serves_no_unit, serves_unit}
use Rattle.trace_replay.proofs.made.run_gen.Goals as goal

pub returns-then-ne-clause-run : goal.returns-then-ne-clause-run
returns-then-ne-clause-run g c unit unit_is =
    program_refused ⊤ (IsServedBy c.args.generated.named.chip unit (g.F.Flash.geometry c.args.flash)) (g.F.Flash.pages c.refused.result.flash ≡ g.F.Flash.pages c.args.flash)
    (MadeIs unit c.args.generated.plain c.args.generated.seed (g.F.Flash.geometry c.args.flash) (g.F.Flash.pages c.args.flash) (g.F.Flash.pages c.refused.result.flash)
    (g.F.Flash.faults c.args.flash) (g.F.Flash.faults c.refused.result.flash) (g.K.Sink.written c.args.sink.now) (g.K.Sink.written c.refused.new.sink)) _ _ c.refused.result.status tt
    (λ (is, limits, serves). other_chip _ _ _ c.ne.ensures c.if-ne.true (c.geometry.ensures ∙ is))
    (ap g.F.Flash.pages c.refused.ensures.flash) c.refused.ensures.refused

pub returns-in-Err-default-Geometry-clause-run : goal.returns-in-Err-default-Geometry-clause-run
returns-in-Err-default-Geometry-clause-run g c unit unit_is =
    let none = rw c.in-Err-default-Geometry.field-0-1-is at c.in-Err-default-Geometry.ensures.refused in
    let back = c.refused-in-Err-default-Geometry.result.flash in
    program_refused ⊤ (IsServedBy c.args.generated.named.chip unit (g.F.Flash.geometry c.args.flash)) (g.F.Flash.pages back ≡ g.F.Flash.pages c.args.flash)
    (MadeIs unit c.args.generated.plain c.args.generated.seed (g.F.Flash.geometry c.args.flash) (g.F.Flash.pages c.args.flash) (g.F.Flash.pages back)
    (g.F.Flash.faults c.args.flash) (g.F.Flash.faults back) (g.K.Sink.written c.args.sink.now) (g.K.Sink.written c.refused-in-Err-default-Geometry.new.sink)) _ _
    c.refused-in-Err-default-Geometry.result.status tt
    (serves_no_unit _ _ unit c.args.generated.named.unit unit_is none)
    (ap g.F.Flash.pages c.refused-in-Err-default-Geometry.ensures.flash ∙ ap g.F.Flash.pages c.in-Err-default-Geometry.ensures.given_back) c.refused-in-Err-default-Geometry.ensures.refused

pub make_drive-requires : goal.make_drive-requires
make_drive-requires g c =
    let made = c.in-Ok.ensures in
    let is = c.in-Ok-link_of.ensures.begun in
    let device : c.in-Ok-link_of.link.device ≡ c.in-Ok.device = ap (λ (l : LinkState). l.device) is in
    record {
      begun = subst (λ (l : LinkState). AtDrive l.device l (drive_begun l.driver)) (sym is)
          (begins_at c.in-Ok.device c.args.generated.plain c.args.generated.named.unit made.tasks made.counts made.hints made.fetched made.counted made.scanned
          (subst (λ (chip : Geometry). 1 ≤ chip.pages) (sym made.geometry) (omega (arith, made.begun.1.limits.least_pages))) made.begun.0 made.shape made.luns);
      link = is ∙ (λ i. link_begun (sym device i) c.args.generated.plain ((sym made.shape ∙ ap (λ (d : DeviceState). d.shape) (sym device)) i));
      units = made.begun.1.some_block;
    }

pub returns-in-Ok-link_of-clause-run : goal.returns-in-Ok-link_of-clause-run
returns-in-Ok-link_of-clause-run g c unit unit_is =
    let made = c.in-Ok.ensures in
    let geometry = g.F.Flash.geometry c.args.flash in
    let (served, same) = serves_unit c.args.generated.named.chip geometry unit c.args.generated.named.unit unit_is (sym c.geometry.ensures ∙ same_chip _ _ _ c.ne.ensures c.if-ne.false) made.begun in
    let fresh : IsFresh c.in-Ok.device unit geometry (g.F.Flash.pages c.args.flash) (g.F.Flash.faults c.args.flash) = record {
      shape_is = made.shape ∙ same;
      luns = made.luns;
      units = made.units ∙ ap (λ (s : Shape). s.units) same;
      pages_are = made.pages;
      geometry_is = made.geometry;
      faults_are = made.faults;
      some_block = omega (arith, made.begun.1.limits.least_blocks);
      some_page = omega (arith, made.begun.1.limits.least_pages);
    } in
    let device = ap (λ (l : LinkState). l.device) c.in-Ok-link_of.ensures.begun in
    made_or_starved unit c.args.generated.plain c.args.generated.seed geometry (g.F.Flash.pages c.args.flash) _ _ _ _ _ _ c.make_drive.result.status served
    (c.make_drive.ensures.run unit geometry (g.F.Flash.pages c.args.flash) (g.F.Flash.faults c.args.flash) same
    (subst (λ (d : DeviceState). IsFresh d unit geometry (g.F.Flash.pages c.args.flash) (g.F.Flash.faults c.args.flash)) (sym device) fresh))

pub returns-in-Err-clause-run : goal.returns-in-Err-clause-run
returns-in-Err-clause-run g c unit unit_is =
    let made = c.in-Ok.ensures in
    inl (c.into_flash.ensures.pages ∙ (ap (λ (d : DeviceState). d.store.pages) c.in-Err.ensures.back ∙ made.pages), refl)
