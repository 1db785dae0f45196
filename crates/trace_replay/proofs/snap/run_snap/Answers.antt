use Rattle.std.proofs.Common.{◌≡◌, ◌≢◌, ◌∙◌, List, false, subst, sym}
use Rattle.flash_pages.specs.declared.chip.Geometry.{Geometry}
use Rattle.flash_pages.specs.Chip.{Page}
use Rattle.chip_image.specs.Image.{image_of}
use Rattle.chip_image.specs.declared.version.Version.TheVariants as version
use Rattle.run_output.specs.declared.status.Status.TheVariants.{Done}
use Rattle.std.proofs.lemmas.Bool.{false≢true}
use Rattle.trace_replay.specs.Beginning.{IsServedBy}
use Rattle.trace_replay.specs.Programs.{ReplayServes}
use Rattle.trace_replay.specs.Run.{WritesImage}
use Rattle.trace_replay.proofs.Snapping.{snap_ends, snap_goes_on}
use Rattle.trace_replay.proofs.snap.run_snap.Goals as goal

pub returns-then-is_done-clause-run : goal.returns-then-is_done-clause-run
returns-then-is_done-clause-run g c unit unit_is =
    let before = c.run_replay-outcome.result.flash in
    let geometry = g.F.Flash.geometry c.args.flash in
    let back = g.F.Flash.pages c.write_image-outcome.new.flash in
    let done : c.run_replay-outcome.result.status ≡ Done = c.is_done.ensures.0 c.if-is_done.true in
    let (_, named, serves) = rw done at (c.run_replay-outcome.ensures.run unit unit_is) in
    snap_goes_on unit c.args.replayed.image geometry (g.F.Flash.pages c.args.flash) back (g.F.Flash.faults c.args.flash) (g.S.Source.left c.args.source.now)
    (g.S.Source.left c.run_replay-outcome.new.source)
    (g.K.Sink.written c.args.sink.now) (IsServedBy c.args.replayed.named.chip unit geometry) _ (g.F.Flash.faults before) (g.F.Flash.faults c.write_image-outcome.new.flash)
    (g.K.Sink.written c.run_replay-outcome.new.sink)
    (g.K.Sink.written c.write_image-outcome.new.sink) c.write_image-outcome.result named
    (subst (λ (b : List Page). ReplayServes unit c.args.replayed.image false geometry (g.F.Flash.pages c.args.flash) b (g.F.Flash.faults c.args.flash) (g.F.Flash.faults before)
    (g.S.Source.left c.args.source.now)
    (g.S.Source.left c.run_replay-outcome.new.source) (g.K.Sink.written c.args.sink.now) (g.K.Sink.written c.run_replay-outcome.new.sink) Done) (sym c.write_image-outcome.ensures.pages) serves)
    (subst (λ (b : List Page). WritesImage (image_of version.Two geometry b) (g.F.Flash.faults before) (g.F.Flash.faults c.write_image-outcome.new.flash)
    (g.K.Sink.written c.run_replay-outcome.new.sink)
    (g.K.Sink.written c.write_image-outcome.new.sink) c.write_image-outcome.result) (sym c.write_image-outcome.ensures.pages)
    (subst (λ (x : Geometry). WritesImage (image_of version.Two x (g.F.Flash.pages before)) (g.F.Flash.faults before) (g.F.Flash.faults c.write_image-outcome.new.flash)
    (g.K.Sink.written c.run_replay-outcome.new.sink)
    (g.K.Sink.written c.write_image-outcome.new.sink) c.write_image-outcome.result) c.run_replay-outcome.ensures.geometry c.write_image-outcome.ensures.writes))

pub returns-else-is_done-clause-run : goal.returns-else-is_done-clause-run
returns-else-is_done-clause-run g c unit unit_is =
    let other : c.run_replay-outcome.result.status ≢ Done = λ is. false≢true (sym c.if-is_done.false ∙ c.is_done.ensures.1 is) in
    snap_ends unit c.args.replayed.image (g.F.Flash.geometry c.args.flash) _ _ _ _ _ _ _ _ _ _ c.run_replay-outcome.result.status other (c.run_replay-outcome.ensures.run unit unit_is)
