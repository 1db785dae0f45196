use Rattle.std.proofs.Common.{◌≡◌}
use Rattle.chip_image.proofs.Dumping.{IsDumpedTo}
use Rattle.chip_image.proofs.dump.dump_image.Given as goal

abbrev pub invariant-loop-page : goal.invariant-loop-page
invariant-loop-page g l = record {
  dumped : IsDumpedTo (g.F.Flash.geometry l.fn.flash) (g.F.Flash.pages l.fn.flash) (g.K.Sink.written l.fn.sink) (g.K.Sink.written l.sink) l.page;
  pages : g.F.Flash.pages l.flash ≡ g.F.Flash.pages l.fn.flash;
  geometry : g.F.Flash.geometry l.flash ≡ g.F.Flash.geometry l.fn.flash;
  unwritten : g.K.Sink.faults l.sink ≡ g.K.Sink.faults l.fn.sink;
  unfailed : g.F.Flash.faults l.flash ≡ g.F.Flash.faults l.fn.flash;
}
