use Rattle.std.proofs.Common.{◌≡◌}
use Rattle.chip_image.proofs.Loading.{IsLoadedTo}
use Rattle.chip_image.proofs.load.load_image.Given as goal

abbrev pub invariant-loop-page : goal.invariant-loop-page
invariant-loop-page g l = record {
  loaded : IsLoadedTo (g.F.Flash.geometry l.fn.flash) (g.F.Flash.pages l.fn.flash) (g.F.Flash.pages l.flash) (g.S.Source.left l.fn.source) (g.S.Source.left l.source) l.version l.page;
  geometry : g.F.Flash.geometry l.flash ≡ g.F.Flash.geometry l.fn.flash;
  version : l.version ≡ l.initial.version;
  unread : g.S.Source.faults l.source ≡ g.S.Source.faults l.fn.source;
  unfailed : g.F.Flash.faults l.flash ≡ g.F.Flash.faults l.fn.flash;
}
