use Rattle.std.proofs.Common.{subst}
use Rattle.chip_image.specs.Load.{Loads}
use Rattle.flash_store.specs.Store.{StoreState}
use Rattle.flash_store.proofs.store.Store.load.Goals as goal

pub returns-clause-loads : goal.returns-clause-loads
returns-clause-loads g c = subst
    (λ (s : StoreState). Loads s.geometry s.pages (g.F.Flash.pages c.load_image-loaded.new.flash) (g.S.Source.left c.args.source.now) (g.S.Source.left c.load_image-loaded.new.source) c.load_image-loaded.result)
    c.self.view_is c.load_image-loaded.ensures.loads
