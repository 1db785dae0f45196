use Rattle.chip_image.proofs.Laying.{page_put}
use Rattle.chip_image.proofs.load.load_page.Goals as goal

pub returns-in-1-clause-lays : goal.returns-in-1-clause-lays
returns-in-1-clause-lays g c = λ geometry old pages is laid. page_put geometry c.args.version old pages (g.F.Flash.pages c.args.flash.now)
    (g.F.Flash.pages c.load_written.new.flash) (g.S.Source.left c.args.source.now) (g.S.Source.left c.read_whole.new.source) (g.S.Source.left c.load_written.new.source)
    c.read_whole.new.buf c.args.page c.load_written.result c.in_ok-read_whole.ensures.len c.in-1.is is laid c.requires.page c.in_ok-read_whole.ensures.bytes c.load_written.ensures.lays
