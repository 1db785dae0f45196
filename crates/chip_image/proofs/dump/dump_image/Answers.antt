use Rattle.std.proofs.Common.{◌≡◌, ◌<◌, ◌*◌, ℕ, List, rules, sym, subst, arith, Err, Result, ◌∙◌, ap}
use Rattle.flash_pages.specs.Chip.{Page, page_at}
use Rattle.flash_pages.specs.declared.chip.Geometry.{Geometry}
use Rattle.chip_image.specs.Image.{image_of, magic, page_bytes, shape_bytes}
use Rattle.hpb_outside.specs.Writes.{AppendsFront}
use Rattle.chip_image.specs.declared.version.Version.TheVariants.{Two}
use Rattle.std.specs.Prelude.{◌++◌}
use Rattle.std.specs.Io.KnownBytes.{Appends}
use Rattle.hpb_outside.proofs.Written.{writes_part}
use Rattle.chip_image.proofs.Dumping.{dump_begun, dump_cut, dump_more, dumped, head_cut}
use Rattle.chip_image.proofs.dump.dump_image.Goals as goal

pub returns-in_err-write_head-clause-writes : goal.returns-in_err-write_head-clause-writes
returns-in_err-write_head-clause-writes g c =
    let geometry = g.F.Flash.geometry c.args.flash.now in
    let pages = g.F.Flash.pages c.args.flash.now in
    let a = g.K.Sink.written c.args.sink.now in
    let b = g.K.Sink.written c.write_head.new.sink in
    writes_part a b (image_of Two geometry pages) c.from_residual.result c.from_residual.ensures.0
    (head_cut geometry pages a b
    (subst (λ (x : Geometry). AppendsFront a b (magic Two ++ shape_bytes x)) c.geometry-geometry.ensures c.in_err-write_head.ensures.writes))

pub loop-page-init : goal.loop-page-init
loop-page-init g c =
    let a = g.K.Sink.written c.args.sink.now in
    let b = g.K.Sink.written c.write_head.new.sink in
    record {
      dumped = dump_begun (g.F.Flash.geometry c.args.flash.now) (g.F.Flash.pages c.args.flash.now) a b
          (subst (λ (x : Geometry). Appends a b (magic Two ++ shape_bytes x)) c.geometry-geometry.ensures c.in_ok-write_head.ensures.writes);
      pages = search rules;
      geometry = search rules;
      unwritten = search rules;
      unfailed = search rules;
    }

pub dump_page-requires : goal.dump_page-requires
dump_page-requires g c =
    let whole = (g.met.F.Flash.whole c.loop-page.flash).count ∙ ap (λ (x : Geometry). x.blocks * x.pages) c.loop-page.invariant.geometry in
    let same = ap (λ (x : Geometry). x.blocks * x.pages) c.geometry-geometry.ensures in
    record { page = omega (arith, whole, same, c.loop-page-test.true) }

pub returns-in_err-dump_page-clause-writes : goal.returns-in_err-dump_page-clause-writes
returns-in_err-dump_page-clause-writes g c =
    let geometry = g.F.Flash.geometry c.args.flash.now in
    let pages = g.F.Flash.pages c.args.flash.now in
    let a = g.K.Sink.written c.args.sink.now in
    let b = g.K.Sink.written c.loop-page.sink in
    let d = g.K.Sink.written c.dump_page.new.sink in
    let whole = (g.met.F.Flash.whole c.args.flash.now).count in
    let same = ap (λ (x : Geometry). x.blocks * x.pages) c.geometry-geometry.ensures in
    writes_part a d (image_of Two geometry pages) c.from_residual-in_err-dump_page.result c.from_residual-in_err-dump_page.ensures.0
    (dump_cut geometry pages a b d c.loop-page.page (omega (arith, whole, same, c.loop-page-test.true)) c.loop-page.invariant.dumped
    (subst (λ (x : List Page). AppendsFront b d (page_bytes Two (page_at x c.loop-page.page))) c.loop-page.invariant.pages c.in_err-dump_page.ensures.writes))

pub loop-page-preserved : goal.loop-page-preserved
loop-page-preserved g c =
    let geometry = g.F.Flash.geometry c.args.flash.now in
    let pages = g.F.Flash.pages c.args.flash.now in
    let a = g.K.Sink.written c.args.sink.now in
    let b = g.K.Sink.written c.loop-page.sink in
    let d = g.K.Sink.written c.dump_page.new.sink in
    let whole = (g.met.F.Flash.whole c.args.flash.now).count in
    let same = ap (λ (x : Geometry). x.blocks * x.pages) c.geometry-geometry.ensures in
    record {
      dumped = dump_more geometry pages a b d c.loop-page.page (omega (arith, whole, same, c.loop-page-test.true)) c.loop-page.invariant.dumped
          (subst (λ (x : List Page). Appends b d (page_bytes Two (page_at x c.loop-page.page))) c.loop-page.invariant.pages c.in_ok-dump_page.ensures.writes);
      pages = search rules;
      geometry = search rules;
      unwritten = search rules;
      unfailed = search rules;
    }

pub returns-clause-writes : goal.returns-clause-writes
returns-clause-writes g c =
    let whole = (g.met.F.Flash.whole c.args.flash.now).count in
    let same = ap (λ (x : Geometry). x.blocks * x.pages) c.geometry-geometry.ensures in
    dumped (g.F.Flash.geometry c.args.flash.now) (g.F.Flash.pages c.args.flash.now) (g.K.Sink.written c.args.sink.now) (g.K.Sink.written c.loop-page.sink) c.loop-page.page
    (omega (arith, whole, same, c.loop-page-test.false)) c.loop-page.invariant.dumped
