use Rattle.std.proofs.Common.{◌≡◌, ◌<◌, ◌*◌, ℕ, rules, sym, subst, arith, Err, Result, ◌∙◌, ap}
use Rattle.std.proofs.Math.Nat.{mul-le-mul}
use Rattle.flash_pages.specs.Chip.{IsWithinLimits}
use Rattle.flash_pages.specs.declared.chip.Geometry.{Geometry}
use Rattle.chip_image.specs.Load.{Loads}
use Rattle.chip_image.specs.declared.fault.ImageFault.{ImageFault}
use Rattle.chip_image.proofs.Loading.{all_loaded, begun, one_more, page_fault, shape_fault, shape_no_chip, version_fault, version_no_chip}
use Rattle.chip_image.proofs.load.load_image.Goals as goal

some : (geometry : Geometry) → IsWithinLimits geometry → 0 < geometry.blocks * geometry.pages
some geometry limits =
    let most = mul-le-mul {n₁ = 4} {m₁ = 2} {n₂ = geometry.blocks} {m₂ = geometry.pages} limits.least_blocks limits.least_pages in
    omega (arith, most)

pub returns-in_err-version-clause-loads : goal.returns-in_err-version-clause-loads
returns-in_err-version-clause-loads g c =
    let same : c.from_residual.result ≡ Err c.in_err-version.field-0.0 = search rules in
    subst (λ (r : Result (Unit {0}) ImageFault). Loads (g.F.Flash.geometry c.args.flash.now) (g.F.Flash.pages c.args.flash.now) (g.F.Flash.pages c.args.flash.now) (g.S.Source.left c.args.source.now)
    (g.S.Source.left c.read_version.new.source) r) (sym same)
    (version_fault _ _ _ _ c.in_err-version.field-0.0 (some _ c.requires.limits) c.in_err-version.ensures.reads)

pub returns-in_err-version-clause-chip_faults : goal.returns-in_err-version-clause-chip_faults
returns-in_err-version-clause-chip_faults g c =
    let same : c.from_residual.result ≡ Err c.in_err-version.field-0.0 = search rules in
    version_no_chip (g.F.Flash.faults c.args.flash.now) _ _ c.in_err-version.field-0.0 c.from_residual.result same c.in_err-version.ensures.reads

pub returns-in_err-read_shape-clause-loads : goal.returns-in_err-read_shape-clause-loads
returns-in_err-read_shape-clause-loads g c =
    let same : c.from_residual-in_err-read_shape.result ≡ Err c.in_err-read_shape.field-0.0 = search rules in
    subst (λ (r : Result (Unit {0}) ImageFault). Loads (g.F.Flash.geometry c.args.flash.now) (g.F.Flash.pages c.args.flash.now) (g.F.Flash.pages c.args.flash.now) (g.S.Source.left c.args.source.now)
    (g.S.Source.left c.read_shape.new.source) r) (sym same)
    (shape_fault _ _ _ _ _ c.in_ok-version.version c.in_err-read_shape.field-0.0 (some _ c.requires.limits) c.in_ok-version.ensures.reads
    (rw (← c.geometry-geometry.ensures) (c.in_err-read_shape.ensures.reads c.in_ok-version.version)))

pub returns-in_err-read_shape-clause-chip_faults : goal.returns-in_err-read_shape-clause-chip_faults
returns-in_err-read_shape-clause-chip_faults g c =
    let same : c.from_residual-in_err-read_shape.result ≡ Err c.in_err-read_shape.field-0.0 = search rules in
    shape_no_chip (g.F.Flash.faults c.args.flash.now) _ _ _ _ c.in_err-read_shape.field-0.0 c.from_residual-in_err-read_shape.result same (c.in_err-read_shape.ensures.reads c.in_ok-version.version)

pub loop-page-init : goal.loop-page-init
loop-page-init g c = record {
  loaded = begun _ _ _ _ _ c.in_ok-version.version c.in_ok-version.ensures.reads (rw (← c.geometry-geometry.ensures) (c.in_ok-read_shape.ensures.reads c.in_ok-version.version));
  geometry = search rules;
  version = search rules;
  unread = search rules;
  unfailed = search rules;
}

pub load_page-requires : goal.load_page-requires
load_page-requires g c =
    let whole = (g.met.F.Flash.whole c.loop-page.flash).count ∙ ap (λ (x : Geometry). x.blocks * x.pages) c.loop-page.invariant.geometry in
    let same = ap (λ (x : Geometry). x.blocks * x.pages) c.geometry-geometry.ensures in
    record { page = omega (arith, whole, same, c.loop-page-test.true) }

pub returns-in_err-load_page-clause-loads : goal.returns-in_err-load_page-clause-loads
returns-in_err-load_page-clause-loads g c =
    let same : c.from_residual-in_err-load_page.result ≡ Err c.in_err-load_page.field-0.0 = search rules in
    let to = c.loop-page.invariant.loaded in
    let end = ap (λ (x : Geometry). x.blocks * x.pages) c.geometry-geometry.ensures in
    subst (λ (r : Result (Unit {0}) ImageFault). Loads (g.F.Flash.geometry c.args.flash.now) (g.F.Flash.pages c.args.flash.now) (g.F.Flash.pages c.load_page.new.flash)
    (g.S.Source.left c.args.source.now)
    (g.S.Source.left c.load_page.new.source) r) (sym same)
    (page_fault _ _ _ _ _ _ _ c.in_ok-version.version c.loop-page.page c.in_err-load_page.field-0.0 to (omega (arith, end, c.loop-page-test.true))
    (c.in_err-load_page.ensures.lays (g.F.Flash.geometry c.args.flash.now) (g.F.Flash.pages c.args.flash.now) to.pages to.count to.laid))

pub loop-page-preserved : goal.loop-page-preserved
loop-page-preserved g c =
    let to = c.loop-page.invariant.loaded in
    record {
      loaded = one_more _ _ _ _ _ _ _ c.in_ok-version.version c.loop-page.page _ to
          (c.in_ok-load_page.ensures.lays (g.F.Flash.geometry c.args.flash.now) (g.F.Flash.pages c.args.flash.now) to.pages to.count to.laid);
      geometry = search rules;
      version = search rules;
      unread = search rules;
      unfailed = search rules;
    }

pub returns-clause-loads : goal.returns-clause-loads
returns-clause-loads g c =
    let end = ap (λ (x : Geometry). x.blocks * x.pages) c.geometry-geometry.ensures in
    all_loaded _ _ _ _ _ c.in_ok-version.version c.loop-page.page _ c.loop-page.invariant.loaded (omega (arith, end, c.loop-page-test.false, c.loop-page.auto.page-end))
