use Rattle.std.proofs.Common.{Err, ◌≡◌, ◌≤◌, ◌∙◌, Bool, true, ap, inl, inr, refl, subst, sym}
use Rattle.flash_pages.specs.declared.chip.Geometry.{Geometry}
use Rattle.region_state.specs.declared.shape.Shape.{Shape}
use Rattle.drive_rules.specs.Lines.{drive_begun}
use Rattle.hpb_driver.specs.State.{CanDrive}
use Rattle.hpb_link.specs.Stands.{AtDrive}
use Rattle.hpb_link.specs.State.{LinkState}
use Rattle.trace_text.specs.Lines.{ReaderState}
use Rattle.trace_replay.specs.Beginning.{link_begun}
use Rattle.trace_replay.proofs.Driven.{begins_at, drive_of_link}
use Rattle.trace_replay.proofs.Serving.{refused_source}
use Rattle.trace_replay.proofs.Transcripts.{finds_over, loads_over}
use Rattle.trace_replay.proofs.driving.drive_over.Goals as goal

pub returns-clause-run : goal.returns-clause-run
returns-clause-run g c unit geometry pages faults fresh = inr (inr (record {
  asked = c.in-Err.ensures.refuses.0;
  fault = c.in-Err.fault;
  loads = loads_over _ _ _ _ _ _ (g.S.Source.left c.args.source.now) (g.S.Source.left c.load_first.new.source) (Err c.in-Err.fault) fresh.geometry_is fresh.pages_are (ap g.F.Flash.pages c.refused_image.ensures.flash ∙ c.into_flash-in-Err.ensures.pages) c.in-Err.ensures.refuses.1;
  ends = c.refused_image.ensures.ends;
}))

pub returns-clause-source_faults : goal.returns-clause-source_faults
returns-clause-source_faults g c =
    refused_source true _ _ _ _ c.in-Err.fault c.refused_image.result.status c.in-Err.ensures.source_faults c.refused_image.ensures.ends

-- the link behind the image
begun_link : {link now : LinkState} (plain : Bool) → link ≡ link_begun link.device plain link.device.shape → now ≡ record link { device = now.device } → now.device.shape ≡ link.device.shape
    → now ≡ link_begun now.device plain now.device.shape
begun_link {link} {now} plain is others shape = others ∙ ((λ i. record (is i) { device = now.device }) ∙ λ i. link_begun now.device plain (sym shape i))

pub drive-status-requires : goal.drive-status-requires
drive-status-requires g c =
    let begun = c.in-Ok-load_first.ensures.begun in
    let now = c.load_first.new.link in
    let shape = c.in-Ok-load_first.ensures.shape in
    record {
      begun = subst (λ (l : LinkState). AtDrive l.device l (drive_begun l.driver)) (sym (begun_link c.args.driven.plain c.requires.link c.in-Ok-load_first.ensures.others shape))
          (begins_at now.device c.args.driven.plain now.device.shape begun.begins.tasks begun.begins.counts begun.hints begun.fetched begun.counted begun.begins.scanned
          (subst (λ (chip : Geometry). 1 ≤ chip.pages) (sym c.in-Ok-load_first.ensures.geometry) c.requires.some_page)
          (subst (λ (s : Shape). CanDrive s 1) (sym shape) c.requires.serves).limits refl (c.in-Ok-load_first.ensures.luns ∙ c.requires.one));
      unread = c.in-Ok.ensures.reader;
      fresh = c.in-Ok.ensures.output;
    }

pub returns-in-Ok-load_first-clause-run : goal.returns-in-Ok-load_first-clause-run
returns-in-Ok-load_first-clause-run g c unit geometry pages faults fresh =
    let now = c.load_first.new.link in
    let chip = now.device.store.pages in
    let shape = c.in-Ok-load_first.ensures.shape in
    inr (inl (
      chip,
      g.S.Source.left c.load_first.new.source,
      finds_over _ _ _ _ _ _ _ _ fresh.geometry_is fresh.pages_are c.in-Ok-load_first.ensures.finds,
      drive_of_link unit geometry now c.drive-status.new.link c.args.driven.plain c.args.driven.answers chip _ _ _ _ _ _ _ _ c.drive-status.result
          (record {
            shape_is = shape ∙ fresh.shape_is;
            luns = c.in-Ok-load_first.ensures.luns ∙ fresh.luns;
            units = c.in-Ok-load_first.ensures.units ∙ fresh.units;
            pages_are = refl;
            geometry_is = c.in-Ok-load_first.ensures.geometry ∙ fresh.geometry_is;
            faults_are = c.in-Ok-load_first.ensures.chip_faults.1 (λ is. cc) ∙ fresh.faults_are;
            some_block = fresh.some_block;
            some_page = fresh.some_page;
          })
          (begun_link c.args.driven.plain c.requires.link c.in-Ok-load_first.ensures.others shape)
          (ap (λ (r : ReaderState). r.held) c.in-Ok.ensures.reader) c.into_flash-in-Ok-load_first.ensures.pages c.into_flash-in-Ok-load_first.ensures.faults c.drive-status.ensures.run,
    ))
