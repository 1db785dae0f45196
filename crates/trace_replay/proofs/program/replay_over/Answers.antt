use Rattle.std.proofs.Common.{Err, ◌≤◌, ◌∙◌, ap, inl, inr, refl, subst, sym}
use Rattle.flash_pages.specs.declared.chip.Geometry.{Geometry}
use Rattle.trace_text.specs.Lines.{ReaderState}
use Rattle.trace_replay.proofs.Serving.{refused_source}
use Rattle.trace_replay.proofs.Transcripts.{finds_over, loads_over, replay_of_chip}
use Rattle.trace_replay.proofs.program.replay_over.Goals as goal

pub returns-clause-run : goal.returns-clause-run
returns-clause-run g c unit geometry pages faults fresh = inr (record {
  asked = c.in-Err.ensures.refuses.0;
  fault = c.in-Err.fault;
  loads = loads_over _ _ _ _ _ _ (g.S.Source.left c.args.source.now) (g.S.Source.left c.load_first.new.source) (Err c.in-Err.fault) fresh.geometry_is fresh.pages_are (ap g.F.Flash.pages c.refused_image.ensures.flash ∙ c.into_flash-in-Err.ensures.pages) c.in-Err.ensures.refuses.1;
  ends = c.refused_image.ensures.ends;
})

pub returns-clause-source_faults : goal.returns-clause-source_faults
returns-clause-source_faults g c =
    refused_source c.args.tells_chip _ _ _ _ c.in-Err.fault c.refused_image.result.status c.in-Err.ensures.source_faults c.refused_image.ensures.ends

pub replay-status-requires : goal.replay-status-requires
replay-status-requires g c =
    let begun = c.in-Ok.ensures.begun in
    record {
      begun = begun.begins.tasks;
      uncounted = begun.begins.counts;
      hints = begun.hints;
      fetched = begun.fetched;
      counted = begun.counted;
      scanned = begun.begins.scanned;
      some_page = subst (λ (chip : Geometry). 1 ≤ chip.pages) (sym c.in-Ok.ensures.geometry) c.requires.some_page;
      unread = c.requires.unread;
      fresh = c.requires.fresh;
    }

pub returns-in-Ok-clause-run : goal.returns-in-Ok-clause-run
returns-in-Ok-clause-run g c unit geometry pages faults fresh =
    let chip = c.load_first.new.device.store.pages in
    let same = c.in-Ok.ensures.chip_faults.1 (λ is. cc) in
    inl (
      chip,
      g.S.Source.left c.load_first.new.source,
      finds_over _ _ _ _ _ _ _ _ fresh.geometry_is fresh.pages_are c.in-Ok.ensures.finds,
      replay_of_chip unit geometry c.load_first.new.device c.replay-status.new.device chip _ _ _ _ _ _ _ _ c.replay-status.result
          (record {
            shape_is = c.in-Ok.ensures.shape ∙ fresh.shape_is;
            luns = c.in-Ok.ensures.luns ∙ fresh.luns;
            units = c.in-Ok.ensures.units ∙ fresh.units;
            pages_are = refl;
            geometry_is = c.in-Ok.ensures.geometry ∙ fresh.geometry_is;
            faults_are = same ∙ fresh.faults_are;
            some_block = fresh.some_block;
            some_page = fresh.some_page;
          })
          (ap (λ (r : ReaderState). r.held) c.requires.unread) c.into_flash.ensures.pages c.into_flash.ensures.faults c.replay-status.ensures.run,
    )
