use Rattle.std.proofs.Common.{◌∙◌, ap, sym, Some}
use Rattle.std.specs.Prelude.{option_map, List, ℕ}
use Rattle.std.specs.Borrow.{Bor}
use Rattle.command_words.proofs.Reading.{chip_named, drive_runs, gen_runs, replay_runs, snap_runs, unit_named}
use Rattle.command_words.proofs.words.given_of.Goals as goal

pub returns-in-replay-clause-given : goal.returns-in-replay-clause-given
returns-in-replay-clause-given c =
    let first = sym c.first_word.ensures ∙ ap (option_map (λ (word : Bor (List ℕ)). word.now)) c.in-Some.is ∙ ap Some c.in-replay.is in
    replay_runs _ c.replay_of.result first c.replay_of.ensures.given

pub returns-in-drive-clause-given : goal.returns-in-drive-clause-given
returns-in-drive-clause-given c =
    let first = sym c.first_word.ensures ∙ ap (option_map (λ (word : Bor (List ℕ)). word.now)) c.in-Some.is ∙ ap Some c.in-drive.is in
    drive_runs _ c.drive_of.result first c.drive_of.ensures.given

pub returns-in-replay-clause-chip : goal.returns-in-replay-clause-chip
returns-in-replay-clause-chip c =
    let first = sym c.first_word.ensures ∙ ap (option_map (λ (word : Bor (List ℕ)). word.now)) c.in-Some.is ∙ ap Some c.in-replay.is in
    chip_named _ c.replay_of.result (replay_runs _ c.replay_of.result first c.replay_of.ensures.given)

pub returns-in-replay-clause-unit : goal.returns-in-replay-clause-unit
returns-in-replay-clause-unit c =
    let first = sym c.first_word.ensures ∙ ap (option_map (λ (word : Bor (List ℕ)). word.now)) c.in-Some.is ∙ ap Some c.in-replay.is in
    unit_named _ c.replay_of.result (replay_runs _ c.replay_of.result first c.replay_of.ensures.given)

pub returns-in-drive-clause-chip : goal.returns-in-drive-clause-chip
returns-in-drive-clause-chip c =
    let first = sym c.first_word.ensures ∙ ap (option_map (λ (word : Bor (List ℕ)). word.now)) c.in-Some.is ∙ ap Some c.in-drive.is in
    chip_named _ c.drive_of.result (drive_runs _ c.drive_of.result first c.drive_of.ensures.given)

pub returns-in-drive-clause-unit : goal.returns-in-drive-clause-unit
returns-in-drive-clause-unit c =
    let first = sym c.first_word.ensures ∙ ap (option_map (λ (word : Bor (List ℕ)). word.now)) c.in-Some.is ∙ ap Some c.in-drive.is in
    unit_named _ c.drive_of.result (drive_runs _ c.drive_of.result first c.drive_of.ensures.given)

pub returns-in-snap-clause-given : goal.returns-in-snap-clause-given
returns-in-snap-clause-given c =
    let first = sym c.first_word.ensures ∙ ap (option_map (λ (word : Bor (List ℕ)). word.now)) c.in-Some.is ∙ ap Some c.in-snap.is in
    snap_runs _ c.snap_of.result first c.snap_of.ensures.given

pub returns-in-snap-clause-chip : goal.returns-in-snap-clause-chip
returns-in-snap-clause-chip c =
    let first = sym c.first_word.ensures ∙ ap (option_map (λ (word : Bor (List ℕ)). word.now)) c.in-Some.is ∙ ap Some c.in-snap.is in
    chip_named _ c.snap_of.result (snap_runs _ c.snap_of.result first c.snap_of.ensures.given)

pub returns-in-snap-clause-unit : goal.returns-in-snap-clause-unit
returns-in-snap-clause-unit c =
    let first = sym c.first_word.ensures ∙ ap (option_map (λ (word : Bor (List ℕ)). word.now)) c.in-Some.is ∙ ap Some c.in-snap.is in
    unit_named _ c.snap_of.result (snap_runs _ c.snap_of.result first c.snap_of.ensures.given)

pub returns-in-gen-clause-given : goal.returns-in-gen-clause-given
returns-in-gen-clause-given c =
    let first = sym c.first_word.ensures ∙ ap (option_map (λ (word : Bor (List ℕ)). word.now)) c.in-Some.is ∙ ap Some c.in-gen.is in
    gen_runs _ c.gen_of.result first c.gen_of.ensures.given

pub returns-in-gen-clause-chip : goal.returns-in-gen-clause-chip
returns-in-gen-clause-chip c =
    let first = sym c.first_word.ensures ∙ ap (option_map (λ (word : Bor (List ℕ)). word.now)) c.in-Some.is ∙ ap Some c.in-gen.is in
    chip_named _ c.gen_of.result (gen_runs _ c.gen_of.result first c.gen_of.ensures.given)

pub returns-in-gen-clause-unit : goal.returns-in-gen-clause-unit
returns-in-gen-clause-unit c =
    let first = sym c.first_word.ensures ∙ ap (option_map (λ (word : Bor (List ℕ)). word.now)) c.in-Some.is ∙ ap Some c.in-gen.is in
    unit_named _ c.gen_of.result (gen_runs _ c.gen_of.result first c.gen_of.ensures.given)
