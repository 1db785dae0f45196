use Rattle.std.proofs.Common.{◌∙◌, ap, sym, Some}
use Rattle.std.specs.Prelude.{option_map, List, ℕ}
use Rattle.std.specs.Borrow.{Bor}
use Rattle.command_words.proofs.Reading.{drive_named, gen_named, replay_named, snap_named}
use Rattle.command_words.proofs.words.command_of.Goals as goal

pub returns-in_ok-replay_of-in-replay-clause-command : goal.returns-in_ok-replay_of-in-replay-clause-command
returns-in_ok-replay_of-in-replay-clause-command c =
    let first = sym c.first_word.ensures ∙ ap (option_map (λ (word : Bor (List ℕ)). word.now)) c.in-Some.is ∙ ap Some c.in-replay.is in
    replay_named _ c.in_ok-replay_of-in-replay.field-0 _ first c.in_ok-replay_of-in-replay.ensures.given c.replayed.ensures

pub returns-in_ok-snap_of-in-snap-clause-command : goal.returns-in_ok-snap_of-in-snap-clause-command
returns-in_ok-snap_of-in-snap-clause-command c =
    let first = sym c.first_word.ensures ∙ ap (option_map (λ (word : Bor (List ℕ)). word.now)) c.in-Some.is ∙ ap Some c.in-snap.is in
    snap_named _ c.in_ok-snap_of-in-snap.field-0 _ first c.in_ok-snap_of-in-snap.ensures.given c.replayed-in-snap.ensures

pub returns-in_ok-drive_of-in-drive-clause-command : goal.returns-in_ok-drive_of-in-drive-clause-command
returns-in_ok-drive_of-in-drive-clause-command c =
    let first = sym c.first_word.ensures ∙ ap (option_map (λ (word : Bor (List ℕ)). word.now)) c.in-Some.is ∙ ap Some c.in-drive.is in
    drive_named _ c.in_ok-drive_of-in-drive.field-0 _ first c.in_ok-drive_of-in-drive.ensures.given c.driven.ensures

pub returns-in_ok-gen_of-in-gen-clause-command : goal.returns-in_ok-gen_of-in-gen-clause-command
returns-in_ok-gen_of-in-gen-clause-command c =
    let first = sym c.first_word.ensures ∙ ap (option_map (λ (word : Bor (List ℕ)). word.now)) c.in-Some.is ∙ ap Some c.in-gen.is in
    gen_named _ c.in_ok-gen_of-in-gen.field-0 _ first c.in_ok-gen_of-in-gen.ensures.given c.generated.ensures
