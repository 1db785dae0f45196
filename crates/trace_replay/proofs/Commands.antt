-- Words are those of one command.
use Rattle.std.proofs.Common.{ℕ, Bool, false, List, Option, sym, ◌∙◌, ap, codes}
use Rattle.std.specs.Option.{option_map_or}
use Rattle.std.specs.Str.{bytes_eq}
use Rattle.std.proofs.lemmas.Bool.{false≢true}
use Rattle.command_words.specs.Words.{IsDrive, IsGen, IsReplay, IsShow, IsSnap}

abbrev is_word : List ℕ → Option (List ℕ) → Bool
is_word word first = option_map_or (λ (w : List ℕ). bytes_eq w word) first false

pub replay_no_show : (words : List (List ℕ)) → IsReplay words → ¬ IsShow words
replay_no_show words replay = λ show. false≢true (ap (is_word (codes "show")) (sym replay.0 ∙ show.0))

pub replay_no_drive : (words : List (List ℕ)) → IsReplay words → ¬ IsDrive words
replay_no_drive words replay = λ drive. false≢true (ap (is_word (codes "drive")) (sym replay.0 ∙ drive.0))

pub drive_no_show : (words : List (List ℕ)) → IsDrive words → ¬ IsShow words
drive_no_show words drive = λ show. false≢true (ap (is_word (codes "show")) (sym drive.0 ∙ show.0))

pub replay_no_snap : (words : List (List ℕ)) → IsReplay words → ¬ IsSnap words
replay_no_snap words replay = λ snap. false≢true (ap (is_word (codes "snap")) (sym replay.0 ∙ snap.0))

pub snap_no_show : (words : List (List ℕ)) → IsSnap words → ¬ IsShow words
snap_no_show words snap = λ show. false≢true (ap (is_word (codes "show")) (sym snap.0 ∙ show.0))

pub snap_no_drive : (words : List (List ℕ)) → IsSnap words → ¬ IsDrive words
snap_no_drive words snap = λ drive. false≢true (ap (is_word (codes "drive")) (sym snap.0 ∙ drive.0))

pub replay_no_gen : (words : List (List ℕ)) → IsReplay words → ¬ IsGen words
replay_no_gen words replay = λ gen. false≢true (ap (is_word (codes "gen")) (sym replay.0 ∙ gen.0))

pub gen_no_show : (words : List (List ℕ)) → IsGen words → ¬ IsShow words
gen_no_show words gen = λ show. false≢true (ap (is_word (codes "show")) (sym gen.0 ∙ show.0))

pub gen_no_snap : (words : List (List ℕ)) → IsGen words → ¬ IsSnap words
gen_no_snap words gen = λ snap. false≢true (ap (is_word (codes "snap")) (sym gen.0 ∙ snap.0))

pub gen_no_drive : (words : List (List ℕ)) → IsGen words → ¬ IsDrive words
gen_no_drive words gen = λ drive. false≢true (ap (is_word (codes "drive")) (sym gen.0 ∙ drive.0))

pub snap_no_gen : (words : List (List ℕ)) → IsSnap words → ¬ IsGen words
snap_no_gen words snap = λ gen. false≢true (ap (is_word (codes "gen")) (sym snap.0 ∙ gen.0))

pub drive_no_gen : (words : List (List ℕ)) → IsDrive words → ¬ IsGen words
drive_no_gen words drive = λ gen. false≢true (ap (is_word (codes "gen")) (sym drive.0 ∙ gen.0))
