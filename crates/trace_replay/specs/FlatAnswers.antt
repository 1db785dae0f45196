-- The answers of a drive, and those of a plain list of blocks to the same lines.
use Rattle.std.specs.Prelude.{◌≡◌, ℕ, Bool, List, ◌++◌, map, Option, Some}
use Rattle.std.specs.Io.KnownBytes.{Appends}
use Rattle.flat_unit.specs.Causes.{failures}
use Rattle.flat_unit.specs.Contents.{Block}
use Rattle.flat_unit.specs.Sizes.{Sizes}
use Rattle.hpb_device.specs.declared.counts.Counts.{Counts}
use Rattle.driver_laws.specs.Fits.{AllGood}
use Rattle.driver_laws.specs.Flat.{flat_of}
use Rattle.driver_laws.specs.Laws.{AllGoodOrCut}
use Rattle.driver_caches.specs.Machine.{Machine}
use Rattle.drive_rules.specs.FlatLines.{flat_given, outside_of, requests_of}
use Rattle.drive_rules.specs.Lines.{Drive, Drives}
use Rattle.drive_rules.specs.Text.{said_text}
use Rattle.drive_rules.specs.Told.{IsTold}
use Rattle.trace_text.specs.declared.drive.DriveLine.{DriveLine}
use Rattle.trace_text.specs.Drives.{drive_line}
use Rattle.trace_text.specs.Lines.{EndsAt, WhereTold}
use Rattle.run_output.specs.Ends.{TakesLines}
use Rattle.run_output.specs.Texts.{counts_text}

-- All lines of a text were taken and served, and what was said was written, and the counts. Where each answer is GOOD,
-- the answers are those of the plain list of blocks to which the lines are applied one after another, and so are the
-- numbers of the requests that were out of range. Where no call of the chip failed, each request that was taken is
-- answered GOOD, or with DATA PROTECT 27h where no sequence number was left, or was cut by a reset.
pub record AnswersFlat (s : Sizes) (unit : List Block) (machine : Machine) (only : Bool)
    (left left_now written written_now : Option (List ℕ)) : Type 0 where
  pub texts : List (List ℕ)
  pub lines : List DriveLine
  pub last : Drive
  pub mid : Option (List ℕ)
  pub taken : TakesLines left texts mid
  pub ends : WhereTold EndsAt mid left_now
  pub parsed : map drive_line texts ≡ map (λ (line : DriveLine). Some line) lines
  pub drives : Drives s machine lines last
  pub counts : Counts
  pub printed : Appends written written_now (said_text only last.said ++ counts_text counts)
  pub told : IsTold last
  pub flat : AllGood last.answers → (last.answers ≡ flat_given s (flat_of s unit) (requests_of s 0 0 lines))
      × (last.outside ≡ outside_of s 0 0 lines)
  pub good : failures last.progress.events ≡ 0 → AllGoodOrCut last.answers
