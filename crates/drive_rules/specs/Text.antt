-- The text of what a drive says.
use Rattle.std.specs.Prelude.{ℕ, zero, suc, ◌+◌, ◌*◌, ◌/◌, Bool, true, false, List, [], ◌∷◌, ◌++◌, length, slice_range}
use Rattle.flat_unit.specs.Print.{line_of}
use Rattle.driver_laws.specs.declared.answer.Answer.TheVariants.{Good, Check, Status}
use Rattle.driver_laws.specs.Flat.{Came, Cut, Outcome}
use Rattle.drive_rules.specs.Said.{Said, Happened, Ended, Outside}
use Rattle.driver_laws.specs.declared.request.Request.{Request}
use Rattle.driver_laws.specs.declared.request.Request.TheVariants.{Read as ReadOf, Write as WriteOf}
use Rattle.trace_text.specs.declared.ending.Ending.{Ending}
use Rattle.trace_text.specs.declared.ending.Ending.TheVariants.{Good as GoodEnding, Check as CheckEnding}
use Rattle.trace_text.specs.declared.ending.Ending.TheVariants.{Status as StatusEnding, Cut as CutEnding, Range}
use Rattle.trace_text.specs.Written.{block_line, ending_line}

-- the first block of a request
abbrev pub lba_of : Request → ℕ
lba_of (ReadOf lun lba n) = lba
lba_of (WriteOf lun lba n bytes) = lba
lba_of _ = 0

-- how a request ended, as it is printed
abbrev pub ending_of : Outcome → Ending
ending_of (Came (Good bytes)) = GoodEnding
ending_of (Came (Check sense)) = CheckEnding sense
ending_of (Came (Status status)) = StatusEnding status
ending_of Cut = CutEnding

-- the bytes that came with it
abbrev pub bytes_of : Outcome → List ℕ
bytes_of (Came (Good bytes)) = bytes
bytes_of _ = []

-- the lines of the first so many blocks of a read
abbrev pub blocks_text : ℕ → List ℕ → ℕ → List ℕ
blocks_text lba bytes zero = []
blocks_text lba bytes (suc k) =
    blocks_text lba bytes k ++ block_line (lba + k) (slice_range bytes (4096 * k) (4096 * k + 4096))

-- an answer, and the blocks that came with it
abbrev pub answer_text : ℕ → ℕ → Outcome → List ℕ
answer_text number lba outcome =
    ending_line number (ending_of outcome) ++ blocks_text lba (bytes_of outcome) (length (bytes_of outcome) / 4096)

-- what is printed of something that was said: of answers alone, or of events too
abbrev pub said_line : Bool → Said → List ℕ
said_line true (Happened x) = []
said_line false (Happened x) = line_of x
said_line only (Ended a outcome) = answer_text a.number (lba_of a.request) outcome
said_line only (Outside number) = ending_line number Range

-- the text of all that was said
unfoldable pub said_text : Bool → List Said → List ℕ
said_text only [] = []
said_text only (x ∷ said) = said_text only said ++ said_line only x
