-- The text of a history, one line for each event.
use Rattle.std.specs.Prelude.{ℕ, true, false, List, [], ◌∷◌, ◌++◌, codes, decimal, if◌then◌else◌, ◌==◌}
use Rattle.hex.specs.Hex.{encode_lower}
use Rattle.flash_pages.specs.declared.chip.ChipOp.{ChipOp}
use Rattle.flash_pages.specs.declared.chip.ChipOp.TheVariants.{Read, Program, Erase}
use Rattle.flat_unit.specs.declared.event.Event.{Event}
use Rattle.flat_unit.specs.declared.event.Event.TheVariants.{Host, Device, Reset, Moved, Failed, Cleared, Switched}
use Rattle.flat_unit.specs.declared.event.Event.TheVariants.{Gone}
use Rattle.flat_unit.specs.History.{History}

abbrev pub op_text : ChipOp → List ℕ
op_text Read = codes "! read"
op_text Program = codes "! program"
op_text Erase = codes "! erase"

-- a block, with its logical unit where that isn't unit 0
abbrev pub place_text : ℕ → ℕ → List ℕ
place_text lun lba = if lun == 0 then decimal lba else decimal lun ++ codes ":" ++ decimal lba

-- the line of an event, without its end
abbrev pub text_of : Event → List ℕ
text_of (Host bytes) = codes "> " ++ encode_lower bytes
text_of (Device bytes) = codes "< " ++ encode_lower bytes
text_of Reset = codes "R"
text_of (Moved lun lba) = codes "M " ++ place_text lun lba
text_of (Failed op) = op_text op
text_of Cleared = codes "H reset"
text_of (Switched true) = codes "H on"
text_of (Switched false) = codes "H off"
text_of (Gone tag) = codes "X " ++ decimal tag

abbrev pub line_of : Event → List ℕ
line_of x = text_of x ++ codes "\n"

unfoldable pub print : History → List ℕ
print [] = []
print (x ∷ e) = print e ++ line_of x
