-- What the parts of a load come to.
use Rattle.std.specs.Prelude.{◌≡◌, ◌≢◌, ℕ, List, [], ◌∷◌, ◌++◌, slice_set, Option, Result, Ok, Err}
use Rattle.std.specs.Io.KnownBytes.{Consumes, IsAtEnd}
use Rattle.flash_pages.specs.Chip.{Page, Erased, Written, page_at}
use Rattle.flash_pages.specs.declared.chip.Geometry.{Geometry}
use Rattle.flash_pages.specs.declared.chip.Spare.{Spare}
use Rattle.chip_image.specs.Image.{magic, page_bytes, shape_bytes, spare_bytes}
use Rattle.chip_image.specs.Load.{AreLaid, InMagic, InPage, InShape, IsCause, IsOfVersion, page_room}
use Rattle.chip_image.specs.declared.version.Version.{Version}
use Rattle.chip_image.specs.declared.fault.ImageFault.{ImageFault}
use Rattle.chip_image.specs.declared.fault.ImageFault.TheVariants.{ChipFault, Cut, ReadFault, Taken}
use Rattle.chip_image.specs.Transfer.{TakesFewer}

-- a magic word
abbrev pub ReadsVersion : (left left_now : Option (List ℕ)) → Result Version ImageFault → Type 0
ReadsVersion left left_now (Ok version) = Consumes left left_now (magic version)
ReadsVersion left left_now (Err fault) = (bytes : List ℕ) × Consumes left left_now bytes
    × ((geometry : Geometry) (old : List Page) → IsCause fault geometry old left_now (InMagic bytes))

-- the shape of the chip
abbrev pub ReadsShape : Geometry → Version → (left left_now : Option (List ℕ)) → Result (Unit {0}) ImageFault → Type 0
ReadsShape geometry version left left_now (Ok _) = Consumes left left_now (shape_bytes geometry)
ReadsShape geometry version left left_now (Err fault) = (bytes : List ℕ) × Consumes left left_now bytes
    × ((old : List Page) → IsCause fault geometry old left_now (InShape version bytes))

-- one more page, where the pages before it are laid on those of a chip
abbrev pub LaysPage : Geometry → Version → (old pages new : List Page) (left left_now : Option (List ℕ))
    → Result (Unit {0}) ImageFault → Type 0
LaysPage geometry version old pages new left left_now (Ok _) = (page : Page)
    × Consumes left left_now (page_bytes version page) × IsOfVersion version page × AreLaid old (pages ++ page ∷ []) new
LaysPage geometry version old pages new left left_now (Err fault) = (bytes : List ℕ)
    × Consumes left left_now bytes × AreLaid old pages new
    × IsCause fault geometry old left_now (InPage version pages bytes)

-- a page that was erased has this block and spare area; or the chip is as it was
abbrev pub IsPut : (page : ℕ) (block : List ℕ) → Spare → (old new : List Page) → Result (Unit {0}) ImageFault → Type 0
IsPut page block spare old new (Ok _) = (page_at old page ≡ Erased) × (new ≡ slice_set old page (Written block spare))
IsPut page block spare old new (Err Taken) = (page_at old page ≢ Erased) × (new ≡ old)
IsPut page block spare old new (Err ChipFault) = new ≡ old
IsPut page block spare old new (Err fault) = ⊥

-- the rest of a written page was read, and put on the chip
abbrev pub PutsPage : Version → (page : ℕ) → (old new : List Page) (left left_now : Option (List ℕ))
    → Result (Unit {0}) ImageFault → Type 0
PutsPage version page old new left left_now (Err Cut) =
    TakesFewer left left_now (page_room version) × IsAtEnd left_now × (new ≡ old)
PutsPage version page old new left left_now (Err ReadFault) =
    TakesFewer left left_now (page_room version) × (new ≡ old)
PutsPage version page old new left left_now result = (block : List ℕ) × (spare : Spare)
    × Consumes left left_now (spare_bytes version spare ++ block) × IsOfVersion version (Written block spare)
    × IsPut page block spare old new result
