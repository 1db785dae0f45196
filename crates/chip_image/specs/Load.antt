-- What comes of an image that is loaded.
use Rattle.std.specs.Prelude.{⊤, ◌≡◌, ◌≢◌, ◌*◌, ◌<◌, ℕ, List, [], ◌∷◌, ◌++◌, All, length, Option, Result, Ok, Err}
use Rattle.std.specs.Io.KnownBytes.{Consumes, IsAtEnd}
use Rattle.flash_pages.specs.Chip.{Page, Erased, Written, page_at}
use Rattle.flash_pages.specs.declared.chip.Geometry.{Geometry}
use Rattle.flash_pages.specs.declared.chip.Spare.{Spare}
use Rattle.chip_image.specs.Image.{image_of, magic, page_bytes, shape_bytes}
use Rattle.chip_image.specs.declared.version.Version.{Version}
use Rattle.chip_image.specs.declared.version.Version.TheVariants.{One, Two}
use Rattle.chip_image.specs.declared.fault.ImageFault.{ImageFault}
use Rattle.chip_image.specs.declared.fault.ImageFault.TheVariants.{Magic, Shape, PageKind, Cut, Taken, ReadFault}
use Rattle.chip_image.specs.declared.fault.ImageFault.TheVariants.{ChipFault}

-- an erased page of an image leaves the chip's page, and a written one takes the place of an erased page
abbrev pub IsLaidOn : (old page new : Page) → Type 0
IsLaidOn old Erased new = new ≡ old
IsLaidOn old (Written block spare) new = (old ≡ Erased) × (new ≡ Written block spare)

-- the first pages of an image are laid on those of a chip
pub record AreLaid (old pages new : List Page) : Type 0 where
  pub count : length new ≡ length old
  pub laid : (n : ℕ) → IsLaidOn (page_at old n) (page_at pages n) (page_at new n)

-- the version can tell the page: the first one has only logical unit 0
abbrev pub IsOfVersion : Version → Page → Type 0
IsOfVersion One (Written block spare) = spare.lun ≡ 0
IsOfVersion _ _ = ⊤

-- where reading stopped: within the magic word, within the shape, or within the page behind these, with the bytes of it
-- that were taken
pub data Place : Type 0 where
  InMagic : List ℕ → Place
  InShape : Version → List ℕ → Place
  InPage : Version → List Page → List ℕ → Place

-- all bytes that were taken up to there
abbrev pub bytes_to : Geometry → Place → List ℕ
bytes_to geometry (InMagic bytes) = bytes
bytes_to geometry (InShape version bytes) = magic version ++ bytes
bytes_to geometry (InPage version pages bytes) = image_of version geometry pages ++ bytes

-- the pages before it
abbrev pub pages_to : Place → List Page
pages_to (InPage version pages bytes) = pages
pages_to _ = []

-- the version can tell each of them
abbrev pub AreTold : Place → Type 0
AreTold (InPage version pages bytes) = All (IsOfVersion version) pages
AreTold _ = ⊤

-- how many bytes a written page has behind its first one
abbrev pub page_room : Version → ℕ
page_room One = 4108
page_room Two = 4109

-- bytes of a page that lack some
abbrev pub LacksSome : Version → List ℕ → Type 0
LacksSome version [] = ⊤
LacksSome version (kind ∷ bytes) = (kind ≡ 1) × (length bytes < page_room version)

-- the bytes of a written page
pub record IsWrittenPage (version : Version) (bytes : List ℕ) : Type 0 where
  pub block : List ℕ
  pub spare : Spare
  pub are : bytes ≡ page_bytes version (Written block spare)

-- more of the image was to come
abbrev pub IsWithin : Place → Type 0
IsWithin (InMagic bytes) = length bytes < 8
IsWithin (InShape version bytes) = length bytes < 8
IsWithin (InPage version pages bytes) = LacksSome version bytes

-- the place shows why an image is refused, where the chip had these pages and the source has these bytes left
abbrev pub IsCause : ImageFault → Geometry → List Page → Option (List ℕ) → Place → Type 0
IsCause Magic geometry old left (InMagic bytes) = (length bytes ≡ 8) × (bytes ≢ magic One) × (bytes ≢ magic Two)
IsCause Shape geometry old left (InShape version bytes) = (length bytes ≡ 8) × (bytes ≢ shape_bytes geometry)
IsCause PageKind geometry old left (InPage version pages (kind ∷ [])) = (kind ≢ 0) × (kind ≢ 1)
IsCause Taken geometry old left (InPage version pages bytes) =
    IsWrittenPage version bytes × (page_at old (length pages) ≢ Erased)
IsCause Cut geometry old left place = IsWithin place × IsAtEnd left
IsCause ReadFault geometry old left place = IsWithin place
IsCause ChipFault geometry old left (InPage version pages bytes) = IsWrittenPage version bytes
IsCause fault geometry old left place = ⊥

-- the image was read to this place, and the pages before it are laid on the chip
pub record IsReadTo (geometry : Geometry) (old new : List Page) (left left_now : Option (List ℕ)) (place : Place)
    : Type 0 where
  pub taken : Consumes left left_now (bytes_to geometry place)
  pub laid : AreLaid old (pages_to place) new
  pub few : length (pages_to place) < geometry.blocks * geometry.pages
  pub told : AreTold place

-- the image of these pages was read, and they are laid on the chip
pub record IsWhole (geometry : Geometry) (old new : List Page) (left left_now : Option (List ℕ)) (version : Version)
    (pages : List Page) : Type 0 where
  pub taken : Consumes left left_now (image_of version geometry pages)
  pub laid : AreLaid old pages new
  pub count : length pages ≡ geometry.blocks * geometry.pages
  pub told : All (IsOfVersion version) pages

-- what was taken of the source, and what it made of the chip
abbrev pub Loads : (geometry : Geometry) (old new : List Page) (left left_now : Option (List ℕ))
    → Result (Unit {0}) ImageFault → Type 0
Loads geometry old new left left_now (Ok _) =
    (version : Version) × (pages : List Page) × IsWhole geometry old new left left_now version pages
Loads geometry old new left left_now (Err fault) =
    (place : Place) × IsReadTo geometry old new left left_now place × IsCause fault geometry old left_now place
