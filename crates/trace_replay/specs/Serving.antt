-- Where the lines of a run begin: on the chip as it came, or behind an image that stands before them.
use Rattle.std.specs.Prelude.{◌≡◌, ◌≢◌, ◌⊎◌, ℕ, Bool, true, false, List, [], Option, Ok, Err, codes}
use Rattle.std.specs.Io.KnownBytes.{Appends}
use Rattle.flash_pages.specs.Chip.{Page}
use Rattle.flash_pages.specs.declared.chip.Geometry.{Geometry}
use Rattle.chip_image.specs.Load.{Loads}
use Rattle.chip_image.specs.declared.fault.ImageFault.{ImageFault}
use Rattle.chip_image.specs.declared.fault.ImageFault.TheVariants as image
use Rattle.hpb_outside.specs.Writes.{AppendsFront}
use Rattle.run_output.specs.declared.status.Status.{Status}
use Rattle.run_output.specs.declared.status.Status.TheVariants.{BadImage, ChipFault, Memory, ReadFault, WriteFault}

-- the status that tells why an image was not loaded
abbrev pub image_status : ImageFault → Status
image_status image.Magic = BadImage 1
image_status image.Shape = BadImage 2
image_status image.PageKind = BadImage 3
image_status image.Cut = BadImage 4
image_status image.Taken = BadImage 5
image_status image.ReadFault = ReadFault
image_status image.ChipFault = ChipFault

-- and the text, which leaves out a fault of the chip where that isn't told
abbrev pub image_text : (tells_chip : Bool) → ImageFault → List ℕ
image_text tells_chip image.Magic = codes "E image 1\n"
image_text tells_chip image.Shape = codes "E image 2\n"
image_text tells_chip image.PageKind = codes "E image 3\n"
image_text tells_chip image.Cut = codes "E image 4\n"
image_text tells_chip image.Taken = codes "E image 5\n"
image_text tells_chip image.ReadFault = []
image_text true image.ChipFault = codes "E chip\n"
image_text false image.ChipFault = []

-- what the lines find: the chip and the source as they came; or, where an image stands before the lines, the chip with
-- its pages and what is left behind it
abbrev pub Finds : (imaged : Bool) → Geometry → (old new : List Page) (left left_now : Option (List ℕ)) → Type 0
Finds false geometry old new left left_now = (new ≡ old) × (left_now ≡ left)
Finds true geometry old new left left_now = Loads geometry old new left left_now (Ok tt)

-- this is so of what the lines find
abbrev pub Found : (imaged : Bool) → Geometry → (old : List Page) (left : Option (List ℕ))
    → (fact : (chip : List Page) → (left : Option (List ℕ)) → Type 0) → Type 0
Found imaged geometry old left fact =
    (chip : List Page) × (mid : Option (List ℕ)) × Finds imaged geometry old chip left mid × fact chip mid

-- a text was written, and the status is this; or a front of it, where there is some and the sink failed
abbrev pub EndsWith : (status : Status) (text : List ℕ) (written written_now : Option (List ℕ)) → Status → Type 0
EndsWith status text written written_now result =
    ((result ≡ status) × Appends written written_now text)
    ⊎ ((result ≡ WriteFault) × (text ≢ []) × AppendsFront written written_now text)

-- an image stands before the lines, and was not loaded
pub record RefusesImage (imaged tells_chip : Bool) (geometry : Geometry) (old new : List Page)
    (left left_now written written_now : Option (List ℕ)) (status : Status) : Type 0 where
  pub asked : imaged ≡ true
  pub fault : ImageFault
  pub loads : Loads geometry old new left left_now (Err fault)
  pub ends : EndsWith (image_status fault) (image_text tells_chip fault) written written_now status

-- The lines were served from what they find, with what is known of that; or an image was not loaded.
abbrev pub Serves : (imaged tells_chip : Bool) → Geometry → (old new : List Page)
    → (left left_now written written_now : Option (List ℕ))
    → (lines : (chip : List Page) → (left : Option (List ℕ)) → Status → Type 0) → Status → Type 0
Serves imaged tells_chip geometry old new left left_now written written_now lines status =
    Found imaged geometry old left (λ chip mid. lines chip mid status)
    ⊎ RefusesImage imaged tells_chip geometry old new left left_now written written_now status

-- the same of a run that could want memory before it read or wrote anything
abbrev pub ServesIfAny : (imaged tells_chip : Bool) → Geometry → (old new : List Page)
    → (left left_now written written_now : Option (List ℕ))
    → (lines : (chip : List Page) → (left : Option (List ℕ)) → Status → Type 0) → Status → Type 0
ServesIfAny imaged tells_chip geometry old new left left_now written written_now lines status =
    ((status ≡ Memory) × (written_now ≡ written))
    ⊎ Serves imaged tells_chip geometry old new left left_now written written_now lines status
