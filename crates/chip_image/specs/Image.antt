-- The image of a chip, as bytes: a magic word, the numbers of erase blocks and of pages, and each page in order.
use Rattle.std.specs.Prelude.{ℕ, List, [], ◌∷◌, ◌++◌, codes}
use Rattle.std.specs.List.{flat_map}
use Rattle.byteorder.specs.Endian.{big_bytes}
use Rattle.flash_pages.specs.Chip.{Page, Erased, Written}
use Rattle.flash_pages.specs.declared.chip.Geometry.{Geometry}
use Rattle.flash_pages.specs.declared.chip.Spare.{Spare}
use Rattle.chip_image.specs.declared.version.Version.{Version}
use Rattle.chip_image.specs.declared.version.Version.TheVariants.{One, Two}

abbrev pub magic : Version → List ℕ
magic One = codes "UFSHPBI1"
magic Two = codes "UFSHPBI2"

abbrev pub shape_bytes : Geometry → List ℕ
shape_bytes geometry = big_bytes 4 geometry.blocks ++ big_bytes 4 geometry.pages

-- the bytes of a spare area; the first version has no logical unit
abbrev pub spare_bytes : Version → Spare → List ℕ
spare_bytes One spare = big_bytes 4 spare.lba ++ big_bytes 8 spare.seq
spare_bytes Two spare = (spare.lun ∷ []) ++ big_bytes 4 spare.lba ++ big_bytes 8 spare.seq

-- the bytes of a page: 00h where it is erased, else 01h, its spare area and its block
abbrev pub page_bytes : Version → Page → List ℕ
page_bytes version Erased = 0 ∷ []
page_bytes version (Written block spare) = 1 ∷ (spare_bytes version spare ++ block)

-- the image of a chip
abbrev pub image_of : Version → Geometry → List Page → List ℕ
image_of version geometry chip = (magic version ++ shape_bytes geometry) ++ flat_map (page_bytes version) chip
