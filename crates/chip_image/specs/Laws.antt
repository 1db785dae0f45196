-- What laws of images need.
use Rattle.std.specs.Prelude.{◌≡◌, ◌^◌, ◌<◌, ℕ, List, length, ⊤}
use Rattle.flash_pages.specs.Chip.{Page, Erased, Written}
use Rattle.chip_image.specs.Load.{IsOfVersion}
use Rattle.chip_image.specs.declared.version.Version.{Version}

-- the page has a whole block, and its numbers fit their bytes
abbrev pub Fits : Version → Page → Type 0
Fits version Erased = ⊤
Fits version (Written block spare) = (length block ≡ 4096) × (spare.lba < 2 ^ 32) × (spare.seq < 2 ^ 64)
    × IsOfVersion version (Written block spare)
