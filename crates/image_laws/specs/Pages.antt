-- What laws of loads say of pages.
use Rattle.std.specs.Prelude.{◌≡◌, ◌^◌, ◌<◌, List, All, length, ⊤}
use Rattle.flash_pages.specs.Chip.{Page, Erased, Written}

-- each page is erased
abbrev pub AreErased : List Page → Type 0
AreErased pages = All (λ page. page ≡ Erased) pages

-- the page is one that a chip can have: its block is whole, and its numbers are within 32 and 64 bits
abbrev pub IsWholePage : Page → Type 0
IsWholePage Erased = ⊤
IsWholePage (Written block spare) = (length block ≡ 4096) × (spare.lba < 2 ^ 32) × (spare.seq < 2 ^ 64)
