-- The sizes of a device, by which its history is judged.
use Rattle.std.specs.Prelude.{ℕ, ◌*◌, false, List, [], ◌∷◌}
use Rattle.flash_pages.specs.declared.chip.Geometry.{Geometry}
use Rattle.hpb_cdb.specs.declared.limits.Limits.{Limits}
use Rattle.flat_unit.specs.Sizes.{Sizes}

-- the opcodes of the commands that are served (SBC, SPC; HPB READ, READ BUFFER and WRITE BUFFER are this project's own)
abbrev pub OPCODES : List ℕ
OPCODES = 0x00 ∷ 0x25 ∷ 0x28 ∷ 0x2A ∷ 0x35 ∷ 0xF8 ∷ 0xF9 ∷ 0xFA ∷ []

-- after a reset each page of the chip is looked at
abbrev pub sizes : ℕ → Limits → Geometry → Sizes
sizes luns lim geometry = record {
  luns = luns;
  units = lim.units;
  block = 4096;
  room = 32;
  pages = geometry.blocks * geometry.pages;
  erase_block = geometry.pages;
  per_region = lim.per_region;
  per_sub = lim.per_sub;
  opcodes = OPCODES;
  queries = false;
  manages = false;
}
