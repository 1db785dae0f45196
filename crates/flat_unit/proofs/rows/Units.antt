-- Two logical units: the blocks of one stand behind those of the other, and a command covers places of its own unit.
use Rattle.std.proofs.Common.{◌≡◌, List, [], ◌∷◌, ◌++◌, refl, arith, replicate}
use Rattle.flash_pages.specs.Place.{Place}
use Rattle.flat_unit.specs.declared.event.Event.TheVariants.{Host, Device, Moved}
use Rattle.hpb_cdb.specs.Read.{cdb_of}
use Rattle.region_state.specs.declared.shape.Mode.TheVariants.{Device as DeviceMode}
use Rattle.region_state.specs.declared.shape.Shape.{Shape}
use Rattle.region_state.specs.Machine.{after_change}
use Rattle.upiu_wire.specs.Kind.{kind_of}
use Rattle.upiu_wire.specs.Upiu.{upiu_at, upiu_out}
use Rattle.upiu_wire.specs.WireFault.{wire_fault_of}
use Rattle.flat_unit.specs.Contents.{Block, candidates}
use Rattle.flat_unit.specs.Hints.{machine_after}
use Rattle.flat_unit.specs.History.{History, ◌▹◌}
use Rattle.flat_unit.specs.Reply.{reply_of, effects_of}
use Rattle.flat_unit.specs.Sends.{Ask, Data, Good}
use Rattle.flat_unit.specs.Sizes.{Sizes}
use Rattle.flat_unit.specs.Sound.{Sound}
use Rattle.flat_unit.proofs.rows.Bytes.{sizes, block_of, z, four}

abbrev two_units : Sizes
two_units = record sizes { luns = 2 }

-- the first unit has blocks of 01h, the second of 02h
abbrev unit : List Block
unit = replicate 20 (block_of 1) ++ replicate 20 (block_of 2)

abbrev at : Place
at = record { lun = 1; lba = 0 }

abbrev below : Place
below = record { lun = 0; lba = 0 }

-- block 0 of unit 1 is read, and then written
abbrev written : History
written = []
    ▹ Host (four 0x01 0x40 1 3 ++ z ++ z ++ four 0 0 0x10 0 ++ four 0x28 0 0 0 ++ z ++ four 1 0 0 0 ++ z)
    ▹ Device (four 0x22 0 1 3 ++ z ++ four 0 0 0x10 0 ++ z ++ four 0 0 0x10 0 ++ z ++ z ++ z ++ block_of 2)
    ▹ Device (four 0x21 0 1 3 ++ replicate 28 0)
    ▹ Host (four 0x01 0x20 1 2 ++ z ++ z ++ four 0 0 0x10 0 ++ four 0x2A 0 0 0 ++ z ++ four 1 0 0 0 ++ z)
    ▹ Device (four 0x31 0 1 2 ++ z ++ z ++ z ++ four 0 0 0x10 0 ++ z ++ z ++ z)
    ▹ Host (four 0x02 0 1 2 ++ z ++ four 0 0 0x10 0 ++ z ++ four 0 0 0x10 0 ++ z ++ z ++ z ++ block_of 3)
    ▹ Device (four 0x21 0 1 2 ++ replicate 28 0)

written_sound : Sound two_units unit written
unfolding reply_of effects_of wire_fault_of upiu_at upiu_out kind_of cdb_of
written_sound = record {
  so_far = (
    (
      (
        (
          (
            (
              (tt, tt),
              ((Data (block_of 2), (omega arith, refl), refl), (0, omega arith, refl)),
            ),
            ((Good [], (refl, refl, omega arith), refl), tt),
          ),
          tt,
        ),
        ((Ask 0x1000, (refl, omega arith, refl), refl), tt),
      ),
      tt,
    ),
    ((Good [], (refl, refl, omega arith), refl), tt),
  );
  nothing_owed = refl;
}

changed : candidates two_units unit written at ≡ block_of 3 ∷ []
unfolding reply_of wire_fault_of upiu_at kind_of cdb_of
changed = refl

unchanged : candidates two_units unit written below ≡ block_of 1 ∷ []
unfolding reply_of wire_fault_of upiu_at kind_of cdb_of
unchanged = refl

-- a page that is moved for one unit changes no region of the other
abbrev shape : Shape
shape = record { units = 20; region_exp = 10; sub_exp = 8; held = 4; mode = DeviceMode }

other_regions : machine_after shape two_units 0 ([] ▹ Moved 1 5) ≡ machine_after shape two_units 0 []
other_regions = refl

own_regions : machine_after shape two_units 1 ([] ▹ Moved 1 5) ≡ after_change (machine_after shape two_units 1 []) 5
own_regions = refl
