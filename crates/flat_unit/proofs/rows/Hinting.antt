-- Four reads of a subregion make it due, and the fourth RESPONSE tells it.
use Rattle.std.proofs.Common.{ℕ, List, [], ◌++◌, refl}
use Rattle.flat_unit.specs.declared.event.Event.TheVariants.{Host, Device}
use Rattle.hpb_cdb.specs.Read.{cdb_of}
use Rattle.region_state.specs.declared.shape.Mode.TheVariants.{Device as DeviceMode}
use Rattle.region_state.specs.declared.shape.Shape.{Shape}
use Rattle.region_state.specs.Machine.{after_read, after_told, due}
use Rattle.upiu_wire.specs.Kind.{kind_of}
use Rattle.upiu_wire.specs.Upiu.{upiu_at, upiu_out}
use Rattle.upiu_wire.specs.WireFault.{wire_fault_of}
use Rattle.flat_unit.specs.Hints.{Hinted, hint_of, after_take}
use Rattle.flat_unit.specs.History.{History, ◌▹◌}
use Rattle.flat_unit.specs.Reply.{reply_of, effects_of}
use Rattle.flat_unit.specs.Sizes.{Sizes}
use Rattle.flat_unit.proofs.rows.Bytes.{sizes, block_of, z, four, read, data_in, good}

-- regions of eight blocks and subregions of two
abbrev small : Sizes
small = record sizes { per_region = 8; per_sub = 2 }

abbrev shape : Shape
shape = record { units = 20; region_exp = 6; sub_exp = 4; held = 4; mode = DeviceMode }

abbrev one_read : History → ℕ → List ℕ → History
one_read e tag answer = e ▹ Host (read tag 0x1000 4 1) ▹ Device (data_in tag 0 (block_of 0)) ▹ Device answer

-- GOOD with a region update: subregion 2 of region 0 is to be active
abbrev active_told : ℕ → List ℕ
active_told tag = four 0x21 0 0 tag ++ z ++ four 0 0 0 0x14 ++ z ++ z ++ z ++ z ++ z ++ four 0 0x12 0x80 0x10 ++ four 0x01 0 0x01 0 ++ four 0 0 0 0x02 ++ z ++ z

abbrev three_reads : History
three_reads = one_read (one_read (one_read [] 1 (good 1)) 2 (good 2)) 3 (good 3)

four_reads : Hinted shape small (one_read three_reads 4 (active_told 4))
unfolding reply_of effects_of wire_fault_of upiu_at upiu_out kind_of cdb_of hint_of after_take after_read after_told due
four_reads = ((((((((((((tt, tt), tt), (refl, tt)), tt), tt), (refl, tt)), tt), tt), (refl, tt)), tt), tt), (refl, tt))

-- a device that tells nothing isn't hinted
untold : Hinted shape small (one_read three_reads 4 (good 4)) → ⊥
unfolding reply_of effects_of wire_fault_of upiu_at upiu_out kind_of cdb_of hint_of after_take after_read after_told due
untold hinted = let same = hinted.1.0 in cc

-- what was told isn't told again
five_reads : Hinted shape small (one_read (one_read three_reads 4 (active_told 4)) 5 (good 5))
unfolding reply_of effects_of wire_fault_of upiu_at upiu_out kind_of cdb_of hint_of after_take after_read after_told due
five_reads = (((four_reads, tt), tt), (refl, tt))
