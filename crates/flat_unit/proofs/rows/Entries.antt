-- Lists of entries: what READ BUFFER lists, what a prefetch keeps, and what is counted of reads with entries.
use Rattle.std.proofs.Common.{Option, zero, suc, ◌+◌, ◌-◌, ◌*◌, Bool, ◌&&◌, ◌==◌, sym, subst, nat_le, slice_range, None, ◌≡◌, ℕ, true, false, List, [], ◌∷◌, ◌++◌, Some, refl, arith, replicate}
use Rattle.std.specs.Prelude.{if◌then◌else◌}
use Rattle.std.proofs.lemmas.Bool.Decides.{nat_tests}
use Rattle.byteorder.specs.Endian.{big_number}
use Rattle.flash_pages.specs.Place.{Place}
use Rattle.flat_unit.specs.declared.event.Event.TheVariants.{Host, Device, Reset, Moved, Gone}
use Rattle.hpb_cdb.specs.Read.{cdb_of}
use Rattle.upiu_wire.specs.Kind.{kind_of}
use Rattle.upiu_wire.specs.Upiu.{upiu_at, upiu_out}
use Rattle.upiu_wire.specs.WireFault.{wire_fault_of}
use Rattle.flat_unit.specs.Contents.{Block}
use Rattle.flat_unit.specs.Counts.{Counted, blocks_by_entry, next_entry, sends, stretches}
use Rattle.flat_unit.specs.Entries.{TellsEntry, number_in, Told, is_fresh, listed, no_page}
use Rattle.flat_unit.specs.History.{History, ◌▹◌}
use Rattle.flat_unit.specs.Lists.{lists_after}
use Rattle.flat_unit.specs.Queue.{tasks_after}
use Rattle.flat_unit.specs.Reply.{reply_of, effects_of}
use Rattle.flat_unit.specs.Sends.{Data, Good}
use Rattle.flat_unit.specs.Sizes.{Sizes}
use Rattle.flat_unit.specs.Sound.{Sound}
use Rattle.flat_unit.specs.Writes.{blocks_come, blocks_good}
use Rattle.flat_unit.proofs.rows.Bytes.{sizes, block_of, place, z, four, number, read, write, data_in, data_out, ready, good, good_short, check_with}

-- a device with small regions, whose last subregion has one block
abbrev small : Sizes
small = record sizes { units = 19; per_region = 8; per_sub = 2 }

abbrev small_unit : List Block
small_unit = replicate 19 (block_of 0)

-- READ BUFFER of so many bytes, and HPB READ with an entry for its first block
abbrev read_buffer : ℕ → ℕ → ℕ → ℕ → List ℕ
read_buffer tag region sub len = four 0x01 0x40 0 tag ++ z ++ z ++ number len ++ four 0xF9 0x01 0 region ++ four 0 sub 0 0 ++ four len 0 0 0 ++ z

abbrev hpb_read : ℕ → ℕ → ℕ → ℕ → ℕ → ℕ → List ℕ
hpb_read tag expected lba entry n id = four 0x01 0x40 0 tag ++ z ++ z ++ number expected ++ four 0xF8 0 0 0 ++ four 0 lba 0 0 ++ four 0 0 0 0 ++ four 0 entry n id

abbrev prefetch : ℕ → ℕ → ℕ → ℕ → List ℕ
prefetch tag lba id len = four 0x01 0x20 0 tag ++ z ++ z ++ number len ++ four 0xFA 0x02 0 0 ++ four 0 lba id 0 ++ four len 0 0 0 ++ z

abbrev entry : ℕ → List ℕ
entry n = z ++ number n

-- a block that was never written has no page
abbrev none_listed : History
none_listed = [] ▹ Host (read_buffer 7 2 1 16) ▹ Device (data_in 7 0 (replicate 8 0xFF)) ▹ Device (good_short 7 8)
    ▹ Host (read_buffer 8 2 2 8) ▹ Device (check_with 0x20 8 8 0x05 0x24)

none_listed_sound : Sound small small_unit none_listed
unfolding reply_of effects_of wire_fault_of upiu_at upiu_out kind_of cdb_of
none_listed_sound = record {
  so_far = (
    (
      (
        (
          (tt, tt),
          ((Data (replicate 8 0xFF), (omega arith, refl), refl), tt),
        ),
        ((Good [], (refl, refl, omega arith), refl), tt),
      ),
      tt,
    ),
    refl,
  );
  nothing_owed = refl;
}

listed_none : listed small (tasks_after small ([] ▹ Host (read_buffer 7 2 1 16))) (Device (data_in 7 0 (replicate 8 0xFF))) (place 18) ≡ Some no_page
unfolding reply_of wire_fault_of upiu_at kind_of cdb_of
listed_none = refl

-- an entry is fresh until its block may have moved
abbrev one_listed : History
one_listed = [] ▹ Host (read_buffer 7 0 0 8) ▹ Device (data_in 7 0 (entry 5)) ▹ Device (good 7)

fresh : is_fresh small one_listed (place 0) 5 ≡ true
unfolding reply_of wire_fault_of upiu_at kind_of cdb_of
fresh = refl

other_page : is_fresh small one_listed (place 0) 6 ≡ false
unfolding reply_of wire_fault_of upiu_at kind_of cdb_of
other_page = refl

moved_away : is_fresh small (one_listed ▹ Moved 0 0) (place 0) 5 ≡ false
unfolding reply_of wire_fault_of upiu_at kind_of cdb_of
moved_away = refl

written_over : is_fresh small (one_listed ▹ Host (write 2 0x1000 0 1) ▹ Device (ready 2 0 0x1000) ▹ Host (data_out 2 0 (block_of 1))) (place 0) 5 ≡ false
unfolding reply_of wire_fault_of upiu_at kind_of cdb_of
written_over = refl

other_block : is_fresh small (one_listed ▹ Moved 0 1 ▹ Reset) (place 0) 5 ≡ true
unfolding reply_of wire_fault_of upiu_at kind_of cdb_of
other_block = refl

-- a list that was prefetched gives each block of its read an entry, and is used up
abbrev prefetched : History
prefetched = [] ▹ Host (prefetch 11 0 127 16) ▹ Device (ready 11 0 16) ▹ Host (data_out 11 0 (entry 0 ++ entry 1)) ▹ Device (good 11)

list_kept : lists_after sizes prefetched ≡ record { lun = 0; id = 127; lba = 0; bytes = entry 0 ++ entry 1 } ∷ []
unfolding reply_of wire_fault_of upiu_at kind_of cdb_of
list_kept = refl

first_entry : next_entry sizes (prefetched ▹ Host (hpb_read 12 0x2000 0 9 2 127)) (tasks_after sizes (prefetched ▹ Host (hpb_read 12 0x2000 0 9 2 127))) ≡ Some 0
unfolding reply_of wire_fault_of upiu_at kind_of cdb_of
first_entry = refl

abbrev one_read : History
one_read = prefetched ▹ Host (hpb_read 12 0x2000 0 9 2 127) ▹ Device (data_in 12 0 (block_of 0))

second_entry : next_entry sizes one_read (tasks_after sizes one_read) ≡ Some 1
unfolding reply_of wire_fault_of upiu_at kind_of cdb_of
second_entry = refl

abbrev used_up : History
used_up = one_read ▹ Device (data_in 12 0x1000 (block_of 0)) ▹ Device (good 12)

list_used : lists_after sizes used_up ≡ []
unfolding reply_of wire_fault_of upiu_at kind_of cdb_of
list_used = refl

both_had_entries : blocks_by_entry sizes used_up ≡ 2
unfolding reply_of wire_fault_of upiu_at kind_of cdb_of
both_had_entries = refl

-- without a list the entry of the CDB serves the first block
cdb_entry : next_entry sizes (used_up ▹ Host (hpb_read 13 0x2000 0 9 2 127)) (tasks_after sizes (used_up ▹ Host (hpb_read 13 0x2000 0 9 2 127))) ≡ Some 9
unfolding reply_of wire_fault_of upiu_at kind_of cdb_of
cdb_entry = refl

-- what is counted of a block that is written and read back, on a chip of 32 pages
abbrev read_back : History
read_back = [] ▹ Host (write 2 4096 0 1) ▹ Device (ready 2 0 4096) ▹ Host (data_out 2 0 (block_of 0xA5)) ▹ Device (good 2)
    ▹ Host (read 3 4096 0 1) ▹ Device (data_in 3 0 (block_of 0xA5)) ▹ Device (good 3)

counted : Counted sizes 32 4 32 read_back (record { steps = 37; lookups = 1; entries = 0; moved = 0; erased = 0 })
unfolding reply_of effects_of wire_fault_of upiu_at kind_of cdb_of
counted = record {
  fresh_served = omega arith;
  entries_had = omega arith;
  all_found = omega arith;
  none_else = omega arith;
  moved = refl;
  room = omega arith;
  erased = omega arith;
  steps = omega arith;
}

one_block : (blocks_come sizes read_back ≡ 1) × (blocks_good sizes read_back ≡ 1)
unfolding reply_of wire_fault_of upiu_at kind_of cdb_of
one_block = (refl, refl)

one_stretch : (stretches sizes read_back ≡ 1) × (sends sizes read_back ≡ 4)
unfolding reply_of effects_of wire_fault_of upiu_at kind_of cdb_of
one_stretch = (refl, refl)

-- an entry that is cut isn't listed
abbrev half_entry : List ℕ
half_entry = four 0x22 0 0 7 ++ z ++ four 0 0 0 12 ++ z ++ number 12 ++ z ++ z ++ z ++ entry 5 ++ number 0

cut_entry : listed small (tasks_after small ([] ▹ Host (read_buffer 7 0 0 12))) (Device half_entry) (place 1) ≡ None
unfolding reply_of wire_fault_of upiu_at kind_of cdb_of
cut_entry = refl

-- a list serves the LBA that it was made for, and the entry of a CDB the first block alone
abbrev other_lba : History
other_lba = prefetched ▹ Host (hpb_read 12 0x2000 1 9 2 127)

other_lba_entry : next_entry sizes other_lba (tasks_after sizes other_lba) ≡ Some 9
unfolding reply_of wire_fault_of upiu_at kind_of cdb_of
other_lba_entry = refl

no_second_entry : next_entry sizes (other_lba ▹ Device (data_in 12 0 (block_of 0))) (tasks_after sizes (other_lba ▹ Device (data_in 12 0 (block_of 0)))) ≡ None
unfolding reply_of wire_fault_of upiu_at kind_of cdb_of
no_second_entry = refl

-- a read that goes leaves its list, and a reset drops all lists
list_stays : lists_after sizes (prefetched ▹ Host (hpb_read 12 0x2000 0 9 2 127) ▹ Gone 12) ≡ lists_after sizes prefetched
unfolding reply_of wire_fault_of upiu_at kind_of cdb_of
list_stays = refl

lists_dropped : lists_after sizes (prefetched ▹ Reset) ≡ []
lists_dropped = refl

-- what is listed must be told by the first chip: a page where it had one or a write was GOOD, and none where no write came
abbrev all_none : List ℕ
all_none = replicate 8 0xFF

number_told : (p : Place) (k : ℕ) → TellsEntry small 32 (λ _. false) ([] ▹ Host (read_buffer 7 2 1 16)) p (number_in all_none 0 (8 * k))
unfolding reply_of wire_fault_of upiu_at kind_of cdb_of
number_told p zero = refl
number_told p (suc k) =
    let outside : nat_le (8 * suc k + 8) 8 ≡ false = grind (arith, nat_tests) in
    subst (λ (b : Bool). TellsEntry small 32 (λ _. false) ([] ▹ Host (read_buffer 7 2 1 16)) p (entry_where (nat_le 0 (8 * suc k) && b))) (sym outside)
    (none_there (nat_le 0 (8 * suc k)))
  where
    entry_where : Bool → Option ℕ
    entry_where b = if b then Some (big_number 8 (slice_range all_none (8 * suc k - 0) (8 * suc k - 0 + 8))) else None

    none_there : (b : Bool) → TellsEntry small 32 (λ _. false) ([] ▹ Host (read_buffer 7 2 1 16)) p (entry_where (b && false))
    none_there true = tt
    none_there false = tt

place_told : (p : Place) (b : Bool) → TellsEntry small 32 (λ _. false) ([] ▹ Host (read_buffer 7 2 1 16)) p (if b then number_in all_none 0 (8 * (p.lba - 18)) else None)
place_told p true = number_told p (p.lba - 18)
place_told p false = tt

none_told : Told small 32 (λ _. false) none_listed
unfolding reply_of wire_fault_of upiu_at kind_of cdb_of
none_told = (((((tt, λ p. tt), λ p. place_told p ((0 == p.lun) && nat_le 18 p.lba)), λ p. tt), λ p. tt), λ p. tt)

wrongly_told : Told small 32 (λ _. false) one_listed → ⊥
unfolding reply_of wire_fault_of upiu_at kind_of cdb_of
wrongly_told told = let listed = told.0.1 (place 0) in omega (arith, listed)
