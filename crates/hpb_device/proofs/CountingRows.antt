-- Counts that fit a history, and the same with one step less.
use Rattle.std.proofs.Common.{ℕ, [], refl, arith}
use Rattle.hpb_cdb.specs.Read.{cdb_of}
use Rattle.upiu_wire.specs.Kind.{kind_of}
use Rattle.upiu_wire.specs.Upiu.{upiu_at}
use Rattle.upiu_wire.specs.WireFault.{wire_fault_of}
use Rattle.flat_unit.specs.declared.event.Event.TheVariants.{Device, Host, Reset}
use Rattle.flat_unit.specs.History.{History, ◌▹◌}
use Rattle.flat_unit.specs.Reply.{effects_of, reply_of}
use Rattle.flat_unit.proofs.rows.Bytes.{block_of, data_in, data_out, good, read, ready, sizes, write}
use Rattle.hpb_device.specs.declared.counts.Counts.{Counts}
use Rattle.hpb_device.specs.Counted.{AreCounted}

abbrev counts : (steps lookups : ℕ) → Counts
counts steps lookups = record { steps = steps; lookups = lookups; entries = 0; moved = 0; erased = 0 }

-- five pages of the scan were read
scanned : AreCounted sizes 5 0 (counts 5 0) []
scanned = record {
  exact = record { steps = 5; lookups = 0; entries = 0; moved = 0; erased = 0 };
  steps_told = refl;
  lookups_told = refl;
  entries_told = refl;
  moved_told = refl;
  fresh_served = omega arith;
  entries_had = omega arith;
  all_found = omega arith;
  none_else = omega arith;
  moved = refl;
  steps = omega arith;
}

scanned_by_four : AreCounted sizes 5 0 (counts 4 0) [] → ⊥
scanned_by_four at = omega (arith, at.steps, at.steps_told)

-- a block is written and read back, on a chip of 32 pages: it is scanned, programmed, looked up, and four UPIUs are sent
abbrev read_back : History
read_back = [] ▹ Host (write 2 4096 0 1) ▹ Device (ready 2 0 4096) ▹ Host (data_out 2 0 (block_of 0xA5)) ▹ Device (good 2)
    ▹ Host (read 3 4096 0 1) ▹ Device (data_in 3 0 (block_of 0xA5)) ▹ Device (good 3)

fits : AreCounted sizes 32 0 (counts 37 1) read_back
unfolding reply_of effects_of wire_fault_of upiu_at kind_of cdb_of
fits = record {
  exact = record { steps = 37; lookups = 1; entries = 0; moved = 0; erased = 0 };
  steps_told = refl;
  lookups_told = refl;
  entries_told = refl;
  moved_told = refl;
  fresh_served = omega arith;
  entries_had = omega arith;
  all_found = omega arith;
  none_else = omega arith;
  moved = refl;
  steps = omega arith;
}

one_step_less : AreCounted sizes 32 0 (counts 36 1) read_back → ⊥
unfolding reply_of effects_of wire_fault_of upiu_at kind_of cdb_of
one_step_less at = let steps = at.steps in omega (arith, steps, at.steps_told)

not_looked_up : AreCounted sizes 32 0 (counts 37 0) read_back → ⊥
unfolding reply_of effects_of wire_fault_of upiu_at kind_of cdb_of
not_looked_up at =
    let found = at.all_found in
    let had = at.entries_had in
    omega (arith, found, had, at.lookups_told)

-- a reset begins the scan anew
again : AreCounted sizes 3 0 (counts 40 1) (read_back ▹ Reset)
unfolding reply_of effects_of wire_fault_of upiu_at kind_of cdb_of
again = record {
  exact = record { steps = 40; lookups = 1; entries = 0; moved = 0; erased = 0 };
  steps_told = refl;
  lookups_told = refl;
  entries_told = refl;
  moved_told = refl;
  fresh_served = omega arith;
  entries_had = omega arith;
  all_found = omega arith;
  none_else = omega arith;
  moved = refl;
  steps = omega arith;
}
