-- Why tasks end with a sense: a failed call stands directly before it, or the numbers have ended, or the chip is foreign.
use Rattle.std.proofs.Common.{◌≡◌, ◌^◌, [], ◌∷◌, refl, arith, inl}
use Rattle.flash_pages.specs.declared.chip.ChipOp.TheVariants.{Read, Program}
use Rattle.flat_unit.specs.declared.event.Event.TheVariants.{Host, Device, Failed}
use Rattle.hpb_cdb.specs.Read.{cdb_of}
use Rattle.upiu_wire.specs.Kind.{kind_of}
use Rattle.upiu_wire.specs.Upiu.{upiu_at, upiu_out}
use Rattle.upiu_wire.specs.WireFault.{wire_fault_of}
use Rattle.flat_unit.specs.Causes.{Caused, failures}
use Rattle.flat_unit.specs.History.{History, ◌▹◌}
use Rattle.flat_unit.specs.Reply.{reply_of, effects_of}
use Rattle.flat_unit.specs.Sends.{Data, Check}
use Rattle.flat_unit.specs.Senses.{read_failed}
use Rattle.flat_unit.specs.Sound.{Sound}
use Rattle.flat_unit.proofs.standing.OneCall.{cause_foreign, cause_number, cause_read, cause_write}
use Rattle.flat_unit.proofs.rows.Bytes.{sizes, block_of, blank_unit, read, write, test_ready, data_in, data_out, ready, check_with}

-- one block was sent, then a call failed
abbrev read_ends : History
read_ends = [] ▹ Host (read 6 0x3000 0 3) ▹ Device (data_in 6 0 (block_of 0)) ▹ Failed Read ▹ Device (check_with 0x20 6 0x2000 0x03 0x11)

read_ends_sound : Sound sizes blank_unit read_ends
unfolding reply_of effects_of wire_fault_of upiu_at upiu_out kind_of cdb_of
read_ends_sound = record {
  so_far = ((((tt, tt), ((Data (block_of 0), (omega arith, refl), refl), (0, omega arith, refl))), tt), ((Check read_failed, inl refl, refl), tt));
  nothing_owed = refl;
}

read_ends_caused : Caused sizes ⊥ 0 read_ends
unfolding reply_of effects_of wire_fault_of upiu_at upiu_out kind_of cdb_of
read_ends_caused = ((((tt, tt), (λ none. none)), tt), cause_read sizes ⊥ 0 _)

one_failure : failures read_ends ≡ 1
one_failure = refl

-- no call failed
no_cause : Caused sizes ⊥ 0 ([] ▹ Host (read 6 0x3000 0 3) ▹ Device (check_with 0x20 6 0x3000 0x03 0x11)) → ⊥
unfolding reply_of effects_of wire_fault_of upiu_at upiu_out kind_of cdb_of
no_cause caused = let why = caused.1.read refl in let same : Host (read 6 0x3000 0 3) ∷ [] ≡ Failed Read ∷ why.0 = why.1 in cc

-- a write that a failed program ends
write_ends : Caused sizes ⊥ 0 ([] ▹ Host (write 2 0x1000 0 1) ▹ Device (ready 2 0 0x1000) ▹ Host (data_out 2 0 (block_of 1)) ▹ Failed Program ▹ Device (check_with 0 2 0 0x03 0x0C))
unfolding reply_of effects_of wire_fault_of upiu_at upiu_out kind_of cdb_of
write_ends = (((((tt, tt), (λ none. none)), tt), tt), cause_write sizes ⊥ 0 _ Program)

-- the numbers have ended, where the chip's next one was the last
abbrev no_more : History
no_more = [] ▹ Host (write 2 0x1000 0 1) ▹ Device (ready 2 0 0x1000) ▹ Host (data_out 2 0 (block_of 1)) ▹ Device (check_with 0 2 0 0x07 0x27)

no_more_caused : Caused sizes ⊥ (2 ^ 62) no_more
unfolding reply_of effects_of wire_fault_of upiu_at upiu_out kind_of cdb_of
no_more_caused = ((((tt, tt), (λ none. none)), tt), cause_number sizes ⊥ (2 ^ 62) _ (omega arith))

not_full : Caused sizes ⊥ 0 no_more → ⊥
unfolding reply_of effects_of wire_fault_of upiu_at upiu_out kind_of cdb_of
not_full caused = let full = caused.1.number refl in omega (arith, full)

-- a foreign chip: a task ends at once, and no block is sent
foreign_ends : Caused sizes (Unit {0}) 0 ([] ▹ Host (test_ready 4) ▹ Device (check_with 0 4 0 0x04 0x44))
unfolding reply_of effects_of wire_fault_of upiu_at upiu_out kind_of cdb_of
foreign_ends = ((tt, tt), cause_foreign sizes (Unit {0}) 0 _ tt)

foreign_block : Caused sizes (Unit {0}) 0 ([] ▹ Host (read 6 0x1000 0 1) ▹ Device (data_in 6 0 (block_of 0))) → ⊥
unfolding reply_of effects_of wire_fault_of upiu_at upiu_out kind_of cdb_of
foreign_block caused = caused.1 tt

-- nor did one of a write
no_write_cause : Caused sizes ⊥ 0 ([] ▹ Host (write 2 0x1000 0 1) ▹ Device (check_with 0x20 2 0x1000 0x03 0x0C)) → ⊥
unfolding reply_of effects_of wire_fault_of upiu_at upiu_out kind_of cdb_of
no_write_cause caused = caused.1.write refl

-- and a failed program is no cause of a read's end
wrong_call : Caused sizes ⊥ 0 ([] ▹ Host (read 6 0x3000 0 3) ▹ Failed Program ▹ Device (check_with 0x20 6 0x3000 0x03 0x11)) → ⊥
unfolding reply_of effects_of wire_fault_of upiu_at upiu_out kind_of cdb_of
wrong_call caused = let why = caused.1.read refl in let same : Failed Program ∷ Host (read 6 0x3000 0 3) ∷ [] ≡ Failed Read ∷ why.0 = why.1 in cc
