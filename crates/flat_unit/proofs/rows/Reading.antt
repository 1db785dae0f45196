-- A block that was never written reads as zeros.
use Rattle.std.proofs.Common.{◌≡◌, [], ◌∷◌, refl, arith, replicate}
use Rattle.flat_unit.specs.declared.event.Event.TheVariants.{Host, Device}
use Rattle.hpb_cdb.specs.declared.cdb.Cdb.TheVariants.{Read}
use Rattle.hpb_cdb.specs.Read.{cdb_of}
use Rattle.upiu_wire.specs.Kind.{kind_of}
use Rattle.upiu_wire.specs.Upiu.{upiu_at, upiu_out}
use Rattle.upiu_wire.specs.WireFault.{wire_fault_of}
use Rattle.flat_unit.specs.History.{History, ◌▹◌}
use Rattle.flat_unit.specs.Queue.{tasks_after}
use Rattle.flat_unit.specs.Reply.{reply_of, effects_of}
use Rattle.flat_unit.specs.Sends.{Answer, Data, Ask, Good, Check, Allows, upiu_of}
use Rattle.flat_unit.specs.Sound.{Sound}
use Rattle.flat_unit.specs.Task.{Task}
use Rattle.flat_unit.proofs.rows.Bytes.{sizes, block_of, differ_at, only_candidate, blank_unit, read, data_in, good, good_short}

-- READ(10) of block 5, its DATA IN and its RESPONSE
abbrev zeros_read : History
zeros_read = [] ▹ Host (read 1 4096 5 1) ▹ Device (data_in 1 0 (block_of 0)) ▹ Device (good 1)

ends : tasks_after sizes zeros_read ≡ []
unfolding reply_of wire_fault_of upiu_at kind_of cdb_of
ends = refl

is_sound : Sound sizes blank_unit zeros_read
unfolding reply_of effects_of wire_fault_of upiu_at upiu_out kind_of cdb_of
is_sound = record {
  so_far = (((tt, tt), ((Data (block_of 0), (omega arith, refl), refl), (0, omega arith, refl))), ((Good [], (refl, refl, omega arith), refl), tt));
  nothing_owed = refl;
}

-- another first byte was never written
other_byte : Sound sizes blank_unit ([] ▹ Host (read 1 4096 5 1) ▹ Device (data_in 1 0 (1 ∷ replicate 4095 0)) ▹ Device (good 1)) → ⊥
unfolding reply_of effects_of wire_fault_of upiu_at upiu_out kind_of cdb_of
other_byte sound = differ_at 0 (block_of 0) (1 ∷ replicate 4095 0) refl (only_candidate (block_of 0) (1 ∷ replicate 4095 0) sound.so_far.0.1.1)

-- no RESPONSE comes before the last block
reading : Task
reading = record { lun = 0; tag = 1; command = Read 5 1; expected = 4096; asked = 0; come = []; sent = 0 }

not_good : (a : Answer) → Allows sizes reading a → good 1 ≡ upiu_out (upiu_of sizes reading a) → ⊥
unfolding reading upiu_out
not_good (Data bytes) allows is = differ_at 0 _ _ refl is
not_good (Ask count) allows is = differ_at 0 _ _ refl is
not_good (Good segment) allows is = omega (arith, allows.0)
not_good (Check sense) allows is = differ_at 7 _ _ refl is

early_end : Sound sizes blank_unit ([] ▹ Host (read 1 4096 5 1) ▹ Device (good 1)) → ⊥
unfolding reading reply_of effects_of wire_fault_of upiu_at upiu_out kind_of cdb_of
early_end sound = not_good sound.so_far.1.0.0 sound.so_far.1.0.1 sound.so_far.1.0.2

-- a residual is what was expected and not moved
read_all : Task
read_all = record reading { sent = 4096 }

not_short : (a : Answer) → Allows sizes read_all a → good_short 1 1 ≡ upiu_out (upiu_of sizes read_all a) → ⊥
unfolding reading read_all upiu_out
not_short (Data bytes) allows is = differ_at 0 _ _ refl is
not_short (Ask count) allows is = differ_at 0 _ _ refl is
not_short (Good segment) allows is = differ_at 1 _ _ refl is
not_short (Check sense) allows is = differ_at 7 _ _ refl is

wrong_residual : Sound sizes blank_unit ([] ▹ Host (read 1 4096 5 1) ▹ Device (data_in 1 0 (block_of 0)) ▹ Device (good_short 1 1)) → ⊥
unfolding reading read_all reply_of effects_of wire_fault_of upiu_at upiu_out kind_of cdb_of
wrong_residual sound = not_short sound.so_far.1.0.0 sound.so_far.1.0.1 sound.so_far.1.0.2
