-- What is answered at once: bytes that are no UPIU, commands that are refused, and data that weren't asked for.
use Rattle.std.proofs.Common.{List, ◌∷◌, ◌≡◌, ℕ, zero, suc, [], ◌++◌, refl, arith, replicate}
use Rattle.flat_unit.specs.declared.event.Event.TheVariants.{Host, Device}
use Rattle.hpb_cdb.specs.Read.{cdb_of}
use Rattle.upiu_wire.specs.Kind.{kind_of}
use Rattle.upiu_wire.specs.Upiu.{upiu_at, upiu_out}
use Rattle.upiu_wire.specs.WireFault.{wire_fault_of}
use Rattle.flat_unit.specs.History.{History, ◌▹◌}
use Rattle.flat_unit.specs.Reply.{reply_of, effects_of}
use Rattle.flat_unit.specs.Sends.{Data, Ask, Good}
use Rattle.flat_unit.specs.Sound.{SoundSoFar, Sound, owed}
use Rattle.flat_unit.proofs.rows.Bytes.{sizes, block_of, blank_unit, differ_at, z, four, read, write, test_ready, data_in, data_out, ready, good, good_short, check_with, reject}

-- reads at the end of the unit: in range, past it, of no blocks, and of none past it
abbrev at_the_end : History
at_the_end = [] ▹ Host (read 4 0x1000 19 1) ▹ Device (data_in 4 0 (block_of 0)) ▹ Device (good 4)
    ▹ Host (read 5 0x2000 19 2) ▹ Device (check_with 0x20 5 0x2000 0x05 0x21)
    ▹ Host (read 6 0 20 0) ▹ Device (good 6)
    ▹ Host (read 7 0 21 0) ▹ Device (check_with 0x00 7 0 0x05 0x21)

at_the_end_sound : Sound sizes blank_unit at_the_end
unfolding reply_of effects_of wire_fault_of upiu_at upiu_out kind_of cdb_of
at_the_end_sound = record {
  so_far = (
    (
      (
        (
          (
            (
              (
                (
                  (tt, tt),
                  ((Data (block_of 0), (omega arith, refl), refl), (0, omega arith, refl)),
                ),
                ((Good [], (refl, refl, omega arith), refl), tt),
              ),
              tt,
            ),
            refl,
          ),
          tt,
        ),
        ((Good [], (refl, refl, omega arith), refl), tt),
      ),
      tt,
    ),
    refl,
  );
  nothing_owed = refl;
}

-- bytes that are no UPIU, and data that no task waits for
too_short : Sound sizes blank_unit ([] ▹ Host (replicate 31 0) ▹ Device (reject 0 0 1))
unfolding reply_of effects_of wire_fault_of upiu_at upiu_out kind_of cdb_of
too_short = record { so_far = (((tt, tt), refl)); nothing_owed = refl }

digest : Sound sizes blank_unit ([] ▹ Host (four 0x41 0 0 0 ++ z ++ four 0x01 0 0 0 ++ replicate 20 0) ▹ Device (reject 0 0 2))
unfolding reply_of effects_of wire_fault_of upiu_at upiu_out kind_of cdb_of
digest = record { so_far = (((tt, tt), refl)); nothing_owed = refl }

unknown_kind : Sound sizes blank_unit ([] ▹ Host (four 0x3E 0 0 0 ++ replicate 28 0) ▹ Device (reject 0 0 5))
unfolding reply_of effects_of wire_fault_of upiu_at upiu_out kind_of cdb_of
unknown_kind = record { so_far = (((tt, tt), refl)); nothing_owed = refl }

data_without_task : Sound sizes blank_unit ([] ▹ Host (four 0x02 0 0 0 ++ replicate 28 0) ▹ Device (reject 0 0 9))
unfolding reply_of effects_of wire_fault_of upiu_at upiu_out kind_of cdb_of
data_without_task = record { so_far = (((tt, tt), refl)); nothing_owed = refl }

-- the answer is owed
missing_reply : Sound sizes blank_unit ([] ▹ Host (replicate 31 0)) → ⊥
unfolding reply_of effects_of wire_fault_of upiu_at upiu_out kind_of cdb_of
missing_reply sound = let due : owed sizes ([] ▹ Host (replicate 31 0)) ≡ [] = sound.nothing_owed in cc

-- and another reason isn't it
wrong_reason : Sound sizes blank_unit ([] ▹ Host (replicate 31 0) ▹ Device (reject 0 0 2)) → ⊥
unfolding reply_of effects_of wire_fault_of upiu_at upiu_out kind_of cdb_of
wrong_reason sound = let same : Device (reject 0 0 2) ≡ Device (reject 0 0 1) = sound.so_far.1 in let bytes : reject 0 0 2 ≡ reject 0 0 1 = cc in differ_at 12 _ _ refl bytes

-- 32 commands are kept; a tag in use, and a 33rd command
abbrev commands : ℕ → History
commands zero = []
commands (suc n) = commands n ▹ Host (test_ready n)

sixteen_kept : SoundSoFar sizes blank_unit (commands 16)
unfolding reply_of effects_of wire_fault_of upiu_at upiu_out kind_of cdb_of
sixteen_kept = ((((((((((((((((tt, tt), tt), tt), tt), tt), tt), tt), tt), tt), tt), tt), tt), tt), tt), tt), tt)

full : Sound sizes blank_unit (commands 32 ▹ Host (test_ready 4) ▹ Device (reject 0 4 8) ▹ Host (test_ready 40) ▹ Device (four 0x21 0 0 40 ++ four 0 0 0x01 0x28 ++ replicate 24 0))
unfolding reply_of effects_of wire_fault_of upiu_at upiu_out kind_of cdb_of
full = record { so_far = ((((((((((((((((((((sixteen_kept, tt), tt), tt), tt), tt), tt), tt), tt), tt), tt), tt), tt), tt), tt), tt), tt), tt), refl), tt), refl); nothing_owed = refl }

-- data at another offset end the write; a read that expects more than it moves says so
abbrev wrong_offset : History
wrong_offset = [] ▹ Host (write 2 0x1000 0 1) ▹ Device (ready 2 0 0x1000) ▹ Host (data_out 2 0x1000 (block_of 0xA5)) ▹ Device (check_with 0x20 2 0x1000 0x0B 0x4B)
    ▹ Host (read 3 0x2000 5 1) ▹ Device (data_in 3 0 (block_of 0)) ▹ Device (good_short 3 0x1000)

wrong_offset_sound : Sound sizes blank_unit wrong_offset
unfolding reply_of effects_of wire_fault_of upiu_at upiu_out kind_of cdb_of
wrong_offset_sound = record {
  so_far = (
    (
      (
        (
          (
            (
              (tt, tt),
              ((Ask 0x1000, (refl, omega arith, refl), refl), tt),
            ),
            tt,
          ),
          refl,
        ),
        tt,
      ),
      ((Data (block_of 0), (omega arith, refl), refl), (0, omega arith, refl)),
    ),
    ((Good [], (refl, refl, omega arith), refl), tt),
  );
  nothing_owed = refl;
}

-- what had come before is no residual
abbrev second_wrong : History
second_wrong = [] ▹ Host (write 2 0x2000 0 2) ▹ Device (ready 2 0 0x2000) ▹ Host (data_out 2 0 (block_of 0xA5))
    ▹ Host (data_out 2 0 (block_of 0xA5)) ▹ Device (check_with 0x20 2 0x1000 0x0B 0x4B)

second_wrong_sound : Sound sizes blank_unit second_wrong
unfolding reply_of effects_of wire_fault_of upiu_at upiu_out kind_of cdb_of
second_wrong_sound = record {
  so_far = (((((tt, tt), ((Ask 0x2000, (refl, omega arith, refl), refl), tt)), tt), tt), refl);
  nothing_owed = refl;
}

-- data for another tag, and data of no bytes
other_tag : Sound sizes blank_unit ([] ▹ Host (write 2 0x1000 0 1) ▹ Device (ready 2 0 0x1000) ▹ Host (data_out 3 0 (block_of 0xA5)) ▹ Device (reject 0 3 9))
unfolding reply_of effects_of wire_fault_of upiu_at upiu_out kind_of cdb_of
other_tag = record { so_far = ((((tt, tt), ((Ask 0x1000, (refl, omega arith, refl), refl), tt)), tt), refl); nothing_owed = refl }

no_bytes : Sound sizes blank_unit ([] ▹ Host (write 2 0x1000 0 1) ▹ Device (ready 2 0 0x1000) ▹ Host (data_out 2 0 []) ▹ Device (check_with 0x20 2 0x1000 0x0B 0x4B))
unfolding reply_of effects_of wire_fault_of upiu_at upiu_out kind_of cdb_of
no_bytes = record { so_far = ((((tt, tt), ((Ask 0x1000, (refl, omega arith, refl), refl), tt)), tt), refl); nothing_owed = refl }

-- an expected length below what is needed, another logical unit, an opcode that is none
short_length : Sound sizes blank_unit ([] ▹ Host (read 4 0xFFF 0 1) ▹ Device (check_with 0x20 4 0xFFF 0x05 0x24))
unfolding reply_of effects_of wire_fault_of upiu_at upiu_out kind_of cdb_of
short_length = record { so_far = ((tt, tt), refl); nothing_owed = refl }

abbrev no_such_unit : List ℕ
no_such_unit = four 0x21 0 1 4 ++ four 0 0 0x01 0x02 ++ four 0 0 0 0x14 ++ replicate 20 0 ++ four 0 0x12 0x70 0 ++ four 0x05 0 0 0 ++ four 0 0x0A 0 0 ++ four 0 0 0x25 0 ++ z

other_unit : Sound sizes blank_unit ([] ▹ Host (four 0x01 0 1 4 ++ replicate 28 0) ▹ Device no_such_unit)
unfolding reply_of effects_of wire_fault_of upiu_at upiu_out kind_of cdb_of
other_unit = record { so_far = ((tt, tt), refl); nothing_owed = refl }

other_opcode : Sound sizes blank_unit ([] ▹ Host (four 0x01 0 0 4 ++ z ++ z ++ z ++ four 0x29 0 0 0 ++ replicate 12 0) ▹ Device (check_with 0 4 0 0x05 0x20))
unfolding reply_of effects_of wire_fault_of upiu_at upiu_out kind_of cdb_of
other_opcode = record { so_far = ((tt, tt), refl); nothing_owed = refl }

-- a device that doesn't serve an opcode knows none of its commands
not_served : Sound (record sizes { opcodes = 0x00 ∷ [] }) blank_unit ([] ▹ Host (read 4 0x1000 0 1) ▹ Device (check_with 0x20 4 0x1000 0x05 0x20))
unfolding reply_of effects_of wire_fault_of upiu_at upiu_out kind_of cdb_of
not_served = record { so_far = ((tt, tt), refl); nothing_owed = refl }
