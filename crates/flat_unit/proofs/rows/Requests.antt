-- Requests beside commands: a task that goes, and a reset of HPB, which the next GOOD RESPONSE tells.
use Rattle.std.proofs.Common.{true, false, ◌≡◌, ℕ, List, [], ◌++◌, refl, arith, replicate}
use Rattle.flat_unit.specs.declared.event.Event.TheVariants.{Host, Device, Cleared, Switched, Gone}
use Rattle.hpb_cdb.specs.Read.{cdb_of}
use Rattle.region_state.specs.declared.shape.Mode.TheVariants.{Device as DeviceMode}
use Rattle.region_state.specs.declared.shape.Shape.{Shape}
use Rattle.region_state.specs.Machine.{after_all_inactive, after_reset, after_told, due}
use Rattle.upiu_wire.specs.Kind.{kind_of}
use Rattle.upiu_wire.specs.Upiu.{upiu_at, upiu_out}
use Rattle.upiu_wire.specs.WireFault.{wire_fault_of}
use Rattle.flat_unit.specs.Hints.{Hinted, hint_of, after_take}
use Rattle.flat_unit.specs.History.{History, ◌▹◌}
use Rattle.flat_unit.specs.Reply.{reply_of, effects_of}
use Rattle.flat_unit.specs.Sends.{Data, Ask, Good}
use Rattle.flat_unit.specs.Sound.{Sound, owed}
use Rattle.flat_unit.proofs.rows.Bytes.{sizes, block_of, blank_unit, z, four, read, write, test_ready, check_with, reject, data_in, data_out, ready, good}

-- ABORT TASK of the task with tag 7, and its TASK MANAGEMENT RESPONSE: complete
abbrev abort : List ℕ
abort = four 0x04 0 0 1 ++ four 0 0x01 0 0 ++ z ++ z ++ four 0 0 0 7 ++ z ++ z ++ z

abbrev aborted : List ℕ
aborted = four 0x24 0 0 1 ++ replicate 28 0

-- a write that goes leaves each of its blocks old or new
abbrev gone : History
gone = [] ▹ Host (write 2 0x3000 0 3) ▹ Device (ready 2 0 0x3000) ▹ Host (data_out 2 0 (replicate 0x3000 0x11)) ▹ Device (good 2)
    ▹ Host (write 7 0x3000 0 3) ▹ Device (ready 7 0 0x3000) ▹ Host (data_out 7 0 (replicate 0x3000 0x22))
    ▹ Host abort ▹ Device aborted

gone_sound : Sound sizes blank_unit (gone ▹ Gone 7
    ▹ Host (read 3 0x3000 0 3) ▹ Device (data_in 3 0 (block_of 0x22)) ▹ Device (data_in 3 0x1000 (block_of 0x22)) ▹ Device (data_in 3 0x2000 (block_of 0x11)) ▹ Device (good 3))
unfolding reply_of effects_of wire_fault_of upiu_at upiu_out kind_of cdb_of
gone_sound = record {
  so_far = (
    (
      (
        (
          (
            (
              (
                (
                  (
                    (
                      (
                        (
                          (
                            (
                              (tt, tt),
                              ((Ask 0x3000, (refl, omega arith, refl), refl), tt),
                            ),
                            tt,
                          ),
                          ((Good [], (refl, refl, omega arith), refl), tt),
                        ),
                        tt,
                      ),
                      ((Ask 0x3000, (refl, omega arith, refl), refl), tt),
                    ),
                    tt,
                  ),
                  tt,
                ),
                refl,
              ),
              refl,
            ),
            tt,
          ),
          ((Data (block_of 0x22), (omega arith, refl), refl), (1, omega arith, refl)),
        ),
        ((Data (block_of 0x22), (omega arith, refl), refl), (1, omega arith, refl)),
      ),
      ((Data (block_of 0x11), (omega arith, refl), refl), (0, omega arith, refl)),
    ),
    ((Good [], (refl, refl, omega arith), refl), tt),
  );
  nothing_owed = refl;
}

-- the task may not be kept
still_kept : Sound sizes blank_unit gone → ⊥
unfolding reply_of effects_of wire_fault_of upiu_at upiu_out kind_of cdb_of
still_kept sound = let due : owed sizes gone ≡ [] = sound.nothing_owed in cc

-- and none goes without a request
gone_alone : Sound sizes blank_unit ([] ▹ Host (test_ready 7) ▹ Gone 7) → ⊥
unfolding reply_of effects_of wire_fault_of upiu_at upiu_out kind_of cdb_of
gone_alone sound = sound.so_far.1

-- QUERY REQUEST: the flag of HPB's reset is set
abbrev reset_request : List ℕ
reset_request = four 0x16 0 0 3 ++ four 0 0x81 0 0 ++ z ++ four 0x06 0x11 0 0 ++ z ++ z ++ z ++ z

abbrev reset_answer : List ℕ
reset_answer = four 0x36 0 0 3 ++ four 0 0x81 0 0 ++ z ++ four 0x06 0x11 0 0 ++ z ++ z ++ z ++ z

-- GOOD with the hint that the host is to forget all
abbrev reset_told : List ℕ
reset_told = four 0x21 0 0 4 ++ z ++ four 0 0 0 0x14 ++ z ++ z ++ z ++ z ++ z ++ four 0 0x12 0x80 0x10 ++ four 0x02 0 0 0 ++ z ++ z ++ z

abbrev cleared : History
cleared = [] ▹ Host reset_request ▹ Device reset_answer ▹ Cleared ▹ Host (test_ready 4) ▹ Device reset_told

abbrev shape : Shape
shape = record { units = 20; region_exp = 10; sub_exp = 8; held = 4; mode = DeviceMode }

cleared_sound : Sound sizes blank_unit cleared
unfolding reply_of effects_of wire_fault_of upiu_at upiu_out kind_of cdb_of
cleared_sound = record {
  so_far = (((((tt, tt), refl), refl), tt), ((Good (four 0 0x12 0x80 0x10 ++ four 0x02 0 0 0 ++ z ++ z ++ z), (refl, refl, omega arith), refl), tt));
  nothing_owed = refl;
}

cleared_hinted : Hinted shape sizes cleared
unfolding reply_of effects_of wire_fault_of upiu_at upiu_out kind_of cdb_of hint_of after_take after_reset after_all_inactive after_told due
cleared_hinted = (((((tt, tt), tt), tt), tt), (refl, tt))

-- a body that drops the hint isn't hinted
not_told : Hinted shape sizes ([] ▹ Host reset_request ▹ Device reset_answer ▹ Cleared ▹ Host (test_ready 4) ▹ Device (good 4)) → ⊥
unfolding reply_of effects_of wire_fault_of upiu_at upiu_out kind_of cdb_of hint_of after_take after_reset after_all_inactive after_told due
not_told hinted = let same = hinted.1.0 in cc

-- the flag that switches HPB is read and cleared; while HPB is off its commands are unknown
abbrev flag : ℕ → ℕ → ℕ → ℕ → List ℕ
flag tag function opcode idn = four 0x16 0 0 tag ++ four 0 function 0 0 ++ z ++ four opcode idn 0 0 ++ z ++ z ++ z ++ z

abbrev flag_answer : ℕ → ℕ → ℕ → ℕ → ℕ → ℕ → List ℕ
flag_answer tag function code opcode idn value = four 0x36 0 0 tag ++ four 0 function code 0 ++ z ++ four opcode idn 0 0 ++ z ++ four 0 0 0 value ++ z ++ z

abbrev hpb_read : List ℕ
hpb_read = four 0x01 0x40 0 9 ++ z ++ z ++ four 0 0 0x10 0 ++ four 0xF8 0 0 0 ++ four 0 3 0 0 ++ z ++ four 0 1 1 1

abbrev switched_off : History
switched_off = [] ▹ Host (flag 5 0x01 0x05 0x12) ▹ Device (flag_answer 5 0x01 0 0x05 0x12 1)
    ▹ Host (flag 6 0x81 0x07 0x12) ▹ Device (flag_answer 6 0x81 0 0x07 0x12 0) ▹ Switched false

switched_off_sound : Sound sizes blank_unit (switched_off ▹ Host hpb_read ▹ Device (check_with 0x20 9 0x1000 0x05 0x20))
unfolding reply_of effects_of wire_fault_of upiu_at upiu_out kind_of cdb_of
switched_off_sound = record { so_far = (((((((tt, tt), refl), tt), refl), refl), tt), refl); nothing_owed = refl }

-- it is set, toggled twice, and off after a toggle more
switched_on_sound : Sound sizes blank_unit (switched_off
    ▹ Host (flag 7 0x81 0x06 0x12) ▹ Device (flag_answer 7 0x81 0 0x06 0x12 1) ▹ Switched true
    ▹ Host (flag 8 0x81 0x08 0x12) ▹ Device (flag_answer 8 0x81 0 0x08 0x12 0) ▹ Switched false
    ▹ Host (flag 9 0x81 0x08 0x12) ▹ Device (flag_answer 9 0x81 0 0x08 0x12 1) ▹ Switched true)
unfolding reply_of effects_of wire_fault_of upiu_at upiu_out kind_of cdb_of
switched_on_sound = record { so_far = ((((((((((((((tt, tt), refl), tt), refl), refl), tt), refl), refl), tt), refl), refl), tt), refl), refl); nothing_owed = refl }

-- each refusal: the function, the opcode, the IDN, and clearing the flag of the reset
abbrev Answers : List ℕ → List ℕ → Type 0
Answers request answer = Sound sizes blank_unit ([] ▹ Host request ▹ Device answer)

wrong_function : Answers (flag 5 0x02 0x05 0x12) (flag_answer 5 0x02 0xFF 0x05 0x12 0)
unfolding reply_of effects_of wire_fault_of upiu_at upiu_out kind_of cdb_of
wrong_function = record { so_far = ((tt, tt), refl); nothing_owed = refl }

wrong_opcode : Answers (flag 5 0x01 0x06 0x12) (flag_answer 5 0x01 0xFE 0x06 0x12 0)
unfolding reply_of effects_of wire_fault_of upiu_at upiu_out kind_of cdb_of
wrong_opcode = record { so_far = ((tt, tt), refl); nothing_owed = refl }

wrong_idn : Answers (flag 5 0x01 0x05 0x13) (flag_answer 5 0x01 0xFD 0x05 0x13 0)
unfolding reply_of effects_of wire_fault_of upiu_at upiu_out kind_of cdb_of
wrong_idn = record { so_far = ((tt, tt), refl); nothing_owed = refl }

reset_cleared : Answers (flag 5 0x81 0x07 0x11) (flag_answer 5 0x81 0xF7 0x07 0x11 0)
unfolding reply_of effects_of wire_fault_of upiu_at upiu_out kind_of cdb_of
reset_cleared = record { so_far = ((tt, tt), refl); nothing_owed = refl }

-- TASK MANAGEMENT REQUEST: a function, a logical unit and a task's tag, and the service response
abbrev manage : ℕ → ℕ → ℕ → ℕ → List ℕ
manage tag function lun task = four 0x04 0 0 tag ++ four 0 function 0 0 ++ z ++ four 0 0 0 lun ++ four 0 0 0 task ++ z ++ z ++ z

abbrev managed : ℕ → ℕ → List ℕ
managed tag response = four 0x24 0 0 tag ++ z ++ z ++ four 0 0 0 response ++ z ++ z ++ z ++ z

-- a task is asked for, one of an absent unit, one that isn't there, and with a function that isn't served
asked_for : Sound sizes blank_unit ([] ▹ Host (test_ready 7)
    ▹ Host (manage 2 0x80 0 7) ▹ Device (managed 2 0x08) ▹ Host (manage 3 0x80 1 3) ▹ Device (managed 3 0x09)
    ▹ Host (manage 4 0x80 0 3) ▹ Device (managed 4 0x00) ▹ Host (manage 5 0x02 0 7) ▹ Device (managed 5 0x04))
unfolding reply_of effects_of wire_fault_of upiu_at upiu_out kind_of cdb_of
asked_for = record { so_far = (((((((((tt, tt), tt), refl), tt), refl), tt), refl), tt), refl); nothing_owed = refl }

-- all tasks of a unit go, in order of acceptance
unit_reset : Sound sizes blank_unit ([] ▹ Host (test_ready 7) ▹ Host (test_ready 3) ▹ Host (manage 2 0x08 0 0) ▹ Device (managed 2 0x00) ▹ Gone 7 ▹ Gone 3)
unfolding reply_of effects_of wire_fault_of upiu_at upiu_out kind_of cdb_of
unit_reset = record { so_far = ((((((tt, tt), tt), tt), refl), refl), refl); nothing_owed = refl }

-- where neither is served both are rejected
not_served : Sound (record sizes { queries = false; manages = false }) blank_unit ([] ▹ Host reset_request ▹ Device (reject 0 3 7) ▹ Host abort ▹ Device (reject 0 1 7))
unfolding reply_of effects_of wire_fault_of upiu_at upiu_out kind_of cdb_of
not_served = record { so_far = ((((tt, tt), refl), tt), refl); nothing_owed = refl }

-- an index or a selector
wrong_index : Answers (four 0x16 0 0 5 ++ four 0 0x01 0 0 ++ z ++ four 0x05 0x12 1 1 ++ replicate 16 0) (four 0x36 0 0 5 ++ four 0 0x01 0xFC 0 ++ z ++ four 0x05 0x12 1 1 ++ replicate 16 0)
unfolding reply_of effects_of wire_fault_of upiu_at upiu_out kind_of cdb_of
wrong_index = record { so_far = ((tt, tt), refl); nothing_owed = refl }

wrong_selector : Answers (four 0x16 0 0 5 ++ four 0 0x01 0 0 ++ z ++ four 0x05 0x12 0 1 ++ replicate 16 0) (four 0x36 0 0 5 ++ four 0 0x01 0xFB 0 ++ z ++ four 0x05 0x12 0 1 ++ replicate 16 0)
unfolding reply_of effects_of wire_fault_of upiu_at upiu_out kind_of cdb_of
wrong_selector = record { so_far = ((tt, tt), refl); nothing_owed = refl }
