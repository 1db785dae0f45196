-- What reads show, and how they end: good examples, and bad ones that are refuted.
use Rattle.std.proofs.Common.{◌≡◌, ⊎_elim, inr, false, true, [], ◌∷◌, refl, arith, replicate}
use Rattle.std.proofs.lemmas.Bool.{false≢true}
use Rattle.flash_pages.specs.declared.chip.ChipOp.TheVariants.{Read, Program}
use Rattle.flat_unit.specs.declared.event.Event.TheVariants.{Host, Device, Failed}
use Rattle.hpb_cdb.specs.Read.{cdb_of}
use Rattle.upiu_wire.specs.Kind.{kind_of}
use Rattle.upiu_wire.specs.Upiu.{upiu_at}
use Rattle.upiu_wire.specs.WireFault.{wire_fault_of}
use Rattle.flat_unit.specs.Causes.{JustFailedToRead}
use Rattle.flat_unit.specs.History.{History, ◌▹◌}
use Rattle.flat_unit.specs.Queue.{tasks_after}
use Rattle.flat_unit.specs.Reads.{ReadsAllowed, ReadsEndGood, ReadsWait}
use Rattle.flat_unit.specs.Reply.{reply_of}
use Rattle.flat_unit.proofs.rows.Bytes.{sizes, block_of, blank_unit, differ_at, only_candidate, read, write, data_in, ready, good, check_with}

-- a block that was never written shows zeros, and no other byte
zeros : ReadsAllowed sizes blank_unit ([] ▹ Host (read 1 4096 5 1) ▹ Device (data_in 1 0 (block_of 0)) ▹ Device (good 1))
unfolding reply_of wire_fault_of upiu_at kind_of cdb_of
zeros = (((tt, tt), (0, omega arith, refl)), tt)

other_byte : ReadsAllowed sizes blank_unit ([] ▹ Host (read 1 4096 5 1) ▹ Device (data_in 1 0 (1 ∷ replicate 4095 0))) → ⊥
unfolding reply_of wire_fault_of upiu_at kind_of cdb_of
other_byte allowed = differ_at 0 (block_of 0) (1 ∷ replicate 4095 0) refl (only_candidate (block_of 0) (1 ∷ replicate 4095 0) allowed.1)

-- a read ends by 11h/00h after a failed read of the chip
after_failure : ReadsEndGood sizes ([] ▹ Host (read 6 0x3000 0 3) ▹ Device (data_in 6 0 (block_of 0)) ▹ Failed Read ▹ Device (check_with 0x20 6 0x2000 0x03 0x11))
unfolding reply_of wire_fault_of upiu_at kind_of cdb_of
after_failure = ((tt, tt), ((λ _. inr (_, refl)), tt))

-- without one, or after another call, it doesn't
abbrev asked_for : History
asked_for = [] ▹ Host (read 6 0x3000 0 3)

no_failure : ReadsEndGood sizes (asked_for ▹ Device (check_with 0x20 6 0x3000 0x03 0x11)) → ⊥
unfolding reply_of wire_fault_of upiu_at kind_of cdb_of
no_failure ends = ⊎_elim
    (λ (is : false ≡ true). false≢true is)
    (λ (why : JustFailedToRead asked_for). let same : asked_for ≡ Failed Read ∷ why.0 = why.1 in cc)
    (ends.1.0 refl)

other_call : ReadsEndGood sizes (asked_for ▹ Failed Program ▹ Device (check_with 0x20 6 0x3000 0x03 0x11)) → ⊥
unfolding reply_of wire_fault_of upiu_at kind_of cdb_of
other_call ends = ⊎_elim
    (λ (is : false ≡ true). false≢true is)
    (λ (why : JustFailedToRead (asked_for ▹ Failed Program)). let same : Failed Program ∷ asked_for ≡ Failed Read ∷ why.0 = why.1 in cc)
    (ends.1.0 refl)

-- after a drain a read may stand behind a write that waits for data, and nowhere else
behind_write : ReadsWait (tasks_after sizes ([] ▹ Host (write 2 0x1000 0 1) ▹ Device (ready 2 0 0x1000) ▹ Host (read 6 0x3000 0 3)))
unfolding reply_of wire_fault_of upiu_at kind_of cdb_of
behind_write = (refl, refl)

still_first : ReadsWait (tasks_after sizes asked_for) → ⊥
unfolding reply_of wire_fault_of upiu_at kind_of cdb_of
still_first wait = false≢true wait.0
