-- Blocks that are written read back, and those of a write that a reset cut are old or new.
use Rattle.std.proofs.Common.{◌≡◌, ℕ, [], ◌∷◌, refl, arith, replicate}
use Rattle.flat_unit.specs.declared.event.Event.TheVariants.{Host, Device, Reset}
use Rattle.hpb_cdb.specs.Read.{cdb_of}
use Rattle.upiu_wire.specs.Kind.{kind_of}
use Rattle.upiu_wire.specs.Upiu.{upiu_at, upiu_out}
use Rattle.upiu_wire.specs.WireFault.{wire_fault_of}
use Rattle.flat_unit.specs.Contents.{Block, candidates}
use Rattle.flat_unit.specs.History.{History, ◌▹◌}
use Rattle.flat_unit.specs.Reply.{reply_of, effects_of}
use Rattle.flat_unit.specs.Sends.{Data, Ask, Good}
use Rattle.flat_unit.specs.Sound.{Sound}
use Rattle.flat_unit.proofs.rows.Bytes.{sizes, block_of, blank_unit, differ_at, only_candidate, place, read, write, data_in, data_out, ready, good}

-- one block is written and read back
abbrev read_back : Block → History
read_back block = [] ▹ Host (write 2 4096 0 1) ▹ Device (ready 2 0 4096) ▹ Host (data_out 2 0 (block_of 0xA5)) ▹ Device (good 2)
    ▹ Host (read 3 4096 0 1) ▹ Device (data_in 3 0 block) ▹ Device (good 3)

read_back_holds : candidates sizes blank_unit (read_back (block_of 0xA5)) (place 0) ≡ block_of 0xA5 ∷ []
unfolding reply_of wire_fault_of upiu_at kind_of cdb_of
read_back_holds = refl

read_back_sound : Sound sizes blank_unit (read_back (block_of 0xA5))
unfolding reply_of effects_of wire_fault_of upiu_at upiu_out kind_of cdb_of
read_back_sound = record {
  so_far = (
    (
      (
        (
          (
            (
              (tt, tt),
              ((Ask 4096, (refl, omega arith, refl), refl), tt),
            ),
            tt,
          ),
          ((Good [], (refl, refl, omega arith), refl), tt),
        ),
        tt,
      ),
      ((Data (block_of 0xA5), (omega arith, refl), refl), (0, omega arith, refl)),
    ),
    ((Good [], (refl, refl, omega arith), refl), tt),
  );
  nothing_owed = refl;
}

-- the block that stood there before isn't shown again
stale_block : Sound sizes blank_unit (read_back (block_of 0)) → ⊥
unfolding reply_of effects_of wire_fault_of upiu_at upiu_out kind_of cdb_of
stale_block sound = differ_at 0 (block_of 0xA5) (block_of 0) refl (only_candidate (block_of 0xA5) (block_of 0) sound.so_far.0.1.1)

-- nine blocks are asked for in two pieces, and come in three
nine_blocks : History
nine_blocks = [] ▹ Host (write 2 0x9000 0 9) ▹ Device (ready 2 0 0x8000)
    ▹ Host (data_out 2 0 (replicate 0x4000 0x11)) ▹ Host (data_out 2 0x4000 (replicate 0x4000 0x22))
    ▹ Device (ready 2 0x8000 0x1000) ▹ Host (data_out 2 0x8000 (block_of 0x33)) ▹ Device (good 2)

nine_blocks_sound : Sound sizes blank_unit nine_blocks
unfolding nine_blocks reply_of effects_of wire_fault_of upiu_at upiu_out kind_of cdb_of
nine_blocks_sound = record {
  so_far = (
    (
      (
        (
          (
            (
              (tt, tt),
              ((Ask 0x8000, (refl, omega arith, refl), refl), tt),
            ),
            tt,
          ),
          tt,
        ),
        ((Ask 0x1000, (refl, omega arith, refl), refl), tt),
      ),
      tt,
    ),
    ((Good [], (refl, refl, omega arith), refl), tt),
  );
  nothing_owed = refl;
}

-- a reset cuts a write, and later reads say which of its blocks were written
abbrev cut : History
cut = [] ▹ Host (write 2 0x3000 0 3) ▹ Device (ready 2 0 0x3000) ▹ Host (data_out 2 0 (replicate 0x3000 0x11)) ▹ Device (good 2)
    ▹ Host (write 3 0x3000 0 3) ▹ Device (ready 3 0 0x3000) ▹ Host (data_out 3 0 (replicate 0x3000 0x22)) ▹ Reset

cut_leaves : candidates sizes blank_unit cut (place 2) ≡ block_of 0x11 ∷ block_of 0x22 ∷ []
unfolding reply_of wire_fault_of upiu_at kind_of cdb_of
cut_leaves = refl

abbrev shows : History → ℕ → Block → Block → Block → History
shows e tag a b c = e ▹ Host (read tag 0x3000 0 3) ▹ Device (data_in tag 0 a) ▹ Device (data_in tag 0x1000 b) ▹ Device (data_in tag 0x2000 c) ▹ Device (good tag)

cut_shown : candidates sizes blank_unit (shows cut 4 (block_of 0x22) (block_of 0x22) (block_of 0x11) ▹ Reset) (place 2) ≡ block_of 0x11 ∷ []
unfolding reply_of wire_fault_of upiu_at kind_of cdb_of
cut_shown = refl

cut_sound : Sound sizes blank_unit (shows (shows cut 4 (block_of 0x22) (block_of 0x22) (block_of 0x11) ▹ Reset) 5 (block_of 0x22) (block_of 0x22) (block_of 0x11))
unfolding reply_of effects_of wire_fault_of upiu_at upiu_out kind_of cdb_of
cut_sound = record {
  so_far = (
    (
      (
        (
          (
            (
              (
                (
                  (
                    (
                      (
                        (
                          (
                            (
                              (
                                (
                                  (
                                    (
                                      (tt, tt),
                                      ((Ask 0x3000, (refl, omega arith, refl), refl), tt),
                                    ),
                                    tt,
                                  ),
                                  ((Good [], (refl, refl, omega arith), refl), tt),
                                ),
                                tt,
                              ),
                              ((Ask 0x3000, (refl, omega arith, refl), refl), tt),
                            ),
                            tt,
                          ),
                          tt,
                        ),
                        tt,
                      ),
                      ((Data (block_of 0x22), (omega arith, refl), refl), (1, omega arith, refl)),
                    ),
                    ((Data (block_of 0x22), (omega arith, refl), refl), (1, omega arith, refl)),
                  ),
                  ((Data (block_of 0x11), (omega arith, refl), refl), (0, omega arith, refl)),
                ),
                ((Good [], (refl, refl, omega arith), refl), tt),
              ),
              tt,
            ),
            tt,
          ),
          ((Data (block_of 0x22), (omega arith, refl), refl), (0, omega arith, refl)),
        ),
        ((Data (block_of 0x22), (omega arith, refl), refl), (0, omega arith, refl)),
      ),
      ((Data (block_of 0x11), (omega arith, refl), refl), (0, omega arith, refl)),
    ),
    ((Good [], (refl, refl, omega arith), refl), tt),
  );
  nothing_owed = refl;
}
