-- The trace of a read of a block that was never written: the steps that look at the chip, and those that send.
use Rattle.std.proofs.Common.{◌≡◌, ◌<◌, ◌≤◌, ℕ, zero, suc, Bool, true, false, ◌&&◌, List, [], ◌∷◌, ◌++◌, Some, None, refl, arith, codes, inr, nat_le}
use Rattle.std.proofs.lemmas.Bool.Decides.{nat_tests}
use Rattle.flash_pages.specs.declared.chip.ChipOp.TheVariants.{Read}
use Rattle.flat_unit.specs.declared.event.Event.TheVariants.{Host, Device}
use Rattle.hex.specs.Hex.{encode_with}
use Rattle.hpb_cdb.specs.Read.{cdb_of}
use Rattle.upiu_wire.specs.Kind.{kind_of}
use Rattle.upiu_wire.specs.Upiu.{upiu_at, upiu_out}
use Rattle.upiu_wire.specs.WireFault.{wire_fault_of}
use Rattle.flat_unit.specs.History.{◌▹◌}
use Rattle.flat_unit.specs.Print.{print}
use Rattle.flat_unit.specs.Reply.{reply_of, effects_of}
use Rattle.flat_unit.specs.Replays.{Progress, begun, Group, StepTo, StepsTo, stepped, is_due, Replays}
use Rattle.flat_unit.specs.Trace.{Upiu, Drain}
use Rattle.flat_unit.proofs.rows.Bytes.{sizes, block_of, read, test_ready, data_in, good}

-- a step that sends nothing, and one that sends this
abbrev idle : Group
idle = record { failed = None; moved = None; sent = None }

abbrev sends : List ℕ → Group
sends bytes = record { failed = None; moved = None; sent = Some bytes }

-- the chip's pages are looked at first
abbrev at_command : Progress
at_command = record begun { events = [] ▹ Host (read 1 4096 5 1) }

abbrev looked : ℕ → Progress
looked zero = at_command
looked (suc n) = stepped sizes (looked n) idle

abbrev block_sent : Progress
block_sent = stepped sizes (looked 32) (sends (data_in 1 0 (block_of 0)))

abbrev ended : Progress
ended = stepped sizes block_sent (sends (good 1))

quiet_step : (p : Progress) → is_due sizes p ≡ false → StepTo sizes p (stepped sizes p idle)
quiet_step p is = record { group = idle; is_group = inr refl; timely = rw is (λ bytes none. cc); leads = refl }

quiet_is : (n : ℕ) → (looked n).quiet ≡ n
quiet_is zero = refl
quiet_is (suc n) = let e = quiet_is n in omega arith

and_false : (a b : Bool) → b ≡ false → (a && b) ≡ false
and_false true b is = is
and_false false b is = refl

not_yet : (n : ℕ) → n < 32 → is_due sizes (looked n) ≡ false
not_yet n below =
    let e = quiet_is n in
    let few : nat_le 32 (looked n).quiet ≡ false = grind (arith, nat_tests) in
    and_false _ _ few

looks : (n : ℕ) → n ≤ 32 → StepsTo sizes n at_command (looked n)
looks zero below = refl
looks (suc n) below = (looked n, looks n (omega arith), quiet_step (looked n) (not_yet n (omega arith)))

zeros_read_replays : Replays sizes (Upiu (read 1 4096 5 1) ∷ Drain ∷ []) begun ended
unfolding reply_of effects_of wire_fault_of upiu_at upiu_out kind_of cdb_of
zeros_read_replays =
    let sent : StepTo sizes (looked 32) block_sent = record { group = sends (data_in 1 0 (block_of 0)); is_group = inr refl; timely = λ none. cc; leads = refl } in
    let block : StepsTo sizes 33 at_command block_sent = (looked 32, looks 32 (omega arith), sent) in
    let all : StepsTo sizes 34 at_command ended = (block_sent, block, record { group = sends (good 1); is_group = inr refl; timely = λ none. cc; leads = refl }) in
    (at_command, refl, (ended, record { count = 34; few = omega arith; steps = all; rests = refl }, refl))

-- the text of a command and its answer
printed : print ([] ▹ Host (test_ready 7) ▹ Device (good 7))
    ≡ codes "> 01000007" ++ codes "00000000000000000000000000000000000000000000000000000000\n< 21000007" ++ codes "00000000000000000000000000000000000000000000000000000000\n"
unfolding print encode_with
printed = refl

-- a step that failed has looked at no page
failed_step : (p : Progress) → (stepped sizes p (record { failed = Some Read; moved = None; sent = None })).quiet ≡ p.quiet
failed_step p = refl
