-- Each event that a call prints is plain: its bytes are bytes, its numbers have room.
use Rattle.std.proofs.Common.{◌≡◌, ℕ, ◌^◌, ◌<◌, ◌≤◌, Bool, true, false, List, length, Option, Some, None, refl, sym, ◌∙◌, ap, subst}
use Rattle.std.specs.Option.{option_map}
use Rattle.std.specs.Prelude.{if◌then◌else◌}
use Rattle.flat_unit.specs.declared.event.Event.TheVariants.{Host, Device, Failed, Moved, Reset}
use Rattle.flat_unit.specs.History.{History, ◌▹◌, followed_by}
use Rattle.flat_unit.specs.Replays.{events_of, moved_events}
use Rattle.flash_pages.specs.declared.chip.ChipOp.{ChipOp}
use Rattle.flash_pages.specs.Place.{Place}
use Rattle.replay_standing.specs.Transcript.{IsPlain}
use Rattle.hpb_device.specs.declared.device.Sent.{Sent}
use Rattle.hpb_device.specs.declared.device.Sent.TheVariants.{Nothing, Upiu as UpiuSent}
use Rattle.hpb_device.specs.declared.device.Stepped.{Stepped}
use Rattle.hpb_device.specs.Standing.{answer_events, group_of}
use Rattle.hex.specs.Hex.{IsBytes}

-- what a device sends
pub record IsPlainUpiu (bytes : List ℕ) : Type 0 where
  pub bytes_are : IsBytes bytes
  pub short : length bytes ≤ 4128

pub plain_sent : (e : History) (bytes : List ℕ) → IsPlain e → IsPlainUpiu bytes → IsPlain (e ▹ Device bytes)
plain_sent e bytes so_far is = record {
  bytes = (is.bytes_are, so_far.bytes);
  short = (is.short, so_far.short);
}

plain_failed : (e : History) (op : ChipOp) → IsPlain e → IsPlain (e ▹ Failed op)
plain_failed e op so_far = record { bytes = (tt, so_far.bytes); short = (tt, so_far.short) }

plain_moved : (e : History) (lun lba : ℕ) → lun < 2 ^ 8 → lba < 2 ^ 32 → IsPlain e → IsPlain (e ▹ Moved lun lba)
plain_moved e lun lba lun_fits lba_fits so_far = record { bytes = ((lun_fits, lba_fits), so_far.bytes); short = (tt, so_far.short) }

pub plain_host : (e : History) (bytes : List ℕ) → IsBytes bytes → length bytes ≤ 65568 → IsPlain e → IsPlain (e ▹ Host bytes)
plain_host e bytes are few so_far = record { bytes = (are, so_far.bytes); short = (few, so_far.short) }

pub plain_reset : (e : History) → IsPlain e → IsPlain (e ▹ Reset)
plain_reset e so_far = record { bytes = (tt, so_far.bytes); short = (tt, so_far.short) }

-- the events of one step are plain
plain_place : (e : History) (moved : Option Place) → ((p : Place) → moved ≡ Some p → (p.lun < 2 ^ 8) × (p.lba < 2 ^ 32)) → IsPlain e → IsPlain (followed_by e (moved_events moved))
plain_place e None small so_far = so_far
plain_place e (Some p) small so_far = let fits = small p refl in plain_moved e p.lun p.lba fits.0 fits.1 so_far

pub plain_group : (e : History) (failed : Option ChipOp) (moved : Option Place) (sent : Option (List ℕ)) → ((p : Place) → moved ≡ Some p → (p.lun < 2 ^ 8) × (p.lba < 2 ^ 32))
    → ((bytes : List ℕ) → sent ≡ Some bytes → IsPlainUpiu bytes) → IsPlain e
    → IsPlain (followed_by e (events_of (record { failed = failed; moved = moved; sent = sent })))
plain_group e None None None small upiu so_far = so_far
plain_group e None None (Some bytes) small upiu so_far = plain_sent e bytes so_far (upiu bytes refl)
plain_group e None (Some p) None small upiu so_far = plain_place e (Some p) small so_far
plain_group e None (Some p) (Some bytes) small upiu so_far = plain_sent (e ▹ Moved p.lun p.lba) bytes (plain_place e (Some p) small so_far) (upiu bytes refl)
plain_group e (Some op) None None small upiu so_far = plain_failed e op so_far
plain_group e (Some op) None (Some bytes) small upiu so_far = plain_sent (e ▹ Failed op) bytes (plain_failed e op so_far) (upiu bytes refl)
plain_group e (Some op) (Some p) None small upiu so_far = plain_place (e ▹ Failed op) (Some p) small (plain_failed e op so_far)
plain_group e (Some op) (Some p) (Some bytes) small upiu so_far =
    plain_sent (e ▹ Failed op ▹ Moved p.lun p.lba) bytes (plain_place (e ▹ Failed op) (Some p) small (plain_failed e op so_far)) (upiu bytes refl)

pub place_of_step : (moved : Option (ℕ × ℕ)) (out : List ℕ) (r : Stepped) → r.moved ≡ moved → ((place : ℕ × ℕ) → r.moved ≡ Some place → (place.0 < 2 ^ 8) × (place.1 < 2 ^ 32)) → (p : Place)
    → (group_of r out).moved ≡ Some p → (p.lun < 2 ^ 8) × (p.lba < 2 ^ 32)
place_of_step None out r is small p at = absurd (none_moved (sym (ap (λ (m : Option (ℕ × ℕ)). option_map (λ (place : ℕ × ℕ). let q : Place = record { lun = place.0; lba = place.1 } in q) m) is) ∙ at))
  where
    none_moved : {q : Place} → None ≡ Some q → ⊥
    none_moved e = cc
place_of_step (Some place) out r is small p at =
    let here : Place = record { lun = place.0; lba = place.1 } in
    let same : here ≡ p = some_place (sym (ap (λ (m : Option (ℕ × ℕ)). option_map (λ (place : ℕ × ℕ). let q : Place = record { lun = place.0; lba = place.1 } in q) m) is) ∙ at) in
    subst (λ (q : Place). (q.lun < 2 ^ 8) × (q.lba < 2 ^ 32)) same (small place is)
  where
    some_place : {a b : Place} → Some a ≡ Some b → a ≡ b
    some_place e = cc

pub upiu_of_step : (b : Bool) (out bytes : List ℕ) → (b ≡ true → IsPlainUpiu out) → (if b then Some out else None) ≡ Some bytes → IsPlainUpiu bytes
upiu_of_step true out bytes upiu is = subst IsPlainUpiu (same is) (upiu refl)
  where
    same : {a b : List ℕ} → Some a ≡ Some b → a ≡ b
    same e = cc
upiu_of_step false out bytes upiu is = absurd (no_bytes is)
  where
    no_bytes : {a : List ℕ} → None ≡ Some a → ⊥
    no_bytes e = cc

pub plain_answer : (e : History) (sent : Sent) (out : List ℕ) → IsPlain e → (sent ≡ UpiuSent → IsPlainUpiu out) → IsPlain (followed_by e (answer_events sent out))
plain_answer e Nothing out so_far upiu = so_far
plain_answer e UpiuSent out so_far upiu = plain_sent e out so_far (upiu refl)
