-- Where a device stands that was just made, and that its events are sound.
use Rattle.std.proofs.Common.{◌≡◌, ◌≤◌, List, [], refl, ap, subst, inl, inr, ◌⊎◌, arith}
use Rattle.flat_unit.specs.Replays.{Progress, begun}
use Rattle.flat_unit.specs.Sound.{SoundSoFar}
use Rattle.flat_unit.specs.Sizes.{Sizes}
use Rattle.hpb_device.specs.Counted.{CountsStand}
use Rattle.replay_standing.proofs.Counts.{begins_alone}
use Rattle.hpb_device.specs.Standing.{first_of, sizes_of}
use Rattle.hpb_device.specs.declared.counts.Counts.{Counts}
use Rattle.hpb_device.specs.Counts.{no_counts}
use Rattle.hpb_device.specs.State.{DeviceState}
use Rattle.hpb_device.proofs.Entries.{begins_entries}
use Rattle.hpb_device.proofs.Going.{begins_foreign, begins_standing}
use Rattle.hpb_device.proofs.Listings.{begins_listings}
use Rattle.std.proofs.lemmas.Bool.{false≢true}
use Rattle.replay_standing.specs.Standing.{ForeignStanding, OwnStanding, Standing}
use Rattle.replay_standing.proofs.Decided.{sound_or_not}
use Rattle.hpb_device.specs.Lists.{ListsStand}
use Rattle.hpb_device.specs.Regions.{HintsStand}
use Rattle.flat_unit.specs.Contents.{Block}

-- the chip that a device begins with is sound, or it isn't
begins_chip : (start : DeviceState) → start.tasks ≡ [] → start.counts ≡ no_counts → CountsStand start [] → OwnStanding start start begun ⊎ ForeignStanding start start begun
begins_chip start none uncounted counted = elim (sound_or_not start.store.geometry start.store.luns start.store.units start.store.pages) [
  | inl sound ↦ inl (record {
    was = sound;
    stands = begins_standing start none (ap (λ (c : Counts). c.erased) uncounted) sound;
    entries = begins_entries start none;
    listings = begins_listings start none;
    counted = counted;
    tried = λ is. absurd (false≢true is);
  })
  | inr unsound ↦ inr (record { stands = λ first. begins_foreign start first none unsound; unready = tt; counted = begins_alone (sizes_of start) start.counts uncounted; untried = refl })
]

-- a device that was just made stands at the first moment
pub begun_standing : (start : DeviceState) → start.tasks ≡ [] → start.counts ≡ no_counts → HintsStand start [] → ListsStand start [] → CountsStand start []
    → start.store.scanned ≡ 0 → 1 ≤ start.store.geometry.pages → Standing start start begun
begun_standing start none uncounted hints fetched counted scanned some = record {
  some_page = some;
  sizes = refl;
  shape = refl;
  hints = hints;
  fetched = fetched;
  same = record { geometry = refl; luns = refl; units = refl };
  faults = record { least = omega arith; most = omega arith };
  plain = record { bytes = tt; short = tt };
  lacking = tt;
  quiet = omega (arith, scanned);
  steps = let none_made : start.counts.steps ≡ 0 = ap (λ (c : Counts). c.steps) uncounted in omega (arith, none_made);
  ready = λ served. absurd (false≢true served);
  collected = λ ready more. absurd (omega (arith, more));
  chip = begins_chip start none uncounted counted;
}

-- the events so far are sound
pub sound_at : (start now : DeviceState) (p : Progress) → Standing start now p → SoundSoFar (sizes_of start) (first_of start).unit p.events
sound_at start now p at = subst (λ (s : Sizes). SoundSoFar s (first_of start).unit p.events) at.sizes (elim at.chip [
  | inl own ↦ own.stands.stands.sound.so_far
  | inr foreign ↦ (foreign.stands (first_of start)).stands.sound.so_far
])

-- they are sound over a unit
pub sound_of : (start now : DeviceState) (p : Progress) → Standing start now p → (u : List Block) × SoundSoFar (sizes_of start) u p.events
sound_of start now p at = ((first_of start).unit, sound_at start now p at)
