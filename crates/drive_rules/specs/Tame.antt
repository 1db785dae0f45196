-- What a driver opens by its caches is what a device serves: the premise under which a drive is a list of turns.
use Rattle.std.specs.Prelude.{◌≡◌, ℕ, Bool, false, List, [], Some}
use Rattle.flat_unit.specs.Contents.{Block}
use Rattle.flat_unit.specs.Sizes.{Sizes}
use Rattle.flat_unit.specs.Sound.{SoundSoFar}
use Rattle.driver_laws.specs.declared.request.Request.{Request}
use Rattle.driver_laws.specs.Commands.{Wanted}
use Rattle.driver_laws.specs.Drive.{Turn, moment_after}
use Rattle.driver_laws.specs.Fits.{AllGood, IsRequest, IsWanted, IsWay, MayLead}
use Rattle.driver_caches.specs.Machine.{Machine, Own, deliver, evicted_from, hold}
use Rattle.driver_caches.specs.Machine.{reset, submit, wanted_from, way_of, with_next}
use Rattle.trace_text.specs.declared.drive.DriveLine.{DriveLine}
use Rattle.drive_rules.specs.Lines.{AreBytes, Drive, Drives, moment_of}

-- the entries of a read fit, and what the driver opens of its own is served
pub record IsTame (s : Sizes) (m : Machine) : Type 0 where
  pub ways : (request : Request) → IsRequest s request → IsWay (way_of m request) request
  pub evicted : (own : Own) → evicted_from 0 m.caches ≡ Some own → IsWanted s own.wanted × (own.wanted.caller ≡ false)
  pub picked : (w : Wanted) → (wanted_from 0 m.caches).wanted ≡ Some w → IsWanted s w × (w.caller ≡ false)

-- the machines that a driver can reach are tame
pub record StaysTame (s : Sizes) (P : Machine → Type 0) : Type 0 where
  pub tame : (m : Machine) → P m → IsTame s m
  pub asked : (request : Request) (m : Machine) → IsRequest s request → P m → P (submit request m)
  pub sent : (m : Machine) → P m → P (with_next s m)
  pub got : (bytes : List ℕ) (m : Machine) → AreBytes bytes → P m → P (deliver s bytes m)
  pub reset_too : (m : Machine) → P m → P (reset m)
  pub held : (on : Bool) (m : Machine) → P m → P (hold on m)

-- a moment of a drive is that after some turns
pub record IsLed (s : Sizes) (P : Machine → Type 0) (d : Drive) : Type 0 where
  pub turns : List Turn
  pub may : MayLead s turns
  pub is : moment_of d ≡ moment_after s turns
  pub stays : P d.machine

-- a driver without caches
abbrev pub IsPlain : Machine → Type 0
IsPlain m = m.caches ≡ []

-- a drive goes by the rules over a sound history, each request was answered, and each answer is GOOD
pub record IsGoodDrive (s : Sizes) (unit : List Block) (machine : Machine) (lines : List DriveLine) (d : Drive)
    : Type 0 where
  pub begins : machine.opens ≡ []
  pub drives : Drives s machine lines d
  pub sound : SoundSoFar s unit d.progress.events
  pub good : AllGood d.answers
