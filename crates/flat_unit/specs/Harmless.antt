-- UPIUs of the device that change nothing of what it keeps (this project's own).
use Rattle.std.specs.Prelude.{◌≡◌, List, [], None}
use Rattle.upiu_wire.specs.Upiu.{Upiu, IsConsistent}
use Rattle.flat_unit.specs.Contents.{answered, shown_by_kind}
use Rattle.flat_unit.specs.Queue.{after_sent}
use Rattle.flat_unit.specs.Sizes.{Sizes}
use Rattle.flat_unit.specs.Task.{Task}

-- a UPIU that ends no task and shows no block
pub record IsHarmless (s : Sizes) (tasks : List Task) (v : Upiu) : Type 0 where
  pub consistent : IsConsistent v
  pub tasks_stay : after_sent v v.kind tasks ≡ tasks
  pub none_leaves : answered v v.kind tasks ≡ []
  pub none_shown : shown_by_kind s v v.kind tasks ≡ None
