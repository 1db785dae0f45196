-- What answers a TASK MANAGEMENT REQUEST (JESD220, SAM), and which tasks go. Which functions are served, and the order
-- of the tests, are this project's own.
use Rattle.std.specs.Prelude.{ℕ, Bool, not, ◌&&◌, ◌||◌, List, map, filter, if◌then◌else◌, ◌==◌, nat_le}
use Rattle.std.specs.List.{list_any}
use Rattle.upiu_wire.specs.declared.kind.Kind.TheVariants.{ManageResponse}
use Rattle.upiu_wire.specs.Upiu.{Upiu}
use Rattle.upiu_wire.specs.Written.{blank_upiu}
use Rattle.flat_unit.specs.declared.event.Event.{Event}
use Rattle.flat_unit.specs.declared.event.Event.TheVariants.{Gone}
use Rattle.flat_unit.specs.Sizes.{Sizes}
use Rattle.flat_unit.specs.Task.{Task}

-- ABORT TASK, LOGICAL UNIT RESET and QUERY TASK
abbrev pub abort_task : ℕ
abort_task = 0x01

abbrev pub unit_reset : ℕ
unit_reset = 0x08

abbrev pub query_task : ℕ
query_task = 0x80

-- the task of the unit and with the tag that bytes 12 to 19 name
abbrev pub is_named : Upiu → Task → Bool
is_named v task = (task.lun == v.first) && (task.tag == v.count)

abbrev pub is_of_unit : Upiu → Task → Bool
is_of_unit v task = task.lun == v.first

abbrev pub is_served : Upiu → Bool
is_served v = (v.function == abort_task) || (v.function == unit_reset) || (v.function == query_task)

-- the service response: not supported, incorrect logical unit, succeeded, or complete
abbrev pub service_response : Sizes → List Task → Upiu → ℕ
service_response s tasks v =
    if not (is_served v) then 0x04 else
    (if nat_le s.luns v.first then 0x09 else
    (if (v.function == query_task) && list_any (is_named v) tasks then 0x08 else 0x00))

abbrev pub manage_reply : Sizes → List Task → Upiu → Upiu
manage_reply s tasks v = record (blank_upiu ManageResponse v.lun v.tag) { first = service_response s tasks v }

-- the tasks that go, in order of acceptance
abbrev pub goes : Sizes → Upiu → Task → Bool
goes s v task =
    not (nat_le s.luns v.first)
    && (((v.function == abort_task) && is_named v task) || ((v.function == unit_reset) && is_of_unit v task))

abbrev pub manage_events : Sizes → List Task → Upiu → List Event
manage_events s tasks v = map (λ (task : Task). Gone task.tag) (filter (goes s v) tasks)
