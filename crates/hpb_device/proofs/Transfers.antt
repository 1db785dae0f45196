-- What was sent for a task that goes on, whatever it was.
use Rattle.std.proofs.Common.{◌≡◌, ◌⊎◌, ℕ, ◌+◌, ◌/◌, take, List, ap, inl, inr}
use Rattle.flash_pages.specs.Unit.{block_of}
use Rattle.flash_store.specs.Store.{StoreState}
use Rattle.hpb_cdb.specs.declared.limits.Limits.{Limits}
use Rattle.upiu_wire.specs.declared.kind.Kind.TheVariants.{DataIn, ReadyToTransfer}
use Rattle.upiu_wire.specs.Upiu.{upiu_out}
use Rattle.upiu_wire.specs.Written.{data_upiu, transfer_upiu}
use Rattle.hpb_device.specs.declared.advance.Transfer.{Transfer}
use Rattle.hpb_device.specs.declared.advance.Transfer.TheVariants.{LookedUp, ByEntry, EntryList, UnitCapacity, Ready}
use Rattle.hpb_device.specs.declared.task.Task.{Task}
use Rattle.hpb_device.specs.Advance.{Transfers, capacity_of, entries_of, first_listed, next_place}

-- a DATA IN of the task
abbrev pub IsDataOf : Task → List ℕ → Type 0
IsDataOf task out = (bytes : List ℕ) × (out ≡ upiu_out (data_upiu DataIn task.lun task.tag task.sent bytes))

-- a READY TO TRANSFER of the task
abbrev pub IsReadyOf : Task → List ℕ → Type 0
IsReadyOf task out = (count : ℕ) × (out ≡ upiu_out (transfer_upiu ReadyToTransfer task.lun task.tag task.asked count))

pub transfer_is : (lim : Limits) (old : StoreState) (what : Transfer) (task rest : Task) (out : List ℕ) → Transfers lim old what task rest out → IsDataOf task out ⊎ IsReadyOf task out
transfer_is lim old LookedUp task rest out sends = inl (block_of old.pages (next_place task), sends.sent)
transfer_is lim old ByEntry task rest out sends = inl (block_of old.pages (next_place task), sends.sent)
transfer_is lim old EntryList task rest out lists =
    inl (take lists.0 (entries_of old.pages task.lun (first_listed lim task.command + task.sent / 8) ((lists.0 + 7) / 8)), lists.1.sent)
transfer_is lim old UnitCapacity task rest out tells = inl (capacity_of old.units, tells.sent)
transfer_is lim old Ready task rest out asks = inr (asks.0, asks.1.sent)

-- its command stays
pub same_command : (lim : Limits) (old : StoreState) (what : Transfer) (task rest : Task) (out : List ℕ) → Transfers lim old what task rest out → rest.command ≡ task.command
same_command lim old LookedUp task rest out sends = ap (λ (t : Task). t.command) sends.task_is
same_command lim old ByEntry task rest out sends = ap (λ (t : Task). t.command) sends.task_is
same_command lim old EntryList task rest out lists = ap (λ (t : Task). t.command) lists.1.task_is
same_command lim old UnitCapacity task rest out tells = ap (λ (t : Task). t.command) tells.task_is
same_command lim old Ready task rest out asks = ap (λ (t : Task). t.command) asks.1.task_is
