-- The commands that a driver has open, and what it sends for them (JESD220). The order in which it sends, and which tag
-- a command gets, are this project's own.
use Rattle.std.specs.Prelude.{ℕ, ◌+◌, Bool, true, false, not, List, [], ◌∷◌, ◌++◌, min, Option}
use Rattle.std.specs.Prelude.{Some, None, if◌then◌else◌, ◌==◌, nat_lt, slice_range}
use Rattle.std.specs.List.{find, list_any, range_with_len}
use Rattle.hpb_cdb.specs.declared.cdb.Cdb.{Cdb}
use Rattle.hpb_cdb.specs.declared.cdb.Cdb.TheVariants.{Read, Write, HpbRead, ReadBuffer, Prefetch}
use Rattle.hpb_cdb.specs.Cdb.{cdb_out}
use Rattle.upiu_wire.specs.declared.kind.Kind.TheVariants.{DataOut}
use Rattle.upiu_wire.specs.Upiu.{Upiu}
use Rattle.upiu_wire.specs.Written.{command_upiu, data_upiu}
use Rattle.flat_unit.specs.Command.{needed}
use Rattle.flat_unit.specs.Sizes.{Sizes}

-- an open command: its tag, its logical unit, and the bytes that it gives the device. So many of these the device has
-- asked for, and so many were sent. These bytes came for it. Its COMMAND has gone out or not. A caller asked for it, or
-- the driver opened it on its own.
pub record OpenCommand : Type 0 where
  pub tag : ℕ
  pub lun : ℕ
  pub command : Cdb
  pub bytes : List ℕ
  pub asked : ℕ
  pub given : ℕ
  pub got : List ℕ
  pub out : Bool
  pub caller : Bool

-- a command that is to be opened
pub record Wanted : Type 0 where
  pub lun : ℕ
  pub command : Cdb
  pub bytes : List ℕ
  pub caller : Bool

-- the command has this tag
abbrev pub has : ℕ → OpenCommand → Bool
has tag o = o.tag == tag

-- its COMMAND has gone out
abbrev pub is_out : OpenCommand → Bool
is_out o = o.out

-- its COMMAND hasn't gone out yet
abbrev pub is_waiting : OpenCommand → Bool
is_waiting o = not o.out

-- a caller asked for it
abbrev pub is_caller : OpenCommand → Bool
is_caller o = o.caller

-- so many commands are open at most, with tags from 0 on
abbrev pub tags : ℕ
tags = 32

-- an open command has this tag
abbrev pub uses : List OpenCommand → ℕ → Bool
uses opens tag = list_any (has tag) opens

-- the lowest tag that is free
unfoldable pub free_tag : List OpenCommand → Option ℕ
free_tag opens = find (λ (tag : ℕ). not (uses opens tag)) (range_with_len 0 tags)

-- a command that was just opened, with this tag
abbrev pub open_as : Wanted → ℕ → OpenCommand
open_as w tag = record {
  tag = tag;
  lun = w.lun;
  command = w.command;
  bytes = w.bytes;
  asked = 0;
  given = 0;
  got = [];
  out = false;
  caller = w.caller;
}

-- one more command, last in order, with this tag
abbrev pub opened_with : List OpenCommand → Wanted → Option ℕ → List OpenCommand
opened_with opens w (Some tag) = opens ++ open_as w tag ∷ []
opened_with opens w None = opens

-- and with the lowest free tag; where none is free, nothing is opened
abbrev pub opened : List OpenCommand → Wanted → List OpenCommand
opened opens w = opened_with opens w (free_tag opens)

-- the first command that passes the test is changed
abbrev pub change_first : (OpenCommand → Bool) → (OpenCommand → OpenCommand) → List OpenCommand → List OpenCommand
change_first test f [] = []
change_first test f (o ∷ os) = if test o then f o ∷ os else o ∷ change_first test f os

-- the first command that passes the test is gone
abbrev pub remove_first : (OpenCommand → Bool) → List OpenCommand → List OpenCommand
remove_first test [] = []
remove_first test (o ∷ os) = if test o then os else o ∷ remove_first test os

-- the device has asked for more than was sent
abbrev pub owes_data : OpenCommand → Bool
owes_data o = nat_lt o.given o.asked

-- where the next piece of its data ends: one piece has a block at most
abbrev pub piece_end : Sizes → OpenCommand → ℕ
piece_end s o = min (o.given + s.block) o.asked

-- the DATA OUT of the next piece, which begins where what was sent ends
abbrev pub piece_upiu : Sizes → OpenCommand → Upiu
piece_upiu s o = data_upiu DataOut o.lun o.tag o.given (slice_range o.bytes o.given (piece_end s o))

-- the command once its next piece was sent
abbrev pub with_piece : Sizes → OpenCommand → OpenCommand
with_piece s o = record o { given = piece_end s o }

-- the flags of a COMMAND of a driver (JESD220): 40h where data come from the device, 20h where data go to it
abbrev pub flags_of : Cdb → ℕ
flags_of (Read lba n) = 0x40
flags_of (HpbRead lba entry n id) = 0x40
flags_of (ReadBuffer region sub len) = 0x40
flags_of (Write lba n) = 0x20
flags_of (Prefetch lba id len) = 0x20
flags_of _ = 0

-- the COMMAND UPIU, which expects as many bytes as the command moves
abbrev pub begin_upiu : Sizes → OpenCommand → Upiu
begin_upiu s o = command_upiu o.lun o.tag (flags_of o.command) (needed s o.command) (cdb_out o.command)

-- the command once its COMMAND has gone out
abbrev pub with_begin : OpenCommand → OpenCommand
with_begin o = record o { out = true }

-- what is sent next: a piece of a command's data, a COMMAND, or nothing
pub data Next : Type 0 where
  Piece : OpenCommand → Next
  Begin : OpenCommand → Next
  Nothing : Next

-- with the first command that waits, if any
abbrev pub next_waiting : Option OpenCommand → Next
next_waiting (Some o) = Begin o
next_waiting None = Nothing

-- with the first command that owes data, if any
abbrev pub next_owing : List OpenCommand → Option OpenCommand → Next
next_owing opens (Some o) = Piece o
next_owing opens None = next_waiting (find is_waiting opens)

-- data that the device has asked for come first, then the first command that hasn't gone out
abbrev pub next_of : List OpenCommand → Next
next_of opens = next_owing opens (find owes_data opens)

-- the UPIU that is sent
abbrev pub upiu_of_next : Sizes → Next → Option Upiu
upiu_of_next s (Piece o) = Some (piece_upiu s o)
upiu_of_next s (Begin o) = Some (begin_upiu s o)
upiu_of_next s Nothing = None

-- the open commands once it was sent
abbrev pub after_next : Sizes → List OpenCommand → Next → List OpenCommand
after_next s opens (Piece o) = change_first owes_data (with_piece s) opens
after_next s opens (Begin o) = change_first is_waiting with_begin opens
after_next s opens Nothing = opens
