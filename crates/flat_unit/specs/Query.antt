-- What answers a QUERY REQUEST (JESD220), and what it does. The two flags of HPB, the order of the tests and the code
-- for each refusal are this project's own.
use Rattle.std.specs.Prelude.{ℕ, ◌/◌, ◌%◌, Bool, true, false, not, ◌&&◌, ◌||◌, List, [], ◌∷◌, ◌++◌, replicate}
use Rattle.std.specs.Prelude.{if◌then◌else◌, ◌==◌}
use Rattle.byteorder.specs.Endian.{big_bytes}
use Rattle.upiu_wire.specs.declared.kind.Kind.TheVariants.{QueryResponse}
use Rattle.upiu_wire.specs.Upiu.{Upiu}
use Rattle.upiu_wire.specs.Written.{blank_upiu}
use Rattle.flat_unit.specs.declared.event.Event.{Event}
use Rattle.flat_unit.specs.declared.event.Event.TheVariants.{Cleared, Switched}

-- bytes 12 to 15 of the request
abbrev pub opcode_of : Upiu → ℕ
opcode_of v = v.first / 0x1000000

abbrev pub idn_of : Upiu → ℕ
idn_of v = v.first / 0x10000 % 0x100

abbrev pub index_of : Upiu → ℕ
index_of v = v.first / 0x100 % 0x100

abbrev pub selector_of : Upiu → ℕ
selector_of v = v.first % 0x100

-- the flag that resets HPB, and the one that switches it
abbrev pub reset_flag : ℕ
reset_flag = 0x11

abbrev pub switch_flag : ℕ
switch_flag = 0x12

-- a flag is read, or it is set, cleared or toggled
abbrev pub is_read : Upiu → Bool
is_read v = (v.function == 0x01) && (opcode_of v == 0x05)

abbrev pub is_change : Upiu → Bool
is_change v = (v.function == 0x81) && ((opcode_of v == 0x06) || (opcode_of v == 0x07) || (opcode_of v == 0x08))

-- each condition for which a request is refused, in order, with its code
abbrev pub refusals : Upiu → List (Bool × ℕ)
refusals v =
    (not ((v.function == 0x01) || (v.function == 0x81)), 0xFF)
    ∷ (not (is_read v || is_change v), 0xFE)
    ∷ (not ((idn_of v == reset_flag) || (idn_of v == switch_flag)), 0xFD)
    ∷ (not (index_of v == 0), 0xFC)
    ∷ (not (selector_of v == 0), 0xFB)
    ∷ ((idn_of v == reset_flag) && ((opcode_of v == 0x07) || (opcode_of v == 0x08)), 0xF7)
    ∷ []

-- the code of the first condition that holds, or 0
abbrev pub first_code : List (Bool × ℕ) → ℕ
first_code [] = 0
first_code (test ∷ tests) = if test.0 then test.1 else first_code tests

abbrev pub query_code : Upiu → ℕ
query_code v = first_code (refusals v)

-- whether HPB is on after a request that is served
abbrev pub on_after_query : Bool → Upiu → Bool
on_after_query on v =
    if opcode_of v == 0x06 then true
    else (if opcode_of v == 0x07 then false else (if opcode_of v == 0x08 then not on else on))

-- a reset is complete at once, so its flag is always 0
abbrev pub flag_after : Bool → Upiu → ℕ
flag_after on v = if idn_of v == switch_flag then (if on_after_query on v then 1 else 0) else 0

abbrev pub query_value : Bool → Upiu → ℕ
query_value on v = if query_code v == 0 then flag_after on v else 0

-- the QUERY RESPONSE: the function and bytes 12 to 15 of the request, and the flag's value in bytes 20 to 23
abbrev pub query_reply : Bool → Upiu → Upiu
query_reply on v = record (blank_upiu QueryResponse 0 v.tag) {
  function = v.function;
  response = query_code v;
  first = v.first;
  value = query_value on v;
  cdb = replicate 4 0 ++ big_bytes 4 (query_value on v) ++ replicate 8 0;
}

-- what a request that is served does: a read does nothing
abbrev pub query_effect : Bool → Upiu → List Event
query_effect on v =
    if is_change v then (if idn_of v == reset_flag then Cleared ∷ [] else Switched (on_after_query on v) ∷ []) else []

abbrev pub query_events : Bool → Upiu → List Event
query_events on v = if query_code v == 0 then query_effect on v else []
