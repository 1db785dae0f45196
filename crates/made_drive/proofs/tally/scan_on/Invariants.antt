use Rattle.std.proofs.Common.{◌≡◌, take}
use Rattle.std.specs.Prelude.{fold}
use Rattle.made_drive.specs.Scan.{byte_taken}
use Rattle.made_drive.proofs.tally.scan_on.Given as goal

abbrev pub invariant-loop-byte : goal.invariant-loop-byte
invariant-loop-byte l = l.scan ≡ fold byte_taken l.fn.scan (take l.byte-index l.bytes)
