-- A command that a device keeps until it has answered it.
use Rattle.std.specs.Prelude.{ℕ, List}
use Rattle.hpb_cdb.specs.declared.cdb.Cdb.{Cdb}

-- how many bytes it asked for, which bytes have come by DATA OUT, and how many it has sent by DATA IN
pub record Task : Type 0 where
  pub lun : ℕ
  pub tag : ℕ
  pub command : Cdb
  pub expected : ℕ
  pub asked : ℕ
  pub come : List ℕ
  pub sent : ℕ
