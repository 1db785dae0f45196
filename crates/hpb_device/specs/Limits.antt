-- The limits within which the CDBs of a logical unit are read.
use Rattle.std.specs.Prelude.{◌-◌, ◌^◌}
use Rattle.hpb_cdb.specs.declared.limits.Limits.{Limits}
use Rattle.region_state.specs.declared.shape.Shape.{Shape}

abbrev pub limits_of : Shape → Limits
limits_of shape = record {
  units = shape.units;
  per_region = 2 ^ (shape.region_exp - 3);
  per_sub = 2 ^ (shape.sub_exp - 3);
}
