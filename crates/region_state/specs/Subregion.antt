-- What a device counts of a subregion. The limits of the counts are this project's own.
use Rattle.std.specs.Prelude.{◌+◌, ◌==◌, Bool, min, if◌then◌else◌, true, false}
use Rattle.region_state.specs.declared.subregion.Subregion.{Subregion}

-- what the host doesn't hold, and what it has just loaded
abbrev pub unloaded : Subregion
unloaded = record { loaded = false; count = 0 }

abbrev pub just_loaded : Subregion
just_loaded = record { loaded = true; count = 0 }

-- reads count where the host doesn't hold it, up to 4
abbrev pub read_counted : Subregion → Subregion
read_counted x = if x.loaded then x else record x { count = min (x.count + 1) 4 }

-- changes count where the host holds it, up to 8
abbrev pub write_counted : Subregion → Subregion
write_counted x = if x.loaded then record x { count = min (x.count + 1) 8 } else x

-- the count is at its limit
abbrev pub is_due : Subregion → Bool
is_due x = if x.loaded then x.count == 8 else (x.count == 4)

-- the count is back at the start
abbrev pub recounted : Subregion → Subregion
recounted x = record x { count = 0 }
