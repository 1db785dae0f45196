-- A drive says all that happens in it (this project's own).
use Rattle.std.specs.Prelude.{◌≡◌}
use Rattle.drive_rules.specs.Lines.{Drive}
use Rattle.drive_rules.specs.Said.{answers_in, events_in, outside_in}

-- what was said are the events, the answers and the numbers out of range, each in order
pub record IsTold (d : Drive) : Type 0 where
  pub events : d.progress.events ≡ events_in d.said
  pub answers : d.answers ≡ answers_in d.said
  pub outside : d.outside ≡ outside_in d.said
