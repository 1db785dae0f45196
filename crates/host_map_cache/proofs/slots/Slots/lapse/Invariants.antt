use Rattle.std.proofs.Common.{◌≡◌}
use Rattle.host_map_cache.specs.Regions.{lapsed_region}
use Rattle.host_map_cache.proofs.Every.{IsWalked}
use Rattle.host_map_cache.proofs.slots.Slots.lapse.Given as goal

abbrev pub invariant-loop-key : goal.invariant-loop-key
invariant-loop-key l = record {
  walked : IsWalked (λ held. (held.0, lapsed_region held.1)) l.key-counter l.initial.self-inside.slots.entries l.self-inside.slots.entries;
  used : l.self-inside.used ≡ l.initial.self-inside.used;
  room : l.self-inside.room ≡ l.initial.self-inside.room;
  subregions : l.self-inside.subregions ≡ l.initial.self-inside.subregions;
  blocks : l.self-inside.blocks ≡ l.initial.self-inside.blocks;
}
