use Rattle.std.proofs.Common.{◌∙◌, ◌≡◌, ◌/◌, sym, arith, length}
use Rattle.std.proofs.lemmas.List.{ext_get_or}
use Rattle.std.proofs.lemmas.List.FromFn.{get_or-map-range_with_len}
use Rattle.host_map_cache.specs.Regions.{entries_of}
use Rattle.host_map_cache.proofs.Sizes.{length-entries_of}
use Rattle.host_map_cache.proofs.slots.read_entries.Goals as goal

pub returns : goal.returns
returns c = let same : length c.read_u64_into.new.dst ≡ length c.args.bytes.now / 8 = c.read_u64_into.auto.dst ∙ c.requires.room in
    ext_get_or 0 c.read_u64_into.new.dst (entries_of c.args.bytes.now) (same ∙ sym (length-entries_of c.args.bytes.now))
    (λ i h. c.read_u64_into.ensures i h ∙ sym (get_or-map-range_with_len _ 0 (length c.args.bytes.now / 8) i i 0 (omega (arith, h, same)) (omega arith)))
