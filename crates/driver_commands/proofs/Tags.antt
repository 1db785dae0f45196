-- A command that is opened has the lowest free tag.
use Rattle.std.proofs.Common.{◌≡◌, ℕ, ◌<◌, List, length, Option, sym, ◌∙◌, subst, refl}
use Rattle.std.specs.Option.{IsSome}
use Rattle.driver_laws.specs.Commands.{OpenCommand, free_tag, tags}
use Rattle.driver_laws.proofs.Tags.{tag_is_free}

pub some_tag : (opens : List OpenCommand) (x : Option ℕ) → length opens < tags → x ≡ free_tag opens → IsSome x
some_tag opens x few is = let t = tag_is_free opens few in subst IsSome (sym (is ∙ t.1)) refl
