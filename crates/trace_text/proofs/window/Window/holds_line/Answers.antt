use Rattle.std.proofs.Common.{arith}
use Rattle.std.proofs.lemmas.Bool.Decides.{nat_tests}
use Rattle.trace_text.proofs.Searches.{behind-HoldsLine, HoldsLine-behind}
use Rattle.trace_text.proofs.window.Window.holds_line.Goals as goal

pub returns-else-self-gt-LINE_BYTES : goal.returns-else-self-gt-LINE_BYTES
returns-else-self-gt-LINE_BYTES c =
    let w = c.args.self.now in (
      λ is. behind-HoldsLine w (grind (arith, nat_tests)),
      λ holds. let below = HoldsLine-behind w (omega arith) holds in grind (arith, nat_tests),
    )
