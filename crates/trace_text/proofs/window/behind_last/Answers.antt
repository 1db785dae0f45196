use Rattle.trace_text.proofs.Ends.{EndsLast-found, EndsLast-none}
use Rattle.trace_text.proofs.window.behind_last.Goals as goal

pub returns-in-Some : goal.returns-in-Some
returns-in-Some c = EndsLast-found c.args.bytes.now c.args.searched c.args.end c.in-Some.at c.requires.order c.requires.within c.in-Some.ensures

pub returns-in-None : goal.returns-in-None
returns-in-None c = EndsLast-none c.args.bytes.now c.args.known c.args.searched c.args.end c.requires.told c.requires.order c.requires.within c.in-None.ensures
