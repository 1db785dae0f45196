use Rattle.hpb_device.specs.Left.{wait_of}
use Rattle.hpb_device.proofs.Left.{fewer_along}
use Rattle.hpb_device.proofs.advance.advance.Goals as goal

pub returns-in-TellCapacity-clause-calls : goal.returns-in-TellCapacity-clause-calls
returns-in-TellCapacity-clause-calls g c = c.tell.ensures.calls c.args.store.now c.args.entry

pub returns-in-TellCapacity-clause-ok : goal.returns-in-TellCapacity-clause-ok
returns-in-TellCapacity-clause-ok g c = c.tell.ensures.ok c.args.store.now.luns c.requires.task

pub returns-in-TellCapacity-clause-fewer : goal.returns-in-TellCapacity-clause-fewer
returns-in-TellCapacity-clause-fewer g c = c.tell.ensures.fewer c.args.store.now.geometry.pages (wait_of c.args.store.now)

pub returns-in-ReadBlocks-clause-fewer : goal.returns-in-ReadBlocks-clause-fewer
returns-in-ReadBlocks-clause-fewer g c =
    let pages = c.args.store.now.geometry.pages in
    fewer_along c.args.limits pages c.args.store.now c.read.new.store c.args.task c.read.result c.read.ensures.same c.read.ensures.kept (c.read.ensures.fewer pages (wait_of c.args.store.now))

pub returns-then-task-clause-entries : goal.returns-then-task-clause-entries
returns-then-task-clause-entries g c = c.program.ensures.entries c.args.entry

pub returns-then-task-clause-calls : goal.returns-then-task-clause-calls
returns-then-task-clause-calls g c = c.program.ensures.calls c.args.entry

pub returns-else-task-clause-entries : goal.returns-else-task-clause-entries
returns-else-task-clause-entries g c = c.ask.ensures.entries c.args.entry

pub returns-else-task-clause-calls : goal.returns-else-task-clause-calls
returns-else-task-clause-calls g c = c.ask.ensures.calls c.args.entry

pub returns-in-ListEntries-clause-entries : goal.returns-in-ListEntries-clause-entries
returns-in-ListEntries-clause-entries g c = c.list.ensures.entries c.args.entry

pub returns-in-ListEntries-clause-calls : goal.returns-in-ListEntries-clause-calls
returns-in-ListEntries-clause-calls g c = c.list.ensures.calls c.args.entry

pub returns-in-TellCapacity-clause-entries : goal.returns-in-TellCapacity-clause-entries
returns-in-TellCapacity-clause-entries g c = c.tell.ensures.entries c.args.store.now c.args.entry
