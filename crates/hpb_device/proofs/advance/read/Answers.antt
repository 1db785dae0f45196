use Rattle.hpb_device.proofs.advance.read.Goals as goal

pub returns-in-None-clause-calls : goal.returns-in-None-clause-calls
returns-in-None-clause-calls g c = c.show.ensures.calls c.args.entry
