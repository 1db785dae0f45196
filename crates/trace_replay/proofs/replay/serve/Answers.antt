use Rattle.trace_replay.proofs.Turns.{blank_leads}
use Rattle.trace_replay.proofs.replay.serve.Goals as goal

pub returns-in-Blank-clause-serves : goal.returns-in-Blank-clause-serves
returns-in-Blank-clause-serves g c start before p at printed = rw c.in-Blank.is (blank_leads start c.args.device.now before _ _ p at printed)

pub returns-in-Drain-clause-serves : goal.returns-in-Drain-clause-serves
returns-in-Drain-clause-serves g c start before p at printed = rw c.in-Drain.is (c.drain.ensures.serves start before p at printed)

pub returns-in-Reset-clause-serves : goal.returns-in-Reset-clause-serves
returns-in-Reset-clause-serves g c start before p at printed = rw c.in-Reset.is (c.reset.ensures.serves start before p at printed)

pub returns-in-Steps-clause-serves : goal.returns-in-Steps-clause-serves
returns-in-Steps-clause-serves g c start before p at printed = rw c.in-Steps.is (c.make_steps.ensures.serves start before p at printed)

pub returns-in-Collect-clause-serves : goal.returns-in-Collect-clause-serves
returns-in-Collect-clause-serves g c start before p at printed = rw c.in-Collect.is (c.collect.ensures.serves start before p at printed)

pub returns-in-Upiu-clause-serves : goal.returns-in-Upiu-clause-serves
returns-in-Upiu-clause-serves g c start before p at printed = rw c.in-Upiu.is (rw (← c.deref.ensures.value) (c.receive.ensures.serves start before p at printed))
