use Rattle.std.proofs.Common.{arith}
use Rattle.replay_standing.proofs.Receiving.{Received, answers_of, told_standing}
use Rattle.replay_standing.proofs.calls.receive.Goals as goal

pub returns-clause-leads : goal.returns-clause-leads
returns-clause-leads g c start p at =
    let got : Received c.args.device.now c.receive-sent.new.self c.args.bytes.now c.receive-sent.new.out c.receive-sent.result = record {
      stands = c.receive-sent.ensures.stands;
      foreign = c.receive-sent.ensures.foreign;
      answers = c.receive-sent.ensures.answers;
      store = c.receive-sent.ensures.store;
      shape = c.receive-sent.ensures.shape;
      counts = c.receive-sent.ensures.counts;
      receives = c.receive-sent.ensures.receives;
      entries = c.receive-sent.ensures.entries;
      listings = c.receive-sent.ensures.listings;
      counted = c.receive-sent.ensures.counted;
      hints = c.receive-sent.ensures.hints;
      fetched = c.receive-sent.ensures.fetched;
      bytes_are = λ i. omega (arith, c.type_inv.bytes i);
      few = c.requires;
      room = λ sends. c.see_upiu.ensures;
    } in
    record {
      answers = answers_of start c.args.device.now c.receive-sent.new.self c.args.bytes.now c.receive-sent.new.out c.receive-sent.result p at got;
      standing = told_standing start c.args.device.now c.receive-sent.new.self c.args.bytes.now c.receive-sent.new.out c.receive-sent.result p at got;
    }
