use Rattle.replay_standing.proofs.Receiving.{reset_standing}
use Rattle.replay_standing.proofs.calls.reset.Goals as goal

pub returns-clause-leads : goal.returns-clause-leads
returns-clause-leads g c start p at = reset_standing start c.args.device.now c.reset.new.self p (record {
  reset = c.reset.ensures.reset;
  stands = c.reset.ensures.stands;
  foreign = c.reset.ensures.foreign;
  entries = c.reset.ensures.entries;
  listings = c.reset.ensures.listings;
  counted = c.reset.ensures.counted;
  hints = c.reset.ensures.hints;
  fetched = c.reset.ensures.fetched;
}) at
