use Rattle.std.proofs.Common.{◌≤◌, ◌<◌, length, arith}
use Rattle.drive_run.proofs.Drains.{after_drain, freed, not_full}
use Rattle.drive_run.proofs.drain.free_tags.Goals as goal

pub returns-then-tags_used-ge-TAGS-clause-plays : goal.returns-then-tags_used-ge-TAGS-clause-plays
returns-then-tags_used-ge-TAGS-clause-plays g c start d at =
    let full : 32 ≤ length c.args.link.now.driver.opens = omega (arith, c.if-tags_used-ge-TAGS.true, c.tags_used.ensures) in
    freed start _ _ _ _ _ _ _ d c.drain.result at full c.drain.ensures.plays

pub returns-then-tags_used-ge-TAGS-clause-free : goal.returns-then-tags_used-ge-TAGS-clause-free
returns-then-tags_used-ge-TAGS-clause-free g c = (after_drain _ _ _ _ _ _ _ c.drain.result c.requires c.drain.ensures.plays).0

pub returns-then-tags_used-ge-TAGS-clause-count : goal.returns-then-tags_used-ge-TAGS-clause-count
returns-then-tags_used-ge-TAGS-clause-count g c = (after_drain _ _ _ _ _ _ _ c.drain.result c.requires c.drain.ensures.plays).1

pub returns-clause-plays : goal.returns-clause-plays
returns-clause-plays g c start d at =
    let few : length c.args.link.now.driver.opens < 32 = omega (arith, c.if-tags_used-ge-TAGS.false, c.tags_used.ensures) in
    not_full start _ _ _ _ d at few
