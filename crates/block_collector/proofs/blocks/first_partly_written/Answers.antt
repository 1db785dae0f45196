use Rattle.std.proofs.Common.{length, sym, arith, get_or, nat_lt}
use Rattle.std.proofs.lemmas.Bool.{lt-ltb, and_from}
use Rattle.block_collector.specs.Room.{is_partly_written}
use Rattle.page_validity.proofs.FirstBetween.{first_between-is, first_between-nothing}
use Rattle.block_collector.proofs.blocks.first_partly_written.Goals as goal

pub returns-then-count-pages : goal.returns-then-count-pages
returns-then-count-pages c =
    let written = c.args.written.now in
    sym (first_between-is 0 (length written) (is_partly_written c.args.pages written) c.loop-block.block
    (record {
      from = omega arith;
      below = omega arith;
      passed = and_from (nat_lt 0 (get_or written c.loop-block.block 0)) (nat_lt (get_or written c.loop-block.block 0) c.args.pages)
          (lt-ltb 0 (get_or written c.loop-block.block 0) (omega arith)) (lt-ltb (get_or written c.loop-block.block 0) c.args.pages (omega arith));
      earlier = λ m _. c.loop-block.invariant m;
    }))

pub returns : goal.returns
returns c =
    let written = c.args.written.now in
    sym (first_between-nothing 0 (length written) (is_partly_written c.args.pages written) (λ m _ below. c.loop-block.invariant m (omega arith)))
