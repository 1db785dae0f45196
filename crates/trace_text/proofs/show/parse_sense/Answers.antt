use Rattle.trace_text.proofs.Senses.{sense_of-read}
use Rattle.trace_text.proofs.show.parse_sense.Goals as goal

pub returns : goal.returns
returns c =
    let read = c.read_sense.ensures in
    sense_of-read c.args.segment.now c.read_sense.result (λ sense is. (read.reads sense).1 is, read.cut.1)
