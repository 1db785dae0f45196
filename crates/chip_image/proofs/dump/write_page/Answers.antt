use Rattle.std.proofs.Common.{◌∷◌, refl}
use Rattle.chip_image.specs.Image.{magic, shape_bytes, spare_bytes}
use Rattle.chip_image.specs.declared.version.Version.TheVariants.{Two}
use Rattle.hpb_outside.proofs.Written.{writes_after, writes_cut}
use Rattle.chip_image.proofs.dump.write_page.Goals as goal

pub returns-in_err-write-clause-writes : goal.returns-in_err-write-clause-writes
returns-in_err-write-clause-writes g c = writes_cut (g.K.Sink.written c.args.sink.now) (g.K.Sink.written c.write.new.sink) (1 ∷ spare_bytes Two c.args.spare) c.head_of.result (c.args.block.now)
    c.from_residual.result c.head_of.ensures c.from_residual.ensures.0 c.in_err-write.ensures.writes

pub returns-clause-writes : goal.returns-clause-writes
returns-clause-writes g c = writes_after (g.K.Sink.written c.args.sink.now) (g.K.Sink.written c.write.new.sink) (g.K.Sink.written c.write-2.new.sink)
    (1 ∷ spare_bytes Two c.args.spare) c.head_of.result (c.args.block.now) c.args.block.now c.write-2.result c.head_of.ensures refl c.in_ok-write.ensures.writes c.write-2.ensures.writes
