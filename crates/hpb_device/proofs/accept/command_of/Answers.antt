use Rattle.std.proofs.Common.{Err, ap, refl, subst, sym, ◌∙◌}
use Rattle.hpb_cdb.specs.Cdb.{IsFault}
use Rattle.hpb_cdb.specs.declared.fault.CdbFault.TheVariants.{Opcode, Field, Range}
use Rattle.hpb_device.proofs.Served.{is_served, known_opcode, refused_opcode, spelled}
use Rattle.hpb_device.proofs.accept.command_of.Goals as goal

pub returns-in-Ok-clause-served : goal.returns-in-Ok-clause-served
returns-in-Ok-clause-served c = is_served c.args.limits c.args.cdb.now c.in-Ok.command c.in-Ok.ensures.command

pub returns-in-Ok-clause-command_of : goal.returns-in-Ok-clause-command_of
returns-in-Ok-clause-command_of c = λ luns geometry.
    rw (spelled c.args.cdb.now c.in-Ok.command c.in-Ok.ensures.command.spells) (sym c.in-Ok.ensures.answer)

pub returns-in-Err-Opcode-clause-command_of : goal.returns-in-Err-Opcode-clause-command_of
returns-in-Err-Opcode-clause-command_of c = λ luns geometry.
    (Opcode, refused_opcode _ c.args.limits c.args.cdb.now (sym c.in-Err-Opcode.ensures.answer ∙ ap Err c.in-Err-Opcode.field-0-is), refl)

pub returns-in-Err-Field-clause-command_of : goal.returns-in-Err-Field-clause-command_of
returns-in-Err-Field-clause-command_of c = λ luns geometry.
    let fault : IsFault c.args.cdb.now c.args.limits Field = subst (IsFault c.args.cdb.now c.args.limits) c.in-Err-Field.field-0-is c.in-Err-Field.ensures.fault in
    (Field, rw (known_opcode c.args.cdb.now fault.0) (sym c.in-Err-Field.ensures.answer ∙ ap Err c.in-Err-Field.field-0-is), refl)

pub returns-in-Err-Range-clause-command_of : goal.returns-in-Err-Range-clause-command_of
returns-in-Err-Range-clause-command_of c = λ luns geometry.
    let fault : IsFault c.args.cdb.now c.args.limits Range = subst (IsFault c.args.cdb.now c.args.limits) c.in-Err-Range.field-0-is c.in-Err-Range.ensures.fault in
    (Range, rw (spelled c.args.cdb.now fault.0 fault.1) (sym c.in-Err-Range.ensures.answer ∙ ap Err c.in-Err-Range.field-0-is), refl)
