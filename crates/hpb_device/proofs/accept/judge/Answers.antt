use Rattle.std.proofs.Common.{◌≡◌, ℕ, List, Some, None, sym, ◌∙◌, ap, subst, arith, rules, refl}
use Rattle.upiu_wire.specs.declared.kind.Kind.TheVariants.{NopOut, Command, DataOut, NopIn}
use Rattle.upiu_wire.specs.Upiu.{Upiu, upiu_at}
use Rattle.upiu_wire.specs.WireFault.{wire_fault_of, number_of}
use Rattle.flat_unit.specs.Harmless.{IsHarmless}
use Rattle.flat_unit.proofs.standing.OneCall.{reject_harmless, nop_harmless}
use Rattle.hpb_device.specs.Reply.{reply_upiu}
use Rattle.hpb_device.proofs.Harmless.{fault_harmless}
use Rattle.upiu_wire.specs.Written.{blank_upiu, reject_upiu}
use Rattle.flat_unit.specs.Reply.{fault_rejection}
use Rattle.flat_unit.proofs.History.{reply_to_fault, reply_to_kind, other_kind}
use Rattle.hpb_device.specs.Accept.{IsDataVerdict}
use Rattle.hpb_device.specs.Sizes.{sizes}
use Rattle.hpb_device.proofs.Replies.{follows_command, follows_refusal, follows_data}
use Rattle.hpb_device.proofs.accept.judge.Goals as goal

pub returns-in-Err-clause-follows : goal.returns-in-Err-clause-follows
returns-in-Err-clause-follows c = λ geometry held tasks keeps.
    let fault : wire_fault_of c.args.bytes.now ≡ Some c.in-Err.fault = search rules in
    let same : fault_rejection c.args.bytes.now (number_of c.in-Err.fault) ≡ reply_upiu c.reject_bytes.result =
    ap (fault_rejection c.args.bytes.now) (sym c.number.ensures) ∙ sym c.reject_bytes.ensures in
    let s = sizes c.args.luns c.args.limits geometry in
    record {
      answers = reply_to_fault s Rattle.std.proofs.Common.true tasks c.args.bytes.now c.in-Err.fault fault ∙ ap (λ (u : Upiu). Some u) same;
      harmless = subst (IsHarmless s tasks) same (fault_harmless s tasks c.args.bytes.now c.in-Err.fault);
    }

pub returns-in-NopOut-clause-follows : goal.returns-in-NopOut-clause-follows
returns-in-NopOut-clause-follows c = λ geometry held tasks keeps.
    let whole : wire_fault_of c.args.bytes.now ≡ None = search rules in
    let same : c.in-Ok.view ≡ c.args.bytes.now = search rules in
    let kind : (upiu_at c.args.bytes.now).kind ≡ NopOut = rw (← same) (sym c.in-NopOut.ensures) in
    record {
      answers = reply_to_kind (sizes c.args.luns c.args.limits geometry) Rattle.std.proofs.Common.true tasks c.args.bytes.now NopOut whole kind
          ∙ ap (λ (tag : ℕ). Some (blank_upiu NopIn 0 tag)) (sym (rw same at c.tag.ensures));
      harmless = nop_harmless (sizes c.args.luns c.args.limits geometry) tasks c.tag.result;
    }

pub returns-in-Ok-judge_command-clause-follows : goal.returns-in-Ok-judge_command-clause-follows
returns-in-Ok-judge_command-clause-follows c = λ geometry held tasks keeps.
    let whole : wire_fault_of c.args.bytes.now ≡ None = search rules in
    let same : c.in-Ok.view ≡ c.args.bytes.now = search rules in
    let kind : (upiu_at c.args.bytes.now).kind ≡ Command = rw (← same) (sym c.in-Command.ensures) in
    let judged = c.in-Ok-judge_command.ensures.judged geometry held tasks keeps in
    follows_command c.args.luns geometry c.args.limits tasks c.args.bytes.now c.in-Ok-judge_command.task whole kind (rw (← same) judged)

pub returns-in-Err-judge_command-clause-follows : goal.returns-in-Err-judge_command-clause-follows
returns-in-Err-judge_command-clause-follows c = λ geometry held tasks keeps.
    let whole : wire_fault_of c.args.bytes.now ≡ None = search rules in
    let same : c.in-Ok.view ≡ c.args.bytes.now = search rules in
    let kind : (upiu_at c.args.bytes.now).kind ≡ Command = rw (← same) (sym c.in-Command.ensures) in
    let judged = c.in-Err-judge_command.ensures.judged geometry held tasks keeps in
    follows_refusal c.args.luns geometry c.args.limits tasks c.args.bytes.now c.in-Err-judge_command.reply whole kind (rw same at c.judge_command.ensures.first_fits) (rw (← same) judged)

pub returns-in-DataOut-clause-follows : goal.returns-in-DataOut-clause-follows
returns-in-DataOut-clause-follows c = λ geometry held tasks keeps.
    let whole : wire_fault_of c.args.bytes.now ≡ None = search rules in
    let same : c.in-Ok.view ≡ c.args.bytes.now = search rules in
    let kind : (upiu_at c.args.bytes.now).kind ≡ DataOut = rw (← same) (sym c.in-DataOut.ensures) in
    let verdict = c.judge_data.ensures.follows held tasks keeps in
    let Q : List ℕ → Type 0 = λ bytes. IsDataVerdict tasks (upiu_at bytes) c.judge_data.result in
    follows_data c.args.luns geometry c.args.limits tasks c.args.bytes.now c.judge_data.result whole kind (subst Q same verdict)

pub returns-in_default : goal.returns-in_default
returns-in_default c = record {
  verdict = tt;
  follows = λ geometry held tasks keeps.
      let whole : wire_fault_of c.args.bytes.now ≡ None = search rules in
      let same : c.in-Ok.view ≡ c.args.bytes.now = search rules in
      let kind : (upiu_at c.args.bytes.now).kind ≡ c.kind.result = rw (← same) (sym c.kind.ensures) in
      record {
        answers = reply_to_kind (sizes c.args.luns c.args.limits geometry) Rattle.std.proofs.Common.true tasks c.args.bytes.now c.kind.result whole kind
            ∙ (other_kind c.kind.result (sizes c.args.luns c.args.limits geometry) Rattle.std.proofs.Common.true tasks (upiu_at c.args.bytes.now) c.in_default.not-NopOut c.in_default.not-Command
            c.in_default.not-DataOut refl refl
            ∙ ap (λ (b : List ℕ). Some (reject_upiu (upiu_at b).lun (upiu_at b).tag 7)) (sym same) ∙ rw (← c.lun.ensures, ← c.tag-in_default.ensures) refl);
        harmless = reject_harmless (sizes c.args.luns c.args.limits geometry) tasks c.lun.result c.tag-in_default.result 7 (omega arith);
      };
}
