use Rattle.std.proofs.Common.{◌≡◌, ◌⊎◌, ℕ, ◌+◌, ◌-◌, ◌*◌, ◌/◌, ◌%◌, ◌<◌, List, length, length-take-le, take, min, arith, sym, rules, refl, ap, inl, inr, ◌∙◌}
use Rattle.upiu_wire.specs.Upiu.{upiu_out}
use Rattle.upiu_wire.specs.Written.{data_upiu}
use Rattle.upiu_wire.specs.declared.kind.Kind.TheVariants.{DataIn}
use Rattle.flat_unit.proofs.entries.Listed.{length-entries_from}
use Rattle.hpb_device.specs.Advance.{entries_of, first_listed}
use Rattle.hpb_device.proofs.Commands.{listed_whole}
use Rattle.hpb_device.proofs.advance.list.Goals as goal

pub slice_bounds-put_data_in-end : goal.slice_bounds-put_data_in-end
slice_bounds-put_data_in-end g c =
    let count = c.min-count.result in
    let entries = c.div_ceil-entries.result in
    let enough : entries ≡ (count + 7) / 8 = search rules in
    let whole : length c.push_entries.new.held.items ≡ 8 * entries = ap length c.push_entries.ensures.entries ∙ length-entries_from _ _ entries in
    let same : length c.deref.result.now ≡ length c.push_entries.new.held.items = search rules in
    sym (length-take-le _ _ (omega (arith, enough, whole, same)))

pub returns-clause-advances : goal.returns-clause-advances
returns-clause-advances g c =
    let task = c.args.task in
    let count = c.min-count.result in
    let lent : c.deref.result.now ≡ c.push_entries.new.held.items = search rules in
    let counted : count ≡ min 4096 (task.given - task.sent) = search rules in
    let first : c.first_listed.result ≡ first_listed c.args.limits task.command = c.first_listed.ensures ∙ sym (ap (first_listed c.args.limits) c.requires.command.1) in
    let enough : c.div_ceil-entries.result ≡ (count + 7) / 8 = search rules in
    let listed : c.push_entries.new.held.items ≡ entries_of c.args.store.now.pages task.lun (first_listed c.args.limits task.command + task.sent / 8) ((count + 7) / 8) =
    c.push_entries.ensures.entries ∙ (ap (λ (n : ℕ). entries_of c.args.store.now.pages task.lun (n + task.sent / 8) c.div_ceil-entries.result) first
    ∙ ap (entries_of c.args.store.now.pages task.lun (first_listed c.args.limits task.command + task.sent / 8)) enough) in (
      (
        count,
        record {
          read_buffer = (c.args.region, c.args.sub, c.requires.command.0, c.requires.command.1);
          more = search rules;
          counted = counted;
          sent = c.put_data_in.ensures.written ∙ ap (λ (bytes : List ℕ). upiu_out (data_upiu DataIn task.lun task.tag task.sent (take count bytes))) (lent ∙ listed);
          task_is = refl;
        },
      ),
      c.push_entries.ensures.kept,
      c.clear.ensures.items,
    )

pub returns-clause-ok : goal.returns-clause-ok
returns-clause-ok g c =
    let task = c.args.task in
    let ok = c.requires.task in
    let count = c.min-count.result in
    let more : task.sent < task.given = search rules in
    let counted : count ≡ min 4096 (task.given - task.sent) = search rules in
    let whole : ((task.sent + count) % 4096 ≡ 0) ⊎ (task.sent + count ≡ task.given) = elim ok.within.whole_sent [
      | inl part ↦ listed_whole task.sent task.given count part more counted
      | inr all ↦ absurd (omega (arith, all, more))
    ] in
    record {
      accepted = ok.accepted;
      within = record {
        asked = ok.within.asked;
        whole_asked = ok.within.whole_asked;
        come = ok.within.come;
        programmed = ok.within.programmed;
        sent = omega (arith, more, counted);
        whole_sent = whole;
      };
    }
