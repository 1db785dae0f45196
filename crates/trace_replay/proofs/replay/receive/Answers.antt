use Rattle.std.proofs.Common.{◌≡◌, ℕ, List, subst, ◌+◌, ◌≤◌, length, refl, rules, sym, ◌∙◌, ap, arith, length-append}
use Rattle.std.proofs.lemmas.Result.{err_from_is_err_and}
use Rattle.hex.specs.Hex.{IsBytes}
use Rattle.flat_unit.specs.Print.{print, line_of}
use Rattle.flat_unit.specs.declared.event.Event.TheVariants.{Host}
use Rattle.hpb_device.specs.declared.device.Sent.TheVariants.{Nothing, Upiu as UpiuSent}
use Rattle.trace_text.proofs.Lengths.{length-Host}
use Rattle.run_output.proofs.Written.{keeps_grows}
use Rattle.replay_standing.proofs.Receiving.{Received}
use Rattle.trace_replay.proofs.Receiving.{received_leads}
use Rattle.trace_replay.proofs.replay.receive.Goals as goal

upiu_not_nothing : UpiuSent ≡ Nothing → ⊥
upiu_not_nothing same = cc

pub returns-in_err-make_room-clause-serves : goal.returns-in_err-make_room-clause-serves
returns-in_err-make_room-clause-serves g c start before p at printed =
    let failed = err_from_is_err_and c.from_residual.result c.from_residual.ensures.1 in
    rw failed.1 (record { moment = p; reached = refl; standing = at; printed = c.in_err-make_room.ensures.text before (print p.events) printed })

pub push_upiu-requires-in-Upiu : goal.push_upiu-requires-in-Upiu
push_upiu-requires-in-Upiu g c =
    let room : length c.make_room.new.output + 139520 ≤ 262144 = search rules in
    let line = length-Host c.args.bytes.now in
    let now : length c.push_upiu.new.self ≡ length c.make_room.new.output + length (line_of (Host c.args.bytes.now)) = ap length c.push_upiu.ensures.text
    ∙ length-append c.make_room.new.output (line_of (Host c.args.bytes.now)) in
    omega (arith, room, line, now, c.requires, c.bytes.ensures.fits)

pub returns-in-Upiu-clause-serves : goal.returns-in-Upiu-clause-serves
returns-in-Upiu-clause-serves g c start before p at printed =
    let got : Received c.args.device.now c.receive-sent.new.self c.args.bytes.now c.receive-sent.new.out c.receive-sent.result = record {
      stands = c.receive-sent.ensures.stands;
      foreign = c.receive-sent.ensures.foreign;
      answers = c.receive-sent.ensures.answers;
      store = c.receive-sent.ensures.store;
      shape = c.receive-sent.ensures.shape;
      counts = c.receive-sent.ensures.counts;
      receives = c.receive-sent.ensures.receives;
      entries = c.receive-sent.ensures.entries;
      listings = c.receive-sent.ensures.listings;
      counted = c.receive-sent.ensures.counted;
      hints = c.receive-sent.ensures.hints;
      fetched = c.receive-sent.ensures.fetched;
      bytes_are = λ i. omega (arith, c.type_inv.bytes i);
      few = c.requires;
      room = λ sends. (subst IsBytes c.bytes.ensures.value c.push_upiu-in-Upiu.ensures.bytes, subst (λ (l : List ℕ). length l ≤ 4128) c.bytes.ensures.value c.bytes.ensures.fits);
    } in
    let whole = c.in_ok-make_room.ensures.text before (print p.events) printed in
    received_leads start c.args.device.now c.receive-sent.new.self before _ _ c.push_upiu.new.self c.push_upiu-in-Upiu.new.self c.args.bytes.now c.receive-sent.new.out c.receive-sent.result p
    at got whole c.push_upiu.ensures.text (λ sends. search rules) (λ none. absurd (upiu_not_nothing (sym c.in-Upiu.is ∙ none)))

pub returns-in_default-clause-serves : goal.returns-in_default-clause-serves
returns-in_default-clause-serves g c start before p at printed =
    let got : Received c.args.device.now c.receive-sent.new.self c.args.bytes.now c.receive-sent.new.out c.receive-sent.result = record {
      stands = c.receive-sent.ensures.stands;
      foreign = c.receive-sent.ensures.foreign;
      answers = c.receive-sent.ensures.answers;
      store = c.receive-sent.ensures.store;
      shape = c.receive-sent.ensures.shape;
      counts = c.receive-sent.ensures.counts;
      receives = c.receive-sent.ensures.receives;
      entries = c.receive-sent.ensures.entries;
      listings = c.receive-sent.ensures.listings;
      counted = c.receive-sent.ensures.counted;
      hints = c.receive-sent.ensures.hints;
      fetched = c.receive-sent.ensures.fetched;
      bytes_are = λ i. omega (arith, c.type_inv.bytes i);
      few = c.requires;
      room = λ sends. absurd (c.in_default.not-Upiu sends);
    } in
    let whole = c.in_ok-make_room.ensures.text before (print p.events) printed in
    received_leads start c.args.device.now c.receive-sent.new.self before _ _ c.push_upiu.new.self c.push_upiu.new.self c.args.bytes.now c.receive-sent.new.out c.receive-sent.result p
    at got whole c.push_upiu.ensures.text (λ sends. absurd (c.in_default.not-Upiu sends)) (λ none. refl)

pub returns-in_err-make_room-clause-grows : goal.returns-in_err-make_room-clause-grows
returns-in_err-make_room-clause-grows g c = keeps_grows _ _ _ _ c.make_room.result c.make_room.ensures.text

pub returns-in-Upiu-clause-grows : goal.returns-in-Upiu-clause-grows
returns-in-Upiu-clause-grows g c = keeps_grows _ _ _ _ c.make_room.result c.make_room.ensures.text

pub returns-in_default-clause-grows : goal.returns-in_default-clause-grows
returns-in_default-clause-grows g c = keeps_grows _ _ _ _ c.make_room.result c.make_room.ensures.text
