use Rattle.std.proofs.Common.{◌+◌, ℕ, List, refl, sym, ◌∙◌, ap}
use Rattle.std.specs.Prelude.{slice_set}
use Rattle.upiu_wire.specs.Upiu.{upiu_at}
use Rattle.driver_laws.specs.Deliver.{with_asked, with_got}
use Rattle.driver_laws.specs.Commands.{has}
use Rattle.driver_commands.specs.Open.{limits_of}
use Rattle.driver_commands.proofs.Places.{Found, first_at}
use Rattle.driver_commands.proofs.Ready.{set_ready}
use Rattle.driver_commands.proofs.Taking.{taken_data, taken_range}
use Rattle.driver_commands.proofs.exchange.take_upiu.Goals as goal

pub returns-in-DataIn-clause-taken : goal.returns-in-DataIn-clause-taken
returns-in-DataIn-clause-taken c = λ o at.
    taken_data c.args.commands.now.items c.take_data.new.commands.items c.args.place o (upiu_at c.args.view.now) c.requires.first at (sym c.kind.ensures ∙ c.in-DataIn.is)
    (c.take_data.ensures.items o at ∙ ap (λ (bytes : List ℕ). slice_set c.args.commands.now.items c.args.place (with_got bytes o)) c.segment.ensures)

pub returns-in-ReadyToTransfer-clause-taken : goal.returns-in-ReadyToTransfer-clause-taken
returns-in-ReadyToTransfer-clause-taken c = λ o at.
    taken_range (limits_of c.args.shape) c.args.commands.now.items c.ask_data.new.commands.items c.args.place o (upiu_at c.args.view.now) c.requires.first at (c.requires.phase o at)
    (sym c.kind.ensures ∙ c.in-ReadyToTransfer.is)
    (c.ask_data.ensures.items o at ∙ ap (λ (n : ℕ). slice_set c.args.commands.now.items c.args.place (with_asked (o.asked + n) o)) c.count.ensures)

pub returns-in-DataIn-clause-ready : goal.returns-in-DataIn-clause-ready
returns-in-DataIn-clause-ready c =
    let opens = c.args.commands.now.items in
    let f : Found (has (upiu_at c.args.view.now).tag) opens c.args.place = first_at (has (upiu_at c.args.view.now).tag) opens c.args.place c.requires.first in
    set_ready c.args.shape opens c.take_data.new.commands.items c.args.caches.now _ c.args.place f.o (with_got c.segment.result.now f.o) c.requires.ready
    (f.is_there f.o) refl (c.take_data.ensures.items f.o (f.is_there f.o))

pub returns-in-ReadyToTransfer-clause-ready : goal.returns-in-ReadyToTransfer-clause-ready
returns-in-ReadyToTransfer-clause-ready c =
    let opens = c.args.commands.now.items in
    let f : Found (has (upiu_at c.args.view.now).tag) opens c.args.place = first_at (has (upiu_at c.args.view.now).tag) opens c.args.place c.requires.first in
    set_ready c.args.shape opens c.ask_data.new.commands.items c.args.caches.now _ c.args.place f.o (with_asked (f.o.asked + c.count.result) f.o) c.requires.ready
    (f.is_there f.o) refl (c.ask_data.ensures.items f.o (f.is_there f.o))
