use Rattle.std.proofs.Common.{Some, sym, ap, ◌∙◌}
use Rattle.flat_unit.specs.Hints.{has_nothing}
use Rattle.hint_issuer.proofs.Laws.{takes_update, hint_of-none, hint_of-some}
use Rattle.hint_issuer.proofs.take.Goals as goal

pub returns-then-has_nothing-clause-hint : goal.returns-then-has_nothing-clause-hint
returns-then-has_nothing-clause-hint c =
    let taken = takes_update c.args.regions.now c.take_news.new.self c.take_active.new.regions c.take_gone.new.regions c.args.lun
    c.take_active.result c.take_gone.result (sym c.take_news.ensures.news ∙ c.if-take_news.false) c.take_news.ensures.told
    c.take_active.ensures.places c.take_active.ensures.told c.take_gone.ensures.regions c.take_gone.ensures.told in
    sym (hint_of-none c.args.regions.now c.args.lun taken.silent (ap has_nothing (sym taken.hint) ∙ sym c.has_nothing.ensures ∙ c.if-has_nothing.true))

pub returns-then-has_nothing-clause-told : goal.returns-then-has_nothing-clause-told
returns-then-has_nothing-clause-told c =
    (takes_update c.args.regions.now c.take_news.new.self c.take_active.new.regions c.take_gone.new.regions c.args.lun
    c.take_active.result c.take_gone.result (sym c.take_news.ensures.news ∙ c.if-take_news.false) c.take_news.ensures.told
    c.take_active.ensures.places c.take_active.ensures.told c.take_gone.ensures.regions c.take_gone.ensures.told).told

pub returns-else-has_nothing-clause-hint : goal.returns-else-has_nothing-clause-hint
returns-else-has_nothing-clause-hint c =
    let taken = takes_update c.args.regions.now c.take_news.new.self c.take_active.new.regions c.take_gone.new.regions c.args.lun
    c.take_active.result c.take_gone.result (sym c.take_news.ensures.news ∙ c.if-take_news.false) c.take_news.ensures.told
    c.take_active.ensures.places c.take_active.ensures.told c.take_gone.ensures.regions c.take_gone.ensures.told in
    ap Some taken.hint
    ∙ sym (hint_of-some c.args.regions.now c.args.lun taken.silent (ap has_nothing (sym taken.hint) ∙ sym c.has_nothing.ensures ∙ c.if-has_nothing.false))

pub returns-else-has_nothing-clause-told : goal.returns-else-has_nothing-clause-told
returns-else-has_nothing-clause-told c =
    (takes_update c.args.regions.now c.take_news.new.self c.take_active.new.regions c.take_gone.new.regions c.args.lun
    c.take_active.result c.take_gone.result (sym c.take_news.ensures.news ∙ c.if-take_news.false) c.take_news.ensures.told
    c.take_active.ensures.places c.take_active.ensures.told c.take_gone.ensures.regions c.take_gone.ensures.told).told
