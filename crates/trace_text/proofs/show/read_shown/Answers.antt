use Rattle.std.proofs.Common.{arith, refl, ap, sym, ◌∙◌, not, option_map}
use Rattle.trace_text.specs.Shown.{shown_upiu}
use Rattle.trace_text.proofs.Headers.{refused_front, refused_rest, header_shown, nothing_read}
use Rattle.trace_text.proofs.show.read_shown.Goals as goal

pub returns-then-is_none-clause-shown : goal.returns-then-is_none-clause-shown
returns-then-is_none-clause-shown c =
    let none = nothing_read c.decode-2.result _ _ (c.is_none.ensures ∙ ap not c.if-is_none.true) c.decode-2.ensures.bytes in
    sym (ap (option_map shown_upiu) (refused_front c.args.digits.now _ 64 c.split_at.ensures.front refl (omega arith) none))

pub returns-then-not-are_digits-clause-shown : goal.returns-then-not-are_digits-clause-shown
returns-then-not-are_digits-clause-shown c =
    sym (ap (option_map shown_upiu) (refused_rest c.args.digits.now _ 64 c.split_at.ensures.back (sym c.are_digits.ensures ∙ c.if-not-are_digits.true)))

pub returns-clause-shown : goal.returns-clause-shown
returns-clause-shown c =
    header_shown c.args.digits.now _ _ c.decode-2.new.room c.decode-2.result c.split_at.ensures.front c.split_at.ensures.back (omega arith) (omega arith) (omega arith)
    c.decode-2.ensures.bytes c.decode-2.ensures.half (c.is_none.ensures ∙ ap not c.if-is_none.false) (sym c.is_response.ensures ∙ c.if-is_response.false)
    (sym c.are_digits.ensures ∙ c.if-not-are_digits.false)
