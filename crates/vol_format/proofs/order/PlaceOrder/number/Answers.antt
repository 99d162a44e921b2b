use Rattle.std.proofs.Common.{◌<◌, sym, ◌∙◌, subst, arith, length, List, ℕ}
use Rattle.std.specs.Prelude.{Contains, None}
use Rattle.std.proofs.lemmas.List.{get_or_default}
use Rattle.vol_format.proofs.Numbers.{has_number, past_last, if_none}
use Rattle.vol_format.proofs.order.PlaceOrder.number.Goals as goal

pub returns-then-place-len-clause-none : goal.returns-then-place-len-clause-none
returns-then-place-len-clause-none g c = λ has.
    let inside = c.self.inside in
    past_last inside.order.items inside.numbers.items c.args.place c.self.invariant
    (omega (arith, c.if-place-len.true, c.len.ensures, inside.numbers.ok.0))
    (subst (λ (xs : List ℕ). Contains xs c.args.place) (sym c.self.view_is) has)

pub returns-clause-none : goal.returns-clause-none
returns-clause-none g c =
    let inside = c.self.inside in
    let within : c.args.place < length inside.numbers.items = omega (arith, c.if-place-len.false, c.len.ensures, inside.numbers.ok.0) in
    if_none c.index.result.now _ (λ none has.
    has_number inside.order.items inside.numbers.items c.args.place c.self.invariant
    (get_or_default inside.numbers.items c.args.place None c.index.result.now within ∙ sym c.index.ensures ∙ none)
    (subst (λ (xs : List ℕ). Contains xs c.args.place) (sym c.self.view_is) has))
