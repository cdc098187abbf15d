use Rattle.fold_fn.proofs.Common.{ℕ, ℤ, List, sym, ◌∙◌, ap, subst, ◌≡◌, ◌++◌, append-nil, IsSorted, int_cmp, in_rising_order, repeated}
use Rattle.fold_fn.proofs.{Ends.{rising-repeated}, Sorting.{sorted-rising}}
use Rattle.fold_fn.proofs.multiset.Multiset.values.Goals as goal

-- what is answered is what the entries stand for, in rising order
answer_is : (c : goal.After-from_vec) → c.from_vec.result ≡ in_rising_order (repeated c.self.inside.times.entries)
answer_is c =
    let items = c.loop-value.values.items in
    let all : items ≡ repeated c.self.inside.times.entries =
    sym (append-nil items)
    ∙ (ap (λ (rest : List (ℤ × ℕ)). items ++ repeated rest) (sym c.in-None.ensures.steps.0)
    ∙ (c.loop-value.invariant ∙ ap repeated (c.into_iter-value-iterator.ensures.into_iter_gives ∙ c.iter-value-items.ensures.rest))) in
    c.from_vec.ensures ∙ (all ∙ sym (rising-repeated c.self.inside.times.entries c.iter-value-items.ensures.ordered))

pub returns-clause-values : goal.returns-clause-values
returns-clause-values c = answer_is c ∙ c.self.view_is

pub returns-clause-rising : goal.returns-clause-rising
returns-clause-rising c = subst (IsSorted int_cmp) (sym (answer_is c)) (sorted-rising (repeated c.self.inside.times.entries))
