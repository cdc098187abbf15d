use Rattle.counting_node.proofs.Common.{◌≡◌, ◌∙◌, sym, ap, subst, true, false, ℤ, List, SFits, w64, to_z-of_z, Contains, Held}
use Rattle.fold_fn.proofs.LawLemmas.{contains_inserted, insert-injective}
use Rattle.counting_node.proofs.gathered.Gathered.without_value.Goals as goal

pub returns-then-not-holds-clause-values : goal.returns-then-not-holds-clause-values
returns-then-not-holds-clause-values c rest e =
    let fits : SFits w64 c.args.value = c.ranges.value in
    let told = simp to_z-of_z at c.holds.ensures in
    let is = ap (λ (h : Held). h.values) c.self.view_is ∙ e in
    let held = subst (λ (xs : List ℤ). Contains xs c.args.value) (sym is) (contains_inserted c.args.value rest) in
    let f : false ≡ true = sym c.if-not-holds.true ∙ told.1 held in
    cc

pub returns-clause-values : goal.returns-clause-values
returns-clause-values c rest e =
    let fits : SFits w64 c.args.value = c.ranges.value in
    let one = simp to_z-of_z at c.take_back.ensures.one in
    insert-injective c.args.value rest c.take_back.new.self.values (sym e ∙ sym (ap (λ (h : Held). h.values) c.self.view_is) ∙ one)
