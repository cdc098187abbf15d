use Rattle.rete_net.proofs.Common.{◌≡◌, ◌∙◌, ap, sym, ◌+◌, ◌-◌, ◌/◌, ◌<◌, arith, length, Some, slice_get, slice_get-get_or, slice_get_within}
use Rattle.rete_net.proofs.Searched.{all_before, all_behind, parted_at}
use Rattle.rete_net.proofs.pieces.count_before.Goals as goal

pub search-init : goal.search-init
search-init c = record {
  ordered = omega arith;
  within = omega arith;
  before = λ sorted k e there lt. absurd (omega (arith, lt));
  behind = λ sorted k e there le. let low = slice_get_within c.args.extras.now k e there in absurd (omega (arith, le, low));
}

pub bounds-extras-middle : goal.bounds-extras-middle
bounds-extras-middle c =
    let within = c.search.invariant.within in
    let lt = c.search-test.true in
    omega (arith, within, lt)

pub search-preserved-then-comes_before : goal.search-preserved-then-comes_before
search-preserved-then-comes_before c =
    let was = c.search.invariant in
    let lt = c.search-test.true in
    let within = was.within in
    let middle = c.search.low + (c.search.high - c.search.low) / 2 in
    let inside : middle < length c.args.extras.now = omega (arith, within, lt) in
    let at : slice_get c.args.extras.now middle ≡ Some c.index-extras-middle.result = slice_get-get_or c.args.extras.now middle c.index-extras-middle.result inside ∙ ap Some (sym c.index-extras-middle.is) in
    record {
      ordered = omega (arith, within, lt);
      within = was.within;
      before = λ sorted. all_before c.args.under c.args.owner c.args.extras.now sorted middle c.index-extras-middle.result at (sym c.comes_before.ensures ∙ c.if-comes_before.true);
      behind = was.behind;
    }

pub search-preserved : goal.search-preserved
search-preserved c =
    let was = c.search.invariant in
    let lt = c.search-test.true in
    let within = was.within in
    let middle = c.search.low + (c.search.high - c.search.low) / 2 in
    let inside : middle < length c.args.extras.now = omega (arith, within, lt) in
    let at : slice_get c.args.extras.now middle ≡ Some c.index-extras-middle.result = slice_get-get_or c.args.extras.now middle c.index-extras-middle.result inside ∙ ap Some (sym c.index-extras-middle.is) in
    record {
      ordered = omega (arith, lt);
      within = omega (arith, within, lt);
      before = was.before;
      behind = λ sorted. all_behind c.args.under c.args.owner c.args.extras.now sorted middle c.index-extras-middle.result at (sym c.comes_before.ensures ∙ c.if-comes_before.false);
    }

pub returns-clause-within : goal.returns-clause-within
returns-clause-within c = let within = c.search.invariant.within in let ordered = c.search.invariant.ordered in omega (arith, within, ordered)

pub returns-clause-parted : goal.returns-clause-parted
returns-clause-parted c sorted =
    let was = c.search.invariant in
    let over = c.search-test.false in
    parted_at c.args.under c.args.owner c.args.extras.now sorted c.search.low (was.before sorted) (λ k e there le. was.behind sorted k e there (omega (arith, over, le)))
