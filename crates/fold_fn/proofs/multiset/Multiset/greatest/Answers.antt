use Rattle.fold_fn.proofs.{Common.{rules, sym, SFits, w64, to_z-of_z}, Ends.{greatest_key}}
use Rattle.fold_fn.proofs.multiset.Multiset.greatest.Goals as goal

pub returns : goal.returns
returns c =
    let key = c.in_ok-value.value.now in
    let fits : SFits w64 key = search rules in
    let is = greatest_key c.self.inside.times.entries key c.in_ok-value.field-0-1.now c.self.invariant c.in_ok-value.ensures.value c.in_ok-value.ensures.all_up_to in
    rw (← c.self.view_is) (simp to_z-of_z (sym is))
