use Rattle.image_fitting.proofs.Common.{◌↔◌, Result, Ok, Err, IsTrue, OnOk, subst, sym, IfOk-weaker, FitsPlainly, FitByParts, IsPlaceTable}
use Rattle.image_fitting.proofs.{Exactly.{exact_is}, Placing.{table_owners}}
use Rattle.image_fitting.proofs.fitting.fits_plainly.Goals as goal

on_ok : {T E : Type 0} (r : Result T E) (P : Type 0) → P → OnOk r P
on_ok (Ok x) P h = h
on_ok (Err e) P h = tt

pub returns-clause-exact : goal.returns-clause-exact
returns-clause-exact c =
    let p = c.args.program.now in
    let whole : IsPlaceTable p c.as_slice.result.now = subst (IsPlaceTable p) (sym c.as_slice.ensures.value) c.in_ok-table.ensures in
    IfOk-weaker c.fits_by_table.result (λ yes. IsPlaceTable p c.as_slice.result.now → (IsTrue yes ↔ FitByParts p c.args.lives.now c.args.image.now)) (λ yes. IsTrue yes ↔ FitsPlainly p c.args.lives.now c.args.image.now)
    (λ yes h. exact_is p c.args.lives.now c.args.image.now yes (h whole)) c.fits_by_table.ensures

pub returns-clause-owners : goal.returns-clause-owners
returns-clause-owners c = on_ok c.fits_by_table.result _ (table_owners c.args.program.now c.in_ok-table.table.items c.in_ok-table.ensures)
