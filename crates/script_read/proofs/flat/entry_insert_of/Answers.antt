use Rattle.script_read.proofs.{Common.{◌≡◌, Some, codes, sym, ap, ap₂, ◌∙◌, members_view, word_command, tree_givens, Change, Insert}, Forms.{three_same}}
use Rattle.script_read.proofs.Forms.{entry_is, entry_also}
use Rattle.script_read.proofs.flat.entry_insert_of.Goals as goal

pub returns-in_ok-name-in-Some-2-clause-written : goal.returns-in_ok-name-in-Some-2-clause-written
returns-in_ok-name-in-Some-2-clause-written c =
    let is = c.in-Some-Some-Some in
    let parts = members_view is.parts.now in
    let says : tree_givens parts ≡ Some c.in-Some.fields = rw c.in-Some.is at c.in_ok-fields-in-Some-Some-Some.ensures in
    ap (word_command (codes "insert")) (three_same is.ensures is.ensures' is.ensures'') ∙ entry_is is.ty.now is.entry.now parts c.in-Some.fields says
    ∙ ap₂ (λ t e. Some (Change (Insert t (Some e) c.in-Some.fields))) (sym c.in_ok-name-in-Some.ensures) (sym c.in_ok-name-in-Some-2.ensures)

pub returns-in_ok-name-in-Some-2-clause-sorted : goal.returns-in_ok-name-in-Some-2-clause-sorted
returns-in_ok-name-in-Some-2-clause-sorted c =
    let is = c.in-Some-Some-Some in
    let parts = members_view is.parts.now in
    let says : tree_givens parts ≡ Some c.in-Some.fields = rw c.in-Some.is at c.in_ok-fields-in-Some-Some-Some.ensures in
    ap (word_command (codes "insert")) (three_same is.ensures' is.ensures'' is.ensures) ∙ entry_also is.ty.now is.entry.now parts c.in-Some.fields says
    ∙ ap₂ (λ t e. Some (Change (Insert t (Some e) c.in-Some.fields))) (sym c.in_ok-name-in-Some.ensures) (sym c.in_ok-name-in-Some-2.ensures)
