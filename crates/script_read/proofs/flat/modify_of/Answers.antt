use Rattle.script_read.proofs.{Common.{◌≡◌, Some, codes, sym, ap, ◌∙◌, members_view, word_command, tree_givens, Change, Modify}, Forms.{three_same, modify_is}}
use Rattle.script_read.proofs.Forms.{modify_also}
use Rattle.script_read.proofs.flat.modify_of.Goals as goal

pub returns-in_ok-name-in-Some-clause-written : goal.returns-in_ok-name-in-Some-clause-written
returns-in_ok-name-in-Some-clause-written c =
    let is = c.in-Some-Some-Some in
    let id = is.ensures' in
    let parts = members_view is.parts.now in
    let says : tree_givens parts ≡ Some c.in-Some.fields = rw c.in-Some.is at c.in_ok-fields-in-Some-Some-Some.ensures in
    ap (word_command (codes "modify")) (three_same is.ensures (id.0, id.2) is.ensures'') ∙ modify_is is.ty.now id.1 is.id.0 parts c.in-Some.fields id.3 says
    ∙ ap (λ t. Some (Change (Modify t is.id c.in-Some.fields))) (sym c.in_ok-name-in-Some.ensures)

pub returns-in_ok-name-in-Some-clause-sorted : goal.returns-in_ok-name-in-Some-clause-sorted
returns-in_ok-name-in-Some-clause-sorted c =
    let is = c.in-Some-Some-Some in
    let id = is.ensures' in
    let parts = members_view is.parts.now in
    let says : tree_givens parts ≡ Some c.in-Some.fields = rw c.in-Some.is at c.in_ok-fields-in-Some-Some-Some.ensures in
    ap (word_command (codes "modify")) (three_same is.ensures'' (id.0, id.2) is.ensures) ∙ modify_also is.ty.now id.1 is.id.0 parts c.in-Some.fields id.3 says
    ∙ ap (λ t. Some (Change (Modify t is.id c.in-Some.fields))) (sym c.in_ok-name-in-Some.ensures)
