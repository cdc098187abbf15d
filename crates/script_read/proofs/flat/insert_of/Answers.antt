use Rattle.script_read.proofs.{Common.{◌≡◌, Some, None, codes, sym, ap, ◌∙◌, members_view, word_command, tree_givens, Change, Insert}, Forms.{two_same}}
use Rattle.script_read.proofs.Forms.{insert_is, insert_also}
use Rattle.script_read.proofs.flat.insert_of.Goals as goal

pub returns-in_ok-name-in-Some-clause-written : goal.returns-in_ok-name-in-Some-clause-written
returns-in_ok-name-in-Some-clause-written c =
    let is = c.in-Some-Some.ensures in
    let also = c.in-Some-Some.ensures' in
    let parts = members_view c.in-Some-Some.parts.now in
    let says : tree_givens parts ≡ Some c.in-Some.fields = rw c.in-Some.is at c.in_ok-fields-in-Some-Some.ensures in
    ap (word_command (codes "insert")) (two_same is also) ∙ insert_is c.in-Some-Some.ty.now parts c.in-Some.fields says ∙ ap (λ t. Some (Change (Insert t None c.in-Some.fields))) (sym c.in_ok-name-in-Some.ensures)

pub returns-in_ok-name-in-Some-clause-sorted : goal.returns-in_ok-name-in-Some-clause-sorted
returns-in_ok-name-in-Some-clause-sorted c =
    let is = c.in-Some-Some.ensures in
    let also = c.in-Some-Some.ensures' in
    let parts = members_view c.in-Some-Some.parts.now in
    let says : tree_givens parts ≡ Some c.in-Some.fields = rw c.in-Some.is at c.in_ok-fields-in-Some-Some.ensures in
    ap (word_command (codes "insert")) (two_same also is) ∙ insert_also c.in-Some-Some.ty.now parts c.in-Some.fields says ∙ ap (λ t. Some (Change (Insert t None c.in-Some.fields))) (sym c.in_ok-name-in-Some.ensures)
