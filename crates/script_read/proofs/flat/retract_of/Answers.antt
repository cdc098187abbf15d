use Rattle.script_read.proofs.{Common.{Some, codes, sym, ap, ◌∙◌, word_command, Change, Retract}, Forms.{two_same, retract_is, retract_also}}
use Rattle.script_read.proofs.flat.retract_of.Goals as goal

pub returns-in_ok-name-in-Some-Some-clause-written : goal.returns-in_ok-name-in-Some-Some-clause-written
returns-in_ok-name-in-Some-Some-clause-written c =
    let is = c.in-Some-Some in
    let id = is.ensures' in
    ap (word_command (codes "retract")) (two_same is.ensures (id.0, id.2)) ∙ retract_is is.ty.now id.1 is.id.0 id.3 ∙ ap (λ t. Some (Change (Retract t is.id))) (sym c.in_ok-name-in-Some-Some.ensures)

pub returns-in_ok-name-in-Some-Some-clause-sorted : goal.returns-in_ok-name-in-Some-Some-clause-sorted
returns-in_ok-name-in-Some-Some-clause-sorted c =
    let is = c.in-Some-Some in
    let id = is.ensures' in
    ap (word_command (codes "retract")) (two_same (id.0, id.2) is.ensures) ∙ retract_also is.ty.now id.1 is.id.0 id.3 ∙ ap (λ t. Some (Change (Retract t is.id))) (sym c.in_ok-name-in-Some-Some.ensures)
