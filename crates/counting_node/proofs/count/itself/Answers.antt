use Rattle.counting_node.proofs.Common.{◌∙◌, sym, ap, eq_by_cmp, Row, row_cmp, same_equiv, and-true}
use Rattle.counting_node.proofs.count.itself.Goals as goal

pub returns : goal.returns
returns c value r = ap (λ (row : Row). eq_by_cmp row_cmp r row) c.in_ok-copy.ensures ∙ same_equiv.symm r c.args.row.now ∙ sym (and-true (eq_by_cmp row_cmp c.args.row.now r))
