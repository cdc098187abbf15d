use Rattle.script_read.proofs.{Common.{◌∙◌, sym, ap, nat_cmp, slice_cmp}, Rising.{all_before, less_of}}
use Rattle.script_read.proofs.tree.is_last.Goals as goal

pub returns-in-Some : goal.returns-in-Some
returns-in-Some c is rising =
    all_before c.args.fields.now c.args.name.now c.in-Some.last.now rising c.in-Some.ensures.item.3.0 c.in-Some.ensures.item.3.1
    (sym (ap (λ n. slice_cmp nat_cmp n c.args.name.now) c.as_str.ensures) ∙ sym c.cmp.ensures ∙ less_of c.cmp.result (sym c.is_lt.ensures ∙ is))
