use Rattle.{rule_eval.proofs.{Common.{◌∙◌, sym, ap, nat_lt, lent, is_behind}, Counted.{count_lent}}, rule_model.specs.declared.condition.WindowTag.{WindowTag}}
use Rattle.rule_model.specs.Candidates.{is_inside as is_inside_of}
use Rattle.rule_eval.proofs.finder.Finder.is_inside.Goals as goal

pub returns-in-Length : goal.returns-in-Length
returns-in-Length c =
    let p = c.args.self.now.program.now in
    let q = c.args.pattern.now in
    let clock = c.args.self.now.moment.now.clock in
    ap (λ n. nat_lt n c.in-Length.count) (c.count_behind.ensures ∙ sym (count_lent (is_behind p q clock c.args.fact.now) c.args.facts.now))
    ∙ ap (λ (w : WindowTag). is_inside_of p q w clock (lent c.args.facts.now) c.args.fact.now) (sym c.in-Length.is)
