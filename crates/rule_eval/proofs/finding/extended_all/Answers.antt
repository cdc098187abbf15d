use Rattle.rule_eval.proofs.{Common.{◌≡◌, ◌++◌, ◌∙◌, ap, filter, flat_map, passes, lent, pattern_of, made_by, over}, Stepwise.{all_made}}
use Rattle.rule_model.specs.Candidates.{candidates as candidates_of}
use Rattle.rule_eval.proofs.finding.extended_all.Goals as goal

pub returns : goal.returns
returns c =
    let p = c.args.finder.now.program.now in
    let facts = lent c.args.facts.now in
    let m = c.args.finder.now.moment.now in
    let s = over facts m in
    let found = lent c.deref.result.now in
    let same : found ≡ candidates_of p (pattern_of c.args.condition.now) s = ap lent c.deref.ensures.value ∙ c.in_ok-candidates.ensures ∙ ap (λ q. candidates_of p q s) c.pattern.ensures in
    c.in_ok-extend_all.ensures
    ∙ ap (λ us. us ++ flat_map (λ t. made_by p m c.args.condition.now t (filter (passes (pattern_of c.args.condition.now) t) found)) c.args.all.now) c.new-next.ensures.items
    ∙ all_made p facts m c.args.condition.now found c.args.all.now same
