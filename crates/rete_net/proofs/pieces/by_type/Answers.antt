use Rattle.rete_net.proofs.Common.{◌∙◌, ap, sym, cond, List, [], ◌∷◌, ◌++◌, take_all, filter, Fact, lent, grouped_facts_at, is_fact_of_type}
use Rattle.{rete_net.proofs.Searched.{filter_more}, std.specs.Borrow.{Bor}}
use Rattle.rete_net.proofs.pieces.by_type.Goals as goal

pub loop-fact-init : goal.loop-fact-init
loop-fact-init c ty = ap (λ groups. grouped_facts_at groups ty) c.new-groups.ensures.items

pub loop-fact-preserved : goal.loop-fact-preserved
loop-fact-preserved c ty =
    let f = c.fact-item.result in
    c.in_ok-put_fact.ensures ty ∙ ap (λ (facts : List Fact). facts ++ cond (is_fact_of_type ty f.now) (f.now ∷ []) []) (c.loop-fact.invariant ty)
    ∙ sym (filter_more (is_fact_of_type ty) c.args.kept.now c.loop-fact.fact-index f c.loop-fact-test.true c.fact-item.is)

pub returns : goal.returns
returns c ty = c.loop-fact.invariant ty ∙ ap (λ (facts : List (Bor Fact)). filter (is_fact_of_type ty) (lent facts)) (take_all c.loop-fact.fact-index c.args.kept.now c.loop-fact-test.false)
