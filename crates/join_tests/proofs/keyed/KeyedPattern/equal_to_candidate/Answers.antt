use Rattle.join_tests.proofs.{Common.{◌∙◌, sym, ap, List, map, Pattern, JoinKey, join_keys, candidate_part, as_one}, Counting.{are_none, of_candidate}}
use Rattle.join_tests.proofs.keyed.KeyedPattern.equal_to_candidate.Goals as goal

pub returns-in-Nothing : goal.returns-in-Nothing
returns-in-Nothing g c =
    let look = g.F.Facts.map c.args.facts.now in
    ap (λ (keys : List JoinKey). as_one (map (candidate_part look c.args.who) keys)) (sym (are_none (join_keys c.self.inside.pattern) (sym c.in-Nothing.is ∙ c.self.invariant.0)))
    ∙ ap (λ (p : Pattern). as_one (map (candidate_part look c.args.who) (join_keys p))) c.self.view_is

pub returns-in_default : goal.returns-in_default
returns-in_default g c =
    let look = g.F.Facts.map c.args.facts.now in
    c.value_of.ensures ∙ ap as_one (of_candidate look c.args.who c.fact-fact.result (join_keys c.self.inside.pattern) c.fact-fact.ensures)
    ∙ ap (λ (p : Pattern). as_one (map (candidate_part look c.args.who) (join_keys p))) c.self.view_is
