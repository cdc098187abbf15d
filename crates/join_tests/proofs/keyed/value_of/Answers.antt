use Rattle.join_tests.proofs.{Common.{◌∙◌, sym, ap, List, map, JoinKey, join_keys, as_one, part}, Counting.{are_none, are_one, are_several}}
use Rattle.join_tests.proofs.keyed.value_of.Goals as goal

pub returns-in-Nothing : goal.returns-in-Nothing
returns-in-Nothing g c =
    ap (λ (keys : List JoinKey). as_one (map (part (g.F.Facts.map c.args.facts.now) c.args.partner) keys)) (sym (are_none (join_keys c.args.pattern.now) (sym c.in-Nothing.is ∙ c.requires)))

pub returns-in-One : goal.returns-in-One
returns-in-One g c =
    c.part_of.ensures
    ∙ ap (λ (keys : List JoinKey). as_one (map (part (g.F.Facts.map c.args.facts.now) c.args.partner) keys)) (sym (are_one (join_keys c.args.pattern.now) c.in-One.key (sym c.in-One.is ∙ c.requires)))

pub returns-in-Several : goal.returns-in-Several
returns-in-Several g c =
    c.number_of.ensures ∙ sym (are_several (part (g.F.Facts.map c.args.facts.now) c.args.partner) (join_keys c.args.pattern.now) (sym c.in-Several.is ∙ c.requires))
