use Rattle.join_tests.proofs.{Common.{◌∙◌, sym, ap, List, map, JoinKey, join_keys, part, with_slot}, Counting.{are_none, not_none, number_fed}}
use Rattle.join_tests.proofs.keyed.slotted.Goals as goal

pub returns-in-Nothing : goal.returns-in-Nothing
returns-in-Nothing g c =
    ap (λ (keys : List JoinKey). with_slot (map (part (g.F.Facts.map c.args.facts.now) c.args.partner) keys) c.args.slot) (sym (are_none (join_keys c.args.pattern.now) (sym c.in-Nothing.is ∙ c.requires)))

pub returns-in-One : goal.returns-in-One
returns-in-One g c =
    let keys = join_keys c.args.pattern.now in
    c.number_with.ensures
    ∙ number_fed c.parts_fed.result (part (g.F.Facts.map c.args.facts.now) c.args.partner) keys c.args.slot c.parts_fed.ensures (not_none c.args.keying keys c.in-One.is c.requires)
