use Rattle.join_tests.proofs.{Common.{◌∙◌, sym, ap, List, map, Value, JoinKey, join_keys, part, with_slot, once}, Counting.{are_none, not_none, number_fed}}
use Rattle.join_tests.proofs.keyed.both_slotted.Goals as goal

pub returns-in-Nothing : goal.returns-in-Nothing
returns-in-Nothing g c =
    let parts = part (g.F.Facts.map c.args.facts.now) c.args.partner in
    c.once.ensures
    ∙ ap (λ (keys : List JoinKey). once (with_slot (map parts keys) c.args.first) (with_slot (map parts keys) c.args.last)) (sym (are_none (join_keys c.args.pattern.now) (sym c.in-Nothing.is ∙ c.requires)))

pub returns : goal.returns
returns g c =
    let parts = part (g.F.Facts.map c.args.facts.now) c.args.partner in
    let keys = join_keys c.args.pattern.now in
    let some = not_none c.args.keying keys c.in-One.is c.requires in
    let first = c.number_with.ensures ∙ number_fed c.parts_fed-fed.result parts keys c.args.first c.parts_fed-fed.ensures some in
    let last = c.number_with-in-One.ensures ∙ number_fed c.parts_fed-fed.result parts keys c.args.last c.parts_fed-fed.ensures some in
    c.once-in-One.ensures
    ∙ ap (λ (v : Value). once v c.number_with-in-One.result) first
    ∙ ap (λ (v : Value). once (with_slot (map parts keys) c.args.first) v) last
