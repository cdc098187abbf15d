use Rattle.change_resolve.proofs.{Common.{◌∙◌, sym, Some, None}, Merging.{are_part, no_fields, some_fields}}
use Rattle.change_resolve.proofs.merge.modified.Goals as goal

pub returns-then-not-are_some : goal.returns-then-not-are_some
returns-then-not-are_some c =
    no_fields c.args.id c.args.fields.now c.args.members.now
    (sym (c.are_some.ensures ∙ are_part c.args.fields.now c.args.members.now c.deref.result.now (c.deref.ensures.value ∙ c.in_ok-named.ensures.named)) ∙ c.if-not-are_some.true)

pub returns-in-Some : goal.returns-in-Some
returns-in-Some c =
    some_fields c.args.id c.args.fields.now c.args.members.now (Some c.in-Some.sets)
    (sym (c.are_some.ensures ∙ are_part c.args.fields.now c.args.members.now c.deref.result.now (c.deref.ensures.value ∙ c.in_ok-named.ensures.named)) ∙ c.if-not-are_some.false)
    (sym c.in-Some.is ∙ c.in_ok-sets.ensures c.args.fields.now (c.deref-2.ensures.value ∙ c.in_ok-named.ensures.named))

pub returns : goal.returns
returns c =
    some_fields c.args.id c.args.fields.now c.args.members.now None
    (sym (c.are_some.ensures ∙ are_part c.args.fields.now c.args.members.now c.deref.result.now (c.deref.ensures.value ∙ c.in_ok-named.ensures.named)) ∙ c.if-not-are_some.false)
    (sym c.in-None.is ∙ c.in_ok-sets.ensures c.args.fields.now (c.deref-2.ensures.value ∙ c.in_ok-named.ensures.named))
