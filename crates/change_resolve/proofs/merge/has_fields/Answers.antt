use Rattle.change_resolve.proofs.{Common.{◌∙◌}, Merging.{are_whole}}
use Rattle.change_resolve.proofs.merge.has_fields.Goals as goal

pub returns : goal.returns
returns c =
    c.are_all.ensures
    ∙ are_whole c.args.fields.now c.args.members.now c.deref.result.now c.in_ok-named.all_given (c.deref.ensures.value ∙ c.in_ok-named.ensures.named) c.in_ok-named.ensures.given
