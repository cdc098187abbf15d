use Rattle.change_resolve.proofs.{Common.{sym}, Merging.{given_at}}
use Rattle.change_resolve.proofs.merge.given_near.Goals as goal

pub returns-in-Some : goal.returns-in-Some
returns-in-Some c =
    let m = c.index-members-place.result in
    sym (given_at c.args.members.now c.in-Some.place m c.args.name.now c.requires c.in-Some.ensures.within (c.in-Some.ensures.named m))
