use Rattle.session.proofs.Common.{◌≡◌, ◌∙◌, ap, nat_eq, rules, list_any, same_tags}
use Rattle.session.proofs.settling.tags_of.Goals as goal

pub returns : goal.returns
returns c tag =
    let same : c.in_ok-collect.field-0.items ≡ c.args.set.now.keys = search rules in
    ap (list_any (nat_eq tag)) same ∙ same_tags tag c.args.set.now.keys
