use Rattle.change_resolve.proofs.{Common.{rules, of_calls, slice_cmp, nat_cmp}, Merging.{Member, equal_is, none_found}}
use Rattle.std.proofs.lemmas.Fn.{always_returns_same}
use Rattle.change_resolve.proofs.merge.searched.Goals as goal

pub returns-in-Ok-clause-named : goal.returns-in-Ok-clause-named
returns-in-Ok-clause-named c d =
    equal_is _ _ (c.in-Ok.ensures.position (λ (m : Member). slice_cmp nat_cmp m.0 c.args.name.now) (always_returns_same _ _ _ (λ a r f k. search (rules, of_calls))) d)

pub returns-in-Err-clause-none : goal.returns-in-Err-clause-none
returns-in-Err-clause-none c is =
    none_found c.args.members.now c.args.name.now c.in-Err.field-0 c.requires
    (c.in-Err.ensures.position (λ (m : Member). slice_cmp nat_cmp m.0 c.args.name.now) (always_returns_same _ _ _ (λ a r f k. search (rules, of_calls))))
