use Rattle.{subrules.{proofs.{Common.{◌&&◌, ◌∙◌, nat_lt, sym, ap, subst}, KnownLaws.{many_counted}}, specs.Known.{IsCount}}, std.specs.Prelude.{IfSome}}
use Rattle.subrules.proofs.type_faults.exceeds.Goals as goal

pub returns-then-is_some : goal.returns-then-is_some
returns-then-is_some c =
    let count = subst (λ o. IfSome o (λ n. IsCount c.args.types.now c.args.tree.now n)) c.in-Some.is c.requires in
    ap (λ b. b && nat_lt 32 c.in-Some.count) (sym c.if-is_some.true ∙ c.is_some.ensures) ∙ many_counted c.args.types.now c.args.tree.now c.in-Some.count count
