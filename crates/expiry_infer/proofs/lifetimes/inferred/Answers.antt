use Rattle.expiry_infer.proofs.Common.{◌≡◌, ◌<◌, ℕ, Some, List, length, get_or, refl, subst, sym, slice_get, slice_get_read, Condition, Rule, in_place}
use Rattle.expiry_infer.proofs.{Common.{HaveLives, limit_of, GivesAt, Among, IsTop}, Given.{is_life}, Tops.{top_next}}
use Rattle.life_edges.proofs.Runnable.{rule_has_lives}
use Rattle.expiry_infer.proofs.lifetimes.inferred.Goals as goal

-- the rule that was read stands among the rules
there : (rules xs : List Rule) (place : ℕ) (rule : Rule) → xs ≡ rules → place < length xs → rule ≡ get_or xs place rule → slice_get rules place ≡ Some rule
there rules xs place rule e h is = subst (λ (ys : List Rule). slice_get ys place ≡ Some rule) e (slice_get_read xs _ place rule refl h is)

pub with_rule-requires : goal.with_rule-requires
with_rule-requires c =
    let at = there _ _ _ _ c.as_slice-rule-items.ensures c.loop-rule-test.true c.rule-item.is in
    subst (HaveLives c.args.program.now) (sym c.as_slice.ensures) (rule_has_lives c.args.program.now c.requires.runnable _ (in_place _ _ _ at))

pub loop-rule-preserved : goal.loop-rule-preserved
loop-rule-preserved c =
    let at = there _ _ _ _ c.as_slice-rule-items.ensures c.loop-rule-test.true c.rule-item.is in
    record {
      top = top_next _ _ _ _ _ _ _ at c.loop-rule.invariant.top
          (subst (λ (cs : List Condition). IsTop (Among cs (GivesAt c.args.program.now cs c.args.ty) (length cs)) (limit_of c.loop-rule.most) (limit_of c.in_ok-most.most)) c.as_slice.ensures c.in_ok-most.ensures.top);
      small = c.in_ok-most.ensures.small c.loop-rule.invariant.small;
    }

pub returns-clause-life : goal.returns-clause-life
returns-clause-life c = is_life _ _ _ _ c.requires.event c.requires.unexpired (simp c.as_slice-rule-items.ensures at c.loop-rule-test.false) c.loop-rule.invariant.top
