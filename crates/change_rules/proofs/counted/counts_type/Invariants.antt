use Rattle.{change_rules.proofs.Common.{counts_type, drop, list_any, ◌≡◌}, rule_model.specs.{Rows.{pattern_of}, Simple.{observes}}}
use Rattle.{rule_model.specs.declared.condition.Condition.{Condition}, std.proofs.Common.{◌&&◌, ◌==◌}}
use Rattle.change_rules.proofs.counted.counts_type.Given as goal

abbrev pub invariant-loop-condition : goal.invariant-loop-condition
invariant-loop-condition l = list_any (λ (c : Condition). observes c && (pattern_of c).ty.0 == l.ty) (drop l.condition-index l.rule.conditions) ≡ counts_type l.ty l.rule
