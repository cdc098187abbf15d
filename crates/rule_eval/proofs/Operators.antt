-- The temporal tests of a rule have operators.
use Rattle.rule_eval.proofs.Common.{◌≡◌, ◌<◌, ℕ, zero, suc, List, [], ◌∷◌, length, get_or, sym, subst, arith, Rule, HaveOperators, UseOperators}

pub operators_at : (rules : List Rule) (k : ℕ) (rule : Rule) → UseOperators rules → k < length rules → rule ≡ get_or rules k rule → HaveOperators rule.conditions
operators_at [] k rule h lt is = absurd (omega arith)
operators_at (r ∷ rules) zero rule h lt is = subst (λ (r : Rule). HaveOperators r.conditions) (sym is) h.0
operators_at (r ∷ rules) (suc k) rule h lt is = operators_at rules k rule h.1 (omega arith) is
