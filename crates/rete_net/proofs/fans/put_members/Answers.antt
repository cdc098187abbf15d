use Rattle.rete_net.proofs.{Common.{◌≡◌, ◌∙◌, sym, ap, true, false, ℕ, List, is_in}, Fanned.{told_none}}
use Rattle.rete_net.proofs.fans.put_members.Goals as goal

pub returns-clause-woken : goal.returns-clause-woken
returns-clause-woken c m k there out = told_none c.args.halves.now m (λ named. let no : true ≡ false = sym (c.loop-member.invariant.woken m k named there (ap (λ (places : List ℕ). is_in places m) c.in-None.ensures.steps.0)) ∙ out in cc)
