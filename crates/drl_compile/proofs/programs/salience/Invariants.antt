use Rattle.drl_compile.proofs.Common.{◌≡◌, drop, salience_meant}
use Rattle.drl_compile.proofs.programs.salience.Given as goal

abbrev pub invariant-loop-attr : goal.invariant-loop-attr
invariant-loop-attr l = salience_meant (drop l.attr-index l.attrs) ≡ salience_meant l.attrs
