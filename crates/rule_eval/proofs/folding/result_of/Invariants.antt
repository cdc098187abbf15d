use Rattle.rule_eval.proofs.Common.{◌≡◌, ◌++◌, map, length, drop, HaveSame, lent, argument}
use Rattle.rule_eval.proofs.folding.result_of.Given as goal

abbrev pub invariant-loop-fact : goal.invariant-loop-fact
invariant-loop-fact l = record {
  kind : l.fold.kind ≡ l.accumulate.kind;
  few : length l.fold.values ≡ l.fact-index;
  same : HaveSame (l.fold.values ++ map (argument l.accumulate.arg) (lent (drop l.fact-index l.facts))) (map (argument l.accumulate.arg) (lent l.facts));
}
