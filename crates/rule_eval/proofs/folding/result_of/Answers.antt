use Rattle.rule_eval.proofs.Common.{◌≡◌, ◌+◌, ◌++◌, ◌∷◌, [], map, length, drop, to_z, of_z, sym, ◌∙◌, ap, subst, arith, ints, append-nil, HaveSame}
use Rattle.{rule_eval.proofs.{Common.{insert_rising, lent, w64}, Folds.{taken}}, fold_fn.{specs.Results.{fold_result}, proofs.ResultLemmas.{length-insert}}}
use Rattle.{fold_fn.proofs.ResultLemmas.{result_same}, rule_model.specs.Rows.{argument as argument_of}, fx_base.proofs.Sequences.{drop_at, drop_past}}
use Rattle.rule_eval.proofs.folding.result_of.Goals as goal

pub loop-fact-preserved : goal.loop-fact-preserved
loop-fact-preserved c =
    let facts = c.args.facts.now in
    let arg = argument_of c.args.accumulate.now.arg in
    let i = c.loop-fact.fact-index in
    let held = c.loop-fact.fold.values in
    let rest = map arg (lent (drop (i + 1) facts)) in
    let all = map arg (lent facts) in
    let x = arg c.fact-item.result.now in
    let at : map arg (lent (drop i facts)) ≡ x ∷ rest = ap (λ fs. map arg (lent fs)) (drop_at facts i c.fact-item.result c.loop-fact-test.true c.fact-item.is) in
    let come : HaveSame (held ++ x ∷ rest) all = subst (λ vs. HaveSame (held ++ vs) all) at c.loop-fact.invariant.same in
    let whole : to_z w64 (of_z w64 c.argument.result) ≡ c.argument.result = omega (arith, ints) in
    let new : c.add.new.self.values ≡ insert_rising x held = c.in_ok-add.ensures.ok ∙ ap (λ z. insert_rising z held) (whole ∙ c.argument.ensures) in
    record {
      kind = c.in_ok-add.ensures.kind ∙ c.loop-fact.invariant.kind;
      few = ap (λ vs. length vs) new ∙ length-insert x held ∙ ap (λ n. n + 1) c.loop-fact.invariant.few;
      same = subst (λ vs. HaveSame (vs ++ rest) all) (sym new) (taken x held rest all come);
    }

pub returns : goal.returns
returns c =
    let facts = c.args.facts.now in
    let arg = argument_of c.args.accumulate.now.arg in
    let held = c.loop-fact.fold.values in
    let all = map arg (lent facts) in
    let none : drop c.loop-fact.fact-index facts ≡ [] = drop_past facts c.loop-fact.fact-index (omega arith) in
    let done : HaveSame (held ++ []) all = subst (λ fs. HaveSame (held ++ map arg (lent fs)) all) none c.loop-fact.invariant.same in
    let same : HaveSame held all = subst (λ vs. HaveSame vs all) (append-nil held) done in
    c.result.ensures ∙ ap (λ k. fold_result k held) c.loop-fact.invariant.kind ∙ result_same c.args.accumulate.now.kind held all same
