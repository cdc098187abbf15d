use Rattle.beta_node.proofs.Common.{◌≡◌, ◌∙◌, sym, ap, subst, pos, ℤ, ◌+ℤ◌, ◌-ℤ◌, ◌≤ℤ◌, ◌<ℤ◌, ◌^◌, None, IfSome, SFits, w64, to_z-of_z, w128, Pattern}
use Rattle.beta_node.proofs.{Common.{lateness_of, Node, IsBefore, IsDue, IsQuiet}, Quietness.{join_quiet, exists_quiet, fold_quiet, none_due, due_at, if_due}}
use Rattle.beta_node.{proofs.Lending.{join_with, exists_with, not_with, fold_with}, specs.Lending.{with_candidates}}
use Rattle.join_memory.specs.declared.candidates.Candidates.{Candidates}
use Rattle.beta_node.proofs.node.Node.quiet_until.Goals as goal

pub returns-in-Some-clause-quiet : goal.returns-in-Some-clause-quiet
returns-in-Some-clause-quiet c =
    let p = c.args.program.now in
    let told = c.in-Some.ensures in
    let fits : SFits w128 c.in-Some.at = search in
    let small : SFits w64 c.lateness.result = search in
    let reaches = simp to_z-of_z at c.clock_past.ensures.reaches in
    let late = c.lateness.ensures ∙ ap (λ (q : Pattern). lateness_of p q.entry.0) c.pattern.ensures in
    subst (λ (n : Node). IsQuiet p n c.clock_past.result) (sym c.in-Not.is)
    (due_at p c.in-Not.waiting c.clock_past.result c.in-Some.at told.waits.0 told.waits.1 told.least
    (subst (λ (l : ℤ). (clock : ℤ) → pos 0 ≤ℤ (c.in-Some.at +ℤ l) → clock <ℤ pos (2 ^ 63) → IsBefore c.clock_past.result clock → (clock -ℤ l) ≤ℤ c.in-Some.at) late reaches))

pub returns-in-Some-clause-due : goal.returns-in-Some-clause-due
returns-in-Some-clause-due c =
    let p = c.args.program.now in
    let told = c.in-Some.ensures in
    let fits : SFits w128 c.in-Some.at = search in
    let small : SFits w64 c.lateness.result = search in
    let exact = simp to_z-of_z at c.clock_past.ensures.exact in
    let late = c.lateness.ensures ∙ ap (λ (q : Pattern). lateness_of p q.entry.0) c.pattern.ensures in
    subst (λ (n : Node). IfSome c.clock_past.result (λ moment. IsDue p n moment)) (sym c.in-Not.is)
    (if_due p c.in-Not.waiting c.in-Some.at told.waits.0 told.waits.1 c.clock_past.result
    (subst (λ (l : ℤ). IfSome c.clock_past.result (λ moment. moment ≡ (c.in-Some.at +ℤ l) +ℤ pos 1)) late exact))

pub returns-in-None-clause-quiet : goal.returns-in-None-clause-quiet
returns-in-None-clause-quiet c = subst (λ (n : Node). IsQuiet c.args.program.now n None) (sym c.in-Not.is) (none_due c.args.program.now c.in-Not.waiting c.in-None.ensures.least)

pub returns-in-Join-clause-quiet : goal.returns-in-Join-clause-quiet
returns-in-Join-clause-quiet c = subst (λ (n : Node). IsQuiet c.args.program.now n None) (sym c.in-Join.is) (join_quiet c.args.program.now c.in-Join.field-0 None)

pub returns-in-Exists-clause-quiet : goal.returns-in-Exists-clause-quiet
returns-in-Exists-clause-quiet c = subst (λ (n : Node). IsQuiet c.args.program.now n None) (sym c.in-Exists.is) (exists_quiet c.args.program.now c.in-Exists.field-0 None)

pub returns-in-Fold-clause-quiet : goal.returns-in-Fold-clause-quiet
returns-in-Fold-clause-quiet c = subst (λ (n : Node). IsQuiet c.args.program.now n None) (sym c.in-Fold.is) (fold_quiet c.args.program.now c.in-Fold.field-0 None)

pub returns-in-Some-clause-lent : goal.returns-in-Some-clause-lent
returns-in-Some-clause-lent c own =
    let p = c.args.program.now in
    let told = c.in-Some.ensures in
    let fits : SFits w128 c.in-Some.at = search in
    let small : SFits w64 c.lateness.result = search in
    let reaches = simp to_z-of_z at c.clock_past.ensures.reaches in
    let late = c.lateness.ensures ∙ ap (λ (q : Pattern). lateness_of p q.entry.0) c.pattern.ensures in
    subst (λ (n : Node). IsQuiet p (with_candidates own n) c.clock_past.result) (sym c.in-Not.is)
    (due_at p (not_with c.in-Not.waiting own) c.clock_past.result c.in-Some.at told.waits.0 told.waits.1 told.least
    (subst (λ (l : ℤ). (clock : ℤ) → pos 0 ≤ℤ (c.in-Some.at +ℤ l) → clock <ℤ pos (2 ^ 63) → IsBefore c.clock_past.result clock → (clock -ℤ l) ≤ℤ c.in-Some.at) late reaches))

pub returns-in-None-clause-lent : goal.returns-in-None-clause-lent
returns-in-None-clause-lent c own = subst (λ (n : Node). IsQuiet c.args.program.now (with_candidates own n) None) (sym c.in-Not.is) (none_due c.args.program.now (not_with c.in-Not.waiting own) c.in-None.ensures.least)

pub returns-in-Join-clause-lent : goal.returns-in-Join-clause-lent
returns-in-Join-clause-lent c own = subst (λ (n : Node). IsQuiet c.args.program.now (with_candidates own n) None) (sym c.in-Join.is) (join_quiet c.args.program.now (join_with c.in-Join.field-0 own) None)

pub returns-in-Exists-clause-lent : goal.returns-in-Exists-clause-lent
returns-in-Exists-clause-lent c own = subst (λ (n : Node). IsQuiet c.args.program.now (with_candidates own n) None) (sym c.in-Exists.is) (exists_quiet c.args.program.now (exists_with c.in-Exists.field-0 own) None)

pub returns-in-Fold-clause-lent : goal.returns-in-Fold-clause-lent
returns-in-Fold-clause-lent c own = subst (λ (n : Node). IsQuiet c.args.program.now (with_candidates own n) None) (sym c.in-Fold.is) (fold_quiet c.args.program.now (fold_with c.in-Fold.field-0 own) None)
