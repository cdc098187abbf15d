use Rattle.expiry_infer.proofs.Common.{Pattern, finite, limit_of, HaveLives, IsSmallLimit, ◌≡◌, ap, subst, sym, ◌∙◌, lent, HasShortWindow, StandsIn}
use Rattle.{expiry_infer.proofs.Tops.{top_small, span_small, span_whole}, life_edges.proofs.Scopes.{scope_lives, scope_at}}
use Rattle.expiry_infer.proofs.lifetimes.with_pattern.Goals as goal

pub with_all_added-requires-clause-conditions : goal.with_all_added-requires-clause-conditions
with_all_added-requires-clause-conditions c =
    let p = c.args.program.now in
    subst (HaveLives p) (sym c.scope.ensures) (scope_lives p c.args.conditions.now (lent c.args.i.now) c.requires.conditions)

pub with_all_added-requires-clause-i : goal.with_all_added-requires-clause-i
with_all_added-requires-clause-i c =
    let i = lent c.args.i.now in
    subst (λ xs. StandsIn xs i) (sym c.scope.ensures) (scope_at c.args.conditions.now i c.requires.i)

pub returns-in-Time-clause-small : goal.returns-in-Time-clause-small
returns-in-Time-clause-small c =
    let i = lent c.args.i.now in
    let window = sym (ap (λ (q : Pattern). q.window) c.pattern.ensures) ∙ c.in-Time.is in
    let span = subst HasShortWindow window (c.requires.conditions.windows i.place i.condition c.requires.i) in
    top_small (λ l. l ≡ finite _) (limit_of c.args.most) (limit_of c.greater.result) c.greater.ensures (λ l e. subst IsSmallLimit (sym e) (rw (span_whole c.in-Time.span span) (span_small c.in-Time.span span)))
