use Rattle.expiry_infer.proofs.Common.{◌≡◌, true, false, ap, subst, sym, ◌∙◌, Pattern, pattern_of, is_reference, tail, plus, limit_of, IsShortLimit}
use Rattle.expiry_infer.proofs.{Common.{IsSmallLimit, IsWithinNetwork, lent, IfOk, IfSome, is_event, IsReachFound}, Given.{added}, Tops.{top_small, sum_small}}
use Rattle.expiry_infer.proofs.lifetimes.with_added.Goals as goal

pub sum-requires-clause-reach : goal.sum-requires-clause-reach
sum-requires-clause-reach c =
    let size = subst (λ r. IfOk r (λ found. IfSome found IsWithinNetwork)) c.in_ok-distance.was c.reach.ensures.size in
    subst (λ found. IfSome found IsWithinNetwork) c.in-Some.is size

pub sum-requires-clause-tail : goal.sum-requires-clause-tail
sum-requires-clause-tail c =
    let j = lent c.args.j.now in
    let is = c.tail.ensures ∙ ap (tail c.args.program.now) c.pattern-pattern.ensures in
    subst IsShortLimit (sym is) (c.requires.conditions.tails j.place j.condition c.requires.j)

pub returns-in-Some-clause-top : goal.returns-in-Some-clause-top
returns-in-Some-clause-top c =
    let p = c.args.program.now in
    let conditions = c.args.conditions.now in
    let i = lent c.args.i.now in
    let j = lent c.args.j.now in
    let pattern = c.pattern-pattern.ensures in
    let changes : is_reference p (pattern_of j.condition).ty.0 ≡ false = sym (ap (λ (q : Pattern). is_reference p q.ty.0) pattern) ∙ sym c.is_reference.ensures ∙ c.if-is_reference.false in
    let event : is_event p (pattern_of j.condition).ty.0 ≡ true = sym (ap (λ (q : Pattern). is_event p q.ty.0) pattern) ∙ sym c.is_event.ensures ∙ c.if-not-is_event.false in
    let found = subst (λ r. IfOk r (IsReachFound p conditions i j)) c.in_ok-distance.was (c.reach.ensures.reach i.condition j.condition c.requires.i c.requires.j) in
    added p conditions i j (limit_of c.in-Some.distance) (limit_of c.sum.result) (limit_of c.args.most) (limit_of c.greater.result) changes event (subst (IsReachFound p conditions i j) c.in-Some.is found)
    (c.sum.ensures ∙ ap (plus (limit_of c.in-Some.distance)) (c.tail.ensures ∙ ap (tail p) pattern))
    c.greater.ensures

pub returns-in-Some-clause-small : goal.returns-in-Some-clause-small
returns-in-Some-clause-small c =
    let size = subst (λ r. IfOk r (λ found. IfSome found IsWithinNetwork)) c.in_ok-distance.was c.reach.ensures.size in
    let within = subst (λ found. IfSome found IsWithinNetwork) c.in-Some.is size in
    let j = lent c.args.j.now in
    let is = c.tail.ensures ∙ ap (tail c.args.program.now) c.pattern-pattern.ensures in
    let short = subst IsShortLimit (sym is) (c.requires.conditions.tails j.place j.condition c.requires.j) in
    top_small (λ l. l ≡ limit_of c.sum.result) (limit_of c.args.most) (limit_of c.greater.result) c.greater.ensures
    (λ l e. subst IsSmallLimit (sym (e ∙ c.sum.ensures)) (sum_small c.in-Some.distance (limit_of c.tail.result) within short))
