use Rattle.session.proofs.Common.{◌≡◌, true, sym, ap, subst, ∥∥₁_map, are_known, Setting, fires_in, IsSound, Standing, merely_known, line_known, top_known}
use Rattle.{session.proofs.Common.{fires_none, fires_some}, engine.specs.Answers.{FiringAnswers}, answer_lines.specs.declared.lines.Fired.TheVariants.{No, Yes}}
use Rattle.session.proofs.session.Session.fire_one.Goals as goal

pub returns-in-None-clause-answers : goal.returns-in-None-clause-answers
returns-in-None-clause-answers c w s =
    let m = c.args.self.memory.value in
    let k = c.args.self.state.value in
    let z = c.setting-inside.result.now in
    let same = c.setting-inside.ensures.same in
    let none = simp (c.in-None.is, c.deref.ensures) at c.in_ok-firing.ensures.plan in
    subst (λ (x : Setting). FiringAnswers (fires_in x.detail x.program w) No w (Standing x m k)) same (fires_none z m k w (subst (λ (x : Setting). Standing x m k w) (sym same) s) none)

pub returns-in_ok-fire-in-Some-clause-answers : goal.returns-in_ok-fire-in-Some-clause-answers
returns-in_ok-fire-in-Some-clause-answers c w s =
    let m = c.args.self.memory.value in
    let k = c.args.self.state.value in
    let n = c.fire.new.memory in
    let t = c.fire.new.self in
    let z = c.setting-inside.result.now in
    let same = c.setting-inside.ensures.same in
    let lines = c.fire.new.lines.items in
    let says = simp (c.in-Some.is, c.deref.ensures) at c.in_ok-firing.ensures.line in
    let planned = simp (c.in-Some.is, c.deref.ensures) at c.in_ok-firing.ensures.plan in
    let written = simp (c.new-lines.ensures.items, c.deref_mut-kept.ensures.value, c.deref_mut.ensures.value) at c.in_ok-fire-in-Some.ensures.lines in
    let stands = simp (c.deref_mut-kept.ensures.value, c.deref_mut.ensures.value) at c.in_ok-fire-in-Some.ensures.stands in
    rw c.from_vec.ensures
    (subst (λ (x : Setting). FiringAnswers (fires_in x.detail x.program w) (Yes lines) w (Standing x n t)) same
    (fires_some z m k w (subst (λ (x : Setting). Standing x m k w) (sym same) s) c.setting-inside.ensures.runs n t c.in-Some.firing.line c.in-Some.firing.plan.items lines says planned stands written))

pub returns-in_ok-fire-in-Some-clause-known : goal.returns-in_ok-fire-in-Some-clause-known
returns-in_ok-fire-in-Some-clause-known c =
    let m = c.args.self.memory.value in
    let k = c.args.self.state.value in
    let z = c.setting-inside.result.now in
    let same = c.setting-inside.ensures.same in
    let lines = c.fire.new.lines.items in
    let says = simp (c.in-Some.is, c.deref.ensures) at c.in_ok-firing.ensures.line in
    let planned = simp (c.in-Some.is, c.deref.ensures) at c.in_ok-firing.ensures.plan in
    let known = c.in_ok-fire-in-Some.ensures.known in
    rw c.from_vec.ensures
    (subst (λ (x : Setting). are_known x.program lines ≡ true) same
    (merely_known z.program m k (subst (λ (x : Setting). ∥ IsSound x.program m k ∥₁) (sym same) c.args.self.sound) lines
    (λ sound. known (line_known z m k c.in-Some.firing.line sound says) (top_known z.program k c.in-Some.firing.plan.items c.setting-inside.ensures.runs.runnable planned) (ap (are_known z.program) c.new-lines.ensures.items))))

pub invariant_of-result : goal.invariant_of-result
invariant_of-result c =
    let m = c.args.self.memory.value in
    let k = c.args.self.state.value in
    let same = c.setting-inside.ensures.same in
    let planned = simp (c.in-Some.is, c.deref.ensures) at c.in_ok-firing.ensures.plan in
    let stays = simp (c.deref_mut-kept.ensures.value, c.deref_mut.ensures.value) at c.in_ok-fire-in-Some.ensures.sound in
    record {
      sound =
          subst (λ (x : Setting). ∥ IsSound x.program c.fire.new.memory c.fire.new.self ∥₁) same
          (∥∥₁_map (subst (λ (x : Setting). ∥ IsSound x.program m k ∥₁) (sym same) c.args.self.sound) (stays (top_known c.setting-inside.result.now.program k c.in-Some.firing.plan.items c.setting-inside.ensures.runs.runnable planned)));
    }
