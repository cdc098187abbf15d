use Rattle.session.proofs.Common.{◌≡◌, ◌∙◌, ◌≤◌, ◌+◌, true, arith, sym, ap, subst, ∥∥₁_map, are_known, Contents, Memory, Setting, gives_in, newest, IsSound}
use Rattle.session.proofs.Common.{Standing, asked_known, change_lines, change_stands}
use Rattle.session.proofs.session.Session.apply.Goals as goal

pub apply-requires-clause-low : goal.apply-requires-clause-low
apply-requires-clause-low c = omega (arith, c.requires, ap (λ (k : Contents). k.next_tag) c.deref_mut-kept.ensures.value)

pub returns-clause-lines : goal.returns-clause-lines
returns-clause-lines c w s =
    let m = c.deref_mut.result.now in
    let k = c.deref_mut-kept.result.now in
    let same_state = subst (λ (z : Contents). Standing c.args.self.setting c.args.self.memory.value z w) (sym c.deref_mut-kept.ensures.value) s in
    let here : Standing c.args.self.setting m k w = subst (λ (n : Memory). Standing c.args.self.setting n k w) (sym c.deref_mut.ensures.value) same_state in
    let z = c.setting-inside.result.now in
    let same = c.setting-inside.ensures.same in
    let taken = simp c.new-lines.ensures.items at c.in_ok-apply.ensures.lines in
    c.from_vec.ensures
    ∙ change_lines z m k c.setting-inside.ensures.runs c.args.change.now c.in_ok-asked.asked c.in_ok-asked.ensures w (subst (λ (x : Setting). Standing x m k w) (sym same) here) c.apply.new.lines.items taken
    ∙ ap (λ (x : Setting). (gives_in x.detail x.program w c.args.change.now).0) same

pub returns-clause-next : goal.returns-clause-next
returns-clause-next c w s =
    let m = c.deref_mut.result.now in
    let k = c.deref_mut-kept.result.now in
    let same_state = subst (λ (z : Contents). Standing c.args.self.setting c.args.self.memory.value z w) (sym c.deref_mut-kept.ensures.value) s in
    let here : Standing c.args.self.setting m k w = subst (λ (n : Memory). Standing c.args.self.setting n k w) (sym c.deref_mut.ensures.value) same_state in
    let z = c.setting-inside.result.now in
    let same = c.setting-inside.ensures.same in
    subst (λ (x : Setting). Standing x c.apply.new.memory c.apply.new.self (gives_in x.detail x.program w c.args.change.now).1) same
    (change_stands z m k c.setting-inside.ensures.runs c.args.change.now c.in_ok-asked.asked c.in_ok-asked.ensures w (subst (λ (x : Setting). Standing x m k w) (sym same) here) c.apply.new.memory c.apply.new.self c.in_ok-apply.ensures.stands)

pub returns-clause-known : goal.returns-clause-known
returns-clause-known c =
    let z = c.setting-inside.result.now in
    let k = c.deref_mut-kept.result.now in
    let known = asked_known z.program k.course.begun (newest k) c.args.change.now c.in_ok-asked.asked c.setting-inside.ensures.runs.runnable c.in_ok-asked.ensures in
    rw c.from_vec.ensures
    (subst (λ (x : Setting). are_known x.program c.apply.new.lines.items ≡ true) c.setting-inside.ensures.same
    (c.in_ok-apply.ensures.known known (ap (are_known z.program) c.new-lines.ensures.items)))

pub returns-clause-tags : goal.returns-clause-tags
returns-clause-tags c = subst (λ (z : Contents). c.apply.new.self.next_tag ≤ z.next_tag + 1) c.deref_mut-kept.ensures.value c.in_ok-apply.ensures.tags

pub invariant_of-result : goal.invariant_of-result
invariant_of-result c =
    let m = c.deref_mut.result.now in
    let k = c.deref_mut-kept.result.now in
    let same_state = subst (λ (z : Contents). ∥ IsSound c.args.self.setting.program c.args.self.memory.value z ∥₁) (sym c.deref_mut-kept.ensures.value) c.args.self.sound in
    let sound : ∥ IsSound c.args.self.setting.program m k ∥₁ = subst (λ (n : Memory). ∥ IsSound c.args.self.setting.program n k ∥₁) (sym c.deref_mut.ensures.value) same_state in
    let same = c.setting-inside.ensures.same in
    let known = asked_known c.setting-inside.result.now.program k.course.begun (newest k) c.args.change.now c.in_ok-asked.asked c.setting-inside.ensures.runs.runnable c.in_ok-asked.ensures in
    record {
      sound =
          subst (λ (x : Setting). ∥ IsSound x.program c.apply.new.memory c.apply.new.self ∥₁) same
          (∥∥₁_map (subst (λ (x : Setting). ∥ IsSound x.program m k ∥₁) (sym same) sound) (c.in_ok-apply.ensures.sound known));
    }
