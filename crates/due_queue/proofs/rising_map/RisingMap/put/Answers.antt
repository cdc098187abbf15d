use Rattle.due_queue.{proofs.{Common.{◌≡◌, ◌∙◌, sym, ap, refl, Some, None, true, false, cond, is_at, found}, Entries.{kept_none}}, specs.Rising.{live}}
use Rattle.due_queue.proofs.Together.{in_others, not_others, not_some, in_other, both_change, stay_apart}
use Rattle.due_queue.proofs.rising_map.RisingMap.put.Goals as goal

pub invariant_of-self-then-branch : goal.invariant_of-self-then-branch
invariant_of-self-then-branch g c = (
  c.in_ok-push.ensures.stands,
  stay_apart g.K.Ord.cmp (live c.self.inside.rising.entries.items) c.self.inside.others (live c.push.new.self.entries.items) c.cancel.new.self c.args.key (Some (c.args.at, c.args.value)) None
      (c.in_ok-push.ensures.put c.if-branch.true) c.cancel.ensures.kept c.self.invariant.1 (λ e. refl),
)

pub returns-then-branch-clause-before : goal.returns-then-branch-clause-before
returns-then-branch-clause-before g c =
    c.cancel.ensures.before ∙ sym (in_others g.K.Ord.cmp (live c.self.inside.rising.entries.items) c.self.inside.others c.args.key (c.in_ok-push.ensures.absent c.if-branch.true))
    ∙ ap (λ waiting. found g.K.Ord.cmp waiting c.args.key) c.self.view_is

pub returns-then-branch-clause-kept : goal.returns-then-branch-clause-kept
returns-then-branch-clause-kept g c k =
    both_change g.K.Ord.cmp (live c.self.inside.rising.entries.items) c.self.inside.others (live c.push.new.self.entries.items) c.cancel.new.self c.args.key (Some (c.args.at, c.args.value)) None
    (c.in_ok-push.ensures.put c.if-branch.true) c.cancel.ensures.kept k
    ∙ ap (λ waiting. cond (is_at (g.K.Ord.cmp c.args.key) k) (Some (c.args.at, c.args.value)) (found g.K.Ord.cmp waiting k)) c.self.view_is

pub invariant_of-self-in-Some : goal.invariant_of-self-in-Some
invariant_of-self-in-Some g c =
    let waits = sym (sym c.in-Some.is ∙ c.in_ok-before.ensures.before) in (
      c.in_ok-push.ensures.stands,
      stay_apart g.K.Ord.cmp (live c.self.inside.rising.entries.items) c.self.inside.others (live c.push.new.self.entries.items) c.put.new.self c.args.key None (Some (c.args.at, c.args.value))
          (λ k. ap (λ entries. found g.K.Ord.cmp (live entries) k) (c.in_ok-push.ensures.unchanged c.if-branch.false)
          ∙ kept_none g.met.M.Ord.total g.met.K.Ord.total (live c.self.inside.rising.entries.items) c.args.key (not_some g.K.Ord.cmp (live c.self.inside.rising.entries.items) c.self.inside.others c.args.key c.in-Some.before c.self.invariant.1 waits) k)
          c.in_ok-before.ensures.kept c.self.invariant.1 (λ e. let f : false ≡ true = e in absurd (cc)),
    )

pub invariant_of-self-in-None : goal.invariant_of-self-in-None
invariant_of-self-in-None g c = (
  c.cancel-in-None.ensures.stands,
  stay_apart g.K.Ord.cmp (live c.self.inside.rising.entries.items) c.self.inside.others (live c.cancel-in-None.new.self.entries.items) c.put.new.self c.args.key None (Some (c.args.at, c.args.value))
      (λ k. c.cancel-in-None.ensures.kept k ∙ ap (λ entries. cond (is_at (g.K.Ord.cmp c.args.key) k) None (found g.K.Ord.cmp (live entries) k)) (c.in_ok-push.ensures.unchanged c.if-branch.false))
      c.in_ok-before.ensures.kept c.self.invariant.1 (λ e. let f : false ≡ true = e in absurd (cc)),
)

pub returns-in-Some-clause-before : goal.returns-in-Some-clause-before
returns-in-Some-clause-before g c =
    let waits = sym (sym c.in-Some.is ∙ c.in_ok-before.ensures.before) in
    sym (sym (ap (λ waiting. found g.K.Ord.cmp waiting c.args.key) c.self.view_is)
    ∙ in_other g.K.Ord.cmp (live c.self.inside.rising.entries.items) c.self.inside.others c.args.key c.in-Some.before c.self.invariant.1 waits)

pub returns-in-Some-clause-kept : goal.returns-in-Some-clause-kept
returns-in-Some-clause-kept g c k =
    let waits = sym (sym c.in-Some.is ∙ c.in_ok-before.ensures.before) in
    both_change g.K.Ord.cmp (live c.self.inside.rising.entries.items) c.self.inside.others (live c.push.new.self.entries.items) c.put.new.self c.args.key None (Some (c.args.at, c.args.value))
    (λ k. ap (λ entries. found g.K.Ord.cmp (live entries) k) (c.in_ok-push.ensures.unchanged c.if-branch.false)
    ∙ kept_none g.met.M.Ord.total g.met.K.Ord.total (live c.self.inside.rising.entries.items) c.args.key (not_some g.K.Ord.cmp (live c.self.inside.rising.entries.items) c.self.inside.others c.args.key c.in-Some.before c.self.invariant.1 waits) k)
    c.in_ok-before.ensures.kept k
    ∙ ap (λ waiting. cond (is_at (g.K.Ord.cmp c.args.key) k) (Some (c.args.at, c.args.value)) (found g.K.Ord.cmp waiting k)) c.self.view_is

pub returns-in-None-clause-before : goal.returns-in-None-clause-before
returns-in-None-clause-before g c =
    c.cancel-in-None.ensures.before ∙ ap (λ entries. found g.K.Ord.cmp (live entries) c.args.key) (c.in_ok-push.ensures.unchanged c.if-branch.false)
    ∙ sym (not_others g.K.Ord.cmp (live c.self.inside.rising.entries.items) c.self.inside.others c.args.key (sym (sym c.in-None.is ∙ c.in_ok-before.ensures.before)))
    ∙ ap (λ waiting. found g.K.Ord.cmp waiting c.args.key) c.self.view_is

pub returns-in-None-clause-kept : goal.returns-in-None-clause-kept
returns-in-None-clause-kept g c k =
    both_change g.K.Ord.cmp (live c.self.inside.rising.entries.items) c.self.inside.others (live c.cancel-in-None.new.self.entries.items) c.put.new.self c.args.key None (Some (c.args.at, c.args.value))
    (λ k. c.cancel-in-None.ensures.kept k ∙ ap (λ entries. cond (is_at (g.K.Ord.cmp c.args.key) k) None (found g.K.Ord.cmp (live entries) k)) (c.in_ok-push.ensures.unchanged c.if-branch.false))
    c.in_ok-before.ensures.kept k
    ∙ ap (λ waiting. cond (is_at (g.K.Ord.cmp c.args.key) k) (Some (c.args.at, c.args.value)) (found g.K.Ord.cmp waiting k)) c.self.view_is
