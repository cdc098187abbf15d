use Rattle.due_queue.proofs.{Common.{◌∙◌, sym, ap, refl, None, cond, is_at, found}, Entries.{kept_none}, Together.{in_some, in_others, not_other, both_change}}
use Rattle.due_queue.{proofs.Together.{stay_apart}, specs.Rising.{live}}
use Rattle.due_queue.proofs.rising_map.RisingMap.cancel.Goals as goal

pub invariant_of-self : goal.invariant_of-self
invariant_of-self g c = (
  c.in-Some.ensures.stands,
  stay_apart g.K.Ord.cmp (live c.self.inside.rising.entries.items) c.self.inside.others (live c.cancel.new.self.entries.items) c.self.inside.others c.args.key None None c.in-Some.ensures.kept
      (kept_none g.met.M.Ord.total g.met.K.Ord.total c.self.inside.others c.args.key
      (not_other g.K.Ord.cmp (live c.self.inside.rising.entries.items) c.self.inside.others c.args.key c.in-Some.one c.self.invariant.1 (sym c.in-Some.ensures.before))) c.self.invariant.1 (λ e. refl),
)

pub invariant_of-self-in-None : goal.invariant_of-self-in-None
invariant_of-self-in-None g c = (
  c.in-None.ensures.stands,
  stay_apart g.K.Ord.cmp (live c.self.inside.rising.entries.items) c.self.inside.others (live c.cancel.new.self.entries.items) c.cancel-in-None.new.self c.args.key None None c.in-None.ensures.kept
      c.cancel-in-None.ensures.kept c.self.invariant.1 (λ e. refl),
)

pub returns-in-Some-clause-before : goal.returns-in-Some-clause-before
returns-in-Some-clause-before g c =
    sym (sym (ap (λ waiting. found g.K.Ord.cmp waiting c.args.key) c.self.view_is)
    ∙ in_some g.K.Ord.cmp (live c.self.inside.rising.entries.items) c.self.inside.others c.args.key c.in-Some.one (sym c.in-Some.ensures.before))

pub returns-in-Some-clause-kept : goal.returns-in-Some-clause-kept
returns-in-Some-clause-kept g c k =
    both_change g.K.Ord.cmp (live c.self.inside.rising.entries.items) c.self.inside.others (live c.cancel.new.self.entries.items) c.self.inside.others c.args.key None None c.in-Some.ensures.kept
    (kept_none g.met.M.Ord.total g.met.K.Ord.total c.self.inside.others c.args.key
    (not_other g.K.Ord.cmp (live c.self.inside.rising.entries.items) c.self.inside.others c.args.key c.in-Some.one c.self.invariant.1 (sym c.in-Some.ensures.before))) k
    ∙ ap (λ waiting. cond (is_at (g.K.Ord.cmp c.args.key) k) None (found g.K.Ord.cmp waiting k)) c.self.view_is

pub returns-in-None-clause-before : goal.returns-in-None-clause-before
returns-in-None-clause-before g c =
    c.cancel-in-None.ensures.before ∙ sym (in_others g.K.Ord.cmp (live c.self.inside.rising.entries.items) c.self.inside.others c.args.key (sym c.in-None.ensures.before))
    ∙ ap (λ waiting. found g.K.Ord.cmp waiting c.args.key) c.self.view_is

pub returns-in-None-clause-kept : goal.returns-in-None-clause-kept
returns-in-None-clause-kept g c k =
    both_change g.K.Ord.cmp (live c.self.inside.rising.entries.items) c.self.inside.others (live c.cancel.new.self.entries.items) c.cancel-in-None.new.self c.args.key None None c.in-None.ensures.kept c.cancel-in-None.ensures.kept k
    ∙ ap (λ waiting. cond (is_at (g.K.Ord.cmp c.args.key) k) None (found g.K.Ord.cmp waiting k)) c.self.view_is
