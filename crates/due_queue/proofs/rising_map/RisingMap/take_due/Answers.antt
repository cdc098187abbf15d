use Rattle.due_queue.{proofs.Common.{◌∙◌, sym, ap, refl, subst, None, cond, is_at, length, found, is_moment, is_due}, specs.Rising.{live, AreApart}}
use Rattle.due_queue.proofs.{Entries.{kept_none}, Together.{in_some, in_other, not_some, not_other, both_change, stay_apart, split, split_back, first_of_both}}
use Rattle.{due_queue.proofs.Together.{none_of_both, if_both, if_none, either_way, fewer_some, fewer_others}, std.specs.Prelude.{◌++◌}}
use Rattle.std.proofs.lemmas.Option.{IfSome_then}
use Rattle.due_queue.proofs.rising_map.RisingMap.take_due.Goals as goal

pub invariant_of-self : goal.invariant_of-self
invariant_of-self g c = (
  c.take_due.ensures.stands,
  either_way c.take_due.result c.take_due.ensures.there c.take_due.ensures.kept c.take_due.ensures.unchanged
      (λ t there kept. stay_apart g.K.Ord.cmp (live c.self.inside.rising.entries.items) c.self.inside.others (live c.take_due.new.self.entries.items) c.self.inside.others t.1 None None kept
      (kept_none g.met.M.Ord.total g.met.K.Ord.total c.self.inside.others t.1 (not_other g.K.Ord.cmp (live c.self.inside.rising.entries.items) c.self.inside.others t.1 (t.0, t.2) c.self.invariant.1 there)) c.self.invariant.1 (λ e. refl))
      (λ same. subst (λ entries. AreApart g.K.Ord.cmp (live entries) c.self.inside.others) (sym same) c.self.invariant.1),
)

pub returns-then-leads-clause-there : goal.returns-then-leads-clause-there
returns-then-leads-clause-there g c =
    IfSome_then c.take_due.result c.take_due.ensures.there
    (λ t there. sym (ap (λ waiting. found g.K.Ord.cmp waiting t.1) c.self.view_is) ∙ in_some g.K.Ord.cmp (live c.self.inside.rising.entries.items) c.self.inside.others t.1 (t.0, t.2) there)

pub returns-then-leads-clause-first : goal.returns-then-leads-clause-first
returns-then-leads-clause-first g c =
    IfSome_then c.take_due.result c.take_due.ensures.first
    (λ t least at key e. first_of_both g.met.M.Ord.total g.met.K.Ord.total (live c.self.inside.rising.entries.items) c.self.inside.others _ (c.leads.ensures.rising c.if-leads.true)
    (split g.K.Ord.cmp (live c.self.inside.rising.entries.items) c.self.inside.others) (t.0, t.1) least at key (ap (λ waiting. is_moment g.M.Ord.cmp at (found g.K.Ord.cmp waiting key)) c.self.view_is ∙ e))

pub returns-then-leads-clause-kept : goal.returns-then-leads-clause-kept
returns-then-leads-clause-kept g c =
    if_both c.take_due.result c.take_due.ensures.there c.take_due.ensures.kept
    (λ t there kept k. both_change g.K.Ord.cmp (live c.self.inside.rising.entries.items) c.self.inside.others (live c.take_due.new.self.entries.items) c.self.inside.others t.1 None None kept
    (kept_none g.met.M.Ord.total g.met.K.Ord.total c.self.inside.others t.1 (not_other g.K.Ord.cmp (live c.self.inside.rising.entries.items) c.self.inside.others t.1 (t.0, t.2) c.self.invariant.1 there)) k
    ∙ ap (λ waiting. cond (is_at (g.K.Ord.cmp t.1) k) None (found g.K.Ord.cmp waiting k)) c.self.view_is)

pub returns-then-leads-clause-fewer : goal.returns-then-leads-clause-fewer
returns-then-leads-clause-fewer g c =
    IfSome_then c.take_due.result c.take_due.ensures.fewer
    (λ t fewer. fewer_some (live c.take_due.new.self.entries.items) (live c.self.inside.rising.entries.items) c.self.inside.others fewer ∙ ap length c.self.view_is)

pub returns-then-leads-clause-none : goal.returns-then-leads-clause-none
returns-then-leads-clause-none g c =
    if_none c.take_due.result c.take_due.ensures.none
    (λ none k. sym (ap (λ waiting. is_due g.M.Ord.cmp c.args.bound (found g.K.Ord.cmp waiting k)) c.self.view_is)
    ∙ none_of_both g.met.M.Ord.total g.met.K.Ord.total (live c.self.inside.rising.entries.items) c.self.inside.others _ (c.leads.ensures.rising c.if-leads.true) (split g.K.Ord.cmp (live c.self.inside.rising.entries.items) c.self.inside.others) c.args.bound none k)

pub returns-then-leads-clause-unchanged : goal.returns-then-leads-clause-unchanged
returns-then-leads-clause-unchanged g c =
    if_none c.take_due.result c.take_due.ensures.unchanged (λ same. ap (λ entries. live entries ++ c.self.inside.others) same ∙ c.self.view_is)

pub invariant_of-self-else-leads : goal.invariant_of-self-else-leads
invariant_of-self-else-leads g c = (
  c.self.invariant.0,
  either_way c.take_due-else-leads.result c.take_due-else-leads.ensures.there c.take_due-else-leads.ensures.kept c.take_due-else-leads.ensures.unchanged
      (λ t there kept. stay_apart g.K.Ord.cmp (live c.self.inside.rising.entries.items) c.self.inside.others (live c.self.inside.rising.entries.items) c.take_due-else-leads.new.self t.1 None None
      (kept_none g.met.M.Ord.total g.met.K.Ord.total (live c.self.inside.rising.entries.items) t.1 (not_some g.K.Ord.cmp (live c.self.inside.rising.entries.items) c.self.inside.others t.1 (t.0, t.2) c.self.invariant.1 there)) kept c.self.invariant.1 (λ e. refl))
      (λ same. subst (AreApart g.K.Ord.cmp (live c.self.inside.rising.entries.items)) (sym same) c.self.invariant.1),
)

pub returns-else-leads-clause-there : goal.returns-else-leads-clause-there
returns-else-leads-clause-there g c =
    IfSome_then c.take_due-else-leads.result c.take_due-else-leads.ensures.there
    (λ t there. sym (ap (λ waiting. found g.K.Ord.cmp waiting t.1) c.self.view_is) ∙ in_other g.K.Ord.cmp (live c.self.inside.rising.entries.items) c.self.inside.others t.1 (t.0, t.2) c.self.invariant.1 there)

pub returns-else-leads-clause-first : goal.returns-else-leads-clause-first
returns-else-leads-clause-first g c =
    IfSome_then c.take_due-else-leads.result c.take_due-else-leads.ensures.first
    (λ t least at key e. first_of_both g.met.M.Ord.total g.met.K.Ord.total c.self.inside.others (live c.self.inside.rising.entries.items) _ (c.leads.ensures.others c.if-leads.false)
    (split_back g.K.Ord.cmp (live c.self.inside.rising.entries.items) c.self.inside.others) (t.0, t.1) least at key (ap (λ waiting. is_moment g.M.Ord.cmp at (found g.K.Ord.cmp waiting key)) c.self.view_is ∙ e))

pub returns-else-leads-clause-kept : goal.returns-else-leads-clause-kept
returns-else-leads-clause-kept g c =
    if_both c.take_due-else-leads.result c.take_due-else-leads.ensures.there c.take_due-else-leads.ensures.kept
    (λ t there kept k. both_change g.K.Ord.cmp (live c.self.inside.rising.entries.items) c.self.inside.others (live c.self.inside.rising.entries.items) c.take_due-else-leads.new.self t.1 None None
    (kept_none g.met.M.Ord.total g.met.K.Ord.total (live c.self.inside.rising.entries.items) t.1 (not_some g.K.Ord.cmp (live c.self.inside.rising.entries.items) c.self.inside.others t.1 (t.0, t.2) c.self.invariant.1 there)) kept k
    ∙ ap (λ waiting. cond (is_at (g.K.Ord.cmp t.1) k) None (found g.K.Ord.cmp waiting k)) c.self.view_is)

pub returns-else-leads-clause-fewer : goal.returns-else-leads-clause-fewer
returns-else-leads-clause-fewer g c =
    IfSome_then c.take_due-else-leads.result c.take_due-else-leads.ensures.fewer (λ t fewer. fewer_others (live c.self.inside.rising.entries.items) c.take_due-else-leads.new.self c.self.inside.others fewer ∙ ap length c.self.view_is)

pub returns-else-leads-clause-none : goal.returns-else-leads-clause-none
returns-else-leads-clause-none g c =
    if_none c.take_due-else-leads.result c.take_due-else-leads.ensures.none
    (λ none k. sym (ap (λ waiting. is_due g.M.Ord.cmp c.args.bound (found g.K.Ord.cmp waiting k)) c.self.view_is)
    ∙ none_of_both g.met.M.Ord.total g.met.K.Ord.total c.self.inside.others (live c.self.inside.rising.entries.items) _ (c.leads.ensures.others c.if-leads.false) (split_back g.K.Ord.cmp (live c.self.inside.rising.entries.items) c.self.inside.others) c.args.bound none k)

pub returns-else-leads-clause-unchanged : goal.returns-else-leads-clause-unchanged
returns-else-leads-clause-unchanged g c = if_none c.take_due-else-leads.result c.take_due-else-leads.ensures.unchanged (λ same. ap (λ others. (live c.self.inside.rising.entries.items) ++ others) same ∙ c.self.view_is)
