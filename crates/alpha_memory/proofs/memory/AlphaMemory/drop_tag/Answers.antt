use Rattle.alpha_memory.proofs.{Common.{◌∙◌, sym, ap, has_candidate_tag, without_tag}, Agreeing.{there, absent, Agree-take, listed-take, listed-absent}}
use Rattle.alpha_memory.proofs.memory.AlphaMemory.drop_tag.Goals as goal

pub invariant_of-self : goal.invariant_of-self
invariant_of-self c =
    Agree-take c.self.inside.by_tag.entries c.remove.new.self.entries c.self.inside.next c.self.inside.by_join c.leave.new.by_join c.args.tag.0 c.in-Some.place c.self.invariant
    c.in-Some.ensures.unique (sym c.in-Some.ensures.value) c.in-Some.ensures.updates.0 c.leave.ensures

pub returns-in-Some-clause-found : goal.returns-in-Some-clause-found
returns-in-Some-clause-found c =
    sym (there c.self.inside.by_tag.entries c.self.inside.next c.self.inside.by_join c.self.invariant c.args.tag.0 c.in-Some.place (sym c.in-Some.ensures.value))
    ∙ ap (λ list. has_candidate_tag list c.args.tag.0) c.self.view_is

pub returns-in-Some-clause-rest : goal.returns-in-Some-clause-rest
returns-in-Some-clause-rest c =
    listed-take c.self.inside.by_tag.entries c.remove.new.self.entries c.self.inside.next c.self.inside.by_join c.leave.new.by_join c.args.tag.0 c.in-Some.place c.self.invariant
    c.in-Some.ensures.unique (sym c.in-Some.ensures.value) c.in-Some.ensures.updates.0 c.leave.ensures
    ∙ ap (λ list. without_tag list c.args.tag.0) c.self.view_is

pub returns-in-None-clause-found : goal.returns-in-None-clause-found
returns-in-None-clause-found c =
    sym (absent c.self.inside.by_tag.entries c.self.inside.next c.self.inside.by_join c.self.invariant c.args.tag.0 (sym c.in-None.ensures.value))
    ∙ ap (λ list. has_candidate_tag list c.args.tag.0) c.self.view_is

pub returns-in-None-clause-rest : goal.returns-in-None-clause-rest
returns-in-None-clause-rest c =
    listed-absent c.self.inside.by_tag.entries c.remove.new.self.entries c.self.inside.next c.self.inside.by_join c.self.invariant c.args.tag.0 (sym c.in-None.ensures.value) c.in-None.ensures.unchanged
    ∙ ap (λ list. without_tag list c.args.tag.0) c.self.view_is
