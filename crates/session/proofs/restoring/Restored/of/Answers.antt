use Rattle.session.proofs.Common.{◌∙◌, List, inl, refl, sym, ap, subst, Fact, all_held, ArePut, none_put, none_waits, one_put}
use Rattle.fx_base.proofs.Sequences.{empty_from_length}
use Rattle.session.proofs.restoring.Restored.of.Goals as goal

pub loop-fact-init : goal.loop-fact-init
loop-fact-init c =
    let r = c.new-restored.result in
    let e = c.new-restored.ensures in
    record {
      put = subst (λ (fs : List Fact). ArePut c.args.facts.items fs r.facts) (sym c.into_iter-fact-iterator.ensures.into_iter_gives.0) (none_put c.args.facts.items r.facts e.facts c.requires.storable);
      held = none_waits c.args.setting.now.program c.args.setting.now.lives r.facts r.expiries r.retention e.facts e.expiries e.due e.lingering;
    }

pub put-requires-clause-times : goal.put-requires-clause-times
put-requires-clause-times c =
    (subst (λ (fs : List Fact). ArePut c.args.facts.items fs c.loop-fact.restored.facts) c.in-Some.ensures.steps.0 c.loop-fact.invariant.put).storable.times c.in-Some.fact (inl refl)

pub put-requires-clause-held : goal.put-requires-clause-held
put-requires-clause-held c = c.loop-fact.invariant.held

pub put-requires-clause-fresh : goal.put-requires-clause-fresh
put-requires-clause-fresh c =
    (subst (λ (fs : List Fact). ArePut c.args.facts.items fs c.loop-fact.restored.facts) c.in-Some.ensures.steps.0 c.loop-fact.invariant.put).free c.in-Some.fact (inl refl)

pub loop-fact-preserved : goal.loop-fact-preserved
loop-fact-preserved c = record {
  put =
      one_put c.args.facts.items c.in-Some.fact c.next.new.self.rest.items c.loop-fact.restored.facts c.put.new.self.facts
      (subst (λ (fs : List Fact). ArePut c.args.facts.items fs c.loop-fact.restored.facts) c.in-Some.ensures.steps.0 c.loop-fact.invariant.put) c.in_ok-put.ensures.facts;
  held = c.in_ok-put.ensures.held;
}

pub returns-clause-facts : goal.returns-clause-facts
returns-clause-facts c =
    let rest = c.loop-fact.fact-iterator.rest in
    ap (all_held c.loop-fact.restored.facts) (sym (empty_from_length rest.items rest.len rest.ok.0 c.in-None.ensures.steps.0)) ∙ c.loop-fact.invariant.put.all

pub returns-clause-held : goal.returns-clause-held
returns-clause-held c = c.loop-fact.invariant.held
