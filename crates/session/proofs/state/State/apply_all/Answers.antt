use Rattle.session.proofs.Common.{◌≡◌, [], ◌∷◌, inl, inr, List, Result, Ok, ap, length, sym, subst, arith, In, AllWantKnown, Code, SoFar, none_done, one_done}
use Rattle.{session.proofs.Common.{all_done_stands, all_done_lines}, rule_model.specs.declared.step.Step.{Step}, fx_base.proofs.Sequences.{empty_from_length}}
use Rattle.session.proofs.state.State.apply_all.Goals as goal

pub loop-wanted-init : goal.loop-wanted-init
loop-wanted-init c =
    let all : c.into_iter-wanted-iterator.result.rest.items ≡ c.args.plan.items = c.into_iter-wanted-iterator.ensures.into_iter_gives.0 in
    record {
      tags = omega (arith, ap length all);
      known = λ plan. (subst (AllWantKnown c.args.setting.now.program) (sym all) plan, λ before. before, λ sound. sound);
      done = λ w st fit.
          subst (λ (rest : List (Result Step Code)). SoFar c.args.setting.now w c.args.plan.items c.args.lines.now.items c.args.lines.now.items c.args.memory.now c.args.self.now rest) (sym all)
          (none_done c.args.setting.now w c.args.plan.items c.args.lines.now.items c.args.memory.now c.args.self.now st fit);
    }

pub loop-wanted-preserved : goal.loop-wanted-preserved
loop-wanted-preserved c =
    let step : c.loop-wanted.wanted-iterator.rest.items ≡ c.in-Some.wanted ∷ c.next.new.self.rest.items = c.in-Some.ensures.steps.0 in
    record {
      tags = omega (arith, ap length step, c.loop-wanted.invariant.tags, c.in_ok-apply.ensures.tags);
      known = λ plan.
          let was = c.loop-wanted.invariant.known plan in (
            λ s i. was.0 s (subst (In (Ok s)) (sym step) (inr i)),
            λ before. c.in_ok-apply.ensures.known (λ s e. was.0 s (subst (In (Ok s)) (sym step) (inl (sym e)))) (was.1 before),
            λ sound. c.in_ok-apply.ensures.sound (λ s e. was.0 s (subst (In (Ok s)) (sym step) (inl (sym e)))) (was.2 sound),
          );
      done = λ w st fit.
          one_done c.args.setting.now w c.args.plan.items c.args.lines.now.items c.loop-wanted.lines.items c.apply.new.lines.items c.loop-wanted.memory c.apply.new.memory c.loop-wanted.self c.apply.new.self c.in-Some.wanted
          c.next.new.self.rest.items st.seen.whole.lawful.ordered
          (subst (λ (rest : List (Result Step Code)). SoFar c.args.setting.now w c.args.plan.items c.args.lines.now.items c.loop-wanted.lines.items c.loop-wanted.memory c.loop-wanted.self rest) step (c.loop-wanted.invariant.done w st fit))
          c.in_ok-apply.ensures.stands c.in_ok-apply.ensures.lines;
    }

pub returns-clause-stands : goal.returns-clause-stands
returns-clause-stands c w st fit =
    let none : c.loop-wanted.wanted-iterator.rest.items ≡ [] = empty_from_length c.loop-wanted.wanted-iterator.rest.items c.loop-wanted.wanted-iterator.rest.len c.loop-wanted.wanted-iterator.rest.ok.0 c.in-None.ensures.steps.0 in
    all_done_stands c.args.setting.now w c.args.plan.items c.args.lines.now.items c.loop-wanted.lines.items c.loop-wanted.memory c.loop-wanted.self
    (subst (λ (rest : List (Result Step Code)). SoFar c.args.setting.now w c.args.plan.items c.args.lines.now.items c.loop-wanted.lines.items c.loop-wanted.memory c.loop-wanted.self rest) none (c.loop-wanted.invariant.done w st fit))

pub returns-clause-lines : goal.returns-clause-lines
returns-clause-lines c w st fit =
    let none : c.loop-wanted.wanted-iterator.rest.items ≡ [] = empty_from_length c.loop-wanted.wanted-iterator.rest.items c.loop-wanted.wanted-iterator.rest.len c.loop-wanted.wanted-iterator.rest.ok.0 c.in-None.ensures.steps.0 in
    all_done_lines c.args.setting.now w c.args.plan.items c.args.lines.now.items c.loop-wanted.lines.items c.loop-wanted.memory c.loop-wanted.self
    (subst (λ (rest : List (Result Step Code)). SoFar c.args.setting.now w c.args.plan.items c.args.lines.now.items c.loop-wanted.lines.items c.loop-wanted.memory c.loop-wanted.self rest) none (c.loop-wanted.invariant.done w st fit))

pub returns-clause-sound : goal.returns-clause-sound
returns-clause-sound c plan = (c.loop-wanted.invariant.known plan).2

pub returns-clause-known : goal.returns-clause-known
returns-clause-known c plan = (c.loop-wanted.invariant.known plan).1
