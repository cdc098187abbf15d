use Rattle.rete_net.proofs.Common.{◌≡◌, ◌∙◌, sym, ap, refl, subst, ◌≤◌, ◌<◌, ◌||◌, arith, true, false, ℕ, List, slice_get, or-true, is_in, has_place, Span}
use Rattle.rete_net.proofs.{Common.{given_span}, Fanned.{all_turned, none_of, own_span, none_turned, none_yet, some_of, turned_more, IsTurnedTo}}
use Rattle.rete_net.proofs.Fanning.{laid_same}
use Rattle.rete_net.proofs.fans.Fans.turn_rows.Goals as goal

pub loop-fan-init : goal.loop-fan-init
loop-fan-init g c =
    let span = given_span (slice_get c.args.self.now.spans.items c.args.parent) in
    let look = g.F.Facts.map c.args.facts.now in
    subst (λ (s : Span). IsTurnedTo look c.args.gone.now c.args.come.now c.args.self.now c.args.self.now span c.put_all.new.set.keys c.put_all.new.set.keys s.from) (sym c.span-span.ensures) (none_yet look c.args.gone.now c.args.come.now c.args.self.now span c.put_all.new.set.keys)

pub loop-fan-preserved : goal.loop-fan-preserved
loop-fan-preserved g c =
    let told = c.in_ok-turn_fan.ensures in
    let span = given_span (slice_get c.args.self.now.spans.items c.args.parent) in
    turned_more (g.F.Facts.map c.args.facts.now) c.args.gone.now c.args.come.now c.args.self.now c.loop-fan.self c.turn_fan.new.self span c.put_all.new.set.keys c.loop-fan.due.keys c.turn_fan.new.due.keys c.loop-fan.fan
    (subst (λ (s : Span). s.from ≤ c.loop-fan.fan) c.span-span.ensures c.loop-fan.auto.fan) (subst (λ (s : Span). c.loop-fan.fan < s.to) c.span-span.ensures c.loop-fan-test.true)
    c.loop-fan.invariant told.laid told.others told.turned told.still told.woken

pub returns-clause-laid : goal.returns-clause-laid
returns-clause-laid g c = c.loop-fan.invariant.laid

pub returns-clause-turned : goal.returns-clause-turned
returns-clause-turned g c nodes are =
    let span = given_span (slice_get c.args.self.now.spans.items c.args.parent) in
    let is = c.loop-fan.invariant in
    let over : span.to ≤ c.loop-fan.fan = subst (λ (s : Span). s.to ≤ c.loop-fan.fan) c.span-span.ensures c.loop-fan-test.false in
    all_turned (g.F.Facts.map c.args.facts.now) c.args.gone.now c.args.come.now c.args.parent nodes c.args.self.now c.loop-fan.self are span refl is.outside
    (λ seat f within e beside reached. is.turned seat f within.0 (let high = within.1 in omega (arith, high, over)) e beside reached)
    (some_of c.args.gone.now c.args.come.now (sym c.is_nothing.ensures ∙ c.if-is_nothing.false))

pub returns-then-is_nothing-clause-laid : goal.returns-then-is_nothing-clause-laid
returns-then-is_nothing-clause-laid g c = laid_same c.args.self.now c.args.self.now refl refl refl refl

pub returns-then-is_nothing-clause-turned : goal.returns-then-is_nothing-clause-turned
returns-then-is_nothing-clause-turned g c nodes are =
    let none = none_of c.args.gone.now c.args.come.now (sym c.is_nothing.ensures ∙ c.if-is_nothing.true) in
    none_turned (g.F.Facts.map c.args.facts.now) c.args.parent c.args.gone.now c.args.come.now c.args.self.now none.0 none.1

pub returns-clause-woken : goal.returns-clause-woken
returns-clause-woken g c nodes are =
    let is = c.loop-fan.invariant in
    let span = given_span (slice_get c.args.self.now.spans.items c.args.parent) in
    let over : span.to ≤ c.loop-fan.fan = subst (λ (s : Span). s.to ≤ c.loop-fan.fan) c.span-span.ensures c.loop-fan-test.false in
    record {
      still = λ k h. is.still k (c.in_ok-put_all.ensures k ∙ ap (λ b. b || is_in c.list.result.now k) h);
      lone = λ k listed out.
          let put : has_place c.put_all.new.set.keys k ≡ true = c.in_ok-put_all.ensures k ∙ ap (λ (places : List ℕ). has_place c.args.due.now.keys k || is_in places k) c.list.ensures ∙ ap (λ b. has_place c.args.due.now.keys k || b) listed ∙ or-true (has_place c.args.due.now.keys k) in
          absurd (let no : true ≡ false = sym (is.still k put) ∙ out in cc);
      members = λ seat fan k found behind there idle out.
          let within = own_span c.args.parent nodes c.args.self.now are span refl seat fan found behind in
          is.woken seat fan k within.0 (let high = within.1 in omega (arith, high, over)) found there out;
    }

pub returns-then-is_nothing-clause-woken : goal.returns-then-is_nothing-clause-woken
returns-then-is_nothing-clause-woken g c nodes are = record {
  still = λ k h. h;
  lone = λ k listed out. sym c.is_nothing.ensures ∙ c.if-is_nothing.true;
  members = λ seat fan k found behind there idle out. idle;
}
