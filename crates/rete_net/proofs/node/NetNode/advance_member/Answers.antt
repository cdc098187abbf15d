use Rattle.rete_net.proofs.Common.{◌≡◌, ◌∙◌, sym, ap, refl, to_z, of_z, to_z-of_z, w64, SFits, List, get, nat_cmp, Named, Row, has, lent, row_naming, has_name}
use Rattle.{rete_net.proofs.{Common.{half_in}, Fanning.{laid_same}, Siblings.{still_steps, names_step}}, std.proofs.Common.{option_map}}
use Rattle.rete_net.proofs.node.NetNode.advance_member.Goals as goal

pub returns-then-is_still-clause-laid : goal.returns-then-is_still-clause-laid
returns-then-is_still-clause-laid g c = laid_same c.args.fans.now c.args.fans.now refl refl refl refl

pub returns-then-is_still-clause-step : goal.returns-then-is_still-clause-step
returns-then-is_still-clause-step g c was left of halved =
    let clock = c.args.happening.now.moment.now.clock in
    let fits : SFits w64 clock = search in
    let whole : to_z w64 (of_z w64 clock) ≡ clock = to_z-of_z fits in
    still_steps c.args.happening.now.program.now (g.F.Facts.map c.args.facts.now) (lent c.args.happening.now.gone.now) (option_map (λ f. f.now) c.args.happening.now.come) c.args.happening.now.moment.now
    c.args.self.now was left c.args.half (sym c.changes_nothing.ensures ∙ c.if-changes_nothing.true) c.args.fans.now.list.items c.args.seat of halved
    c.pattern-pattern.result.now (to_z w64 (of_z w64 clock)) c.pattern-pattern.ensures whole
    (c.is_still.ensures.stands c.if-is_still.true) (c.is_still.ensures.candidates c.if-is_still.true)

pub returns-clause-step : goal.returns-clause-step
returns-clause-step g c was left of halved =
    let clock = c.args.happening.now.moment.now.clock in
    let fits : SFits w64 clock = search in
    let whole : to_z w64 (of_z w64 clock) ≡ clock = to_z-of_z fits in
    names_step c.args.happening.now.program.now (g.F.Facts.map c.args.facts.now) (lent c.args.happening.now.gone.now) (option_map (λ f. f.now) c.args.happening.now.come) c.args.happening.now.moment.now
    c.args.self.now was left c.args.half (record { parent = c.args.self.now.parent; gate = c.advance.new.self; node = c.args.self.now.node }) c.in_ok-right.right c.in_ok-delta.delta
    c.args.fans.now.list.items c.turn_names.new.self.list.items c.args.seat of halved refl refl c.deref.result.now c.deref-2.result.now
    (λ who. ap (λ (names : List Named). has_name names who) c.deref.ensures.value ∙ c.in_ok-gone.ensures who ∙ ap (λ (rows : List Row). has rows (row_naming who)) c.as_slice.ensures)
    (λ who. ap (λ (names : List Named). has_name names who) c.deref-2.ensures.value ∙ c.in_ok-come.ensures who ∙ ap (λ (rows : List Row). has rows (row_naming who)) c.as_slice-2.ensures)
    c.in_ok-delta.ensures.turned c.pattern-pattern.result.now (to_z w64 (of_z w64 clock)) c.pattern-pattern.ensures whole
    c.in_ok-right.ensures.stands c.in_ok-right.ensures.difference

pub returns-clause-others : goal.returns-clause-others
returns-clause-others g c other differ = (c.in_ok-delta.ensures.others other differ, ap (λ halves. half_in other.member (get nat_cmp halves other.fan)) c.in_ok-delta.ensures.halves)
