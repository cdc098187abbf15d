use Rattle.session.proofs.Common.{◌≡◌, ◌∙◌, List, filter_map, option_map, refl, sym, subst, Fact, lent, clean_rows, facts_at, instant_at}
use Rattle.{pattern_gate.specs.Moves.{MovesSnapshot}, rete_net.specs.{Doors.{rule_count}, Forgetting.{AreNotNeeded}}, session_model.proofs.Leads.{found_going}}
use Rattle.session_model.proofs.Leads.{has_before, has_behind, leads_move, on_ok}
use Rattle.session.proofs.refreshing.follow.Goals as goal
use Rattle.std.specs.FinMap as map

pub returns-clause-net : goal.returns-clause-net
returns-clause-net c before behind all from forgotten l st =
    let p = c.args.program.now in
    let to = instant_at c.args.moment.now in
    let s = facts_at before from in
    let next = facts_at behind to in
    let gone = c.args.gone.now in
    let come = option_map (λ f. f.now) c.args.come in
    let going : filter_map (map.get all) gone ≡ lent c.in_ok-gone.gone.items = sym (c.in_ok-gone.ensures ∙ found_going all c.args.facts.now gone l.at_hand.going) in
    let moves = subst (λ (out : List Fact). MovesSnapshot p s next out come) going (leads_move p before behind all from.clock to.clock gone come l.leads from.reached to.reached l.goes_on) in
    let unneeded = subst (λ (out : List Fact). AreNotNeeded p forgotten s next out come) going l.unneeded in
    let stands = simp c.as_slice.ensures.value at c.in_ok-changes.ensures.stands in
    on_ok c.refresh.result (stands s next forgotten c.requires st moves (record { clock = refl; reached = refl }) unneeded
    (has_before p before behind all from.clock to.clock gone come l.leads from.reached to.reached forgotten c.args.facts.now l.at_hand)
    (has_behind p before behind all from.clock to.clock gone come l.leads from.reached to.reached forgotten c.args.facts.now l.at_hand))

pub returns-clause-agenda : goal.returns-clause-agenda
returns-clause-agenda c before behind all from forgotten l st =
    let p = c.args.program.now in
    let to = instant_at c.args.moment.now in
    let s = facts_at before from in
    let next = facts_at behind to in
    let gone = c.args.gone.now in
    let come = option_map (λ f. f.now) c.args.come in
    let going : filter_map (map.get all) gone ≡ lent c.in_ok-gone.gone.items = sym (c.in_ok-gone.ensures ∙ found_going all c.args.facts.now gone l.at_hand.going) in
    let moves = subst (λ (out : List Fact). MovesSnapshot p s next out come) going (leads_move p before behind all from.clock to.clock gone come l.leads from.reached to.reached l.goes_on) in
    let unneeded = subst (λ (out : List Fact). AreNotNeeded p forgotten s next out come) going l.unneeded in
    let differences = simp c.as_slice.ensures.value at c.in_ok-changes.ensures.differences in
    c.refresh.ensures.agenda p (clean_rows p s forgotten) (clean_rows p next forgotten)
    (differences s next forgotten c.requires st moves (record { clock = refl; reached = refl }) unneeded
    (has_before p before behind all from.clock to.clock gone come l.leads from.reached to.reached forgotten c.args.facts.now l.at_hand)
    (has_behind p before behind all from.clock to.clock gone come l.leads from.reached to.reached forgotten c.args.facts.now l.at_hand))

pub returns-clause-rules : goal.returns-clause-rules
returns-clause-rules c = λ few pending. c.refresh.ensures.rules (rule_count c.args.net.now) (c.in_ok-changes.ensures.rules few) pending
