use Rattle.join_tests.proofs.Common.{SFits, w64, rules, to_z-of_z, ◌∙◌, sym, ap, List, map, Value, Pattern, join_keys, candidate_part, slot_value}
use Rattle.join_tests.{proofs.{Common.{moment_at_point, candidate_moment, time_key, with_slot}, Counting.{of_candidate}}, specs.Kept.{candidate_value}}
use Rattle.join_tests.proofs.Slotting.{kept_timeless, kept_slotted}
use Rattle.join_tests.proofs.keyed.KeyedPattern.candidate_value.Goals as goal

pub returns-in-None : goal.returns-in-None
unfolding candidate_value
returns-in-None g c =
    let look = g.F.Facts.map c.args.facts.now in
    c.equal_to_candidate.ensures
    ∙ kept_timeless (map (candidate_part look c.args.who) (join_keys c.args.self.now)) (time_key c.args.self.now) (λ key. candidate_moment key look c.args.who)
    (sym (ap time_key c.self.view_is) ∙ sym c.self.invariant.1 ∙ c.in-None.is)

pub returns-in-Some : goal.returns-in-Some
unfolding candidate_value
returns-in-Some g c =
    let look = g.F.Facts.map c.args.facts.now in
    let p = c.self.inside.pattern in
    let key = c.in-Some.key in
    let fits : SFits w64 c.moment_at.result = search rules in
    let slot = simp to_z-of_z at c.slot-slot.ensures in
    c.slotted.ensures
    ∙ ap (λ (values : List Value). with_slot values c.slot-slot.result) (of_candidate look c.args.who c.fact-fact.result (join_keys p) c.fact-fact.ensures)
    ∙ kept_slotted (map (candidate_part look c.args.who) (join_keys p)) (time_key p) key (sym c.self.invariant.1 ∙ c.in-Some.is) (λ key. candidate_moment key look c.args.who) c.slot-slot.result
    (slot ∙ ap (slot_value key.span) (c.moment_at.ensures ∙ ap (moment_at_point key.own) c.fact-fact.ensures))
    ∙ ap (λ (p : Pattern). candidate_value p look c.args.who) c.self.view_is
