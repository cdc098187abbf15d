use Rattle.join_tests.proofs.Common.{SFits, w64, rules, to_z-of_z, ◌∙◌, sym, ap, List, [], ◌∷◌, map, Value, Pattern, join_keys, candidate_part, slot_value}
use Rattle.join_tests.{proofs.Common.{moment_at_point, candidate_moment, first_event, last_event, time_key, with_slot, once}, specs.Kept.{candidate_value}}
use Rattle.join_tests.{specs.Kept.{rows_sought}, proofs.{Counting.{of_candidate}, Slotting.{kept_timeless, kept_slotted, sought_timeless, sought_slotted}}}
use Rattle.join_tests.proofs.keyed.KeyedPattern.sight.Goals as goal

pub returns-in-None-clause-own : goal.returns-in-None-clause-own
unfolding candidate_value
returns-in-None-clause-own g c =
    let look = g.F.Facts.map c.args.facts.now in
    c.equal_to_candidate.ensures
    ∙ kept_timeless (map (candidate_part look c.args.who) (join_keys c.args.self.now)) (time_key c.args.self.now) (λ key. candidate_moment key look c.args.who)
    (sym (ap time_key c.self.view_is) ∙ sym c.self.invariant.1 ∙ c.in-None.is)

pub returns-in-None-clause-sought : goal.returns-in-None-clause-sought
unfolding rows_sought
returns-in-None-clause-sought g c =
    let look = g.F.Facts.map c.args.facts.now in
    let who = c.args.who in
    ap (λ (v : Value). v ∷ []) c.equal_to_candidate.ensures
    ∙ sought_timeless (map (candidate_part look who) (join_keys c.args.self.now)) (time_key c.args.self.now)
    (λ key. first_event key (candidate_moment key look who)) (λ key. last_event key (candidate_moment key look who))
    (sym (ap time_key c.self.view_is) ∙ sym c.self.invariant.1 ∙ c.in-None.is)

pub returns-in-Some-clause-own : goal.returns-in-Some-clause-own
unfolding candidate_value
returns-in-Some-clause-own g c =
    let look = g.F.Facts.map c.args.facts.now in
    let p = c.self.inside.pattern in
    let key = c.in-Some.key in
    let fits : SFits w64 c.moment_at-moment.result = search rules in
    let slot = simp to_z-of_z at c.slot-own.ensures in
    c.sight_slotted.ensures.own
    ∙ ap (λ (values : List Value). with_slot values c.slot-own.result) (of_candidate look c.args.who c.fact-fact.result (join_keys p) c.fact-fact.ensures)
    ∙ kept_slotted (map (candidate_part look c.args.who) (join_keys p)) (time_key p) key (sym c.self.invariant.1 ∙ c.in-Some.is) (λ key. candidate_moment key look c.args.who) c.slot-own.result
    (slot ∙ ap (slot_value key.span) (c.moment_at-moment.ensures ∙ ap (moment_at_point key.own) c.fact-fact.ensures))
    ∙ ap (λ (p : Pattern). candidate_value p look c.args.who) c.self.view_is

pub returns-in-Some-clause-sought : goal.returns-in-Some-clause-sought
unfolding rows_sought
returns-in-Some-clause-sought g c =
    let look = g.F.Facts.map c.args.facts.now in
    let who = c.args.who in
    let p = c.self.inside.pattern in
    let key = c.in-Some.key in
    let fits : SFits w64 c.moment_at-moment.result = search rules in
    let first = simp to_z-of_z at c.event_slots-first.ensures.first in
    let last = simp to_z-of_z at c.event_slots-first.ensures.last in
    let moment = c.moment_at-moment.ensures ∙ ap (moment_at_point key.own) c.fact-fact.ensures in
    c.sight_slotted.ensures.sought
    ∙ ap (λ (values : List Value). once (with_slot values c.event_slots-first.result.0) (with_slot values c.event_slots-first.result.1)) (of_candidate look who c.fact-fact.result (join_keys p) c.fact-fact.ensures)
    ∙ sought_slotted (map (candidate_part look who) (join_keys p)) (time_key p) key (sym c.self.invariant.1 ∙ c.in-Some.is)
    (λ key. first_event key (candidate_moment key look who)) (λ key. last_event key (candidate_moment key look who)) c.event_slots-first.result.0 c.event_slots-first.result.1
    (first ∙ ap (λ m. slot_value key.span (first_event key m)) moment) (last ∙ ap (λ m. slot_value key.span (last_event key m)) moment)
    ∙ ap (λ (p : Pattern). rows_sought p look who) c.self.view_is
