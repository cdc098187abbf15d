use Rattle.join_tests.proofs.Common.{SFits, w64, rules, to_z-of_z, ◌∙◌, sym, ap, [], ◌∷◌, map, Value, Pattern, join_keys, row_part, slot_value, moment_at_point}
use Rattle.join_tests.proofs.{Common.{row_moment, first_candidate, last_candidate, time_key}, Slotting.{sought_timeless, sought_slotted}}
use Rattle.join_tests.specs.Kept.{candidates_sought}
use Rattle.join_tests.proofs.keyed.KeyedPattern.candidates_sought.Goals as goal

pub returns-in-None : goal.returns-in-None
unfolding candidates_sought
returns-in-None g c =
    let look = g.F.Facts.map c.args.facts.now in
    let row = c.args.row.now in
    let p = c.self.inside.pattern in
    ap (λ (v : Value). v ∷ []) c.value_of.ensures
    ∙ sought_timeless (map (row_part look row) (join_keys p)) (time_key p) (λ key. first_candidate key (row_moment key look row)) (λ key. last_candidate key (row_moment key look row))
    (sym c.self.invariant.1 ∙ c.in-None.is)
    ∙ ap (λ (p : Pattern). candidates_sought p look row) c.self.view_is

pub returns-in-Some : goal.returns-in-Some
unfolding candidates_sought
returns-in-Some g c =
    let look = g.F.Facts.map c.args.facts.now in
    let row = c.args.row.now in
    let p = c.self.inside.pattern in
    let key = c.in-Some.key in
    let fits : SFits w64 c.moment_at-moment.result = search rules in
    let first = simp to_z-of_z at c.candidate_slots-first.ensures.first in
    let last = simp to_z-of_z at c.candidate_slots-first.ensures.last in
    let moment = c.moment_at-moment.ensures ∙ ap (moment_at_point key.event) c.named_fact.ensures in
    c.both_slotted.ensures
    ∙ sought_slotted (map (row_part look row) (join_keys p)) (time_key p) key (sym c.self.invariant.1 ∙ c.in-Some.is)
    (λ key. first_candidate key (row_moment key look row)) (λ key. last_candidate key (row_moment key look row)) c.candidate_slots-first.result.0 c.candidate_slots-first.result.1
    (first ∙ ap (λ m. slot_value key.span (first_candidate key m)) moment) (last ∙ ap (λ m. slot_value key.span (last_candidate key m)) moment)
    ∙ ap (λ (p : Pattern). candidates_sought p look row) c.self.view_is
