use Rattle.join_tests.proofs.Common.{SFits, w64, rules, to_z-of_z, ◌∙◌, sym, ap, map, Pattern, join_keys, row_part, slot_value, moment_at_point, row_moment}
use Rattle.join_tests.{proofs.{Common.{time_key}, Slotting.{kept_timeless, kept_slotted}}, specs.Kept.{row_value}}
use Rattle.join_tests.proofs.keyed.KeyedPattern.row_value.Goals as goal

pub returns-in-None : goal.returns-in-None
unfolding row_value
returns-in-None g c =
    let look = g.F.Facts.map c.args.facts.now in
    let p = c.self.inside.pattern in
    c.value_of.ensures
    ∙ kept_timeless (map (row_part look c.args.row.now) (join_keys p)) (time_key p) (λ key. row_moment key look c.args.row.now) (sym c.self.invariant.1 ∙ c.in-None.is)
    ∙ ap (λ (p : Pattern). row_value p look c.args.row.now) c.self.view_is

pub returns-in-Some : goal.returns-in-Some
unfolding row_value
returns-in-Some g c =
    let look = g.F.Facts.map c.args.facts.now in
    let p = c.self.inside.pattern in
    let key = c.in-Some.key in
    let fits : SFits w64 c.moment_at-moment.result = search rules in
    let slot = simp to_z-of_z at c.slot-slot.ensures in
    c.slotted.ensures
    ∙ kept_slotted (map (row_part look c.args.row.now) (join_keys p)) (time_key p) key (sym c.self.invariant.1 ∙ c.in-Some.is) (λ key. row_moment key look c.args.row.now) c.slot-slot.result
    (slot ∙ ap (slot_value key.span) (c.moment_at-moment.ensures ∙ ap (moment_at_point key.event) c.named_fact.ensures))
    ∙ ap (λ (p : Pattern). row_value p look c.args.row.now) c.self.view_is
