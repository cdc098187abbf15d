use Rattle.session.proofs.Common.{ap, ◌∙◌, [], pos, rules, subst, sym, merely, no_names, no_rule_rows, rows_at, empty_world, Memory, Contents, Standing}
use Rattle.session.proofs.Common.{none_more, standing_sound, empty_stands, from_parts, nothing_reached}
use Rattle.session.proofs.session.Session.with_detail.Goals as goal

pub returns-clause-stands : goal.returns-clause-stands
returns-clause-stands c =
    let p = c.args.program in
    let parts = from_parts c.new-kept.result _ _ _ _ _ _ _ c.new-kept.ensures.facts c.new-kept.ensures.expiries c.new-kept.ensures.clock c.new-kept.ensures.course c.new-kept.ensures.agenda c.new-kept.ensures.next_id c.new-kept.ensures.next_tag in
    subst (λ (k : Contents). Standing c.in_ok-setting.setting c.in_ok-memory.memory.value k empty_world) (sym c.in_ok-state.ensures.ok)
    (subst (λ (n : Memory). Standing c.in_ok-setting.setting n c.new-kept.result empty_world) (sym c.in_ok-memory.ensures.ok)
    (empty_stands (record { program = p; lives = c.args.lives; detail = c.args.detail }) c.in_ok-setting.setting (record { net = c.in_ok-net.net; retention = c.new-retention.result }) c.new-kept.result c.in_ok-agenda.agenda c.refresh.new.agenda
    c.in_ok-setting.ensures (search rules) (c.in_ok-net.ensures.stands c.requires.runnable no_names) (c.in_ok-refresh.ensures.agenda p no_rule_rows (rows_at p [] (pos 0) nothing_reached) (c.in_ok-net.ensures.first c.requires.runnable))
    c.new-retention.ensures.due c.new-retention.ensures.lingering parts))

pub invariant_of-result : goal.invariant_of-result
invariant_of-result c =
    let p = c.args.program in
    let parts = from_parts c.new-kept.result _ _ _ _ _ _ _ c.new-kept.ensures.facts c.new-kept.ensures.expiries c.new-kept.ensures.clock c.new-kept.ensures.course c.new-kept.ensures.agenda c.new-kept.ensures.next_id c.new-kept.ensures.next_tag in
    let stands =
    subst (λ (k : Contents). Standing c.in_ok-setting.setting c.in_ok-memory.memory.value k empty_world) (sym c.in_ok-state.ensures.ok)
    (subst (λ (n : Memory). Standing c.in_ok-setting.setting n c.new-kept.result empty_world) (sym c.in_ok-memory.ensures.ok)
    (empty_stands (record { program = p; lives = c.args.lives; detail = c.args.detail }) c.in_ok-setting.setting (record { net = c.in_ok-net.net; retention = c.new-retention.result }) c.new-kept.result c.in_ok-agenda.agenda c.refresh.new.agenda
    c.in_ok-setting.ensures (search rules) (c.in_ok-net.ensures.stands c.requires.runnable no_names) (c.in_ok-refresh.ensures.agenda p no_rule_rows (rows_at p [] (pos 0) nothing_reached) (c.in_ok-net.ensures.first c.requires.runnable))
    c.new-retention.ensures.due c.new-retention.ensures.lingering parts)) in
    record {
      sound = merely (standing_sound c.in_ok-setting.setting c.in_ok-memory.memory.value c.in_ok-state.state.value empty_world stands (none_more c.in_ok-setting.setting.program));
    }

pub returns-clause-next : goal.returns-clause-next
returns-clause-next c = ap (λ (k : Contents). k.next_tag) c.in_ok-state.ensures.ok ∙ c.new-kept.ensures.next_tag
