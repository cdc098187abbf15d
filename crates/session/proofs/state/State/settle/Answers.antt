use Rattle.session.proofs.Common.{◌≡◌, ◌∙◌, ◌<◌, ◌^◌, true, List, ap, sym, subst, filter_map, length, FitsSigned, to_z, of_z, to_z-of_z, w64, rules, arith}
use Rattle.session.proofs.Common.{Match, has_match, has_listed_tag, is_tag_among, is_named, PassesLives, Awaits, Contents, ReachesNoMore, reached_of, no_keys}
use Rattle.{session.proofs.Common.{safe_fewer, stands_less, stands_same, named_at, contents, facts_of, over}, rete_net.proofs.Networks.{network_of}}
use Rattle.rete_net.{proofs.Networks.{rules_counted}, specs.Doors.{rule_count}}
use Rattle.session.proofs.state.State.settle.Goals as goal

pub invariant_of-self : goal.invariant_of-self
invariant_of-self c =
    safe_fewer c.self.inside.facts c.take_all.new.facts c.self.inside.expiries c.self.inside.clock c.self.inside.next_id c.self.inside.next_tag c.in_ok-tags.tags.items c.self.invariant c.take_all.ensures

pub returns-then-is_empty-clause-stands : goal.returns-then-is_empty-clause-stands
returns-then-is_empty-clause-stands c w a =
    let fits : FitsSigned w64 c.self.inside.clock = search rules in
    let same : to_z w64 (of_z w64 c.self.inside.clock) ≡ c.self.inside.clock = to_z-of_z fits in
    let r = c.past.new.self in
    let keys = c.in_ok-old.old.keys in
    let k = (contents c.self.inside.facts c.self.inside.expiries c.self.inside.clock c.self.inside.course c.self.inside.agenda c.self.inside.next_id c.self.inside.next_tag) in
    let passes : PassesLives k.clock (is_tag_among c.args.left.now) (is_named k.agenda) c.args.memory.now.retention r (has_listed_tag keys) = simp same at c.in_ok-old.ensures.passes in
    stands_same c.args.setting.now c.args.memory.now c.args.self.now (is_tag_among c.args.left.now) w a r keys (no_keys keys (c.if-is_empty.ensures.0 (search rules)))
    (subst (λ (z : Contents). PassesLives z.clock (is_tag_among c.args.left.now) (is_named z.agenda) c.args.memory.now.retention r (has_listed_tag keys)) c.self.view_is passes)

pub returns-clause-stands : goal.returns-clause-stands
returns-clause-stands c w a =
    let fits : FitsSigned w64 c.self.inside.clock = search rules in
    let same : to_z w64 (of_z w64 c.self.inside.clock) ≡ c.self.inside.clock = to_z-of_z fits in
    let s = c.args.setting.now in
    let m = c.args.memory.now in
    let left = is_tag_among c.args.left.now in
    let r = c.past.new.self in
    let old = c.in_ok-old.old.keys in
    let tags = c.in_ok-tags.tags.items in
    let k = (contents c.self.inside.facts c.self.inside.expiries c.self.inside.clock c.self.inside.course c.self.inside.agenda c.self.inside.next_id c.self.inside.next_tag) in
    let awaits : Awaits s m k left w = subst (λ (z : Contents). Awaits s m z left w) (sym c.self.view_is) a in
    let passes : PassesLives k.clock left (is_named k.agenda) m.retention r (has_listed_tag old) = simp same at c.in_ok-old.ensures.passes in
    let names : c.in_ok-names.names.items ≡ filter_map (named_at k.facts) tags = c.in_ok-names.ensures ∙ ap (filter_map (named_at k.facts)) c.deref.ensures.value in
    let count_of = rule_count m.net in
    let count : count_of ≡ length s.program.rules =
    rules_counted s.program m.net (network_of s.program m.net (over (facts_of awaits.seen.all) k.clock (reached_of k)) awaits.seen.forgotten awaits.seen.stands) in
    let few : count_of < 2 ^ 16 = omega (arith, count, c.requires.runs.runnable.few_rules) in
    let stands = simp c.deref-2.ensures.value at c.in_ok-dropped.ensures.stands in
    let dropped = simp c.deref-2.ensures.value at c.in_ok-dropped.ensures.dropped in
    stands_less s m k left w awaits c.forget.new.self r c.take_all.new.facts c.drop_fired.new.agenda old tags c.in_ok-names.names.items c.in_ok-dropped.dropped.items
    passes c.in_ok-tags.ensures names stands dropped c.take_all.ensures c.drop_fired.ensures.saliences c.drop_fired.ensures.pending (c.drop_fired.ensures.fired count_of few c.in_ok-dropped.ensures.listed)

pub returns-clause-sound : goal.returns-clause-sound
returns-clause-sound c sound =
    record {
      net = c.in_ok-dropped.ensures.net c.args.setting.now.program sound.net;
      pending = λ q e.
          sound.pending q
          (subst (λ (found : List Match). has_match found q ≡ true) (c.drop_fired.ensures.pending ∙ ap (λ (z : Contents). z.agenda.pending) c.self.view_is) e);
      reached = subst (λ (z : Contents). ReachesNoMore c.args.setting.now.program (reached_of z)) (sym c.self.view_is) sound.reached;
    }
