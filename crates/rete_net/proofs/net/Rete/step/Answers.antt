use Rattle.rete_net.proofs.Common.{◌≡◌, ◌∙◌, sym, ap, subst, ℕ, List, length, ◌<◌, ◌^◌, option_map, In, lent, RuleChange, Some, None, member_at, shown_nodes}
use Rattle.rete_net.proofs.{Common.{seat_at, member_of}, Fanwise.{wired_again}, Frames.{index_again}, Showing.{replaced_both, replaced_shown}}
use Rattle.{rete_net.proofs.{Sourced.{sources_again}, Stillness.{all_quiet}, Turns.{net_step}}, candidate_source.specs.Sources.{is_other, source_at}}
use Rattle.candidate_source.proofs.Moving.{lead_alike}
use Rattle.rete_net.proofs.net.Rete.step.Goals as goal

pub returns-clause-sources : goal.returns-clause-sources
returns-clause-sources g c are =
    let walked = c.in_ok-answered.ensures in
    let was = c.args.self.now in
    let now = c.walk.new.self in
    sources_again was.nodes.items now.nodes.items was.fans now.fans was.sources now.sources are walked.replaced walked.laid.seats walked.sourced (walked.apart are.apart)

pub returns-clause-indexed : goal.returns-clause-indexed
returns-clause-indexed g c =
    let walked = c.in_ok-answered.ensures in
    let was = c.args.self.now in
    let now = c.walk.new.self in
    index_again was.sources now.sources (shown_nodes was) (shown_nodes now) was.ends.items now.ends.items was.index now.index (λ k. ap (is_other k) (lead_alike was.sources now.sources walked.sourced k))
    (replaced_both (member_at was.fans) (member_at now.fans) was.nodes.items now.nodes.items walked.replaced) (ap (λ ends. ends.items) walked.ends) walked.index

pub returns-clause-stepped : goal.returns-clause-stepped
returns-clause-stepped g c wired scheduled fans are =
    let walked = c.in_ok-answered.ensures in
    let was = c.args.self.now in
    let now = c.walk.new.self in
    net_step c.args.program.now (g.F.Facts.map c.args.facts.now) (lent c.args.gone.now) (option_map (λ f. f.now) c.args.come) c.args.moment.now c.args.first.now was.sources (source_at was.sources) (source_at now.sources)
    (shown_nodes was) (shown_nodes now) was.ends.items was.index c.in_ok-answered.answered c.in_ok-changes.changes.items c.deref.result.now
    (wired_again was.sources was.nodes.items (shown_nodes was) was.ends.items was.index (replaced_shown (member_at was.fans) was.nodes.items) wired)
    (replaced_both (member_at was.fans) (member_at now.fans) was.nodes.items now.nodes.items walked.replaced).many
    (c.deref.ensures.value ∙ ap (λ ends. ends.items) walked.ends) (walked.answered wired scheduled fans are) c.in_ok-changes.ensures.changes

pub returns-clause-quiet : goal.returns-clause-quiet
returns-clause-quiet g c fans are scheduled =
    let walked = c.in_ok-answered.ensures in
    let was = c.args.self.now in
    let now = c.walk.new.self in
    let are_now = sources_again was.nodes.items now.nodes.items was.fans now.fans was.sources now.sources are walked.replaced walked.laid.seats walked.sourced (walked.apart are.apart) in
    all_quiet c.args.program.now now.nodes.items now.fans now.sources are_now now.schedule (walked.scheduled fans are.apart scheduled) c.first-self.result c.first-self.ensures
    (member_at now.fans) (λ k s of. ap (member_of now.fans.list.items) (are_now.unseated k s of))

pub returns-clause-rules : goal.returns-clause-rules
returns-clause-rules g c =
    subst (λ (ends : List ℕ). length ends < 2 ^ 16 → (change : RuleChange) → In change c.in_ok-changes.changes.items → change.rule.0 < length ends)
    (c.deref.ensures.value ∙ ap (λ ends. ends.items) c.in_ok-answered.ensures.ends) c.in_ok-changes.ensures.rules
