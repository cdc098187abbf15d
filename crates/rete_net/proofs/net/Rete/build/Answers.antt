use Rattle.rete_net.proofs.Common.{[], None, get_or, refl, length, Moment, IsAt, empty_snapshot, empty_row_comes, NetStep, IsRunnable, IsWired, member_at}
use Rattle.rete_net.proofs.{Common.{shown_nodes}, Starting.{no_facts, built_owned, built_shape, built_stands, built_net, built_between}, Owning.{owned_again}}
use Rattle.rete_net.proofs.{Fanning.{fans_again}, Fanwise.{net_under, wired_under}, Showing.{replaced_both}, Turns.{settled}}
use Rattle.candidate_source.specs.Sources.{source_at}
use Rattle.rete_net.proofs.net.Rete.build.Goals as goal

-- the first step of the nodes, in which the empty row comes, at a moment where nothing is reached
step : (c : goal.After-drop-first-3) → IsWired c.in_ok-net.net.sources c.in_ok-net.net.nodes.items c.in_ok-net.net.ends.items c.in_ok-net.net.index
    → (moment : Moment) × IsAt empty_snapshot moment
    × NetStep c.args.program.now no_facts [] None moment empty_row_comes (source_at c.in_ok-net.net.sources) (source_at c.step.new.self.sources) (shown_nodes c.in_ok-net.net) (shown_nodes c.step.new.self) c.in_ok-net.net.ends.items c.in_ok-changes.changes.items
step c wired = (
  _,
  record { clock = refl; reached = refl },
  settled c.args.program.now no_facts [] None _ c.in_ok-first.first empty_row_comes (source_at c.in_ok-net.net.sources) (source_at c.step.new.self.sources) (shown_nodes c.in_ok-net.net) (shown_nodes c.step.new.self) c.in_ok-net.net.ends.items c.in_ok-changes.changes.items
      c.in_ok-first.ensures (c.in_ok-changes.ensures.stepped wired c.in_ok-net.ensures.scheduled c.in_ok-net.ensures.fans c.in_ok-net.ensures.sources),
)

wired : (c : goal.After-drop-first-3) → IsRunnable c.args.program.now → IsWired c.in_ok-net.net.sources c.in_ok-net.net.nodes.items c.in_ok-net.net.ends.items c.in_ok-net.net.index
wired c runnable =
    let built = c.in_ok-net.ensures.built runnable in
    wired_under c.args.program.now c.in_ok-net.net.sources c.in_ok-net.net.nodes.items c.in_ok-net.net.fans c.in_ok-net.net.ends.items c.in_ok-net.net.index
    (built_shape c.args.program.now c.in_ok-net.net built.0 built.1 built.2 built.3 built.4 built.5 c.in_ok-net.ensures.sources c.in_ok-net.ensures.new_sources) c.in_ok-net.ensures.indexed

pub returns-clause-stands : goal.returns-clause-stands
returns-clause-stands c runnable =
    let built = c.in_ok-net.ensures.built runnable in
    let first = step c (wired c runnable) in
    built_stands c.args.program.now c.in_ok-net.net built.0 built.1 built.2 built.3 built.4 built.5 c.in_ok-net.ensures.sources c.in_ok-net.ensures.new_sources first.0 first.1 c.step.new.self c.in_ok-changes.changes.items c.in_ok-changes.ensures.ends first.2
    (c.in_ok-changes.ensures.quiet c.in_ok-net.ensures.fans c.in_ok-net.ensures.sources c.in_ok-net.ensures.scheduled) (c.in_ok-changes.ensures.indexed c.in_ok-net.ensures.indexed)
    (c.in_ok-changes.ensures.scheduled c.in_ok-net.ensures.fans c.in_ok-net.ensures.sources.apart c.in_ok-net.ensures.scheduled)
    (fans_again c.in_ok-net.net.nodes.items c.step.new.self.nodes.items c.in_ok-net.net.fans c.step.new.self.fans c.in_ok-changes.ensures.replaced c.in_ok-changes.ensures.laid c.in_ok-net.ensures.fans)
    (c.in_ok-changes.ensures.sources c.in_ok-net.ensures.sources)
    (owned_again c.args.program.now (λ k. get_or built.0 k []) (length (shown_nodes c.in_ok-net.net)) (length (shown_nodes c.step.new.self))
    c.in_ok-net.net.owners c.step.new.self.owners
    (replaced_both (member_at c.in_ok-net.net.fans) (member_at c.step.new.self.fans) c.in_ok-net.net.nodes.items c.step.new.self.nodes.items c.in_ok-changes.ensures.replaced).many c.in_ok-changes.ensures.owners
    (built_owned c.args.program.now c.in_ok-net.net built.0 built.1 built.2 built.3 built.4 built.5 c.in_ok-net.ensures.sources c.in_ok-net.ensures.new_sources (length c.args.program.now.rules) built.6))

pub returns-clause-first : goal.returns-clause-first
returns-clause-first c runnable =
    let built = c.in_ok-net.ensures.built runnable in
    let first = step c (wired c runnable) in
    built_between c.args.program.now c.in_ok-net.net built.0 built.1 built.2 built.3 built.4 built.5 c.in_ok-net.ensures.sources c.in_ok-net.ensures.new_sources first.0 first.1 c.step.new.self c.in_ok-changes.changes.items c.in_ok-changes.ensures.ends first.2 runnable

pub returns-clause-net : goal.returns-clause-net
returns-clause-net c runnable =
    let built = c.in_ok-net.ensures.built runnable in
    let first = step c (wired c runnable) in
    net_under c.args.program.now c.step.new.self.nodes.items c.step.new.self.fans c.step.new.self.ends.items
    (built_net c.args.program.now c.in_ok-net.net built.0 built.1 built.2 built.3 built.4 built.5 c.in_ok-net.ensures.sources c.in_ok-net.ensures.new_sources first.0 first.1 c.step.new.self c.in_ok-changes.changes.items c.in_ok-changes.ensures.ends first.2)
