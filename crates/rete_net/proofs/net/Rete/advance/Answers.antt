use Rattle.rete_net.proofs.Common.{Bool, length, option_map, lent, Named, Snapshot, NetStands, AreScheduled, no_change, NetStep, IsWired, member_at}
use Rattle.rete_net.proofs.{Common.{shown_nodes, AreFans, AreSources}, Owning.{owned_again}, Fanning.{fans_again}, Fanwise.{wired_under}, Frames.{net_again}}
use Rattle.rete_net.proofs.{Showing.{replaced_both}, Seen.{net_stands, net_between}, Turns.{settled}, net.Rete.advance.Given.{Over}}
use Rattle.candidate_source.specs.Sources.{source_at}
use Rattle.rete_net.proofs.net.Rete.advance.Goals as goal

-- the step of the nodes, at the moment that was given, where nothing comes to the first of them
step : (g : Over) (c : goal.After-drop-none-3 g) → IsWired c.args.self.now.sources c.args.self.now.nodes.items c.args.self.now.ends.items c.args.self.now.index
    → AreScheduled c.args.program.now c.args.self.now.sources c.args.self.now.nodes.items c.args.self.now.schedule
    → AreFans c.args.self.now.nodes.items c.args.self.now.fans → AreSources c.args.self.now.nodes.items c.args.self.now.fans c.args.self.now.sources
    → NetStep c.args.program.now (g.F.Facts.map c.args.facts.now) (lent c.args.gone.now) (option_map (λ f. f.now) c.args.come) c.args.moment.now no_change (source_at c.args.self.now.sources) (source_at c.step.new.self.sources) (shown_nodes c.args.self.now) (shown_nodes c.step.new.self) c.args.self.now.ends.items c.in_ok-changes.changes.items
step g c wired scheduled fans are =
    settled c.args.program.now (g.F.Facts.map c.args.facts.now) (lent c.args.gone.now) (option_map (λ f. f.now) c.args.come) c.args.moment.now c.no_change-none.result no_change (source_at c.args.self.now.sources) (source_at c.step.new.self.sources)
    (shown_nodes c.args.self.now) (shown_nodes c.step.new.self) c.args.self.now.ends.items c.in_ok-changes.changes.items c.no_change-none.ensures (c.in_ok-changes.ensures.stepped wired scheduled fans are)

wired : (g : Over) (c : goal.After-drop-none-3 g) (s : Snapshot) (forgotten : Named → Bool) → NetStands c.args.program.now c.args.self.now s forgotten → IsWired c.args.self.now.sources c.args.self.now.nodes.items c.args.self.now.ends.items c.args.self.now.index
wired g c s forgotten stands = wired_under c.args.program.now c.args.self.now.sources c.args.self.now.nodes.items c.args.self.now.fans c.args.self.now.ends.items c.args.self.now.index stands.nodes.shape stands.nodes.indexed

pub returns-clause-stands : goal.returns-clause-stands
returns-clause-stands g c s next forgotten runnable stands moves at apart has has_now =
    net_stands c.args.program.now (g.F.Facts.map c.args.facts.now) s next (lent c.args.gone.now) (option_map (λ f. f.now) c.args.come) c.args.moment.now forgotten c.args.self.now c.step.new.self c.in_ok-changes.changes.items
    moves at apart has has_now stands c.in_ok-changes.ensures.ends (step g c (wired g c s forgotten stands) stands.nodes.scheduled stands.nodes.fans stands.nodes.sources)
    (c.in_ok-changes.ensures.quiet stands.nodes.fans stands.nodes.sources stands.nodes.scheduled)
    (c.in_ok-changes.ensures.indexed stands.nodes.indexed) (c.in_ok-changes.ensures.scheduled stands.nodes.fans stands.nodes.sources.apart stands.nodes.scheduled)
    (fans_again c.args.self.now.nodes.items c.step.new.self.nodes.items c.args.self.now.fans c.step.new.self.fans c.in_ok-changes.ensures.replaced c.in_ok-changes.ensures.laid stands.nodes.fans)
    (c.in_ok-changes.ensures.sources stands.nodes.sources)
    (owned_again c.args.program.now stands.nodes.shape.conditions (length (shown_nodes c.args.self.now)) (length (shown_nodes c.step.new.self)) c.args.self.now.owners c.step.new.self.owners
    (replaced_both (member_at c.args.self.now.fans) (member_at c.step.new.self.fans) c.args.self.now.nodes.items c.step.new.self.nodes.items c.in_ok-changes.ensures.replaced).many
    c.in_ok-changes.ensures.owners stands.nodes.owned)

pub returns-clause-differences : goal.returns-clause-differences
returns-clause-differences g c s next forgotten runnable stands moves at apart has has_now =
    net_between c.args.program.now (g.F.Facts.map c.args.facts.now) s next (lent c.args.gone.now) (option_map (λ f. f.now) c.args.come) c.args.moment.now forgotten c.args.self.now c.step.new.self c.in_ok-changes.changes.items
    moves at apart has has_now stands c.in_ok-changes.ensures.ends (step g c (wired g c s forgotten stands) stands.nodes.scheduled stands.nodes.fans stands.nodes.sources) runnable

pub returns-clause-net : goal.returns-clause-net
returns-clause-net g c p net =
    net_again p c.args.self.now.nodes.items c.step.new.self.nodes.items c.args.self.now.ends.items c.step.new.self.ends.items c.in_ok-changes.ensures.ends
    c.in_ok-changes.ensures.replaced net

pub returns-clause-rules : goal.returns-clause-rules
returns-clause-rules g c few = c.in_ok-changes.ensures.rules few
