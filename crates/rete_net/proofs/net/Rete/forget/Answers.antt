use Rattle.rete_net.proofs.{Common.{◌∙◌, sym, ap, subst, ℕ, List, length, has_name, AreRuled, AreListed, member_at, shown_nodes}, Dropping.{net_forgets}}
use Rattle.rete_net.proofs.{Dropping.{rules_drop}, Owning.{owned_again}, Fanning.{fans_again}, Fanwise.{wired_under}, Frames.{index_again, net_again}}
use Rattle.{rete_net.proofs.{Showing.{replaced_both}, Sourced.{sources_again}}, candidate_source.{specs.Sources.{is_other}, proofs.Moving.{lead_alike}}}
use Rattle.rete_net.proofs.net.Rete.forget.Goals as goal

pub returns-clause-stands : goal.returns-clause-stands
returns-clause-stands g c s forgotten stands has_all =
    let told = c.in_ok-dropped.ensures in
    let was = c.args.self.now in
    let now = c.forget_nodes.new.self in
    let forgot = told.forgot (wired_under c.args.program.now was.sources was.nodes.items was.fans was.ends.items was.index stands.nodes.shape stands.nodes.indexed) stands.nodes.fans stands.nodes.sources in
    let replaced = replaced_both (member_at was.fans) (member_at now.fans) was.nodes.items now.nodes.items told.replaced in
    let ends = ap (λ ends. ends.items) told.ends in
    net_forgets c.args.program.now (g.F.Facts.map c.args.facts.now) s forgotten (has_name c.args.old.now) was now forgot.dropped stands has_all ends told.quiet replaced.many forgot.forgot
    (index_again was.sources now.sources (shown_nodes was) (shown_nodes now) was.ends.items now.ends.items was.index now.index (λ k. ap (is_other k) (lead_alike was.sources now.sources told.sourced k)) replaced ends told.index stands.nodes.indexed)
    (told.scheduled stands.nodes.fans stands.nodes.sources.apart stands.nodes.scheduled)
    (fans_again was.nodes.items now.nodes.items was.fans now.fans told.replaced told.laid stands.nodes.fans)
    (sources_again was.nodes.items now.nodes.items was.fans now.fans was.sources now.sources stands.nodes.sources told.replaced told.laid.seats told.sourced (told.apart stands.nodes.sources.apart))
    (owned_again c.args.program.now stands.nodes.shape.conditions (length (shown_nodes was)) (length (shown_nodes now)) was.owners now.owners replaced.many told.owners stands.nodes.owned)

pub returns-clause-dropped : goal.returns-clause-dropped
returns-clause-dropped g c s forgotten stands has_all =
    let told = c.in_ok-dropped.ensures in
    let was = c.args.self.now in
    let now = c.forget_nodes.new.self in
    let forgot = told.forgot (wired_under c.args.program.now was.sources was.nodes.items was.fans was.ends.items was.index stands.nodes.shape stands.nodes.indexed) stands.nodes.fans stands.nodes.sources in
    let replaced = replaced_both (member_at was.fans) (member_at now.fans) was.nodes.items now.nodes.items told.replaced in
    let ends = ap (λ ends. ends.items) told.ends in
    let lent_ends = c.deref.ensures.value ∙ ends in
    rules_drop c.args.program.now (g.F.Facts.map c.args.facts.now) s forgotten (has_name c.args.old.now) was now forgot.dropped stands has_all ends told.quiet replaced.many forgot.forgot
    c.in_ok-answers.answers.items c.in_ok-dropped.dropped c.deref.result.now forgot.nothing forgot.known lent_ends
    (c.in_ok-answers.ensures.rows forgot.nothing (subst (AreRuled c.in_ok-dropped.dropped) (sym lent_ends) forgot.ruled))

pub returns-clause-listed : goal.returns-clause-listed
returns-clause-listed g c =
    subst (λ (ends : List ℕ). AreListed c.in_ok-answers.answers.items (length ends)) (c.deref.ensures.value ∙ ap (λ ends. ends.items) c.in_ok-dropped.ensures.ends) c.in_ok-answers.ensures.listed

pub returns-clause-net : goal.returns-clause-net
returns-clause-net g c p net =
    let told = c.in_ok-dropped.ensures in
    net_again p c.args.self.now.nodes.items c.forget_nodes.new.self.nodes.items c.args.self.now.ends.items c.forget_nodes.new.self.ends.items (ap (λ ends. ends.items) told.ends) told.replaced net
