use Rattle.rete_net.proofs.Common.{◌≡◌, ◌∙◌, ap, subst, ℕ, ◌<◌, ◌^◌, length, List, Err, Some, slice_get, pos, ◌≤ℤ◌, In, Delta, lent, RuleChange, NoRow}
use Rattle.rete_net.proofs.{Common.{answer_in, AreRuled, changes_from, delta_at, no_change, member_at, member_of, shown_nodes}, Filling.{same_fault}}
use Rattle.rete_net.proofs.{Fanning.{fans_again}, Fanwise.{net_under, wired_under}, Frames.{net_again}, Fresh.{fresh_each}, Showing.{replaced_both}}
use Rattle.rete_net.proofs.{Sourced.{sources_again}, Stillness.{all_quiet}, Resumed.{loaded_stands}, Sharing.{extra_missing, extras_there, laden_changes}}
use Rattle.{rete_net.proofs.Starting.{built_shape, shape_owned}, candidate_source.specs.Sources.{source_at}}
use Rattle.rete_net.proofs.net.Rete.load.Goals as goal

pub returns-clause-net : goal.returns-clause-net
returns-clause-net g c runnable =
    let built = c.in_ok-net.ensures.built runnable in
    let sources = c.in_ok-net.ensures.sources in
    let new = c.in_ok-net.ensures.new_sources in
    let told = c.in_ok-answered.ensures in
    net_again c.args.program.now c.in_ok-net.net.nodes.items c.load_nodes.new.self.nodes.items c.in_ok-net.net.ends.items c.load_nodes.new.self.ends.items (ap (λ ends. ends.items) told.ends) told.replaced
    (net_under c.args.program.now c.in_ok-net.net.nodes.items c.in_ok-net.net.fans c.in_ok-net.net.ends.items (built_shape c.args.program.now c.in_ok-net.net built.0 built.1 built.2 built.3 built.4 built.5 sources new))

pub returns-clause-rules : goal.returns-clause-rules
returns-clause-rules g c few =
    let same : length c.deref.result.now ≡ length c.args.program.now.rules =
    ap (λ (ends : List ℕ). length ends) (c.deref.ensures.value ∙ ap (λ ends. ends.items) c.in_ok-answered.ensures.ends) ∙ c.in_ok-net.ensures.count in
    subst (λ n. n < 2 ^ 16 → (change : RuleChange) → In change c.in_ok-changes.changes.items → change.rule.0 < n) same c.in_ok-changes.ensures.rules few

pub returns-clause-rows : goal.returns-clause-rows
returns-clause-rows g c t owners can own =
    let p = c.args.program.now in
    let net = c.in_ok-net.net in
    let built = c.in_ok-net.ensures.built can.runnable in
    let sources = c.in_ok-net.ensures.sources in
    let new = c.in_ok-net.ensures.new_sources in
    let shape = built_shape p net built.0 built.1 built.2 built.3 built.4 built.5 sources new in
    let wired = wired_under p net.sources net.nodes.items net.fans net.ends.items net.index shape c.in_ok-net.ensures.indexed in
    let fans = c.in_ok-net.ensures.fans in
    laden_changes p (g.F.Facts.map c.args.facts.now) t (lent c.args.kept.now) c.args.extras.now c.args.moment.now can owners own (shown_nodes net) net.ends.items shape net.owners.items
    (shape_owned p net built.0 built.1 built.2 built.3 built.4 built.5 sources new (length p.rules) built.6) (source_at net.sources) (fresh_each p net sources new built.1.fresh)
    (source_at c.load_nodes.new.self.sources) (shown_nodes c.load_nodes.new.self) c.in_ok-answered.answered (c.in_ok-answered.ensures.loaded wired can.in_order fans sources) c.in_ok-changes.changes.items
    (subst (λ (ends : List ℕ). length ends < 2 ^ 16 → (first : Delta) (deltas : List Delta) → c.in_ok-answered.answered.none ≡ no_change → AreRuled c.in_ok-answered.answered ends
    → ((rule end : ℕ) → slice_get ends rule ≡ Some end → delta_at first deltas end ≡ answer_in c.in_ok-answered.answered end) → c.in_ok-changes.changes.items ≡ changes_from first deltas 0 ends)
    (c.deref.ensures.value ∙ ap (λ ends. ends.items) c.in_ok-answered.ensures.ends) c.in_ok-changes.ensures.changes)

pub returns-clause-all_there : goal.returns-clause-all_there
returns-clause-all_there g c t owners can own =
    let p = c.args.program.now in
    let net = c.in_ok-net.net in
    let built = c.in_ok-net.ensures.built can.runnable in
    let sources = c.in_ok-net.ensures.sources in
    let new = c.in_ok-net.ensures.new_sources in
    let shape = built_shape p net built.0 built.1 built.2 built.3 built.4 built.5 sources new in
    let wired = wired_under p net.sources net.nodes.items net.fans net.ends.items net.index shape c.in_ok-net.ensures.indexed in
    let fans = c.in_ok-net.ensures.fans in
    extras_there p (g.F.Facts.map c.args.facts.now) t (lent c.args.kept.now) c.args.extras.now c.args.moment.now can owners own (shown_nodes net) net.ends.items shape net.owners.items
    (shape_owned p net built.0 built.1 built.2 built.3 built.4 built.5 sources new (length p.rules) built.6) (source_at net.sources) (fresh_each p net sources new built.1.fresh)
    (source_at c.load_nodes.new.self.sources) (shown_nodes c.load_nodes.new.self) c.in_ok-answered.answered (c.in_ok-answered.ensures.loaded wired can.in_order fans sources)

pub returns-clause-stands : goal.returns-clause-stands
returns-clause-stands g c s t forgotten can behind =
    let p = c.args.program.now in
    let net = c.in_ok-net.net in
    let built = c.in_ok-net.ensures.built can.runnable in
    let sources = c.in_ok-net.ensures.sources in
    let new = c.in_ok-net.ensures.new_sources in
    let shape = built_shape p net built.0 built.1 built.2 built.3 built.4 built.5 sources new in
    let wired = wired_under p net.sources net.nodes.items net.fans net.ends.items net.index shape c.in_ok-net.ensures.indexed in
    let fans = c.in_ok-net.ensures.fans in
    let told = c.in_ok-answered.ensures in
    let now = c.load_nodes.new.self in
    let sources_now = sources_again net.nodes.items now.nodes.items net.fans now.fans net.sources now.sources sources told.replaced told.laid.seats told.sourced (told.apart sources.apart) in
    loaded_stands p (g.F.Facts.map c.args.facts.now) t (lent c.args.kept.now) c.args.extras.now c.args.moment.now can net _ shape
    (shape_owned p net built.0 built.1 built.2 built.3 built.4 built.5 sources new (length p.rules) built.6) (fresh_each p net sources new built.1.fresh)
    c.in_ok-answered.answered (told.loaded wired can.in_order fans sources)
    (replaced_both (member_at net.fans) (member_at now.fans) net.nodes.items now.nodes.items told.replaced) told.ends told.owners told.index told.sourced c.in_ok-net.ensures.indexed told.scheduled
    (fans_again net.nodes.items now.nodes.items net.fans now.fans told.replaced told.laid fans) sources_now
    (all_quiet p now.nodes.items now.fans now.sources sources_now now.schedule told.scheduled c.first-net.result c.first-net.ensures (member_at now.fans) (λ k s of. ap (member_of now.fans.list.items) (sources_now.unseated k s of)))
    s forgotten behind (subst (λ z. pos 0 ≤ℤ z) behind.kept.clock can.begun)

pub returns-in_err-answered-clause-no_row : goal.returns-in_err-answered-clause-no_row
returns-in_err-answered-clause-no_row g c fault t owners can own =
    let p = c.args.program.now in
    let net = c.in_ok-net.net in
    let built = c.in_ok-net.ensures.built can.runnable in
    let sources = c.in_ok-net.ensures.sources in
    let new = c.in_ok-net.ensures.new_sources in
    let shape = built_shape p net built.0 built.1 built.2 built.3 built.4 built.5 sources new in
    let wired = wired_under p net.sources net.nodes.items net.fans net.ends.items net.index shape c.in_ok-net.ensures.indexed in
    let fans = c.in_ok-net.ensures.fans in
    extra_missing p (g.F.Facts.map c.args.facts.now) t (lent c.args.kept.now) c.args.extras.now c.args.moment.now can owners own (shown_nodes net) net.ends.items shape net.owners.items
    (shape_owned p net built.0 built.1 built.2 built.3 built.4 built.5 sources new (length p.rules) built.6) (source_at net.sources) (fresh_each p net sources new built.1.fresh)
    (c.in_err-answered.ensures.stuck (ap Err (same_fault c.from_residual-in_err-answered.result c.in_err-answered.field-0.0 NoRow fault c.from_residual-in_err-answered.ensures.1)) wired can.in_order fans sources)
