use Rattle.rete_net.proofs.Common.{◌≡◌, ◌∙◌, ap, sym, subst, ◌+◌, ◌<◌, ◌≤◌, arith, List, length, slice_get, Extra, HaveDistinctTags, held, rows_of, rows_named}
use Rattle.rete_net.proofs.Common.{at_clock, rising, Condition, AreExtrasBeside, condition_of, node_moves, member_at, showing, shown_nodes, taking, Node}
use Rattle.rete_net.proofs.{Common.{NodeStands, before}, Stillness.{taking_lends}, Counting.{AreFirst, none_first, one_more_first, all_of_them, beside_seen}}
use Rattle.rete_net.proofs.{Counting.{same_before}, Seen.{at_hand_at}, Showing.{condition_shown, shown_at, shown_length}, Turning.{held_has}}
use Rattle.{candidate_source.specs.Sources.{source_at}, fx_base.proofs.Sequences.{get-below}}
use Rattle.rete_net.proofs.net.Rete.extras.Goals as goal

pub loop-place-init : goal.loop-place-init
loop-place-init g c p s forgotten stands has =
    let net = c.args.self.now in
    subst (λ (es : List Extra). AreFirst p (shown_nodes net) net.ends.items stands.nodes.shape net.owners.items stands.nodes.owned s forgotten 0 es) (sym c.new-all.ensures.items)
    (none_first p (shown_nodes net) net.ends.items stands.nodes.shape net.owners.items stands.nodes.owned s forgotten)

pub loop-place-preserved : goal.loop-place-preserved
loop-place-preserved g c p s forgotten stands has =
    let net = c.args.self.now in
    let look = g.F.Facts.map c.args.facts.now in
    let k = c.loop-place.place in
    let long : c.len-place-end.result ≡ length net.nodes.items = c.len-place-end.ensures ∙ net.nodes.ok.0 in
    let lt : c.loop-place.place < length net.nodes.items = omega (arith, long) in
    let owned = stands.nodes.owned in
    let many = shown_length (member_at net.fans) net.nodes.items in
    let count = owned.count in
    let n = get-below net.nodes.items k lt in
    let m = member_at net.fans k in
    let shows = shown_at (member_at net.fans) net.nodes.items k n.0 n.1 in
    let o = get-below net.owners.items k (omega (arith, count, many, lt)) in
    let was = at_clock s stands.seen in
    let behind = before stands.nodes.shape.conditions (showing m n.0).parent in
    let tags : HaveDistinctTags s.facts = rising s.facts stands.kept.in_order in
    let at_hand = at_hand_at look s stands.seen forgotten has in
    let named = rows_named p was tags behind in
    let source = source_at net.sources k in
    let node = node_moves p (held was) look was (rows_of p was behind) forgotten (held_has was forgotten) at_hand named (taking source (showing m n.0)).node (stands.nodes.nodes k (showing m n.0) shows).stands.node in
    let told = c.in_ok-extras.ensures n.0 o.0 m n.1 o.1 p was (rows_of p was behind) forgotten tags at_hand named
    (subst (λ (x : Node). NodeStands p x look was (rows_of p was behind) forgotten) (taking_lends source (showing m n.0)) node) in
    let told_of = subst (λ (x : Condition). AreExtrasBeside p x was (rows_of p was behind) forgotten o.0.rule o.0.condition c.in_ok-extras.extras.items) (sym (condition_shown m n.0)) told in
    let here = beside_seen p s stands.seen tags forgotten (condition_of (showing m n.0).node) behind (stands.unchanged.same_candidates k (showing m n.0) shows)
    (same_before p (shown_nodes net) net.ends.items stands.nodes.shape s was forgotten stands.unchanged k (showing m n.0) shows) o.0.rule o.0.condition c.in_ok-extras.extras.items told_of in
    subst (λ (es : List Extra). AreFirst p (shown_nodes net) net.ends.items stands.nodes.shape net.owners.items owned s forgotten (k + 1) es) (sym c.in_ok-append.ensures.items)
    (one_more_first p (shown_nodes net) net.ends.items stands.nodes.shape net.owners.items owned s forgotten k (showing m n.0) o.0 shows o.1 c.loop-place.all.items c.in_ok-extras.extras.items
    (c.loop-place.invariant p s forgotten stands has) here)

pub returns : goal.returns
returns g c p s forgotten stands has =
    let net = c.args.self.now in
    let long : c.len-place-end.result ≡ length net.nodes.items = c.len-place-end.ensures ∙ net.nodes.ok.0 in
    let many = shown_length (member_at net.fans) net.nodes.items in
    let over : length (shown_nodes net) ≤ c.loop-place.place = omega (arith, long, many) in
    all_of_them p (shown_nodes net) net.ends.items stands.nodes.shape net.owners.items stands.nodes.owned s forgotten c.loop-place.place c.loop-place.all.items over
    (c.loop-place.invariant p s forgotten stands has)
