use Rattle.rete_net.proofs.Common.{◌≡◌, ◌∙◌, sym, ap, subst, ◌<◌, inl, inr, Some, slice_get, length, arith, ℕ, get_or, true, false, slice_get_within}
use Rattle.{rete_net.proofs.Common.{slice_get-get_or, NetNode, is_in, is_listed, IsNodeFound}, std.specs.Global.{Vec}, fx_base.proofs.Sequences.{one_value}}
use Rattle.{fx_base.proofs.Orders.{below_or_last}, candidate_source.specs.Sources.{is_follower}}
use Rattle.rete_net.proofs.index.Index.of.Goals as goal

-- the node in the place of the loop
at : (c : goal.In_ok-put_first) → slice_get c.args.nodes.now c.loop-place.place ≡ Some c.index-nodes-place.result
at c = slice_get-get_or c.args.nodes.now c.loop-place.place c.index-nodes-place.result c.loop-place-test.true ∙ ap Some (sym c.index-nodes-place.is)

pub loop-place-preserved : goal.loop-place-preserved
loop-place-preserved c = record {
  found = λ k n lt e apart.
      c.in_ok-put_first.ensures.nodes k n
      (elim (below_or_last k c.loop-place.place lt) [
        | inl below ↦ c.in_ok-put_node.ensures.kept k n (c.loop-place.invariant.found k n below e apart)
        | inr here ↦
            let is : c.index-nodes-place.result ≡ n = one_value (slice_get c.args.nodes.now c.loop-place.place) c.index-nodes-place.result n (at c) (ap (slice_get c.args.nodes.now) (sym here) ∙ e) in
            subst (λ (m : NetNode). IsNodeFound c.put_node.new.self k m) is
            (subst (λ (i : ℕ). IsNodeFound c.put_node.new.self i c.index-nodes-place.result) (sym here)
            (c.in_ok-put_node.ensures.found (subst (λ (i : ℕ). is_follower c.args.sources.now i ≡ false) here apart)))
      ]);
  firsts = λ k n lt e alone.
      elim (below_or_last k c.loop-place.place lt) [
        | inl below ↦ c.in_ok-put_first.ensures.kept k (ap (λ (firsts : Vec ℕ). is_in firsts.items k) c.in_ok-put_node.ensures.firsts ∙ c.loop-place.invariant.firsts k n below e alone)
        | inr here ↦
            let is : c.index-nodes-place.result ≡ n = one_value (slice_get c.args.nodes.now c.loop-place.place) c.index-nodes-place.result n (at c) (ap (slice_get c.args.nodes.now) (sym here) ∙ e) in
            subst (λ (i : ℕ). is_in c.put_first.new.self.firsts.items i ≡ true) (sym here) (c.in_ok-put_first.ensures.first (ap (λ (m : NetNode). m.parent) is ∙ alone))
      ];
}

pub loop-rule-init : goal.loop-rule-init
loop-rule-init c = record {
  found = λ k n e apart.
      let within : k < length c.args.nodes.now = slice_get_within c.args.nodes.now k n e in
      let was = c.loop-place.invariant.found k n (omega arith) e apart in
      record { typed = was.typed; asked = λ f meant. c.in_ok-settle.ensures f k (was.asked f meant) };
  firsts = λ k n e alone.
      let within : k < length c.args.nodes.now = slice_get_within c.args.nodes.now k n e in
      c.loop-place.invariant.firsts k n (omega arith) e alone;
  ended = λ rule end lt e. absurd (omega arith);
}

pub loop-rule-preserved : goal.loop-rule-preserved
loop-rule-preserved c = record {
  found = λ k n e apart. c.in_ok-put_rule.ensures.nodes k n (c.loop-rule.invariant.found k n e apart);
  firsts = λ k n e alone. ap (λ (firsts : Vec ℕ). is_in firsts.items k) c.in_ok-put_rule.ensures.firsts ∙ c.loop-rule.invariant.firsts k n e alone;
  ended = λ rule end lt e.
      elim (below_or_last rule c.loop-rule.rule lt) [
        | inl below ↦ c.in_ok-put_rule.ensures.kept end rule (c.loop-rule.invariant.ended rule end below e)
        | inr at ↦
            let found : slice_get c.args.ends.now c.loop-rule.rule ≡ Some (get_or c.args.ends.now c.loop-rule.rule 0) = slice_get-get_or c.args.ends.now c.loop-rule.rule 0 c.loop-rule-test.true in
            let both : Some (get_or c.args.ends.now c.loop-rule.rule 0) ≡ Some end = sym found ∙ ap (slice_get c.args.ends.now) (sym at) ∙ e in
            let is : get_or c.args.ends.now c.loop-rule.rule 0 ≡ end = cc in
            subst (λ (i : ℕ). is_listed c.put_rule.new.self.rules i rule ≡ true) is
            (subst (λ (i : ℕ). is_listed c.put_rule.new.self.rules (get_or c.args.ends.now c.loop-rule.rule 0) i ≡ true) (sym at) c.in_ok-put_rule.ensures.rule)
      ];
}

pub returns : goal.returns
returns c = record {
  found = c.loop-rule.invariant.found;
  firsts = c.loop-rule.invariant.firsts;
  ended = λ rule end e.
      let within : rule < length c.args.ends.now = slice_get_within c.args.ends.now rule end e in
      c.loop-rule.invariant.ended rule end (omega arith) e;
}
