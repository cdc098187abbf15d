use Rattle.rete_net.{proofs.{Common.{◌∙◌, sym, ap, subst, [], List, Row}, Reached.{found_less, found_more, found_still}}, specs.Lending.{IsFoundAnew}}
use Rattle.{std.proofs.lemmas.List.{take_all}, candidate_source.specs.declared.source.Source.{Source}, beta_node.specs.Lending.{node_keeps_under}}
use Rattle.fx_base.specs.declared.value.Value.{Value}
use Rattle.rete_net.proofs.node.NetNode.find_anew.Goals as goal
use Rattle.rete_net.proofs.node.NetNode.find_anew.Goals.{then-not-has_rows_under, else-not-has_rows_under}

pub loop-row-init : goal.loop-row-init
loop-row-init g c = found_still c.args.self.now.node (g.F.Facts.map c.args.facts.now) c.args.place c.args.source.now

pub loop-row-preserved : goal.loop-row-preserved
loop-row-preserved g c =
    let n = c.args.self.now.node in
    let look = g.F.Facts.map c.args.facts.now in
    elim c.if-not-has_rows_under.branch [
      | then-not-has_rows_under w ↦
          subst (λ (s : Source). IsFoundAnew n look c.args.place [] c.args.source.now s) (sym w.source-is)
          (found_less n look c.args.place c.args.source.now c.loop-row.source w.take_reached.new.self w.value-then-not-has_rows_under.result.now w.take_reached.ensures.gate w.take_reached.ensures.own c.loop-row.invariant w.take_reached.ensures.reached
          (λ row. ap (λ (v : Value). node_keeps_under n v row) (w.value-then-not-has_rows_under.ensures ∙ sym c.value.ensures) ∙ c.has_rows_under.ensures.none w.if-not-has_rows_under.true row))
      | else-not-has_rows_under w ↦ subst (λ (s : Source). IsFoundAnew n look c.args.place [] c.args.source.now s) (sym w.source-is) c.loop-row.invariant
    ]

pub loop-row-2-preserved : goal.loop-row-2-preserved
loop-row-2-preserved g c =
    found_more c.args.self.now.node (g.F.Facts.map c.args.facts.now) c.args.place c.args.source.now c.loop-row-2.source c.put_reached.new.self c.in_ok-value.value c.in_ok-put_reached.ensures.gate c.in_ok-put_reached.ensures.own
    c.args.came.now c.loop-row-2.row-index c.loop-row-2-test.true c.row-item-in-loop-row-2.result c.row-item-in-loop-row-2.result c.row-item-in-loop-row-2.is (c.in_ok-value.ensures ∙ c.row_value.ensures)
    c.loop-row-2.invariant c.in_ok-put_reached.ensures.reached

pub returns : goal.returns
returns g c =
    subst (λ (rows : List Row). IsFoundAnew c.args.self.now.node (g.F.Facts.map c.args.facts.now) c.args.place rows c.args.source.now c.loop-row-2.source) (take_all c.loop-row-2.row-index c.args.came.now c.loop-row-2-test.false) c.loop-row-2.invariant
