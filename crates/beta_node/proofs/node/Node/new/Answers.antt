use Rattle.beta_node.proofs.Common.{◌∙◌, sym, ap, SFits, to_z-of_z, w128, Accumulate, Pattern, no_rows, counts_blockers, counts_witnesses, gathers}
use Rattle.beta_node.proofs.{Common.{empty_snapshot, floor, blocker_tallies}, Moved.{stands_empty, counts_empty}, Turning.{waits_on_time}}
use Rattle.beta_node.proofs.node.Node.new.Goals as goal

pub returns-in_ok-pattern-in-Plain-clause-stands : goal.returns-in_ok-pattern-in-Plain-clause-stands
returns-in_ok-pattern-in-Plain-clause-stands c look forgotten = stands_empty c.args.program.now c.new.result.memories look forgotten (c.new.ensures.nothing look forgotten)

pub returns-in_ok-pattern-in-Negated-clause-stands : goal.returns-in_ok-pattern-in-Negated-clause-stands
returns-in_ok-pattern-in-Negated-clause-stands c look forgotten =
    let p = c.args.program.now in
    let new = c.new-in-Negated in
    let fits : SFits w128 c.first_floor-floor.result = search in
    let floor_is = simp to_z-of_z at new.ensures.floor in
    waits_on_time p new.result look empty_snapshot no_rows forgotten (counts_empty counts_blockers p (blocker_tallies new.result) look forgotten (new.ensures.nothing look forgotten)) (new.ensures.in_step p look)
    (floor_is ∙ c.first_floor-floor.ensures ∙ ap (λ (q : Pattern). floor p empty_snapshot q.entry.0) (sym new.ensures.pattern))

pub returns-in_ok-pattern-in-Existing-clause-stands : goal.returns-in_ok-pattern-in-Existing-clause-stands
returns-in_ok-pattern-in-Existing-clause-stands c look forgotten =
    counts_empty counts_witnesses c.args.program.now c.new-in-Existing.result.memories look forgotten (c.new-in-Existing.ensures.nothing look forgotten)

pub returns-in_ok-accumulate-in-Folded-clause-stands : goal.returns-in_ok-accumulate-in-Folded-clause-stands
returns-in_ok-accumulate-in-Folded-clause-stands c look forgotten =
    let new = c.new-tally in
    let copy = c.in_ok-accumulate-in-Folded in
    record {
      counts = counts_empty (gathers copy.accumulate) c.args.program.now new.result.memories look forgotten (new.ensures.nothing look forgotten);
      pattern = new.ensures.pattern ∙ c.in_ok-pattern-in-Folded.ensures ∙ ap (λ (a : Accumulate). a.pattern) (sym copy.ensures);
    }
