use Rattle.not_node.proofs.{Common.{◌∙◌, to_z, of_z, to_z-of_z, w128}, Pairs.{sub_turn, low_turn, found_turned, all_found}}
use Rattle.not_node.proofs.ripening.Ripening.ripen.Goals as goal

pub due-preserved : goal.due-preserved
due-preserved c =
    let init = c.args.self.now.waiting.keys in
    let cur = c.due.self.waiting.keys in
    let new = c.take_due.new.self.waiting.keys in
    let k = c.in-Some.pair in
    let floor = to_z w128 (of_z w128 c.args.floor) in
    let due = c.in-Some.ensures.due in
    let taken = c.in-Some.ensures.taken in
    record {
      sub = sub_turn init cur new k floor due.0 due.1 taken c.due.invariant.sub;
      low = λ at r over. low_turn init cur new k floor due.0 due.1 taken at r over (c.due.invariant.low at r over);
      found = λ moment own r. found_turned init cur new k floor due.0 due.1 taken c.due.invariant.sub moment own c.due.found.items c.push.new.self.items c.in_ok-push.ensures.items r (c.due.invariant.found moment own r);
    }

pub returns-clause-found : goal.returns-clause-found
returns-clause-found c moment own r =
    let fits = c.ranges.floor in
    c.due.invariant.found moment own r
    ∙ all_found c.args.self.now.waiting.keys c.due.self.waiting.keys c.args.floor r (λ at. simp to_z-of_z at c.due.invariant.low at r) (λ at. simp to_z-of_z at c.in_default.ensures.above at r) (moment r)
