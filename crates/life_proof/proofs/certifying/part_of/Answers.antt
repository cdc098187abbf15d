use Rattle.life_proof.proofs.Common.{List, sym, subst, IfOk-weaker, IsUnboundedDifference, Condition, start_point_of, end_of, HaveNetwork, Part, edges_for}
use Rattle.life_proof.proofs.{Common.{IsGoodPart, IsSolvedPart}, Asked.{fits}, Certified.{bounded, part_good}}
use Rattle.life_proof.proofs.certifying.part_of.Goals as goal

pub part_among-requires-clause-network : goal.part_among-requires-clause-network
part_among-requires-clause-network c =
    subst HaveNetwork (sym c.scope_of.ensures) (fits c.args.program.now c.args.asked.now c.requires.runnable c.requires.asked.places).network

pub part_among-requires-clause-rule : goal.part_among-requires-clause-rule
part_among-requires-clause-rule c = (fits c.args.program.now c.args.asked.now c.requires.runnable c.requires.asked.places).rule

pub part_among-requires-clause-from : goal.part_among-requires-clause-from
part_among-requires-clause-from c = (fits c.args.program.now c.args.asked.now c.requires.runnable c.requires.asked.places).from

pub part_among-requires-clause-to : goal.part_among-requires-clause-to
part_among-requires-clause-to c = (fits c.args.program.now c.args.asked.now c.requires.runnable c.requires.asked.places).to

pub part_among-requires-clause-bounded : goal.part_among-requires-clause-bounded
part_among-requires-clause-bounded c u =
    let p = c.args.program.now in
    let a = c.args.asked.now in
    bounded p c.args.lives.now a c.requires.runnable c.requires.lives c.requires.asked
    (subst (λ (cs : List Condition). IsUnboundedDifference (edges_for p cs a.from a.to) (start_point_of a.to) (end_of a.from)) c.scope_of.ensures u)

pub returns : goal.returns
returns c =
    let p = c.args.program.now in
    let a = c.args.asked.now in
    IfOk-weaker c.part_among.result (IsSolvedPart p c.scope_of.result.now a) (IsGoodPart p a)
    (λ (part : Part) s. part_good p c.args.lives.now a c.requires.runnable c.requires.lives c.requires.asked part
    (subst (λ (cs : List Condition). IsSolvedPart p cs a part) c.scope_of.ensures s))
    c.part_among.ensures
