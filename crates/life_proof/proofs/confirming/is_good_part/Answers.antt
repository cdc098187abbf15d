use Rattle.life_proof.proofs.{Common.{◌≤◌, length, List, sym, subst, Condition, NameEarlier}, Asked.{fits}}
use Rattle.life_proof.proofs.confirming.is_good_part.Goals as goal

pub is_shown-requires-clause-few : goal.is_shown-requires-clause-few
is_shown-requires-clause-few c =
    let f = fits c.args.program.now c.args.asked.now c.requires.runnable c.requires.places in
    subst (λ (conditions : List Condition). length conditions ≤ 8) (sym c.scope_of.ensures) f.network.few

pub is_shown-requires-clause-named : goal.is_shown-requires-clause-named
is_shown-requires-clause-named c =
    let f = fits c.args.program.now c.args.asked.now c.requires.runnable c.requires.places in
    subst NameEarlier (sym c.scope_of.ensures) f.network.named

pub is_shown-requires-clause-from : goal.is_shown-requires-clause-from
is_shown-requires-clause-from c = (fits c.args.program.now c.args.asked.now c.requires.runnable c.requires.places).from

pub is_shown-requires-clause-to : goal.is_shown-requires-clause-to
is_shown-requires-clause-to c = (fits c.args.program.now c.args.asked.now c.requires.runnable c.requires.places).to
