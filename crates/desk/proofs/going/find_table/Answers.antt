use Rattle.{std.proofs.lemmas.Result.{IfOk-weaker}, desk.proofs.Goings.{barred_of}}
use Rattle.desk.proofs.going.find_table.Goals as goal

pub returns-clause-found : goal.returns-clause-found
returns-clause-found c =
    let own = c.in_ok-inferred in IfOk-weaker c.find_with.result _ _ (λ it found. (own.inferred, own.ensures.inferred, found)) c.find_with.ensures.found

pub returns-clause-safe : goal.returns-clause-safe
returns-clause-safe c =
    let own = c.in_ok-inferred in
    IfOk-weaker c.find_with.result _ _ (λ it found. c.as_long_lives_are_safe.ensures c.args.program.now own.inferred.own it.table own.ensures.inferred.own own.ensures.safe.short found.2.as_long)
    c.find_with.ensures.found

pub returns-clause-barred : goal.returns-clause-barred
returns-clause-barred c =
    barred_of c.args.program.now c.args.later c.args.beginning.now c.args.lives c.in_ok-inferred.inferred c.in_ok-inferred.ensures.inferred c.find_with.result c.find_with.ensures.barred
