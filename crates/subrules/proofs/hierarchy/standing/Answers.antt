use Rattle.subrules.proofs.{Common.{◌∙◌, sym, ap, map, option_and_then, slice_get}, KnownLaws.{up_is}}
use Rattle.subrules.proofs.hierarchy.standing.Goals as goal

pub returns-in-Some-clause-up : goal.returns-in-Some-clause-up
returns-in-Some-clause-up c =
    ap (option_and_then (λ k. slice_get (map (λ t. t.now) c.args.types.now) k)) c.entry.ensures
    ∙ up_is (map (λ t. t.now) c.args.types.now) c.args.parents.now c.args.place c.in-Some.tree.now c.requires (sym c.in-Some.ensures)
