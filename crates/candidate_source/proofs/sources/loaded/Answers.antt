use Rattle.{candidate_source.{proofs.Common.{◌∙◌, subst, List, Pattern}, specs.Sources.{facts_of_type, IsLoadedWith}}, std.proofs.Common.{to_z-of_z}}
use Rattle.fx_base.specs.declared.fact.Fact.{Fact}
use Rattle.candidate_source.proofs.sources.loaded.Goals as goal

pub returns : goal.returns
returns g c =
    let fits = c.ranges.clock in
    let load = c.in_ok-loaded.ensures in
    let gate = simp to_z-of_z at load.gate in
    let names = simp to_z-of_z at load.names in
    let look = g.F.Facts.map c.args.facts.now in
    let pattern = c.in_ok-pattern.ensures ∙ c.pattern.ensures in
    let facts = c.of_type-given.ensures (c.deref.ensures.value ∙ c.new-none.ensures.items) in
    subst (λ (q : Pattern). IsLoadedWith q (facts_of_type c.args.groups.now q.ty.0) c.args.clock look c.in_ok-loaded.loaded) pattern
    (subst (λ (facts : List Fact). IsLoadedWith c.in_ok-pattern.pattern facts c.args.clock look c.in_ok-loaded.loaded) facts
    (record { pattern = load.pattern; gate = gate; names = names; listed = load.listed; agrees = load.agrees; reached = load.reached }))
