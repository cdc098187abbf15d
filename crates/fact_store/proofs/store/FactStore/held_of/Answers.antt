use Rattle.std.specs.FinMap as map
use Rattle.fact_store.proofs.{Common.{stored}, Raising.{counts_ids}}
use Rattle.fact_store.proofs.store.FactStore.held_of.Goals as goal

pub returns : goal.returns
returns c =
    counts_ids (stored c.self.inside.slots (map.entries c.self.inside.by_tag)) c.args.self.now c.self.inside.counts.items c.args.ty.0 c.count_of.result c.self.invariant.2 c.self.view_is c.count_of.ensures
