use Rattle.fact_store.proofs.Holding.{pair_undone}
use Rattle.fact_store.proofs.store.enter.Goals as goal

pub returns-in-Err-clause-same_pairs : goal.returns-in-Err-clause-same_pairs
returns-in-Err-clause-same_pairs c =
    pair_undone c.args.by_id.now c.add.new.self c.remove.new.self c.args.fact.now.id.0 c.args.fact.now.tag.0 c.requires c.in_ok-add.ensures.ok c.remove.ensures
