use Rattle.fact_store.proofs.Newer.{newest_found, newest_greatest, newest_none}
use Rattle.fact_store.proofs.versions.Versions.newest_tag.Goals as goal

pub returns-clause-found : goal.returns-clause-found
returns-clause-found c = newest_found c.self.inside.newest c.self.inside.older.keys c.self.invariant c.args.self.now c.self.view_is c.args.id c.get.result c.get.ensures

pub returns-clause-greatest : goal.returns-clause-greatest
returns-clause-greatest c = newest_greatest c.self.inside.newest c.self.inside.older.keys c.self.invariant c.args.self.now c.self.view_is c.args.id c.get.result c.get.ensures

pub returns-clause-none : goal.returns-clause-none
returns-clause-none c = newest_none c.self.inside.newest c.self.inside.older.keys c.self.invariant c.args.self.now c.self.view_is c.args.id c.get.result c.get.ensures
