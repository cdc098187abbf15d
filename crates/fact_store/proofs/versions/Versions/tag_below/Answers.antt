use Rattle.fact_store.proofs.Newer.{below_found, below_greatest, below_none}
use Rattle.fact_store.proofs.versions.Versions.tag_below.Goals as goal

pub returns-then-tag-gt0-clause-greatest : goal.returns-then-tag-gt0-clause-greatest
returns-then-tag-gt0-clause-greatest c =
    below_greatest c.self.inside.newest c.self.inside.older.keys c.self.invariant c.args.self.now c.self.view_is c.args.id c.args.tag c.if-tag-gt0.true c.requires c.greatest.result c.greatest.ensures.greatest

pub returns-then-tag-gt0-clause-none : goal.returns-then-tag-gt0-clause-none
returns-then-tag-gt0-clause-none c =
    below_none c.self.inside.newest c.self.inside.older.keys c.self.invariant c.args.self.now c.self.view_is c.args.id c.args.tag c.if-tag-gt0.true c.requires c.greatest.result c.greatest.ensures.none

pub returns-then-tag-gt0-clause-found : goal.returns-then-tag-gt0-clause-found
returns-then-tag-gt0-clause-found c =
    below_found c.self.inside.newest c.self.inside.older.keys c.self.invariant c.args.self.now c.self.view_is c.args.id c.args.tag c.if-tag-gt0.true c.requires c.greatest.result c.greatest.ensures.found
