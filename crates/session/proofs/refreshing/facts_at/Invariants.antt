use Rattle.session.proofs.Common.{◌≡◌, ◌++◌, drop, filter_map, lent}
use Rattle.std.specs.FinMap as map
use Rattle.session.proofs.refreshing.facts_at.Given as goal

abbrev pub invariant-loop-tag : goal.invariant-loop-tag
invariant-loop-tag l = lent l.found.items ++ filter_map (map.get l.facts) (drop l.tag-index l.tags) ≡ filter_map (map.get l.facts) l.tags
