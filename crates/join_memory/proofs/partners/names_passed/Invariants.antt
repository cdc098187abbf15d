use Rattle.join_memory.proofs.Common.{◌≡◌, ◌++◌, filter, option_map, keys_of, entries, name_joins}
use Rattle.join_memory.proofs.partners.names_passed.Given as goal

abbrev pub invariant-loop-who : goal.invariant-loop-who
invariant-loop-who g l = l.names.items ++ filter (name_joins l.pattern (g.F.Facts.map l.facts) (option_map (λ v. v.now) l.under) l.row) l.who-iterator ≡ filter (name_joins l.pattern (g.F.Facts.map l.facts) (option_map (λ v. v.now) l.under) l.row) (keys_of (entries l.bucket))
