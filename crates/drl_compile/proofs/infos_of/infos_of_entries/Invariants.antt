use Rattle.drl_compile.proofs.Common.{◌≡◌, ◌++◌, map, drop, entry_info}
use Rattle.drl_compile.proofs.infos_of.infos_of_entries.Given as goal

abbrev pub invariant-loop-name : goal.invariant-loop-name
invariant-loop-name l = l.infos.items ++ map (entry_info l.items) (drop l.name-index l.entries) ≡ map (entry_info l.items) l.entries
