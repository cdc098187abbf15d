use Rattle.candidate_source.proofs.{Common.{◌≡◌, length}, Growing.{AreAllLoaded}}
use Rattle.candidate_source.proofs.sources.Sources.load.Given as goal

-- those before a place are loaded
abbrev pub invariant-loop-source : goal.invariant-loop-source
invariant-loop-source g l = record {
  count : length l.list.items ≡ l.source-index;
  loaded : AreAllLoaded l.groups l.clock (g.F.Facts.map l.facts) l.source-items l.list.items;
}
