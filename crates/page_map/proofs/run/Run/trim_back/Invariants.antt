use Rattle.page_map.proofs.Common.{IsTrimmed}
use Rattle.page_map.proofs.run.Run.trim_back.Given as goal

abbrev pub invariant-loop-count : goal.invariant-loop-count
invariant-loop-count l = IsTrimmed l.initial.self.first l.initial.self.directories.items l.self.first l.self.directories.items
