use Rattle.drl_parse.proofs.LineLaws.{SoFar}
use Rattle.drl_parse.proofs.lines.lines_of.Given as goal

abbrev pub invariant-loop-offset : goal.invariant-loop-offset
invariant-loop-offset l = SoFar l.bytes l.offsets l.lines.items l.offset-index l.before l.walked
