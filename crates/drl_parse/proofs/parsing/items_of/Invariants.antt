use Rattle.drl_parse.proofs.{Common.{length, whole_at, item_at}, ItemTurns.{SoFar}}
use Rattle.drl_parse.proofs.parsing.items_of.Given as goal

abbrev pub invariant-loop-own : goal.invariant-loop-own
invariant-loop-own l = SoFar (whole_at item_at) l.tokens l.lines l.items.items l.number l.rest l.rest_lines

abbrev pub decreases-loop-own : goal.decreases-loop-own
decreases-loop-own l = length l.rest
