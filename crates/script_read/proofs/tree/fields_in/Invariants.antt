use Rattle.script_read.proofs.{Common.{IsRising}, Fields.{AreSoFar}}
use Rattle.script_read.proofs.tree.fields_in.Given as goal

abbrev pub invariant-loop-name : goal.invariant-loop-name
invariant-loop-name l = record {
  so_far : AreSoFar l.members l.name-index l.fields.items;
  rising : IsRising l.fields.items;
}
