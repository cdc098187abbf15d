-- Whether some events can be a match of the patterns that bind events, as a function. `IsSolvable` of life_laws is what it decides
-- (src/laws.rt).
use Rattle.std.specs.Prelude.{Bool, List, []}
use Rattle.temporal_net.specs.Potentials.{is_solvable}
use Rattle.rule_model.specs.declared.{condition.Condition.{Condition}, program.Program.{Program}}
use Rattle.life_edges.specs.Edges.{edges_of_conditions}

unfoldable pub can_match : Program → List Condition → Bool
can_match p conditions = is_solvable (edges_of_conditions p conditions [] 0 conditions)
