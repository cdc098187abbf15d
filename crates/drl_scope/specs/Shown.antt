-- What the program keeps of a variable, as a meaning.
use Rattle.drl_scope.specs.declared.sight.Seen.{Seen}
use Rattle.drl_scope.specs.declared.sight.Seen.TheVariants as seen
use Rattle.drl_scope.specs.Sight.{Meaning, of_fact, of_field, of_result}

abbrev pub meant : Seen → Meaning
meant (seen.Fact fact ty) = of_fact fact ty.now
meant (seen.Field fact field kind) = of_field fact field kind
meant (seen.Result result) = of_result result
