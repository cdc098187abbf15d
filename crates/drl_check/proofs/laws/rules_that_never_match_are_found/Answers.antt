use Rattle.drl_check.proofs.Solvable.{never_matches_is_exact}
use Rattle.drl_check.proofs.laws.rules_that_never_match_are_found.Goals as goal

pub returns : goal.returns
returns c = never_matches_is_exact
