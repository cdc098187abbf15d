use Rattle.life_laws.proofs.{Keeps.{tuple_names_kept, tuple_meets_kept}, Remains.{match_names_kept, kept_before}}
use Rattle.life_laws.proofs.what_comes_is_kept.Goals as goal

pub returns-clause-tuples : goal.returns-clause-tuples
returns-clause-tuples c = tuple_names_kept

pub returns-clause-matches : goal.returns-clause-matches
returns-clause-matches c = match_names_kept

pub returns-clause-meets : goal.returns-clause-meets
returns-clause-meets c = tuple_meets_kept

pub returns-clause-before : goal.returns-clause-before
returns-clause-before c = kept_before
