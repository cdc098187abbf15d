use Rattle.fold_fn.proofs.{Rising.{times-rising, rising_same}, Sorting.{sorted-rising}}
use Rattle.fold_fn.proofs.laws.rising_law.Goals as goal

pub returns-clause-keeps : goal.returns-clause-keeps
returns-clause-keeps c = λ xs v. times-rising v xs

pub returns-clause-rises : goal.returns-clause-rises
returns-clause-rises c = sorted-rising

pub returns-clause-same : goal.returns-clause-same
returns-clause-same c = rising_same
