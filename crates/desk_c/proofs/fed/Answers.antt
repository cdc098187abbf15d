use Rattle.desk_c.proofs.{Behind.{neither}, fed.Goals.{in-Ok-true, in-Ok-false, in-Err-NoMemory, in-Err-Long, in-Err-Ended}}
use Rattle.desk_c.proofs.fed.Goals as goal

pub returns-clause-fed : goal.returns-clause-fed
returns-clause-fed c which course before out has = elim c.match-feed_any.branch [
  | in-Ok-true w ↦ (rw c.deref_mut.ensures.value at w.in-Ok-true.ensures.fed) course before out has
  | in-Ok-false w ↦ (rw c.deref_mut.ensures.value at w.in-Ok-false.ensures.fed) course before out has
  | in-Err-NoMemory w ↦ absurd (neither _ _ 0 11 w.status-is (λ e. cc) (λ e. cc) which)
  | in-Err-Long w ↦ absurd (neither _ _ 0 11 w.status-is (λ e. cc) (λ e. cc) which)
  | in-Err-Ended w ↦ absurd (neither _ _ 0 11 w.status-is (λ e. cc) (λ e. cc) which)
]
