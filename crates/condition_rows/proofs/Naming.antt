-- What the rows of conditions name.
use Rattle.condition_rows.proofs.Common.{◌≡◌, ap, subst, List, true, Row, Condition, Program, HaveDistinctTags, Snapshot, versions_at, held, rows_of, is_some}
use Rattle.condition_rows.proofs.{Common.{NameHeld}, Holding.{versions_of}, Ends.{tuple_of_row}, Joined.{made_facts}}

pub rows_named : (p : Program) (s : Snapshot) → HaveDistinctTags s.facts → (cs : List Condition) → NameHeld s (rows_of p s cs)
rows_named p s d cs row e =
    let t = tuple_of_row p s cs row e in
    subst (λ (r : Row). is_some (versions_at (held s) r.facts) ≡ true) t.2 (ap is_some (versions_of (held s) t.0.facts (made_facts p s d cs t.0 t.1)))
