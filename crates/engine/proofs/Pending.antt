-- Each match of a lawful world stands once.
use Rattle.{std.proofs.Common.{◌≡◌, ◌+◌, ◌≤◌, inl, inr, ℕ, List, [], ◌∷◌, map, ap, arith, not}, fx_base.specs.Lists.{In, EachOnce}}
use Rattle.{fx_base.proofs.Sequences.{In-append}, row_delta.specs.declared.row.Row.{Row}, rule_model.specs.declared.matched.Match.{Match}}
use Rattle.rule_model.specs.{declared.program.{Program.{Program}, Rule.{Rule}}, Matches.{match_of, matches_from, matches, has_match, rows_by_rule}}
use Rattle.rule_model.{specs.{Snapshots.{Snapshot}, Distinct.{HaveDistinctTags}}, proofs.{Listed.{of_map}, Once.{once_append, once_filter, once_map}}}
use Rattle.{rule_model.proofs.Once.{rows_once}, rule_world.specs.{Lawful.{IsLawful}, Worlds.{World, snapshot, pending}}}

-- each row of each of these stands once
abbrev AllOnce : List (List Row) → Type 0
AllOnce [] = Unit {0}
AllOnce (found ∷ more) = EachOnce found × AllOnce more

-- matches are of the first rule or of a later one
later : (k : ℕ) (founds : List (List Row)) (m : Match) → In m (matches_from k founds) → k ≤ m.rule.0
unfolding matches_from
later k [] m i = absurd i
later k (found ∷ more) m i = elim (In-append m (map (match_of k) found) (matches_from (k + 1) more) i) [
  | inl j ↦ (let r = of_map (match_of k) m found j in let at : k ≡ m.rule.0 = ap (λ (z : Match). z.rule.0) r.2 in omega (arith, at))
  | inr j ↦ (let at : k + 1 ≤ m.rule.0 = later (k + 1) more m j in omega (arith, at))
]

once_from : (k : ℕ) (founds : List (List Row)) → AllOnce founds → EachOnce (matches_from k founds)
unfolding matches_from
once_from k [] once = tt
once_from k (found ∷ more) once =
    once_append (map (match_of k) found) (matches_from (k + 1) more)
    (once_map (match_of k) found once.0 (λ x y i j e. ap (λ (m : Match). m.row) e)) (once_from (k + 1) more once.1)
    (λ m i j.
    let r = of_map (match_of k) m found i in
    let at : k ≡ m.rule.0 = ap (λ (z : Match). z.rule.0) r.2 in
    let above : k + 1 ≤ m.rule.0 = later (k + 1) more m j in
    absurd (omega (arith, at, above)))

all_once : (p : Program) (s : Snapshot) → HaveDistinctTags s.facts → (rules : List Rule) → AllOnce (rows_by_rule p s rules)
all_once p s distinct [] = tt
all_once p s distinct (rule ∷ rules) = (rows_once p s distinct rule.conditions, all_once p s distinct rules)

pub matches_once : (p : Program) (s : Snapshot) → HaveDistinctTags s.facts → EachOnce (matches p s)
matches_once p s distinct = once_from 0 (rows_by_rule p s p.rules) (all_once p s distinct p.rules)

pub pending_once : (p : Program) (w : World) → IsLawful p w → EachOnce (pending p w)
pending_once p w lawful = once_filter (λ (m : Match). not (has_match w.fired m)) (matches p (snapshot w)) (matches_once p (snapshot w) lawful.ordered.tags)
