-- Candidates: versions of facts, each with its join value, in the order of their insertion.
use Rattle.std.specs.{Prelude.{ℕ, Bool, not, List, map, filter, nat_eq}, List.{list_any}}
use Rattle.fx_base.specs.{declared.value.Value.{Value}, Values.{same_value}}
use Rattle.row_delta.specs.declared.row.Named.{Named}

-- a version of a fact and its join value
abbrev pub Candidate : Type 0
Candidate = Named × Value

-- whether a candidate has this tag
abbrev pub is_tagged : ℕ → Candidate → Bool
is_tagged tag c = nat_eq tag c.0.tag.0

-- whether one of the candidates has this tag
abbrev pub has_candidate_tag : List Candidate → ℕ → Bool
has_candidate_tag candidates tag = list_any (is_tagged tag) candidates

-- the candidates without the one that has this tag
abbrev pub without_tag : List Candidate → ℕ → List Candidate
without_tag candidates tag = filter (λ c. not (is_tagged tag c)) candidates

-- the candidates that have this join value
abbrev pub with_join : List Candidate → Value → List Candidate
with_join candidates join = filter (λ c. same_value join c.1) candidates

-- the candidates without their join values
abbrev pub names_of : List Candidate → List Named
names_of candidates = map (λ c. c.0) candidates
