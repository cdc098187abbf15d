-- How often the pending matches name each tag.
use Rattle.std.specs.{Prelude.{◌≡◌, ℕ, ◌==◌, ℤ, List, count_by, nat_eq}, List.{sum_by}, Map.{count_at, lookup}}
use Rattle.row_delta.specs.declared.row.Named.{Named}
use Rattle.agenda.specs.{Agendas.{AllWell}, declared.ranked.Ranked.{Ranked}}

-- how often facts have the tag; two conditions of a rule may have bound one fact
abbrev pub times_in : ℕ → List Named → ℕ
times_in tag facts = count_by (λ (n : Named). tag == n.tag.0) facts

-- how often matches name the tag
abbrev pub namings : List Ranked → ℕ → ℕ
namings ks tag = sum_by (λ (k : Ranked). times_in tag k.matched.row.facts) ks

-- what counts by tags have for the tag; 0 where they have nothing
abbrev pub times : List (ℕ × ℕ) → ℕ → ℕ
times named tag = count_at (λ t. lookup (nat_eq t) named) tag

-- they have for each tag how often the matches name it
pub record CountsNamings (named : List (ℕ × ℕ)) (ks : List Ranked) : Type 0 where
  pub each : (tag : ℕ) → times named tag ≡ namings ks tag

-- ranked matches have the keys of their matches, and what they name is counted
pub record IsSoundAgenda (saliences : List ℤ) (ks : List Ranked) (named : List (ℕ × ℕ)) : Type 0 where
  pub well : AllWell saliences ks
  pub counts : CountsNamings named ks
