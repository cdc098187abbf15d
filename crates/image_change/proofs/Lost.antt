-- What a condition counts of forgotten facts beside a row is the same under other rules.
use Rattle.image_change.proofs.Common.{Condition, Existing, Fact, Folded, LifeTable, List, Named, Negated, None, Option, Pattern, Program, Row, Some, World, []}
use Rattle.image_change.proofs.Common.{ap, ap₂, binds, carried, length, lost_partners, map, moved_condition, moved_fact, name_of, option_and_then, option_map}
use Rattle.image_change.proofs.{Common.{pattern_of, refl, snapshot, values_gathered, version_at, ℕ, ◌<◌, ◌∙◌, ◌∷◌, ◌≡◌}, Kept.{IsTaken, are_moved}}
use Rattle.{image_change.proofs.Kept.{forgotten_same, moves, version_moved}, condition_rows.specs.Sets.{held, partners}, fold_fn.specs.Order.{in_rising_order}}
use Rattle.{join_tests.specs.Joins.{joins, passes_given, tuple_at, versions_at}, kept_meaning.specs.Kept.{is_forgotten}}
use Rattle.rule_change.{proofs.{Rows.{arguments_same, candidates_same, filter_mapped, passes_same}, Tests.{moved_tuple}}, specs.Changed.{changed}}
use Rattle.{rule_change.specs.Changed.{moved_pattern}, rule_model.specs.{Candidates.{candidates}, Lent.{tuple_of}, Tuples.{Tuple}}}
use Rattle.{rule_model.specs.declared.condition.Condition.TheVariants.{Plain}, std.specs.List.{filter}}

pub pattern_moved : (p q : Program) (c : Condition) → pattern_of (moved_condition p q c) ≡ moved_pattern p q (pattern_of c)
pattern_moved p q (Plain pattern) = refl
pattern_moved p q (Negated pattern) = refl
pattern_moved p q (Existing pattern) = refl
pattern_moved p q (Folded a) = refl

pub binds_moved : (p q : Program) (c : Condition) → binds (moved_condition p q c) ≡ binds c
binds_moved p q (Plain pattern) = refl
binds_moved p q (Negated pattern) = refl
binds_moved p q (Existing pattern) = refl
binds_moved p q (Folded a) = refl

module _ (p q : Program) (from : ℕ → Option ℕ) (table own : LifeTable) (w : World) (t : IsTaken p q from table own w) where
  abbrev next : World
  next = changed p q from w

  abbrev goes_on : LifeTable
  goes_on = carried p q table own

  versions_moved : (names : List Named) → versions_at (held (snapshot next)) names ≡ option_map (map (moved_fact p q)) (versions_at (held (snapshot w)) names)
  versions_moved [] = refl
  versions_moved (n ∷ names) =
      ap₂ (λ (first : Option Fact) (rest : Option (List Fact)). option_and_then (λ (f : Fact). option_map (λ (facts : List Fact). f ∷ facts) rest) first)
      (version_moved p q from table own w t n) (versions_moved names)
      ∙ by (version_at (held (snapshot w)) n) (versions_at (held (snapshot w)) names)
    where
      by : (first : Option Fact) (rest : Option (List Fact))
          → option_and_then (λ (f : Fact). option_map (λ (facts : List Fact). f ∷ facts) (option_map (map (moved_fact p q)) rest)) (option_map (moved_fact p q) first)
          ≡ option_map (map (moved_fact p q)) (option_and_then (λ (f : Fact). option_map (λ (facts : List Fact). f ∷ facts) rest) first)
      by None rest = refl
      by (Some f) None = refl
      by (Some f) (Some facts) = refl

  tuple_found : (row : Row) → tuple_at (held (snapshot next)) row ≡ option_map (moved_tuple p q) (tuple_at (held (snapshot w)) row)
  tuple_found row = ap (option_map (λ (facts : List Fact). tuple_of facts row.values)) (versions_moved row.facts) ∙ by (versions_at (held (snapshot w)) row.facts)
    where
      by : (o : Option (List Fact)) → option_map (λ (facts : List Fact). tuple_of facts row.values) (option_map (map (moved_fact p q)) o)
          ≡ option_map (moved_tuple p q) (option_map (λ (facts : List Fact). tuple_of facts row.values) o)
      by None = refl
      by (Some facts) = refl

  joins_moved : (pattern : Pattern) (row : Row) (who : Named) → joins (moved_pattern p q pattern) (held (snapshot next)) row who ≡ joins pattern (held (snapshot w)) row who
  unfolding joins
  joins_moved pattern row who =
      ap₂ (passes_given (moved_pattern p q pattern)) (tuple_found row) (version_moved p q from table own w t who)
      ∙ by (tuple_at (held (snapshot w)) row) (version_at (held (snapshot w)) who)
    where
      by : (o : Option Tuple) (there : Option Fact) → passes_given (moved_pattern p q pattern) (option_map (moved_tuple p q) o) (option_map (moved_fact p q) there) ≡ passes_given pattern o there
      by None there = refl
      by (Some tuple) None = refl
      by (Some tuple) (Some f) = passes_same p q (moves p q from table own w t) pattern tuple f

  module _ (pattern : Pattern) (type : pattern.ty.0 < length p.types) (entry : pattern.entry.0 < length p.entries) (row : Row) where
    partners_moved : partners q (moved_pattern p q pattern) (snapshot next) row ≡ map (moved_fact p q) (partners p pattern (snapshot w) row)
    unfolding partners
    partners_moved =
        ap (filter (λ (f : Fact). joins (moved_pattern p q pattern) (held (snapshot next)) row (name_of f)))
        (candidates_same p q (moves p q from table own w t) (snapshot w) (snapshot next) (are_moved p q from table own w t) pattern type entry)
        ∙ filter_mapped (moved_fact p q) (λ (f : Fact). joins pattern (held (snapshot w)) row (name_of f))
        (λ (f : Fact). joins (moved_pattern p q pattern) (held (snapshot next)) row (name_of f)) (candidates p pattern (snapshot w)) (λ f i. joins_moved pattern row (name_of f))

    pub lost_moved : lost_partners q (snapshot next) (is_forgotten q goes_on next) (moved_pattern p q pattern) row
        ≡ map (moved_fact p q) (lost_partners p (snapshot w) (is_forgotten p table w) pattern row)
    lost_moved =
        ap (filter (λ (f : Fact). is_forgotten q goes_on next (name_of f))) partners_moved
        ∙ filter_mapped (moved_fact p q) (λ (f : Fact). is_forgotten p table w (name_of f)) (λ (f : Fact). is_forgotten q goes_on next (name_of f))
        (partners p pattern (snapshot w) row) (λ f i. forgotten_same p q from table own w t (name_of f))

  pub gathered_moved : (c : Condition) (facts : List Fact) → values_gathered (moved_condition p q c) (map (moved_fact p q) facts) ≡ values_gathered c facts
  gathered_moved (Plain pattern) facts = refl
  gathered_moved (Negated pattern) facts = refl
  gathered_moved (Existing pattern) facts = refl
  gathered_moved (Folded a) facts = ap in_rising_order (arguments_same p q (moves p q from table own w t) a.arg facts)
