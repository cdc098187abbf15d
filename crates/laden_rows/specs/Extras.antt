-- What conditions count or gather of forgotten facts beside rows that name none.
use Rattle.std.specs.{Prelude.{◌≡◌, ◌<◌, ◌↔◌, ℕ, suc, ℤ, Bool, true, false, List, [], map, length, take, Some, slice_get}, declared.cmp.Ordering.{Ordering}}
use Rattle.std.specs.{Ordering.{nat_cmp, ordering_then}, List.{filter, Sorted.{IsStrictlySortedBy}}}
use Rattle.fx_base.specs.{Lists.{In}, declared.fact.Fact.{Fact}}
use Rattle.fold_fn.specs.Order.{in_rising_order}
use Rattle.row_delta.specs.{declared.{extra.Extra.{Extra}, row.{Named.{Named}, Row.{Row}}}, Rows.{row_cmp}}
use Rattle.rule_model.specs.declared.{condition.{Condition.{Condition, TheVariants.{Folded}}, Pattern.{Pattern}}, program.{Program.{Program}, Rule.{Rule}}}
use Rattle.rule_model.specs.{Rows.{argument, binds, pattern_of}, Snapshots.{Snapshot}, Tuples.{name_of}}
use Rattle.join_memory.specs.Standing.{clean}
use Rattle.condition_rows.specs.Sets.{partners, rows_of}

-- ---- prefixes that rules share

-- The rule in this place is the first that has these first conditions, so many of them.
pub record IsFirstWith (p : Program) (n : ℕ) (conditions : List Condition) (place : ℕ) : Type 0 where
  pub rule : Rule
  pub stands : slice_get p.rules place ≡ Some rule
  pub begins : take n rule.conditions ≡ take n conditions
  pub earlier : (k : ℕ) (other : Rule) → k < place → slice_get p.rules k ≡ Some other → take n other.conditions ≡ take n conditions → ⊥

-- ---- what is counted of forgotten facts

-- the forgotten candidates of a pattern that join a row
abbrev pub lost_partners : Program → Snapshot → (Named → Bool) → Pattern → Row → List Fact
lost_partners p s forgotten pattern row = filter (λ (f : Fact). forgotten (name_of f)) (partners p pattern s row)

-- what a condition gathers of facts, rising; one that is no accumulate gathers nothing
abbrev pub values_gathered : Condition → List Fact → List ℤ
values_gathered (Folded a) facts = in_rising_order (map (argument a.arg) facts)
values_gathered c facts = []

-- In a snapshot a condition that binds no fact counts forgotten facts beside a row that names none: their number, and what it gathers of
-- them. Of rules that share the conditions up to this one the first is named.
pub record IsExtraIn (p : Program) (s : Snapshot) (forgotten : Named → Bool) (e : Extra) : Type 0 where
  pub rule : Rule
  pub stands : slice_get p.rules e.rule.0 ≡ Some rule
  pub condition : Condition
  pub placed : slice_get rule.conditions e.condition ≡ Some condition
  pub aside : binds condition ≡ false
  pub first : IsFirstWith p (suc e.condition) rule.conditions e.rule.0
  pub there : rows_of p s (take e.condition rule.conditions) e.row ≡ true
  pub kept : clean forgotten e.row ≡ true
  pub some : 0 < e.count
  pub counted : e.count ≡ length (lost_partners p s forgotten (pattern_of condition) e.row)
  pub gathered : e.values ≡ values_gathered condition (lost_partners p s forgotten (pattern_of condition) e.row)

-- extras are ordered by rule, condition and row
abbrev pub extra_cmp : Extra → Extra → Ordering
extra_cmp a b = ordering_then (nat_cmp a.rule.0 b.rule.0) (ordering_then (nat_cmp a.condition b.condition) (row_cmp a.row b.row))

-- these are all of them, in their order
pub record AreExtras (p : Program) (s : Snapshot) (forgotten : Named → Bool) (extras : List Extra) : Type 0 where
  pub in_order : IsStrictlySortedBy extra_cmp extras
  pub exact : (e : Extra) → In e extras ↔ IsExtraIn p s forgotten e
