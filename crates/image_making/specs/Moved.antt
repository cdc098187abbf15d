-- What is counted of forgotten facts, under the new rules.
use Rattle.std.specs.{Prelude.{◌≡◌, ◌<◌, ◌+◌, ℕ, ℤ, cond, List, map, take, Option, Some, None, slice_get}, BTreeMap.{BTreeMap, get}, Ordering.{eq_by_cmp}}
use Rattle.std.specs.{Ordering.{nat_cmp, ordering_then}, declared.cmp.Ordering.{Ordering}}
use Rattle.fx_base.specs.{Lists.{In}, declared.ids.RuleId.{RuleId}}
use Rattle.row_delta.specs.{declared.{extra.Extra.{Extra}, row.Row.{Row}}, Rows.{row_cmp}}
use Rattle.rule_change.specs.Changed.{moved_condition}
use Rattle.rule_model.specs.declared.{condition.Condition.{Condition}, program.{Program.{Program}, Rule.{Rule}}}

-- ---- where it goes

-- so many first conditions of a new rule are those of an old one
abbrev pub Begins : Program → Program → ℕ → List Condition → List Condition → Type 0
Begins p q many ours theirs = take many theirs ≡ map (moved_condition p q) (take many ours)

-- the first new rule that begins so; nothing where none does
abbrev pub IsFirstMoved : Program → Program → ℕ → List Condition → Option RuleId → Type 0
IsFirstMoved p q many ours None = (place : ℕ) (rule : Rule) → slice_get q.rules place ≡ Some rule → Begins p q many ours rule.conditions → ⊥
IsFirstMoved p q many ours (Some place) =
    (rule : Rule) × (slice_get q.rules place.0 ≡ Some rule) × Begins p q many ours rule.conditions
    × ((earlier : ℕ) (other : Rule) → earlier < place.0 → slice_get q.rules earlier ≡ Some other → Begins p q many ours other.conditions → ⊥)

-- the first new rule that begins as the old one of an extra, up to its condition
abbrev pub IsNewPlace : Program → Program → Extra → Option RuleId → Type 0
IsNewPlace p q extra place = (old : Rule) → slice_get p.rules extra.rule.0 ≡ Some old → IsFirstMoved p q (extra.condition + 1) old.conditions place

-- an extra goes on as this one
abbrev pub GoesOn : Program → Program → Extra → Extra → Type 0
GoesOn p q was e = (e ≡ record was { rule = e.rule }) × IsNewPlace p q was (Some e.rule)

-- one of these goes on as this one
abbrev pub IsMoved : Program → Program → List Extra → Extra → Type 0
IsMoved p q extras e = (was : Extra) × In was extras × GoesOn p q was e

-- first conditions of old rules that are the same under their new places are the same
abbrev pub MovesApart : Program → Program → Type 0
MovesApart p q =
    (a b n : ℕ) (one other : Rule) → slice_get p.rules a ≡ Some one → slice_get p.rules b ≡ Some other
    → map (moved_condition p q) (take n one.conditions) ≡ map (moved_condition p q) (take n other.conditions) → take n one.conditions ≡ take n other.conditions

-- ---- in a map

abbrev pub Place : Type 0
Place = RuleId × (ℕ × Row)

abbrev pub Beyond : Type 0
Beyond = ℕ × List ℤ

-- places are ordered as extras are
abbrev pub place_cmp : Place → Place → Ordering
place_cmp a b = ordering_then (nat_cmp a.0.0 b.0.0) (ordering_then (nat_cmp a.1.0 b.1.0) (row_cmp a.1.1 b.1.1))

abbrev pub place_of : Extra → Place
place_of e = (e.rule, (e.condition, e.row))

abbrev pub beyond_of : Extra → Beyond
beyond_of e = (e.count, e.values)

-- the extra stands in its place
abbrev pub extra_in : BTreeMap Place Beyond → Extra → Type 0
extra_in moved e = get place_cmp moved (place_of e) ≡ Some (beyond_of e)

abbrev pub IsPutAt : Extra → Option RuleId → BTreeMap Place Beyond → BTreeMap Place Beyond → Type 0
IsPutAt extra None was is = is ≡ was
IsPutAt extra (Some rule) was is =
    (place : Place) → get place_cmp is place ≡ cond (eq_by_cmp place_cmp (place_of (record extra { rule = rule })) place) (Some (beyond_of extra)) (get place_cmp was place)

-- an extra is put where it goes on, if it does
abbrev pub IsPut : Program → Program → Extra → BTreeMap Place Beyond → BTreeMap Place Beyond → Type 0
IsPut p q extra was is = (place : Option RuleId) × IsNewPlace p q extra place × IsPutAt extra place was is
