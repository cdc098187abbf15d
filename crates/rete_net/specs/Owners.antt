-- Under which rule, and at which of its conditions, what a node counts beyond its candidates is told.
use Rattle.std.specs.{Prelude.{◌≡◌, ◌<◌, ◌≤◌, ◌⊎◌, ◌∷◌, ◌++◌, ℕ, suc, List, [], length, take, Some, slice_get}, declared.cmp.Ordering.{Ordering}}
use Rattle.std.specs.{List.Sorted.{IsStrictlySortedBy}, Ordering.{nat_cmp, ordering_then}}
use Rattle.fx_base.specs.Lists.{In}
use Rattle.rule_model.specs.declared.{condition.Condition.{Condition}, program.{Program.{Program}, Rule.{Rule}}}
use Rattle.laden_rows.specs.Extras.{IsFirstWith}
use Rattle.rete_net.specs.declared.build.Owner.{Owner}

-- The owner of a node with these conditions: the first rule that has them as its first ones, and the place of the last of them.
pub record IsOwned (p : Program) (conditions : List Condition) (o : Owner) : Type 0 where
  pub rule : Rule
  pub stands : slice_get p.rules o.rule.0 ≡ Some rule
  pub within : o.condition < length rule.conditions
  pub own : conditions ≡ take (suc o.condition) rule.conditions
  pub first : IsFirstWith p (suc o.condition) rule.conditions o.rule.0

-- owners are ordered by rule, then condition
abbrev pub owner_cmp : Owner → Owner → Ordering
owner_cmp a b = ordering_then (nat_cmp a.rule.0 b.rule.0) (nat_cmp a.condition b.condition)

-- nodes of these conditions, so many, have these owners, which rise with the nodes
pub record AreNodeOwners (p : Program) (conditions : ℕ → List Condition) (many : ℕ) (owners : List Owner) : Type 0 where
  pub count : length owners ≡ many
  pub each : (k : ℕ) (o : Owner) → slice_get owners k ≡ Some o → IsOwned p (conditions k) o
  pub rising : IsStrictlySortedBy owner_cmp owners

-- ---- while a network is built

-- each of these lists of conditions has its owner: of the first rules, so many, all fronts are among them, and of one more the first so many
pub record AreOwnedSoFar (p : Program) (all : List (List Condition)) (owners : List Owner) (rule : ℕ) (conditions : List Condition) (i : ℕ) : Type 0 where
  pub count : length owners ≡ length all
  pub each : (k : ℕ) (cs : List Condition) (o : Owner) → slice_get all k ≡ Some cs → slice_get owners k ≡ Some o → IsOwned p cs o
  pub rising : IsStrictlySortedBy owner_cmp owners
  pub below : (o : Owner) → In o owners → (o.rule.0 < rule) ⊎ ((o.rule.0 ≡ rule) × (o.condition < i))
  pub earlier : (place : ℕ) (other : Rule) → place < rule → slice_get p.rules place ≡ Some other → (q : ℕ) → 1 ≤ q → q ≤ length other.conditions
      → (k : ℕ) × (slice_get all k ≡ Some (take q other.conditions))
  pub own : (q : ℕ) → 1 ≤ q → q ≤ i → (k : ℕ) × (slice_get all k ≡ Some (take q conditions))

-- a list of conditions is among them and nothing changes, or it is put behind them with this owner
abbrev pub PutsOwner : List (List Condition) → List (List Condition) → List Condition → Owner → List Owner → List Owner → Type 0
PutsOwner all more own owner old new =
    ((more ≡ []) × (new ≡ old)) ⊎ ((more ≡ own ∷ []) × (new ≡ old ++ owner ∷ []) × ((k : ℕ) → slice_get all k ≡ Some own → ⊥))
