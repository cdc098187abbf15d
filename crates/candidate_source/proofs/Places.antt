-- The nodes that are found under the values of rows that are sought for a candidate.
use Rattle.candidate_source.proofs.Common.{◌∙◌, ap, sym, refl, ◌≡◌, ℕ, List, [], ◌∷◌, Bool, true, false, ◌&&◌, ◌||◌, not, Option, Some, None, is_some, list_any}
use Rattle.candidate_source.proofs.Common.{eq_by_cmp, nat_cmp, Value, same_value, Pattern, bucket_at, JoinIndex, Sight, Look, Named, rows_sought, values_seen}
use Rattle.candidate_source.proofs.Common.{SeesRows, has_place, is_under, is_under_one, is_sought, IsUnreached, BTreeMap, Handed, Turned, IsHandedTo}
use Rattle.{candidate_source.proofs.Behind.{handed_alike, handed_then}, std.{proofs.lemmas.Map.Made.{is_some-lookup}, specs.BTreeMap.{is_at}}}
use Rattle.std.specs.{List.{AllByRecursion, Sorted.{IsStrictlySortedBy}}, Map.{keys_of, lookup}, Option.{option_and_then}, Prelude.{IfSome}}
use Rattle.{std.specs.declared.cmp.Ordering.TheVariants.{Less}, fx_base.proofs.Orders.{eq_by_nat_cmp-flip, eq_by_nat_cmp-true}}
use Rattle.fx_base.specs.SameValues.{equal_values}

abbrev Reached : Type 0
Reached = JoinIndex Value ℕ (Unit {0})

-- ---- a bucket

pub under_bucket : (reached : Reached) (value : Value) (k : ℕ) (there : List (ℕ × Unit {0})) → bucket_at same_value reached value ≡ Some there → is_under reached value k ≡ has_place (keys_of there) k
under_bucket reached value k there is = ap (λ (found : Option (List (ℕ × Unit {0}))). is_some (option_and_then (lookup (is_at (nat_cmp k))) found)) is ∙ is_some-lookup (is_at (nat_cmp k)) there

pub under_none : (reached : Reached) (value : Value) (k : ℕ) → bucket_at same_value reached value ≡ None → is_under reached value k ≡ false
under_none reached value k is = ap (λ (found : Option (List (ℕ × Unit {0}))). is_some (option_and_then (lookup (is_at (nat_cmp k))) found)) is

pub one_place : (place k : ℕ) → eq_by_cmp nat_cmp place k ≡ has_place (place ∷ []) k
one_place place k = eq_by_nat_cmp-flip place k ∙ by (eq_by_cmp nat_cmp k place)
  where
    by : (b : Bool) → b ≡ (b || false)
    by true = refl
    by false = refl

-- ---- the places of a bucket, one after another

pub none_above : (x : ℕ) (ys : List ℕ) → AllByRecursion (λ y. nat_cmp x y ≡ Less) ys → has_place ys x ≡ false
none_above x [] above = refl
none_above x (y ∷ ys) above = rw above.0 (none_above x ys above.1)

apart_from : (place : ℕ) (places : List ℕ) (k : ℕ) (out : Bool) → has_place places place ≡ false → ((eq_by_cmp nat_cmp place k && out) && (has_place places k && out)) ≡ false
apart_from place places k out is = by (eq_by_cmp nat_cmp place k) (has_place places k) out (λ e. ap (has_place places) (sym (eq_by_nat_cmp-true place k e)) ∙ is)
  where
    by : (e h o : Bool) → (e ≡ true → h ≡ false) → ((e && o) && (h && o)) ≡ false
    by true h true g = ap (λ h. h && true) (g refl)
    by true h false g = refl
    by false h o g = refl

joined_with : (e h out : Bool) → ((e && out) || (h && out)) ≡ ((e || h) && out)
joined_with true true true = refl
joined_with true true false = refl
joined_with true false true = refl
joined_with true false false = refl
joined_with false h out = refl

module _ (turned : Turned) (place : ℕ) (places : List ℕ) (out : ℕ → Bool) (now next after : BTreeMap ℕ Handed) (sorted : IsStrictlySortedBy nat_cmp (place ∷ places)) where
  pub handed_each : IsHandedTo turned (λ k. eq_by_cmp nat_cmp place k && out k) now next → IsHandedTo turned (λ k. has_place places k && out k) next after
      → IsHandedTo turned (λ k. has_place (place ∷ places) k && out k) now after
  unfolding IsStrictlySortedBy
  handed_each one rest =
      handed_then turned _ _ _ now next after (λ k. apart_from place places k (out k) (none_above place places sorted.0))
      (λ k. joined_with (eq_by_cmp nat_cmp place k) (has_place places k) (out k) ∙ ap (λ e. (e || has_place places k) && out k) (eq_by_nat_cmp-flip place k)) one rest

-- ---- one value, or two

in_one : (a : Bool) → (a && not false) ≡ (a || false)
in_one true = refl
in_one false = refl

not_in_both : (a b : Bool) → ((a && not false) && (b && not a)) ≡ false
not_in_both true true = refl
not_in_both true false = refl
not_in_both false b = refl

in_either : (a b : Bool) → ((a && not false) || (b && not a)) ≡ (a || (b || false))
in_either true b = refl
in_either false true = refl
in_either false false = refl

module _ (reached : Reached) (turned : Turned) (before between after : BTreeMap ℕ Handed) (a : Value) (values : List Value) where
  pub handed_one : values ≡ a ∷ [] → IsHandedTo turned (λ k. is_under reached a k && not false) before after → IsHandedTo turned (is_under_one reached values) before after
  handed_one is = handed_alike turned _ _ before after (λ k. in_one (is_under reached a k) ∙ ap (λ (vs : List Value). is_under_one reached vs k) (sym is))

  pub handed_both : (b : Value) → values ≡ a ∷ (b ∷ []) → IsHandedTo turned (λ k. is_under reached a k && not false) before between
      → IsHandedTo turned (λ k. is_under reached b k && not (is_under reached a k)) between after → IsHandedTo turned (is_under_one reached values) before after
  handed_both b is =
      handed_then turned _ _ _ before between after (λ k. not_in_both (is_under reached a k) (is_under reached b k))
      (λ k. in_either (is_under reached a k) (is_under reached b k) ∙ ap (λ (vs : List Value). is_under_one reached vs k) (sym is))

-- ---- what is sought

-- by the sight of a candidate that is answered where a test holds
pub sought_by : (reached : Reached) (p : Pattern) (look : Look) (who : Named) (sight : Option Sight) (there : Bool) → is_some sight ≡ there → IfSome sight (SeesRows p look who)
    → (k : ℕ) → is_sought reached sight k ≡ (there && is_under_one reached (rows_sought p look who) k)
sought_by reached p look who None there is sees k = ap (λ b. b && is_under_one reached (rows_sought p look who) k) is
sought_by reached p look who (Some sight) there is sees k =
    ap (λ values. is_under_one reached values k) sees ∙ ap (λ b. b && is_under_one reached (rows_sought p look who) k) is

unreached_one : (reached : Reached) (k : ℕ) → IsUnreached reached k → (values : List Value) → is_under_one reached values k ≡ false
unreached_one reached k none [] = refl
unreached_one reached k none (v ∷ values) = ap (λ b. b || is_under_one reached values k) (none v) ∙ unreached_one reached k none values

pub unreached_sought : (reached : Reached) (k : ℕ) → IsUnreached reached k → (sight : Option Sight) → is_sought reached sight k ≡ false
unreached_sought reached k none None = refl
unreached_sought reached k none (Some sight) = unreached_one reached k none (values_seen sight)

-- under a value that is among these it is under one of them
pub under_among : (reached : Reached) (k : ℕ) (value : Value) → is_under reached value k ≡ true → (values : List Value) → list_any (same_value value) values ≡ true → is_under_one reached values k ≡ true
under_among reached k value is [] e = e
under_among reached k value is (v ∷ values) e =
    by (same_value value v) (is_under reached v k) (λ same. ap (λ v. is_under reached v k) (sym (equal_values value v same)) ∙ is) (under_among reached k value is values) e
  where
    by : (s u : Bool) → (s ≡ true → u ≡ true) → (list_any (same_value value) values ≡ true → is_under_one reached values k ≡ true)
        → (s || list_any (same_value value) values) ≡ true → (u || is_under_one reached values k) ≡ true
    by true u h rest e = ap (λ u. u || is_under_one reached values k) (h refl)
    by false true h rest e = refl
    by false false h rest e = rest e
