-- Sets of places: what is put, and which comes first.
use Rattle.rete_net.proofs.Common.{◌≡◌, ◌∙◌, sym, ap, refl, subst, ℕ, ◌+◌, ◌<◌, ◌≤◌, ◌==◌, ◌||◌, Bool, true, false, cond, List, [], ◌∷◌, take, length, get_or}
use Rattle.rete_net.proofs.Common.{arith, nat_eq, slice_get, list_any, nat_cmp, eq_by_cmp, is_gt, or-true, nat_tests, Decides-eqb, Index, AreDue, is_in}
use Rattle.{rete_net.proofs.Common.{is_listed, items_of, has_place}, std.{proofs.Math.Bool.{or_assoc}, specs.Prelude.{IfSome}}}
use Rattle.std.{specs.{declared.ops.Bound.TheVariants.{Included, Unbounded}, BTreeSet.{BTreeSet, IsKeyRangeOf}}, proofs.lemmas.List.Folds.{list_any_more}}
use Rattle.fx_base.proofs.{Orders.{eq_by_nat_cmp-turned}, Tests.{cond_true_first}}

pub put_more : (k : ℕ) (places : List ℕ) (i : ℕ) (old mid now : Bool) → i < length places → mid ≡ (old || list_any (nat_eq k) (take i places))
    → now ≡ cond (eq_by_cmp nat_cmp (get_or places i 0) k) true mid → now ≡ (old || list_any (nat_eq k) (take (i + 1) places))
put_more k places i old mid now lt before after =
    after ∙ ap (λ t. cond t true mid) (eq_by_nat_cmp-turned (get_or places i 0) k) ∙ cond_true_first mid (k == get_or places i 0) ∙ ap (λ b. b || (k == get_or places i 0)) before
    ∙ or_assoc old (list_any (nat_eq k) (take i places)) (k == get_or places i 0) ∙ ap (λ b. old || b) (sym (list_any_more (nat_eq k) places i 0 lt))

-- what is put in a place is there, and the rest stays
pub put_stays : (place k : ℕ) (old now : Bool) → now ≡ cond (eq_by_cmp nat_cmp place k) true old → old ≡ true → now ≡ true
put_stays place k old now is was = by (eq_by_cmp nat_cmp place k) is
  where
    by : (t : Bool) → now ≡ cond t true old → now ≡ true
    by true e = e
    by false e = e ∙ was

pub put_there : (place k : ℕ) (old now : Bool) → now ≡ cond (eq_by_cmp nat_cmp place k) true old → place ≡ k → now ≡ true
put_there place k old now is same = let at : eq_by_cmp nat_cmp place k ≡ true = grind (arith, nat_tests) in is ∙ ap (λ t. cond t true old) at

module _ (set : BTreeSet ℕ) (from : ℕ) where
  abbrev pub From : List ℕ → Type 0
  From range = IsKeyRangeOf nat_cmp (Included from) Unbounded set range

  not_true : (b : Bool) → (b ≡ true → ⊥) → b ≡ false
  not_true true h = absurd (h refl)
  not_true false h = refl

  pub before_first : (range rest : List ℕ) (place : ℕ) → From range → range ≡ place ∷ rest → (k : ℕ) → from ≤ k → k < place → has_place set.keys k ≡ false
  before_first range rest place is e k low lt =
      not_true (has_place set.keys k) (λ held.
      let least : is_gt (nat_cmp place k) ≡ false = subst (λ r. IfSome (slice_get r 0) (λ v. is_gt (nat_cmp v k) ≡ false)) e (is.2 k (grind arith, tt) held) in
      grind arith)

  pub none_from : (range : List ℕ) → From range → range ≡ [] → (k : ℕ) → from ≤ k → has_place set.keys k ≡ false
  none_from range is e k low = is.5 e k (grind arith, tt)

-- with a type more its nodes are due
pub due_more : (index : Index) (types types_now due due_now : List ℕ) (ty : ℕ) (places : List ℕ) → places ≡ items_of (slice_get index.by_type.lists.items ty)
    → ((other : ℕ) → has_place types_now other ≡ cond (eq_by_cmp nat_cmp ty other) true (has_place types other)) → ((k : ℕ) → has_place due_now k ≡ (has_place due k || is_in places k))
    → AreDue index types due → AreDue index types_now due_now
due_more index types types_now due due_now ty places is put more was other k there listed = by (eq_by_cmp nat_cmp ty other) refl
  where
    by : (t : Bool) → eq_by_cmp nat_cmp ty other ≡ t → has_place due_now k ≡ true
    by true e =
        let same : other ≡ ty = (Decides-eqb other ty).0 (sym (eq_by_nat_cmp-turned ty other) ∙ e) in
        more k ∙ ap (λ b. has_place due k || b) (ap (λ (list : List ℕ). is_in list k) is ∙ ap (λ n. is_listed index.by_type n k) (sym same) ∙ listed) ∙ or-true (has_place due k)
    by false e = more k ∙ ap (λ b. b || is_in places k) (was other k (sym (put other ∙ ap (λ t. cond t true (has_place types other)) e) ∙ there) listed)
