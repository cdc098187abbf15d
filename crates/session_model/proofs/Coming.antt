-- What comes of a network that was loaded are the rows of the rules over the facts of an image.
use Rattle.session_model.proofs.Common.{◌≡◌, ◌∙◌, ◌==◌, ◌&&◌, ◌||◌, not, ℕ, Bool, true, false, inl, inr, List, [], ◌∷◌, cond, Option, Some, None, refl, sym, ap}
use Rattle.session_model.proofs.Common.{subst, arith, AllByRecursion, nat_cmp, Less, nat_tests, In, Image, Delta, has, Match, Program, Rule, snapshot_of}
use Rattle.session_model.proofs.Common.{RuleChange, AreLadenRows, coming, change_of, Marks, FiredMatch, comes_by, has_marked, laden_by, is_laden, AreMarked}
use Rattle.{session_model.proofs.Common.{NoneGo}, std.proofs.{lemmas.Bool.{eqb-true}, Math.Bool.{or-false}, Common.{map as list_map}}}
use Rattle.{std.specs.{Prelude.{slice_get}, List.Sorted.{IsStrictlySortedBy}}, fx_base.proofs.Orders.{eqb-self}}

abbrev rules_of : List RuleChange → List ℕ
rules_of changes = list_map (λ (c : RuleChange). c.rule.0) changes

is_later : (n k : ℕ) → nat_cmp n k ≡ Less → (k == n) ≡ false
is_later n k e = grind (arith, nat_tests)

is_earlier : (n k : ℕ) → nat_cmp n k ≡ Less → (n == k) ≡ false
is_earlier n k e = grind (arith, nat_tests)

-- a rule of which the changes are in order has one
none_later : (n : ℕ) (changes : List RuleChange) → AllByRecursion (λ k. nat_cmp n k ≡ Less) (rules_of changes) → (m : Match) → n ≡ m.rule.0 → comes_by changes m ≡ false
none_later n [] a m e = refl
none_later n (c ∷ changes) a m e =
    ap (λ b. (b && has c.delta.come m.row) || comes_by changes m) (ap (λ k. c.rule.0 == k) (sym e) ∙ is_later n c.rule.0 a.0) ∙ none_later n changes a.1 m e

comes_one : (changes : List RuleChange) → IsStrictlySortedBy nat_cmp (rules_of changes) → (m : Match) → comes_by changes m ≡ has (coming (change_of changes m.rule.0)) m.row
unfolding IsStrictlySortedBy
comes_one [] s m = refl
comes_one (c ∷ changes) s m = by (c.rule.0 == m.rule.0) refl (comes_one changes s.1 m)
  where
    by : (b : Bool) → (c.rule.0 == m.rule.0) ≡ b → comes_by changes m ≡ has (coming (change_of changes m.rule.0)) m.row → ((b && has c.delta.come m.row) || comes_by changes m) ≡ has (coming (cond b (Some c.delta) (change_of changes m.rule.0))) m.row
    by true e later = ap (λ b. has c.delta.come m.row || b) (none_later c.rule.0 changes s.0 m (eqb-true c.rule.0 m.rule.0 e)) ∙ or-false (has c.delta.come m.row)
    by false e later = later

later_than : (n : ℕ) (changes : List RuleChange) → AllByRecursion (λ k. nat_cmp n k ≡ Less) (rules_of changes) → (c : RuleChange) → In c changes → nat_cmp n c.rule.0 ≡ Less
later_than n [] a c i = absurd i
later_than n (d ∷ changes) a c (inl e) = ap (λ (z : RuleChange). nat_cmp n z.rule.0) e ∙ a.0
later_than n (d ∷ changes) a c (inr i) = later_than n changes a.1 c i

change_found : (changes : List RuleChange) → IsStrictlySortedBy nat_cmp (rules_of changes) → (c : RuleChange) → In c changes → change_of changes c.rule.0 ≡ Some c.delta
unfolding IsStrictlySortedBy
change_found [] s c i = absurd i
change_found (d ∷ changes) s c (inl e) =
    subst (λ (z : RuleChange). cond (d.rule.0 == z.rule.0) (Some d.delta) (change_of changes z.rule.0) ≡ Some z.delta) (sym e)
    (ap (λ b. cond b (Some d.delta) (change_of changes d.rule.0)) (eqb-self d.rule.0))
change_found (d ∷ changes) s c (inr i) =
    ap (λ b. cond b (Some d.delta) (change_of changes c.rule.0)) (is_earlier d.rule.0 c.rule.0 (later_than d.rule.0 changes s.0 c i)) ∙ change_found changes s.1 c i

module _ (p : Program) (image : Image) (owners : ℕ → ℕ → ℕ) (changes : List RuleChange) (are : AreLadenRows p (snapshot_of image) image.extras owners changes) where
  pub none_go : NoneGo changes
  none_go c i = are.none_gone c.rule.0 c.delta (change_found changes are.in_order c i)

  no_change : (m : Match) → slice_get p.rules m.rule.0 ≡ None → (o : Option Delta) → change_of changes m.rule.0 ≡ o → has (coming o) m.row ≡ false
  no_change m e None h = refl
  no_change m e (Some delta) h =
      let r = are.placed m.rule.0 delta h in
      absurd (let no : None ≡ Some r.0 = sym e ∙ r.1 in cc)

  pub comes_laden : (m : Match) → comes_by changes m ≡ is_laden p image owners m
  comes_laden m = comes_one changes are.in_order m ∙ by (slice_get p.rules m.rule.0) refl
    where
      by : (o : Option Rule) → slice_get p.rules m.rule.0 ≡ o → has (coming (change_of changes m.rule.0)) m.row ≡ laden_by p image owners o m
      by None e = no_change m e (change_of changes m.rule.0) refl
      by (Some rule) e = are.rows m.rule.0 rule e m.row

  -- so the agenda with the rows that come has the matches over the image
  pub laden_marked : (marked : List FiredMatch) (marks : Marks) → AreMarked (comes_by changes) marked marks → AreMarked (is_laden p image owners) marked marks
  laden_marked marked marks are = record {
    pending = λ m. are.pending m ∙ ap (λ b. b && not (has_marked marked m)) (comes_laden m);
    fired = are.fired;
  }
