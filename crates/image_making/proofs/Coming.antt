-- What comes of a network that is loaded from an image are the rows of the rules over its facts.
use Rattle.std.proofs.Common.{Bool, List, None, Option, Some, [], ap, arith, cond, false, map, refl, sym, true, ℕ, ◌&&◌, ◌==◌, ◌↔◌, ◌∙◌, ◌∷◌, ◌||◌, ◌≡◌}
use Rattle.std.{proofs.lemmas.Bool.{eqb-true, Decides.{nat_tests}}, specs.{List.{AllByRecursion}, Ordering.{nat_cmp}, declared.cmp.Ordering.TheVariants.{Less}}}
use Rattle.{std.{proofs.Math.Bool.{or-false}, specs.List.Sorted.{IsStrictlySortedBy}}, checkpoint.specs.declared.image.Image.{Image}}
use Rattle.{image_laws.specs.{Fitting.{IsLadenMatch}, Images.{snapshot_of}}, rete_net.specs.{declared.changes.RuleChange.{RuleChange}, Loading.{AreLadenRows}}}
use Rattle.{rete_net.specs.{Loading.{coming}, Nets.{change_of}}, row_delta.specs.{declared.delta.Delta.{Delta}, Rows.{has}}}
use Rattle.{rule_model.specs.declared.{matched.Match.{Match}, program.Program.{Program}}, image_making.specs.Loads.{comes_by}}

abbrev rules_of : List RuleChange → List ℕ
rules_of changes = map (λ (c : RuleChange). c.rule.0) changes

is_later : (n k : ℕ) → nat_cmp n k ≡ Less → (k == n) ≡ false
is_later n k e = grind (arith, nat_tests)

-- a rule of which the changes are in order has one
none_later : (n : ℕ) (changes : List RuleChange) → AllByRecursion (λ k. nat_cmp n k ≡ Less) (rules_of changes) → (m : Match) → n ≡ m.rule.0 → comes_by changes m ≡ false
none_later n [] a m e = refl
none_later n (c ∷ changes) a m e =
    ap (λ b. (b && has c.delta.come m.row) || comes_by changes m) (ap (λ k. c.rule.0 == k) (sym e) ∙ is_later n c.rule.0 a.0) ∙ none_later n changes a.1 m e

comes_one : (changes : List RuleChange) → IsStrictlySortedBy nat_cmp (rules_of changes) → (m : Match) → comes_by changes m ≡ has (coming (change_of changes m.rule.0)) m.row
unfolding IsStrictlySortedBy
comes_one [] s m = refl
comes_one (c ∷ changes) s m = by (c.rule.0 == m.rule.0) refl (comes_one changes s.1 m)
  where
    by : (b : Bool) → (c.rule.0 == m.rule.0) ≡ b → comes_by changes m ≡ has (coming (change_of changes m.rule.0)) m.row
        → ((b && has c.delta.come m.row) || comes_by changes m) ≡ has (coming (cond b (Some c.delta) (change_of changes m.rule.0))) m.row
    by true e later = ap (λ b. has c.delta.come m.row || b) (none_later c.rule.0 changes s.0 m (eqb-true c.rule.0 m.rule.0 e)) ∙ or-false (has c.delta.come m.row)
    by false e later = later

pub comes_laden : (p : Program) (image : Image) (owners : ℕ → ℕ → ℕ) (changes : List RuleChange) → AreLadenRows p (snapshot_of image) image.extras owners changes
    → (m : Match) → (comes_by changes m ≡ true) ↔ IsLadenMatch p image owners m.rule.0 m.row
comes_laden p image owners changes are m = (to, λ h. comes_one changes are.in_order m ∙ are.rows m.rule.0 h.0 h.1 m.row ∙ h.2)
  where
    found : (o : Option Delta) → change_of changes m.rule.0 ≡ o → has (coming o) m.row ≡ true → IsLadenMatch p image owners m.rule.0 m.row
    found None at e = absurd cc
    found (Some delta) at e =
        let r = are.placed m.rule.0 delta at in
        (r.0, r.1, sym (are.rows m.rule.0 r.0 r.1 m.row) ∙ ap (λ (o : Option Delta). has (coming o) m.row) at ∙ e)

    to : comes_by changes m ≡ true → IsLadenMatch p image owners m.rule.0 m.row
    to e = found (change_of changes m.rule.0) refl (sym (comes_one changes are.in_order m) ∙ e)
