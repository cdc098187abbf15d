-- Worlds that are alike, where matches are marked.
use Rattle.rule_change.proofs.Common.{◌≡◌, ◌||◌, ℕ, Bool, true, false, List, ◌∷◌, Option, Some, None, sym, ◌∙◌, ap, ap₂, false_from_ne_true, same_test}
use Rattle.rule_change.proofs.Common.{decides_by, match_exact, match_total, match_cmp, match_of, has_match, Match, Program, World, AreFrom, as_old, AreAlike}
use Rattle.{rule_change.proofs.Common.{AlikeMarked, AlikeWithout, some_is}, std.specs.Ordering.{eq_by_cmp}}

is_equal : (a b : Match) → eq_by_cmp match_cmp a b ≡ true → a ≡ b
is_equal a b = (decides_by match_cmp match_total match_exact a b).0

equal_is : (a b : Match) → a ≡ b → eq_by_cmp match_cmp a b ≡ true
equal_is a b = (decides_by match_cmp match_total match_exact a b).1

-- as old matches two are the same where they are
same_as_old : (p q : Program) (from : ℕ → Option ℕ) → AreFrom p q from → (m n : Match) (old other : ℕ) → from m.rule.0 ≡ Some old → from n.rule.0 ≡ Some other
    → eq_by_cmp match_cmp n m ≡ eq_by_cmp match_cmp (as_old other n) (as_old old m)
same_as_old p q from are m n old other e h = same_test _ _ to back
  where
    to : eq_by_cmp match_cmp n m ≡ true → eq_by_cmp match_cmp (as_old other n) (as_old old m) ≡ true
    to t =
        let same = is_equal n m t in
        let place : other ≡ old = some_is (sym h ∙ ap (λ (x : Match). from x.rule.0) same ∙ e) in
        equal_is (as_old other n) (as_old old m) (ap₂ as_old place same)

    back : eq_by_cmp match_cmp (as_old other n) (as_old old m) ≡ true → eq_by_cmp match_cmp n m ≡ true
    back t =
        let same = is_equal (as_old other n) (as_old old m) t in
        let place : other ≡ old = ap (λ (x : Match). x.rule.0) same in
        let rule : n.rule.0 ≡ m.rule.0 = are.apart n.rule.0 m.rule.0 old (h ∙ ap Some place) e in
        equal_is n m (ap₂ match_of rule (ap (λ (x : Match). x.row) same))

-- worlds that are alike with other marks
pub with_marks : (p q : Program) (from : ℕ → Option ℕ) (w w' : World) (marks marks' : List Match) → AreAlike p q from w w'
    → ((m : Match) (old : ℕ) → from m.rule.0 ≡ Some old → has_match marks' m ≡ has_match marks (as_old old m))
    → AreAlike p q from (record w { fired = marks }) (record w' { fired = marks' })
with_marks p q from w w' marks marks' alike same = record {
  facts = alike.facts;
  clock = alike.clock;
  begun = alike.begun;
  next_id = alike.next_id;
  next_tag = alike.next_tag;
  last_starts = alike.last_starts;
  promises = alike.promises;
  fired = same;
}

pub alike_marked : AlikeMarked
alike_marked p q from w w' are alike m old e =
    with_marks p q from w w' (as_old old m ∷ w.fired) (m ∷ w'.fired) alike
    (λ n other h. ap₂ (λ (a b : Bool). a || b) (same_as_old p q from are m n old other e h) (alike.fired n other h))

pub alike_without : AlikeWithout
alike_without p q from w w' alike m = (
  λ e. with_marks p q from w w' w.fired (m ∷ w'.fired) alike (λ n old h.
      let other : eq_by_cmp match_cmp n m ≡ false =
      false_from_ne_true _ (λ t. let some : Some old ≡ None = sym h ∙ ap (λ (x : Match). from x.rule.0) (is_equal n m t) ∙ e in cc) in
      ap (λ (b : Bool). b || has_match w'.fired n) other ∙ alike.fired n old h),
  λ none. with_marks p q from w w' (m ∷ w.fired) w'.fired alike (λ n old h.
      let other : eq_by_cmp match_cmp (as_old old n) m ≡ false =
      false_from_ne_true _ (λ t. none n.rule.0 (h ∙ ap (λ (x : Match). Some x.rule.0) (is_equal (as_old old n) m t))) in
      alike.fired n old h ∙ sym (ap (λ (b : Bool). b || has_match w.fired (as_old old n)) other)),
)
