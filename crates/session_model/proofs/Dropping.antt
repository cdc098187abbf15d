-- Fired matches are dropped rule by rule, and of a match's rule there is one entry.
use Rattle.session_model.proofs.Common.{◌≡◌, ◌∙◌, sym, ap, refl, subst, inl, inr, ℕ, zero, suc, ◌<◌, ◌==◌, ◌&&◌, ◌||◌, not, Bool, true, false, cond, List, []}
use Rattle.session_model.proofs.Common.{◌∷◌, length, slice_get, Some, arith, list_any, and-true, nat_tests, In, Row, has, Match, has_match, RuleRows, AreListed}
use Rattle.{session_model.proofs.Common.{rows_for, Marks}, std.proofs.lemmas.Bool.{eqb-true}, fx_base.proofs.Tests.{and_not_not}}

-- ---- one entry of a rule

-- some entry has the row for the place
abbrev pub drops : List RuleRows → ℕ → Row → Bool
drops answers place row = list_any (λ (a : RuleRows). a.place == place && has a.rows row) answers

-- the places of the entries rise
abbrev PlacesRise : List RuleRows → Type 0
PlacesRise [] = Unit {0}
PlacesRise (a ∷ answers) = ((b : RuleRows) → In b answers → a.place < b.place) × PlacesRise answers

stands_at : (a : RuleRows) (answers : List RuleRows) → In a answers → (k : ℕ) × (slice_get answers k ≡ Some a)
stands_at a [] i = absurd i
stands_at a (x ∷ answers) (inl e) = (zero, ap Some (sym e))
stands_at a (x ∷ answers) (inr i) = let r = stands_at a answers i in (suc r.0, r.1)

places_rise : (answers : List RuleRows) → ((j k : ℕ) (a b : RuleRows) → j < k → slice_get answers j ≡ Some a → slice_get answers k ≡ Some b → a.place < b.place) → PlacesRise answers
places_rise [] h = tt
places_rise (x ∷ answers) h = (
  λ b i. let r = stands_at b answers i in h zero (suc r.0) x b (omega arith) refl r.1,
  places_rise answers (λ j k a b lt e f. h (suc j) (suc k) a b (omega arith) e f),
)

other_place : (a place : ℕ) → place < a → (a == place) ≡ false
other_place a place lt = grind (arith, nat_tests)

-- entries of later rules drop nothing of this one
none_later : (answers : List RuleRows) (place : ℕ) (row : Row) → ((b : RuleRows) → In b answers → place < b.place) → drops answers place row ≡ false
none_later [] place row later = refl
none_later (a ∷ answers) place row later =
    ap (λ t. (t && has a.rows row) || drops answers place row) (other_place a.place place (later a (inl refl))) ∙ none_later answers place row (λ b i. later b (inr i))

or_nothing : (a b : Bool) → b ≡ false → (a || b) ≡ a
or_nothing true b e = refl
or_nothing false b e = e

one_entry : (answers : List RuleRows) → PlacesRise answers → (place : ℕ) (row : Row) → drops answers place row ≡ has (rows_for answers place) row
one_entry [] rise place row = refl
one_entry (a ∷ answers) rise place row = by (a.place == place) refl (one_entry answers rise.1 place row)
  where
    by : (t : Bool) → (a.place == place) ≡ t → drops answers place row ≡ has (rows_for answers place) row
        → ((t && has a.rows row) || drops answers place row) ≡ has (cond t a.rows (rows_for answers place)) row
    by true e rest =
        or_nothing (has a.rows row) (drops answers place row)
        (none_later answers place row (λ b i. subst (λ n. n < b.place) (eqb-true a.place place e) (rise.0 b i)))
    by false e rest = rest

-- ---- the entries one after the other

-- these entries are still ahead, and the others were dropped
pub record AreAhead (all : List RuleRows) (rules : ℕ) (first now : Marks) (ahead : List RuleRows) : Type 0 where
  pub within : (a : RuleRows) → In a ahead → a.place < rules
  pub fired : (m : Match) → (has_match now.fired m && not (drops ahead m.rule.0 m.row)) ≡ (has_match first.fired m && not (drops all m.rule.0 m.row))

pub all_ahead : (all ahead : List RuleRows) (rules : ℕ) (first : Marks) → ahead ≡ all → AreListed all rules → AreAhead all rules first first ahead
all_ahead all ahead rules first same listed = record {
  within = λ a i. let r = stands_at a all (subst (λ (xs : List RuleRows). In a xs) same i) in listed.within r.0 a r.1;
  fired = λ m. ap (λ (xs : List RuleRows). has_match first.fired m && not (drops xs m.rule.0 m.row)) same;
}

module _ (all ahead rest : List RuleRows) (rules : ℕ) (first now next : Marks) (a : RuleRows) (number : ℕ) (before : AreAhead all rules first now ahead) (items : ahead ≡ a ∷ rest) where
  -- the place of the next entry is one of a rule
  pub place_within : a.place < rules
  place_within = before.within a (subst (λ (xs : List RuleRows). In a xs) (sym items) (inl refl))

  pub drop_turn : number ≡ a.place → ((m : Match) → has_match next.fired m ≡ (has_match now.fired m && not (number == m.rule.0 && has a.rows m.row))) → AreAhead all rules first next rest
  drop_turn same dropped = record {
    within = λ b i. before.within b (subst (λ (xs : List RuleRows). In b xs) (sym items) (inr i));
    fired = λ m.
        ap (λ z. z && not (drops rest m.rule.0 m.row)) (dropped m ∙ ap (λ n. has_match now.fired m && not (n == m.rule.0 && has a.rows m.row)) same)
        ∙ and_not_not (has_match now.fired m) (a.place == m.rule.0 && has a.rows m.row) (drops rest m.rule.0 m.row)
        ∙ ap (λ (xs : List RuleRows). has_match now.fired m && not (drops xs m.rule.0 m.row)) (sym items)
        ∙ before.fired m;
  }

pub none_ahead : (all ahead : List RuleRows) (rules : ℕ) (first now : Marks) → AreListed all rules → ahead ≡ [] → AreAhead all rules first now ahead
    → (m : Match) → has_match now.fired m ≡ (has_match first.fired m && not (has (rows_for all m.rule.0) m.row))
none_ahead all ahead rules first now listed none so_far m =
    sym (and-true (has_match now.fired m)) ∙ ap (λ (xs : List RuleRows). has_match now.fired m && not (drops xs m.rule.0 m.row)) (sym none) ∙ so_far.fired m
    ∙ ap (λ b. has_match first.fired m && not b) (one_entry all (places_rise all listed.in_order) m.rule.0 m.row)

pub nothing_ahead : (ahead : List RuleRows) (n : ℕ) → n ≡ length ahead → n ≡ 0 → ahead ≡ []
nothing_ahead [] n e z = refl
nothing_ahead (a ∷ ahead) n e z = absurd (omega (arith, e, z))
