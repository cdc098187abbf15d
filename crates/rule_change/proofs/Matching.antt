-- The matches of rules that stay, and which of them are pending.
use Rattle.rule_change.proofs.Common.{◌≡◌, ◌&&◌, ◌<◌, ◌≤◌, ◌+◌, not, ℕ, zero, suc, Bool, true, List, [], ◌∷◌, map, Option, Some, None, inl, inr, refl, sym, ◌∙◌}
use Rattle.rule_change.proofs.Common.{ap, ap₂, subst, arith, and_parts, ltb-true, slice_get_within, length, slice_get, nat_lt, In-append, same_test, In}
use Rattle.rule_change.proofs.Common.{EachOnce, Fact, Value, Row, in_map, of_map, in_left, in_right, once_append, once_map, rows_once, HaveDistinctTags}
use Rattle.rule_change.proofs.Common.{match_of, rows_by_rule, matches, has_match, rows, Snapshot, Match, Program, TypeInfo, has_pending, values_fit, IsLawful}
use Rattle.rule_change.proofs.Common.{World, snapshot, IsSameRule, moved_rule, moved_condition, as_old, AreAlike, AreOver, HavePlaces, SamePending, some_is}
use Rattle.{rule_change.proofs.{Places.{Moves, moves}, Rows.{HasPlace, AreMoved, rows_same}}, rule_model.proofs.RuleOf.{has_in, rule_of, in_place}}
use Rattle.rule_model.specs.{Matches.{matches_from}, declared.program.Rule.{Rule}}

-- ---- the matches of all rules

listed : (p : Program) (s : Snapshot) (rules : List Rule) (k behind : ℕ) (rule : Rule) (row : Row) → slice_get rules behind ≡ Some rule
    → In row (rows p s rule.conditions) → In (match_of (k + behind) row) (matches_from k (rows_by_rule p s rules))
unfolding matches_from
listed p s [] k behind rule row e i = absurd cc
listed p s (r ∷ rules) k zero rule row e i =
    let same : r ≡ rule = some_is e in
    let none : k ≡ k + 0 = omega arith in
    in_left (match_of (k + 0) row) (map (match_of k) (rows p s r.conditions)) (matches_from (k + 1) (rows_by_rule p s rules))
    (subst (λ (n : ℕ). In (match_of n row) (map (match_of k) (rows p s r.conditions))) none
    (in_map (match_of k) row (rows p s r.conditions) (subst (λ (x : Rule). In row (rows p s x.conditions)) (sym same) i)))
listed p s (r ∷ rules) k (suc behind) rule row e i =
    let next : k + 1 + behind ≡ k + suc behind = omega arith in
    in_right (match_of (k + suc behind) row) (map (match_of k) (rows p s r.conditions)) (matches_from (k + 1) (rows_by_rule p s rules))
    (subst (λ (n : ℕ). In (match_of n row) (matches_from (k + 1) (rows_by_rule p s rules))) next (listed p s rules (k + 1) behind rule row e i))

-- a row of a rule is a match
pub is_match : (p : Program) (s : Snapshot) (place : ℕ) (rule : Rule) (row : Row) → slice_get p.rules place ≡ Some rule → In row (rows p s rule.conditions)
    → has_match (matches p s) (match_of place row) ≡ true
is_match p s place rule row e i =
    let none : 0 + place ≡ place = omega arith in
    has_in (match_of place row) (matches p s) (subst (λ (n : ℕ). In (match_of n row) (matches p s)) none (listed p s p.rules 0 place rule row e i))

from_place : (p : Program) (s : Snapshot) (rules : List Rule) (k : ℕ) (m : Match) → In m (matches_from k (rows_by_rule p s rules)) → k ≤ m.rule.0
unfolding matches_from
from_place p s [] k m i = absurd i
from_place p s (rule ∷ rules) k m i = elim (In-append m (map (match_of k) (rows p s rule.conditions)) (matches_from (k + 1) (rows_by_rule p s rules)) i) [
  | inl j ↦ (let r = of_map (match_of k) m (rows p s rule.conditions) j in let same : k ≡ m.rule.0 = ap (λ (n : Match). n.rule.0) r.2 in omega arith)
  | inr j ↦ (let later = from_place p s rules (k + 1) m j in omega arith)
]

once_from : (p : Program) (s : Snapshot) → HaveDistinctTags s.facts → (rules : List Rule) (k : ℕ) → EachOnce (matches_from k (rows_by_rule p s rules))
unfolding matches_from
once_from p s d [] k = tt
once_from p s d (rule ∷ rules) k =
    once_append (map (match_of k) (rows p s rule.conditions)) (matches_from (k + 1) (rows_by_rule p s rules))
    (once_map (match_of k) (rows p s rule.conditions) (rows_once p s d rule.conditions) (λ a b i j e. ap (λ (n : Match). n.row) e))
    (once_from p s d rules (k + 1))
    (λ m i j.
    let r = of_map (match_of k) m (rows p s rule.conditions) i in
    let same : k ≡ m.rule.0 = ap (λ (n : Match). n.rule.0) r.2 in
    let later = from_place p s rules (k + 1) m j in
    absurd (omega arith))

-- each match stands once
pub matches_once : (p : Program) (s : Snapshot) → HaveDistinctTags s.facts → EachOnce (matches p s)
matches_once p s d = once_from p s d p.rules 0

-- ---- a rule that stays

module _ (p q : Program) (m : Moves p q) (places : HavePlaces p) (s o : Snapshot) (are : AreMoved p q m s o) where
  rows_of : (rule : Rule) (place : ℕ) → slice_get p.rules place ≡ Some rule → rows q o (map (moved_condition p q) rule.conditions) ≡ rows p s rule.conditions
  rows_of rule place e = rows_same p q m s o are rule.conditions (places rule (in_place p.rules place rule e))

  -- has the same matches
  pub same_match : (n : Match) (old : ℕ) → IsSameRule p q old n.rule.0 → has_match (matches q o) n ≡ has_match (matches p s) (as_old old n)
  same_match n old stays = same_test _ _ to back
    where
      to : has_match (matches q o) n ≡ true → has_match (matches p s) (as_old old n) ≡ true
      to e =
          let r = rule_of q o n e in
          let same : r.rule ≡ moved_rule p q stays.rule = some_is (sym r.there ∙ stays.is) in
          is_match p s old stays.rule n.row stays.was
          (subst (In n.row) (rows_of stays.rule old stays.was) (subst (λ (x : Rule). In n.row (rows q o x.conditions)) same r.row))

      back : has_match (matches p s) (as_old old n) ≡ true → has_match (matches q o) n ≡ true
      back e =
          let r = rule_of p s (as_old old n) e in
          let same : r.rule ≡ stays.rule = some_is (sym r.there ∙ stays.was) in
          is_match q o n.rule.0 (moved_rule p q stays.rule) n.row stays.is
          (subst (In n.row) (sym (rows_of stays.rule old stays.was)) (subst (λ (x : Rule). In n.row (rows p s x.conditions)) same r.row))

-- ---- worlds that are alike

type_there : (types : List TypeInfo) (ty : ℕ) (values : List Value) → values_fit (slice_get types ty) values ≡ true → ty < length types
type_there types ty values e = by (slice_get types ty) refl e
  where
    by : (there : Option TypeInfo) → slice_get types ty ≡ there → values_fit there values ≡ true → ty < length types
    by None at h = absurd cc
    by (Some t) at h = slice_get_within types ty t at

-- the facts of a lawful world have the program's places
pub lawful_places : (p : Program) (w : World) → IsLawful p w → (f : Fact) → In f w.facts → HasPlace p f
lawful_places p w l f i =
    let fits = and_parts (values_fit (slice_get p.types f.ty.0) f.fields) (nat_lt f.entry.0 (length p.entries)) (l.sound f i).fits in
    record { type = type_there p.types f.ty.0 f.fields fits.0; entry = ltb-true f.entry.0 (length p.entries) fits.1 }

pub over_moves : (p q : Program) (from : ℕ → Option ℕ) → AreOver p q from → Moves p q
over_moves p q from over = moves p q over.names over.have_types over.have_entries

pub alike_moved : (p q : Program) (from : ℕ → Option ℕ) (m : Moves p q) (w w' : World) → ((f : Fact) → In f w.facts → HasPlace p f) → AreAlike p q from w w'
    → AreMoved p q m (snapshot w) (snapshot w')
alike_moved p q from m w w' places alike = record { places = places; facts = alike.facts; clock = alike.clock; last_starts = alike.last_starts; promises = alike.promises }

pub same_pending : SamePending
same_pending p q from w w' over lawful alike m old e =
    let moves = over_moves p q from over in
    has_pending q w' m
    ∙ ap₂ (λ (a b : Bool). a && not b)
    (same_match p q moves over.places (snapshot w) (snapshot w') (alike_moved p q from moves w w' (lawful_places p w lawful) alike) m old (over.are_from.same m.rule.0 old e))
    (alike.fired m old e)
    ∙ sym (has_pending p w (as_old old m))
