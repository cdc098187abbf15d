-- Matches and the tuples that their rows name.
use Rattle.life_laws.proofs.Common.{◌≡◌, ℕ, zero, suc, ◌+◌, ◌<◌, true, List, [], ◌∷◌, map, Some, refl, sym, ◌∙◌, ap, subst, arith, inl, inr, slice_get, In}
use Rattle.life_laws.proofs.Common.{Fact, Match, Program, Rule, Step, matches, has_match, Snapshot, Tuple, in_place, IsLawful, World, snapshot, moved, Made}
use Rattle.life_laws.proofs.Common.{match_of, rows_by_rule, rows, HaveOperators, name_of, row_of, in_map, of_map, in_left, in_right, row_listed, listed_row}
use Rattle.{life_laws.proofs.{Common.{has_in, rule_of, IsOrdered, UseOperators}, Keeps.{here}}, fx_base.specs.declared.ids.Tag.{Tag}}
use Rattle.{rule_model.{specs.Matches.{matches_from}, proofs.Once.{one_fact}}, rule_world.{specs.Worlds.{stepped}, proofs.{Fresh.{below_of}, Vain.{next_tag}}}}

pub operators_of : (rules : List Rule) (rule : Rule) → UseOperators rules → In rule rules → HaveOperators rule.conditions
operators_of [] rule ops i = absurd i
operators_of (r ∷ rules) rule ops (inl e) = subst (λ (v : Rule). HaveOperators v.conditions) (sym e) ops.0
operators_of (r ∷ rules) rule ops (inr i) = operators_of rules rule ops.1 i

-- ---- from a tuple to its match

further : (k n : ℕ) → k + suc n ≡ (k + 1) + n
further k n = omega arith

at_first : (k : ℕ) → k + 0 ≡ k
at_first k = omega arith

from_first : (k : ℕ) → k ≡ 0 + k
from_first k = omega arith

in_from : (p : Program) (s : Snapshot) (m : Match) (rule : Rule) → In m.row (rows p s rule.conditions) → (k : ℕ) (rules : List Rule) (place : ℕ) → m.rule.0 ≡ k + place
    → slice_get rules place ≡ Some rule → In m (matches_from k (rows_by_rule p s rules))
unfolding matches_from
in_from p s m rule i k [] place e there = absurd cc
in_from p s m rule i k (r ∷ rules) zero e there =
    let one : r ≡ rule = cc in
    in_left m (map (match_of k) (rows p s r.conditions)) (matches_from (k + 1) (rows_by_rule p s rules))
    (subst (λ (n : ℕ). In m (map (match_of n) (rows p s r.conditions))) (e ∙ at_first k)
    (in_map (match_of m.rule.0) m.row (rows p s r.conditions) (subst (λ (v : Rule). In m.row (rows p s v.conditions)) (sym one) i)))
in_from p s m rule i k (r ∷ rules) (suc place) e there =
    in_right m (map (match_of k) (rows p s r.conditions)) (matches_from (k + 1) (rows_by_rule p s rules))
    (in_from p s m rule i (k + 1) rules place (e ∙ further k place) there)

-- ---- from a match to its tuple

-- the tuple that a match of the snapshot names
pub record Names (p : Program) (s : Snapshot) (m : Match) : Type 0 where
  pub rule : Rule
  pub there : slice_get p.rules m.rule.0 ≡ Some rule
  pub in_rules : In rule p.rules
  pub tuple : Tuple
  pub made : Made p s rule.conditions tuple
  pub is : match_of m.rule.0 (row_of tuple) ≡ m

pub names_of : (p : Program) (s : Snapshot) (m : Match) → UseOperators p.rules → has_match (matches p s) m ≡ true → Names p s m
names_of p s m ops e =
    let r = rule_of p s m e in
    let in_rules = in_place p.rules m.rule.0 r.rule r.there in
    let row = listed_row p s r.rule.conditions m.row (operators_of p.rules r.rule ops in_rules) r.row in
    record { rule = r.rule; there = r.there; in_rules = in_rules; tuple = row.tuple; made = row.made; is = ap (match_of m.rule.0) row.named }

-- where the tuple is made over another snapshot, the match is one there
pub is_match : (p : Program) (s o : Snapshot) (m : Match) → UseOperators p.rules → (n : Names p s m) → Made p o n.rule.conditions n.tuple → has_match (matches p o) m ≡ true
is_match p s o m ops n h =
    let listed = row_listed p o n.rule.conditions (row_of n.tuple) (operators_of p.rules n.rule ops n.in_rules) (record { tuple = n.tuple; made = h; named = refl }) in
    has_in m (matches p o) (subst (λ (v : Match). In v (matches p o)) n.is (in_from p o (match_of m.rule.0 (row_of n.tuple)) n.rule listed 0 p.rules m.rule.0 (from_first m.rule.0) n.there))

-- ---- a fact by its name

-- what has behind the step the name of a fact from before it is that fact
pub same_fact : (p : Program) (w : World) (step : Step) → IsOrdered p w → (f g : Fact) → In f w.facts → In g (moved p w step).facts → name_of g ≡ name_of f → g ≡ f
unfolding stepped
same_fact p w step law f g i j e =
    let tags : g.tag ≡ f.tag = ap (λ n. n.tag) e in
    elim (next_tag p w step g j) [
      | inl k ↦ one_fact w.facts law.tags g f k i tags
      | inr new ↦
          let below : f.tag.0 < w.next_tag = below_of w.next_tag w.facts law.fresh f i in
          let same : g.tag.0 ≡ f.tag.0 = ap (λ (t : Tag). t.0) tags in
          absurd (omega (arith, new))
    ]

-- a fact from before the step that a match behind it names is one of the tuple
pub own_fact : (p : Program) (w : World) (step : Step) (m : Match) (n : Names p (snapshot (moved p w step)) m) (f : Fact) → IsLawful p w → In (name_of f) m.row.facts → In f w.facts
    → In f n.tuple.facts
own_fact p w step m n f law own inside =
    let q = of_map name_of (name_of f) n.tuple.facts (subst (λ (v : Match). In (name_of f) v.row.facts) (sym n.is) own) in
    let there = (here p (snapshot (moved p w step)) n.tuple n.rule.conditions n.made q.0 q.1).0 in
    subst (λ (g : Fact). In g n.tuple.facts) (same_fact p w step law.ordered f q.0 inside there q.2) q.1
