-- A node is found in its source under the values of the rows that it keeps.
use Rattle.rete_net.proofs.Common.{◌≡◌, ◌∙◌, sym, ap, refl, subst, ℕ, ◌<◌, ◌+◌, ◌&&◌, ◌||◌, not, Bool, true, false, List, [], length, take, get_or, eq_by_cmp}
use Rattle.{rete_net.{proofs.Common.{nat_cmp, Row, row_cmp, row_decides, Look, Node, Value}, specs.Lending.{IsFoundAnew}}, fan_join.proofs.Reaches.{among_more}}
use Rattle.fx_base.{proofs.Orders.{eq_by_nat_cmp-self, eq_by_nat_cmp-true}, specs.{SameValues.{equal_values, same_itself}, Values.{same_value}}}
use Rattle.{std.proofs.lemmas.Bool.{and_from, false_from_ne_true}, candidate_source.specs.{declared.source.Source.{Source}, Doors.{source_candidates}}}
use Rattle.{candidate_source.specs.Doors.{source_gate, is_reached}, beta_node.specs.Lending.{node_keeps_under, node_value}}

-- nothing has changed
pub found_still : (n : Node) (look : Look) (k : ℕ) (source : Source) → IsFoundAnew n look k [] source source
found_still n look k source = record {
  gate = refl;
  candidates = refl;
  came = λ row e. absurd (let no : false ≡ true = e in cc);
  kept = λ value row e kept. e;
  others = λ value j other. refl;
}

apart : (k j : ℕ) → (j ≡ k → ⊥) → eq_by_cmp nat_cmp k j ≡ false
apart k j other = false_from_ne_true (eq_by_cmp nat_cmp k j) (λ e. other (sym (eq_by_nat_cmp-true k j e)))

unless_none : (a b : Bool) → b ≡ false → (a && not b) ≡ a
unless_none true b e = ap not e
unless_none false b e = refl

or_none : (a b : Bool) → b ≡ false → (a || b) ≡ a
or_none true b e = refl
or_none false b e = e

or_before : (a b : Bool) → a ≡ true → (a || b) ≡ true
or_before true b e = refl
or_before false b e = absurd (let no : false ≡ true = e in cc)

or_behind : (a b : Bool) → b ≡ true → (a || b) ≡ true
or_behind true b e = refl
or_behind false b e = e

second_false : (a b : Bool) → b ≡ false → (a && b) ≡ false
second_false true b e = e
second_false false b e = refl

module _ (n : Node) (look : Look) (k : ℕ) (old mid new : Source) (value : Value) (gate : source_gate new ≡ source_gate mid) (candidates : source_candidates new ≡ source_candidates mid) where
  -- a value under which no row is kept is taken away
  module _ (so_far : IsFoundAnew n look k [] old mid) (taken : (v : Value) (j : ℕ) → is_reached new v j ≡ (is_reached mid v j && not (same_value value v && eq_by_cmp nat_cmp k j))) (none : (row : Row) → node_keeps_under n value row ≡ false) where
    pub found_less : IsFoundAnew n look k [] old new
    found_less = record {
      gate = gate ∙ so_far.gate;
      candidates = candidates ∙ so_far.candidates;
      came = λ row e. absurd (let no : false ≡ true = e in cc);
      kept = λ v row was keeps. taken v k ∙ unless_none (is_reached mid v k) _ (by v row keeps (same_value value v) refl) ∙ so_far.kept v row was keeps;
      others = λ v j other. taken v j ∙ unless_none (is_reached mid v j) _ (second_false (same_value value v) _ (apart k j other)) ∙ so_far.others v j other;
    }
      where
        by : (v : Value) (row : Row) → node_keeps_under n v row ≡ true → (b : Bool) → same_value value v ≡ b → (b && eq_by_cmp nat_cmp k k) ≡ false
        by v row keeps true same = absurd (let no : false ≡ true = sym (none row) ∙ ap (λ w. node_keeps_under n w row) (equal_values value v same) ∙ keeps in cc)
        by v row keeps false same = refl

  -- that of a row that came is put
  module _ (rows : List Row) (i : ℕ) (below : i < length rows) (any row : Row) (is : row ≡ get_or rows i any) (of : value ≡ node_value n look row) (so_far : IsFoundAnew n look k (take i rows) old mid)
      (put : (v : Value) (j : ℕ) → is_reached new v j ≡ (is_reached mid v j || (same_value value v && eq_by_cmp nat_cmp k j))) where
    pub found_more : IsFoundAnew n look k (take (i + 1) rows) old new
    found_more = record {
      gate = gate ∙ so_far.gate;
      candidates = candidates ∙ so_far.candidates;
      came =
          among_more (eq_by_cmp row_cmp) (λ a b. (row_decides a b).0) rows i below any row is (λ (r : Row). is_reached new (node_value n look r) k ≡ true)
          (λ r before. put (node_value n look r) k ∙ or_before _ _ (so_far.came r before))
          (subst (λ (v : Value). is_reached new v k ≡ true) of (put value k ∙ or_behind (is_reached mid value k) _ (and_from _ _ (same_itself value) (eq_by_nat_cmp-self k))));
      kept = λ v r was keeps. put v k ∙ or_before _ _ (so_far.kept v r was keeps);
      others = λ v j other. put v j ∙ or_none (is_reached mid v j) _ (second_false (same_value value v) _ (apart k j other)) ∙ so_far.others v j other;
    }
