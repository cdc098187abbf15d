-- What writing one place of a table's rows changes.
use Rattle.temporal_net.proofs.Common.{◌≡◌, ℕ, zero, suc, ◌+◌, ◌<◌, pos, ◌≤ℤ◌, List, [], ◌∷◌, ◌++◌, length, get_or, set, take, replicate, cond, eqb, eq-eqb}
use Rattle.temporal_net.proofs.Common.{Option, Some, None, refl, sym, ◌∙◌, ap, subst, inl, inr, arith, cases_eq, eqb_tells, NetEdge, Distance, edge_at}
use Rattle.temporal_net.proofs.Common.{HasItsPoints, IsSmallEdge, cell, edge_distance, lesser, zero_distance, AreTable, IsDistanceTable, length-set}
use Rattle.temporal_net.proofs.{Common.{get_or-set_same, get_or-set_other, get_or_append_left, get_or_push, length-replicate, take_more}, Adding.{added}}

module _ (rows : List (List (Option Distance))) (x y : ℕ) (v : Option Distance) where
  written : List (List (Option Distance))
  written = set rows x (set (get_or rows x []) y v)

  cell-written_same : x < length rows → y < length (get_or rows x []) → cell written x y ≡ v
  unfolding written
  cell-written_same xp yp =
      ap (λ r. get_or r y None) (get_or-set_same rows x (set (get_or rows x []) y v) [] xp) ∙ get_or-set_same (get_or rows x []) y v None yp

  cell-written_other : x < length rows → (p q : ℕ) → (p ≡ x → q ≡ y → ⊥) → cell written p q ≡ cell rows p q
  unfolding written
  cell-written_other xp p q apart = elim (cases_eq p x) [
    | inl e ↦
        let here : cell (set rows x (set (get_or rows x []) y v)) x q ≡ cell rows x q =
        ap (λ r. get_or r q None) (get_or-set_same rows x (set (get_or rows x []) y v) [] xp) ∙ get_or-set_other (get_or rows x []) y q v None (apart e) in
        subst (λ a. cell (set rows x (set (get_or rows x []) y v)) a q ≡ cell rows a q) (sym e) here
    | inr ne ↦ ap (λ r. get_or r q None) (get_or-set_other rows x p (set (get_or rows x []) y v) [] ne)
  ]

-- the edge with number n, written into the rows of the edges before it
pub added_rows : (edges : List NetEdge) (n : ℕ) (rows : List (List (Option Distance))) (d : Distance) → n < length edges → AreTable 0 (take n edges) rows
    → HasItsPoints (length rows) (edge_at edges n) → IsSmallEdge (edge_at edges n) → ((edge_at edges n).x ≡ (edge_at edges n).y → pos 0 ≤ℤ (edge_at edges n).most)
    → ((i : ℕ) → i < length rows → length (get_or rows i []) ≡ 16) → d ≡ lesser (cell rows (edge_at edges n).x (edge_at edges n).y) (edge_distance (edge_at edges n))
    → AreTable 0 (take (n + 1) edges) (set rows (edge_at edges n).x (set (get_or rows (edge_at edges n).x []) (edge_at edges n).y (Some d)))
unfolding written
added_rows edges n rows d np old among small turn wide is =
    let e = edge_at edges n in
    let new = set rows e.x (set (get_or rows e.x []) e.y (Some d)) in
    let long : length new ≡ length rows = length-set rows e.x (set (get_or rows e.x []) e.y (Some d)) in
    let row = wide e.x among.0 in
    let y_low = among.1 in
    let few = old.ways.few in
    let yp : e.y < length (get_or rows e.x []) = omega arith in
    let table : IsDistanceTable (length rows) 0 (take n edges ++ e ∷ []) (cell new) =
    added (length rows) (take n edges) (cell rows) (cell new) old e among small turn
    (cell-written_same rows e.x e.y (Some d) among.0 yp ∙ ap Some is)
    (λ x y xp yq apart. cell-written_other rows e.x e.y (Some d) among.0 x y apart) in
    subst (λ l. IsDistanceTable l 0 (take (n + 1) edges) (cell new)) (sym long)
    (subst (λ es. IsDistanceTable (length rows) 0 es (cell new)) (sym (take_more edges n _ np)) table)

nothing : Option Distance
nothing = None

none_at : (n q : ℕ) → get_or (replicate n nothing) q None ≡ None
unfolding nothing
none_at zero q = refl
none_at (suc n) zero = refl
none_at (suc n) (suc q) = none_at n q

own_row : (n q : ℕ) → n < 16 → get_or (set (replicate 16 None) n (Some zero_distance)) q None ≡ cond (eqb n q) (Some zero_distance) None
unfolding nothing
own_row n q lt = elim (eqb_tells n q) [
  | inl e ↦
      let here = get_or-set_same (replicate 16 nothing) n (Some zero_distance) None (subst (λ l. n < l) (sym (length-replicate 16 nothing)) lt) in
      subst (λ p. get_or (set (replicate 16 None) n (Some zero_distance)) p None ≡ cond (eqb n p) (Some zero_distance) None) e.1
      (rw (eq-eqb n n refl) here)
  | inr ne ↦ rw ne.0 (get_or-set_other (replicate 16 None) n q (Some zero_distance) None (λ same. ne.1 (sym same)) ∙ none_at 16 q)
]

-- one more row of a network with no edges
pub bare_more : (rows more : List (List (Option Distance))) (n : ℕ) → n < 16 → length rows ≡ n
    → ((p q : ℕ) → p < n → cell rows p q ≡ cond (eqb p q) (Some zero_distance) None)
    → more ≡ rows ++ set (replicate 16 None) n (Some zero_distance) ∷ []
    → (p q : ℕ) → p < n + 1 → cell more p q ≡ cond (eqb p q) (Some zero_distance) None
bare_more rows more n few tall cells is p q lt =
    subst (λ rs. cell rs p q ≡ cond (eqb p q) (Some zero_distance) None) (sym is) (elim (cases_eq p n) [
      | inl e ↦
          let row = set (replicate 16 None) n (Some zero_distance) in
          let last : cell (rows ++ row ∷ []) n q ≡ cond (eqb n q) (Some zero_distance) None =
          ap (λ r. get_or r q None) (get_or_push rows row [] n tall) ∙ own_row n q few in
          subst (λ m. cell (rows ++ row ∷ []) m q ≡ cond (eqb m q) (Some zero_distance) None) (sym e) last
      | inr ne ↦
          let row = set (replicate 16 None) n (Some zero_distance) in
          ap (λ r. get_or r q None) (get_or_append_left rows (row ∷ []) [] p (omega arith)) ∙ cells p q (omega arith)
    ])
