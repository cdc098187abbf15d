use Rattle.temporal_ops.proofs.Common.{◌≡◌, ℕ, ◌-◌, ◌++◌, ◌&&◌, List, length, take, int_eq, refl, sym, ◌∙◌, ap, replicate, take-append_seam, Corner, AStart}
use Rattle.temporal_ops.{proofs.Common.{AEnd, BStart, BEnd, OpEdge, blank}, specs.contracts.edge.CornerPartialEq.TheImpl.{ghosts as corner_equality}}
use Rattle.{temporal_ops.specs.contracts.edge.OpEdgePartialEq.TheImpl.{ghosts as edge_equality}, std.specs.Bool.{Decides}}
use Rattle.std.{specs.Cmp.Lexicographic.{pointwise_decides}, proofs.lemmas.Bool.{eqb-true, eq-eqb, and_from, and_parts, Decides.{Decides-int_eq}}}
use Rattle.temporal_ops.proofs.laws.equal_ops.Goals as goal

corner_decides : (x y : Corner) → Decides (corner_equality.eq x y) (x ≡ y)
corner_decides AStart AStart = (λ h. refl, λ e. refl)
corner_decides AEnd AEnd = (λ h. refl, λ e. refl)
corner_decides BStart BStart = (λ h. refl, λ e. refl)
corner_decides BEnd BEnd = (λ h. refl, λ e. refl)
corner_decides x y = (λ h. absurd cc, λ e. absurd cc)

edge_decides : (a b : OpEdge) → Decides (edge_equality.eq a b) (a ≡ b)
edge_decides a b =
    let x = corner_decides a.x b.x in
    let y = corner_decides a.y b.y in
    let most = Decides-int_eq a.most b.most in (
      λ h.
          let k = and_parts (corner_equality.eq a.x b.x) (corner_equality.eq a.y b.y && int_eq a.most b.most) h in
          let l = and_parts (corner_equality.eq a.y b.y) (int_eq a.most b.most) k.1 in
          λ i. record { x = x.0 k.0 i; y = y.0 l.0 i; most = most.0 l.1 i },
      λ e. and_from (corner_equality.eq a.x b.x) (corner_equality.eq a.y b.y && int_eq a.most b.most)
          (x.1 (ap (λ (c : OpEdge). c.x) e))
          (and_from (corner_equality.eq a.y b.y) (int_eq a.most b.most) (y.1 (ap (λ (c : OpEdge). c.y) e)) (most.1 (ap (λ (c : OpEdge). c.most) e))),
    )

same_items : (a b : List OpEdge) → length a ≡ length b → a ++ replicate (5 - length a) blank ≡ b ++ replicate (5 - length b) blank → a ≡ b
same_items a b long same =
    sym (take-append_seam a (replicate (5 - length a) blank))
    ∙ ap (λ (l : List OpEdge). take (length a) l) same
    ∙ ap (λ (n : ℕ). take n (b ++ replicate (5 - length b) blank)) long
    ∙ take-append_seam b (replicate (5 - length b) blank)

pub returns : goal.returns
returns c = λ a b. (
  λ h. let k = and_parts _ _ h in same_items a b (eqb-true _ _ k.1) ((pointwise_decides edge_decides _ _).0 k.0),
  λ e. and_from _ _ ((pointwise_decides edge_decides _ _).1 (ap (λ (l : List OpEdge). l ++ replicate (5 - length l) blank) e)) (eq-eqb _ _ (ap (λ (l : List OpEdge). length l) e)),
)
