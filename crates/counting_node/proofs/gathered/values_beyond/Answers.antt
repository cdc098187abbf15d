use Rattle.counting_node.proofs.Common.{◌≡◌, ◌∙◌, sym, ap, refl, rules, get_or, pos, ◌+◌, ◌++◌, ◌∷◌, [], drop, ℕ, ℤ, List, Vec, Global, SFits, w64, to_z-of_z}
use Rattle.counting_node.proofs.Leaving.{leaves, leave_end, leave_here, leave_not, nothing_to_walk, leaves_beyond, behind}
use Rattle.counting_node.proofs.gathered.values_beyond.Goals.{then-next-part+then-is_same, else-next-part+in_ok-push}
use Rattle.counting_node.proofs.gathered.values_beyond.Goals.{else-next-part-via-then-next-part+else-is_same, else-next-part-via-else-next-part}
use Rattle.counting_node.proofs.gathered.values_beyond.Goals as goal

pub loop-value-preserved : goal.loop-value-preserved
loop-value-preserved c =
    let values = c.args.values.now in
    let part = c.args.part.now in
    let i = c.loop-value.value-index in
    let j = c.loop-value.next in
    let below = c.loop-value-test.true in
    let v = get_or values i (pos 0) in
    let p = get_or part j (pos 0) in
    let fits : SFits w64 v = search rules in
    elim c.if-next-part.branch [
      | then-next-part+then-is_same w ↦
          let part_fits : SFits w64 p = search rules in
          let same = simp to_z-of_z at w.is_same.ensures in
          ap (λ (rest : Vec ℤ Global). rest.items ++ leaves (drop (i + 1) values) (drop c.if-next-part.next part)) w.rest-is
          ∙ ap (λ (n : ℕ). c.loop-value.rest.items ++ leaves (drop (i + 1) values) (drop n part)) w.next-is
          ∙ ap (λ (more : List ℤ). c.loop-value.rest.items ++ more) (sym (leave_here values part i j (pos 0) (pos 0) below w.if-next-part.true (sym same ∙ w.if-is_same.true)))
          ∙ c.loop-value.invariant
      | else-next-part+in_ok-push w ↦
          let pushed = simp to_z-of_z at w.in_ok-push.ensures.items in
          ap (λ (n : ℕ). c.if-next-part.rest.items ++ leaves (drop (i + 1) values) (drop n part)) w.next-is
          ∙ behind c.loop-value.rest.items c.if-next-part.rest.items (leaves (drop i values) (drop j part)) (leaves (drop (i + 1) values) (drop j part)) (leaves values part) v
          c.loop-value.invariant (ap (λ (rest : Vec ℤ Global). rest.items) w.rest-is ∙ pushed)
          (elim w.else-next-part.branch [
            | else-next-part-via-then-next-part+else-is_same u ↦
                let part_fits : SFits w64 p = search rules in
                let same = simp to_z-of_z at u.is_same.ensures in
                leave_not values part i j (pos 0) (pos 0) below u.if-next-part.true (sym same ∙ u.if-is_same.false)
            | else-next-part-via-else-next-part u ↦ leave_end values part i j (pos 0) (pos 0) below u.if-next-part.false
          ])
    ]

pub returns : goal.returns
returns c xs ys all kept =
    let values = c.args.values.now in
    let part = c.args.part.now in
    append_none c.loop-value.rest.items
    ∙ ap (λ (more : List ℤ). c.loop-value.rest.items ++ more) (sym (nothing_to_walk values part c.loop-value.value-index c.loop-value-test.false (drop c.loop-value.next part)))
    ∙ c.loop-value.invariant ∙ leaves_beyond values part xs ys all kept
  where
    append_none : (zs : List ℤ) → zs ≡ zs ++ []
    append_none [] = refl
    append_none (z ∷ zs) = ap (λ (ys : List ℤ). z ∷ ys) (append_none zs)
