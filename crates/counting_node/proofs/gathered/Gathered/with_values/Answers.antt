use Rattle.counting_node.proofs.Common.{◌≡◌, ◌∙◌, sym, ap, refl, rules, get_or, pos, ◌++◌, ◌∷◌, [], take, ℤ, List, SFits, w64, to_z-of_z, take_more, take_all}
use Rattle.counting_node.proofs.{Common.{insert_rising, in_rising_order}, Extras.{rising_snoc}}
use Rattle.counting_node.proofs.gathered.Gathered.with_values.Goals as goal

append_all : (xs ys zs : List ℤ) → (xs ++ ys) ++ zs ≡ xs ++ (ys ++ zs)
append_all [] ys zs = refl
append_all (x ∷ xs) ys zs = ap (λ (ws : List ℤ). x ∷ ws) (append_all xs ys zs)

pub loop-value-preserved : goal.loop-value-preserved
loop-value-preserved c =
    let values = c.args.values.now in
    let i = c.loop-value.value-index in
    let v = get_or values i (pos 0) in
    let fits : SFits w64 v = search rules in (
      c.in_ok-now.ensures.kind ∙ c.loop-value.invariant.0,
      λ held is.
          (simp to_z-of_z at c.in_ok-now.ensures.values)
          ∙ ap (insert_rising v) (c.loop-value.invariant.1 held is) ∙ rising_snoc v (held ++ take i values)
          ∙ ap in_rising_order (append_all held (take i values) (v ∷ []) ∙ ap (λ (zs : List ℤ). held ++ zs) (sym (take_more values i (pos 0) c.loop-value-test.true))),
    )

pub returns-clause-values : goal.returns-clause-values
returns-clause-values c held is = c.loop-value.invariant.1 held is ∙ ap (λ (zs : List ℤ). in_rising_order (held ++ zs)) (take_all c.loop-value.value-index c.args.values.now c.loop-value-test.false)
