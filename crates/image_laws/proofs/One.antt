-- A world has one image: two images of it that say the same of the run so far are equal.
use Rattle.image_laws.proofs.Common.{◌≡◌, ◌∙◌, ℕ, suc, ℤ, Bool, List, [], ◌∷◌, map, length, refl, sym, ap, subst, arith, IsTotalOrder, on_total, nat_cmp_total}
use Rattle.image_laws.proofs.Common.{then_total, In, Fact, Extra, FiredMatch, Image, LifeTable, Match, Program, moment_in, in_map, of_map, Same, has_in, in_has}
use Rattle.image_laws.proofs.Common.{World, tag_cmp, match_fired, IsImageOf, AreMoments, fired_cmp, has_fired, extra_cmp, tag_total, sorted_same}
use Rattle.{row_delta.specs.RowOrder.{row_total}, checkpoint.specs.declared.image.RunPart.{RunPart}, rule_model.specs.MatchOrders.{match_total}}

pub fired_total : IsTotalOrder fired_cmp
fired_total = on_total match_fired match_total

pub extra_total : IsTotalOrder extra_cmp
extra_total = then_total (on_total (λ (e : Extra). e.rule.0) nat_cmp_total) (then_total (on_total (λ (e : Extra). e.condition) nat_cmp_total) (on_total (λ (e : Extra). e.row) row_total))

one_less : (m n : ℕ) → suc m ≡ suc n → m ≡ n
one_less m n e = omega arith

moments_alike : (xs ys : List ℤ) → length xs ≡ length ys → ((k : ℕ) → moment_in xs k ≡ moment_in ys k) → xs ≡ ys
moments_alike [] [] n h = refl
moments_alike [] (y ∷ ys) n h = absurd (omega arith)
moments_alike (x ∷ xs) [] n h = absurd (omega arith)
moments_alike (x ∷ xs) (y ∷ ys) n h =
    let first : x ≡ y = h 0 in
    ap (λ z. z ∷ xs) first ∙ ap (λ zs. y ∷ zs) (moments_alike xs ys (omega (arith, n)) (λ k. h (suc k)))

same_moments : (of : ℕ → ℤ) (n : ℕ) (xs ys : List ℤ) → AreMoments of n xs → AreMoments of n ys → xs ≡ ys
same_moments of n xs ys a b = moments_alike xs ys (a.as_many ∙ sym b.as_many) (λ k. a.each k ∙ sym (b.each k))

abbrev fired_of : Match → FiredMatch
fired_of m = record { rule = m.rule; row = m.row }

fired_too : (x y : Image) → ((m : Match) → has_fired x m ≡ has_fired y m) → (m : FiredMatch) → In m x.fired → In m y.fired
fired_too x y same m i =
    let there = has_in (match_fired m) (map match_fired x.fired) (in_map match_fired m x.fired i) in
    let n = of_map match_fired (match_fired m) y.fired (in_has (map match_fired y.fired) (match_fired m) (sym (same (match_fired m)) ∙ there)) in
    let is : n.0 ≡ m = ap fired_of n.2 in
    subst (λ (z : FiredMatch). In z y.fired) is n.1

abbrev image_with : RunPart → ℤ → Bool → List ℤ → List ℤ → ℕ → ℕ → List Fact → List FiredMatch → List Extra → Image
image_with run clock begun last_starts promises next_id next_tag facts fired extras =
    record { run = run; clock = clock; begun = begun; last_starts = last_starts; promises = promises; next_id = next_id; next_tag = next_tag; facts = facts; fired = fired; extras = extras }

module _ (p : Program) (table : LifeTable) (w : World) (a b : Image) (of_a : IsImageOf p table w a) (of_b : IsImageOf p table w b) where
  same_facts : Same a.facts b.facts
  same_facts f = (λ i. (of_b.facts f).1 ((of_a.facts f).0 i), λ i. (of_a.facts f).1 ((of_b.facts f).0 i))

  alike_fired : (m : Match) → has_fired a m ≡ has_fired b m
  alike_fired m = of_a.fired m ∙ sym (of_b.fired m)

  same_fired : Same a.fired b.fired
  same_fired m = (fired_too a b alike_fired m, fired_too b a (λ m. sym (alike_fired m)) m)

  same_extras : Same a.extras b.extras
  same_extras e = (λ i. (of_b.extras.exact e).1 ((of_a.extras.exact e).0 i), λ i. (of_a.extras.exact e).1 ((of_b.extras.exact e).0 i))

  pub one_image : a.run ≡ b.run → a ≡ b
  one_image e =
      ap (λ run. image_with run a.clock a.begun a.last_starts a.promises a.next_id a.next_tag a.facts a.fired a.extras) e
      ∙ ap (λ clock. image_with b.run clock a.begun a.last_starts a.promises a.next_id a.next_tag a.facts a.fired a.extras) (of_a.clock ∙ sym of_b.clock)
      ∙ ap (λ begun. image_with b.run b.clock begun a.last_starts a.promises a.next_id a.next_tag a.facts a.fired a.extras) (of_a.begun ∙ sym of_b.begun)
      ∙ ap (λ last_starts. image_with b.run b.clock b.begun last_starts a.promises a.next_id a.next_tag a.facts a.fired a.extras) (same_moments w.reached.last_start (length p.entries) a.last_starts b.last_starts of_a.last_starts of_b.last_starts)
      ∙ ap (λ promises. image_with b.run b.clock b.begun b.last_starts promises a.next_id a.next_tag a.facts a.fired a.extras) (same_moments w.reached.promise (length p.entries) a.promises b.promises of_a.promises of_b.promises)
      ∙ ap (λ n. image_with b.run b.clock b.begun b.last_starts b.promises n a.next_tag a.facts a.fired a.extras) (of_a.next_id ∙ sym of_b.next_id)
      ∙ ap (λ n. image_with b.run b.clock b.begun b.last_starts b.promises b.next_id n a.facts a.fired a.extras) (of_a.next_tag ∙ sym of_b.next_tag)
      ∙ ap (λ facts. image_with b.run b.clock b.begun b.last_starts b.promises b.next_id b.next_tag facts a.fired a.extras) (sorted_same tag_cmp tag_total a.facts b.facts of_a.facts_in_order of_b.facts_in_order same_facts)
      ∙ ap (λ fired. image_with b.run b.clock b.begun b.last_starts b.promises b.next_id b.next_tag b.facts fired a.extras) (sorted_same fired_cmp fired_total a.fired b.fired of_a.fired_in_order of_b.fired_in_order same_fired)
      ∙ ap (λ extras. image_with b.run b.clock b.begun b.last_starts b.promises b.next_id b.next_tag b.facts b.fired extras) (sorted_same extra_cmp extra_total a.extras b.extras of_a.extras.in_order of_b.extras.in_order same_extras)
