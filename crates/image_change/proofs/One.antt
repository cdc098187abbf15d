-- An image is changed in one way.
use Rattle.image_change.proofs.Common.{AreMoments, Image, In, IsChangedImage, IsLadenMatch, List, Match, Option, Program, ap, has_fired, in_map, length, map}
use Rattle.image_change.{proofs.{Common.{match_fired, of_map, same_test, subst, sym, true, ℕ, ℤ, ◌∙◌, ◌≡◌}, Owners.{owners}}, specs.Images.{ChangedIsOne}}
use Rattle.{checkpoint.specs.declared.image.FiredMatch.{FiredMatch}, image_laws.{proofs.One.{extra_total, fired_total}, specs.Images.{fired_cmp}}}
use Rattle.{laden_rows.specs.Extras.{extra_cmp}, rule_model.proofs.{RuleOf.{has_in, in_has}, Sorted.{sorted_same}}, std.proofs.Common.{pos}}
use Rattle.std.proofs.lemmas.List.{ext_get_or}

same_moments : (of : ℕ → ℤ) (n : ℕ) (xs ys : List ℤ) → AreMoments of n xs → AreMoments of n ys → xs ≡ ys
same_moments of n xs ys a b = ext_get_or (pos 0) xs ys (a.as_many ∙ sym b.as_many) (λ k less. a.each k ∙ sym (b.each k))

abbrev fired_of : Match → FiredMatch
fired_of m = record { rule = m.rule; row = m.row }

fired_too : (x y : Image) → ((m : Match) → has_fired x m ≡ has_fired y m) → (m : FiredMatch) → In m x.fired → In m y.fired
fired_too x y same m i =
    let there = has_in (match_fired m) (map match_fired x.fired) (in_map match_fired m x.fired i) in
    let n = of_map match_fired (match_fired m) y.fired (in_has (map match_fired y.fired) (match_fired m) (sym (same (match_fired m)) ∙ there)) in
    subst (λ (z : FiredMatch). In z y.fired) (ap fired_of n.2) n.1

module _ (p q : Program) (from : ℕ → Option ℕ) (image a b : Image) (c : IsChangedImage p q from image a) (d : IsChangedImage p q from image b) where
  extras : a.extras ≡ b.extras
  extras =
      sorted_same extra_cmp extra_total a.extras b.extras c.extras_in_order d.extras_in_order
      (λ e. (λ i. (d.extras e).1 ((c.extras e).0 i), λ i. (c.extras e).1 ((d.extras e).0 i)))

  -- but for what was fired, and the run
  alike : a ≡ record b { run = a.run; fired = a.fired }
  alike = λ i. record {
    run = a.run;
    clock = (c.clock ∙ sym d.clock) i;
    begun = (c.begun ∙ sym d.begun) i;
    last_starts = same_moments _ (length q.entries) a.last_starts b.last_starts c.last_starts d.last_starts i;
    promises = same_moments _ (length q.entries) a.promises b.promises c.promises d.promises i;
    next_id = (c.next_id ∙ sym d.next_id) i;
    next_tag = (c.next_tag ∙ sym d.next_tag) i;
    facts = (c.facts ∙ sym d.facts) i;
    fired = a.fired;
    extras = extras i;
  }

  fired_same : (m : Match) → has_fired a m ≡ has_fired b m
  fired_same m = same_test _ _ to back
    where
      to : has_fired a m ≡ true → has_fired b m ≡ true
      to e =
          let o = owners q in
          let was = (c.fired o.0 o.1 m).0 e in
          (d.fired o.0 o.1 m).1 (subst (λ (x : Image). IsLadenMatch q x o.0 m.rule.0 m.row) alike was.0, was.1)

      back : has_fired b m ≡ true → has_fired a m ≡ true
      back e =
          let o = owners q in
          let was = (d.fired o.0 o.1 m).0 e in
          (c.fired o.0 o.1 m).1 (subst (λ (x : Image). IsLadenMatch q x o.0 m.rule.0 m.row) (sym alike) was.0, was.1)

  fired : a.fired ≡ b.fired
  fired = sorted_same fired_cmp fired_total a.fired b.fired c.fired_in_order d.fired_in_order (λ m. (fired_too a b fired_same m, fired_too b a (λ n. sym (fired_same n)) m))

  pub one : a.run ≡ b.run → a ≡ b
  one run = alike ∙ (λ i. record b { run = run i; fired = fired i })

pub changed_is_one : ChangedIsOne
changed_is_one p q from image a b c d run = one p q from image a b c d run
