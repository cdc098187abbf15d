-- What is made of the parts of an image is the image under other rules.
use Rattle.std.proofs.Common.{List, None, Option, Some, ap, arith, length, map, refl, subst, suc, sym, take, true, ℕ, ℤ, ◌&&◌, ◌+◌, ◌↔◌, ◌∙◌, ◌≡◌}
use Rattle.std.{proofs.lemmas.{Bool.{and_from, and_parts}, List.Kept.{IsStrictlySortedBy-filter}}, specs.List.{filter, Sorted.{IsStrictlySortedBy}}}
use Rattle.{change_resolve.proofs.Places.{some_is}, checkpoint.specs.declared.image.{FiredMatch.{FiredMatch}, Image.{Image}}, fx_base.specs.Lists.{In}}
use Rattle.{image_change.specs.Images.{IsChangedImage, IsMovedExtra, IsMovedImage}, image_laws.specs.{Fitting.{IsLadenMatch}, Images.{AreMoments, has_fired}}}
use Rattle.{image_laws.specs.Images.{match_fired}, laden_rows.specs.{Laden.{AreOwners}, Placed.{IsPlaced}}, row_delta.specs.declared.extra.Extra.{Extra}}
use Rattle.rule_change.{proofs.Changing.{filtered}, specs.Changed.{entry_in, is_marked, moment_or_zero, moved_condition, was_fired}}
use Rattle.rule_model.specs.{declared.{matched.Match.{Match}, program.{Program.{Program}, Rule.{Rule}}}, Matches.{has_match, match_cmp}, Moments.{moment_in}}
use Rattle.image_making.{proofs.Going.{unmapped}, specs.Moved.{Begins, IsFirstMoved, IsMoved}}

pub made_moments : (p q : Program) (given was made listed : List ℤ) → given ≡ was → listed ≡ made
    → AreMoments (λ entry. moment_or_zero (moment_in given) (entry_in q p entry)) (length q.entries) made
    → AreMoments (λ entry. moment_or_zero (moment_in was) (entry_in q p entry)) (length q.entries) listed
made_moments p q given was made listed same is are =
    subst (λ (moments : List ℤ). AreMoments (λ entry. moment_or_zero (moment_in moments) (entry_in q p entry)) (length q.entries) listed) same
    (subst (λ (moments : List ℤ). AreMoments (λ entry. moment_or_zero (moment_in given) (entry_in q p entry)) (length q.entries) moments) (sym is) are)

-- ---- extras

module _ (p q : Program) (image : Image) (placed : (e : Extra) → In e image.extras → IsPlaced p e) (e : Extra) where
  to_extra : IsMoved p q image.extras e → IsMovedExtra p q image e
  to_extra h =
      let was = placed h.0 h.1 in
      let n : e.condition ≡ h.0.condition = ap (λ (z : Extra). z.condition) h.2.0 in
      let many : h.0.condition + 1 ≡ suc e.condition = omega (arith, n) in
      let f = h.2.1 was.rule was.stands in
      let begins = subst (λ (m : ℕ). Begins p q m was.rule.conditions f.0.conditions) many f.2 in
      record {
        rule = f.0;
        stands = f.1;
        first = record {
          rule = f.0;
          stands = f.1;
          begins = refl;
          earlier = λ k other less at same.
              f.3 k other less at (subst (λ (m : ℕ). Begins p q m was.rule.conditions other.conditions) (sym many) (same ∙ begins));
        };
        was = h.0;
        there = h.1;
        old = was.rule;
        old_stands = was.stands;
        begins = sym begins;
        alike = h.2.0;
      }

  from_extra : IsMovedExtra p q image e → IsMoved p q image.extras e
  from_extra x =
      let n : e.condition ≡ x.was.condition = ap (λ (z : Extra). z.condition) x.alike in
      let many : suc e.condition ≡ x.was.condition + 1 = omega (arith, n) in (
        x.was,
        x.there,
        (
          x.alike,
          λ old at.
              let same : x.old ≡ old = some_is (sym x.old_stands ∙ at) in
              subst (λ (m : ℕ). IsFirstMoved p q m old.conditions (Some e.rule)) many
              (subst (λ (r : Rule). IsFirstMoved p q (suc e.condition) r.conditions (Some e.rule)) same
              (place x)),
        ),
      )
    where
      place : (x : IsMovedExtra p q image e) → IsFirstMoved p q (suc e.condition) x.old.conditions (Some e.rule)
      place x = (x.rule, x.stands, sym (starts x), λ k other less there begins. x.first.earlier k other less there (begins ∙ starts x))
        where
          starts : (x : IsMovedExtra p q image e) → map (moved_condition p q) (take (suc e.condition) x.old.conditions) ≡ take (suc e.condition) x.rule.conditions
          starts x = x.begins

pub made_extras : (p q : Program) (image : Image) → ((e : Extra) → In e image.extras → IsPlaced p e) → (given made listed : List Extra) → given ≡ image.extras → listed ≡ made
    → ((e : Extra) → In e made ↔ IsMoved p q given e) → (e : Extra) → In e listed ↔ IsMovedExtra p q image e
made_extras p q image placed given made listed same is are e = (
  λ i. to_extra p q image placed e (subst (λ (es : List Extra). IsMoved p q es e) same ((are e).0 (subst (λ (es : List Extra). In e es) is i))),
  λ x. subst (λ (es : List Extra). In e es) (sym is) ((are e).1 (subst (λ (es : List Extra). IsMoved p q es e) (sym same) (from_extra p q image placed e x))),
)

-- ---- what was fired

module _ (p q : Program) (from : ℕ → Option ℕ) (image made : Image) (is : IsMovedImage p q image made) (keys matches : List Match) (marked : List FiredMatch)
    (fired : (m : Match) → has_match keys m ≡ has_fired image m) (sorted : IsStrictlySortedBy match_cmp matches)
    (laden : (owners : ℕ → ℕ → ℕ) → AreOwners q owners → (m : Match) → (has_match matches m ≡ true) ↔ IsLadenMatch q made owners m.rule.0 m.row)
    (are : map match_fired marked ≡ filter (is_marked from keys) matches) where
  same_mark : (m : Match) (o : Option ℕ) → was_fired keys m o ≡ was_fired (map match_fired image.fired) m o
  same_mark m None = refl
  same_mark m (Some old) = fired (record m { rule = record { 0 = old } })

  whole : (m : Match) → has_match (map match_fired marked) m ≡ (has_match matches m && is_marked from (map match_fired image.fired) m)
  whole m =
      ap (λ (ms : List Match). has_match ms m) are ∙ filtered (is_marked from keys) m matches ∙ ap (λ b. has_match matches m && b) (same_mark m (from m.rule.0))

  pub changed_is : IsChangedImage p q from image (record made { fired = marked })
  changed_is = record {
    clock = is.clock;
    begun = is.begun;
    last_starts = is.last_starts;
    promises = is.promises;
    next_id = is.next_id;
    next_tag = is.next_tag;
    facts = is.facts;
    fired_in_order =
        unmapped match_fired match_cmp marked (subst (IsStrictlySortedBy match_cmp) (sym are) (IsStrictlySortedBy-filter match_cmp (is_marked from keys) matches sorted));
    fired = λ owners own m. (
      λ e.
          let parts = and_parts (has_match matches m) (is_marked from (map match_fired image.fired) m) (sym (whole m) ∙ e) in ((laden owners own m).0 parts.0, parts.1),
      λ h. whole m ∙ and_from (has_match matches m) (is_marked from (map match_fired image.fired) m) ((laden owners own m).1 h.0) h.1,
    );
    extras_in_order = is.extras_in_order;
    extras = is.extras;
  }
