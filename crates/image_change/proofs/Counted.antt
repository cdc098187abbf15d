-- The extras of a changed image are what conditions of the new rules count of forgotten facts.
use Rattle.image_change.proofs.Common.{Bool, Condition, Existing, Fact, Finite, Folded, Image, In, IsFirstWith, IsImageOf, LifeTable, List, Named, Negated}
use Rattle.image_change.proofs.Common.{None, Option, Pattern, Program, Row, Rule, Some, World, and_from, and_parts, ap, ap₂, binds, carried, clean, false, fits}
use Rattle.image_change.proofs.Common.{fun_ext, length, life_stays, list_any-from, lost_partners, map, moved_condition, moved_fact, name_of, new_type, of_map}
use Rattle.image_change.proofs.Common.{option_and_then, option_map, pattern_of, refl, rows_of, slice_get, snapshot, subst, suc, sym, take, true}
use Rattle.image_change.proofs.{Common.{values_gathered, ℕ, ℤ, ◌&&◌, ◌<◌, ◌==◌, ◌↔◌, ◌∙◌, ◌≡◌}, Forgotten.{lost_life, of_type}, Kept.{IsTaken, are_moved}}
use Rattle.image_change.proofs.{Kept.{behind, forgotten_same, moves, places, still_safe}, Lists.{at_last, in_take, take_fewer}, Lost.{binds_moved}}
use Rattle.image_change.{proofs.{Lost.{gathered_moved, lost_moved, pattern_moved}, Owners.{first_with}}, specs.Images.{IsMovedExtra}}
use Rattle.{change_resolve.{proofs.Places.{some_is}, specs.Changes.{type_named}}, condition_rows.specs.Sets.{partners}, fx_base.proofs.Sequences.{get-below}}
use Rattle.{fx_base.specs.declared.ids.RuleId.{RuleId}, kept_meaning.specs.Kept.{is_forgotten}, laden_rows.proofs.{Extras.{first_of_some}, Rows.{in_lost}}}
use Rattle.{laden_rows.specs.Extras.{IsExtraIn}, row_delta.specs.{Rows.{has}, declared.extra.Extra.{Extra}}, rule_change.proofs.Places.{type_back}}
use Rattle.{rule_change.{proofs.Rows.{rows_same}, specs.{Alike.{HasPlaces}, Changed.{changed, moved_rule, type_in}}}, rule_model.proofs.Named.{of_filter}}
use Rattle.rule_model.{proofs.{Order.{passed}, RuleOf.{in_place}}, specs.{Candidates.{is_candidate, is_inside}, Simple.{observes}}}
use Rattle.{rule_model.specs.declared.{condition.Condition.TheVariants.{Plain}, program.TypeInfo.{TypeInfo}}, std.proofs.lemmas.Bool.{eq-eqb}}
use Rattle.std.proofs.lemmas.{List.{length-map, take-map}, Option.{slice_get-map}}

observes_aside : (c : Condition) → binds c ≡ false → observes c ≡ true
observes_aside (Plain pattern) e = absurd (let torn : true ≡ false = e in cc)
observes_aside (Negated pattern) e = refl
observes_aside (Existing pattern) e = refl
observes_aside (Folded a) e = refl

module _ (p q : Program) (from : ℕ → Option ℕ) (table own : LifeTable) (w : World) (t : IsTaken p q from table own w) where
  abbrev next : World
  next = changed p q from w

  abbrev goes_on : LifeTable
  goes_on = carried p q table own

  abbrev IsExtra : Extra → Type 0
  IsExtra = IsExtraIn p (snapshot w) (is_forgotten p table w)

  abbrev IsExtraBehind : Extra → Type 0
  IsExtraBehind = IsExtraIn q (snapshot next) (is_forgotten q goes_on next)

  pub clean_same : (row : Row) → clean (is_forgotten q goes_on next) row ≡ clean (is_forgotten p table w) row
  clean_same row = ap (λ (f : Named → Bool). clean f row) (fun_ext (forgotten_same p q from table own w t))

  -- ---- conditions that an old rule begins with

  module _ (rule : Rule) (place : ℕ) (stands : slice_get p.rules place ≡ Some rule) (n : ℕ) (conditions : List Condition)
      (begins : map (moved_condition p q) (take (suc n) rule.conditions) ≡ take (suc n) conditions) where
    have_places : (c : Condition) → In c rule.conditions → HasPlaces p c
    have_places = t.over.places rule (in_place p.rules place rule stands)

    placed : option_map (moved_condition p q) (slice_get rule.conditions n) ≡ slice_get conditions n
    placed =
        ap (option_map (moved_condition p q)) (sym (at_last n rule.conditions)) ∙ sym (slice_get-map (moved_condition p q) (take (suc n) rule.conditions) n)
        ∙ ap (λ (cs : List Condition). slice_get cs n) begins ∙ at_last n conditions

    fewer : map (moved_condition p q) (take n rule.conditions) ≡ take n conditions
    fewer =
        ap (map (moved_condition p q)) (sym (take_fewer n rule.conditions)) ∙ sym (take-map (moved_condition p q) n (take (suc n) rule.conditions))
        ∙ ap (take n) begins ∙ take_fewer n conditions

    rows_there : (row : Row) → rows_of q (snapshot next) (take n conditions) row ≡ rows_of p (snapshot w) (take n rule.conditions) row
    rows_there row =
        ap (λ (cs : List Condition). rows_of q (snapshot next) cs row) (sym fewer)
        ∙ ap (λ (rs : List Row). has rs row)
        (rows_same p q (moves p q from table own w t) (snapshot w) (snapshot next) (are_moved p q from table own w t) (take n rule.conditions)
        (λ c i. have_places c (in_take n rule.conditions c i)))

    module _ (c : Condition) (at : slice_get rule.conditions n ≡ Some c) (row : Row) where
      abbrev lost : List Fact
      lost = lost_partners p (snapshot w) (is_forgotten p table w) (pattern_of c) row

      lost_same : lost_partners q (snapshot next) (is_forgotten q goes_on next) (pattern_of (moved_condition p q c)) row ≡ map (moved_fact p q) lost
      lost_same =
          let inside = have_places c (in_place rule.conditions n c at) in
          ap (λ pattern. lost_partners q (snapshot next) (is_forgotten q goes_on next) pattern row) (pattern_moved p q c)
          ∙ lost_moved p q from table own w t (pattern_of c) inside.0 inside.1 row

      count_same : length (lost_partners q (snapshot next) (is_forgotten q goes_on next) (pattern_of (moved_condition p q c)) row) ≡ length lost
      count_same = ap (λ (fs : List Fact). length fs) lost_same ∙ length-map lost (moved_fact p q)

      values_same : values_gathered (moved_condition p q c) (lost_partners q (snapshot next) (is_forgotten q goes_on next) (pattern_of (moved_condition p q c)) row) ≡ values_gathered c lost
      values_same = ap (values_gathered (moved_condition p q c)) lost_same ∙ gathered_moved p q from table own w t c lost

  -- ---- what was counted is counted

  extra_on : (was : Extra) (y : IsExtra was) (rule : Rule) (place : RuleId) → slice_get q.rules place.0 ≡ Some rule
      → IsFirstWith q (suc was.condition) rule.conditions place.0 → map (moved_condition p q) (take (suc was.condition) y.rule.conditions) ≡ take (suc was.condition) rule.conditions
      → IsExtraBehind (record was { rule = place })
  extra_on was y rule place stands first begins = record {
    rule = rule;
    stands = stands;
    condition = moved_condition p q y.condition;
    placed = sym (placed y.rule was.rule.0 y.stands was.condition rule.conditions begins) ∙ ap (option_map (moved_condition p q)) y.placed;
    aside = binds_moved p q y.condition ∙ y.aside;
    first = first;
    there = rows_there y.rule was.rule.0 y.stands was.condition rule.conditions begins was.row ∙ y.there;
    kept = clean_same was.row ∙ y.kept;
    some = y.some;
    counted = y.counted ∙ sym (count_same y.rule was.rule.0 y.stands was.condition rule.conditions begins y.condition y.placed was.row);
    gathered = y.gathered ∙ sym (values_same y.rule was.rule.0 y.stands was.condition rule.conditions begins y.condition y.placed was.row);
  }

  extra_back : (e : Extra) (x : IsExtraBehind e) (rule : Rule) (place : RuleId) → slice_get p.rules place.0 ≡ Some rule
      → IsFirstWith p (suc e.condition) rule.conditions place.0 → map (moved_condition p q) (take (suc e.condition) rule.conditions) ≡ take (suc e.condition) x.rule.conditions
      → IsExtra (record e { rule = place })
  extra_back e x rule place stands first begins = by (slice_get rule.conditions e.condition) refl
    where
      of : (c : Condition) → slice_get rule.conditions e.condition ≡ Some c → x.condition ≡ moved_condition p q c → IsExtra (record e { rule = place })
      of c at same = record {
        rule = rule;
        stands = stands;
        condition = c;
        placed = at;
        aside = sym (binds_moved p q c) ∙ ap binds (sym same) ∙ x.aside;
        first = first;
        there = sym (rows_there rule place.0 stands e.condition x.rule.conditions begins e.row) ∙ x.there;
        kept = sym (clean_same e.row) ∙ x.kept;
        some = x.some;
        counted =
            x.counted ∙ ap (λ (d : Condition). length (lost_partners q (snapshot next) (is_forgotten q goes_on next) (pattern_of d) e.row)) same
            ∙ count_same rule place.0 stands e.condition x.rule.conditions begins c at e.row;
        gathered =
            x.gathered ∙ ap (λ (d : Condition). values_gathered d (lost_partners q (snapshot next) (is_forgotten q goes_on next) (pattern_of d) e.row)) same
            ∙ values_same rule place.0 stands e.condition x.rule.conditions begins c at e.row;
      }

      by : (o : Option Condition) → slice_get rule.conditions e.condition ≡ o → IsExtra (record e { rule = place })
      by None none = absurd (let torn : None ≡ Some x.condition =
          ap (option_map (moved_condition p q)) (sym none) ∙ placed rule place.0 stands e.condition x.rule.conditions begins ∙ x.placed in cc)
      by (Some c) at =
          of c at (some_is (sym x.placed ∙ sym (placed rule place.0 stands e.condition x.rule.conditions begins) ∙ ap (option_map (moved_condition p q)) at))

  -- ---- what is counted was

  -- the type was there, and its events were forgotten behind a finite life
  record Forgets (ty : ℕ) : Type 0 where
    there : ℕ × TypeInfo
    was : type_in q p ty ≡ Some there
    life : ℤ
    forgets : slice_get table.lives there.0 ≡ Some (Finite life)

  old_forgets : (f : Fact) → In f w.facts → (life : ℤ) → slice_get goes_on.lives (new_type p q f.ty.0) ≡ Some (Finite life) → Forgets (new_type p q f.ty.0)
  old_forgets f i life e =
      let at = (places p q from table own w t f i).type in
      let old = get-below p.types f.ty.0 at in
      let info = (moves p q from table own w t).type_is f.ty.0 old.0 old.1 in
      record {
        there = (f.ty.0, old.0);
        was =
            ap (option_and_then (λ (u : TypeInfo). type_named u.name p.types 0)) info.1 ∙ ap (λ (name : List ℕ). type_named name p.types 0) (sym info.2.name)
            ∙ type_back p t.over.names f.ty.0 old.0 old.1;
        life = life;
        forgets = sym (life_stays p q from table own t.over t.safe.safe.as_many t.lives.as_many f.ty.0 at) ∙ e;
      }

  type_forgets : (pattern : Pattern) (f : Fact) → In f next.facts → is_forgotten q goes_on next (name_of f) ≡ true → fits q pattern next.clock f ≡ true → Forgets pattern.ty.0
  type_forgets pattern f i forgotten fit =
      let law = (behind p q from table own w t).0 in
      let safe = (still_safe p q from table own w t).safe in
      let life = lost_life q goes_on next safe law pattern f i forgotten fit in
      let g = of_map (moved_fact p q) f w.facts (subst (λ (facts : List Fact). In f facts) (behind p q from table own w t).1.facts i) in
      let ty : new_type p q g.0.ty.0 ≡ f.ty.0 = ap (λ (x : Fact). x.ty.0) g.2 in
      subst Forgets (ty ∙ of_type q goes_on next safe law pattern f i forgotten fit) (old_forgets g.0 g.1 life.0 (ap (slice_get goes_on.lives) ty ∙ life.1))

  module _ (e : Extra) (x : IsExtraBehind e) where
    abbrev pattern : Pattern
    pattern = pattern_of x.condition

    some_lost : Forgets pattern.ty.0
    some_lost =
        let some = first_of_some (lost_partners q (snapshot next) (is_forgotten q goes_on next) pattern e.row) (subst (λ (n : ℕ). 0 < n) x.counted x.some) in
        let i = in_lost q pattern (snapshot next) (is_forgotten q goes_on next) e.row some.0 some.1 in
        type_forgets pattern some.0 (of_filter (is_candidate q pattern (snapshot next)) some.0 next.facts i.0)
        (passed (λ (f : Fact). is_forgotten q goes_on next (name_of f)) some.0 (partners q pattern (snapshot next) e.row) some.1)
        (and_parts (fits q pattern next.clock some.0) (is_inside q pattern pattern.window next.clock next.facts some.0) (passed (is_candidate q pattern (snapshot next)) some.0 next.facts i.0)).0

    -- a new rule counts nothing that was forgotten
    counted_anew : from e.rule.0 ≡ None → ⊥
    counted_anew new =
        let lost = some_lost in
        t.verdict.4 pattern.ty.0 (record {
          place = e.rule.0;
          rule = x.rule;
          stands = x.stands;
          new = new;
          counts =
              list_any-from (λ (c : Condition). observes c && (pattern_of c).ty.0 == pattern.ty.0) x.condition x.rule.conditions
              (in_place x.rule.conditions e.condition x.condition x.placed)
              (and_from (observes x.condition) (pattern.ty.0 == pattern.ty.0) (observes_aside x.condition x.aside) (eq-eqb pattern.ty.0 pattern.ty.0 refl));
          there = lost.there;
          was = lost.was;
          life = lost.life;
          forgets = lost.forgets;
        })

    is_old : (o : Option ℕ) → from e.rule.0 ≡ o → (old : ℕ) × (from e.rule.0 ≡ Some old)
    is_old None new = absurd (counted_anew new)
    is_old (Some old) stays = (old, stays)

  module _ (image : Image) (is : IsImageOf p table w image) (e : Extra) where
    to_extra : IsMovedExtra p q image e → IsExtraBehind e
    to_extra x =
        let y = (is.extras.exact x.was).0 x.there in
        let n : e.condition ≡ x.was.condition = ap (λ (z : Extra). z.condition) x.alike in
        let same : x.old ≡ y.rule = some_is (sym x.old_stands ∙ y.stands) in
        subst IsExtraBehind (sym x.alike)
        (extra_on x.was y x.rule e.rule x.stands (subst (λ (k : ℕ). IsFirstWith q (suc k) x.rule.conditions e.rule.0) n x.first)
        (ap₂ (λ (k : ℕ) (r : Rule). map (moved_condition p q) (take (suc k) r.conditions)) (sym n) (sym same) ∙ x.begins ∙ ap (λ (k : ℕ). take (suc k) x.rule.conditions) n))

    from_extra : IsExtraBehind e → IsMovedExtra p q image e
    from_extra x =
        let old = is_old e x (from e.rule.0) refl in
        let stays = t.over.are_from.same e.rule.0 old.0 old.1 in
        let first = first_with p (suc e.condition) stays.rule.conditions old.0 stays.rule stays.was refl in
        let same : x.rule ≡ moved_rule p q stays.rule = some_is (sym x.stands ∙ stays.is) in
        let begins : map (moved_condition p q) (take (suc e.condition) first.1.rule.conditions) ≡ take (suc e.condition) x.rule.conditions =
        ap (map (moved_condition p q)) first.1.begins ∙ sym (take-map (moved_condition p q) (suc e.condition) stays.rule.conditions)
        ∙ ap (λ (r : Rule). take (suc e.condition) r.conditions) (sym same) in
        let again : IsFirstWith p (suc e.condition) first.1.rule.conditions first.0 = record {
          rule = first.1.rule;
          stands = first.1.stands;
          begins = refl;
          earlier = λ k other less at h. first.1.earlier k other less at (h ∙ first.1.begins);
        } in
        let place : RuleId = record { 0 = first.0 } in
        record {
          rule = x.rule;
          stands = x.stands;
          first = x.first;
          was = record e { rule = place };
          there = (is.extras.exact (record e { rule = place })).1 (extra_back e x first.1.rule place first.1.stands again begins);
          old = first.1.rule;
          old_stands = first.1.stands;
          begins = begins;
          alike = refl;
        }

    pub moved_extra : IsMovedExtra p q image e ↔ IsExtraBehind e
    moved_extra = (to_extra, from_extra)
