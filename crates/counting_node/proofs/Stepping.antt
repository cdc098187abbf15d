-- The four parts of a step together.
use Rattle.counting_node.proofs.Common.{◌≡◌, ◌∙◌, sym, ap, refl, subst, cond, List, [], ◌∷◌, Bool, true, false, not, ◌&&◌, Option, Some, None, fun_ext, is_some}
use Rattle.counting_node.proofs.Common.{Named, Row, Delta, has, Pattern, Look, joins, Memories, left_at, has_left, has_right, StepsTally, FollowsCandidates}
use Rattle.counting_node.proofs.{Common.{Arrives, passing, TallyStep, are_none, changes_nothing}, Following.{follow_then}}

module _ {T : Type 0} (holds : T → Look → (Named → Bool) → Type 0) (world look : Look) where
  pub arrives_kept : (b : Bool) (set : Named → Bool) (o after : Option T) (x : T) → o ≡ Some x → Arrives b holds look set o after → after ≡ Some x
  arrives_kept true set None after x e q = let f : None ≡ Some x = e in cc
  arrives_kept true set (Some t) after x e q = q ∙ e
  arrives_kept false set o after x e q = q ∙ e

  pub arrives_new : (b : Bool) (set : Named → Bool) (o after : Option T) → b ≡ true → o ≡ None → Arrives b holds world set o after → (t : T) × (after ≡ Some t) × holds t world set
  arrives_new true set None after e n q = q
  arrives_new true set (Some t) after e n q = let f : Some t ≡ None = n in cc
  arrives_new false set o after e n q = let f : false ≡ true = e in cc

  pub none_stays : (R : T → T → Type 0) (o after : Option T) → o ≡ None → StepsTally R o after → after ≡ None
  none_stays R None after e q = q
  none_stays R (Some t) after e q = let f : Some t ≡ None = e in cc

  is_none : (o : Option T) → is_some o ≡ false → o ≡ None
  is_none None e = refl
  is_none (Some t) e = let f : true ≡ false = e in cc

  none_cond : (b : Bool) (o : Option T) → (is_some o && not b) ≡ false → cond b None o ≡ None
  none_cond true o e = refl
  none_cond false None e = refl
  none_cond false (Some t) e = let f : true ≡ false = e in cc

  module _ (m0 m1 m2 m3 m4 : Memories T) (e1 : m1.pattern ≡ m0.pattern) (e2 : m2.pattern ≡ m1.pattern) (e3 : m3.pattern ≡ m2.pattern)
      (r1 : (c : Named) → has_right m1 look c ≡ has_right m0 look c) (r4 : (c : Named) → has_right m4 look c ≡ has_right m3 look c) (r : Row) (gone come : Bool)
      (left : left_at m1 look r ≡ cond gone None (left_at m0 look r)) where
    pub stays : Arrives come holds look (passing m3.pattern look (has_right m3 look) r) (left_at m3 look r) (left_at m4 look r) → (scope : Named → Bool) (t : T) → left_at m0 look r ≡ Some t → gone ≡ false
        → StepsTally (FollowsCandidates holds world scope (has_right m1 look) (has_right m2 look) (joins m1.pattern look r)) (left_at m1 look r) (left_at m2 look r)
        → StepsTally (FollowsCandidates holds world scope (has_right m2 look) (has_right m3 look) (joins m2.pattern look r)) (left_at m2 look r) (left_at m3 look r)
        → (now : T) × (left_at m4 look r ≡ Some now) × FollowsCandidates holds world scope (has_right m0 look) (has_right m4 look) (joins m0.pattern look r) t now
    stays came scope t was not_gone first next =
        let both : StepsTally (FollowsCandidates holds world scope (has_right m1 look) (has_right m3 look) (joins m0.pattern look r)) (left_at m1 look r) (left_at m3 look r) =
        follow_then holds world scope (has_right m1 look) (has_right m2 look) (has_right m3 look) (joins m0.pattern look r) (left_at m1 look r) (left_at m2 look r) (left_at m3 look r)
        (subst (λ (p : Pattern). StepsTally (FollowsCandidates holds world scope (has_right m1 look) (has_right m2 look) (joins p look r)) (left_at m1 look r) (left_at m2 look r)) e1 first)
        (subst (λ (p : Pattern). StepsTally (FollowsCandidates holds world scope (has_right m2 look) (has_right m3 look) (joins p look r)) (left_at m2 look r) (left_at m3 look r)) (e2 ∙ e1) next) in
        let some : StepsTally (FollowsCandidates holds world scope (has_right m1 look) (has_right m3 look) (joins m0.pattern look r)) (Some t) (left_at m3 look r) =
        subst (λ (o : Option T). StepsTally (FollowsCandidates holds world scope (has_right m1 look) (has_right m3 look) (joins m0.pattern look r)) o (left_at m3 look r)) (left ∙ ap (λ b. cond b None (left_at m0 look r)) not_gone ∙ was) both in (
          some.0,
          arrives_kept come (passing m3.pattern look (has_right m3 look) r) (left_at m3 look r) (left_at m4 look r) some.0 some.1 came,
          subst (λ (right : Named → Bool). FollowsCandidates holds world scope right (has_right m4 look) (joins m0.pattern look r) t some.0) (fun_ext r1)
              (subst (λ (right : Named → Bool). FollowsCandidates holds world scope (has_right m1 look) right (joins m0.pattern look r) t some.0) (fun_ext (λ c. sym (r4 c))) some.2),
        )

    pub fresh : Arrives come holds world (passing m3.pattern look (has_right m3 look) r) (left_at m3 look r) (left_at m4 look r) → (R Q : T → T → Type 0) → (has_left m0 look r && not gone) ≡ false → come ≡ true
        → StepsTally R (left_at m1 look r) (left_at m2 look r) → StepsTally Q (left_at m2 look r) (left_at m3 look r)
        → (t : T) × (left_at m4 look r ≡ Some t) × holds t world (passing m0.pattern look (has_right m4 look) r)
    fresh came R Q absent comes first next =
        let none1 : left_at m1 look r ≡ None = left ∙ none_cond gone (left_at m0 look r) absent in
        let none3 : left_at m3 look r ≡ None = none_stays Q (left_at m2 look r) (left_at m3 look r) (none_stays R (left_at m1 look r) (left_at m2 look r) none1 first) next in
        let new = arrives_new come (passing m3.pattern look (has_right m3 look) r) (left_at m3 look r) (left_at m4 look r) comes none3 came in (
          new.0,
          new.1,
          subst (holds new.0 world) (ap (λ (p : Pattern). passing p look (has_right m3 look) r) (e3 ∙ e2 ∙ e1) ∙ fun_ext (λ c. ap (λ b. b && joins m0.pattern look r c) (sym (r4 c)))) new.2,
        )

-- where no row comes, and the memories stay, that is a step
are_none_come : (gone come : List Row) → are_none gone come ≡ true → come ≡ []
are_none_come [] [] e = refl
are_none_come (row ∷ gone) come e = let f : false ≡ true = e in cc
are_none_come [] (row ∷ come) e = let f : false ≡ true = e in cc

pub no_step : {T : Type 0} (holds : T → Look → (Named → Bool) → Type 0) (look : Look) (m : Memories T) (left right : Delta) → changes_nothing left ≡ true → TallyStep holds look m m left right
no_step holds look m left right nothing = record {
  stays = λ world scope alike goes comes r t was not_gone. (t, was, λ extra apart h. h);
  fresh = λ world alike r absent comes. let f : false ≡ true = sym (ap (λ (rows : List Row). has rows r) (are_none_come left.gone left.come nothing)) ∙ comes in cc;
}
