-- Parts of a step: those that leave the tallies as they are, and one after the other.
use Rattle.counting_node.proofs.Common.{◌≡◌, ◌∙◌, sym, ap, refl, subst, cond, Bool, true, false, not, ◌&&◌, ◌||◌, None, Option, ℤ, fun_ext, is_some, eq_by_cmp}
use Rattle.counting_node.proofs.Common.{Named, Row, name_cmp, name_equiv, leads_alike, Pattern, Look, joins, Memories, left_at, has_left, has_right}
use Rattle.counting_node.proofs.Common.{KeepsMemories, keeps_then, StepsTally, TurnedIf, FollowsCandidates, Arrives, passing, shown, PartStep, AllTurned}
use Rattle.counting_node.proofs.{Common.{AllFollow, AllDropped, AllArrive, AllStay}, Turning.{shown_alike}, Following.{steps_both, follow_then, steps_leave}}
use Rattle.{counting_node.proofs.Following.{steps_come, arrives_both}, row_change.specs.declared.change.Change.{Change}}

-- ---- whole parts

-- where the tallies stay, nothing changes in the rows
pub unmoved : {T : Type 0} (origin : Row → Option Row) (gives : ℤ → Row → Bool) (output : Look → Row → T → Option ℤ) (B : Memories T → Memories T → Type 0) (m n : Memories T) (look : Look) (left : Row → Bool) (right : Named → Bool) (change : Change)
    → KeepsMemories m n look left right → AllStay look m n → B m n → PartStep (shown origin gives output) B m n look left right change change
unmoved origin gives output B m n look left right change keeps same become = record {
  keeps = keeps;
  tallies = become;
  leads = λ old before. leads_alike old (shown origin gives output m look) (shown origin gives output n look) change.gone.keys change.come.keys before
      (shown_alike origin gives output m n look (λ r. sym (same r)));
}

pub part_then : {T : Type 0} {rows : Memories T → Look → Row → Bool} (B C D : Memories T → Memories T → Type 0) (first next last : Memories T) (look : Look) (left left_next left_now : Row → Bool) (right right_next right_now : Named → Bool) (change change_next change_now : Change)
    → PartStep rows B first next look left right change change_next → PartStep rows C next last look left_next right_next change_next change_now
    → ((r : Row) → left_next r ≡ left_now r) → ((c : Named) → right_next c ≡ right_now c) → (B first next → C next last → D first last) → PartStep rows D first last look left_now right_now change change_now
part_then B C D first next last look left left_next left_now right right_next right_now change change_next change_now k m h j both = record {
  keeps = keeps_then first next last look left left_next left_now right right_next right_now k.keeps m.keeps h j;
  tallies = both k.tallies m.tallies;
  leads = λ old before. m.leads old (k.leads old before);
}

-- ---- what tallies become in two parts

dropped_twice : {X : Type 0} (a b : Bool) (x y : X) → cond b x (cond a x y) ≡ cond (a || b) x y
dropped_twice true true x y = refl
dropped_twice true false x y = refl
dropped_twice false b x y = refl

module _ {T : Type 0} (holds : T → Look → (Named → Bool) → Type 0) (look : Look) (m n z : Memories T) where
  pub turned_then : (comes : Bool) (who : Named) (a b all : Row → Bool) → ((r : Row) → b r ≡ true → a r ≡ false) → ((r : Row) → (a r || b r) ≡ all r)
      → AllTurned holds look comes who a m n → AllTurned holds look comes who b n z → AllTurned holds look comes who all m z
  turned_then comes who a b all apart is p q world alike r =
      subst (λ x. StepsTally (TurnedIf x holds world comes who) (left_at m look r) (left_at z look r)) (is r)
      (steps_both holds world (a r) (b r) comes who (left_at m look r) (left_at n look r) (left_at z look r) (apart r) (p world alike r) (q world alike r))

  pub follow_all : (all one : Named → Bool) → n.pattern ≡ m.pattern → ((c : Named) → one c ≡ true → all c ≡ true)
      → AllFollow holds look all m n → AllFollow holds look one n z → AllFollow holds look all m z
  follow_all all one same within p q world scope alike inside r =
      follow_then holds world scope (has_right m look) (has_right n look) (has_right z look) (joins m.pattern look r) (left_at m look r) (left_at n look r) (left_at z look r) (p world scope alike inside r)
      (subst (λ (pattern : Pattern). StepsTally (FollowsCandidates holds world scope (has_right n look) (has_right z look) (joins pattern look r)) (left_at n look r) (left_at z look r)) same (q world scope alike (λ c e. inside c (within c e)) r))

  pub dropped_then : (a b all : Row → Bool) → ((r : Row) → (a r || b r) ≡ all r) → AllDropped look a m n → AllDropped look b n z → AllDropped look all m z
  dropped_then a b all is p q r =
      q r ∙ ap (cond (b r) None) (p r) ∙ dropped_twice (a r) (b r) None (left_at m look r) ∙ ap (λ x. cond x None (left_at m look r)) (is r)

  pub arrive_then : (left : Row → Bool) → KeepsMemories m n look left (has_right m look) → (a b all : Row → Bool) → ((r : Row) → (a r || b r) ≡ all r)
      → AllArrive holds look a m n → AllArrive holds look b n z → AllArrive holds look all m z
  arrive_then left keeps a b all is p q world alike r =
      let same : passing n.pattern look (has_right n look) r ≡ passing m.pattern look (has_right m look) r =
      ap (λ (pattern : Pattern). passing pattern look (has_right n look) r) keeps.pattern ∙ fun_ext (λ x. ap (λ b. b && joins m.pattern look r x) (keeps.names x)) in
      subst (λ x. Arrives x holds world (passing m.pattern look (has_right m look) r) (left_at m look r) (left_at z look r)) (is r)
      (arrives_both holds world (a r) (b r) (passing m.pattern look (has_right m look) r) (left_at m look r) (left_at n look r) (left_at z look r) (p world alike r)
      (subst (λ (set : Named → Bool). Arrives (b r) holds world set (left_at n look r) (left_at z look r)) same (q world (λ x e. alike x (sym (keeps.names x) ∙ e)) r)))

  -- ---- one candidate, and then the rows for which it passes
  module _ (who : Named) (turning : Row → Bool) (passes : (r : Row) → turning r ≡ (has_left n look r && joins n.pattern look r who)) (stay : AllStay look m n) (after : (c : Named) → has_right z look c ≡ has_right n look c) where
    kept_passes : n.pattern ≡ m.pattern → (r : Row) → turning r ≡ (is_some (left_at m look r) && joins m.pattern look r who)
    kept_passes same r =
        passes r ∙ ap (λ (pattern : Pattern). has_left n look r && joins pattern look r who) same ∙ ap (λ o. is_some o && joins m.pattern look r who) (stay r)

    took_turn : (comes : Bool) → AllTurned holds look comes who turning n z → (world : Look) → world who.tag ≡ look who.tag → (r : Row) → StepsTally (TurnedIf (turning r) holds world comes who) (left_at m look r) (left_at z look r)
    took_turn comes turned world alike r = subst (λ o. StepsTally (TurnedIf (turning r) holds world comes who) o (left_at z look r)) (stay r) (turned world alike r)

    pub leave_all : KeepsMemories m n look (has_left m look) (λ c. has_right m look c && not (eq_by_cmp name_cmp who c)) → has_right m look who ≡ true
        → AllTurned holds look false who turning n z → AllFollow holds look (eq_by_cmp name_cmp who) m z
    leave_all keeps there turned world scope alike inside r =
        steps_leave holds world scope (has_right m look) (has_right z look) (joins m.pattern look r) who (inside who (name_equiv.refl who)) there (λ c. after c ∙ keeps.names c) (left_at m look r) (left_at z look r)
        (turning r) (kept_passes keeps.pattern r) (took_turn false turned world (alike who (inside who (name_equiv.refl who))) r)

    pub come_all : KeepsMemories m n look (has_left m look) (λ c. has_right m look c || eq_by_cmp name_cmp who c) → has_right m look who ≡ false
        → AllTurned holds look true who turning n z → AllFollow holds look (eq_by_cmp name_cmp who) m z
    come_all keeps absent turned world scope alike inside r =
        steps_come holds world scope (has_right m look) (has_right z look) (joins m.pattern look r) who (inside who (name_equiv.refl who)) absent (λ c. after c ∙ keeps.names c) (left_at m look r) (left_at z look r)
        (turning r) (kept_passes keeps.pattern r) (took_turn true turned world (alike who (inside who (name_equiv.refl who))) r)
