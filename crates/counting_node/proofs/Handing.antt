-- Candidates that are handed to a node: their turns, one after another, and a step in which they take them first, with the old rows.
use Rattle.counting_node.proofs.Common.{◌≡◌, ◌∙◌, sym, ap, refl, subst, cond, ℕ, ◌+◌, ◌<◌, length, take, get_or, List, [], Bool, true, false, not, ◌&&◌, ◌||◌}
use Rattle.counting_node.proofs.Common.{Option, Some, None, fun_ext, is_some, Named, Row, Delta, has, Pattern, Look, joins, Memories, left_at, has_left}
use Rattle.counting_node.proofs.Common.{has_right, StepsTally, TurnedIf, FollowsCandidates, Arrives, SeeAlike, passing, AllTurned, row_naming, name_cmp}
use Rattle.counting_node.proofs.{Common.{name_equiv, eq_by_cmp, has_name, any_name, changes_nothing, TallyStep}, Following.{follow_then, name_within}}
use Rattle.counting_node.proofs.{Following.{steps_come, steps_follow_same, steps_leave}, Stepping.{arrives_kept, arrives_new, no_step, none_stays}}
use Rattle.{counting_node.specs.Parts.{AllFollowMoved}, join_memory.specs.{declared.candidates.Candidates.{Candidates}, Handed.{moved}, Shared.{sharing}}}
use Rattle.join_memory.{specs.Shared.{TakesOver}, proofs.Handed.{next_may, moved_more, moved_none, may_go, may_come, handed_alike}}

where_passes : (a b p : Bool) → (p ≡ true → a ≡ b) → (a && p) ≡ (b && p)
where_passes true true p h = refl
where_passes false false p h = refl
where_passes true false true h = let f : true ≡ false = h refl in cc
where_passes true false false h = refl
where_passes false true true h = let f : false ≡ true = h refl in cc
where_passes false true false h = refl

none_then : {T : Type 0} (b : Bool) (o p : Option T) → (o ≡ None → p ≡ None) → (is_some o && not b) ≡ false → cond b None p ≡ None
none_then true o p h e = refl
none_then false None p h e = h refl
none_then false (Some t) p h e = let f : true ≡ false = e in cc

module _ {T : Type 0} (holds : T → Look → (Named → Bool) → Type 0) (look : Look) where
  -- one candidate after another
  pub none_moved : (comes : Bool) (names : List Named) (m : Memories T) → AllFollowMoved holds look comes names [] m m
  none_moved comes names m set may world scope alike inside r =
      steps_follow_same holds world scope set (moved comes (has_name []) set) (joins m.pattern look r) (moved_none comes set) (left_at m look r) (left_at m look r) refl

  one_follows : (comes : Bool) (world : Look) (scope set later passes : Named → Bool) (who : Named) → scope who ≡ true → set who ≡ not comes → ((c : Named) → later c ≡ moved comes (eq_by_cmp name_cmp who) set c)
      → (before after : Option T) (b : Bool) → b ≡ (is_some before && passes who) → StepsTally (TurnedIf b holds world comes who) before after → StepsTally (FollowsCandidates holds world scope set later passes) before after
  one_follows true world scope set later passes who inside there is before after b turns steps = steps_come holds world scope set later passes who inside there is before after b turns steps
  one_follows false world scope set later passes who inside there is before after b turns steps = steps_leave holds world scope set later passes who inside there is before after b turns steps

  pub one_moved : (comes : Bool) (names : List Named) (i : ℕ) → i < length names → (m n z : Memories T) → n.pattern ≡ m.pattern → AllFollowMoved holds look comes names (take i names) m n
      → AllTurned holds look comes (get_or names i any_name) (λ r. has_left n look r && joins n.pattern look r (get_or names i any_name)) n z → AllFollowMoved holds look comes names (take (i + 1) names) m z
  one_moved comes names i below m n z same so_far turn set may world scope alike inside r =
      let who = get_or names i any_name in
      let these = moved comes (has_name (take i names)) set in
      let there = inside who (name_within names i below who (name_equiv.refl who)) in
      follow_then holds world scope set these (moved comes (has_name (take (i + 1) names)) set) (joins m.pattern look r) (left_at m look r) (left_at n look r) (left_at z look r)
      (so_far set may world scope alike inside r)
      (one_follows comes world scope these (moved comes (has_name (take (i + 1) names)) set) (joins m.pattern look r) who there (next_may names set i below comes may)
      (λ c. sym (moved_more names set i below comes c)) (left_at n look r) (left_at z look r) (has_left n look r && joins n.pattern look r who)
      (ap (λ (p : Pattern). has_left n look r && joins p look r who) same) (turn world (alike who there) r))

  -- a whole step
  module _ (m0 m1 m2 m3 m4 : Memories T) (was : Candidates) (right : Delta) (leaving coming : List Named) (takes : TakesOver m0 was look right leaving coming)
      (e1 : m1.pattern ≡ m0.pattern) (e3 : m3.pattern ≡ m0.pattern) (n3 : (c : Named) → has_right m3 look c ≡ has_right m0 look c) (n4 : (c : Named) → has_right m4 look c ≡ has_right m3 look c)
      (go : AllFollowMoved holds look false leaving leaving m0 m1) (arrive : AllFollowMoved holds look true coming coming m1 m2) (r : Row) (gone come : Bool)
      (left : left_at m3 look r ≡ cond gone None (left_at m2 look r)) where
    abbrev before : Named → Bool
    before = has_right (sharing m0 was) look

    abbrev between : Named → Bool
    between = moved false (has_name leaving) before

    abbrev after : Named → Bool
    after = moved true (has_name coming) between

    both : (world : Look) (scope : Named → Bool) → SeeAlike scope look world → ((c : Named) → has right.gone (row_naming c) ≡ true → scope c ≡ true) → ((c : Named) → has right.come (row_naming c) ≡ true → scope c ≡ true)
        → StepsTally (FollowsCandidates holds world scope before after (joins m0.pattern look r)) (left_at m0 look r) (left_at m2 look r)
    both world scope alike goes comes =
        follow_then holds world scope before between after (joins m0.pattern look r) (left_at m0 look r) (left_at m1 look r) (left_at m2 look r)
        (go before (may_go m0 look before (has_right m0 look) leaving coming takes.handed) world scope alike (λ c e. goes c (takes.gone c e)) r)
        (subst (λ (p : Pattern). StepsTally (FollowsCandidates holds world scope between after (joins p look r)) (left_at m1 look r) (left_at m2 look r)) e1
        (arrive between (may_come m0 look before (has_right m0 look) leaving coming takes.handed) world scope alike (λ c e. comes c (takes.come c e)) r))

    pub stays_handed : (set : Named → Bool) → Arrives come holds look set (left_at m3 look r) (left_at m4 look r)
        → (world : Look) (scope : Named → Bool) → SeeAlike scope look world → ((c : Named) → has right.gone (row_naming c) ≡ true → scope c ≡ true) → ((c : Named) → has right.come (row_naming c) ≡ true → scope c ≡ true)
        → (t : T) → left_at m0 look r ≡ Some t → gone ≡ false → (now : T) × (left_at m4 look r ≡ Some now) × FollowsCandidates holds world scope before (has_right m4 look) (joins m0.pattern look r) t now
    stays_handed set came world scope alike goes comes t there not_gone =
        let some : StepsTally (FollowsCandidates holds world scope before after (joins m0.pattern look r)) (Some t) (left_at m2 look r) =
        subst (λ (o : Option T). StepsTally (FollowsCandidates holds world scope before after (joins m0.pattern look r)) o (left_at m2 look r)) there (both world scope alike goes comes) in (
          some.0,
          arrives_kept holds world look come set (left_at m3 look r) (left_at m4 look r) some.0 (left ∙ ap (λ b. cond b None (left_at m2 look r)) not_gone ∙ some.1) came,
          λ extra apart h.
              subst (holds some.0 world) (fun_ext (λ c. ap (λ b. b || extra c) (where_passes (after c) (has_right m4 look c) (joins m0.pattern look r c)
              (λ e. handed_alike m0 look before (has_right m0 look) leaving coming takes.handed r (ap is_some there) c e ∙ sym (n4 c ∙ n3 c))))) (some.2 extra apart h),
        )

    pub fresh_handed : (world : Look) → Arrives come holds world (passing m3.pattern look (has_right m3 look) r) (left_at m3 look r) (left_at m4 look r) → (has_left m0 look r && not gone) ≡ false → come ≡ true
        → (t : T) × (left_at m4 look r ≡ Some t) × holds t world (passing m0.pattern look (has_right m4 look) r)
    fresh_handed world came absent comes =
        let none3 : left_at m3 look r ≡ None =
        left ∙ none_then gone (left_at m0 look r) (left_at m2 look r) (λ e. none_stays holds look look (FollowsCandidates holds look (λ c. true) before after (joins m0.pattern look r)) (left_at m0 look r) (left_at m2 look r) e (both look (λ c. true) (λ c e. refl) (λ c e. refl) (λ c e. refl))) absent in
        let new = arrives_new holds world look come (passing m3.pattern look (has_right m3 look) r) (left_at m3 look r) (left_at m4 look r) comes none3 came in (
          new.0,
          new.1,
          subst (holds new.0 world) (ap (λ (p : Pattern). passing p look (has_right m3 look) r) e3 ∙ fun_ext (λ c. ap (λ b. b && joins m0.pattern look r c) (sym (n4 c)))) new.2,
        )

-- where nothing is handed, and no row comes or goes, the node stays as it is
pub no_turn : {T : Type 0} (holds : T → Look → (Named → Bool) → Type 0) (look : Look) (m : Memories T) (was : Candidates) (left right : Delta) → TakesOver m was look right [] [] → changes_nothing left ≡ true
    → TallyStep holds look (sharing m was) m left right
no_turn holds look m was left right takes nothing =
    let before = has_right (sharing m was) look in
    record {
      stays = λ world scope alike goes comes r t there not_gone. (
        t,
        there,
        λ extra apart h.
            subst (holds t world) (fun_ext (λ c. ap (λ b. b || extra c) (where_passes (before c) (has_right m look c) (joins m.pattern look r c)
            (λ e. sym (moved_none true (moved false (has_name []) before) c ∙ moved_none false before c) ∙ handed_alike m look before (has_right m look) [] [] takes.handed r (ap is_some there) c e)))) h,
      );
      fresh = (no_step holds look m left right nothing).fresh;
    }
