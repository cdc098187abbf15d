-- The rows of a not, what is dropped with forgotten facts, and what waits.
use Rattle.not_node.proofs.Common.{◌≡◌, ◌∙◌, sym, ap, refl, int_lt, cond, Bool, true, false, not, ◌&&◌, List, Option, Some, None, ℤ, fun_ext, Row, has}
use Rattle.not_node.proofs.Common.{IsDifference, Pattern, Look, left_at, moment_at, unblocked, not_rows, is_that_moment, mature, later, AwaitsMoments, cleaned}
use Rattle.not_node.proofs.{Common.{not_line, NotLaw, NotStepLaw, NotDropLaw, NotMoveLaw, and_parts, and-true, and_where, not_not}, Maturing.{row_mature}}
use Rattle.{not_node.{proofs.Maturing.{moment_alike}, specs.Doors.{blocking_pattern}}, std.specs.{Option.{is_some}, List.{list_any}}}
use Rattle.join_memory.{specs.{declared.memories.Memories.{Memories}, Joined.{has_name}}, proofs.Moving.{move_law as memories_move}}
use Rattle.counting_node.specs.{declared.count.Blockers.{Blockers}, Counts.{counts_blockers, where_unblocked}, Origins.{shows_any}, Tallies.{offers}}
use Rattle.counting_node.{specs.Tallies.{output_some}, proofs.Lawful.{blockers_shown, tally_law}}
use mathlib.Core.Path.{subst}

pub not_law : NotLaw
not_law p node look world pass rows names forgotten was row =
    ap (λ b. b && mature node.ripening.floor (moment_at p (blocking_pattern node) look row)) (blockers_shown node.tally.memories look world pass rows names forgotten was row)
    ∙ ap (λ b. (cleaned rows forgotten row && not (list_any (pass row) names)) && b) (row_mature p (blocking_pattern node) look row node.ripening.floor)

pub step_law : NotStepLaw
step_law p m n look world pass rows rows_now names names_now forgotten left right delta was alike alike_now rows_lead names_lead seen fixed stepped step difference =
    let now = tally_law Blockers counts_blockers m.tally.memories n.tally.memories look world pass rows rows_now (has_name names) (has_name names_now) forgotten left right was alike alike_now rows_lead names_lead seen fixed stepped step in
    let line_now : Row → Bool = not_line p (blocking_pattern m) look n.ripening.floor pass (cleaned rows_now forgotten) names_now in (
      now,
      subst (λ (old : Row → Bool). IsDifference old line_now delta) (fun_ext (not_law p m look world pass rows names forgotten was))
          (subst (λ (new : Row → Bool). IsDifference (not_rows p look m) new delta)
          (fun_ext (λ r. not_law p n look world pass rows_now names_now forgotten now r ∙ ap (λ (q : Pattern). not_line p q look n.ripening.floor pass (cleaned rows_now forgotten) names_now r) stepped.pattern)) difference),
    )

-- ---- what a left row shows by what is kept for it
abbrev pub row_shows : Look → Row → Option Blockers → Bool
row_shows look row o = offers shows_any (output_some (where_unblocked look row) o) row

shows_kept : (look : Look) (row : Row) (o : Option Blockers) → row_shows look row o ≡ true → is_some o ≡ true
shows_kept look row None e = e
shows_kept look row (Some t) e = refl

shows_after : (look : Look) (row : Row) (b : Bool) (o : Option Blockers) → row_shows look row o ≡ true → row_shows look row (cond b None o) ≡ not b
shows_after look row true o e = refl
shows_after look row false o e = e

pub none_shown : (look : Look) (row : Row) (o : Option Blockers) → is_some o ≡ false → row_shows look row o ≡ false
none_shown look row None e = refl
none_shown look row (Some t) e = let f : true ≡ false = e in cc

-- by another store it shows the same
shows_alike : (look other : Look) (row : Row) (o : Option Blockers) → row_shows other row o ≡ row_shows look row o
shows_alike look other row None = refl
shows_alike look other row (Some t) = refl

-- after left rows were dropped no row comes
fewer : (b x y : Bool) → (b ≡ false → x ≡ y) → (b ≡ true → x ≡ false) → false ≡ (x && not y)
fewer true x y h k = ap (λ a. a && not y) (sym (k refl))
fewer false x y h k = by y ∙ ap (λ a. a && not y) (sym (h refl))
  where
    by : (y : Bool) → false ≡ (y && not y)
    by true = refl
    by false = refl

pub none_comes : (m n : Memories Blockers) (look : Look) (dropped : Row → Bool) → ((r : Row) → left_at n look r ≡ cond (dropped r) None (left_at m look r)) → (r : Row) → false ≡ (unblocked n look r && not (unblocked m look r))
none_comes m n look dropped left r =
    fewer (dropped r) (unblocked n look r) (unblocked m look r)
    (λ e. ap (row_shows look r) (left r ∙ ap (λ b. cond b None (left_at m look r)) e)) (λ e. ap (row_shows look r) (left r ∙ ap (λ b. cond b None (left_at m look r)) e))

pub drop_law : NotDropLaw
drop_law p m n look rows names forgotten old dropped gone stands drops same_pattern same_floor left went row is =
    let mm = m.tally.memories in
    let nn = n.tally.memories in
    let both = and_parts (unblocked mm look row) (mature m.ripening.floor (moment_at p mm.pattern look row)) is in
    let ready : mature n.ripening.floor (moment_at p nn.pattern look row) ≡ true =
    ap (λ (q : Pattern). mature n.ripening.floor (moment_at p q look row)) same_pattern ∙ ap (λ floor. mature floor (moment_at p mm.pattern look row)) same_floor ∙ both.1 in
    went row ∙ ap (λ b. b && not (not_rows p look n row)) is
    ∙ ap not (ap (λ b. unblocked nn look row && b) ready ∙ and-true (unblocked nn look row) ∙ ap (row_shows look row) (left row) ∙ shows_after look row (has dropped row) (left_at mm look row) both.0)
    ∙ not_not (has dropped row) ∙ drops row (sym (stands.rows row) ∙ shows_kept look row (left_at mm look row) both.0)

pub later_same : (a : ℤ) → later a a ≡ a
later_same a = by (int_lt a a)
  where
    by : (b : Bool) → cond b a a ≡ a
    by true = refl
    by false = refl

awaits_alike : (moment other : Row → Option ℤ) (floor : ℤ) (rows : Row → Bool) (pairs : List (ℤ × Row)) → AwaitsMoments moment floor rows pairs → ((row : Row) → rows row ≡ true → other row ≡ moment row) → AwaitsMoments other floor rows pairs
awaits_alike moment other floor rows pairs awaits same at row =
    awaits at row ∙ ap (λ b. b && not (int_lt at floor)) (and_where (rows row) (is_that_moment (moment row) at) (is_that_moment (other row) at) (λ e. ap (λ o. is_that_moment o at) (sym (same row e))))

pub move_law : NotMoveLaw
move_law p node look other agrees alike =
    let m = node.tally.memories in
    let moved = memories_move Blockers m look other agrees alike in
    let unblocked_alike : (row : Row) → unblocked m other row ≡ unblocked m look row = λ row. shows_alike look other row (left_at m other row) ∙ ap (row_shows look row) (moved.1 row) in
    let moments : (row : Row) → unblocked m look row ≡ true → moment_at p m.pattern other row ≡ moment_at p m.pattern look row =
    λ row e. moment_alike p m.pattern look other row (alike.rows row (shows_kept look row (left_at m look row) e)) in (
      λ row. ap (λ b. b && mature node.ripening.floor (moment_at p m.pattern other row)) (unblocked_alike row)
          ∙ and_where (unblocked m look row) _ _ (λ e. ap (mature node.ripening.floor) (moments row e)),
      λ awaits. subst (λ (rows : Row → Bool). AwaitsMoments (moment_at p m.pattern other) node.ripening.floor rows node.ripening.waiting.keys) (fun_ext (λ row. sym (unblocked_alike row)))
          (awaits_alike (moment_at p m.pattern look) (moment_at p m.pattern other) node.ripening.floor (unblocked m look) node.ripening.waiting.keys awaits moments),
    )
