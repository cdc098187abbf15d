-- After a turn a node stands for the new rows and candidates.
use Rattle.beta_node.proofs.Common.{◌≡◌, ◌∙◌, sym, ap, subst, ℤ, ◌≤ℤ◌, Bool, true, false, arith, ints, ≤ℤ_refl, Delta, Named, Row, Condition, Pattern, Program}
use Rattle.beta_node.proofs.Common.{Snapshot, floor, pattern_of, Look, joins, Memories, IsStepped, IsNameDifference, no_names, remembered, StandsFor}
use Rattle.beta_node.proofs.Common.{counts_blockers, StandsCounted, ForgottenStay, TallyStep, NotNode, IsInStep, later, none_due, held, candidates_of}
use Rattle.beta_node.proofs.Common.{CountsPartners, WaitsFor, IsConditionTurn, IsAt, snapshot_at, Moment, tally_law, same_floor, held_known, known_too}
use Rattle.beta_node.proofs.{Common.{joining_alike, awaited_entry, blocker_tallies, reached_floor}, Knowing.{seen_alike, AsksOfSet, counted_alike}}
use Rattle.join_memory.proofs.Steps.{steps_law}

module _ {T : Type 0} (p : Program) (m n : Memories T) (look world : Look) (s next : Snapshot) (rows rows_now : Row → Bool) (forgotten : Named → Bool) (left right : Delta)
    (c : Condition)
    (turn : IsConditionTurn p c look world s next rows rows_now forgotten left right) (stepped : IsStepped m n look left right) (meant : m.pattern ≡ pattern_of c) where
  candidates : IsNameDifference (remembered (candidates_of p m.pattern s) forgotten) (remembered (candidates_of p m.pattern next) forgotten) right
  candidates = subst (λ (q : Pattern). IsNameDifference (remembered (candidates_of p q s) forgotten) (remembered (candidates_of p q next) forgotten) right) (sym meant) turn.candidates

  pub stands_next : StandsFor m look rows (candidates_of p m.pattern s) forgotten → StandsFor n look rows_now (candidates_of p n.pattern next) forgotten
  stands_next stands =
      subst (λ (q : Pattern). StandsFor n look rows_now (candidates_of p q next) forgotten) (sym stepped.pattern)
      (steps_law T m n look rows rows_now (candidates_of p m.pattern s) (candidates_of p m.pattern next) forgotten left right stands turn.leads candidates stepped)

  pub counts_next : (holds : T → Look → (Named → Bool) → Type 0) → AsksOfSet T holds
      → ForgottenStay (joins (pattern_of c) world) rows rows_now (candidates_of p (pattern_of c) s) (candidates_of p (pattern_of c) next) forgotten left
      → CountsPartners holds p m look s rows forgotten → TallyStep holds look m n left right → CountsPartners holds p n look next rows_now forgotten
  counts_next holds asks stay counts step =
      let q = m.pattern in
      let known_s = known_too world s forgotten turn.known in
      let known_next = known_too world next forgotten turn.known_now in
      let stays = subst (λ (r : Pattern). ForgottenStay (joins r world) rows rows_now (candidates_of p r s) (candidates_of p r next) forgotten left) (sym meant) stay in
      let before = counted_alike holds asks p q m look (held s) world s rows forgotten (held_known s no_names) turn.known turn.named counts in
      let after =
      tally_law T holds m n look world (joins q world) rows rows_now (candidates_of p q s) (candidates_of p q next) forgotten left right before
      (joining_alike look world s forgotten turn.at_hand known_s p q rows turn.named) (joining_alike look world next forgotten turn.at_hand_now known_next p q rows_now turn.named_now)
      turn.leads candidates (seen_alike p q look world s next forgotten turn.at_hand turn.at_hand_now known_s known_next) stays stepped step in
      subst (λ (q : Pattern). StandsCounted holds n look (held next) (joins q (held next)) rows_now (candidates_of p q next) forgotten) (sym stepped.pattern)
      (counted_alike holds asks p q n look world (held next) next rows_now forgotten turn.known_now (held_known next no_names) turn.named_now after)

-- ---- where nothing is forgotten, nothing is asked

none_stay : (pass : Row → Named → Bool) (rows rows_now : Row → Bool) (names names_now : Named → Bool) (left : Delta) → ForgottenStay pass rows rows_now names names_now no_names left
none_stay pass rows rows_now names names_now left = record { stays = λ row who e f g. absurd (let n : false ≡ true = g in cc); comes = λ row who e g. absurd (let n : false ≡ true = g in cc) }

-- ---- the floor

-- of two floors the one that is not less is the later one
pub later_is : (a b : ℤ) → a ≤ℤ b → later a b ≡ b
later_is a b h = grind (arith, ints)

-- a `not` whose floor is that of the snapshot
pub waits_on_time : (p : Program) (waiting : NotNode) (look : Look) (s : Snapshot) (rows : Row → Bool) (forgotten : Named → Bool) → CountsPartners counts_blockers p (blocker_tallies waiting) look s rows forgotten → IsInStep p look waiting
    → reached_floor waiting ≡ floor p s (awaited_entry waiting) → WaitsFor p waiting look s rows forgotten
waits_on_time p waiting look s rows forgotten counts in_step is =
    let now = floor p s (awaited_entry waiting) in
    record { counts = counts; in_step = in_step; none_due = none_due p waiting look now in_step is; floor = subst (λ (told : ℤ). told ≤ℤ now) (sym is) (≤ℤ_refl now) }

-- the floor by a moment is that of each snapshot of the moment
pub floor_told : (p : Program) (m : Moment) (asked q : Pattern) (told : ℤ) → asked ≡ q → told ≡ floor p (snapshot_at m) asked.entry.0 → (next : Snapshot) → IsAt next m → told ≡ floor p next q.entry.0
floor_told p m asked q told same is next at =
    is ∙ same_floor p (snapshot_at m) next asked.entry.0 (sym at.clock) (sym at.reached) ∙ ap (λ (r : Pattern). floor p next r.entry.0) same
