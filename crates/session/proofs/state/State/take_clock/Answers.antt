use Rattle.session.proofs.Common.{◌≡◌, ◌≤ℤ◌, ◌∙◌, ℕ, ℤ, Bool, List, [], Some, slice_get, sym, subst, ap, to_z, of_z, w64, on_ok_weaker, Fact, Named, Row}
use Rattle.session.proofs.Common.{cleaned, NetStands, Rule, HeldFacts, facts_of, At, stepped, is_tag_among, HasLeft, over, Awaits, Contents, Standing, IsSound}
use Rattle.session.proofs.Common.{reached_of, clock_same, safe_left, none_gone, no_tags, later_awaits, later_leads, later_leads_on, none_left, quiet_refreshed}
use Rattle.session.proofs.Common.{remaining, remaining_is, contents, followed_sound, instant_of, facts_at_clock, Reached, Program, IsOrderly}
use Rattle.{session.proofs.Stops.{safe_due}, condition_rows.specs.Sets.{rows_of}, due_queue.specs.Timers.{Timers}, session_model.specs.Places.{IsSafe}}
use Rattle.session.proofs.state.State.take_clock.Goals as goal

-- facts in order at a clock are so whatever entry points have reached
orderly : (p : Program) (held : HeldFacts) (clock : ℤ) (reached : Reached) → IsOrderly p (facts_at_clock held clock) → IsOrderly p (over (facts_of held) clock reached)
orderly p held clock reached kept = record { in_order = kept.in_order; present = kept.present; low = kept.low; high = kept.high }

-- the rules have the same rows at two clocks, of those that name no forgotten fact
abbrev SameRows : Program → List Fact → ℤ → Reached → (Named → Bool) → ℤ → Type 0
SameRows p facts before reached forgotten clock =
    (place : ℕ) (rule : Rule) → slice_get p.rules place ≡ Some rule
    → (row : Row) → cleaned (rows_of p (over facts clock reached) rule.conditions) forgotten row ≡ cleaned (rows_of p (over facts before reached) rule.conditions) forgotten row

-- where what is due is refused
pub invariant_of-self : goal.invariant_of-self
invariant_of-self c =
    subst (λ (ts : Timers). IsSafe c.self.inside.facts ts c.self.inside.clock c.self.inside.next_id c.self.inside.next_tag) (sym c.in_err-due.ensures.err) c.self.invariant

-- where the network or the agenda is
pub invariant_of-self-in_err-left : goal.invariant_of-self-in_err-left
invariant_of-self-in_err-left c =
    let same : to_z w64 (of_z w64 c.args.clock) ≡ c.args.clock = clock_same c.args.clock c.requires.low c.requires.high in
    safe_due c.self.inside.facts c.self.inside.expiries c.take_due.new.self c.self.inside.clock c.args.clock c.self.inside.next_id c.self.inside.next_tag c.in_ok-due.due.items
    c.self.invariant c.requires.low c.requires.high (simp same at c.in_ok-due.ensures.ok)

-- where nothing is due
pub invariant_of-self-then-is_quiet : goal.invariant_of-self-then-is_quiet
invariant_of-self-then-is_quiet c =
    let same : to_z w64 (of_z w64 c.args.clock) ≡ c.args.clock = clock_same c.args.clock c.requires.low c.requires.high in
    let left = none_gone c.self.inside.facts c.in_ok-due.due.items (no_tags c.in_ok-due.due.len c.is_empty.result c.in_ok-due.due.items c.is_empty.ensures c.if-is_empty.true c.in_ok-due.due.ok.0) in
    rw same (safe_left c.self.inside.facts c.self.inside.facts c.self.inside.expiries c.take_due.new.self c.self.inside.clock c.args.clock c.self.inside.next_id c.self.inside.next_tag c.in_ok-due.due.items
    c.self.invariant c.requires.low c.requires.high (simp same at c.in_ok-due.ensures.ok) left)

pub returns-then-is_quiet-clause-stands : goal.returns-then-is_quiet-clause-stands
returns-then-is_quiet-clause-stands c = on_ok_weaker c.settle.result (λ settled w st none lawful.
    let s = c.args.setting.now in
    let m = c.args.memory.now in
    let k = (contents c.self.inside.facts c.self.inside.expiries c.self.inside.clock c.self.inside.course c.self.inside.agenda c.self.inside.next_id c.self.inside.next_tag) in
    let here : Standing s m k w = subst (λ (k : Contents). Standing s m k w) (sym c.self.view_is) st in
    let same : to_z w64 (of_z w64 c.args.clock) ≡ c.args.clock = clock_same c.args.clock c.requires.low c.requires.high in
    let moves : k.clock ≤ℤ c.args.clock = subst (λ (k : Contents). k.clock ≤ℤ c.args.clock) (sym c.self.view_is) c.requires.later in
    let due = c.in_ok-due.due.items in
    let takes = simp same at c.in_ok-due.ensures.ok in
    let none_due = no_tags c.in_ok-due.due.len c.is_empty.result due c.is_empty.ensures c.if-is_empty.true c.in_ok-due.due.ok.0 in
    let left = none_gone k.facts due none_due in
    let out = none_gone here.seen.all due none_due in
    let leads = later_leads s m k w here c.requires.runs c.args.clock moves none lawful c.take_due.new.self due takes k.facts left here.seen.all out k.agenda in
    let before = over (facts_of here.seen.all) k.clock (reached_of k) in
    let later : k.clock ≤ℤ to_z w64 (of_z w64 c.args.clock) = subst (λ (z : ℤ). k.clock ≤ℤ z) (sym same) moves in
    let kept : IsOrderly s.program (over (facts_of here.seen.all) (to_z w64 (of_z w64 c.args.clock)) (reached_of k)) =
    subst (λ (z : ℤ). IsOrderly s.program (over (facts_of here.seen.all) z (reached_of k))) (sym same) (orderly s.program here.seen.all c.args.clock (reached_of k) leads.kept_behind) in
    let stands : NetStands s.program m.net (over (facts_of here.seen.all) c.args.clock (reached_of k)) here.seen.forgotten =
    subst (λ (z : ℤ). NetStands s.program m.net (over (facts_of here.seen.all) z (reached_of k)) here.seen.forgotten) same
    (c.is_quiet.ensures.stands c.if-is_quiet.true s.program before here.seen.forgotten here.seen.stands later kept) in
    let clean = subst (SameRows s.program (facts_of here.seen.all) k.clock (reached_of k) here.seen.forgotten) same
    (c.is_quiet.ensures.rows c.if-is_quiet.true s.program before here.seen.forgotten here.seen.stands later kept) in
    let next = stepped s.program w (At c.args.clock) in
    settled next
    (subst (λ (z : ℤ). Awaits s m (contents k.facts c.take_due.new.self z k.course k.agenda k.next_id k.next_tag) (is_tag_among []) next) (sym same)
    (later_awaits s m k w here c.requires.runs c.args.clock moves none lawful c.take_due.new.self due takes k.facts left here.seen.all out k.agenda m.net (is_tag_among []) stands
    (quiet_refreshed s.program (facts_of here.seen.all) k.clock c.args.clock (reached_of k) here.seen.forgotten clean k.agenda) (none_left k.agenda (is_tag_among []))))) c.settle.ensures.stands

-- where something is
pub invariant_of-self-2 : goal.invariant_of-self-2
invariant_of-self-2 c =
    let same : to_z w64 (of_z w64 c.args.clock) ≡ c.args.clock = clock_same c.args.clock c.requires.low c.requires.high in
    rw same (safe_left c.self.inside.facts c.take_all.new.facts c.self.inside.expiries c.take_due.new.self c.self.inside.clock c.args.clock c.self.inside.next_id c.self.inside.next_tag c.in_ok-due.due.items
    c.self.invariant c.requires.low c.requires.high (simp same at c.in_ok-due.ensures.ok) c.take_all.ensures)

pub returns-clause-stands : goal.returns-clause-stands
returns-clause-stands c = on_ok_weaker c.settle-2.result (λ settled w st none lawful.
    let s = c.args.setting.now in
    let m = c.args.memory.now in
    let k = (contents c.self.inside.facts c.self.inside.expiries c.self.inside.clock c.self.inside.course c.self.inside.agenda c.self.inside.next_id c.self.inside.next_tag) in
    let here : Standing s m k w = subst (λ (k : Contents). Standing s m k w) (sym c.self.view_is) st in
    let same : to_z w64 (of_z w64 c.args.clock) ≡ c.args.clock = clock_same c.args.clock c.requires.low c.requires.high in
    let moves : k.clock ≤ℤ c.args.clock = subst (λ (k : Contents). k.clock ≤ℤ c.args.clock) (sym c.self.view_is) c.requires.later in
    let due = c.in_ok-due.due.items in
    let takes = simp same at c.in_ok-due.ensures.ok in
    let b = c.follow.new.agenda in
    let behind = remaining here.seen.all due in
    let out = remaining_is here.seen.all due in
    let leads = later_leads_on s m k w here c.requires.runs c.args.clock moves none lawful c.take_due.new.self due takes c.take_all.new.facts c.take_all.ensures behind out b in
    let has_left : HasLeft k.agenda b (is_tag_among c.as_slice-2.result.now) = subst (λ tags. HasLeft k.agenda b (is_tag_among tags)) (sym c.as_slice-2.ensures.value) c.in_ok-left.ensures.left in
    let next = stepped s.program w (At c.args.clock) in
    settled next
    (subst (λ (z : ℤ). Awaits s (record { net = c.follow.new.net; retention = m.retention }) (contents c.take_all.new.facts c.take_due.new.self z k.course b k.next_id k.next_tag) (is_tag_among c.as_slice-2.result.now) next) (sym same)
    (later_awaits s m k w here c.requires.runs c.args.clock moves none lawful c.take_due.new.self due takes c.take_all.new.facts c.take_all.ensures behind out b c.follow.new.net (is_tag_among c.as_slice-2.result.now)
    ((simp (same, c.moment-moment.ensures.clock, c.moment-moment.ensures.last_starts, c.moment-moment.ensures.promises, c.as_slice.ensures.value) at c.in_ok-left.ensures.net) here.seen.all behind here.seen.all (instant_of k) here.seen.forgotten leads here.seen.stands)
    ((simp (same, c.moment-moment.ensures.clock, c.moment-moment.ensures.last_starts, c.moment-moment.ensures.promises, c.as_slice.ensures.value) at c.in_ok-left.ensures.agenda) here.seen.all behind here.seen.all (instant_of k) here.seen.forgotten leads here.seen.stands)
    has_left))) c.settle-2.ensures.stands

pub returns-clause-tags : goal.returns-clause-tags
returns-clause-tags c = on_ok_weaker c.settle-2.result (λ h. h ∙ ap (λ (k : Contents). k.next_tag) c.self.view_is) c.settle-2.ensures.tags

pub returns-clause-sound : goal.returns-clause-sound
returns-clause-sound c = on_ok_weaker c.settle-2.result
    (λ stays sound. stays (followed_sound c.args.setting.now c.args.memory.now _ (contents c.self.inside.facts c.self.inside.expiries c.self.inside.clock c.self.inside.course c.self.inside.agenda c.self.inside.next_id c.self.inside.next_tag) _ c.requires.runs
    (subst (IsSound c.args.setting.now.program c.args.memory.now) (sym c.self.view_is) sound) (c.in_ok-left.ensures.shape c.args.setting.now.program) c.in_ok-left.ensures.rules (λ r. r)))
    c.settle-2.ensures.sound

pub returns-then-is_quiet-clause-sound : goal.returns-then-is_quiet-clause-sound
returns-then-is_quiet-clause-sound c = on_ok_weaker c.settle.result
    (λ stays sound. let here = subst (IsSound c.args.setting.now.program c.args.memory.now) (sym c.self.view_is) sound in stays (record { net = here.net; pending = here.pending; reached = here.reached }))
    c.settle.ensures.sound
