use Rattle.std.{proofs.Common.{◌≡◌, ◌∙◌, ap, ℕ, None}, specs.{Prelude.{cond}, Cmp.{eq_by_cmp_equiv, nat_cmp_total}}}
use Rattle.std.specs.FinMap as map
use Rattle.due_queue.specs.Timers.{Timers}
use Rattle.unit_tests.proofs.held_events.hold_all.Goals as goal

-- what was taken out is not there
taken_out : (before after : Timers) (tag : ℕ) → after ≡ map.remove before tag → map.get after tag ≡ None
taken_out before after tag e =
    ap (λ m. map.get m tag) e ∙ map.get-remove nat_cmp_total before tag tag
    ∙ ap (λ t. cond t None (map.get before tag)) ((eq_by_cmp_equiv nat_cmp_total).refl tag)

pub hold-requires : goal.hold-requires
hold-requires c = taken_out _ _ _ c.release.ensures.due
