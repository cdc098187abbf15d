use Rattle.window_gate.proofs.{Common.{◌∙◌, sym, ap, map, ℤ, List, None, single, Arrival, named_of, KeepsLength, TagsDiffer}, Lengths.{Removed, kept_removed}}
use Rattle.window_gate.proofs.Lengths.{kept_none_removed, removed_along, kept_went, between_went, slice_is}
use Rattle.window_gate.proofs.length_window.LengthWindow.go.Goals.{in-Some+in_ok-take-in-Some, in-None}
use Rattle.window_gate.proofs.length_window.LengthWindow.go.Goals as goal

-- what was taken out
removed : (c : goal.In_ok-delta) (arrivals : List Arrival) (was : ℤ) → KeepsLength c.args.self arrivals was → TagsDiffer (map named_of arrivals)
    → Removed c.args.gone.tag.0 c.args.self.size c.args.self.older.entries c.args.self.newer.entries c.match-remove.older.entries c.match-remove.newer.entries c.match-remove.left.0 c.match-remove.left.1
removed c arrivals was keeps differ =
    elim c.match-remove.branch [
      | in-Some+in_ok-take-in-Some w ↦
          removed_along c.args.gone.tag.0 c.args.self.size c.args.self.older.entries c.args.self.newer.entries w.take.new.older c.match-remove.older w.take.new.newer c.match-remove.newer
          c.match-remove.left w.in_ok-take-in-Some.left w.in_ok-take-in-Some.back w.older-is w.newer-is w.left-is
          (kept_removed c.args.self arrivals was c.args.gone.tag.0 w.in-Some.number w.take.new.older.entries w.take.new.newer.entries w.in_ok-take-in-Some.left w.in_ok-take-in-Some.back keeps differ
          (sym w.in-Some.ensures.value) w.in_ok-take-in-Some.ensures)
      | in-None w ↦
          removed_along c.args.gone.tag.0 c.args.self.size c.args.self.older.entries c.args.self.newer.entries c.args.self.older c.match-remove.older c.args.self.newer c.match-remove.newer
          c.match-remove.left None None w.older-is w.newer-is w.left-is
          (kept_none_removed c.args.self arrivals was c.args.gone.tag.0 keeps (sym w.in-None.ensures.value))
    ]

pub returns-clause-keeps : goal.returns-clause-keeps
returns-clause-keeps c arrivals was now keeps differ =
    kept_went c.args.self c.args.gone c.match-remove.older c.match-remove.newer c.remove.new.self c.match-remove.left.0 c.match-remove.left.1 c.remove.ensures.updates.0 arrivals was now keeps
    (removed c arrivals was keeps differ)

pub returns-clause-difference : goal.returns-clause-difference
returns-clause-difference c arrivals was now keeps differ =
    between_went c.args.self c.args.gone c.match-remove.older c.match-remove.newer c.remove.new.self c.match-remove.left.0 c.match-remove.left.1 c.remove.ensures.updates.0 arrivals was now keeps
    (removed c arrivals was keeps differ) c.in_ok-delta.delta
    (c.in_ok-delta.ensures.gone ∙ ap (map single) (slice_is c.match-remove.left.0 c.as_slice.result.now c.as_slice.ensures))
    (c.in_ok-delta.ensures.come ∙ ap (map single) (slice_is c.match-remove.left.1 c.as_slice-2.result.now c.as_slice-2.ensures))
