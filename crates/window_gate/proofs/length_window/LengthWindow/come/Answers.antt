use Rattle.window_gate.proofs.{Common.{◌≡◌, ◌∙◌, ap, ◌+◌, map, rules, ℕ, BTreeMap, Delta, Named, single}, Lengths.{kept_never, between_never, kept_enters}}
use Rattle.window_gate.proofs.{Lengths.{between_enters, slice_is}, length_window.LengthWindow.come.Goals.{then-size-eq0+in_ok-insert-2+in_ok-delta}}
use Rattle.window_gate.proofs.length_window.LengthWindow.come.Goals.{else-size-eq0+in_ok-insert-3+in_ok-delta-2}
use Rattle.window_gate.proofs.length_window.LengthWindow.come.Goals as goal

-- the next number
following : (c : goal.Joined-size-eq0) → c.in_ok-following.following ≡ c.args.self.next + 1
following c = search rules

pub returns-clause-keeps : goal.returns-clause-keeps
returns-clause-keeps c arrivals start was now keeps absent =
    elim c.if-size-eq0.branch [
      | then-size-eq0+in_ok-insert-2+in_ok-delta w ↦
          kept_never c.args.self c.in_ok-following.following c.args.named c.make_room.new.older.entries c.make_room.new.newer.entries c.in_ok-left.left c.if-size-eq0.older c.if-size-eq0.newer c.insert.new.self
          (following c) c.in_ok-left.ensures c.in_ok-insert.ensures.updates.0 arrivals start was now keeps absent
          w.if-size-eq0.true (ap (λ (m : BTreeMap ℕ Named). m.entries) w.older-is ∙ w.in_ok-insert-2.ensures.entries) (ap (λ (m : BTreeMap ℕ Named). m.entries) w.newer-is)
      | else-size-eq0+in_ok-insert-3+in_ok-delta-2 w ↦
          kept_enters c.args.self c.in_ok-following.following c.args.named c.make_room.new.older.entries c.make_room.new.newer.entries c.in_ok-left.left c.if-size-eq0.older c.if-size-eq0.newer c.insert.new.self
          (following c) c.in_ok-left.ensures c.in_ok-insert.ensures.updates.0 arrivals start was now keeps absent
          w.if-size-eq0.false (ap (λ (m : BTreeMap ℕ Named). m.entries) w.older-is) (ap (λ (m : BTreeMap ℕ Named). m.entries) w.newer-is ∙ w.in_ok-insert-3.ensures.entries)
    ]

pub returns-clause-difference : goal.returns-clause-difference
returns-clause-difference c arrivals start was now keeps differ absent =
    elim c.if-size-eq0.branch [
      | then-size-eq0+in_ok-insert-2+in_ok-delta w ↦
          between_never c.args.self c.in_ok-following.following c.args.named c.make_room.new.older.entries c.make_room.new.newer.entries c.in_ok-left.left c.if-size-eq0.older c.if-size-eq0.newer c.insert.new.self
          (following c) c.in_ok-left.ensures c.in_ok-insert.ensures.updates.0 arrivals start was now keeps absent
          w.if-size-eq0.true (ap (λ (m : BTreeMap ℕ Named). m.entries) w.older-is ∙ w.in_ok-insert-2.ensures.entries) (ap (λ (m : BTreeMap ℕ Named). m.entries) w.newer-is)
          c.if-size-eq0.delta (ap (λ (d : Delta). d.gone) w.delta-is ∙ w.in_ok-delta.ensures.gone) (ap (λ (d : Delta). d.come) w.delta-is ∙ w.in_ok-delta.ensures.come)
      | else-size-eq0+in_ok-insert-3+in_ok-delta-2 w ↦
          between_enters c.args.self c.in_ok-following.following c.args.named c.make_room.new.older.entries c.make_room.new.newer.entries c.in_ok-left.left c.if-size-eq0.older c.if-size-eq0.newer c.insert.new.self
          (following c) c.in_ok-left.ensures c.in_ok-insert.ensures.updates.0 arrivals start was now keeps absent differ
          w.if-size-eq0.false (ap (λ (m : BTreeMap ℕ Named). m.entries) w.older-is) (ap (λ (m : BTreeMap ℕ Named). m.entries) w.newer-is ∙ w.in_ok-insert-3.ensures.entries)
          c.if-size-eq0.delta (ap (λ (d : Delta). d.gone) w.delta-is ∙ w.in_ok-delta-2.ensures.gone ∙ ap (map single) (slice_is c.in_ok-left.left w.as_slice.result.now w.as_slice.ensures))
          (ap (λ (d : Delta). d.come) w.delta-is ∙ w.in_ok-delta-2.ensures.come)
    ]
