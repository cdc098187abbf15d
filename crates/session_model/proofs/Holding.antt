-- What a session holds of a world for which it stands: exactly what is kept, so that of the events past their lives it holds those alone
-- which a pending match names.
use Rattle.session_model.proofs.Common.{◌≡◌, ◌∙◌, ◌+ℤ◌, ◌<ℤ◌, ℤ, true, false, slice_get, Some, None, sym, arith, ints, In, Fact, Finite, Infinite, Match}
use Rattle.session_model.proofs.Common.{has_match, name_of, World, pending, IsKept, kept_listed, Memory, Setting, Contents, Runs, Standing}
use Rattle.std.specs.Prelude.{◌↔◌}
use Rattle.std.specs.FinMap as map_of
use Rattle.session_model.proofs.Tallied.{holds_kept}

one_life : (n m : ℤ) → Some (Finite n) ≡ Some (Finite m) → n ≡ m
one_life n m e = cc

module _ (s : Setting) (m : Memory) (k : Contents) (runs : Runs s) (w : World) (st : Standing s m k w) (f : Fact) where
  pub held_is_kept : (map_of.get k.facts f.tag.0 ≡ Some f) ↔ IsKept s.program s.lives w f
  held_is_kept =
      let holds = holds_kept s m k runs w st in
      let listed = kept_listed s.program s.lives w runs.table.safe f in
      (λ e. listed.0 (holds.to f.tag.0 f e).0, λ is. holds.from f (listed.1 is))

  module _ (n : ℤ) (finite : slice_get s.lives.lives f.ty.0 ≡ Some (Finite n)) (past : (f.times.end +ℤ n) <ℤ w.clock) where
    abbrev IsNamed : Type 0
    IsNamed = (q : Match) × (has_match (pending s.program w) q ≡ true) × In (name_of f) q.row.facts

    old_is_named : IsKept s.program s.lives w f → IsNamed
    old_is_named (IsKept.plain there not_event) =
        absurd (let is = (runs.table.safe.each f.ty.0 (Finite n) finite).1.event in let no : false ≡ true = sym not_event ∙ is in cc)
    old_is_named (IsKept.unexpired expiry there event expires present) =
        absurd (let is = (runs.table.safe.each f.ty.0 (Finite n) finite).1.unexpired in let no : Some expiry ≡ None = sym expires ∙ is in cc)
    old_is_named (IsKept.endless there at) = absurd (let no : Some Infinite ≡ Some (Finite n) = sym at ∙ finite in cc)
    old_is_named (IsKept.living life there at within) =
        let same : life ≡ n = one_life life n (sym at ∙ finite) in
        absurd (omega (arith, ints, same, within, past))
    old_is_named (IsKept.named q there is names) = (q, is, names)

    pub old_held_is_named : map_of.get k.facts f.tag.0 ≡ Some f → IsNamed
    old_held_is_named e = old_is_named (held_is_kept.0 e)
