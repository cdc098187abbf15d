-- Candidates that are handed to a node, one after another, and what the node makes of all that came and went.
use Rattle.join_memory.proofs.Common.{◌≡◌, ◌∙◌, sym, ap, refl, ℕ, zero, suc, ◌+◌, ◌<◌, arith, length, take, get_or, List, [], ◌∷◌, Bool, true, false, not, ◌&&◌}
use Rattle.join_memory.proofs.Common.{◌||◌, eq_by_cmp, Named, Row, name_cmp, name_equiv, Look, joins, Memories, has_name, has_left, has_right, KeepsMemories}
use Rattle.join_memory.{proofs.Common.{unjoined}, specs.{Inputs.{IsStepped}, declared.candidates.Candidates.{Candidates}, Handed.{moved, MayMove}}}
use Rattle.join_memory.{specs.{Joined.{joined, AreDistinct}, Shared.{sharing, NamesAgree, AreHanded, ForgoesOld, TakesOver}}, proofs.Joining.{splits_alike}}
use Rattle.{join_memory.proofs.Turning.{any_name, keeps_then, less_more, more_more}, fx_base.proofs.Tests.{and_first, or_first_false, or_second_false}}
use Rattle.row_delta.specs.{declared.delta.Delta.{Delta}, Rows.{has}}

-- ---- one candidate after another

later_differs : (x : Named) (xs : List Named) (i : ℕ) (d : Named) → i < length xs → has_name xs x ≡ false → eq_by_cmp name_cmp x (get_or xs i d) ≡ false
later_differs x [] i d below e = absurd (omega arith)
later_differs x (y ∷ ys) zero d below e = or_first_false (eq_by_cmp name_cmp x y) (has_name ys x) e
later_differs x (y ∷ ys) (suc i) d below e = later_differs x ys i d (omega arith) (or_second_false (eq_by_cmp name_cmp x y) (has_name ys x) e)

not_before : (xs : List Named) (i : ℕ) (d : Named) → i < length xs → AreDistinct xs → has_name (take i xs) (get_or xs i d) ≡ false
not_before [] i d below once = absurd (omega arith)
not_before (x ∷ xs) zero d below once = refl
not_before (x ∷ xs) (suc i) d below once =
    ap (λ b. b || has_name (take i xs) (get_or xs i d)) (name_equiv.symm (get_or xs i d) x ∙ later_differs x xs i d (omega arith) once.0)
    ∙ not_before xs i d (omega arith) once.1

or_true : (b : Bool) → (b || true) ≡ true
or_true true = refl
or_true false = refl

stands_at : (xs : List Named) (i : ℕ) (d : Named) → i < length xs → has_name xs (get_or xs i d) ≡ true
stands_at [] i d below = absurd (omega arith)
stands_at (x ∷ xs) zero d below = ap (λ b. b || has_name xs x) (name_equiv.refl x)
stands_at (x ∷ xs) (suc i) d below = ap (λ b. eq_by_cmp name_cmp (get_or xs i d) x || b) (stands_at xs i d (omega arith)) ∙ or_true (eq_by_cmp name_cmp (get_or xs i d) x)

module _ (names : List Named) (set : Named → Bool) (i : ℕ) (below : i < length names) where
  -- the next of these candidates may move
  pub next_may : (comes : Bool) → MayMove comes names set → moved comes (has_name (take i names)) set (get_or names i any_name) ≡ not comes
  next_may true may =
      ap (λ b. b || has_name (take i names) (get_or names i any_name)) (may.there (get_or names i any_name) (stands_at names i any_name below)) ∙ not_before names i any_name below may.once
  next_may false may =
      ap (λ b. b && not (has_name (take i names) (get_or names i any_name))) (may.there (get_or names i any_name) (stands_at names i any_name below)) ∙ ap not (not_before names i any_name below may.once)

  -- those before it have moved, and then it too
  pub moved_more : (comes : Bool) (c : Named) → moved comes (eq_by_cmp name_cmp (get_or names i any_name)) (moved comes (has_name (take i names)) set) c ≡ moved comes (has_name (take (i + 1) names)) set c
  moved_more true c = more_more (eq_by_cmp name_cmp) name_equiv.symm names i below any_name (get_or names i any_name) refl c (set c) _ refl
  moved_more false c = less_more (eq_by_cmp name_cmp) name_equiv.symm names i below any_name (get_or names i any_name) refl c (set c) _ refl

none_moved : (b : Bool) → (b && true) ≡ b
none_moved true = refl
none_moved false = refl

none_came : (b : Bool) → (b || false) ≡ b
none_came true = refl
none_came false = refl

-- where none has moved, and where none is to move
pub moved_none : (comes : Bool) (set : Named → Bool) (c : Named) → moved comes (has_name []) set c ≡ set c
moved_none true set c = none_came (set c)
moved_none false set c = none_moved (set c)

-- ---- kernels: w and i that it was there and is there, g and c that it is handed as gone and as come, j that it joins a row

handed_is : (w i g c j : Bool) → (g ≡ true → (w && not i) ≡ true) → (c ≡ true → (i && not w) ≡ true) → ((w && not i) ≡ true → g ≡ false → j ≡ false) → ((i && not w) ≡ true → c ≡ false → j ≡ false)
    → j ≡ true → ((w && not g) || c) ≡ i
handed_is true true true c j went came out_gone out_come e = let f : false ≡ true = went refl in cc
handed_is true true false c j went came out_gone out_come e = refl
handed_is true false true true j went came out_gone out_come e = let f : false ≡ true = came refl in cc
handed_is true false true false j went came out_gone out_come e = refl
handed_is true false false c j went came out_gone out_come e = let f : false ≡ true = sym (out_gone refl refl) ∙ e in cc
handed_is false true g true j went came out_gone out_come e = refl
handed_is false true g false j went came out_gone out_come e = let f : false ≡ true = sym (out_come refl refl) ∙ e in cc
handed_is false false g true j went came out_gone out_come e = let f : false ≡ true = came refl in cc
handed_is false false g false j went came out_gone out_come e = refl

where_joined : (l i w j : Bool) → (l ≡ true → j ≡ true → i ≡ w) → (l && (i && j)) ≡ (l && (w && j))
where_joined false i w j h = refl
where_joined true true true true h = refl
where_joined true true false true h = let f : true ≡ false = h refl refl in cc
where_joined true false true true h = let f : false ≡ true = h refl refl in cc
where_joined true false false true h = refl
where_joined true true true false h = refl
where_joined true true false false h = refl
where_joined true false true false h = refl
where_joined true false false false h = refl

went_old : (w o : Bool) → (w && o) ≡ true → (w && not (w && not o)) ≡ true
went_old true true e = refl
went_old true false e = let f : false ≡ true = e in cc
went_old false o e = e

was_old : (w o : Bool) → (w && not (w && not o)) ≡ true → (w && o) ≡ true
was_old true true e = refl
was_old true false e = e
was_old false o e = e

none_new : (w o : Bool) → ((w && not o) && not w) ≡ false
none_new true true = refl
none_new true false = refl
none_new false o = refl

was_not : (i w : Bool) → (i && not w) ≡ true → w ≡ false
was_not i true e = let f : false ≡ true = sym (none_both i) ∙ e in cc
  where
    none_both : (b : Bool) → (b && false) ≡ false
    none_both true = refl
    none_both false = refl
was_not i false e = refl

-- ---- what is handed to a node

module _ {S : Type 0} (m : Memories S) (look : Look) (was is : Named → Bool) (gone come : List Named) (handed : AreHanded m look was is gone come) where
  -- what goes and comes, one after another, is all that joins a left row
  pub handed_alike : (row : Row) → has_left m look row ≡ true → (who : Named) → joins m.pattern look row who ≡ true → moved true (has_name come) (moved false (has_name gone) was) who ≡ is who
  handed_alike row there who e =
      handed_is (was who) (is who) (has_name gone who) (has_name come who) (joins m.pattern look row who) (handed.went who) (handed.came who)
      (λ f g. handed.left_out_gone who row f g there) (λ f g. handed.left_out_come who row f g there) e

  pub may_go : MayMove false gone was
  may_go = record { once = handed.once_gone; there = λ who e. and_first (was who) (not (is who)) (handed.went who e) }

  pub may_come : MayMove true come (moved false (has_name gone) was)
  may_come = record { once = handed.once_come; there = λ who e. ap (λ b. b && not (has_name gone who)) (was_not (is who) (was who) (handed.came who e)) }

  -- so it makes the same rows
  pub handed_joined : (r : Row) → joined (joins m.pattern look) (has_left m look) (moved true (has_name come) (moved false (has_name gone) was)) r ≡ joined (joins m.pattern look) (has_left m look) is r
  unfolding joined
  handed_joined r =
      splits_alike _ _ (λ l c. where_joined (has_left m look l) (moved true (has_name come) (moved false (has_name gone) was) c) (is c) (joins m.pattern look l c) (λ there e. handed_alike l there c e)) (unjoined r)

-- old candidates that were dropped are handed like others that went
pub forgone_handed : {S : Type 0} (m : Memories S) (before : Candidates) (look : Look) (old : Named → Bool) (gone : List Named) → ForgoesOld m before look old gone
    → AreHanded m look (has_right (sharing m before) look) (has_right m look) gone []
forgone_handed m before look old gone forgoes = record {
  once_gone = forgoes.once;
  once_come = tt;
  went = λ who e. ap (λ b. has_right (sharing m before) look who && not b) (forgoes.names who) ∙ went_old (has_right (sharing m before) look who) (old who) (forgoes.went who e);
  came = λ who e. let f : false ≡ true = e in cc;
  left_out_gone = λ who row e.
      forgoes.left_out who row (was_old (has_right (sharing m before) look who) (old who) (ap (λ b. has_right (sharing m before) look who && not b) (sym (forgoes.names who)) ∙ e));
  left_out_come = λ who row e.
      let f : false ≡ true = sym (none_new (has_right (sharing m before) look who) (old who)) ∙ ap (λ b. b && not (has_right (sharing m before) look who)) (sym (forgoes.names who)) ∙ e in cc;
}

-- what a node keeps that has taken its turn with candidates that had turned before, as a step from the candidates before
pub keeps_shared : {S : Type 0} (m n : Memories S) (before : Candidates) (look : Look) (left : Row → Bool) (right : Named → Bool) → (NamesAgree m.pattern before.names look → NamesAgree m.pattern m.right look)
    → ((who : Named) → has_right m look who ≡ right who) → KeepsMemories m n look left (has_right m look) → KeepsMemories (sharing m before) n look left right
keeps_shared m n before look left right agree are keeps = record {
  pattern = keeps.pattern;
  rows = keeps.rows;
  names = λ who. keeps.names who ∙ are who;
  agrees = λ agrees. keeps.agrees (record { rows = agrees.rows; names = agree agrees.names });
}

-- a step with candidates that had turned before, from what was kept with those before them
pub stepped_shared : {S : Type 0} (m turned n z : Memories S) (before : Candidates) (look : Look) (left right : Delta) (leaving coming : List Named) (some more : List Row) → some ≡ left.gone → more ≡ left.come
    → TakesOver m before look right leaving coming → KeepsMemories m turned look (has_left m look) (has_right m look) → KeepsMemories turned n look (λ r. has_left turned look r && not (has some r)) (has_right turned look)
    → KeepsMemories n z look (λ r. has_left n look r || has more r) (has_right n look) → IsStepped (sharing m before) z look left right
stepped_shared m turned n z before look left right leaving coming some more gone come takes same went came =
    let left_on : KeepsMemories m n look (λ r. has_left m look r && not (has some r)) (has_right m look) =
    keeps_then m turned n look _ _ _ _ _ _ same went (λ r. ap (λ b. b && not (has some r)) (same.rows r)) same.names in
    keeps_shared m z before look _ _ takes.agrees takes.names
    (keeps_then m n z look _ _ _ _ _ _ left_on came
    (λ r. ap (λ b. b || has more r) (left_on.rows r) ∙ ap (λ (rows : List Row). (has_left m look r && not (has rows r)) || has more r) gone
    ∙ ap (λ (rows : List Row). (has_left m look r && not (has left.gone r)) || has rows r) come) left_on.names)
