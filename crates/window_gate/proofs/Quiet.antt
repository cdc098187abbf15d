-- Until the first moment that is due, the clock changes nothing.
use Rattle.window_gate.proofs.Common.{◌≡◌, ◌∙◌, sym, ap, refl, inl, inr, ℕ, ℤ, ◌≤ℤ◌, ◌<ℤ◌, List, [], ◌∷◌, map, Bool, true, false, cond, not, ◌&&◌, ◌||◌, Option}
use Rattle.window_gate.proofs.Common.{Some, None, option_map, arith, ◌+ℤ◌, ints, nat_cmp, int_cmp, eq_by_cmp, is_eq, is_gt, IsBetween, has, Delta, Row, Clock}
use Rattle.window_gate.proofs.Common.{Time, TimeWindow, FactId, KeepsTime, TagsDiffer, with_tag, leaves_at, LeavesAt, Arrival, named_of, has_tag, inside}
use Rattle.window_gate.proofs.{Common.{rows_inside, leaves, brings, Leave, Enter, IfSome, IsSomeAnd, found, is_moment, pair_cmp, not_later}, Times.{step_keeps}}
use Rattle.{window_gate.proofs.{Times.{step_between}, Holding.{leave_none, enter_none, none_due}, Wholes.{none_in_order}}, std.proofs.lemmas.Cmp.{tied_itself}}
use Rattle.{std.proofs.lemmas.Cmp.{int_cmp_total}, fx_base.specs.Lists.{In}}

-- sets of which neither has what the other lacks answer alike
alike : (a b : Bool) → false ≡ (a && not b) → false ≡ (b && not a) → b ≡ a
alike true true h k = refl
alike true false h k = h
alike false true h k = sym k
alike false false h k = refl

nothing : Delta
nothing = record { gone = []; come = [] }

-- between lists with no difference
same_rows : (old new : List Row) → IsBetween old new nothing → (row : Row) → has new row ≡ has old row
unfolding nothing
same_rows old new is row = alike (has old row) (has new row) (is.gone row) (is.come row)

module _ (window : TimeWindow) (arrivals : List Arrival) (was now : ℤ) (pass : was ≤ℤ now) (keeps : KeepsTime window arrivals was) (differ : TagsDiffer (map named_of arrivals)) (first : Option ℤ)
    (quiet : IfSome first (λ at. now <ℤ at)) (least : (tag : ℕ) (at : ℤ) (id : FactId) → found nat_cmp window.leaving tag ≡ Some (at, id) → IsSomeAnd first (λ m. m ≤ℤ at)) where
  none_leaves : Leave window window (leaves window.millis now Clock) []
  none_leaves = leave_none window (leaves window.millis now Clock) (λ held holds tag. ap (λ b. b || false) (none_due window now first quiet least held holds tag))

  none_enters : Enter window window (brings window.millis now Clock) None
  none_enters = enter_none window (brings window.millis now Clock) (λ tag. refl)

  pub time_kept : KeepsTime window arrivals now
  time_kept = step_keeps window window window arrivals was now pass keeps differ Clock tt [] None none_leaves none_enters refl

  pub time_same : (row : Row) → has (rows_inside (Time window.millis) now arrivals) row ≡ has (rows_inside (Time window.millis) was arrivals) row
  unfolding nothing
  time_same =
      same_rows (rows_inside (Time window.millis) was arrivals) (rows_inside (Time window.millis) now arrivals)
      (step_between window window window arrivals was now pass keeps differ Clock tt [] None none_leaves none_enters refl nothing none_in_order refl refl)

-- ---- the first moment is that of one inside

found_if : (b : Bool) (x arrival : Arrival) (arrivals : List Arrival) (rest : Option Arrival) → (rest ≡ Some arrival → In arrival arrivals) → cond b (Some x) rest ≡ Some arrival → In arrival (x ∷ arrivals)
found_if true x arrival arrivals rest h e = inl (let is : x ≡ arrival = cc in sym is)
found_if false x arrival arrivals rest h e = inr (h e)

-- what is found is there
found_there : (tag : ℕ) (arrivals : List Arrival) (arrival : Arrival) → with_tag tag arrivals ≡ Some arrival → In arrival arrivals
found_there tag [] arrival e = absurd cc
found_there tag (x ∷ arrivals) arrival e = found_if (has_tag tag x.named) x arrival arrivals (with_tag tag arrivals) (found_there tag arrivals arrival) e

pub one_leaves : (window : TimeWindow) (arrivals : List Arrival) (was : ℤ) → KeepsTime window arrivals was → (at : ℤ) (tag : ℕ) → is_moment int_cmp at (found nat_cmp window.leaving tag) ≡ true
    → (arrival : Arrival) × In arrival (inside (Time window.millis) was arrivals) × LeavesAt (Time window.millis) arrival at
one_leaves window arrivals was keeps at tag e = by (with_tag tag (inside (Time window.millis) was arrivals)) refl (ap (is_moment int_cmp at) (sym (keeps.leaving tag)) ∙ e)
  where
    by : (o : Option Arrival) → with_tag tag (inside (Time window.millis) was arrivals) ≡ o → is_moment int_cmp at (option_map (leaves_at window.millis) o) ≡ true
        → (arrival : Arrival) × In arrival (inside (Time window.millis) was arrivals) × LeavesAt (Time window.millis) arrival at
    by None is e = absurd (let f : false ≡ true = e in cc)
    by (Some a) is e = (a, found_there tag (inside (Time window.millis) was arrivals) a is, exact at (a.start +ℤ window.millis) e)
      where
        exact : (x y : ℤ) → eq_by_cmp int_cmp y x ≡ true → x ≡ y
        exact x y e = grind (arith, ints)

-- the first moment is not after that of any
pub first_least : (window : TimeWindow) (first : Option (ℤ × ℕ)) → ((at : ℤ) (tag : ℕ) → is_moment int_cmp at (found nat_cmp window.leaving tag) ≡ true → IsSomeAnd first (λ f. is_gt (pair_cmp int_cmp nat_cmp f (at, tag)) ≡ false))
    → (tag : ℕ) (at : ℤ) (id : FactId) → found nat_cmp window.leaving tag ≡ Some (at, id) → IsSomeAnd (option_map (λ f. f.0) first) (λ m. m ≤ℤ at)
first_least window first least tag at id e = by first (least at tag (ap (is_moment int_cmp at) e ∙ ap is_eq (tied_itself int_cmp_total at)))
  where
    by : (first : Option (ℤ × ℕ)) → IsSomeAnd first (λ f. is_gt (pair_cmp int_cmp nat_cmp f (at, tag)) ≡ false) → IsSomeAnd (option_map (λ f. f.0) first) (λ m. m ≤ℤ at)
    by None h = h
    by (Some f) h = not_later f.0 at (nat_cmp f.1 tag) h
