-- Tallies that follow the candidates, one candidate after another, and rows that come.
use Rattle.counting_node.proofs.Common.{◌≡◌, ◌∙◌, sym, ap, refl, subst, ℕ, zero, suc, ◌+◌, ◌<◌, ◌≤◌, length, take, get_or, arith, List, [], ◌∷◌, Bool, true}
use Rattle.counting_node.proofs.Common.{false, cond, not, ◌&&◌, ◌||◌, Option, Some, None, fun_ext, is_some, Less, eq_by_cmp, is_eq, list_any, AllByRecursion}
use Rattle.counting_node.proofs.Common.{Named, Row, row_cmp, has, same_equiv, name_cmp, name_equiv, Look, has_name, row_decides, name_decides, any_name}
use Rattle.counting_node.proofs.Common.{TurnedTally, TurnedIf, StepsTally, counted, FollowsCandidates, Arrives, list_any_more}
use Rattle.std.specs.{declared.cmp.Ordering.{Ordering}, Cmp.{IsEquivalence}, List.Sorted.{IsStrictlySortedBy}}

-- ---- lists in order
module _ {K : Type 0} (order : K → K → Ordering) (equiv : IsEquivalence (eq_by_cmp order)) where
  less_later : (x : K) (xs : List K) (i : ℕ) (d : K) → i < length xs → AllByRecursion (λ y. order x y ≡ Less) xs → order x (get_or xs i d) ≡ Less
  less_later x [] i d h all = absurd (omega arith)
  less_later x (y ∷ ys) zero d h all = all.0
  less_later x (y ∷ ys) (suc i) d h all = less_later x ys i d (omega arith) all.1

  -- an element does not stand before its place
  pub not_before : (xs : List K) (i : ℕ) (d : K) → i < length xs → IsStrictlySortedBy order xs → list_any (eq_by_cmp order (get_or xs i d)) (take i xs) ≡ false
  unfolding IsStrictlySortedBy
  not_before [] i d h sorted = absurd (omega arith)
  not_before (x ∷ xs) zero d h sorted = refl
  not_before (x ∷ xs) (suc i) d h sorted =
      ap (λ b. b || list_any (eq_by_cmp order (get_or xs i d)) (take i xs)) (equiv.symm (get_or xs i d) x ∙ ap is_eq (less_later x xs i d (omega arith) sorted.0))
      ∙ not_before xs i d (omega arith) sorted.1

  -- it stands in the list
  pub stands_in : (xs : List K) (i : ℕ) (d : K) → i < length xs → list_any (eq_by_cmp order (get_or xs i d)) xs ≡ true
  stands_in [] i d h = absurd (omega arith)
  stands_in (x ∷ xs) zero d h = ap (λ b. b || list_any (eq_by_cmp order x) xs) (equiv.refl x)
  stands_in (x ∷ xs) (suc i) d h = ap (λ b. eq_by_cmp order (get_or xs i d) x || b) (stands_in xs i d (omega arith)) ∙ or_true (eq_by_cmp order (get_or xs i d) x)
    where
      or_true : (b : Bool) → (b || true) ≡ true
      or_true true = refl
      or_true false = refl

module _ {T : Type 0} (holds : T → Look → (Named → Bool) → Type 0) (look : Look) where
  -- ---- one row's turn after the others
  turned_both : (a b comes : Bool) (who : Named) (t u v : T) → (b ≡ true → a ≡ false) → TurnedIf a holds look comes who t u → TurnedIf b holds look comes who u v → TurnedIf (a || b) holds look comes who t v
  turned_both true true comes who t u v apart p q = let e : true ≡ false = apart refl in cc
  turned_both true false comes who t u v apart p q = subst (TurnedTally holds look comes who t) (sym q) p
  turned_both false b comes who t u v apart p q = subst (λ x. TurnedIf b holds look comes who x v) p q

  pub steps_both : (a b comes : Bool) (who : Named) (x y z : Option T) → (b ≡ true → a ≡ false) → StepsTally (TurnedIf a holds look comes who) x y → StepsTally (TurnedIf b holds look comes who) y z → StepsTally (TurnedIf (a || b) holds look comes who) x z
  steps_both a b comes who None y z apart p q = subst (λ o. StepsTally (TurnedIf b holds look comes who) o z) p q
  steps_both a b comes who (Some t) y z apart p q =
      let r : StepsTally (TurnedIf b holds look comes who) (Some p.0) z = subst (λ o. StepsTally (TurnedIf b holds look comes who) o z) p.1 q in
      (r.0, r.1, turned_both a b comes who t p.0 r.0 apart p.2 r.2)

  -- ---- tallies follow
  pub follow_then : (scope first next last passes : Named → Bool) (x y z : Option T) → StepsTally (FollowsCandidates holds look scope first next passes) x y → StepsTally (FollowsCandidates holds look scope next last passes) y z → StepsTally (FollowsCandidates holds look scope first last passes) x z
  follow_then scope first next last passes None y z p q = subst (λ o. StepsTally (FollowsCandidates holds look scope next last passes) o z) p q
  follow_then scope first next last passes (Some t) y z p q =
      let r : StepsTally (FollowsCandidates holds look scope next last passes) (Some p.0) z = subst (λ o. StepsTally (FollowsCandidates holds look scope next last passes) o z) p.1 q in
      (r.0, r.1, λ extra apart h. r.2 extra apart (p.2 extra apart h))

  left_one : (r e p x : Bool) → (e ≡ true → x ≡ false) → (((r && p) || x) && not e) ≡ (((r && not e) && p) || x)
  left_one false e p false h = refl
  left_one false true p true h = let f : true ≡ false = h refl in cc
  left_one false false p true h = refl
  left_one true false true x h = refl
  left_one true false false true h = refl
  left_one true false false false h = refl
  left_one true true true true h = let f : true ≡ false = h refl in cc
  left_one true true true false h = refl
  left_one true true false true h = let f : true ≡ false = h refl in cc
  left_one true true false false h = refl

  left_none : (r e p x : Bool) → (e ≡ true → p ≡ false) → ((r && p) || x) ≡ (((r && not e) && p) || x)
  left_none r false p x h = ap (λ b. (b && p) || x) (sym (and_true r))
    where
      and_true : (b : Bool) → (b && true) ≡ b
      and_true true = refl
      and_true false = refl
  left_none false true p x h = refl
  left_none true true p x h = ap (λ b. b || x) (h refl)

  came_one : (r e p x : Bool) → (e ≡ true → p ≡ true) → (((r && p) || x) || e) ≡ (((r || e) && p) || x)
  came_one r false p x h = or_false ((r && p) || x) ∙ ap (λ b. (b && p) || x) (sym (or_false r))
    where
      or_false : (b : Bool) → (b || false) ≡ b
      or_false true = refl
      or_false false = refl
  came_one true true true x h = refl
  came_one true true false x h = let f : false ≡ true = h refl in cc
  came_one false true true true h = refl
  came_one false true true false h = refl
  came_one false true false x h = let f : false ≡ true = h refl in cc

  came_none : (r e p x : Bool) → (e ≡ true → p ≡ false) → ((r && p) || x) ≡ (((r || e) && p) || x)
  came_none true e p x h = refl
  came_none false true p x h = ap (λ b. b || x) (sym (h refl))
  came_none false false p x h = refl

  module _ (scope right right_now passes : Named → Bool) (who : Named) (inside : scope who ≡ true) (t now : T) where
    same_who : (c : Named) → eq_by_cmp name_cmp who c ≡ true → who ≡ c
    same_who c e = (name_decides who c).0 e

    -- a candidate that was counted goes
    pub follows_leave : (b : Bool) → passes who ≡ b → right who ≡ true → ((c : Named) → right_now c ≡ (right c && not (eq_by_cmp name_cmp who c)))
        → TurnedIf b holds look false who t now → FollowsCandidates holds look scope right right_now passes t now
    follows_leave true p has is turned extra apart h =
        let counted_who : counted right passes extra who ≡ true = ap (λ b. (b && passes who) || extra who) has ∙ ap (λ b. b || extra who) p in
        subst (holds now look) (fun_ext (λ c. left_one (right c) (eq_by_cmp name_cmp who c) (passes c) (extra c) (λ e. apart c (ap scope (sym (same_who c e)) ∙ inside)) ∙ ap (λ b. (b && passes c) || extra c) (sym (is c))))
        (turned (counted right passes extra) h counted_who)
    follows_leave false p has is turned extra apart h =
        subst (λ x. holds x look (counted right_now passes extra)) (sym turned)
        (subst (holds t look) (fun_ext (λ c. left_none (right c) (eq_by_cmp name_cmp who c) (passes c) (extra c) (λ e. ap passes (sym (same_who c e)) ∙ p) ∙ ap (λ b. (b && passes c) || extra c) (sym (is c)))) h)

    -- a candidate that was not counted comes
    pub follows_come : (b : Bool) → passes who ≡ b → right who ≡ false → ((c : Named) → right_now c ≡ (right c || eq_by_cmp name_cmp who c))
        → TurnedIf b holds look true who t now → FollowsCandidates holds look scope right right_now passes t now
    follows_come true p has is turned extra apart h =
        let counted_who : counted right passes extra who ≡ false = ap (λ b. (b && passes who) || extra who) has ∙ apart who inside in
        subst (holds now look) (fun_ext (λ c. came_one (right c) (eq_by_cmp name_cmp who c) (passes c) (extra c) (λ e. ap passes (sym (same_who c e)) ∙ p) ∙ ap (λ b. (b && passes c) || extra c) (sym (is c))))
        (turned (counted right passes extra) h counted_who)
    follows_come false p has is turned extra apart h =
        subst (λ x. holds x look (counted right_now passes extra)) (sym turned)
        (subst (holds t look) (fun_ext (λ c. came_none (right c) (eq_by_cmp name_cmp who c) (passes c) (extra c) (λ e. ap passes (sym (same_who c e)) ∙ p) ∙ ap (λ b. (b && passes c) || extra c) (sym (is c)))) h)

  -- the same of what is kept for a row, where the rows that take their turn are the kept ones for which the candidate passes
  pub steps_leave : (scope right right_now passes : Named → Bool) (who : Named) → scope who ≡ true → right who ≡ true → ((c : Named) → right_now c ≡ (right c && not (eq_by_cmp name_cmp who c)))
      → (before after : Option T) (b : Bool) → b ≡ (is_some before && passes who) → StepsTally (TurnedIf b holds look false who) before after → StepsTally (FollowsCandidates holds look scope right right_now passes) before after
  steps_leave scope right right_now passes who inside has is None after b turns steps = steps
  steps_leave scope right right_now passes who inside has is (Some t) after b turns steps = (steps.0, steps.1, follows_leave scope right right_now passes who inside t steps.0 b (sym turns) has is steps.2)

  pub steps_come : (scope right right_now passes : Named → Bool) (who : Named) → scope who ≡ true → right who ≡ false → ((c : Named) → right_now c ≡ (right c || eq_by_cmp name_cmp who c))
      → (before after : Option T) (b : Bool) → b ≡ (is_some before && passes who) → StepsTally (TurnedIf b holds look true who) before after → StepsTally (FollowsCandidates holds look scope right right_now passes) before after
  steps_come scope right right_now passes who inside has is None after b turns steps = steps
  steps_come scope right right_now passes who inside has is (Some t) after b turns steps = (steps.0, steps.1, follows_come scope right right_now passes who inside t steps.0 b (sym turns) has is steps.2)

  -- nothing changed
  pub steps_follow_same : (scope right right_now passes : Named → Bool) → ((c : Named) → right_now c ≡ right c) → (before after : Option T) → after ≡ before → StepsTally (FollowsCandidates holds look scope right right_now passes) before after
  steps_follow_same scope right right_now passes same None after is = is
  steps_follow_same scope right right_now passes same (Some t) after is = (t, is, λ extra apart h. subst (holds t look) (fun_ext (λ c. ap (λ b. (b && passes c) || extra c) (sym (same c)))) h)

  -- ---- rows that come
  pub arrives_both : (a b : Bool) (set : Named → Bool) (x y z : Option T) → Arrives a holds look set x y → Arrives b holds look set y z → Arrives (a || b) holds look set x z
  arrives_both true true set None y z p q = (p.0, subst (λ o. Arrives true holds look set o z) p.1 q, p.2)
  arrives_both true false set None y z p q = (p.0, q ∙ p.1, p.2)
  arrives_both true true set (Some t) y z p q = subst (λ o. Arrives true holds look set o z) p q
  arrives_both true false set (Some t) y z p q = q ∙ p
  arrives_both false b set x y z p q = subst (λ o. Arrives b holds look set o z) p q

  pub arrives_there : (b : Bool) (set : Named → Bool) (o : Option T) → (b ≡ true → is_some o ≡ true) → Arrives b holds look set o o
  arrives_there false set o h = refl
  arrives_there true set None h = let f : false ≡ true = h refl in cc
  arrives_there true set (Some t) h = refl

  pub arrives_one : (b : Bool) (set : Named → Bool) (o after : Option T) (t : T) → (b ≡ true → is_some o ≡ false) → after ≡ cond b (Some t) o → (b ≡ true → holds t look set) → Arrives b holds look set o after
  arrives_one false set o after t h is q = is
  arrives_one true set None after t h is q = (t, is, q refl)
  arrives_one true set (Some x) after t h is q = let f : true ≡ false = h refl in cc

  -- one candidate more of a list in order
  pub tally_more : (names : List Named) (i : ℕ) (who : Named) → i < length names → who ≡ get_or names i any_name → IsStrictlySortedBy name_cmp names → (t now : T)
      → TurnedTally holds look true who t now → holds t look (has_name (take i names)) → holds now look (has_name (take (i + 1) names))
  tally_more names i who below is sorted t now turned h =
      subst (holds now look) (fun_ext (λ c. ap (λ b. has_name (take i names) c || b) (name_equiv.symm who c ∙ ap (eq_by_cmp name_cmp c) is) ∙ sym (list_any_more (eq_by_cmp name_cmp c) names i any_name below)))
      (turned (has_name (take i names)) h (ap (λ x. has_name (take i names) x) is ∙ not_before name_cmp name_equiv names i any_name below sorted))

pub rows_more : (rows : List Row) (i : ℕ) (row : Row) → i < length rows → row ≡ get_or rows i row → (r : Row) → (has (take i rows) r || eq_by_cmp row_cmp row r) ≡ has (take (i + 1) rows) r
rows_more rows i row below is r = ap (λ b. has (take i rows) r || b) (same_equiv.symm row r ∙ ap (eq_by_cmp row_cmp r) is) ∙ sym (list_any_more (eq_by_cmp row_cmp r) rows i row below)

-- a row that takes its turn did not take it before
pub rows_apart : (rows : List Row) (i : ℕ) (row : Row) → i < length rows → row ≡ get_or rows i row → IsStrictlySortedBy row_cmp rows → (r : Row) → eq_by_cmp row_cmp row r ≡ true → has (take i rows) r ≡ false
rows_apart rows i row below is sorted r e = ap (has (take i rows)) (sym ((row_decides row r).0 e) ∙ is) ∙ not_before row_cmp same_equiv rows i row below sorted

-- the version in a place of a list, and what is the same, stands in the list
pub name_within : (names : List Named) (i : ℕ) → i < length names → (c : Named) → eq_by_cmp name_cmp (get_or names i any_name) c ≡ true → has_name names c ≡ true
name_within names i below c e = ap (has_name names) (sym ((name_decides (get_or names i any_name) c).0 e)) ∙ stands_in name_cmp name_equiv names i any_name below

-- all of a list
pub take_all : {A : Type 0} (xs : List A) (i : ℕ) → length xs ≤ i → take i xs ≡ xs
take_all [] zero h = refl
take_all [] (suc i) h = refl
take_all (x ∷ xs) zero h = absurd (omega arith)
take_all (x ∷ xs) (suc i) h = ap (λ ys. x ∷ ys) (take_all xs i (omega arith))
