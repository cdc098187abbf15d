-- Under which values members are found.
use Rattle.fan_join.proofs.Common.{◌≡◌, ◌∙◌, sym, ap, refl, subst, ℕ, ◌+◌, ◌<◌, List, length, take, get_or, Bool, true, false, cond, ◌&&◌, ◌||◌, Some, None}
use Rattle.fan_join.proofs.Common.{slice_get, set, is_some, nat_cmp, eq_by_cmp, JoinIndex, at, Value, same_value, Named, name_cmp, Look, candidate_value}
use Rattle.fan_join.proofs.Common.{Candidates, Delta, has_name, AreNamesTurned, FanJoin, IsReached, is_member_under, false≢true, IsMemberTurned}
use Rattle.{fan_join.proofs.Whole.{member_turned}, std.{specs.List.{list_any}, proofs.lemmas.{List.Folds.{list_any_more}, Bool.{and_parts, and_from}}}}
use Rattle.fx_base.{specs.SameValues.{equal_values, same_itself}, proofs.{Orders.{eq_by_nat_cmp-self, eq_by_nat_cmp-true}, Sequences.{get-set_other}}}
use Rattle.{fx_base.proofs.Sequences.{get-set_same, is_some-cond, one_value}, join_memory.specs.Doors.{keeps_time}}

-- what holds of the elements so far and of the next one
pub among_more : {A : Type 0} (eq : A → A → Bool) → ((a b : A) → eq a b ≡ true → a ≡ b) → (xs : List A) (i : ℕ) → i < length xs → (any x : A) → x ≡ get_or xs i any → (P : A → Type 0)
    → ((a : A) → list_any (eq a) (take i xs) ≡ true → P a) → P x → (a : A) → list_any (eq a) (take (i + 1) xs) ≡ true → P a
among_more eq exact xs i below any x is P so_far here a there = by (list_any (eq a) (take i xs)) refl
  where
    by : (b : Bool) → list_any (eq a) (take i xs) ≡ b → P a
    by true e = so_far a e
    by false e = subst P (sym (exact a x (ap (eq a) is ∙ ap (λ b. b || eq a (get_or xs i any)) (sym e) ∙ sym (list_any_more (eq a) xs i any below) ∙ there))) here

-- ---- a place under a value

module _ (old new : JoinIndex Value ℕ (Unit {0})) (value : Value) (place : ℕ) where
  module _ (put : (v : Value) (k : ℕ) → at same_value nat_cmp new v k ≡ cond (same_value value v && eq_by_cmp nat_cmp place k) (Some tt) (at same_value nat_cmp old v k)) where
    pub under_stays : (v : Value) (k : ℕ) → is_member_under old v k ≡ true → is_member_under new v k ≡ true
    under_stays v k e = ap is_some (put v k) ∙ is_some-cond (same_value value v && eq_by_cmp nat_cmp place k) tt _ e

    pub under_here : is_member_under new value place ≡ true
    under_here = ap is_some (put value place ∙ ap (λ b. cond b (Some tt) (at same_value nat_cmp old value place)) (and_from _ _ (same_itself value) (eq_by_nat_cmp-self place)))

  -- one is taken where nothing is kept
  pub under_left : (names : JoinIndex Value Named (Unit {0})) → ((who : Named) → at same_value name_cmp names value who ≡ None)
      → ((v : Value) (k : ℕ) → at same_value nat_cmp new v k ≡ cond (same_value value v && eq_by_cmp nat_cmp place k) None (at same_value nat_cmp old v k))
      → (v : Value) (k : ℕ) → (k ≡ place → (who : Named) × (is_some (at same_value name_cmp names v who) ≡ true)) → is_member_under old v k ≡ true → is_member_under new v k ≡ true
  under_left names none taken v k held was = by (same_value value v && eq_by_cmp nat_cmp place k) refl
    where
      by : (b : Bool) → (same_value value v && eq_by_cmp nat_cmp place k) ≡ b → is_member_under new v k ≡ true
      by true e =
          let both = and_parts (same_value value v) (eq_by_cmp nat_cmp place k) e in
          let kept = held (sym (eq_by_nat_cmp-true place k both.1)) in
          absurd (false≢true (sym (ap is_some (none kept.0)) ∙ ap (λ u. is_some (at same_value name_cmp names u kept.0)) (equal_values value v both.0) ∙ kept.1))
      by false e = ap is_some (taken v k ∙ ap (λ b. cond b None (at same_value nat_cmp old v k)) e) ∙ was

-- ---- the candidates of one member

module _ (old new : FanJoin) (mid : JoinIndex Value ℕ (Unit {0})) (look : Look) (place : ℕ) (come : List Named) (c d : Candidates) (was : slice_get old.members.items place ≡ Some c) (is : new.members.items ≡ set old.members.items place d)
    (under : (value : Value) (who : Named) → is_some (at same_value name_cmp d.names value who) ≡ true
    → (is_some (at same_value name_cmp c.names value who) || (has_name come who && same_value (candidate_value d.pattern look who) value)) ≡ true)
    (left : (value : Value) (k : ℕ) → (k ≡ place → (who : Named) × (is_some (at same_value name_cmp d.names value who) ≡ true)) → is_member_under old.reached value k ≡ true → is_member_under mid value k ≡ true)
    (stays : (value : Value) (k : ℕ) → is_member_under mid value k ≡ true → is_member_under new.reached value k ≡ true)
    (put : (who : Named) → has_name come who ≡ true → is_member_under new.reached (candidate_value d.pattern look who) place ≡ true) where
  reached_here : IsReached old → keeps_time old.left ≡ false → (value : Value) (who : Named) → is_some (at same_value name_cmp d.names value who) ≡ true → is_member_under new.reached value place ≡ true
  reached_here reached untimed value who kept = by (is_some (at same_value name_cmp c.names value who)) refl
    where
      by : (b : Bool) → is_some (at same_value name_cmp c.names value who) ≡ b → is_member_under new.reached value place ≡ true
      by true e = stays value place (left value place (λ same. (who, kept)) (reached untimed place c value who was e))
      by false e =
          let both =
          and_parts (has_name come who) (same_value (candidate_value d.pattern look who) value)
          (ap (λ b. b || (has_name come who && same_value (candidate_value d.pattern look who) value)) (sym e) ∙ under value who kept) in
          ap (λ v. is_member_under new.reached v place) (sym (equal_values (candidate_value d.pattern look who) value both.1)) ∙ put who both.0

  reached_turned : new.left ≡ old.left → IsReached old → IsReached new
  reached_turned left_is reached untimed_now k a value who member kept = by (eq_by_cmp nat_cmp k place) refl
    where
      untimed : keeps_time old.left ≡ false
      untimed = ap keeps_time (sym left_is) ∙ untimed_now

      by : (b : Bool) → eq_by_cmp nat_cmp k place ≡ b → is_member_under new.reached value k ≡ true
      by true e =
          let same = eq_by_nat_cmp-true k place e in
          let there : slice_get (set old.members.items place d) place ≡ Some a = ap (λ (members : List Candidates). slice_get members place) (sym is) ∙ ap (slice_get new.members.items) (sym same) ∙ member in
          let a_is = one_value (slice_get (set old.members.items place d) place) a d there (get-set_same old.members.items place d c was) in
          ap (is_member_under new.reached value) same ∙ reached_here reached untimed value who (ap (λ (m : Candidates). is_some (at same_value name_cmp m.names value who)) (sym a_is) ∙ kept)
      by false e =
          let other : k ≡ place → ⊥ = λ same. false≢true (sym e ∙ ap (λ n. eq_by_cmp nat_cmp n place) same ∙ eq_by_nat_cmp-self place) in
          let there : slice_get old.members.items k ≡ Some a = sym (get-set_other old.members.items place k d other) ∙ ap (λ (members : List Candidates). slice_get members k) (sym is) ∙ member in
          stays value k (left value k (λ same. absurd (other same)) (reached untimed k a value who there kept))

  pub names_reached : (gone : List Named) (so_far delta : Delta) → AreNamesTurned old.left look gone come so_far c d delta → new.left ≡ old.left → IsMemberTurned old new look place gone come so_far delta
  names_reached gone so_far delta turned left_is = member_turned old look place gone come so_far delta c d was turned new left_is is (reached_turned left_is)

-- where the key has a range of time, nothing is said of the values
pub names_timed : (old new : FanJoin) (look : Look) (place : ℕ) (gone come : List Named) (so_far delta : Delta) (c d : Candidates) → slice_get old.members.items place ≡ Some c → new.members.items ≡ set old.members.items place d
    → keeps_time old.left ≡ true → AreNamesTurned old.left look gone come so_far c d delta → new.left ≡ old.left → IsMemberTurned old new look place gone come so_far delta
names_timed old new look place gone come so_far delta c d was is timed turned left_is =
    member_turned old look place gone come so_far delta c d was turned new left_is is
    (λ reached untimed. absurd (false≢true (sym untimed ∙ ap keeps_time left_is ∙ timed)))
