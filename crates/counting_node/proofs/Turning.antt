-- One tally that is exchanged for another.
use Rattle.counting_node.proofs.Common.{◌≡◌, ◌∙◌, sym, ap, refl, subst, List, Bool, true, false, cond, not, ◌&&◌, ◌||◌, Option, Some, None, ℤ, is_some}
use Rattle.counting_node.proofs.Common.{eq_by_cmp, Named, Row, row_cmp, has, Look, without, along, Memories, left_at, has_left, row_decides, TurnedTally}
use Rattle.counting_node.proofs.Common.{TurnedIf, StepsTally, output_some, output_from, offers, shown, changed_at, is_from, and_parts}

and_not : (w : Bool) → (w && not w) ≡ false
and_not true = refl
and_not false = refl

-- kernels: f that a row comes from the left row, w that it was there, i that it is, n the set before
gone_first : (f w i n : Bool) → (f && i) ≡ true → (f ≡ true → n ≡ w) → (n && not (f && w)) ≡ false
gone_first true w i n e h = ap (λ b. b && not w) (h refl) ∙ and_not w
gone_first false w i n e h = let g : false ≡ true = e in cc

changed : (f w i n : Bool) → (f ≡ true → n ≡ w) → ((n && not (f && w)) || (f && i)) ≡ cond f i n
changed true w i n h = ap (λ b. (b && not w) || i) (h refl) ∙ ap (λ b. b || i) (and_not w)
changed false w i true h = refl
changed false w i false h = refl

module _ (origin : Row → Option Row) (gives : ℤ → Row → Bool) (now : Row → Bool) (row : Row) (was is : Option ℤ) (is_was : (r : Row) → is_from (origin r) row ≡ true → now r ≡ offers gives was r) where
  module _ (gone come : List Row) (went : (r : Row) → has gone r ≡ (is_from (origin r) row && offers gives was r)) (came : (r : Row) → has come r ≡ (is_from (origin r) row && offers gives is r)) where
    pub rows_were : (r : Row) → has gone r ≡ true → now r ≡ true
    rows_were r e = let k = and_parts (is_from (origin r) row) (offers gives was r) (sym (went r) ∙ e) in is_was r k.0 ∙ k.1

    pub rows_new : (r : Row) → has come r ≡ true → without now gone r ≡ false
    rows_new r e = ap (λ b. now r && not b) (went r) ∙ gone_first (is_from (origin r) row) (offers gives was r) (offers gives is r) (now r) (sym (came r) ∙ e) (is_was r)

    pub rows_after : (r : Row) → along (without now gone) come r ≡ changed_at origin now row (offers gives is) r
    rows_after r =
        ap (λ b. (now r && not b) || has come r) (went r) ∙ ap (λ b. (now r && not (is_from (origin r) row && offers gives was r)) || b) (came r)
        ∙ changed (is_from (origin r) row) (offers gives was r) (offers gives is r) (now r) (is_was r)

-- ---- what is kept for rows after one exchange
cond_twice : {X : Type 0} (b : Bool) (x y z : X) → cond b x (cond b y z) ≡ cond b x z
cond_twice true x y z = refl
cond_twice false x y z = refl

module _ {T : Type 0} (holds : T → Look → (Named → Bool) → Type 0) (look : Look) (comes : Bool) (who : Named) where
  pub steps_same : (before after : Option T) → after ≡ before → StepsTally (TurnedIf false holds look comes who) before after
  steps_same None after e = e
  steps_same (Some t) after e = (t, e, refl)

  pub steps_one : (b : Bool) (before after : Option T) (tally now : T) → (b ≡ true → before ≡ Some tally) → after ≡ cond b (Some now) before → TurnedTally holds look comes who tally now
      → StepsTally (TurnedIf b holds look comes who) before after
  steps_one true before after tally now was is turned = subst (λ o. StepsTally (TurnedIf true holds look comes who) o after) (sym (was refl)) (now, is, turned)
  steps_one false before after tally now was is turned = steps_same before after is

  pub steps_absent : (b : Bool) (o : Option T) → (b ≡ true → o ≡ None) → StepsTally (TurnedIf b holds look comes who) o o
  steps_absent true o was = subst (λ (x : Option T). StepsTally (TurnedIf true holds look comes who) x x) (sym (was refl)) refl
  steps_absent false o was = steps_same o o refl

-- a row that is not kept
pub absent : {T : Type 0} (m : Memories T) (look : Look) (row : Row) → has_left m look row ≡ false → (r : Row) → eq_by_cmp row_cmp row r ≡ true → left_at m look r ≡ None
absent m look row is r e = ap (left_at m look) (sym ((row_decides row r).0 e)) ∙ none (left_at m look row) is
  where
    none : {X : Type 0} (o : Option X) → is_some o ≡ false → o ≡ None
    none None f = refl
    none (Some x) f = let h : true ≡ false = f in cc

-- ---- the rows of a node
module _ {T : Type 0} (origin : Row → Option Row) (gives : ℤ → Row → Bool) (output : Look → Row → T → Option ℤ) where
  from_alike : (m n : Memories T) (look : Look) → ((r : Row) → left_at m look r ≡ left_at n look r) → (o : Option Row) → output_from output m look o ≡ output_from output n look o
  from_alike m n look h None = refl
  from_alike m n look h (Some left) = ap (output_some (output look left)) (h left)

  pub shown_alike : (m n : Memories T) (look : Look) → ((r : Row) → left_at m look r ≡ left_at n look r) → (r : Row) → shown origin gives output m look r ≡ shown origin gives output n look r
  shown_alike m n look h r = ap (λ o. offers gives o r) (from_alike m n look h (origin r))

  -- the rows that come from one left row
  from_one : (m : Memories T) (look : Look) (row : Row) (o : Option Row) → is_from o row ≡ true → output_from output m look o ≡ output_some (output look row) (left_at m look row)
  from_one m look row None e = let f : false ≡ true = e in cc
  from_one m look row (Some left) e = ap (λ r. output_some (output look r) (left_at m look r)) (sym ((row_decides row left).0 e))

  pub shown_from : (m : Memories T) (look : Look) (row : Row) (was : Option ℤ) → output_some (output look row) (left_at m look row) ≡ was → (r : Row) → is_from (origin r) row ≡ true → shown origin gives output m look r ≡ offers gives was r
  shown_from m look row was is r e = ap (λ o. offers gives o r) (from_one m look row (origin r) e ∙ is)

pub none_output : {T : Type 0} (output : T → Option ℤ) (o : Option T) → is_some o ≡ false → output_some output o ≡ None
none_output output None e = refl
none_output output (Some t) e = let f : true ≡ false = e in cc

-- the rows that show after one tally was put in
put_some : {T : Type 0} (output : T → Option ℤ) (test : Option ℤ → Bool) (now : T) (is : Option ℤ) (b : Bool) → (b ≡ true → is ≡ output now) → (o : Option T) → cond b (test is) (test (output_some output o)) ≡ test (output_some output (cond b (Some now) o))
put_some output test now is true e o = ap test (e refl)
put_some output test now is false e o = refl

put_from : {T : Type 0} (gives : ℤ → Row → Bool) (output : Look → Row → T → Option ℤ) (first last : Memories T) (look : Look) (row : Row) (now : T) → ((r : Row) → left_at last look r ≡ cond (eq_by_cmp row_cmp row r) (Some now) (left_at first look r))
    → (is : Option ℤ) → is ≡ output look row now → (r : Row) (o : Option Row) → cond (is_from o row) (offers gives is r) (offers gives (output_from output first look o) r) ≡ offers gives (output_from output last look o) r
put_from gives output first last look row now put is e r None = refl
put_from gives output first last look row now put is e r (Some left) =
    put_some (output look left) (λ o. offers gives o r) now is (eq_by_cmp row_cmp row left) (λ h. e ∙ ap (λ l. output look l now) ((row_decides row left).0 h)) (left_at first look left)
    ∙ ap (λ o. offers gives (output_some (output look left) o) r) (sym (put left))

pub put_shown : {T : Type 0} (first last : Memories T) (look : Look) (row : Row) (now : T) (origin : Row → Option Row) (gives : ℤ → Row → Bool) (output : Look → Row → T → Option ℤ) → ((r : Row) → left_at last look r ≡ cond (eq_by_cmp row_cmp row r) (Some now) (left_at first look r))
    → (is : Option ℤ) → is ≡ output look row now → (r : Row) → changed_at origin (shown origin gives output first look) row (offers gives is) r ≡ shown origin gives output last look r
put_shown first last look row now origin gives output put is e r = put_from gives output first last look row now put is e r (origin r)

-- and after a left row went
gone_from : {T : Type 0} (gives : ℤ → Row → Bool) (output : Look → Row → T → Option ℤ) (first last : Memories T) (look : Look) (row : Row) → ((r : Row) → left_at last look r ≡ cond (eq_by_cmp row_cmp row r) None (left_at first look r))
    → (r : Row) (o : Option Row) → cond (is_from o row) false (offers gives (output_from output first look o) r) ≡ offers gives (output_from output last look o) r
gone_from {T} gives output first last look row gone r None = refl
gone_from {T} gives output first last look row gone r (Some left) = by (eq_by_cmp row_cmp row left) (left_at first look left) ∙ ap (λ o. offers gives (output_some (output look left) o) r) (sym (gone left))
  where
    by : (b : Bool) (o : Option T) → cond b false (offers gives (output_some (output look left) o) r) ≡ offers gives (output_some (output look left) (cond b None o)) r
    by true o = refl
    by false o = refl

pub gone_shown : {T : Type 0} (first last : Memories T) (look : Look) (row : Row) (origin : Row → Option Row) (gives : ℤ → Row → Bool) (output : Look → Row → T → Option ℤ) → ((r : Row) → left_at last look r ≡ cond (eq_by_cmp row_cmp row r) None (left_at first look r))
    → (r : Row) → changed_at origin (shown origin gives output first look) row (offers gives None) r ≡ shown origin gives output last look r
gone_shown first last look row origin gives output gone r = gone_from gives output first last look row gone r (origin r)

module _ {T : Type 0} (first next last : Memories T) (look : Look) (row : Row) (tally blank now : T) (was : left_at first look row ≡ Some tally)
    (taken : (r : Row) → left_at next look r ≡ cond (eq_by_cmp row_cmp row r) (Some blank) (left_at first look r))
    (put : (r : Row) → left_at last look r ≡ cond (eq_by_cmp row_cmp row r) (Some now) (left_at next look r)) where
  -- after one tally was exchanged for another
  pub exchanged : (r : Row) → left_at last look r ≡ cond (eq_by_cmp row_cmp row r) (Some now) (left_at first look r)
  exchanged r =
      put r ∙ ap (λ o. cond (eq_by_cmp row_cmp row r) (Some now) o) (taken r)
      ∙ cond_twice (eq_by_cmp row_cmp row r) (Some now) (Some blank) (left_at first look r)

  pub was_there : (r : Row) → eq_by_cmp row_cmp row r ≡ true → left_at first look r ≡ Some tally
  was_there r e = ap (left_at first look) (sym ((row_decides row r).0 e)) ∙ was

  pub exchanged_shown : (origin : Row → Option Row) (gives : ℤ → Row → Bool) (output : Look → Row → T → Option ℤ) (is : Option ℤ) → is ≡ output look row now → (r : Row) → changed_at origin (shown origin gives output first look) row (offers gives is) r ≡ shown origin gives output last look r
  exchanged_shown origin gives output is e r = put_shown first last look row now origin gives output exchanged is e r

-- nothing was there
module _ {T : Type 0} (first next : Memories T) (look : Look) (row : Row) (was : left_at first look row ≡ None)
    (taken : (r : Row) → left_at next look r ≡ cond (eq_by_cmp row_cmp row r) None (left_at first look r)) where
  pub was_none : (r : Row) → eq_by_cmp row_cmp row r ≡ true → left_at first look r ≡ None
  was_none r e = ap (left_at first look) (sym ((row_decides row r).0 e)) ∙ was

  cond_none : (b : Bool) (o : Option T) → (b ≡ true → o ≡ None) → cond b None o ≡ o
  cond_none true o h = sym (h refl)
  cond_none false o h = refl

  pub untouched : (r : Row) → left_at next look r ≡ left_at first look r
  untouched r = taken r ∙ cond_none (eq_by_cmp row_cmp row r) (left_at first look r) (was_none r)
