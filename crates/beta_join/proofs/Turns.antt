-- What one row more, or one less, on a side does to the rows that are made.
use Rattle.beta_join.proofs.Common.{◌≡◌, ◌∙◌, sym, ap, refl, List, Bool, true, false, not, ◌&&◌, ◌||◌, Option, Some, None, eq_by_cmp, Pattern, Row, row_cmp}
use Rattle.beta_join.proofs.Common.{has, name_cmp, Look, Memories, has_left, has_right, made, KeepsMemories, TurnedMemories, joins, unjoined, splits}
use Rattle.beta_join.proofs.Common.{row_absent, row_present, name_absent, name_present, keeps_then, leads_alike, subst, ℕ, ◌+◌, ◌<◌, ◌≤◌, length, take, get_or}
use Rattle.{beta_join.proofs.Common.{[], has_name, any_name, sharing, take_all, NamesTurned}, row_delta.specs.declared.row.Named.{Named}}
use Rattle.{row_change.specs.{Changes.{LeadsRows, without, along}, declared.change.Change.{Change}}, join_memory.specs.Joined.{joined}}
use Rattle.join_memory.{proofs.{Joining.{row_decides, name_decides, joined_alike}, Keeping.{made_after}}, specs.declared.candidates.Candidates.{Candidates}}
use Rattle.join_memory.{specs.{Handed.{moved}, Shared.{AreHanded}}, proofs.Handed.{next_may, moved_more, moved_none, may_go, may_come, handed_joined}}
use Rattle.fx_base.proofs.Tests.{and_or_and}

splits_imply : (t u : Row → Named → Bool) (b : Bool) → ((l : Row) (c : Named) → t l c ≡ true → u l c ≡ b) → (o : Option (Row × Named)) → splits t o ≡ true → splits u o ≡ b
splits_imply t u b h None e = let f : false ≡ true = e in cc
splits_imply t u b h (Some p) e = h p.0 p.1 e

splits_minus : (t u v : Row → Named → Bool) → ((l : Row) (c : Named) → v l c ≡ (t l c && not (u l c))) → (o : Option (Row × Named)) → splits v o ≡ (splits t o && not (splits u o))
splits_minus t u v h None = refl
splits_minus t u v h (Some p) = h p.0 p.1

splits_plus : (t u v : Row → Named → Bool) → ((l : Row) (c : Named) → v l c ≡ (t l c || u l c)) → (o : Option (Row × Named)) → splits v o ≡ (splits t o || splits u o)
splits_plus t u v h None = refl
splits_plus t u v h (Some p) = h p.0 p.1

-- kernels: a is the row's own side, e that it is the one that changes, b and q the rest
left_minus : (a e b q : Bool) → ((a && not e) && (b && q)) ≡ ((a && (b && q)) && not (e && (b && q)))
left_minus false e b q = refl
left_minus true true true true = refl
left_minus true true true false = refl
left_minus true true false q = refl
left_minus true false true true = refl
left_minus true false true false = refl
left_minus true false false q = refl

left_plus : (a e b q : Bool) → ((a || e) && (b && q)) ≡ ((a && (b && q)) || (e && (b && q)))
left_plus true true true true = refl
left_plus true true true false = refl
left_plus true true false q = refl
left_plus true false true true = refl
left_plus true false true false = refl
left_plus true false false q = refl
left_plus false e b q = refl

right_minus : (a b e q : Bool) → (a && ((b && not e) && q)) ≡ ((a && (b && q)) && not (a && (e && q)))
right_minus false b e q = refl
right_minus true false e q = refl
right_minus true true true true = refl
right_minus true true true false = refl
right_minus true true false true = refl
right_minus true true false false = refl

inside_left : (a e b q : Bool) → (e ≡ true → a ≡ true) → (e && (b && q)) ≡ true → (a && (b && q)) ≡ true
inside_left a true b q h e = ap (λ x. x && (b && q)) (h refl) ∙ e
inside_left a false b q h e = let f : false ≡ true = e in cc

outside_left : (a e b q : Bool) → (e ≡ true → a ≡ false) → (e && (b && q)) ≡ true → (a && (b && q)) ≡ false
outside_left a true b q h e = ap (λ x. x && (b && q)) (h refl)
outside_left a false b q h e = let f : false ≡ true = e in cc

inside_right : (a b e q : Bool) → (e ≡ true → b ≡ true) → (a && (e && q)) ≡ true → (a && (b && q)) ≡ true
inside_right a b true q h e = ap (λ x. a && (x && q)) (h refl) ∙ e
inside_right true b false q h e = let f : false ≡ true = e in cc
inside_right false b false q h e = let f : false ≡ true = e in cc

outside_right : (a b e q : Bool) → (e ≡ true → b ≡ false) → (a && (e && q)) ≡ true → (a && (b && q)) ≡ false
outside_right false b e q h f = refl
outside_right true b true q h f = ap (λ x. x && q) (h refl)
outside_right true b false q h f = let g : false ≡ true = f in cc

module _ (pass : Row → Named → Bool) (left : Row → Bool) (right : Named → Bool) where
  pub row_inside : (row : Row) → left row ≡ true → (r : Row) → joined pass (eq_by_cmp row_cmp row) right r ≡ true → joined pass left right r ≡ true
  unfolding joined
  row_inside row is r =
      splits_imply _ _ true (λ l c. inside_left (left l) (eq_by_cmp row_cmp row l) (right c) (pass l c) (λ e. ap left (sym ((row_decides row l).0 e)) ∙ is)) (unjoined r)

  pub row_outside : (row : Row) → left row ≡ false → (r : Row) → joined pass (eq_by_cmp row_cmp row) right r ≡ true → joined pass left right r ≡ false
  unfolding joined
  row_outside row is r =
      splits_imply _ _ false (λ l c. outside_left (left l) (eq_by_cmp row_cmp row l) (right c) (pass l c) (λ e. ap left (sym ((row_decides row l).0 e)) ∙ is)) (unjoined r)

  pub name_inside : (who : Named) → right who ≡ true → (r : Row) → joined pass left (eq_by_cmp name_cmp who) r ≡ true → joined pass left right r ≡ true
  unfolding joined
  name_inside who is r =
      splits_imply _ _ true (λ l c. inside_right (left l) (right c) (eq_by_cmp name_cmp who c) (pass l c) (λ e. ap right (sym ((name_decides who c).0 e)) ∙ is)) (unjoined r)

  pub name_outside : (who : Named) → right who ≡ false → (r : Row) → joined pass left (eq_by_cmp name_cmp who) r ≡ true → joined pass left right r ≡ false
  unfolding joined
  name_outside who is r =
      splits_imply _ _ false (λ l c. outside_right (left l) (right c) (eq_by_cmp name_cmp who c) (pass l c) (λ e. ap right (sym ((name_decides who c).0 e)) ∙ is)) (unjoined r)

  pub row_less : (row r : Row) → joined pass (λ l. left l && not (eq_by_cmp row_cmp row l)) right r ≡ (joined pass left right r && not (joined pass (eq_by_cmp row_cmp row) right r))
  unfolding joined
  row_less row r = splits_minus _ _ _ (λ l c. left_minus (left l) (eq_by_cmp row_cmp row l) (right c) (pass l c)) (unjoined r)

  pub row_more : (row r : Row) → joined pass (λ l. left l || eq_by_cmp row_cmp row l) right r ≡ (joined pass left right r || joined pass (eq_by_cmp row_cmp row) right r)
  unfolding joined
  row_more row r = splits_plus _ _ _ (λ l c. left_plus (left l) (eq_by_cmp row_cmp row l) (right c) (pass l c)) (unjoined r)

  pub name_less : (who : Named) (r : Row) → joined pass left (λ c. right c && not (eq_by_cmp name_cmp who c)) r ≡ (joined pass left right r && not (joined pass left (eq_by_cmp name_cmp who) r))
  unfolding joined
  name_less who r = splits_minus _ _ _ (λ l c. right_minus (left l) (right c) (eq_by_cmp name_cmp who c) (pass l c)) (unjoined r)

  pub name_more : (who : Named) (r : Row) → joined pass left (λ c. right c || eq_by_cmp name_cmp who c) r ≡ (joined pass left right r || joined pass left (eq_by_cmp name_cmp who) r)
  unfolding joined
  name_more who r = splits_plus _ _ _ (λ l c. and_or_and (left l) (right c) (eq_by_cmp name_cmp who c) (pass l c)) (unjoined r)

-- ---- what has changed leads on to the rows that are made then
module _ {S : Type 0} (m n : Memories S) (look : Look) (left : Row → Bool) (right : Named → Bool) (keeps : KeepsMemories m n look left right) (change changed : Change) where
  -- nothing changes in the rows
  pub unmoved : ((l : Row) → left l ≡ has_left m look l) → ((c : Named) → right c ≡ has_right m look c) → TurnedMemories m n look left right change change
  unmoved h k = record {
    keeps = keeps;
    leads = λ old before. leads_alike old (made m look) (made n look) change.gone.keys change.come.keys before
        (λ r. sym (made_after m n look left right keeps r ∙ joined_alike (joins m.pattern look) left (has_left m look) right (has_right m look) h k r));
  }

  -- these rows go
  pub rows_go : (rows : List Row) (gone : Row → Bool) → ((r : Row) → has rows r ≡ gone r)
      → ((r : Row) → joined (joins m.pattern look) left right r ≡ (made m look r && not (gone r))) → ((r : Row) → gone r ≡ true → made m look r ≡ true)
      → ((old now : Row → Bool) → LeadsRows old now change.gone.keys change.come.keys → ((r : Row) → has rows r ≡ true → now r ≡ true) → LeadsRows old (without now rows) changed.gone.keys changed.come.keys)
      → TurnedMemories m n look left right change changed
  rows_go rows gone are less inside leave = record {
    keeps = keeps;
    leads = λ old before. leads_alike old (without (made m look) rows) (made n look) changed.gone.keys changed.come.keys (leave old (made m look) before (λ r e. inside r (sym (are r) ∙ e)))
        (λ r. ap (λ b. made m look r && not b) (are r) ∙ sym (less r) ∙ sym (made_after m n look left right keeps r));
  }

  -- these rows come
  pub rows_arrive : (rows : List Row) (come : Row → Bool) → ((r : Row) → has rows r ≡ come r)
      → ((r : Row) → joined (joins m.pattern look) left right r ≡ (made m look r || come r)) → ((r : Row) → come r ≡ true → made m look r ≡ false)
      → ((old now : Row → Bool) → LeadsRows old now change.gone.keys change.come.keys → ((r : Row) → has rows r ≡ true → now r ≡ false) → LeadsRows old (along now rows) changed.gone.keys changed.come.keys)
      → TurnedMemories m n look left right change changed
  rows_arrive rows come are more outside arrive = record {
    keeps = keeps;
    leads = λ old before. leads_alike old (along (made m look) rows) (made n look) changed.gone.keys changed.come.keys (arrive old (made m look) before (λ r e. outside r (sym (are r) ∙ e)))
        (λ r. ap (λ b. made m look r || b) (are r) ∙ sym (more r) ∙ sym (made_after m n look left right keeps r));
  }

-- ---- one row or one candidate that goes or comes

module _ {S : Type 0} (m n : Memories S) (look : Look) (row : Row) (change changed : Change) (rows : List Row) where
  pub row_goes : KeepsMemories m n look (λ r. has_left m look r && not (eq_by_cmp row_cmp row r)) (has_right m look) → has_left m look row ≡ true
      → ((r : Row) → has rows r ≡ joined (joins n.pattern look) (eq_by_cmp row_cmp row) (has_right n look) r)
      → ((old now : Row → Bool) → LeadsRows old now change.gone.keys change.come.keys → ((r : Row) → has rows r ≡ true → now r ≡ true) → LeadsRows old (without now rows) changed.gone.keys changed.come.keys)
      → TurnedMemories m n look (λ r. has_left m look r && not (eq_by_cmp row_cmp row r)) (has_right m look) change changed
  row_goes keeps there are leave =
      rows_go m n look _ (has_right m look) keeps change changed rows (joined (joins m.pattern look) (eq_by_cmp row_cmp row) (has_right m look))
      (λ r. are r ∙ ap (λ (p : Pattern). joined (joins p look) (eq_by_cmp row_cmp row) (has_right n look) r) keeps.pattern
      ∙ joined_alike (joins m.pattern look) (eq_by_cmp row_cmp row) (eq_by_cmp row_cmp row) (has_right n look) (has_right m look) (λ l. refl) keeps.names r)
      (row_less (joins m.pattern look) (has_left m look) (has_right m look) row) (row_inside (joins m.pattern look) (has_left m look) (has_right m look) row there) leave

  pub row_arrives : KeepsMemories m n look (λ r. has_left m look r || eq_by_cmp row_cmp row r) (has_right m look) → has_left m look row ≡ false
      → ((r : Row) → has rows r ≡ joined (joins m.pattern look) (eq_by_cmp row_cmp row) (has_right m look) r)
      → ((old now : Row → Bool) → LeadsRows old now change.gone.keys change.come.keys → ((r : Row) → has rows r ≡ true → now r ≡ false) → LeadsRows old (along now rows) changed.gone.keys changed.come.keys)
      → TurnedMemories m n look (λ r. has_left m look r || eq_by_cmp row_cmp row r) (has_right m look) change changed
  row_arrives keeps new are arrive =
      rows_arrive m n look _ (has_right m look) keeps change changed rows (joined (joins m.pattern look) (eq_by_cmp row_cmp row) (has_right m look)) are
      (row_more (joins m.pattern look) (has_left m look) (has_right m look) row) (row_outside (joins m.pattern look) (has_left m look) (has_right m look) row new) arrive

module _ {S : Type 0} (m n : Memories S) (look : Look) (row : Row) (change : Change) where
  pub no_row_goes : KeepsMemories m n look (λ r. has_left m look r && not (eq_by_cmp row_cmp row r)) (has_right m look) → has_left m look row ≡ false
      → TurnedMemories m n look (λ r. has_left m look r && not (eq_by_cmp row_cmp row r)) (has_right m look) change change
  no_row_goes keeps absent = unmoved m n look _ (has_right m look) keeps change change (row_absent (has_left m look) row absent) (λ c. refl)

  pub no_row_arrives : KeepsMemories m n look (λ r. has_left m look r || eq_by_cmp row_cmp row r) (has_right m look) → has_left m look row ≡ true
      → TurnedMemories m n look (λ r. has_left m look r || eq_by_cmp row_cmp row r) (has_right m look) change change
  no_row_arrives keeps there = unmoved m n look _ (has_right m look) keeps change change (λ l. sym (row_present (has_left m look) row there l)) (λ c. refl)

module _ {S : Type 0} (m n : Memories S) (look : Look) (who : Named) (change changed : Change) (rows : List Row) where
  pub name_goes : KeepsMemories m n look (has_left m look) (λ c. has_right m look c && not (eq_by_cmp name_cmp who c)) → has_right m look who ≡ true
      → ((r : Row) → has rows r ≡ joined (joins n.pattern look) (has_left n look) (eq_by_cmp name_cmp who) r)
      → ((old now : Row → Bool) → LeadsRows old now change.gone.keys change.come.keys → ((r : Row) → has rows r ≡ true → now r ≡ true) → LeadsRows old (without now rows) changed.gone.keys changed.come.keys)
      → TurnedMemories m n look (has_left m look) (λ c. has_right m look c && not (eq_by_cmp name_cmp who c)) change changed
  name_goes keeps there are leave =
      rows_go m n look (has_left m look) _ keeps change changed rows (joined (joins m.pattern look) (has_left m look) (eq_by_cmp name_cmp who))
      (λ r. are r ∙ ap (λ (p : Pattern). joined (joins p look) (has_left n look) (eq_by_cmp name_cmp who) r) keeps.pattern
      ∙ joined_alike (joins m.pattern look) (has_left n look) (has_left m look) (eq_by_cmp name_cmp who) (eq_by_cmp name_cmp who) keeps.rows (λ c. refl) r)
      (name_less (joins m.pattern look) (has_left m look) (has_right m look) who) (name_inside (joins m.pattern look) (has_left m look) (has_right m look) who there) leave

  pub name_arrives : KeepsMemories m n look (has_left m look) (λ c. has_right m look c || eq_by_cmp name_cmp who c) → has_right m look who ≡ false
      → ((r : Row) → has rows r ≡ joined (joins n.pattern look) (has_left n look) (eq_by_cmp name_cmp who) r)
      → ((old now : Row → Bool) → LeadsRows old now change.gone.keys change.come.keys → ((r : Row) → has rows r ≡ true → now r ≡ false) → LeadsRows old (along now rows) changed.gone.keys changed.come.keys)
      → TurnedMemories m n look (has_left m look) (λ c. has_right m look c || eq_by_cmp name_cmp who c) change changed
  name_arrives keeps new are arrive =
      rows_arrive m n look (has_left m look) _ keeps change changed rows (joined (joins m.pattern look) (has_left m look) (eq_by_cmp name_cmp who))
      (λ r. are r ∙ ap (λ (p : Pattern). joined (joins p look) (has_left n look) (eq_by_cmp name_cmp who) r) keeps.pattern
      ∙ joined_alike (joins m.pattern look) (has_left n look) (has_left m look) (eq_by_cmp name_cmp who) (eq_by_cmp name_cmp who) keeps.rows (λ c. refl) r)
      (name_more (joins m.pattern look) (has_left m look) (has_right m look) who) (name_outside (joins m.pattern look) (has_left m look) (has_right m look) who new) arrive

module _ {S : Type 0} (m n : Memories S) (look : Look) (who : Named) (change : Change) where
  pub no_name_goes : KeepsMemories m n look (has_left m look) (λ c. has_right m look c && not (eq_by_cmp name_cmp who c)) → has_right m look who ≡ false
      → TurnedMemories m n look (has_left m look) (λ c. has_right m look c && not (eq_by_cmp name_cmp who c)) change change
  no_name_goes keeps absent = unmoved m n look (has_left m look) _ keeps change change (λ l. refl) (name_absent (has_right m look) who absent)

  pub no_name_arrives : KeepsMemories m n look (has_left m look) (λ c. has_right m look c || eq_by_cmp name_cmp who c) → has_right m look who ≡ true
      → TurnedMemories m n look (has_left m look) (λ c. has_right m look c || eq_by_cmp name_cmp who c) change change
  no_name_arrives keeps there = unmoved m n look (has_left m look) _ keeps change change (λ l. refl) (λ c. sym (name_present (has_right m look) who there c))

-- ---- one turn after the others
pub turned_then : {S : Type 0} (first next last : Memories S) (look : Look) (left left_next left_now : Row → Bool) (right right_next right_now : Named → Bool) (change change_next change_now : Change)
    → TurnedMemories first next look left right change change_next → TurnedMemories next last look left_next right_next change_next change_now
    → ((r : Row) → left_next r ≡ left_now r) → ((c : Named) → right_next c ≡ right_now c) → TurnedMemories first last look left_now right_now change change_now
turned_then first next last look left left_next left_now right right_next right_now change change_next change_now k m h j = record {
  keeps = keeps_then first next last look left left_next left_now right right_next right_now k.keeps m.keeps h j;
  leads = λ old before. m.leads old (k.leads old before);
}

-- ---- candidates that are handed, one after another

module _ {S : Type 0} (m : Memories S) (look : Look) where
  -- the rows that are made of the left rows and a set of candidates
  abbrev makes : (Named → Bool) → Row → Bool
  makes set = joined (joins m.pattern look) (has_left m look) set

  module _ (who : Named) (set : Named → Bool) (old : Row → Bool) (change changed : Change) (rows : List Row) (are : (r : Row) → has rows r ≡ makes (eq_by_cmp name_cmp who) r)
      (leads : LeadsRows old (makes set) change.gone.keys change.come.keys) where
    pub handed_goes : (comes : Bool) → comes ≡ false → set who ≡ not comes
        → ((old now : Row → Bool) → LeadsRows old now change.gone.keys change.come.keys → ((r : Row) → has rows r ≡ true → now r ≡ true) → LeadsRows old (without now rows) changed.gone.keys changed.come.keys)
        → LeadsRows old (makes (moved comes (eq_by_cmp name_cmp who) set)) changed.gone.keys changed.come.keys
    handed_goes true e there leave = let f : true ≡ false = e in cc
    handed_goes false e there leave =
        leads_alike old (without (makes set) rows) (makes (moved false (eq_by_cmp name_cmp who) set)) changed.gone.keys changed.come.keys
        (leave old (makes set) leads (λ r e. name_inside (joins m.pattern look) (has_left m look) set who there r (sym (are r) ∙ e)))
        (λ r. ap (λ b. makes set r && not b) (are r) ∙ sym (name_less (joins m.pattern look) (has_left m look) set who r))

    pub handed_comes : (comes : Bool) → comes ≡ true → set who ≡ not comes
        → ((old now : Row → Bool) → LeadsRows old now change.gone.keys change.come.keys → ((r : Row) → has rows r ≡ true → now r ≡ false) → LeadsRows old (along now rows) changed.gone.keys changed.come.keys)
        → LeadsRows old (makes (moved comes (eq_by_cmp name_cmp who) set)) changed.gone.keys changed.come.keys
    handed_comes false e absent arrive = let f : false ≡ true = e in cc
    handed_comes true e absent arrive =
        leads_alike old (along (makes set) rows) (makes (moved true (eq_by_cmp name_cmp who) set)) changed.gone.keys changed.come.keys
        (arrive old (makes set) leads (λ r e. name_outside (joins m.pattern look) (has_left m look) set who absent r (sym (are r) ∙ e)))
        (λ r. ap (λ b. makes set r || b) (are r) ∙ sym (name_more (joins m.pattern look) (has_left m look) set who r))

  made_alike : (set other : Named → Bool) → ((c : Named) → set c ≡ other c) → (r : Row) → makes set r ≡ makes other r
  made_alike set other h = joined_alike (joins m.pattern look) (has_left m look) (has_left m look) set other (λ l. refl) h

  module _ (comes : Bool) (names : List Named) where
    pub none_turned : (change : Change) → NamesTurned m look comes names [] change change
    none_turned change set old may before =
        leads_alike old (makes set) (makes (moved comes (has_name []) set)) change.gone.keys change.come.keys before (made_alike set (moved comes (has_name []) set) (λ c. sym (moved_none comes set c)))

    pub one_turned : (i : ℕ) → i < length names → (change next changed : Change) → NamesTurned m look comes names (take i names) change next
        → ((set : Named → Bool) (old : Row → Bool) → set (get_or names i any_name) ≡ not comes → LeadsRows old (makes set) next.gone.keys next.come.keys
        → LeadsRows old (makes (moved comes (eq_by_cmp name_cmp (get_or names i any_name)) set)) changed.gone.keys changed.come.keys)
        → NamesTurned m look comes names (take (i + 1) names) change changed
    one_turned i below change next changed so_far turn set old may before =
        let these = moved comes (has_name (take i names)) set in
        leads_alike old (makes (moved comes (eq_by_cmp name_cmp (get_or names i any_name)) these)) (makes (moved comes (has_name (take (i + 1) names)) set)) changed.gone.keys changed.come.keys
        (turn these old (next_may names set i below comes may) (so_far set old may before)) (made_alike _ _ (moved_more names set i below comes))

    pub all_turned : (i : ℕ) → length names ≤ i → (change changed : Change) → NamesTurned m look comes names (take i names) change changed → NamesTurned m look comes names names change changed
    all_turned i past change changed = subst (λ (some : List Named). NamesTurned m look comes names some change changed) (take_all i names past)

  module _ (was : Candidates) (gone : List Named) where
    -- the rows of what was there before, and of what is there
    pub handed_lead : (come : List Named) → AreHanded m look (has_right (sharing m was) look) (has_right m look) gone come → (old : Row → Bool) (change next changed : Change)
        → NamesTurned m look false gone gone change next → NamesTurned m look true come come next changed
        → LeadsRows old (made (sharing m was) look) change.gone.keys change.come.keys → LeadsRows old (made m look) changed.gone.keys changed.come.keys
    handed_lead come handed old change next changed go arrive before =
        let right = has_right (sharing m was) look in
        leads_alike old (makes (moved true (has_name come) (moved false (has_name gone) right))) (made m look) changed.gone.keys changed.come.keys
        (arrive (moved false (has_name gone) right) old (may_come m look right (has_right m look) gone come handed) (go right old (may_go m look right (has_right m look) gone come handed) before))
        (handed_joined m look right (has_right m look) gone come handed)

    pub handed_leave : AreHanded m look (has_right (sharing m was) look) (has_right m look) gone [] → (old : Row → Bool) (change changed : Change)
        → NamesTurned m look false gone gone change changed → LeadsRows old (made (sharing m was) look) change.gone.keys change.come.keys → LeadsRows old (made m look) changed.gone.keys changed.come.keys
    handed_leave handed old change changed go = handed_lead [] handed old change changed changed go (none_turned true [] changed)
