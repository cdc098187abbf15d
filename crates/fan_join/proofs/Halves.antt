-- The parts of a member's step: left rows that go and come, and candidates that go and come.
use Rattle.fan_join.proofs.Common.{◌≡◌, ◌∙◌, sym, ap, refl, List, [], Bool, true, false, not, ◌&&◌, ◌||◌, is_some, Value, same_value, Delta, Named, Row}
use Rattle.fan_join.proofs.Common.{row_cmp, has, LeadsRows, IsDifference, without, along, at, Look, joins, Candidates, LeftRows, joined, has_name, has_left}
use Rattle.fan_join.proofs.Common.{made, KeepsMemories, has_row, has_candidate, beside, LooksWhereKept, NamesLeave, NamesCome, keeps_then, RowTurn}
use Rattle.fan_join.proofs.{Common.{AreRowsInTurn, IsRowsDifference, AreNamesTurned, value_beside}, Sets.{none_joined, rows_less, rows_more, rows_inside}}
use Rattle.{fan_join.{proofs.Sets.{rows_outside, names_less, names_more, names_inside, names_outside}, specs.Fans.{nothing}}, std.proofs.Math.Bool.{or-false}}
use Rattle.row_change.{specs.declared.change.Change.{Change}, proofs.{Alike.{leads_alike}, Placing.{nil_order}}}
use Rattle.join_memory.{specs.declared.memories.Memories.{Memories}, proofs.Keeping.{made_after}}

-- what a call that takes rows, or brings them, does to a change
abbrev pub Leaves : List Row → Change → Change → Type 0
Leaves rows change changed = (old now : Row → Bool) → LeadsRows old now change.gone.keys change.come.keys → ((r : Row) → has rows r ≡ true → now r ≡ true) → LeadsRows old (without now rows) changed.gone.keys changed.come.keys

abbrev pub Arrives : List Row → Change → Change → Type 0
Arrives rows change changed = (old now : Row → Bool) → LeadsRows old now change.gone.keys change.come.keys → ((r : Row) → has rows r ≡ true → now r ≡ false) → LeadsRows old (along now rows) changed.gone.keys changed.come.keys

-- what has changed so far leads on, from the rows that are made of the one to those of the other
abbrev pub LeadsOn : Memories (Unit {0}) → Memories (Unit {0}) → Look → Change → Change → Type 0
LeadsOn m n look change changed = (old : Row → Bool) → LeadsRows old (made m look) change.gone.keys change.come.keys → LeadsRows old (made n look) changed.gone.keys changed.come.keys

module _ (m n : Memories (Unit {0})) (look : Look) (left : Row → Bool) (right : Named → Bool) (keeps : KeepsMemories m n look left right) (change changed : Change) (rows : List Row) (moved : Row → Bool)
    (are : (r : Row) → has rows r ≡ moved r) where
  -- these rows go
  rows_go : ((r : Row) → joined (joins m.pattern look) left right r ≡ (made m look r && not (moved r))) → ((r : Row) → moved r ≡ true → made m look r ≡ true) → Leaves rows change changed
      → LeadsOn m n look change changed
  rows_go less inside leave old before =
      leads_alike old (without (made m look) rows) (made n look) changed.gone.keys changed.come.keys (leave old (made m look) before (λ r e. inside r (sym (are r) ∙ e)))
      (λ r. ap (λ b. made m look r && not b) (are r) ∙ sym (less r) ∙ sym (made_after m n look left right keeps r))

  -- these rows come
  rows_arrive : ((r : Row) → joined (joins m.pattern look) left right r ≡ (made m look r || moved r)) → ((r : Row) → moved r ≡ true → made m look r ≡ false) → Arrives rows change changed
      → LeadsOn m n look change changed
  rows_arrive more outside arrive old before =
      leads_alike old (along (made m look) rows) (made n look) changed.gone.keys changed.come.keys (arrive old (made m look) before (λ r e. outside r (sym (are r) ∙ e)))
      (λ r. ap (λ b. made m look r || b) (are r) ∙ sym (more r) ∙ sym (made_after m n look left right keeps r))

-- a row is found by each member that looks for it where it is kept
pub found_beside : (left : LeftRows) (c : Candidates) (look : Look) → LooksWhereKept left c → (r : Row) → has_row left look r ≡ has_left (beside left c) look r
found_beside left c look is r = ap (λ (v : Value). is_some (at same_value row_cmp left.rows v r)) (value_beside left c look r is)

module _ (before between after : LeftRows) (look : Look) (gone come : List Row) (turn : RowTurn) (is : AreRowsInTurn before between after look gone come turn) (c : Candidates) (change changed : Change) (rows : List Row) where
  rows_went : LooksWhereKept before c → ((r : Row) → has rows r ≡ joined (joins c.pattern look) (has turn.went.items) (has_candidate c look) r) → Leaves rows change changed
      → LeadsOn (beside before c) (beside between c) look change changed
  rows_went b are leave =
      let went : (l : Row) → has turn.went.items l ≡ (has gone l && has_left (beside before c) look l) = λ l. is.went l ∙ ap (λ h. has gone l && h) (found_beside before c look b l) in
      rows_go (beside before c) (beside between c) look _ _ (is.leaves c b) change changed rows (joined (joins c.pattern look) (has turn.went.items) (has_candidate c look)) are
      (rows_less (joins c.pattern look) (has_left (beside before c) look) (has gone) (has turn.went.items) (has_candidate c look) went)
      (rows_inside (joins c.pattern look) (has_left (beside before c) look) (has gone) (has turn.went.items) (has_candidate c look) went) leave

  rows_came : LooksWhereKept between c → ((r : Row) → has rows r ≡ joined (joins c.pattern look) (has turn.came.items) (has_candidate c look) r) → Arrives rows change changed
      → LeadsOn (beside between c) (beside after c) look change changed
  rows_came b are arrive =
      let came : (l : Row) → has turn.came.items l ≡ (has come l && not (has_left (beside between c) look l)) = λ l. is.came l ∙ ap (λ h. has come l && not h) (found_beside between c look b l) in
      rows_arrive (beside between c) (beside after c) look _ _ (is.comes c b) change changed rows (joined (joins c.pattern look) (has turn.came.items) (has_candidate c look)) are
      (rows_more (joins c.pattern look) (has_left (beside between c) look) (has come) (has turn.came.items) (has_candidate c look) came)
      (rows_outside (joins c.pattern look) (has_left (beside between c) look) (has come) (has turn.came.items) (has_candidate c look) came) arrive

module _ (left : LeftRows) (look : Look) (c n : Candidates) (names : List Named) (found : Named → Bool) (change changed : Change) (rows : List Row)
    (are : (r : Row) → has rows r ≡ joined (joins c.pattern look) (has_left (beside left c) look) found r) where
  names_went : NamesLeave c n look names → ((who : Named) → found who ≡ (has_name names who && has_candidate c look who)) → Leaves rows change changed
      → LeadsOn (beside left c) (beside left n) look change changed
  names_went keeps went leave =
      rows_go (beside left c) (beside left n) look _ _ (keeps left) change changed rows (joined (joins c.pattern look) (has_left (beside left c) look) found) are
      (names_less (joins c.pattern look) (has_left (beside left c) look) (has_candidate c look) (has_name names) found went)
      (names_inside (joins c.pattern look) (has_left (beside left c) look) (has_candidate c look) (has_name names) found went) leave

  names_came : NamesCome c n look names → ((who : Named) → found who ≡ (has_name names who && not (has_candidate c look who))) → Arrives rows change changed
      → LeadsOn (beside left c) (beside left n) look change changed
  names_came keeps came arrive =
      rows_arrive (beside left c) (beside left n) look _ _ (keeps left) change changed rows (joined (joins c.pattern look) (has_left (beside left c) look) found) are
      (names_more (joins c.pattern look) (has_left (beside left c) look) (has_candidate c look) (has_name names) found came)
      (names_outside (joins c.pattern look) (has_left (beside left c) look) (has_candidate c look) (has_name names) found came) arrive

-- ---- the rows of a member

-- the rows go and come with left rows
pub rows_turned : (turn : RowTurn) (look : Look) (c : Candidates) (gone_rows come_rows : List Row) (ch0 ch1 ch2 : Change) (delta : Delta)
    → ((r : Row) → has gone_rows r ≡ joined (joins c.pattern look) (has turn.went.items) (has_candidate c look) r)
    → ((r : Row) → has come_rows r ≡ joined (joins c.pattern look) (has turn.came.items) (has_candidate c look) r)
    → ((rows : Row → Bool) → LeadsRows rows rows ch0.gone.keys ch0.come.keys) → Leaves gone_rows ch0 ch1 → Arrives come_rows ch1 ch2
    → ((old now : Row → Bool) → LeadsRows old now ch2.gone.keys ch2.come.keys → IsDifference old now delta)
    → IsRowsDifference turn look c delta
rows_turned turn look c gone_rows come_rows ch0 ch1 ch2 delta went came none leave arrive difference before between after gone come is b =
    let old = made (beside before c) look in
    difference old (made (beside after c) look)
    ((rows_came before between after look gone come turn is c ch1 ch2 come_rows (b ∙ sym is.key) came arrive) old
    ((rows_went before between after look gone come turn is c ch0 ch1 gone_rows b went leave) old (none old)))

-- the rows go and come with candidates
pub names_turn : (left : LeftRows) (look : Look) (c0 c1 c2 : Candidates) (gone come : List Named) (gone_rows come_rows : List Row) (ch0 ch1 ch2 : Change) (so_far delta : Delta)
    → c1.pattern ≡ c0.pattern → c2.pattern ≡ c1.pattern → NamesLeave c0 c1 look gone → NamesCome c1 c2 look come
    → ((r : Row) → has gone_rows r ≡ joined (joins c0.pattern look) (has_left (beside left c0) look) (λ who. has_name gone who && has_candidate c0 look who) r)
    → ((r : Row) → has come_rows r ≡ joined (joins c1.pattern look) (has_left (beside left c1) look) (λ who. has_name come who && not (has_candidate c1 look who)) r)
    → ((old now : Row → Bool) → IsDifference old now so_far → LeadsRows old now ch0.gone.keys ch0.come.keys) → Leaves gone_rows ch0 ch1 → Arrives come_rows ch1 ch2
    → ((old now : Row → Bool) → LeadsRows old now ch2.gone.keys ch2.come.keys → IsDifference old now delta)
    → AreNamesTurned left look gone come so_far c0 c2 delta
names_turn left look c0 c1 c2 gone come gone_rows come_rows ch0 ch1 ch2 so_far delta p1 p2 leave arrive gone_are come_are begun t1 t2 difference = record {
  pattern = p2 ∙ p1;
  kept =
      keeps_then (beside left c0) (beside left c1) (beside left c2) look _ _ _ _ _ _ (leave left) (arrive left) (leave left).rows
      (λ who. ap (λ b. b || has_name come who) ((leave left).names who));
  difference = λ first so.
      difference first (made (beside left c2) look)
      ((names_came left look c1 c2 come _ ch1 ch2 come_rows come_are arrive (λ who. refl) t2) first
      ((names_went left look c0 c1 gone _ ch0 ch1 gone_rows gone_are leave (λ who. refl) t1) first (begun first (made (beside left c0) look) so)));
}

-- ---- what the candidates of a member are kept under

pub under_turned : (a m n x y : Bool) → (m ≡ true → a ≡ true) → n ≡ (m || x) → x ≡ y → n ≡ true → (a || y) ≡ true
under_turned true m n x y h is same e = refl
under_turned false true n x y h is same e = absurd (let f : false ≡ true = h refl in cc)
under_turned false false n x y h is same e = sym same ∙ sym is ∙ e

-- ---- a member of which no candidate joins a row that goes or comes

none_parts : (a b : Bool) → b ≡ a → false ≡ (a && not b)
none_parts true true e = refl
none_parts true false e = absurd (let f : false ≡ true = e in cc)
none_parts false b e = refl

less_nothing : (a : Bool) → (a && not false) ≡ a
less_nothing true = refl
less_nothing false = refl

module _ (before between after : LeftRows) (look : Look) (gone come : List Row) (turn : RowTurn) (is : AreRowsInTurn before between after look gone come turn) (c : Candidates) (b : LooksWhereKept before c)
    (went : (l : Row) (who : Named) → has turn.went.items l ≡ true → has_candidate c look who ≡ true → joins c.pattern look l who ≡ false)
    (came : (l : Row) (who : Named) → has turn.came.items l ≡ true → has_candidate c look who ≡ true → joins c.pattern look l who ≡ false) where
  -- its rows are the same
  still_made : (r : Row) → made (beside after c) look r ≡ made (beside before c) look r
  still_made r =
      let then = b ∙ sym is.key in
      made_after (beside between c) (beside after c) look _ _ (is.comes c then) r
      ∙ rows_more (joins c.pattern look) (has_left (beside between c) look) (has come) (has turn.came.items) (has_candidate c look) (λ l. is.came l ∙ ap (λ h. has come l && not h) (found_beside between c look then l)) r
      ∙ ap (λ x. made (beside between c) look r || x) (none_joined (joins c.pattern look) (has turn.came.items) (has_candidate c look) came r) ∙ or-false _
      ∙ made_after (beside before c) (beside between c) look _ _ (is.leaves c b) r
      ∙ rows_less (joins c.pattern look) (has_left (beside before c) look) (has gone) (has turn.went.items) (has_candidate c look) (λ l. is.went l ∙ ap (λ h. has gone l && h) (found_beside before c look b l)) r
      ∙ ap (λ x. made (beside before c) look r && not x) (none_joined (joins c.pattern look) (has turn.went.items) (has_candidate c look) went r) ∙ less_nothing _

  pub still : IsDifference (made (beside before c) look) (made (beside after c) look) nothing
  still = record {
    gone_in_order = nil_order [] refl;
    come_in_order = nil_order [] refl;
    leads = record {
      goes = λ r. none_parts (made (beside before c) look r) _ (still_made r);
      comes = λ r. none_parts (made (beside after c) look r) _ (sym (still_made r));
    };
  }

-- ---- a change that has come as far as a difference

begun_at : (a b g c : Bool) → g ≡ (a && not b) → c ≡ (b && not a) → ((a && not g) || c) ≡ b
begun_at true true g c e f = ap (λ x. (true && not x) || c) e ∙ ap (λ x. true || x) f
begun_at true false g c e f = ap (λ x. (true && not x) || c) e ∙ f
begun_at false true g c e f = f
begun_at false false g c e f = f

went_from : (a b g : Bool) → g ≡ (a && not b) → g ≡ true → a ≡ true
went_from true b g e h = refl
went_from false b g e h = sym e ∙ h

came_to : (a b g c : Bool) → g ≡ (a && not b) → c ≡ (b && not a) → c ≡ true → (a && not g) ≡ false
came_to true b g c e f h = let x : false ≡ true = sym (not_both b f) ∙ h in cc
  where
    not_both : (b : Bool) → c ≡ (b && false) → c ≡ false
    not_both true f = f
    not_both false f = f
came_to false b g c e f h = refl

pub begun_by : (so_far : Delta) (ch0 ch1 ch2 : Change) → ((rows : Row → Bool) → LeadsRows rows rows ch0.gone.keys ch0.come.keys) → Leaves so_far.gone ch0 ch1 → Arrives so_far.come ch1 ch2
    → (old now : Row → Bool) → IsDifference old now so_far → LeadsRows old now ch2.gone.keys ch2.come.keys
begun_by so_far ch0 ch1 ch2 none leave arrive old now is =
    let goes = is.leads.goes in
    let comes = is.leads.comes in
    leads_alike old (along (without old so_far.gone) so_far.come) now ch2.gone.keys ch2.come.keys
    (arrive old (without old so_far.gone) (leave old old (none old) (λ r e. went_from (old r) (now r) (has so_far.gone r) (goes r) e))
    (λ r e. came_to (old r) (now r) (has so_far.gone r) (has so_far.come r) (goes r) (comes r) e))
    (λ r. begun_at (old r) (now r) (has so_far.gone r) (has so_far.come r) (goes r) (comes r))
