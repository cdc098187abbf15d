-- What a change of the rows of all members, and one of the candidates of one, are for each member.
use Rattle.fan_join.proofs.Common.{◌≡◌, ◌∙◌, sym, ap, refl, ℕ, ◌<◌, List, [], ◌∷◌, ◌++◌, length, subst, Bool, true, false, not, ◌&&◌, ◌||◌, Some, None}
use Rattle.fan_join.proofs.Common.{slice_get, ◌⊎◌, inl, inr, set, is_some, Value, same_value, at, Delta, Named, Row, has, row_cmp, IsDifference, Look, row_key}
use Rattle.fan_join.proofs.Common.{Candidates, LeftRows, has_name, has_left, has_right, made, KeepsMemories, beside, LooksWhereKept, keeps_then, RowTurn}
use Rattle.fan_join.proofs.Common.{AreRowsInTurn, IsRowsDifference, AreNamesTurned, AreDifferences, JoinIndex, get, nat_cmp, eq_by_cmp, name_cmp, Option}
use Rattle.fan_join.proofs.Common.{false≢true, candidate_value, value_by, joins, has_candidate, FanJoin, nothing, IsReached, has_place, is_member_under}
use Rattle.fan_join.{proofs.Common.{AreAmong, AreKept, value_beside, IsMemberTurned}, specs.{Reaching.{AreAsked, IsDifferencePut}, Fans.{IsEmpty}}}
use Rattle.fan_join.{specs.{Fans.{AreRowsTurned, given_delta, AreBeside, IsMemberAt}, Laws.{EmptyLaw, MemberStepLaw, MemberForgetLaw}}, proofs.Halves.{still}}
use Rattle.{fan_join.{proofs.Places.{last_or_before}, specs.Doors.{shared_key}}, std.proofs.Math.{Bool.{or-false}, ListN.{length-set}}}
use Rattle.std.{proofs.lemmas.Option.{slice_get_within}, specs.{Option.{option_map}, BTreeMap.{is_at, BTreeMap}, Map.{lookup}}}
use Rattle.{join_memory.specs.{Inputs.{row_naming}, Doors.{keeps_time}}, join_tests.specs.{declared.row_key.RowKey.{RowKey}, RowKeys.{row_time}}}
use Rattle.{join_tests.{specs.TimeKeys.{time_key}, proofs.Meeting.{values_meet}}, fx_base.proofs.{Orders.{eq_by_nat_cmp-true}, Sequences.{get-set_other}}}
use Rattle.fx_base.proofs.Sequences.{get-set_same, one_value}

-- ---- members that are not asked

timeless : {A B : Type 0} (f : A → B) (o : Option A) → is_some (option_map f o) ≡ false → o ≡ None
timeless f None e = refl
timeless f (Some a) e = absurd (let no : true ≡ false = e in cc)

module _ (fan : FanJoin) (look : Look) (turn : RowTurn) (places : List ℕ) (asked : AreAsked fan look turn places) (reached : IsReached fan) (k : ℕ) (c : Candidates) (member : IsMemberAt fan k c) (b : LooksWhereKept fan.left c)
    (out : has_place places k ≡ false) where
  untimed : is_some (shared_key fan).time ≡ false
  untimed = by (is_some (shared_key fan).time) refl
    where
      by : (t : Bool) → is_some (shared_key fan).time ≡ t → t ≡ false
      by true e = absurd (false≢true (sym out ∙ asked.all e k (slice_get_within fan.members.items k c member)))
      by false e = refl

  -- no candidate joins a row whose value does not reach the member
  apart : (rows : List Row) → AreAmong fan.left.key fan.reached look rows places → (l : Row) (who : Named) → has rows l ≡ true → has_candidate c look who ≡ true → joins c.pattern look l who ≡ false
  apart rows among l who there kept = by (joins c.pattern look l who) refl
    where
      by : (j : Bool) → joins c.pattern look l who ≡ j → j ≡ false
      by false e = refl
      by true e =
          let same : value_by fan.left.key look l ≡ candidate_value c.pattern look who =
          value_beside fan.left c look l b ∙ values_meet c.pattern look l who e (timeless row_time (time_key c.pattern) (ap (λ (key : RowKey). is_some key.time) b ∙ untimed)) in
          absurd (false≢true (sym out ∙ among l k there (ap (λ v. is_member_under fan.reached v k) same ∙ reached untimed k c (candidate_value c.pattern look who) who member kept)))

-- ---- rows of all members

module _ (old : FanJoin) (between after : LeftRows) (look : Look) (gone come : List Row) (turn : RowTurn) (places : List ℕ) (deltas : BTreeMap ℕ Delta) (is : AreRowsInTurn old.left between after look gone come turn)
    (asked : AreAsked (record old { left = after }) look turn places) (are : AreDifferences turn look old.members.items places deltas) (all : AreBeside old) (reached : IsReached old) where
  reached_after : IsReached (record old { left = after })
  reached_after untimed_now = reached (ap (λ (key : RowKey). is_some key.time) (sym is.key_now) ∙ untimed_now)

  unasked : (k : ℕ) (c : Candidates) → IsMemberAt old k c → get nat_cmp deltas k ≡ None → (b : Bool) → has_place places k ≡ b → IsDifference (made (beside old.left c) look) (made (beside after c) look) nothing
  unasked k c e none true here = are.unkept k c e here none old.left between after gone come is (all k c e)
  unasked k c e none false out =
      let then = apart (record old { left = after }) look turn places asked reached_after k c e (all k c e ∙ sym is.key_now) out in
      let untimed_now = untimed (record old { left = after }) look turn places asked reached_after k c e (all k c e ∙ sym is.key_now) out in
      still old.left between after look gone come turn is c (all k c e) (then turn.went.items (asked.went untimed_now)) (then turn.came.items (asked.came untimed_now))

  differs : (k : ℕ) (c : Candidates) → IsMemberAt old k c → (o : Option Delta) → get nat_cmp deltas k ≡ o → IsDifference (made (beside old.left c) look) (made (beside after c) look) (given_delta o)
  differs k c e (Some delta) at = are.kept.each k c delta e at old.left between after gone come is (all k c e)
  differs k c e None at = unasked k c e at (has_place places k) refl

  pub all_turned : AreRowsTurned old (record old { left = after }) look gone come deltas
  all_turned = record {
    within = are.kept.within;
    kept = λ k c e.
        let b = all k c e in
        let first = is.leaves c b in
        keeps_then (beside old.left c) (beside between c) (beside after c) look _ _ _ _ _ _ first (is.comes c (b ∙ sym is.key))
        (λ r. ap (λ h. h || has come r) (first.rows r)) (λ who. refl);
    difference = λ k c e. differs k c e (get nat_cmp deltas k) refl;
    reached = λ was untimed_now. was (ap (λ (key : RowKey). is_some key.time) (sym is.key_now) ∙ untimed_now);
  }

-- ---- members that are asked

pub none_kept : (turn : RowTurn) (look : Look) (members : List Candidates) (deltas : BTreeMap ℕ Delta) → deltas.entries ≡ [] → AreKept turn look members deltas
none_kept turn look members deltas empty = record {
  within = λ k d e. absurd (none_there k d e);
  each = λ k c d m e. absurd (none_there k d e);
}
  where
    none_there : (k : ℕ) (d : Delta) → get nat_cmp deltas k ≡ Some d → ⊥
    none_there k d e = let no : None ≡ Some d = sym (ap (lookup (is_at (nat_cmp k))) empty) ∙ e in cc

pub kept_more : (turn : RowTurn) (look : Look) (members : List Candidates) (place : ℕ) (c : Candidates) (delta : Delta) (old new : BTreeMap ℕ Delta) → slice_get members place ≡ Some c → IsRowsDifference turn look c delta
    → IsDifferencePut place delta old new → AreKept turn look members old → AreKept turn look members new
kept_more turn look members place c delta old new at one put kept = record {
  within = λ k d e. elim (put.each k d e) [
    | inl before ↦ kept.within k d before
    | inr last ↦ subst (λ n. n < length members) (sym last.0) (slice_get_within members place c at)
  ];
  each = λ k a d m e. elim (put.each k d e) [
    | inl before ↦ kept.each k a d m before
    | inr last ↦
        let a_is : c ≡ a = one_value (slice_get members place) c a at (ap (slice_get members) (sym last.0) ∙ m) in
        subst (λ (d : Delta). IsRowsDifference turn look a d) last.1 (subst (λ (a : Candidates). IsRowsDifference turn look a delta) a_is one)
  ];
}

pub unkept_here : (turn : RowTurn) (look : Look) (members : List Candidates) (place : ℕ) (c : Candidates) (delta : Delta) (old new : BTreeMap ℕ Delta) → slice_get members place ≡ Some c → IsRowsDifference turn look c delta
    → IsDifferencePut place delta old new → (a : Candidates) → slice_get members place ≡ Some a → get nat_cmp new place ≡ None → IsRowsDifference turn look a nothing
unkept_here turn look members place c delta old new at one put a m none =
    subst (λ (d : Delta). IsRowsDifference turn look a d) (put.here none) (subst (λ (a : Candidates). IsRowsDifference turn look a delta) (one_value (slice_get members place) c a at m) one)

-- one place less of those to come
pub unkept_more : (turn : RowTurn) (look : Look) (members : List Candidates) (places rest next : List ℕ) (place : ℕ) (old new : BTreeMap ℕ Delta) → rest ≡ place ∷ next
    → ((k : ℕ) (c : Candidates) → slice_get members k ≡ Some c → has_place places k ≡ true → has_place rest k ≡ false → get nat_cmp old k ≡ None → IsRowsDifference turn look c nothing)
    → ((k : ℕ) → get nat_cmp new k ≡ None → get nat_cmp old k ≡ None)
    → ((c : Candidates) → slice_get members place ≡ Some c → get nat_cmp new place ≡ None → IsRowsDifference turn look c nothing)
    → (k : ℕ) (c : Candidates) → slice_get members k ≡ Some c → has_place places k ≡ true → has_place next k ≡ false → get nat_cmp new k ≡ None → IsRowsDifference turn look c nothing
unkept_more turn look members places rest next place old new is so_far stays here k c m asked later none = by (eq_by_cmp nat_cmp k place) refl
  where
    by : (b : Bool) → eq_by_cmp nat_cmp k place ≡ b → IsRowsDifference turn look c nothing
    by true e =
        let same = eq_by_nat_cmp-true k place e in
        here c (ap (slice_get members) (sym same) ∙ m) (ap (λ n. get nat_cmp new n) (sym same) ∙ none)
    by false e = so_far k c m asked (ap (λ list. has_place list k) is ∙ ap (λ b. b || has_place next k) e ∙ later) (stays k none)

-- ---- candidates of one member

pub member_turned : (old : FanJoin) (look : Look) (place : ℕ) (gone come : List Named) (so_far delta : Delta) (c d : Candidates) → slice_get old.members.items place ≡ Some c
    → AreNamesTurned old.left look gone come so_far c d delta → (new : FanJoin) → new.left ≡ old.left → new.members.items ≡ set old.members.items place d
    → (IsReached old → IsReached new) → IsMemberTurned old new look place gone come so_far delta
member_turned old look place gone come so_far delta c d at turned new left is reached = record {
  left = left;
  many = ap length is ∙ length-set old.members.items place d;
  others = λ k other. ap (λ (members : List Candidates). slice_get members k) is ∙ get-set_other old.members.items place k d other;
  member = λ a b e f.
      let a_is : c ≡ a = one_value (slice_get old.members.items place) c a at e in
      let b_is : d ≡ b = one_value (slice_get (set old.members.items place d) place) d b (get-set_same old.members.items place d c at) (ap (λ (members : List Candidates). slice_get members place) (sym is) ∙ f) in
      subst (λ (b : Candidates). AreNamesTurned old.left look gone come so_far a b delta) b_is (subst (λ (a : Candidates). AreNamesTurned old.left look gone come so_far a d delta) a_is turned);
  reached = reached;
}

-- ---- one after the other

pub member_step_law : MemberStepLaw
member_step_law old new look left right names_gone names_come deltas k c d so_far delta rows member at gone_are come_are names =
    let first = rows.kept k c member in
    let both : KeepsMemories (beside old.left c) (beside new.left d) look (λ r. (has_left (beside old.left c) look r && not (has left.gone r)) || has left.come r)
    (λ who. (has_right (beside old.left c) look who && not (has right.gone (row_naming who))) || has right.come (row_naming who)) =
    keeps_then (beside old.left c) (beside new.left c) (beside new.left d) look _ _ _ _ _ _ first names.kept first.rows
    (λ who. ap (λ b. (has_right (beside old.left c) look who && not b) || has_name names_come who) (gone_are who) ∙ ap (λ b. (has_right (beside old.left c) look who && not (has right.gone (row_naming who))) || b) (come_are who)) in (
      both,
      names.difference (made (beside old.left c) look)
          (subst (λ (d : Delta). IsDifference (made (beside old.left c) look) (made (beside new.left c) look) d) (sym at) (rows.difference k c member)),
    )

pub member_forget_law : MemberForgetLaw
member_forget_law old new look rows names deltas k c d so_far delta turned member at dropped =
    let first = turned.kept k c member in
    let both : KeepsMemories (beside old.left c) (beside new.left d) look (λ row. has_left (beside old.left c) look row && not (has rows row)) (λ who. has_right (beside old.left c) look who && not (has_name names who)) =
    keeps_then (beside old.left c) (beside new.left c) (beside new.left d) look _ _ _ _ _ _ first dropped.kept (λ r. first.rows r ∙ or-false _) (λ who. or-false _) in
    let difference =
    dropped.difference (made (beside old.left c) look) (subst (λ (d : Delta). IsDifference (made (beside old.left c) look) (made (beside new.left c) look) d) (sym at) (turned.difference k c member)) in
    (both, difference.leads.goes, difference.gone_in_order)

-- ---- members that are put

module _ (old new : FanJoin) (c : Candidates) (more : new.members.items ≡ old.members.items ++ c ∷ []) (left : new.left ≡ old.left) (nothing_kept : (value : Value) (who : Named) → at same_value name_cmp c.names value who ≡ None) where
  put_at : (k : ℕ) (d : Candidates) → IsMemberAt new k d → IsMemberAt old k d ⊎ (d ≡ c)
  put_at k d e = last_or_before old.members.items c k d (ap (λ (members : List Candidates). slice_get members k) (sym more) ∙ e)

  pub put_beside : LooksWhereKept old.left c → AreBeside old → AreBeside new
  put_beside b all k d e = elim (put_at k d e) [
    | inl there ↦ all k d there ∙ ap (λ (rows : LeftRows). rows.key) (sym left)
    | inr is ↦ ap (λ (member : Candidates). row_key member.pattern) is ∙ b ∙ ap (λ (rows : LeftRows). rows.key) (sym left)
  ]

  pub put_empty : IsEmpty old → IsEmpty new
  put_empty empty = record {
    rows = λ value row. ap (λ (rows : LeftRows). at same_value row_cmp rows.rows value row) left ∙ empty.rows value row;
    names = λ k d e value who. elim (put_at k d e) [
      | inl there ↦ empty.names k d there value who
      | inr is ↦ ap (λ (member : Candidates). at same_value name_cmp member.names value who) is ∙ nothing_kept value who
    ];
  }

  pub put_reached : new.reached ≡ old.reached → IsReached old → IsReached new
  put_reached same reached untimed_now k d value who e kept = elim (put_at k d e) [
    | inl there ↦ ap (λ (r : JoinIndex Value ℕ (Unit {0})). is_member_under r value k) same ∙ reached (ap keeps_time (sym left) ∙ untimed_now) k d value who there kept
    | inr is ↦ absurd (false≢true (sym (ap (λ (member : Candidates). is_some (at same_value name_cmp member.names value who)) is ∙ ap is_some (nothing_kept value who)) ∙ kept))
  ]

-- ---- members that keep nothing

pub empty_law : EmptyLaw
empty_law fan k c empty member look forgotten = record {
  rows = λ row. ap is_some (empty.rows _ row);
  names = λ who. ap is_some (empty.names k c member _ who);
  agrees = record {
    rows = λ value row e. absurd (false≢true (sym (ap is_some (empty.rows value row)) ∙ e));
    names = λ value who e. absurd (false≢true (sym (ap is_some (empty.names k c member value who)) ∙ e));
  };
}
