-- What a turn of candidates that are kept once is for a node which takes them in place of its own.
use Rattle.candidate_source.proofs.Common.{◌∙◌, ap, sym, refl, subst, ◌≡◌, ℕ, List, Bool, true, false, not, ◌&&◌, ◌||◌, false≢true, is_some, Value, same_value}
use Rattle.candidate_source.proofs.Common.{Delta, Named, Row, name_cmp, has, Pattern, at, JoinIndex, Look, joins, rows_sought, row_value, Candidates, Memories}
use Rattle.candidate_source.proofs.Common.{has_candidate, row_naming, has_name, has_left, has_right, sharing, KeepsAlike, KeepsNames, NamesAgree, TakesOver}
use Rattle.candidate_source.proofs.Common.{ForgoesOld, BTreeMap, Handed, Source, gone_at, come_at, is_under_one, IsReached, concerns, AreOnce, HasTurned}
use Rattle.candidate_source.{proofs.Common.{HaveLeft, TurnLaw, ForgetLaw}, specs.{Handed.{IsUnhanded}, Reached.{FindsLeft}, Sources.{HasTurnedAt, HaveLeftAt}}}
use Rattle.{candidate_source.{specs.Sources.{TurnAtLaw, ForgetAtLaw}, proofs.Places.{under_among}}, fx_base.proofs.Tests.{and_first}}
use Rattle.join_tests.{proofs.{Meeting.{row_sought}, Naming.{kept_alike, sought_alike}}, specs.NameKeys.{name_key}}
use Rattle.rule_model.specs.{declared.program.Program.{Program}, Snapshots.{Snapshot}}

-- ---- what a difference that is a true one tells

pub apart : (old new gone come : Bool) → gone ≡ (old && not new) → come ≡ (new && not old) → gone ≡ true → come ≡ false
apart true true gone come g c e = c
apart true false gone come g c e = c
apart false true gone come g c e = absurd (false≢true (sym g ∙ e))
apart false false gone come g c e = c

-- a candidate that went, of which it is known whether it was there, and that it did not come
is_gone : (old gone come c : Bool) → (gone ≡ true → come ≡ false) → (gone && (old && c)) ≡ true → (old && not ((old && not gone) || come)) ≡ true
is_gone true true come c h e = ap not (h refl)
is_gone true false come c h e = absurd (false≢true e)
is_gone false true come c h e = absurd (false≢true e)
is_gone false false come c h e = absurd (false≢true e)

is_come : (old gone come c : Bool) → (come && (not old && c)) ≡ true → (((old && not gone) || come) && not old) ≡ true
is_come true gone true c e = absurd (false≢true e)
is_come true gone false c e = absurd (false≢true e)
is_come false gone true c e = refl
is_come false gone false c e = absurd (false≢true e)

-- one that went and is not handed concerns nobody here
not_gone : (old gone come c : Bool) → (old && not ((old && not gone) || come)) ≡ true → (gone && (old && c)) ≡ false → c ≡ false
not_gone true true come c e f = f
not_gone true false come c e f = absurd (false≢true e)
not_gone false gone come c e f = absurd (false≢true e)

not_come : (old gone come c : Bool) → (((old && not gone) || come) && not old) ≡ true → (come && (not old && c)) ≡ false → c ≡ false
not_come true true true c e f = absurd (false≢true e)
not_come true true false c e f = absurd (false≢true e)
not_come true false come c e f = absurd (false≢true e)
not_come false gone true c e f = f
not_come false gone false c e f = absurd (false≢true e)

is_old : (old named c : Bool) → (named && (old && c)) ≡ true → (old && named) ≡ true
is_old true true c e = refl
is_old true false c e = absurd (false≢true e)
is_old false true c e = absurd (false≢true e)
is_old false false c e = absurd (false≢true e)

not_old : (old named c : Bool) → (old && named) ≡ true → (named && (old && c)) ≡ false → c ≡ false
not_old true true c e f = f
not_old true false c e f = absurd (false≢true e)
not_old false named c e f = absurd (false≢true e)

-- ---- a node

module _ {S : Type 0} (m : Memories S) (look : Look) where
  -- it has the shared candidates, as they are kept
  pub there : (c : Candidates) → name_key m.pattern ≡ name_key c.pattern → (who : Named) → has_right (sharing m c) look who ≡ has_candidate c look who
  there c same who = ap (λ (value : Value). is_some (at same_value name_cmp c.names value who)) (kept_alike m.pattern c.pattern look who same)

  pub agree_alike : (p q : Pattern) (names : JoinIndex Value Named (Unit {0})) → name_key p ≡ name_key q → NamesAgree p names look → NamesAgree q names look
  agree_alike p q names same agree value who kept = subst (λ v. same_value v value ≡ true) (kept_alike p q look who same) (agree value who kept)

  module _ (s : Source) (k : ℕ) (same : KeepsAlike m s.own) (reached : FindsLeft s.reached k m look) where
    -- what concerns it not joins none of its left rows
    nothing_joined : (who : Named) (row : Row) → concerns s look who k ≡ false → has_left m look row ≡ true → joins m.pattern look row who ≡ false
    nothing_joined who row none left = by (joins m.pattern look row who) refl
      where
        by : (b : Bool) → joins m.pattern look row who ≡ b → joins m.pattern look row who ≡ false
        by false e = e
        by true e =
            absurd (false≢true (sym none ∙ ap (λ (values : List Value). is_under_one s.reached values k) (sym (sought_alike m.pattern s.own.pattern look who same))
            ∙ under_among s.reached k (row_value m.pattern look row) (reached row left) (rows_sought m.pattern look who) (row_sought m.pattern look row who e)))

  module _ (old new : Source) (k : ℕ) (same : KeepsAlike m old.own) (reached : FindsLeft old.reached k m look) (pattern : new.own.pattern ≡ old.own.pattern) where
    same_now : name_key m.pattern ≡ name_key new.own.pattern
    same_now = same ∙ ap name_key (sym pattern)

    agree_now : (NamesAgree old.own.pattern old.own.names look → NamesAgree new.own.pattern new.own.names look) → NamesAgree m.pattern old.own.names look → NamesAgree m.pattern new.own.names look
    agree_now agrees before = agree_alike new.own.pattern m.pattern new.own.names (sym same_now) (agrees (agree_alike m.pattern old.own.pattern old.own.names same before))

    pub taken_over : (right : Delta) (gone come : List Named) → ((who : Named) → has right.gone (row_naming who) ≡ true → has right.come (row_naming who) ≡ false)
        → KeepsNames old.own new.own look (λ who. (has_candidate old.own look who && not (has right.gone (row_naming who))) || has right.come (row_naming who))
        → AreOnce (λ who. has right.gone (row_naming who) && (has_candidate old.own look who && concerns old look who k)) gone
        → AreOnce (λ who. has right.come (row_naming who) && (not (has_candidate old.own look who) && concerns old look who k)) come → TakesOver (sharing m new.own) old.own look right gone come
    taken_over right gone come not_both kept those_gone those_come =
        let was = has_candidate old.own look in
        let left = λ (who : Named). has right.gone (row_naming who) in
        let came = λ (who : Named). has right.come (row_naming who) in
        let is = λ (who : Named). there new.own same_now who ∙ kept.names who in
        let went_is = λ (who : Named). ap (λ b. b && not (has_right (sharing m new.own) look who)) (there old.own same who) ∙ ap (λ b. was who && not b) (is who) in
        let came_is = λ (who : Named). ap (λ b. b && not (has_right (sharing m old.own) look who)) (is who) ∙ ap (λ b. ((was who && not (left who)) || came who) && not b) (there old.own same who) in
        record {
          handed = record {
            once_gone = those_gone.once;
            once_come = those_come.once;
            went = λ who e. went_is who ∙ is_gone (was who) (left who) (came who) (concerns old look who k) (not_both who) (sym (those_gone.each who) ∙ e);
            came = λ who e. came_is who ∙ is_come (was who) (left who) (came who) (concerns old look who k) (sym (those_come.each who) ∙ e);
            left_out_gone = λ who row went out.
                nothing_joined old k same reached who row (not_gone (was who) (left who) (came who) (concerns old look who k) (sym (went_is who) ∙ went) (sym (those_gone.each who) ∙ out));
            left_out_come = λ who row come out.
                nothing_joined old k same reached who row (not_come (was who) (left who) (came who) (concerns old look who k) (sym (came_is who) ∙ come) (sym (those_come.each who) ∙ out));
          };
          names = λ who. is who ∙ ap (λ b. (b && not (left who)) || came who) (sym (there old.own same who));
          gone = λ who e. and_first (left who) (was who && concerns old look who k) (sym (those_gone.each who) ∙ e);
          come = λ who e. and_first (came who) (not (was who) && concerns old look who k) (sym (those_come.each who) ∙ e);
          agrees = agree_now kept.agrees;
        }

    pub forgone : (names gone : List Named) → KeepsNames old.own new.own look (λ who. has_candidate old.own look who && not (has_name names who))
        → AreOnce (λ who. has_name names who && (has_candidate old.own look who && concerns old look who k)) gone → ForgoesOld (sharing m new.own) old.own look (has_name names) gone
    forgone names gone kept those =
        let was = has_candidate old.own look in
        let old_is = λ (who : Named). ap (λ b. b && has_name names who) (there old.own same who) in
        record {
          once = those.once;
          names = λ who. there new.own same_now who ∙ kept.names who ∙ ap (λ b. b && not (has_name names who)) (sym (there old.own same who));
          went = λ who e. old_is who ∙ is_old (was who) (has_name names who) (concerns old look who k) (sym (those.each who) ∙ e);
          left_out = λ who row is out.
              nothing_joined old k same reached who row (not_old (was who) (has_name names who) (concerns old look who k) (sym (old_is who) ∙ is) (sym (those.each who) ∙ out));
          agrees = agree_now kept.agrees;
        }

pub turn_at_law : (S : Type 0) → TurnAtLaw S
turn_at_law S p s next old new look k leaving coming turned m same reached =
    taken_over m look old new k same reached turned.kept.pattern turned.right leaving coming (λ who. apart _ _ _ _ (turned.difference.goes who) (turned.difference.comes who)) turned.kept turned.gone turned.come

pub forget_at_law : (S : Type 0) → ForgetAtLaw S
forget_at_law S old new look names k leaving left m same reached = forgone m look old new k same reached left.kept.pattern names leaving left.kept left.gone

-- what a turn is for the node in a place to which nothing had been handed
pub turned_at : (p : Program) (s next : Snapshot) (old new : Source) (look : Look) (before after : BTreeMap ℕ Handed) → HasTurned p s next old new look before after → (k : ℕ) → IsUnhanded before k
    → HasTurnedAt p s next old new look k (gone_at after k) (come_at after k)
turned_at p s next old new look before after turned k un =
    record { gate = turned.gate; right = turned.right; difference = turned.difference; kept = turned.kept; gone = turned.gone k un; come = turned.come k un }

pub left_at : (old new : Source) (look : Look) (names : List Named) (before after : BTreeMap ℕ Handed) → HaveLeft old new look names before after → (k : ℕ) → IsUnhanded before k
    → HaveLeftAt old new look names k (gone_at after k)
left_at old new look names before after left k un = record { gate = left.gate; kept = left.kept; gone = left.gone k un }

-- found under each value under which it keeps a left row, a node is found under that of each which it has
found : {S : Type 0} (m : Memories S) (look : Look) (s : Source) (k : ℕ) → IsReached s.reached k m → FindsLeft s.reached k m look
found m look s k reached row left = reached (row_value m.pattern look row) row left

pub turn_law : (S : Type 0) → TurnLaw S
unfolding turned_at
turn_law S p s next old new look before after turned k m un same reached =
    turn_at_law S p s next old new look k _ _ (turned_at p s next old new look before after turned k un) m same (found m look old k reached)

pub forget_law : (S : Type 0) → ForgetLaw S
forget_law S old new look names before after left k m un same reached =
    (forget_at_law S old new look names k _ (left_at old new look names before after left k un) m same (found m look old k reached), left.come k ∙ un.1)
