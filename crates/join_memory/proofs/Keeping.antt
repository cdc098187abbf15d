-- What is kept after a change at one row, or at one candidate.
use Rattle.join_memory.proofs.Common.{◌≡◌, ◌∙◌, sym, ap, refl, subst, Bool, true, false, cond, not, ◌&&◌, ◌||◌, Option, Some, None, is_some, then_some, IfSome}
use Rattle.join_memory.proofs.Common.{SeesRows, eq_by_cmp, Value, same_value, Named, Row, row_cmp, name_cmp, Pattern, JoinIndex, at, Look, joins, row_value}
use Rattle.join_memory.proofs.Common.{candidate_value, Memories, joined, has_left, has_right, made, KeepsMemories, same_itself, left_at}
use Rattle.join_memory.{specs.{declared.candidates.Candidates.{Candidates}, Shared.{KeepsNames}}, proofs.Joining.{row_decides, name_decides, joined_alike}}
use Rattle.{std.proofs.lemmas.Bool.{and_parts}, join_tests.specs.declared.sought.Sight.{Sight}}

absorbed : (a b : Bool) → (b ≡ true → a ≡ true) → (a && b) ≡ b
absorbed a true h = ap (λ x. x && true) (h refl)
absorbed true false h = refl
absorbed false false h = refl

module _ {K S : Type 0} (eq : K → K → Bool) (exact : (a b : K) → eq a b ≡ true → a ≡ b) (value : K → Value) (key : K) (found : Value) (old new : Value → K → Option S) (w : Option S)
    (is : found ≡ value key) (rest : (v : Value) (k : K) → new v k ≡ cond (same_value found v && eq key k) w (old v k)) where
  same_found : (k : K) → (same_value found (value k) && eq key k) ≡ eq key k
  same_found k =
      absorbed (same_value found (value k)) (eq key k)
      (λ e. subst (λ v. same_value v (value k) ≡ true) (sym is) (subst (λ k. same_value (value key) (value k) ≡ true) (exact key k e) (same_itself (value key))))

  -- what is found after a change at one key
  pub at_changed : (k : K) → new (value k) k ≡ cond (eq key k) w (old (value k) k)
  at_changed k = rest (value k) k ∙ ap (λ b. cond b w (old (value k) k)) (same_found k)

  stays : (v : Value) (k : K) (b : Bool) → (same_value found v && eq key k) ≡ b → is_some (cond b w (old v k)) ≡ true → (is_some (old v k) ≡ true → same_value (value k) v ≡ true) → same_value (value k) v ≡ true
  stays v k true e kept before =
      let h = and_parts (same_value found v) (eq key k) e in
      subst (λ k. same_value (value k) v ≡ true) (exact key k h.1) (subst (λ j. same_value j v ≡ true) is h.0)
  stays v k false e kept before = before kept

  -- and all stands where it is looked up
  pub agrees_changed : ((v : Value) (k : K) → is_some (old v k) ≡ true → same_value (value k) v ≡ true) → (v : Value) (k : K) → is_some (new v k) ≡ true → same_value (value k) v ≡ true
  agrees_changed before v k kept =
      stays v k (same_value found v && eq key k) refl (subst (λ (o : Option S). is_some o ≡ true) (rest v k) kept) (before v k)

-- what is kept after it is taken, put or exchanged
pub some_taken : {S : Type 0} (b : Bool) (old : Option S) → is_some (cond b None old) ≡ (is_some old && not b)
some_taken true None = refl
some_taken true (Some s) = refl
some_taken false None = refl
some_taken false (Some s) = refl

pub some_put : {S : Type 0} (b : Bool) (w : S) (old : Option S) → is_some (cond b (Some w) old) ≡ (is_some old || b)
some_put true w None = refl
some_put true w (Some s) = refl
some_put false w None = refl
some_put false w (Some s) = refl

pub some_exchanged : {S : Type 0} (b : Bool) (w : S) (old : Option S) → (b ≡ true → is_some old ≡ true) → is_some (cond b (Some w) old) ≡ is_some old
some_exchanged true w old h = sym (h refl)
some_exchanged false w old h = refl

-- something, if a test holds
pub some_if : {A : Type 0} (b : Bool) (a : A) (o : Option A) → o ≡ then_some b a → is_some o ≡ b
some_if true a o e = ap is_some e
some_if false a o e = ap is_some e

pub if_some : {A : Type 0} (P : A → Type 0) (b : Bool) (a : A) (o : Option A) → o ≡ then_some b a → P a → IfSome o P
if_some P true a o e h = subst (λ o. IfSome o P) (sym e) h
if_some P false a o e h = subst (λ o. IfSome o P) (sym e) tt

pub none_if : (none some : Bool) → some ≡ not none → none ≡ not some
none_if true some e = sym (ap not e)
none_if false some e = sym (ap not e)

pub if_not : (a b : Bool) → not a ≡ b → a ≡ not b
if_not true b e = ap not e
if_not false b e = ap not e

-- what a sight that is answered sees, by an equal pattern
pub seen_after : (p q : Pattern) (look : Look) (who : Named) (o : Option Sight) (sight : Sight) → IfSome o (SeesRows p look who) → o ≡ Some sight → q ≡ p → SeesRows q look who sight
seen_after p q look who o sight sees is same = subst (λ p. SeesRows p look who sight) (sym same) (subst (λ o. IfSome o (SeesRows p look who)) is sees)

-- what is kept after it is taken was kept before
pub before_taken : {S : Type 0} (b : Bool) (old : Option S) → is_some (cond b None old) ≡ true → is_some old ≡ true
before_taken true old e = let f : false ≡ true = e in cc
before_taken false old e = e

-- ---- the two memories

abbrev pub with_left : {S : Type 0} → Memories S → JoinIndex Value Row S → Memories S
with_left m index = record { pattern = m.pattern; left = index; right = m.right }

abbrev pub with_right : {S : Type 0} → Memories S → JoinIndex Value Named (Unit {0}) → Memories S
with_right m index = record { pattern = m.pattern; left = m.left; right = index }

module _ {S : Type 0} (m : Memories S) (look : Look) (row : Row) (value : Value) (is : value ≡ row_value m.pattern look row) (w : Option S) (index : JoinIndex Value Row S)
    (changed : (v : Value) (r : Row) → at same_value row_cmp index v r ≡ cond (same_value value v && eq_by_cmp row_cmp row r) w (at same_value row_cmp m.left v r)) where
  -- what is kept for left rows after a change at one
  pub left_changed : (r : Row) → left_at (with_left m index) look r ≡ cond (eq_by_cmp row_cmp row r) w (left_at m look r)
  left_changed = at_changed (eq_by_cmp row_cmp) (λ a b. (row_decides a b).0) (row_value m.pattern look) row value (at same_value row_cmp m.left) (at same_value row_cmp index) w is changed

  pub left_keeps : (left : Row → Bool) → ((r : Row) → is_some (cond (eq_by_cmp row_cmp row r) w (left_at m look r)) ≡ left r) → KeepsMemories m (with_left m index) look left (has_right m look)
  left_keeps left h = record {
    pattern = refl;
    rows = λ r. ap is_some (left_changed r) ∙ h r;
    names = λ who. refl;
    agrees = λ before. record {
      rows = agrees_changed (eq_by_cmp row_cmp) (λ a b. (row_decides a b).0) (row_value m.pattern look) row value (at same_value row_cmp m.left) (at same_value row_cmp index) w is changed before.rows;
      names = before.names;
    };
  }

module _ {S : Type 0} (m : Memories S) (look : Look) (who : Named) (value : Value) (is : value ≡ candidate_value m.pattern look who) (w : Option (Unit {0})) (index : JoinIndex Value Named (Unit {0}))
    (changed : (v : Value) (c : Named) → at same_value name_cmp index v c ≡ cond (same_value value v && eq_by_cmp name_cmp who c) w (at same_value name_cmp m.right v c)) where
  -- the candidates that are kept after a change at one
  pub right_keeps : (right : Named → Bool)
      → ((c : Named) → is_some (cond (eq_by_cmp name_cmp who c) w (at same_value name_cmp m.right (candidate_value m.pattern look c) c)) ≡ right c) → KeepsMemories m (with_right m index) look (has_left m look) right
  right_keeps right h = record {
    pattern = refl;
    rows = λ r. refl;
    names = λ c. ap is_some (at_changed (eq_by_cmp name_cmp) (λ a b. (name_decides a b).0) (candidate_value m.pattern look) who value (at same_value name_cmp m.right) (at same_value name_cmp index) w is changed c) ∙ h c;
    agrees = λ before. record {
      rows = before.rows;
      names = agrees_changed (eq_by_cmp name_cmp) (λ a b. (name_decides a b).0) (candidate_value m.pattern look) who value (at same_value name_cmp m.right) (at same_value name_cmp index) w is changed before.names;
    };
  }

module _ (c : Candidates) (look : Look) (who : Named) (value : Value) (is : value ≡ candidate_value c.pattern look who) (w : Option (Unit {0})) (index : JoinIndex Value Named (Unit {0}))
    (changed : (v : Value) (n : Named) → at same_value name_cmp index v n ≡ cond (same_value value v && eq_by_cmp name_cmp who n) w (at same_value name_cmp c.names v n)) where
  -- the same of candidates that no left rows stand beside
  pub names_keep : (names : Named → Bool)
      → ((n : Named) → is_some (cond (eq_by_cmp name_cmp who n) w (at same_value name_cmp c.names (candidate_value c.pattern look n) n)) ≡ names n)
      → KeepsNames c (record { pattern = c.pattern; names = index }) look names
  names_keep names h = record {
    pattern = refl;
    names = λ n. ap is_some (at_changed (eq_by_cmp name_cmp) (λ a b. (name_decides a b).0) (candidate_value c.pattern look) who value (at same_value name_cmp c.names) (at same_value name_cmp index) w is changed n) ∙ h n;
    agrees = agrees_changed (eq_by_cmp name_cmp) (λ a b. (name_decides a b).0) (candidate_value c.pattern look) who value (at same_value name_cmp c.names) (at same_value name_cmp index) w is changed;
  }

-- the rows that are made after a change
pub made_after : {S : Type 0} (before after : Memories S) (look : Look) (left : Row → Bool) (right : Named → Bool) → KeepsMemories before after look left right → (r : Row) → made after look r ≡ joined (joins before.pattern look) left right r
made_after before after look left right keeps r =
    ap (λ (p : Pattern). joined (joins p look) (has_left after look) (has_right after look) r) keeps.pattern
    ∙ joined_alike (joins before.pattern look) (has_left after look) left (has_right after look) right keeps.rows keeps.names r
