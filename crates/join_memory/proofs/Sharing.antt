-- Left rows that are kept once for several nodes, and the candidates of each.
use Rattle.join_memory.proofs.Common.{◌≡◌, ◌∙◌, sym, ap, refl, ℕ, ◌+◌, ◌<◌, length, take, get_or, List, [], ◌∷◌, ◌++◌, Bool, true, false, cond, not, ◌&&◌, ◌||◌}
use Rattle.join_memory.proofs.Common.{list_any, eq_by_cmp, list_any-append, list_any_more, Named, Row, row_cmp, has, same_equiv, name_cmp, name_equiv, Value}
use Rattle.join_memory.proofs.Common.{same_value, Pattern, Look, row_value, candidate_value, Memories, unjoined, has_name, has_left, has_right, KeepsMemories}
use Rattle.join_memory.proofs.Common.{Option, Some, None, name_kept, beside, RowsLeave, RowsCome, NamesLeave, NamesCome, LooksWhereKept}
use Rattle.join_memory.specs.{declared.{candidates.Candidates.{Candidates}, left_rows.LeftRows.{LeftRows}}, Shared.{over}, Joined.{joined}}
use Rattle.join_memory.proofs.{Joining.{name_decides, splits_alike, splits_or, joined_alike, none_right}, Turning.{keeps_then, less_more, more_more, any_name}}
use Rattle.{join_tests.{specs.{declared.row_key.RowKey.{RowKey}, RowKeys.{value_by}}, proofs.Siding.{kept_by}}, fx_base.proofs.Tests.{and_or_and}}
use Rattle.std.proofs.Math.Bool.{and-false, and-true}

-- ---- where a row is kept

pub value_beside : (left : LeftRows) (c : Candidates) (look : Look) (row : Row) → LooksWhereKept left c → value_by left.key look row ≡ row_value c.pattern look row
value_beside left c look row is = ap (λ (key : RowKey). value_by key look row) (sym is) ∙ sym (kept_by look row c.pattern)

-- ---- nothing goes and nothing comes

pub less_none : (a : Bool) → a ≡ (a && true)
less_none true = refl
less_none false = refl

pub more_none : (a : Bool) → a ≡ (a || false)
more_none true = refl
more_none false = refl

pub keeps_itself : {S : Type 0} (m : Memories S) (look : Look) (left : Row → Bool) (right : Named → Bool) → ((r : Row) → has_left m look r ≡ left r) → ((c : Named) → has_right m look c ≡ right c) → KeepsMemories m m look left right
keeps_itself m look left right h k = record { pattern = refl; rows = h; names = k; agrees = λ before. before }

pub no_rows_leave : (left : LeftRows) (look : Look) → RowsLeave left left look []
no_rows_leave left look c is = keeps_itself (beside left c) look _ _ (λ r. less_none _) (λ n. refl)

pub no_rows_come : (left : LeftRows) (look : Look) → RowsCome left left look []
no_rows_come left look c is = keeps_itself (beside left c) look _ _ (λ r. more_none _) (λ n. refl)

pub no_names_leave : (c : Candidates) (look : Look) → NamesLeave c c look []
no_names_leave c look left = keeps_itself (beside left c) look _ _ (λ r. refl) (λ n. less_none _)

pub no_names_come : (c : Candidates) (look : Look) → NamesCome c c look []
no_names_come c look left = keeps_itself (beside left c) look _ _ (λ r. refl) (λ n. more_none _)

-- ---- one row more of a list

module _ (first next last : LeftRows) (look : Look) (rows : List Row) (i : ℕ) (below : i < length rows) (any row : Row) (is : row ≡ get_or rows i any) (key : next.key ≡ first.key) where
  pub row_leaves_too : RowsLeave first next look (take i rows)
      → ((c : Candidates) → LooksWhereKept next c → KeepsMemories (beside next c) (beside last c) look (λ r. has_left (beside next c) look r && not (eq_by_cmp row_cmp row r)) (has_right (beside next c) look))
      → RowsLeave first last look (take (i + 1) rows)
  row_leaves_too before turn c beside_it =
      keeps_then (beside first c) (beside next c) (beside last c) look _ _ _ _ _ _ (before c beside_it) (turn c (beside_it ∙ sym key))
      (λ r. less_more (eq_by_cmp row_cmp) same_equiv.symm rows i below any row is r (has_left (beside first c) look r) (has_left (beside next c) look r) ((before c beside_it).rows r))
      (before c beside_it).names

  pub row_comes_too : RowsCome first next look (take i rows)
      → ((c : Candidates) → LooksWhereKept next c → KeepsMemories (beside next c) (beside last c) look (λ r. has_left (beside next c) look r || eq_by_cmp row_cmp row r) (has_right (beside next c) look))
      → RowsCome first last look (take (i + 1) rows)
  row_comes_too before turn c beside_it =
      keeps_then (beside first c) (beside next c) (beside last c) look _ _ _ _ _ _ (before c beside_it) (turn c (beside_it ∙ sym key))
      (λ r. more_more (eq_by_cmp row_cmp) same_equiv.symm rows i below any row is r (has_left (beside first c) look r) (has_left (beside next c) look r) ((before c beside_it).rows r))
      (before c beside_it).names

-- ---- one candidate more of a list

module _ (first next last : Candidates) (look : Look) (names : List Named) (i : ℕ) (below : i < length names) (who : Named) (is : who ≡ get_or names i any_name) where
  pub name_leaves_too : NamesLeave first next look (take i names)
      → ((left : LeftRows) → KeepsMemories (beside left next) (beside left last) look (has_left (beside left next) look) (λ c. has_right (beside left next) look c && not (eq_by_cmp name_cmp who c)))
      → NamesLeave first last look (take (i + 1) names)
  name_leaves_too before turn left =
      keeps_then (beside left first) (beside left next) (beside left last) look _ _ _ _ _ _ (before left) (turn left) (before left).rows
      (λ c. less_more (eq_by_cmp name_cmp) name_equiv.symm names i below any_name who is c (has_right (beside left first) look c) (has_right (beside left next) look c) ((before left).names c))

  pub name_comes_too : NamesCome first next look (take i names)
      → ((left : LeftRows) → KeepsMemories (beside left next) (beside left last) look (has_left (beside left next) look) (λ c. has_right (beside left next) look c || eq_by_cmp name_cmp who c))
      → NamesCome first last look (take (i + 1) names)
  name_comes_too before turn left =
      keeps_then (beside left first) (beside left next) (beside left last) look _ _ _ _ _ _ (before left) (turn left) (before left).rows
      (λ c. more_more (eq_by_cmp name_cmp) name_equiv.symm names i below any_name who is c (has_right (beside left first) look c) (has_right (beside left next) look c) ((before left).names c))

-- ---- what is kept under a value with one candidate more

under_on : (f t s x e : Bool) → (e ≡ true → x ≡ s) → ((f || (t && s)) || (x && e)) ≡ (f || ((t || e) && s))
under_on true t s x e h = refl
under_on false true true x e h = refl
under_on false true false x true h = ap (λ b. b && true) (h refl)
under_on false true false true false h = refl
under_on false true false false false h = refl
under_on false false true x true h = ap (λ b. b && true) (h refl)
under_on false false false x true h = ap (λ b. b && true) (h refl)
under_on false false s true false h = refl
under_on false false s false false h = refl

pub under_more : (look : Look) (p q : Pattern) → q ≡ p → (names : List Named) (i : ℕ) → i < length names → (who : Named) → who ≡ get_or names i any_name → (value : Value) (n : Named) (first next last : Bool)
    → next ≡ (first || (has_name (take i names) n && same_value (candidate_value p look n) value)) → last ≡ (next || (same_value (candidate_value q look who) value && eq_by_cmp name_cmp who n))
    → last ≡ (first || (has_name (take (i + 1) names) n && same_value (candidate_value p look n) value))
under_more look p q same names i below who is value n first next last so_far turn =
    let s = same_value (candidate_value p look n) value in
    turn ∙ ap (λ (r : Pattern). next || (same_value (candidate_value r look who) value && eq_by_cmp name_cmp who n)) same
    ∙ ap (λ b. b || (same_value (candidate_value p look who) value && eq_by_cmp name_cmp who n)) so_far
    ∙ under_on first (has_name (take i names) n) s (same_value (candidate_value p look who) value) (eq_by_cmp name_cmp who n)
    (λ e. ap (λ (w : Named). same_value (candidate_value p look w) value) ((name_decides who n).0 e))
    ∙ ap (λ b. first || ((has_name (take i names) n || b) && s)) (name_equiv.symm who n ∙ ap (eq_by_cmp name_cmp n) is)
    ∙ ap (λ b. first || (b && s)) (sym (list_any_more (eq_by_cmp name_cmp n) names i any_name below))

-- ---- those of a list that were kept, or were not, where one after another of them goes, or comes

went_on : (t o e w : Bool) → (e ≡ true → w ≡ (o && not t)) → ((t && o) || (e && w)) ≡ ((t || e) && o)
went_on true true e w h = refl
went_on true false true w h = h refl
went_on true false false w h = refl
went_on false true true w h = h refl
went_on false false true w h = h refl
went_on false o false w h = refl

not_or : (o t : Bool) → not (o || t) ≡ (not o && not t)
not_or true t = refl
not_or false t = refl

or_false : (a : Bool) → (a || false) ≡ (a && true)
or_false true = refl
or_false false = refl

and_false : (a : Bool) → false ≡ (a && false)
and_false true = refl
and_false false = refl

module _ {K : Type 0} (eq : K → K → Bool) (symm : (a b : K) → eq a b ≡ eq b a) (exact : (a b : K) → eq a b ≡ true → a ≡ b) (test : K → Bool) where
  one_taken : (x k : K) (b : Bool) → list_any (eq k) (cond b (x ∷ []) []) ≡ (eq k x && b)
  one_taken x k true = or_false (eq k x)
  one_taken x k false = and_false (eq k x)

  pub went_more : (next : K → Bool) (found now xs : List K) (i : ℕ) → i < length xs → (any x : K) → x ≡ get_or xs i any → (b : Bool) → b ≡ next x → now ≡ found ++ cond b (x ∷ []) []
      → ((k : K) → next k ≡ (test k && not (list_any (eq k) (take i xs))))
      → ((k : K) → list_any (eq k) found ≡ (list_any (eq k) (take i xs) && test k)) → (k : K) → list_any (eq k) now ≡ (list_any (eq k) (take (i + 1) xs) && test k)
  went_more next found now xs i below any x is b passes added turned so_far k =
      ap (list_any (eq k)) added ∙ list_any-append (eq k) found (cond b (x ∷ []) [])
      ∙ ap (λ a. a || list_any (eq k) (cond b (x ∷ []) [])) (so_far k) ∙ ap (λ a. (list_any (eq k) (take i xs) && test k) || a) (one_taken x k b)
      ∙ went_on (list_any (eq k) (take i xs)) (test k) (eq k x) b (λ e. passes ∙ ap next (sym (exact k x e)) ∙ turned k)
      ∙ ap (λ a. (list_any (eq k) (take i xs) || a) && test k) (ap (eq k) is)
      ∙ ap (λ a. a && test k) (sym (list_any_more (eq k) xs i any below))

-- what is not there after these came was not there before, and is none of them
pub none_came : {K : Type 0} (eq : K → K → Bool) (first next : K → Bool) (xs : List K) → ((k : K) → next k ≡ (first k || list_any (eq k) xs)) → (k : K) → not (next k) ≡ (not (first k) && not (list_any (eq k) xs))
none_came eq first next xs turned k = ap not (turned k) ∙ not_or (first k) (list_any (eq k) xs)

-- ---- what several rows, or several candidates, make

or_and : (a n b : Bool) → ((a || n) && b) ≡ ((a && b) || (n && b))
or_and true n true = refl
or_and true true false = refl
or_and true false false = refl
or_and false n b = refl

module _ (pass : Row → Named → Bool) (found more now : List Row) (added : now ≡ found ++ more) (r : Row) where
  pub rows_made_too : (rows : List Row) (i : ℕ) → i < length rows → (any row : Row) → row ≡ get_or rows i any → (right : Named → Bool)
      → has found r ≡ joined pass (has (take i rows)) right r → has more r ≡ joined pass (eq_by_cmp row_cmp row) right r → has now r ≡ joined pass (has (take (i + 1) rows)) right r
  unfolding joined
  rows_made_too rows i below any row is right so_far turn =
      ap (λ (all : List Row). has all r) added ∙ list_any-append (eq_by_cmp row_cmp r) found more
      ∙ ap (λ b. b || has more r) so_far ∙ ap (λ b. joined pass (has (take i rows)) right r || b) turn
      ∙ sym (splits_or (λ l c. has (take i rows) l && (right c && pass l c)) (λ l c. eq_by_cmp row_cmp row l && (right c && pass l c)) (unjoined r))
      ∙ splits_alike _ _ (λ l c. sym (or_and (has (take i rows) l) (eq_by_cmp row_cmp row l) (right c && pass l c))
      ∙ ap (λ b. b && (right c && pass l c)) (ap (λ b. has (take i rows) l || b) (same_equiv.symm row l ∙ ap (eq_by_cmp row_cmp l) is) ∙ sym (list_any_more (eq_by_cmp row_cmp l) rows i any below))) (unjoined r)

  names_made_also : (left : Row → Bool) (some others all : Named → Bool) → ((c : Named) → (some c || others c) ≡ all c)
      → has found r ≡ joined pass left some r → has more r ≡ joined pass left others r → has now r ≡ joined pass left all r
  unfolding joined
  names_made_also left some others all are so_far turn =
      ap (λ (all : List Row). has all r) added ∙ list_any-append (eq_by_cmp row_cmp r) found more
      ∙ ap (λ b. b || has more r) so_far ∙ ap (λ b. joined pass left some r || b) turn
      ∙ sym (splits_or (λ l c. left l && (some c && pass l c)) (λ l c. left l && (others c && pass l c)) (unjoined r))
      ∙ splits_alike _ _ (λ l c. sym (and_or_and (left l) (some c) (others c) (pass l c)) ∙ ap (λ b. left l && (b && pass l c)) (are c)) (unjoined r)

  -- those of the candidates so far that passed a test, and the next one, if it passes it and is none of them
  pub names_made_too : (left : Row → Bool) (names : List Named) (i : ℕ) → i < length names → (who : Named) → who ≡ get_or names i any_name → (test next : Named → Bool)
      → ((c : Named) → next c ≡ (test c && not (has_name (take i names) c))) → (passes : Bool) → passes ≡ next who
      → has found r ≡ joined pass left (λ c. has_name (take i names) c && test c) r → has more r ≡ joined pass left (λ c. eq_by_cmp name_cmp who c && passes) r
      → has now r ≡ joined pass left (λ c. has_name (take (i + 1) names) c && test c) r
  names_made_too left names i below who is test next turned passes are =
      names_made_also left (λ c. has_name (take i names) c && test c) (λ c. eq_by_cmp name_cmp who c && passes) (λ c. has_name (take (i + 1) names) c && test c)
      (λ c. went_on (has_name (take i names) c) (test c) (eq_by_cmp name_cmp who c) passes (λ e. are ∙ ap next ((name_decides who c).0 e) ∙ turned c)
      ∙ ap (λ b. (has_name (take i names) c || b) && test c) (name_equiv.symm who c ∙ ap (eq_by_cmp name_cmp c) is)
      ∙ ap (λ b. b && test c) (sym (list_any_more (eq_by_cmp name_cmp c) names i any_name below)))

-- one candidate, or none
pub one_made : (pass : Row → Named → Bool) (left : Row → Bool) (who : Named) (r : Row) → joined pass left (eq_by_cmp name_cmp who) r ≡ joined pass left (λ c. eq_by_cmp name_cmp who c && true) r
one_made pass left who r = joined_alike pass left left (eq_by_cmp name_cmp who) (λ c. eq_by_cmp name_cmp who c && true) (λ l. refl) (λ c. sym (and-true (eq_by_cmp name_cmp who c))) r

pub none_made : (pass : Row → Named → Bool) (left : Row → Bool) (who : Named) (r : Row) → false ≡ joined pass left (λ c. eq_by_cmp name_cmp who c && false) r
none_made pass left who r = sym (none_right pass left (λ c. eq_by_cmp name_cmp who c && false) (λ c. and-false (eq_by_cmp name_cmp who c)) r)

-- ---- candidates of the node, or shared ones in their place

-- what is kept of them is looked for by the node's pattern
pub kept_over : {S : Type 0} (m : Memories S) (shared : Option Candidates) (look : Look) (who : Named) → name_kept m.pattern (over m shared).right look who ≡ has_right (over m shared) look who
kept_over m None look who = refl
kept_over m (Some shared) look who = refl
