-- Matches, rule by rule, and what the changes of rules do to an agenda.
use Rattle.session_model.proofs.Common.{◌≡◌, ◌⊎◌, inl, inr, ℕ, ◌+◌, ◌<◌, ◌≤◌, zero, suc, ◌==◌, ◌&&◌, ◌||◌, not, Bool, true, false, cond, List, [], ◌∷◌, ◌++◌}
use Rattle.session_model.proofs.Common.{map, slice_get, Option, Some, None, refl, sym, ◌∙◌, ap, subst, append_assoc, arith, Less, AllByRecursion, list_any}
use Rattle.session_model.proofs.Common.{eq_by_cmp, nat_cmp, and-true, and-not_self, or-false, nat_tests, append-nil, list_any-append, tells_apart, In, Delta}
use Rattle.session_model.proofs.Common.{Named, Row, row_exact, row_cmp, has, or_split, Match, Program, Rule, match_of, match_cmp, has_match, match_parts}
use Rattle.session_model.proofs.Common.{RuleChange, change_of, IsChange, AreBetween, Marks, IsChanged, HasLeft, matches_by, only_in, IsRefreshed, AreOfRules}
use Rattle.{std.{proofs.lemmas.Bool.{eqb-true, or_from, or_left, or_right}, specs.List.Sorted.{IsStrictlySortedBy}}, rule_model.specs.Matches.{matches_from}}

flip : (a b : ℕ) (t : Bool) → (a == b) ≡ t → (b == a) ≡ t
flip a b t e = grind (arith, nat_tests)

-- the rows of a rule as matches
pub with_rule : (k : ℕ) (found : List Row) (m : Match) (t : Bool) → (k == m.rule.0) ≡ t → has_match (map (match_of k) found) m ≡ (t && has found m.row)
with_rule k [] m true e = refl
with_rule k [] m false e = refl
with_rule k (row ∷ found) m true e =
    ap (λ z. z || has_match (map (match_of k) found) m) (match_parts m.rule.0 m.row (match_of k row) ∙ ap (λ z. z && eq_by_cmp row_cmp m.row row) (flip k m.rule.0 true e))
    ∙ ap (λ z. eq_by_cmp row_cmp m.row row || z) (with_rule k found m true e)
with_rule k (row ∷ found) m false e =
    ap (λ z. z || has_match (map (match_of k) found) m) (match_parts m.rule.0 m.row (match_of k row) ∙ ap (λ z. z && eq_by_cmp row_cmp m.row row) (flip k m.rule.0 false e))
    ∙ with_rule k found m false e

-- what is a match before and behind changes no mark
pub unchanged : (a b : Bool) → ((a && not (b && not b)) || (b && not b)) ≡ a
unchanged a b = ap (λ z. (a && not z) || z) (and-not_self b) ∙ or-false (a && true) ∙ and-true a

pub unchanged_mark : (a b : Bool) → (a && not (b && not b)) ≡ a
unchanged_mark a b = ap (λ z. a && not z) (and-not_self b) ∙ and-true a

-- ---- the first rules have no match of a later one

other_number : (j n : ℕ) → j + 1 ≤ n → (j == n) ≡ false
other_number j n le = grind (arith, nat_tests)

-- ---- a match is a row of its rule

-- the rows of a rule, if there is one, have a row
abbrev pub found_at : (Rule → List Row) → Option Rule → Row → Bool
found_at found None row = false
found_at found (Some rule) row = has (found rule) row

past_rule : (found : Rule → List Row) (j : ℕ) (rules : List Rule) (m : Match) → m.rule.0 < j → has_match (matches_from j (map found rules)) m ≡ false
unfolding matches_from
past_rule found j [] m lt = refl
past_rule found j (rule ∷ rules) m lt =
    list_any-append (eq_by_cmp match_cmp m) (map (match_of j) (found rule)) (matches_from (j + 1) (map found rules))
    ∙ or_from _ _ (with_rule j (found rule) m false (past_number j m.rule.0 lt)) (past_rule found (j + 1) rules m (omega arith))
  where
    past_number : (j n : ℕ) → n < j → (j == n) ≡ false
    past_number j n lt = grind (arith, nat_tests)

found_from : (found : Rule → List Row) (j n : ℕ) (rules : List Rule) (m : Match) → m.rule.0 ≡ j + n → has_match (matches_from j (map found rules)) m ≡ found_at found (slice_get rules n) m.row
unfolding matches_from
found_from found j n [] m e = sym (none_at n)
  where
    none_at : (n : ℕ) → found_at found (slice_get [] n) m.row ≡ false
    none_at zero = refl
    none_at (suc n) = refl
found_from found j zero (rule ∷ rules) m e =
    let here : (j == m.rule.0) ≡ true = grind (arith, nat_tests) in
    list_any-append (eq_by_cmp match_cmp m) (map (match_of j) (found rule)) (matches_from (j + 1) (map found rules))
    ∙ ap (λ z. z || has_match (matches_from (j + 1) (map found rules)) m) (with_rule j (found rule) m true here)
    ∙ ap (λ z. has (found rule) m.row || z) (past_rule found (j + 1) rules m (omega arith))
    ∙ or-false (has (found rule) m.row)
found_from found j (suc n) (rule ∷ rules) m e =
    list_any-append (eq_by_cmp match_cmp m) (map (match_of j) (found rule)) (matches_from (j + 1) (map found rules))
    ∙ ap (λ z. z || has_match (matches_from (j + 1) (map found rules)) m) (with_rule j (found rule) m false (other_number j m.rule.0 (omega arith)))
    ∙ found_from found (j + 1) n rules m (omega arith)

pub is_found : (found : Rule → List Row) (rules : List Rule) (m : Match) → has_match (matches_by found rules) m ≡ found_at found (slice_get rules m.rule.0) m.row
is_found found rules m = found_from found 0 m.rule.0 rules m (omega arith)

-- rules that have the same rows have the same matches
pub same_found : (found other : Rule → List Row) → ((rule : Rule) (row : Row) → has (found rule) row ≡ has (other rule) row) → (rules : List Rule) (m : Match)
    → has_match (matches_by found rules) m ≡ has_match (matches_by other rules) m
same_found found other same rules m = is_found found rules m ∙ by (slice_get rules m.rule.0) ∙ sym (is_found other rules m)
  where
    by : (o : Option Rule) → found_at found o m.row ≡ found_at other o m.row
    by None = refl
    by (Some rule) = same rule m.row

-- rules that keep their rows keep the agenda
module _ (rules : List Rule) (old new : Rule → List Row) (same : (place : ℕ) (rule : Rule) → slice_get rules place ≡ Some rule → (row : Row) → has (new rule) row ≡ has (old rule) row) where
  same_match : (m : Match) → has_match (matches_by new rules) m ≡ has_match (matches_by old rules) m
  same_match m = is_found new rules m ∙ by (slice_get rules m.rule.0) refl ∙ sym (is_found old rules m)
    where
      by : (o : Option Rule) → slice_get rules m.rule.0 ≡ o → found_at new o m.row ≡ found_at old o m.row
      by None e = refl
      by (Some rule) e = same m.rule.0 rule e m.row

  pub not_refreshed : (a : Marks) → IsRefreshed rules old new a a
  not_refreshed a = record {
    saliences = refl;
    pending = λ m.
        let was = has_match (matches_by old rules) m in
        sym (ap (λ is. (has_match a.pending m && not (was && not is)) || (is && not was)) (same_match m) ∙ unchanged (has_match a.pending m) was);
    fired = λ m.
        let was = has_match (matches_by old rules) m in
        sym (ap (λ is. has_match a.fired m && not (was && not is)) (same_match m) ∙ unchanged_mark (has_match a.fired m) was);
  }

-- ---- the changes of rules, one after the other

-- the rows that go, and those that come, by a change, if there is one
abbrev pub goes : Option Delta → Row → Bool
goes None row = false
goes (Some d) row = has d.gone row

abbrev pub comes : Option Delta → Row → Bool
comes None row = false
comes (Some d) row = has d.come row

-- these changes were made in an agenda
pub record AreMade (changes : List RuleChange) (a b : Marks) : Type 0 where
  pub saliences : b.saliences ≡ a.saliences
  pub pending : (m : Match) → has_match b.pending m ≡ ((has_match a.pending m && not (goes (change_of changes m.rule.0) m.row)) || comes (change_of changes m.rule.0) m.row)
  pub fired : (m : Match) → has_match b.fired m ≡ (has_match a.fired m && not (goes (change_of changes m.rule.0) m.row))

-- the first of two changes
abbrev or_later : Option Delta → Option Delta → Option Delta
or_later None later = later
or_later (Some d) later = Some d

abbrev given : Bool → Delta → Option Delta
given t d = cond t (Some d) None

change_more : (done : List RuleChange) (c : RuleChange) (place : ℕ) → change_of (done ++ c ∷ []) place ≡ or_later (change_of done place) (given (c.rule.0 == place) c.delta)
change_more [] c place = refl
change_more (x ∷ done) c place =
    elim (x.rule.0 == place) as (λ t. cond t (Some x.delta) (change_of (done ++ c ∷ []) place) ≡ or_later (cond t (Some x.delta) (change_of done place)) (given (c.rule.0 == place) c.delta)) [
      | true ↦ refl
      | false ↦ change_more done c place
    ]

-- for a match of the rule of one change more (t), which has none so far, and for another match (not t)
made_pending : (t : Bool) (o : Option Delta) (p : Bool) (d : Delta) (row : Row) → (t ≡ true → o ≡ None)
    → ((((p && not (goes o row)) || comes o row) && not (t && has d.gone row)) || (t && has d.come row)) ≡ ((p && not (goes (or_later o (given t d)) row)) || comes (or_later o (given t d)) row)
made_pending false None p d row new = or-false _ ∙ and-true _
made_pending false (Some x) p d row new = or-false _ ∙ and-true _
made_pending true None true d row new = refl
made_pending true None false d row new = refl
made_pending true (Some x) p d row new = absurd (let no : Some x ≡ None = new refl in cc)

made_fired : (t : Bool) (o : Option Delta) (p : Bool) (d : Delta) (row : Row) → (t ≡ true → o ≡ None)
    → ((p && not (goes o row)) && not (t && has d.gone row)) ≡ (p && not (goes (or_later o (given t d)) row))
made_fired false None p d row new = and-true _
made_fired false (Some x) p d row new = and-true _
made_fired true None true d row new = refl
made_fired true None false d row new = refl
made_fired true (Some x) p d row new = absurd (let no : Some x ≡ None = new refl in cc)

one_made : (done : List RuleChange) (c : RuleChange) (a b d : Marks) → change_of done c.rule.0 ≡ None → AreMade done a b → IsChanged c.rule.0 c.delta b d → AreMade (done ++ c ∷ []) a d
one_made done c a b d new made ch = record {
  saliences = ch.saliences ∙ made.saliences;
  pending = λ m.
      let t = c.rule.0 == m.rule.0 in
      let p = has_match a.pending m in
      ch.pending m
      ∙ ap (λ z. (z && not (t && has c.delta.gone m.row)) || (t && has c.delta.come m.row)) (made.pending m)
      ∙ made_pending t (change_of done m.rule.0) p c.delta m.row (same_rule m)
      ∙ ap (λ (o : Option Delta). (p && not (goes o m.row)) || comes o m.row) (sym (change_more done c m.rule.0));
  fired = λ m.
      let t = c.rule.0 == m.rule.0 in
      let p = has_match a.fired m in
      ch.fired m
      ∙ ap (λ z. z && not (t && has c.delta.gone m.row)) (made.fired m)
      ∙ made_fired t (change_of done m.rule.0) p c.delta m.row (same_rule m)
      ∙ ap (λ (o : Option Delta). p && not (goes o m.row)) (sym (change_more done c m.rule.0));
}
  where
    same_rule : (m : Match) → (c.rule.0 == m.rule.0) ≡ true → change_of done m.rule.0 ≡ None
    same_rule m e =
        let same : c.rule.0 ≡ m.rule.0 = grind (arith, nat_tests) in
        subst (λ n. change_of done n ≡ None) same new

-- ---- changes in the order of their rules

later_rule : (a b : ℕ) → nat_cmp a b ≡ Less → (a == b) ≡ false
later_rule a b e = grind (arith, nat_tests, nat_cmp)

-- no change before one in the order has its rule
first_of_rule : (done : List RuleChange) (c : RuleChange) (rest : List RuleChange) → IsStrictlySortedBy nat_cmp (map (λ (x : RuleChange). x.rule.0) (done ++ c ∷ rest)) → change_of done c.rule.0 ≡ None
unfolding IsStrictlySortedBy
first_of_rule [] c rest rise = refl
first_of_rule (x ∷ done) c rest rise =
    ap (λ t. cond t (Some x.delta) (change_of done c.rule.0)) (later_rule x.rule.0 c.rule.0 (below done rise.0)) ∙ first_of_rule done c rest rise.1
  where
    below : (front : List RuleChange) → AllByRecursion (λ n. nat_cmp x.rule.0 n ≡ Less) (map (λ (y : RuleChange). y.rule.0) (front ++ c ∷ rest)) → nat_cmp x.rule.0 c.rule.0 ≡ Less
    below [] less = less.0
    below (y ∷ front) less = below front less.1

-- no change was made
pub none_made : (a : Marks) → AreMade [] a a
none_made a = record { saliences = refl; pending = λ m. as_was (has_match a.pending m); fired = λ m. as_it_was (has_match a.fired m) }
  where
    as_was : (b : Bool) → b ≡ ((b && not false) || false)
    as_was true = refl
    as_was false = refl

    as_it_was : (b : Bool) → b ≡ (b && not false)
    as_it_was true = refl
    as_it_was false = refl

-- these changes were made, and those are still ahead
pub record AreAhead (changes ahead : List RuleChange) (a b : Marks) : Type 0 where
  pub done : List RuleChange
  pub parts : changes ≡ done ++ ahead
  pub made : AreMade done a b

pub change_turn : (changes ahead rest : List RuleChange) (c : RuleChange) (a b d : Marks) → IsStrictlySortedBy nat_cmp (map (λ (x : RuleChange). x.rule.0) changes)
    → AreAhead changes ahead a b → ahead ≡ c ∷ rest → IsChanged c.rule.0 c.delta b d → AreAhead changes rest a d
change_turn changes ahead rest c a b d rise so_far items ch =
    let parts : changes ≡ so_far.done ++ c ∷ rest = so_far.parts ∙ ap (λ xs. so_far.done ++ xs) items in
    record {
      done = so_far.done ++ c ∷ [];
      parts = parts ∙ sym (append_assoc so_far.done (c ∷ []) rest);
      made = one_made so_far.done c a b d (first_of_rule so_far.done c rest (subst (λ (xs : List RuleChange). IsStrictlySortedBy nat_cmp (map (λ (x : RuleChange). x.rule.0) xs)) parts rise)) so_far.made ch;
    }

pub none_ahead : (changes ahead : List RuleChange) (a b : Marks) → ahead ≡ [] → AreAhead changes ahead a b → AreMade changes a b
none_ahead changes ahead a b none so_far =
    subst (λ (xs : List RuleChange). AreMade xs a b) (sym (so_far.parts ∙ ap (λ xs. so_far.done ++ xs) none ∙ append-nil so_far.done)) so_far.made

-- one of two: what was there, or what comes
was_or_comes : (a x k y : Bool) → ((a && x) || (k && y)) ≡ true → (a ≡ true) ⊎ (k ≡ true)
was_or_comes true x k y e = inl refl
was_or_comes false x true y e = inr refl
was_or_comes false x false y e = absurd (let no : false ≡ true = e in cc)

-- where the changes ahead are of so many rules, and the pending matches are, it is so behind the first of them
pub rules_turn : (ahead rest : List RuleChange) (c : RuleChange) (b d : Marks) (rules : ℕ) → ahead ≡ c ∷ rest → IsChanged c.rule.0 c.delta b d
    → ((x : RuleChange) → In x ahead → x.rule.0 < rules) → AreOfRules rules b.pending → ((x : RuleChange) → In x rest → x.rule.0 < rules) × AreOfRules rules d.pending
rules_turn ahead rest c b d rules parts ch within pending = (λ x i. within x (subst (In x) (sym parts) (inr i)), later)
  where
    later : AreOfRules rules d.pending
    later q e =
        elim (was_or_comes (has_match b.pending q) (not (c.rule.0 == q.rule.0 && has c.delta.gone q.row)) (c.rule.0 == q.rule.0) (has c.delta.come q.row) (sym (ch.pending q) ∙ e)) [
          | inl was ↦ pending q was
          | inr comes ↦ subst (λ (n : ℕ). n < rules) (eqb-true c.rule.0 q.rule.0 comes) (within c (subst (In c) (sym parts) (inl refl)))
        ]

-- ---- the changes between the rows of rules

gone_between : (o : Option Delta) (old new : List Row) (row : Row) → IsChange o old new → goes o row ≡ (has old row && not (has new row))
gone_between None old new row same = sym (and-not_self (has old row)) ∙ ap (λ z. has old row && not z) (same row)
gone_between (Some d) old new row is = is.0.gone row

come_between : (o : Option Delta) (old new : List Row) (row : Row) → IsChange o old new → comes o row ≡ (has new row && not (has old row))
come_between None old new row same = sym (and-not_self (has new row)) ∙ ap (λ z. has new row && not z) (sym (same row))
come_between (Some d) old new row is = is.0.come row

module _ (p : Program) (old new : Rule → List Row) (changes : List RuleChange) (between : AreBetween p old new changes) where
  -- in a place where no rule stands there is no change
  no_rule : (place : ℕ) → slice_get p.rules place ≡ None → (o : Option Delta) → change_of changes place ≡ o → o ≡ None
  no_rule place none None e = refl
  no_rule place none (Some d) e =
      let is = between.placed place d e in
      absurd (let no : None ≡ Some is.0 = sym none ∙ is.1 in cc)

  module _ (m : Match) where
    abbrev change : Option Delta
    change = change_of changes m.rule.0

    gone_at : (o : Option Rule) → slice_get p.rules m.rule.0 ≡ o → goes change m.row ≡ (found_at old o m.row && not (found_at new o m.row))
    gone_at None e = ap (λ (d : Option Delta). goes d m.row) (no_rule m.rule.0 e change refl)
    gone_at (Some rule) e = gone_between change (old rule) (new rule) m.row (between.each m.rule.0 rule e)

    come_at : (o : Option Rule) → slice_get p.rules m.rule.0 ≡ o → comes change m.row ≡ (found_at new o m.row && not (found_at old o m.row))
    come_at None e = ap (λ (d : Option Delta). comes d m.row) (no_rule m.rule.0 e change refl)
    come_at (Some rule) e = come_between change (old rule) (new rule) m.row (between.each m.rule.0 rule e)

    gone_is : goes change m.row ≡ only_in p.rules old new m
    gone_is =
        gone_at (slice_get p.rules m.rule.0) refl
        ∙ ap (λ z. z && not (found_at new (slice_get p.rules m.rule.0) m.row)) (sym (is_found old p.rules m))
        ∙ ap (λ z. has_match (matches_by old p.rules) m && not z) (sym (is_found new p.rules m))

    come_is : comes change m.row ≡ only_in p.rules new old m
    come_is =
        come_at (slice_get p.rules m.rule.0) refl
        ∙ ap (λ z. z && not (found_at old (slice_get p.rules m.rule.0) m.row)) (sym (is_found new p.rules m))
        ∙ ap (λ z. has_match (matches_by new p.rules) m && not z) (sym (is_found old p.rules m))

  pub all_made : (a b : Marks) → AreMade changes a b → IsRefreshed p.rules old new a b
  all_made a b made = record {
    saliences = made.saliences;
    pending = λ m.
        made.pending m
        ∙ ap (λ z. (has_match a.pending m && not z) || comes (change_of changes m.rule.0) m.row) (gone_is m)
        ∙ ap (λ z. (has_match a.pending m && not (only_in p.rules old new m)) || z) (come_is m);
    fired = λ m. made.fired m ∙ ap (λ z. has_match a.fired m && not z) (gone_is m);
  }

-- ---- the matches that have stopped pending

-- whether a row of these names the tag
abbrev pub names_in : List Row → ℕ → Bool
names_in rows tag = list_any (λ (row : Row). list_any (λ (n : Named). tag == n.tag.0) row.facts) rows

-- one of these rows names what a row among them names
row_names : (rows : List Row) (row : Row) (tag : ℕ) → has rows row ≡ true → list_any (λ (n : Named). tag == n.tag.0) row.facts ≡ true → names_in rows tag ≡ true
row_names [] row tag is names = absurd (let n : false ≡ true = is in cc)
row_names (other ∷ rows) row tag is names =
    let here : Bool = list_any (λ (n : Named). tag == n.tag.0) other.facts in
    elim (or_split (eq_by_cmp row_cmp row other) (has rows row) is) [
      | inl e ↦ or_left here (names_in rows tag) (ap (λ (r : Row). list_any (λ (n : Named). tag == n.tag.0) r.facts) (sym (tells_apart row_exact row other e)) ∙ names)
      | inr h ↦ or_right here (names_in rows tag) (row_names rows row tag h names)
    ]

-- what was pending and is not went out
went_out : (t g c : Bool) → ((true && not (t && g)) || c) ≡ false → g ≡ true
went_out true true c e = refl
went_out true false c e = absurd (let n : true ≡ false = e in cc)
went_out false g c e = absurd (let n : true ≡ false = e in cc)

-- one change more, the tags of whose gone rows are added
pub left_turn : (a b d : Marks) (rule : ℕ) (delta : Delta) (left more : ℕ → Bool) → HasLeft a b left → IsChanged rule delta b d
    → ((tag : ℕ) → more tag ≡ (left tag || names_in delta.gone tag)) → HasLeft a d more
left_turn a b d rule delta left more so_far ch added m tag was free names = added tag ∙ by (has_match b.pending m) refl
  where
    by : (t : Bool) → has_match b.pending m ≡ t → (left tag || names_in delta.gone tag) ≡ true
    by false e = or_left (left tag) (names_in delta.gone tag) (so_far m tag was e names)
    by true e =
        let t = rule == m.rule.0 in
        let out = went_out t (has delta.gone m.row) (t && has delta.come m.row) (sym (ap (λ z. (z && not (t && has delta.gone m.row)) || (t && has delta.come m.row)) e) ∙ sym (ch.pending m) ∙ free) in
        or_right (left tag) (names_in delta.gone tag) (row_names delta.gone m.row tag out names)
