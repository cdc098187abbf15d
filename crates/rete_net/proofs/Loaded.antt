-- The rows that the nodes of a network answer as it is loaded.
use Rattle.rete_net.proofs.Common.{◌≡◌, ◌∙◌, sym, ap, refl, subst, ℕ, zero, suc, ◌<◌, ◌≤◌, nat_lt, arith, Bool, true, false, ◌||◌, List, [], ◌∷◌, ◌++◌, length}
use Rattle.rete_net.proofs.Common.{take, Option, Some, None, slice_get, fun_ext, filter, eq_by_cmp, nat_tests, length-take-le, Fact, Delta, Extra, Row, has}
use Rattle.rete_net.proofs.Common.{row_cmp, InOrder, Condition, Moment, Program, Rule, Snapshot, of_filter, Look, extra_for, empty_row, is_empty_row}
use Rattle.rete_net.proofs.Common.{condition_of, IsFirstWith, extra_at, laden_line, laden_with, Answered, Owner, NetNode, answer_in, left_given, IsLoadable}
use Rattle.rete_net.proofs.Common.{is_extra_under, AreLoaded, IsNodeLoad, IsOwned, before, IsNetOf, IsFresh, empty_row_comes, taking, has_good_window}
use Rattle.rete_net.proofs.{Common.{pattern_of}, Counting.{longer}, Growing.{parted}, Searched.{extra_of_owner, rows_in_order}}
use Rattle.{rete_net.{specs.Owners.{AreNodeOwners as HaveOwners}, proofs.Stillness.{condition_taking}}, candidate_source.specs.declared.source.Source.{Source}}
use Rattle.{std.specs.List.Sorted.{IsStrictlySortedBy}, laden_rows.{specs.Laden.{AreOwners, laden}, proofs.Naming.{laden_named}}}
use Rattle.fx_base.proofs.Sequences.{get-below}

-- rules that are the first ones with the same first conditions are the same
pub one_first : (p : Program) (n : ℕ) (cs ds : List Condition) (a b : ℕ) → IsFirstWith p n cs a → IsFirstWith p n ds b → take n cs ≡ take n ds → a ≡ b
one_first p n cs ds a b f g same = by (nat_lt a b) refl (nat_lt b a) refl
  where
    by : (x : Bool) → nat_lt a b ≡ x → (y : Bool) → nat_lt b a ≡ y → a ≡ b
    by true lt y e = absurd (g.earlier a f.rule (grind (arith, nat_tests)) f.stands (f.begins ∙ same))
    by false ge true lt = absurd (f.earlier b g.rule (grind (arith, nat_tests)) g.stands (g.begins ∙ sym same))
    by false ge false le = grind (arith, nat_tests)

none_begun : (m : ℕ) (cs : List Condition) → m ≤ length cs → [] ≡ take m cs → m ≡ 0
none_begun zero cs le e = refl
none_begun (suc m) [] le e = absurd (omega (arith, le))
none_begun (suc m) (c ∷ cs) le e = absurd (let torn : [] ≡ c ∷ take m cs = e in cc)

some_begun : (m : ℕ) (cs front : List Condition) (c : Condition) → front ++ c ∷ [] ≡ take m cs → (n : ℕ) × (m ≡ suc n)
some_begun zero cs [] c e = absurd (let torn : c ∷ [] ≡ [] = e in cc)
some_begun zero cs (d ∷ front) c e = absurd (let torn : d ∷ (front ++ c ∷ []) ≡ [] = e in cc)
some_begun (suc m) cs front c e = (m, refl)

empty_alone : (row : Row) → has (empty_row ∷ []) row ≡ is_empty_row row
empty_alone row = by (eq_by_cmp row_cmp row empty_row)
  where
    by : (b : Bool) → (b || false) ≡ b
    by true = refl
    by false = refl

-- the owner of conditions that are the first ones of a rule
module _ (p : Program) (owners : ℕ → ℕ → ℕ) (own : AreOwners p owners) (place m : ℕ) (rule : Rule) (stands : slice_get p.rules place ≡ Some rule) (low : m < length rule.conditions) (o : Owner)
    (owned : IsOwned p (take (suc m) rule.conditions) o) where
  pub owner_place : o.condition ≡ m
  owner_place =
      let here : length (take (suc m) rule.conditions) ≡ suc m = length-take-le (suc m) rule.conditions (omega (arith, low)) in
      let within = owned.within in
      let there : length (take (suc o.condition) owned.rule.conditions) ≡ suc o.condition = length-take-le (suc o.condition) owned.rule.conditions (omega (arith, within)) in
      let long : length (take (suc m) rule.conditions) ≡ length (take (suc o.condition) owned.rule.conditions) = ap (λ (cs : List Condition). length cs) owned.own in
      omega (arith, here, there, long)

  pub owner_rule : o.rule.0 ≡ owners place m
  owner_rule =
      one_first p (suc m) owned.rule.conditions rule.conditions o.rule.0 (owners place m)
      (subst (λ k. IsFirstWith p (suc k) owned.rule.conditions o.rule.0) owner_place owned.first) (own place m rule stands low)
      (ap (λ k. take (suc k) owned.rule.conditions) (sym owner_place) ∙ sym owned.own)

-- ---- nodes of a program's network

module _ (p : Program) (look : Look) (t : Snapshot) (kept : List Fact) (extras : List Extra) (moment : Moment) (can : IsLoadable p t kept extras moment look) (owners : ℕ → ℕ → ℕ) (own : AreOwners p owners)
    (nodes : List NetNode) (ends : List ℕ) (net : IsNetOf p nodes ends) (held_by : List Owner) (owned : HaveOwners p net.conditions (length nodes) held_by)
    (was_of : ℕ → Option Source) (fresh : (k : ℕ) (n : NetNode) → slice_get nodes k ≡ Some n → IsFresh p (taking (was_of k) n))
    (is_of : ℕ → Option Source) (now : List NetNode) (a : Answered Delta) (bound : ℕ) (within : bound ≤ length nodes) (loaded : AreLoaded p look kept extras moment empty_row_comes was_of is_of nodes now held_by ends a bound) where
  -- these are the rows of the first conditions of a rule, so many
  abbrev pub AreRows : (Row → Bool) → List Condition → Type 0
  AreRows set cs = (place m : ℕ) (rule : Rule) → slice_get p.rules place ≡ Some rule → m ≤ length rule.conditions → cs ≡ take m rule.conditions → (row : Row) → set row ≡ laden p t extras (owners place) rule.conditions m row

  -- what a node in a place answered is the rows of its conditions
  abbrev pub Answers : ℕ → Type 0
  Answers k = AreRows (has (answer_in a k).come) (net.conditions k)

  -- what comes to a node is the rows of the conditions before it
  left_rows : (k : ℕ) (old : NetNode) → slice_get nodes k ≡ Some old → ((q : ℕ) → q < k → Answers q) → (parent : Option ℕ) → old.parent ≡ parent
      → AreRows (has (left_given empty_row_comes a parent).come) (before net.conditions parent)
  unfolding laden
  left_rows k old e rest None at = λ place m rule stands le is row.
      let none = none_begun m rule.conditions le is in
      empty_alone row ∙ ap (λ i. laden p t extras (owners place) rule.conditions i row) (sym none)
  left_rows k old e rest (Some q) at = rest q (net.shaped.parents k q old e at)

  -- the conditions of a node as those of a rule: those before it, and its own
  module _ (k : ℕ) (old : NetNode) (e : slice_get nodes k ≡ Some old) (place m : ℕ) (rule : Rule) (stands : slice_get p.rules place ≡ Some rule) (le : suc m ≤ length rule.conditions)
      (is : net.conditions k ≡ take (suc m) rule.conditions) where
    pub parts : (before net.conditions old.parent ≡ take m rule.conditions) × (slice_get rule.conditions m ≡ Some (condition_of old.node))
    parts =
        let more = longer rule.conditions m (omega (arith, le)) in
        let both = parted (before net.conditions old.parent) (take m rule.conditions) (condition_of old.node) more.0 (sym (net.shaped.own k old e) ∙ is ∙ more.2) in
        (both.0, more.1 ∙ ap Some (sym both.1))

    owner_at : (o : Owner) → slice_get held_by k ≡ Some o → IsOwned p (take (suc m) rule.conditions) o
    owner_at o f = subst (λ (cs : List Condition). IsOwned p cs o) is (owned.each k o f)

    -- what is given to it
    pub load_at : (o : Owner) → slice_get held_by k ≡ Some o → ((q : ℕ) → q < k → Answers q)
        → IsNodeLoad p look kept moment t (laden p t extras (owners place) rule.conditions m) (taking (was_of k) old) (left_given empty_row_comes a old.parent).come (filter (is_extra_under o) extras)
    load_at o f rest = record {
      fresh = fresh k old e;
      window = ap (λ (c : Condition). has_good_window p (pattern_of c)) (condition_taking (was_of k) old) ∙ net.windows k old e;
      orderly = can.orderly;
      facts = can.facts;
      at = can.at;
      floors = can.floors;
      at_hand = can.at_hand;
      named = laden_named p t extras (owners place) rule.conditions m;
      same_rows = left_rows k old e rest old.parent refl place m rule stands (omega (arith, le)) parts.0;
      in_order = rows_in_order o extras can.in_order;
      some = λ x i. (can.placed x (of_filter (is_extra_under o) x extras i)).some;
    }

    -- its extras are those of the condition
    pub extras_at : (o : Owner) → slice_get held_by k ≡ Some o → extra_for (filter (is_extra_under o) extras) ≡ extra_at extras (owners place m) m
    extras_at o f =
        let it = owner_at o f in
        fun_ext (λ row. extra_of_owner o extras row ∙ ap (λ r. extra_at extras r o.condition row) (owner_rule p owners own place m rule stands (omega (arith, le)) o it)
        ∙ ap (λ c. extra_at extras (owners place m) c row) (owner_place p owners own place m rule stands (omega (arith, le)) o it))

    answer_rows : (new : NetNode) → slice_get now k ≡ Some new → (o : Owner) → slice_get held_by k ≡ Some o → k < bound → ((q : ℕ) → q < k → Answers q)
        → (row : Row) → has (answer_in a k).come row ≡ laden p t extras (owners place) rule.conditions (suc m) row
    unfolding laden
    answer_rows new g o f lt rest row =
        (loaded.loaded k lt old new o e g f).loads.answer t (laden p t extras (owners place) rule.conditions m) (load_at o f rest) row
        ∙ ap (λ (c : Condition). laden_line p t (extra_for (filter (is_extra_under o) extras)) c (laden p t extras (owners place) rule.conditions m) row) (condition_taking (was_of k) old)
        ∙ ap (λ beyond. laden_line p t beyond (condition_of old.node) (laden p t extras (owners place) rule.conditions m) row) (extras_at o f)
        ∙ ap (λ c. laden_with p t (extra_at extras (owners place m) m) c (laden p t extras (owners place) rule.conditions m) row) (sym parts.1)

  pub now_at : (k : ℕ) → k < bound → (new : NetNode) × (slice_get now k ≡ Some new)
  now_at k lt = let many = loaded.many in get-below now k (omega (arith, many, lt, within))

  pub owner_there : (k : ℕ) → k < bound → (o : Owner) × (slice_get held_by k ≡ Some o)
  owner_there k lt = let count = owned.count in get-below held_by k (omega (arith, count, lt, within))

  one : (k : ℕ) (old : NetNode) → slice_get nodes k ≡ Some old → k < bound → ((q : ℕ) → q < k → Answers q) → Answers k
  one k old e lt rest place m rule stands le is = by (some_begun m rule.conditions (before net.conditions old.parent) (condition_of old.node) (sym (net.shaped.own k old e) ∙ is))
    where
      by : (n : ℕ) × (m ≡ suc n) → (row : Row) → has (answer_in a k).come row ≡ laden p t extras (owners place) rule.conditions m row
      by r row =
          let new = now_at k lt in
          let o = owner_there k lt in
          let next = r.1 in
          answer_rows k old e place r.0 rule stands (omega (arith, le, next)) (is ∙ ap (λ i. take i rule.conditions) next) new.0 new.1 o.0 o.1 lt rest row
          ∙ ap (λ i. laden p t extras (owners place) rule.conditions i row) (sym next)

  all_below : (b k : ℕ) → k < b → k < bound → Answers k
  all_below zero k h lt = absurd (omega (arith, h))
  all_below (suc b) k h lt = let old = get-below nodes k (omega (arith, lt, within)) in one k old.0 old.1 lt (λ q less. all_below b q (omega (arith, h, less)) (omega (arith, lt, less)))

  pub answered : (k : ℕ) → k < bound → Answers k
  answered k lt = all_below (suc k) k (omega arith) lt

  -- and what comes to one
  pub come_to : (k : ℕ) (old : NetNode) → slice_get nodes k ≡ Some old → k ≤ bound → AreRows (has (left_given empty_row_comes a old.parent).come) (before net.conditions old.parent)
  come_to k old e le = left_rows k old e (λ q lt. answered q (omega (arith, lt, le))) old.parent refl

  -- in order
  pub in_order : (k : ℕ) (old : NetNode) → slice_get nodes k ≡ Some old → k ≤ bound → InOrder (left_given empty_row_comes a old.parent).come
  unfolding IsStrictlySortedBy
  in_order k old e le = by old.parent refl
    where
      by : (parent : Option ℕ) → old.parent ≡ parent → InOrder (left_given empty_row_comes a parent).come
      by None at = (tt, tt)
      by (Some q) at =
          let lt = net.shaped.parents k q old e at in
          let low : q < bound = omega (arith, lt, le) in
          let up = get-below nodes q (omega (arith, low, within)) in
          let new = now_at q low in
          let o = owner_there q low in
          (loaded.loaded q low up.0 new.0 o.0 up.1 new.1 o.1).loads.in_order (fresh q up.0 up.1)

  -- nothing goes
  pub none_gone : (k : ℕ) → k < bound → (answer_in a k).gone ≡ []
  none_gone k lt =
      let old = get-below nodes k (omega (arith, lt, within)) in
      let new = now_at k lt in
      let o = owner_there k lt in
      (loaded.loaded k lt old.0 new.0 o.0 old.1 new.1 o.1).loads.none_gone (fresh k old.0 old.1)
