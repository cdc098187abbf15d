-- What the nodes of a network count of forgotten facts.
use Rattle.rete_net.proofs.Common.{◌≡◌, ◌∙◌, ◌⊎◌, inl, inr, sym, ap, refl, subst, ℕ, ℤ, zero, suc, ◌+◌, ◌<◌, ◌≤◌, nat_lt, arith, Bool, true, false, ◌&&◌, List}
use Rattle.rete_net.proofs.Common.{[], ◌∷◌, ◌++◌, length, take, Option, Some, None, slice_get, Ordering, Less, AllByRecursion, filter, nat_cmp, ordering_then}
use Rattle.rete_net.proofs.Common.{nat_tests, length-take-le, slice_get_within, In, Fact, RuleId, Extra, Named, Row, InOrder, row_cmp, Condition, Plain}
use Rattle.rete_net.proofs.Common.{Negated, Existing, Folded, Program, Rule, is_candidate, HaveDistinctTags, pattern_of, Snapshot, name_of, in_left, in_right}
use Rattle.rete_net.proofs.Common.{clean, cleaned, rows_of_extras, candidates_of, rows_of, candidate_named, joins, at_clock, filter_among, AreExtrasBeside}
use Rattle.rete_net.proofs.Common.{IsAside, IsExtraBeside, lost_partners, values_gathered, condition_of, AreExtras, IsExtraIn, IsFirstWith, extra_cmp, Owner}
use Rattle.rete_net.proofs.{Common.{NetNode, AreNodeOwners, IsOwned, owner_cmp, before, IsNetOf, HaveSameFronts}, Advancing.{same_first}}
use Rattle.{rete_net.proofs.{Counted.{fronts_within}, Growing.{parted}}, std.{proofs.lemmas.Bool.{and_parts}, specs.List.Sorted.{IsStrictlySortedBy}}}
use Rattle.{rule_model.specs.Rows.{binds}, condition_rows.specs.Sets.{held, partners}, fx_base.proofs.Sequences.{In-append, get-below, one_value}}

-- ---- lists in order

-- one sorted list behind another, where each element of the one is below each of the other
pub sorted_append : {A : Type 0} (c : A → A → Ordering) (xs ys : List A) → IsStrictlySortedBy c xs → IsStrictlySortedBy c ys → ((x y : A) → In x xs → In y ys → c x y ≡ Less) → IsStrictlySortedBy c (xs ++ ys)
unfolding IsStrictlySortedBy
sorted_append c [] ys s t below = t
sorted_append c (x ∷ xs) ys s t below = (all_append xs s.0, sorted_append c xs ys s.1 t (λ z y i j. below z y (inr i) j))
  where
    all_of : (zs : List _) → ((z : _) → In z zs → c x z ≡ Less) → AllByRecursion (λ z. c x z ≡ Less) zs
    all_of [] h = tt
    all_of (z ∷ zs) h = (h z (inl refl), all_of zs (λ w i. h w (inr i)))

    all_append : (zs : List _) → AllByRecursion (λ z. c x z ≡ Less) zs → AllByRecursion (λ z. c x z ≡ Less) (zs ++ ys)
    all_append [] all = all_of ys (λ y j. below x y (inl refl) j)
    all_append (z ∷ zs) all = (all.0, all_append zs all.1)

-- of two elements of a sorted list the earlier one is below the later
pub sorted_at : {A : Type 0} (c : A → A → Ordering) (xs : List A) → IsStrictlySortedBy c xs → (j k : ℕ) (x y : A) → j < k → slice_get xs j ≡ Some x → slice_get xs k ≡ Some y → c x y ≡ Less
unfolding IsStrictlySortedBy
sorted_at c [] s j k x y lt e f = absurd (let no : None ≡ Some x = e in cc)
sorted_at c (z ∷ zs) s zero zero x y lt e f = absurd (omega (arith, lt))
sorted_at c (z ∷ zs) s zero (suc k) x y lt e f = let is : z ≡ x = cc in ap (λ w. c w y) (sym is) ∙ each zs s.0 k f
  where
    each : (ws : List _) → AllByRecursion (λ w. c z w ≡ Less) ws → (i : ℕ) → slice_get ws i ≡ Some y → c z y ≡ Less
    each [] all i g = absurd (let no : None ≡ Some y = g in cc)
    each (w ∷ ws) all zero g = let same : w ≡ y = cc in ap (c z) (sym same) ∙ all.0
    each (w ∷ ws) all (suc i) g = each ws all.1 i g
sorted_at c (z ∷ zs) s (suc j) zero x y lt e f = absurd (omega (arith, lt))
sorted_at c (z ∷ zs) s (suc j) (suc k) x y lt e f = sorted_at c zs s.1 j k x y (omega (arith, lt)) e f

-- ---- extras under one owner

then_less : (a b c : Ordering) → ordering_then a b ≡ Less → ordering_then a (ordering_then b c) ≡ Less
then_less a b c e = grind arith

-- extras under an earlier owner come first
under_earlier : (o q : Owner) (e f : Extra) → owner_cmp o q ≡ Less → e.rule ≡ o.rule → e.condition ≡ o.condition → f.rule ≡ q.rule → f.condition ≡ q.condition → extra_cmp e f ≡ Less
under_earlier o q e f less a b c d =
    ap (λ (r : RuleId). ordering_then (nat_cmp r.0 f.rule.0) (ordering_then (nat_cmp e.condition f.condition) (row_cmp e.row f.row))) a
    ∙ ap (λ (r : RuleId). ordering_then (nat_cmp o.rule.0 r.0) (ordering_then (nat_cmp e.condition f.condition) (row_cmp e.row f.row))) c
    ∙ ap (λ n. ordering_then (nat_cmp o.rule.0 q.rule.0) (ordering_then (nat_cmp n f.condition) (row_cmp e.row f.row))) b
    ∙ ap (λ n. ordering_then (nat_cmp o.rule.0 q.rule.0) (ordering_then (nat_cmp o.condition n) (row_cmp e.row f.row))) d
    ∙ then_less (nat_cmp o.rule.0 q.rule.0) (nat_cmp o.condition q.condition) (row_cmp e.row f.row) less

same_place : (m n : ℕ) (rest : Ordering) → ordering_then (nat_cmp m m) (ordering_then (nat_cmp n n) rest) ≡ rest
same_place m n rest = grind (arith, nat_tests)

by_rows : (o : Owner) (e f : Extra) → e.rule ≡ o.rule → e.condition ≡ o.condition → f.rule ≡ o.rule → f.condition ≡ o.condition → extra_cmp e f ≡ row_cmp e.row f.row
by_rows o e f a b c d =
    ap (λ (r : RuleId). ordering_then (nat_cmp r.0 f.rule.0) (ordering_then (nat_cmp e.condition f.condition) (row_cmp e.row f.row))) a
    ∙ ap (λ (r : RuleId). ordering_then (nat_cmp o.rule.0 r.0) (ordering_then (nat_cmp e.condition f.condition) (row_cmp e.row f.row))) c
    ∙ ap (λ n. ordering_then (nat_cmp o.rule.0 o.rule.0) (ordering_then (nat_cmp n f.condition) (row_cmp e.row f.row))) b
    ∙ ap (λ n. ordering_then (nat_cmp o.rule.0 o.rule.0) (ordering_then (nat_cmp o.condition n) (row_cmp e.row f.row))) d
    ∙ same_place o.rule.0 o.condition (row_cmp e.row f.row)

-- in the order of their rows they are in order
sorted_by_rows : (o : Owner) (extras : List Extra) → InOrder (rows_of_extras extras) → ((e : Extra) → In e extras → (e.rule ≡ o.rule) × (e.condition ≡ o.condition)) → IsStrictlySortedBy extra_cmp extras
unfolding IsStrictlySortedBy
sorted_by_rows o [] s under = tt
sorted_by_rows o (e ∷ extras) s under = (all_later extras s.0 (λ f i. under f (inr i)), sorted_by_rows o extras s.1 (λ f i. under f (inr i)))
  where
    all_later : (fs : List Extra) → AllByRecursion (λ (r : Row). row_cmp e.row r ≡ Less) (rows_of_extras fs) → ((f : Extra) → In f fs → (f.rule ≡ o.rule) × (f.condition ≡ o.condition)) → AllByRecursion (λ f. extra_cmp e f ≡ Less) fs
    all_later [] all theirs = tt
    all_later (f ∷ fs) all theirs =
        let mine = under e (inl refl) in
        let its = theirs f (inl refl) in
        (by_rows o e f mine.0 mine.1 its.0 its.1 ∙ all.0, all_later fs all.1 (λ g i. theirs g (inr i)))

-- ---- conditions

pub aside_of : (c : Condition) → IsAside c → binds c ≡ false
aside_of (Plain pattern) never = absurd never
aside_of (Negated pattern) is = refl
aside_of (Existing pattern) is = refl
aside_of (Folded a) is = refl

is_aside : (c : Condition) → binds c ≡ false → IsAside c
is_aside (Plain pattern) e = absurd (let torn : true ≡ false = e in cc)
is_aside (Negated pattern) e = tt
is_aside (Existing pattern) e = tt
is_aside (Folded a) e = tt

abbrev rule_numbered : ℕ → RuleId
rule_numbered n = record { 0 = n }

-- the front of a rule with one condition more
pub longer : (all : List Condition) (i : ℕ) → i < length all → (c : Condition) × (slice_get all i ≡ Some c) × (take (suc i) all ≡ take i all ++ c ∷ [])
longer all i h =
    let at = get-below all i h in
    let more = get_more all i at.0 at.1 in
    (at.0, at.1, more)
  where
    get_more : (cs : List Condition) (k : ℕ) (c : Condition) → slice_get cs k ≡ Some c → take (suc k) cs ≡ take k cs ++ c ∷ []
    get_more [] k c e = absurd (let no : None ≡ Some c = e in cc)
    get_more (d ∷ cs) zero c e = let is : d ≡ c = cc in ap (λ x. x ∷ []) is
    get_more (d ∷ cs) (suc k) c e = ap (λ xs. d ∷ xs) (get_more cs k c e)

-- ---- a network

module _ (p : Program) (nodes : List NetNode) (ends : List ℕ) (net : IsNetOf p nodes ends) (owners : List Owner) (owned : AreNodeOwners p net.conditions (length nodes) owners)
    (s : Snapshot) (forgotten : Named → Bool) where
  -- the extras beside the rows before the node in a place
  abbrev pub IsAt : ℕ → Extra → Type 0
  IsAt k e = (n : NetNode) × (o : Owner) × (slice_get nodes k ≡ Some n) × (slice_get owners k ≡ Some o)
      × IsExtraBeside p (condition_of n.node) s (rows_of p s (before net.conditions n.parent)) forgotten o.rule o.condition e

  -- these are those of the first nodes, so many, in order
  pub record AreFirst (k : ℕ) (extras : List Extra) : Type 0 where
    pub in_order : IsStrictlySortedBy extra_cmp extras
    pub theirs : (e : Extra) → In e extras → (j : ℕ) × (j < k) × IsAt j e
    pub all : (j : ℕ) (e : Extra) → j < k → IsAt j e → In e extras

  module _ (k : ℕ) (n : NetNode) (o : Owner) (at : slice_get nodes k ≡ Some n) (by : slice_get owners k ≡ Some o) where
    -- the owner's rule has the node's condition behind those before it
    of_owner : IsOwned p (net.conditions k) o → (r : Rule) × (slice_get p.rules o.rule.0 ≡ Some r) × (o.condition < length r.conditions) × (slice_get r.conditions o.condition ≡ Some (condition_of n.node))
        × (before net.conditions n.parent ≡ take o.condition r.conditions) × IsFirstWith p (suc o.condition) r.conditions o.rule.0
    of_owner is =
        let more = longer is.rule.conditions o.condition is.within in
        let parts = parted (before net.conditions n.parent) (take o.condition is.rule.conditions) (condition_of n.node) more.0 (sym (net.shaped.own k n at) ∙ is.own ∙ more.2) in
        (is.rule, is.stands, is.within, more.1 ∙ ap Some (sym parts.1), parts.0, is.first)

    extra_in : (e : Extra) → IsExtraBeside p (condition_of n.node) s (rows_of p s (before net.conditions n.parent)) forgotten o.rule o.condition e → IsExtraIn p s forgotten e
    extra_in e is =
        let of = of_owner (owned.each k o by) in
        let there = and_parts (rows_of p s (before net.conditions n.parent) e.row) (clean forgotten e.row) is.there in
        record {
          rule = of.0;
          stands = ap (λ (r : RuleId). slice_get p.rules r.0) is.rule ∙ of.1;
          condition = condition_of n.node;
          placed = ap (slice_get of.0.conditions) is.condition ∙ of.3;
          aside = aside_of (condition_of n.node) is.aside;
          first = subst (λ (r : RuleId). IsFirstWith p (suc e.condition) of.0.conditions r.0) (sym is.rule) (subst (λ m. IsFirstWith p (suc m) of.0.conditions o.rule.0) (sym is.condition) of.5);
          there = ap (λ m. rows_of p s (take m of.0.conditions) e.row) is.condition ∙ ap (λ cs. rows_of p s cs e.row) (sym of.4) ∙ there.0;
          kept = there.1;
          some = is.some;
          counted = is.counted;
          gathered = is.gathered;
        }

  -- an extra has its node
  module _ (e : Extra) (is : IsExtraIn p s forgotten e) where
    within : e.condition < length is.rule.conditions
    within = slice_get_within is.rule.conditions e.condition is.condition is.placed

    not_empty : take (suc e.condition) is.rule.conditions ≡ [] → ⊥
    not_empty none =
        let one : length (take (suc e.condition) is.rule.conditions) ≡ suc e.condition = length-take-le (suc e.condition) is.rule.conditions (let lt = within in omega (arith, lt)) in
        let zero_long : length (take (suc e.condition) is.rule.conditions) ≡ 0 = ap (λ (cs : List Condition). length cs) none in
        absurd (omega (arith, one, zero_long))

    node_of : (j : ℕ) × (j < length nodes) × (net.conditions j ≡ take (suc e.condition) is.rule.conditions)
    node_of =
        let last = net.lasts e.rule.0 is.rule is.stands in
        let all : take (suc e.condition) (net.conditions last.last) ≡ take (suc e.condition) is.rule.conditions = ap (take (suc e.condition)) last.all in
        let r = fronts_within p nodes ends net (suc last.last) last.last (suc e.condition) last.node (omega arith) last.there (λ none. not_empty (sym all ∙ none)) in
        (r.0, r.1, r.2 ∙ all)

    same_rule : (o : Owner) (r : Rule) → slice_get p.rules o.rule.0 ≡ Some r → take (suc e.condition) r.conditions ≡ take (suc e.condition) is.rule.conditions
        → IsFirstWith p (suc e.condition) r.conditions o.rule.0 → o.rule.0 ≡ e.rule.0
    same_rule o r stands same first = by (nat_lt o.rule.0 e.rule.0) refl (nat_lt e.rule.0 o.rule.0) refl
      where
        by : (b : Bool) → nat_lt o.rule.0 e.rule.0 ≡ b → (c : Bool) → nat_lt e.rule.0 o.rule.0 ≡ c → o.rule.0 ≡ e.rule.0
        by true lt c f = absurd (is.first.earlier o.rule.0 r (grind (arith, nat_tests)) stands same)
        by false ge true lt = absurd (first.earlier e.rule.0 is.rule (grind (arith, nat_tests)) is.stands (sym same))
        by false ge false le = grind (arith, nat_tests)

    -- of nodes with the same conditions the owners are those of the extra
    owner_is : (o : Owner) → IsOwned p (take (suc e.condition) is.rule.conditions) o → (o.rule.0 ≡ e.rule.0) × (o.condition ≡ e.condition)
    owner_is o owned_by =
        let lt = within in
        let here : length (take (suc e.condition) is.rule.conditions) ≡ suc e.condition = length-take-le (suc e.condition) is.rule.conditions (omega (arith, lt)) in
        let there : length (take (suc o.condition) owned_by.rule.conditions) ≡ suc o.condition =
        (let low = owned_by.within in length-take-le (suc o.condition) owned_by.rule.conditions (omega (arith, low))) in
        let long : length (take (suc e.condition) is.rule.conditions) ≡ length (take (suc o.condition) owned_by.rule.conditions) = ap (λ (cs : List Condition). length cs) owned_by.own in
        let same : o.condition ≡ e.condition = omega (arith, here, there, long) in (
          same_rule o owned_by.rule owned_by.stands (ap (λ m. take (suc m) owned_by.rule.conditions) (sym same) ∙ sym owned_by.own)
              (subst (λ m. IsFirstWith p (suc m) owned_by.rule.conditions o.rule.0) same owned_by.first),
          same,
        )

    pub extra_at : (j : ℕ) × (j < length nodes) × IsAt j e
    extra_at =
        let node = node_of in
        let n = get-below nodes node.0 node.1 in
        let count = owned.count in
        let lt = node.1 in
        let o = get-below owners node.0 (omega (arith, count, lt)) in
        let of = of_owner node.0 n.0 o.0 n.1 o.1 (owned.each node.0 o.0 o.1) in
        let own = owner_is o.0 (subst (λ (cs : List Condition). IsOwned p cs o.0) node.2 (owned.each node.0 o.0 o.1)) in
        let more = longer is.rule.conditions e.condition within in
        let parts = parted (before net.conditions n.0.parent) (take e.condition is.rule.conditions) (condition_of n.0.node) more.0 (sym (net.shaped.own node.0 n.0 n.1) ∙ node.2 ∙ more.2) in
        let its : condition_of n.0.node ≡ is.condition = parts.1 ∙ one_value (slice_get is.rule.conditions e.condition) more.0 is.condition more.1 is.placed in (
          node.0,
          node.1,
          (
            n.0,
            o.0,
            n.1,
            o.1,
            subst (λ c. IsExtraBeside p c s (rows_of p s (before net.conditions n.0.parent)) forgotten o.0.rule o.0.condition e) (sym its) (record {
              rule = ap rule_numbered (sym own.0);
              condition = sym own.1;
              aside = is_aside is.condition is.aside;
              there = ap (λ (cs : List Condition). cleaned (rows_of p s cs) forgotten e.row) parts.0 ∙ ap (λ b. b && clean forgotten e.row) is.there ∙ is.kept;
              some = is.some;
              counted = is.counted;
              gathered = is.gathered;
            }),
          ),
        )

  -- ---- one node after the other

  pub none_first : AreFirst 0 []
  unfolding IsStrictlySortedBy
  none_first = record { in_order = by; theirs = λ e i. absurd i; all = λ j e lt is. absurd (omega (arith, lt)) }
    where
      by : IsStrictlySortedBy extra_cmp []
      by = tt

  module _ (k : ℕ) (n : NetNode) (o : Owner) (at : slice_get nodes k ≡ Some n) (by : slice_get owners k ≡ Some o) (extras more : List Extra) (was : AreFirst k extras)
      (here : AreExtrasBeside p (condition_of n.node) s (rows_of p s (before net.conditions n.parent)) forgotten o.rule o.condition more) where
    under : (e : Extra) → In e more → (e.rule ≡ o.rule) × (e.condition ≡ o.condition)
    under e i = let is = (here.exact e).0 i in (is.rule, is.condition)

    earlier : (e f : Extra) → In e extras → In f more → extra_cmp e f ≡ Less
    earlier e f i j =
        let of = was.theirs e i in
        let its = under f j in
        let is = of.2.4 in
        under_earlier of.2.1 o e f (sorted_at owner_cmp owners owned.rising of.0 k of.2.1 o of.1 of.2.3 by) is.rule is.condition its.0 its.1

    pub one_more_first : AreFirst (k + 1) (extras ++ more)
    one_more_first = record {
      in_order = sorted_append extra_cmp extras more was.in_order (sorted_by_rows o more here.in_order under) earlier;
      theirs = λ e i. elim (In-append e extras more i) [
        | inl j ↦ (let of = was.theirs e j in let lt = of.1 in (of.0, omega (arith, lt), of.2))
        | inr j ↦ (k, omega arith, (n, o, at, by, (here.exact e).0 j))
      ];
      all = λ j e lt is. at_place j e is (below_or j lt);
    }
      where
        below_or : (j : ℕ) → j < k + 1 → (j < k) ⊎ (j ≡ k)
        below_or j lt = grind arith

        at_place : (j : ℕ) (e : Extra) → IsAt j e → (j < k) ⊎ (j ≡ k) → In e (extras ++ more)
        at_place j e is (inl lt) = in_left e extras more (was.all j e lt is)
        at_place j e is (inr same) =
            let node : is.0 ≡ n = one_value (slice_get nodes k) is.0 n (ap (slice_get nodes) (sym same) ∙ is.2) at in
            let owner : is.1 ≡ o = one_value (slice_get owners k) is.1 o (ap (slice_get owners) (sym same) ∙ is.3) by in
            in_right e extras more ((here.exact e).1
            (subst (λ (x : Owner). IsExtraBeside p (condition_of n.node) s (rows_of p s (before net.conditions n.parent)) forgotten x.rule x.condition e) owner
            (subst (λ (m : NetNode). IsExtraBeside p (condition_of m.node) s (rows_of p s (before net.conditions m.parent)) forgotten is.1.rule is.1.condition e) node is.4)))

  pub all_of_them : (k : ℕ) (extras : List Extra) → length nodes ≤ k → AreFirst k extras → AreExtras p s forgotten extras
  all_of_them k extras over was = record {
    in_order = was.in_order;
    exact = λ e. (
      λ i. (let of = was.theirs e i in extra_in of.0 of.2.0 of.2.1 of.2.2 of.2.3 e of.2.4),
      λ is. (let at = extra_at e is in let lt = at.1 in was.all at.0 e (omega (arith, over, lt)) at.2),
    );
  }

-- ---- a clock that the nodes have not seen

module _ (p : Program) (s : Snapshot) (seen : ℤ) (tags : HaveDistinctTags s.facts) (forgotten : Named → Bool) (c : Condition) (behind : List Condition)
    (same_candidates : (who : Named) → candidates_of p (pattern_of c) s who ≡ candidates_of p (pattern_of c) (at_clock s seen) who)
    (same_rows : cleaned (rows_of p s behind) forgotten ≡ cleaned (rows_of p (at_clock s seen) behind) forgotten) where
  partners_seen : (row : Row) → partners p (pattern_of c) (at_clock s seen) row ≡ partners p (pattern_of c) s row
  unfolding partners held
  partners_seen row =
      ap (filter (λ (f : Fact). joins (pattern_of c) (held s) row (name_of f)))
      (filter_among (is_candidate p (pattern_of c) (at_clock s seen)) (is_candidate p (pattern_of c) s) s.facts
      (λ f i. sym (candidate_named p (at_clock s seen) tags (pattern_of c) f i) ∙ sym (same_candidates (name_of f)) ∙ candidate_named p s tags (pattern_of c) f i))

  lost_seen : (row : Row) → lost_partners p (at_clock s seen) forgotten (pattern_of c) row ≡ lost_partners p s forgotten (pattern_of c) row
  lost_seen row = ap (filter (λ (f : Fact). forgotten (name_of f))) (partners_seen row)

  pub beside_seen : (under : RuleId) (place : ℕ) (extras : List Extra) → AreExtrasBeside p c (at_clock s seen) (rows_of p (at_clock s seen) behind) forgotten under place extras
      → AreExtrasBeside p c s (rows_of p s behind) forgotten under place extras
  beside_seen under place extras are = record { in_order = are.in_order; exact = λ e. (λ i. seen_of e ((are.exact e).0 i), λ is. (are.exact e).1 (unseen_of e is)) }
    where
      seen_of : (e : Extra) → IsExtraBeside p c (at_clock s seen) (rows_of p (at_clock s seen) behind) forgotten under place e → IsExtraBeside p c s (rows_of p s behind) forgotten under place e
      seen_of e is = record {
        rule = is.rule;
        condition = is.condition;
        aside = is.aside;
        there = ap (λ (set : Row → Bool). set e.row) same_rows ∙ is.there;
        some = is.some;
        counted = is.counted ∙ ap (λ (fs : List Fact). length fs) (lost_seen e.row);
        gathered = is.gathered ∙ ap (values_gathered c) (lost_seen e.row);
      }

      unseen_of : (e : Extra) → IsExtraBeside p c s (rows_of p s behind) forgotten under place e → IsExtraBeside p c (at_clock s seen) (rows_of p (at_clock s seen) behind) forgotten under place e
      unseen_of e is = record {
        rule = is.rule;
        condition = is.condition;
        aside = is.aside;
        there = ap (λ (set : Row → Bool). set e.row) (sym same_rows) ∙ is.there;
        some = is.some;
        counted = is.counted ∙ ap (λ (fs : List Fact). length fs) (sym (lost_seen e.row));
        gathered = is.gathered ∙ ap (values_gathered c) (sym (lost_seen e.row));
      }

-- the rows before a node that name no forgotten fact are the same at both clocks
pub same_before : (p : Program) (nodes : List NetNode) (ends : List ℕ) (net : IsNetOf p nodes ends) (s other : Snapshot) (forgotten : Named → Bool) → HaveSameFronts p nodes net.conditions forgotten s other
    → (k : ℕ) (n : NetNode) → slice_get nodes k ≡ Some n → cleaned (rows_of p s (before net.conditions n.parent)) forgotten ≡ cleaned (rows_of p other (before net.conditions n.parent)) forgotten
same_before p nodes ends net s other forgotten same k n e = by n.parent refl
  where
    by : (parent : Option ℕ) → n.parent ≡ parent → cleaned (rows_of p s (before net.conditions parent)) forgotten ≡ cleaned (rows_of p other (before net.conditions parent)) forgotten
    by None at = ap (λ (set : Row → Bool). cleaned set forgotten) (same_first p s other)
    by (Some q) at =
        let lt : q < k = net.shaped.parents k q n e at in
        let within : k < length nodes = slice_get_within nodes k n e in
        let node = get-below nodes q (omega (arith, lt, within)) in
        same.same_rows q node.0 node.1
