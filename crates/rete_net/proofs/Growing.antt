-- A network that is being built, with one node more.
use Rattle.rete_net.proofs.Common.{◌≡◌, ◌∙◌, sym, ap, refl, subst, ℕ, zero, suc, ◌+◌, ◌<◌, ◌≤◌, nat_le, arith, Bool, true, List, [], ◌∷◌, ◌++◌, length, take}
use Rattle.rete_net.proofs.Common.{get_or, length-append, Option, Some, None, slice_get, ◌⊎◌, inl, inr, take-append_seam, nat_tests, take-append-le, take_more}
use Rattle.rete_net.proofs.Common.{slice_get_within, slice_get-get_or, list_all, unwrap_or, In, Condition, Program, Rule, pattern_of, has_good_window}
use Rattle.rete_net.proofs.Common.{condition_of, Origin, NetNode, IsFresh, IsRuleFront, has_window, IsParentNode, IsBehindParent, AreBuilt, HaveEnds}
use Rattle.{rete_net.{proofs.Common.{AreDistinctFronts, AreGrown}, specs.Building.{IsOfOrigin}}, std.proofs.lemmas.Bool.{and_parts}}
use Rattle.fx_base.proofs.{Orders.{below_or_last}, Sequences.{get-append_left, get-below, get-last, one_value}}

-- ---- lists with one element more

-- what holds of each element and of one more
pub each_more : {A : Type 0} (xs : List A) (x : A) (Q : ℕ → A → Type 0) → ((k : ℕ) (y : A) → slice_get xs k ≡ Some y → Q k y) → Q (length xs) x
    → (k : ℕ) (y : A) → slice_get (xs ++ x ∷ []) k ≡ Some y → Q k y
each_more [] x Q old here zero y e = let is : x ≡ y = cc in subst (Q 0) is here
each_more [] x Q old here (suc k) y e = absurd (let no : None ≡ Some y = e in cc)
each_more (z ∷ xs) x Q old here zero y e = old zero y e
each_more (z ∷ xs) x Q old here (suc k) y e = each_more xs x (λ j w. Q (suc j) w) (λ j w f. old (suc j) w f) here k y e

pub passes_at : {A : Type 0} (test : A → Bool) (xs : List A) (k : ℕ) (x : A) → list_all test xs ≡ true → slice_get xs k ≡ Some x → test x ≡ true
passes_at test [] k x h e = absurd (let no : None ≡ Some x = e in cc)
passes_at test (y ∷ xs) zero x h e = let is : y ≡ x = cc in subst (λ (z : _). test z ≡ true) is (and_parts (test y) (list_all test xs) h).0
passes_at test (y ∷ xs) (suc k) x h e = passes_at test xs k x (and_parts (test y) (list_all test xs) h).1 e

-- ---- one node more

module _ (p : Program) (nodes : List NetNode) (all : List (List Condition)) (node : NetNode) (cs : List Condition) (built : AreBuilt p nodes all) (parent : IsParentNode all node.parent cs)
    (window : has_good_window p (pattern_of (condition_of node.node)) ≡ true) (fresh : IsFresh p node) where
  abbrev own : List Condition
  own = cs ++ condition_of node.node ∷ []

  behind_left : (k : ℕ) (n : NetNode) → slice_get nodes k ≡ Some n → IsBehindParent (all ++ own ∷ []) k n
  behind_left k n e =
      let is = built.behind k n e in
      let within : k < length nodes = slice_get_within nodes k n e in
      let same = built.length in
      let le : k ≤ length all = omega arith in
      record {
        before = is.before;
        parent = subst (λ (front : List (List Condition)). IsParentNode front n.parent is.before) (sym (take-append-le k all (own ∷ []) le)) is.parent;
        own = get-append_left all (own ∷ []) k (is.before ++ condition_of n.node ∷ []) is.own;
      }

  behind_here : IsBehindParent (all ++ own ∷ []) (length nodes) node
  behind_here = record {
    before = cs;
    parent = subst (λ (front : List (List Condition)). IsParentNode front node.parent cs) (sym (ap (λ n. take n (all ++ own ∷ [])) built.length ∙ take-append_seam all (own ∷ []))) parent;
    own = ap (slice_get (all ++ own ∷ [])) built.length ∙ get-last all own;
  }

  pub one_more : AreBuilt p (nodes ++ node ∷ []) (all ++ own ∷ [])
  one_more = record {
    length = let same = built.length in simp length-append (omega arith);
    behind = each_more nodes node (λ k n. IsBehindParent (all ++ own ∷ []) k n) behind_left behind_here;
    windows = each_more nodes node (λ k n. has_good_window p (pattern_of (condition_of n.node)) ≡ true) built.windows window;
    fresh = each_more nodes node (λ k n. IsFresh p n) built.fresh fresh;
  }

-- ---- the last node of a rule

nothing_short : (cs : List Condition) → nat_le 1 (length cs) ≡ true → cs ≡ [] → ⊥
nothing_short cs h e = let no : nat_le 1 0 ≡ true = sym (ap (λ (xs : List Condition). nat_le 1 (length xs)) e) ∙ h in grind (arith, nat_tests)

pub ending : (all : List (List Condition)) (last : Option ℕ) (cs : List Condition) → IsParentNode all last cs → nat_le 1 (length cs) ≡ true → slice_get all (unwrap_or last 0) ≡ Some cs
ending all None cs is h = absurd (nothing_short cs h is)
ending all (Some last) cs is h = is

-- ---- conditions before a node

-- nothing ends in an element
nothing_last : {A : Type 0} (xs : List A) (x : A) → [] ≡ xs ++ x ∷ [] → ⊥
nothing_last [] x e = cc
nothing_last (y ∷ xs) x e = cc

-- lists with one element more are equal where both parts are
pub parted : {A : Type 0} (xs ys : List A) (x y : A) → xs ++ x ∷ [] ≡ ys ++ y ∷ [] → (xs ≡ ys) × (x ≡ y)
parted [] [] x y e = let same : x ≡ y = cc in (refl, same)
parted [] (b ∷ ys) x y e = let rest : [] ≡ ys ++ y ∷ [] = cc in absurd (nothing_last ys y rest)
parted (a ∷ xs) [] x y e = let rest : [] ≡ xs ++ x ∷ [] = cc in absurd (nothing_last xs x rest)
parted (a ∷ xs) (b ∷ ys) x y e =
    let rest : xs ++ x ∷ [] ≡ ys ++ y ∷ [] = cc in
    let is = parted xs ys x y rest in
    let first : a ≡ b = cc in
    (ap (λ (z : _). z ∷ xs) first ∙ ap (λ (zs : List _). b ∷ zs) is.0, is.1)

-- what stands in a front stands in the list
in_whole : {A : Type 0} (n : ℕ) (xs : List A) (k : ℕ) (x : A) → slice_get (take n xs) k ≡ Some x → slice_get xs k ≡ Some x
in_whole zero xs k x e = absurd (let no : None ≡ Some x = e in cc)
in_whole (suc n) [] k x e = e
in_whole (suc n) (y ∷ xs) zero x e = e
in_whole (suc n) (y ∷ xs) (suc k) x e = in_whole n xs k x e

-- ---- one node more among distinct ones

module _ (p : Program) (nodes : List NetNode) (origins : List Origin) (all : List (List Condition)) (grown : AreGrown p nodes origins all) where
  node_of : (k : ℕ) (cs : List Condition) → slice_get all k ≡ Some cs → (n : NetNode) × (slice_get nodes k ≡ Some n)
  node_of k cs e =
      let same = grown.built.length in
      let within : k < length all = slice_get_within all k cs e in
      get-below nodes k (omega arith)

  whole_parent : (k : ℕ) (o : Option ℕ) (cs : List Condition) → IsParentNode (take k all) o cs → IsParentNode all o cs
  whole_parent k None cs is = is
  whole_parent k (Some parent) cs is = in_whole k all parent cs is

  same_before : (o : Option ℕ) (cs ds : List Condition) → IsParentNode all o cs → IsParentNode all o ds → cs ≡ ds
  same_before None cs ds is other = is ∙ sym other
  same_before (Some parent) cs ds is other = one_value (slice_get all parent) cs ds is other

  never_empty : (k : ℕ) (cs : List Condition) → cs ≡ [] → slice_get all k ≡ Some cs → ⊥
  never_empty k cs none e =
      let n = node_of k cs e in
      let is = grown.built.behind k n.0 n.1 in
      nothing_last is.before (condition_of n.0.node) (sym none ∙ one_value (slice_get all k) cs (is.before ++ condition_of n.0.node ∷ []) e is.own)

  same_parent : (o r : Option ℕ) (cs : List Condition) → IsParentNode all o cs → IsParentNode all r cs → o ≡ r
  same_parent None None cs is other = refl
  same_parent None (Some k) cs is other = absurd (never_empty k cs is other)
  same_parent (Some k) None cs is other = absurd (never_empty k cs other is)
  same_parent (Some j) (Some k) cs is other = ap Some (grown.distinct j k cs is other)

  module _ (parent : Option ℕ) (front : List Condition) (c : Condition) (behind : IsParentNode all parent front) where
    -- the node that is there, of this parent and this condition
    pub found_node : (k : ℕ) (origin : Origin) → slice_get origins k ≡ Some origin → origin.parent ≡ parent → origin.condition.now ≡ c → slice_get all k ≡ Some (front ++ c ∷ [])
    found_node k origin e same own =
        let count = grown.count in
        let within : k < length origins = slice_get_within origins k origin e in
        let n = get-below nodes k (omega arith) in
        let from = grown.from k n.0 origin n.1 e in
        let is = grown.built.behind k n.0 n.1 in
        let front_is : is.before ≡ front = same_before parent is.before front (subst (λ (o : Option ℕ). IsParentNode all o is.before) (from.parent ∙ same) (whole_parent k n.0.parent is.before is.parent)) behind in
        is.own ∙ ap (λ (cs : List Condition). Some (cs ++ condition_of n.0.node ∷ [])) front_is ∙ ap (λ (d : Condition). Some (front ++ d ∷ [])) (from.condition ∙ own)

    -- where none is there, no node has these conditions
    pub no_node : ((k : ℕ) (origin : Origin) → slice_get origins k ≡ Some origin → origin.parent ≡ parent → origin.condition.now ≡ c → ⊥) → (k : ℕ) → slice_get all k ≡ Some (front ++ c ∷ []) → ⊥
    no_node missing k e =
        let n = node_of k (front ++ c ∷ []) e in
        let within : k < length nodes = slice_get_within nodes k n.0 n.1 in
        let count = grown.count in
        let origin = get-below origins k (omega arith) in
        let from = grown.from k n.0 origin.0 n.1 origin.1 in
        let is = grown.built.behind k n.0 n.1 in
        let parts = parted is.before front (condition_of n.0.node) c (one_value (slice_get all k) (is.before ++ condition_of n.0.node ∷ []) (front ++ c ∷ []) is.own e) in
        let same : n.0.parent ≡ parent = same_parent n.0.parent parent front (subst (IsParentNode all n.0.parent) parts.0 (whole_parent k n.0.parent is.before is.parent)) behind in
        missing k origin.0 origin.1 (sym from.parent ∙ same) (sym from.condition ∙ parts.1)

distinct_more : (all : List (List Condition)) (own : List Condition) → AreDistinctFronts all → ((k : ℕ) → slice_get all k ≡ Some own → ⊥) → AreDistinctFronts (all ++ own ∷ [])
distinct_more all own distinct new j k cs e f =
    each_more all own (λ i xs. (h : ℕ) → slice_get (all ++ own ∷ []) h ≡ Some xs → i ≡ h)
    (λ i xs at. λ h there. each_more all own (λ g ys. ys ≡ xs → i ≡ g) (λ g ys found same. distinct i g xs at (found ∙ ap Some same)) (λ same. absurd (new i (at ∙ ap Some (sym same)))) h xs there refl)
    (λ h there. each_more all own (λ g ys. ys ≡ own → length all ≡ g) (λ g ys found same. absurd (new g (found ∙ ap Some same))) (λ same. refl) h own there refl)
    j cs e k f

module _ (p : Program) (nodes : List NetNode) (origins : List Origin) (all : List (List Condition)) (node : NetNode) (origin : Origin) (front : List Condition) (condition : Condition)
    (grown : AreGrown p nodes origins all) (behind : IsParentNode all origin.parent front) (is_front : IsRuleFront p (front ++ condition ∷ [])) (window : has_window p condition ≡ true)
    (missing : (k : ℕ) (o : Origin) → slice_get origins k ≡ Some o → o.parent ≡ origin.parent → o.condition.now ≡ condition → ⊥)
    (from : IsOfOrigin node origin) (own_is : origin.condition.now ≡ condition) (fresh : IsFresh p node) where
  node_behind : IsParentNode all node.parent front
  node_behind = subst (λ (o : Option ℕ). IsParentNode all o front) (sym from.parent) behind

  window_is : has_good_window p (pattern_of (condition_of node.node)) ≡ true
  window_is = ap (λ (c : Condition). has_window p c) (from.condition ∙ own_is) ∙ window

  built_more : AreBuilt p (nodes ++ node ∷ []) (all ++ (front ++ condition ∷ []) ∷ [])
  built_more =
      subst (λ (c : Condition). AreBuilt p (nodes ++ node ∷ []) (all ++ (front ++ c ∷ []) ∷ [])) (from.condition ∙ own_is)
      (one_more p nodes all node front grown.built node_behind window_is fresh)

  from_more : (k : ℕ) (n : NetNode) (o : Origin) → slice_get (nodes ++ node ∷ []) k ≡ Some n → slice_get (origins ++ origin ∷ []) k ≡ Some o → IsOfOrigin n o
  from_more k n o e f =
      each_more nodes node (λ i m. (r : Origin) → slice_get (origins ++ origin ∷ []) i ≡ Some r → IsOfOrigin m r)
      (λ i m at r there. each_more origins origin (λ h q. h ≡ i → IsOfOrigin m q)
      (λ h q found same. grown.from i m q at (ap (slice_get origins) (sym same) ∙ found))
      (λ same. let within : i < length nodes = slice_get_within nodes i m at in let count = grown.count in absurd (omega arith)) i r there refl)
      (λ r there. each_more origins origin (λ h q. h ≡ length nodes → IsOfOrigin node q)
      (λ h q found same. let within : h < length origins = slice_get_within origins h q found in let count = grown.count in absurd (omega arith))
      (λ same. from) (length nodes) r there refl)
      k n e o f

  pub grown_more : AreGrown p (nodes ++ node ∷ []) (origins ++ origin ∷ []) (all ++ (front ++ condition ∷ []) ∷ [])
  grown_more = record {
    built = built_more;
    fronts = each_more all (front ++ condition ∷ []) (λ k cs. IsRuleFront p cs) grown.fronts is_front;
    distinct = distinct_more all (front ++ condition ∷ []) grown.distinct (no_node p nodes origins all grown origin.parent front condition behind missing);
    count = let same = grown.count in simp length-append (omega arith);
    from = from_more;
  }

-- ---- one condition more of a rule

module _ (p : Program) (nodes : List NetNode) (origins : List Origin) (all more : List (List Condition)) (place : ℕ) (rule : Rule) (i : ℕ) (condition : Condition) where
  pub chain_more : In rule p.rules → list_all (has_window p) rule.conditions ≡ true → i < length rule.conditions → condition ≡ get_or rule.conditions i condition → IsRuleFront p (take i rule.conditions ++ condition ∷ []) × (has_window p condition ≡ true)
  chain_more there windows within item = (
    (rule, there, i + 1, ap (λ (c : Condition). take i rule.conditions ++ c ∷ []) item ∙ sym (take_more rule.conditions i condition within)),
    passes_at (has_window p) rule.conditions i condition windows (slice_get-get_or rule.conditions i condition within ∙ ap Some (sym item)),
  )

-- ---- one rule more

module _ (all more : List (List Condition)) (ends : List ℕ) (rules : List Rule) (rule : Rule) (last : Option ℕ) (i : ℕ) (have : HaveEnds all ends rules i) (count : length ends ≡ i)
    (found : slice_get rules i ≡ Some rule) (ended : IsParentNode (all ++ more) last rule.conditions) (some : nat_le 1 (length rule.conditions) ≡ true) where
  abbrev IsEnd : ℕ → Rule → Type 0
  IsEnd place r = (end : ℕ) × (slice_get (ends ++ unwrap_or last 0 ∷ []) place ≡ Some end) × (slice_get (all ++ more) end ≡ Some r.conditions)

  pub ends_more : HaveEnds (all ++ more) (ends ++ unwrap_or last 0 ∷ []) rules (i + 1)
  ends_more place r lt e = by (below_or_last place i lt)
    where
      by : (place < i) ⊎ (place ≡ i) → IsEnd place r
      by (inl below) =
          let h = have place r below e in
          (h.0, get-append_left ends (unwrap_or last 0 ∷ []) place h.0 h.1, get-append_left all more h.0 r.conditions h.2)
      by (inr at) =
          let known : Some rule ≡ Some r = sym found ∙ ap (slice_get rules) (sym at) ∙ e in
          let same : rule ≡ r = cc in (
            unwrap_or last 0,
            ap (slice_get (ends ++ unwrap_or last 0 ∷ [])) (at ∙ sym count) ∙ get-last ends (unwrap_or last 0),
            subst (λ (s : Rule). slice_get (all ++ more) (unwrap_or last 0) ≡ Some s.conditions) same (ending (all ++ more) last rule.conditions ended some),
          )
