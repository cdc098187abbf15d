-- The facts that are meant, as they go and come.
use Rattle.pattern_gate.proofs.Common.{◌≡◌, ◌∙◌, sym, ap, refl, subst, inl, inr, ℕ, ◌==◌, ℤ, List, [], ◌∷◌, ◌++◌, map, Bool, true, false, cond, not, ◌&&◌, ◌||◌}
use Rattle.pattern_gate.proofs.Common.{Option, Some, None, arith, option_to_list, filter, list_any, AllByRecursion, nat_cmp, Less, Decides-eqb, nat_tests, In}
use Rattle.pattern_gate.proofs.Common.{Fact, HaveDistinctTags, name_of, Pattern, of_map, in_right, in_map, in_left, filter_same, filter_swap, MayPass, MayStart}
use Rattle.pattern_gate.proofs.Common.{MayGo, Arrival, named_of, after, has_tag, WindowKind, arrival_of, is_meant, is_given_meant, is_one_meant, less_fact}
use Rattle.pattern_gate.proofs.Common.{less_facts, more_fact, more_facts, LetsAllGo, LetsCome, LetsAllCome, append_assoc, append-nil, map-append, shares_tag}
use Rattle.pattern_gate.proofs.Common.{Tag, AllOf, of_filter, in_filter, passed, distinct_filtered}
use Rattle.window_gate.specs.declared.change.{WindowKind.TheVariants.{Whole, Time, Length}, GateChange.TheVariants.{Come, Gone}}
use Rattle.{std.{specs.List.Sorted.{IsStrictlySortedBy}, proofs.lemmas.List.Elements.{filter-append}}, rule_model.proofs.Once.{one_fact}}
use Rattle.{condition_rows.proofs.Ends.{in_name}, fx_base.proofs.Sequences.{filter-all}}

-- ---- filters

pub map_if : {A B : Type 0} (g : A → B) (b : Bool) (x : A) (xs : List A) → cond b (g x ∷ map g xs) (map g xs) ≡ map g (cond b (x ∷ xs) xs)
map_if g true x xs = refl
map_if g false x xs = refl

-- a filter of what a function makes
pub filter_made : {A B : Type 0} (test : B → Bool) (g : A → B) (xs : List A) → filter test (map g xs) ≡ map g (filter (λ x. test (g x)) xs)
filter_made test g [] = refl
filter_made test g (x ∷ xs) = ap (λ ys. cond (test (g x)) (g x ∷ ys) ys) (filter_made test g xs) ∙ map_if g (test (g x)) x (filter (λ y. test (g y)) xs)

both_kept : {A : Type 0} (a : Bool) (second : A → Bool) (x : A) (kept rest : List A) → filter second kept ≡ rest → filter second (cond a (x ∷ kept) kept) ≡ cond (a && second x) (x ∷ rest) rest
both_kept true second x kept rest h = ap (λ ys. cond (second x) (x ∷ ys) ys) h
both_kept false second x kept rest h = h

-- one filter behind another
pub filter_both : {A : Type 0} (first second : A → Bool) (xs : List A) → filter second (filter first xs) ≡ filter (λ x. first x && second x) xs
filter_both first second [] = refl
filter_both first second (x ∷ xs) = both_kept (first x) second x (filter first xs) (filter (λ y. first y && second y) xs) (filter_both first second xs)

-- tests that agree on the members leave the same
pub filter_among : {A : Type 0} (test other : A → Bool) (xs : List A) → ((x : A) → In x xs → test x ≡ other x) → filter test xs ≡ filter other xs
filter_among test other [] h = refl
filter_among test other (x ∷ xs) h =
    ap (λ b. cond b (x ∷ filter test xs) (filter test xs)) (h x (inl refl)) ∙ ap (λ ys. cond (other x) (x ∷ ys) ys) (filter_among test other xs (λ y i. h y (inr i)))

-- no member passes
none_passes : {A : Type 0} (test : A → Bool) (xs : List A) → ((x : A) → In x xs → test x ≡ false) → list_any test xs ≡ false
none_passes test [] h = refl
none_passes test (x ∷ xs) h = ap (λ b. b || list_any test xs) (h x (inl refl)) ∙ none_passes test xs (λ y i. h y (inr i))

-- ---- tags

abbrev pub number : Fact → ℕ
number f = f.tag.0

abbrev tag_of : ℕ → Tag
tag_of n = record { 0 = n }

above_all : (n : ℕ) (facts : List Fact) → AllByRecursion (λ m. nat_cmp n m ≡ Less) (map number facts) → (g : Fact) → In g facts → nat_cmp n g.tag.0 ≡ Less
above_all n [] less g i = absurd i
above_all n (f ∷ facts) less g (inl e) = ap (λ (h : Fact). nat_cmp n h.tag.0) e ∙ less.0
above_all n (f ∷ facts) less g (inr i) = above_all n facts less.1 g i

-- in the order of their tags, those behind have greater ones
pub rises : (f : Fact) (facts : List Fact) → IsStrictlySortedBy nat_cmp (map number (f ∷ facts)) → (g : Fact) → In g facts → nat_cmp f.tag.0 g.tag.0 ≡ Less
unfolding IsStrictlySortedBy
rises f facts rise g i = above_all f.tag.0 facts rise.0 g i

pub rising_rest : (f : Fact) (facts : List Fact) → IsStrictlySortedBy nat_cmp (map number (f ∷ facts)) → IsStrictlySortedBy nat_cmp (map number facts)
unfolding IsStrictlySortedBy
rising_rest f facts rise = rise.1

-- a number is not less than itself
not_less : (m n : ℕ) → nat_cmp m n ≡ Less → m ≡ n → ⊥
not_less m n less e = grind (arith, nat_tests)

-- tags that rise are distinct
pub rising : (facts : List Fact) → IsStrictlySortedBy nat_cmp (map number facts) → HaveDistinctTags facts
rising [] rise = tt
rising (f ∷ facts) rise = (
  λ i. (let r = of_map (λ (g : Fact). g.tag) f.tag facts i in not_less f.tag.0 r.0.tag.0 (rises f facts rise r.0 r.1) (ap (λ (t : Tag). t.0) (sym r.2))),
  rising facts (rising_rest f facts rise),
)

-- ---- a fact goes

abbrev pub is_other : Fact → Fact → Bool
is_other f g = not (f.tag.0 == g.tag.0)

same_tag : (f g : Fact) → (f.tag.0 == g.tag.0) ≡ true → f.tag ≡ g.tag
same_tag f g e = ap tag_of ((Decides-eqb f.tag.0 g.tag.0).0 e)

-- tags that are not the same part two facts
apart : (f g : Fact) → (f.tag ≡ g.tag → ⊥) → (f.tag.0 == g.tag.0) ≡ false
apart f g h = by (f.tag.0 == g.tag.0) refl
  where
    by : (b : Bool) → (f.tag.0 == g.tag.0) ≡ b → b ≡ false
    by true e = absurd (h (same_tag f g e))
    by false e = refl

-- the facts that do not go
abbrev pub left : List Fact → List Fact → List Fact
left facts gone = filter (λ (g : Fact). not (shares_tag gone g)) facts

-- the first of facts with distinct tags have distinct tags
distinct_front : (facts others : List Fact) → HaveDistinctTags (facts ++ others) → HaveDistinctTags facts
distinct_front [] others d = tt
distinct_front (f ∷ facts) others d = (
  λ i. d.0 (let r = of_map (λ (g : Fact). g.tag) f.tag facts i in
      subst (λ (t : Tag). In t (map (λ (g : Fact). g.tag) (facts ++ others))) r.2 (in_map (λ (g : Fact). g.tag) r.0 (facts ++ others) (in_left r.0 facts others r.1))),
  distinct_front facts others d.1,
)

module _ (q : Pattern) where
  -- the arrivals of the facts that are meant
  abbrev pub meant : List Fact → List Arrival
  meant facts = map arrival_of (filter (is_meant q) facts)

  stays : (facts : List Fact) → HaveDistinctTags facts → (f : Fact) → In f facts → is_meant q f ≡ false → (g : Fact) → In g (filter (is_meant q) facts) → is_other f g ≡ true
  stays facts d f i e g j = ap not (apart f g (λ t.
      let is : f ≡ g = one_fact facts d f g i (of_filter (is_meant q) g facts j) t in
      let torn : false ≡ true = sym e ∙ ap (is_meant q) is ∙ passed (is_meant q) g facts j in cc))

  less_by : (facts : List Fact) → HaveDistinctTags facts → (f : Fact) → In f facts → (b : Bool) → is_meant q f ≡ b
      → cond b (after (meant facts) (Gone (name_of f))) (meant facts) ≡ meant (filter (is_other f) facts)
  less_by facts d f i true e =
      filter_made (λ (a : Arrival). not (has_tag f.tag.0 a.named)) arrival_of (filter (is_meant q) facts) ∙ ap (map arrival_of) (filter_swap (is_other f) (is_meant q) facts)
  less_by facts d f i false e =
      ap (map arrival_of) (sym (filter_swap (is_meant q) (is_other f) facts ∙ filter-all (is_other f) (filter (is_meant q) facts) (stays facts d f i e)))

  -- what is left is what is meant of the other facts
  less_one : (facts : List Fact) → HaveDistinctTags facts → (f : Fact) → In f facts → less_fact q (meant facts) f ≡ meant (filter (is_other f) facts)
  less_one facts d f i = less_by facts d f i (is_meant q f) refl

  neither_of : (a b : Bool) → (a || b) ≡ false → (a ≡ false) × (b ≡ false)
  neither_of true b e = absurd (let n : true ≡ false = e in cc)
  neither_of false b e = (refl, e)

  neither : (a b : Bool) → (not a && not b) ≡ not (a || b)
  neither true b = refl
  neither false b = refl

  left_more : (facts : List Fact) (f : Fact) (gone : List Fact) → left (filter (is_other f) facts) gone ≡ left facts (f ∷ gone)
  left_more facts f gone =
      filter_both (is_other f) (λ (g : Fact). not (shares_tag gone g)) facts
      ∙ filter_same (λ (g : Fact). is_other f g && not (shares_tag gone g)) (λ (g : Fact). not (shares_tag (f ∷ gone) g)) facts (λ g. neither (f.tag.0 == g.tag.0) (shares_tag gone g))

  -- the rest of the facts that go is among what is left
  still_there : (facts : List Fact) (f : Fact) (gone : List Fact) → HaveDistinctTags (f ∷ gone) → AllOf facts (f ∷ gone) → AllOf (filter (is_other f) facts) gone
  still_there facts f gone d all g i =
      in_filter (is_other f) g facts (ap not (apart f g (λ t. d.0 (subst (λ (u : Tag). In u (map (λ (h : Fact). h.tag) gone)) (sym t) (in_map (λ (h : Fact). h.tag) g gone i))))) (all g (inr i))

  pub less_all : (gone facts : List Fact) → HaveDistinctTags facts → HaveDistinctTags gone → AllOf facts gone → less_facts q (meant facts) gone ≡ meant (left facts gone)
  less_all [] facts d once all = ap meant (sym (filter-all (λ (g : Fact). not (shares_tag [] g)) facts (λ g i. refl)))
  less_all (f ∷ gone) facts d once all =
      ap (λ arrivals. less_facts q arrivals gone) (less_one facts d f (all f (inl refl)))
      ∙ less_all gone (filter (is_other f) facts) (distinct_filtered (is_other f) facts d) once.1 (still_there facts f gone once all)
      ∙ ap meant (left_more facts f gone)

  -- ---- what a window takes

  may_go : (kind : WindowKind) (facts : List Fact) (f : Fact) → In f facts → is_meant q f ≡ true → MayGo kind (map named_of (meant facts)) (name_of f)
  may_go Whole facts f i e =
      in_name (name_of f) (map named_of (meant facts)) (in_map named_of (arrival_of f) (meant facts) (in_map arrival_of f (filter (is_meant q) facts) (in_filter (is_meant q) f facts e i)))
  may_go (Time span) facts f i e = tt
  may_go (Length count) facts f i e = tt

  pub lets_all : (kind : WindowKind) (clock : ℤ) → MayPass kind clock clock → (gone facts : List Fact) → HaveDistinctTags facts → HaveDistinctTags gone → AllOf facts gone
      → LetsAllGo kind q clock (meant facts) gone
  lets_all kind clock pass [] facts d once all = tt
  lets_all kind clock pass (f ∷ gone) facts d once all = (
    λ e. record { passes = pass; changes = may_go kind facts f (all f (inl refl)) e },
    subst (λ arrivals. LetsAllGo kind q clock arrivals gone) (sym (less_one facts d f (all f (inl refl))))
        (lets_all kind clock pass gone (filter (is_other f) facts) (distinct_filtered (is_other f) facts d) once.1 (still_there facts f gone once all)),
  )

  -- ---- a fact comes

  more_by : (facts : List Fact) (f : Fact) (b : Bool) → is_meant q f ≡ b → cond b (after (meant facts) (Come (name_of f) f.times.start)) (meant facts) ≡ meant (facts ++ f ∷ [])
  more_by facts f true e =
      sym (ap (map arrival_of) (filter-append (is_meant q) facts (f ∷ []) ∙ ap (λ b. filter (is_meant q) facts ++ cond b (f ∷ []) []) e) ∙ map-append arrival_of (filter (is_meant q) facts) (f ∷ []))
  more_by facts f false e =
      sym (ap (map arrival_of) (filter-append (is_meant q) facts (f ∷ []) ∙ ap (λ b. filter (is_meant q) facts ++ cond b (f ∷ []) []) e ∙ append-nil (filter (is_meant q) facts)))

  pub more_one : (facts : List Fact) (come : Option Fact) → more_fact q (meant facts) come ≡ meant (facts ++ option_to_list come)
  more_one facts None = ap meant (sym (append-nil facts))
  more_one facts (Some f) = more_by facts f (is_meant q f) refl

  -- its tag is new
  fresh : (facts : List Fact) (f : Fact) → HaveDistinctTags (facts ++ f ∷ []) → (g : Fact) → In g facts → f.tag ≡ g.tag → ⊥
  fresh [] f d g i e = i
  fresh (x ∷ facts) f d g (inl j) e =
      d.0 (subst (λ (t : Tag). In t (map (λ (h : Fact). h.tag) (facts ++ f ∷ []))) (e ∙ ap (λ (h : Fact). h.tag) j) (in_map (λ (h : Fact). h.tag) f (facts ++ f ∷ []) (in_right f facts (f ∷ []) (inl refl))))
  fresh (x ∷ facts) f d g (inr j) e = fresh facts f d.1 g j e

  new_tag : (facts : List Fact) (f : Fact) → HaveDistinctTags (facts ++ f ∷ []) → list_any (has_tag f.tag.0) (map named_of (meant facts)) ≡ false
  new_tag facts f d = none_passes (has_tag f.tag.0) (map named_of (meant facts)) (λ who i.
      let a = of_map named_of who (meant facts) i in
      let g = of_map arrival_of a.0 (filter (is_meant q) facts) a.1 in
      let is : name_of g.0 ≡ who = ap named_of g.2 ∙ a.2 in
      subst (λ named. has_tag f.tag.0 named ≡ false) is (apart f g.0 (fresh facts f d g.0 (of_filter (is_meant q) g.0 facts g.1))))

  pub lets_come : (kind : WindowKind) (clock : ℤ) → MayPass kind clock clock → (facts : List Fact) (f : Fact) → HaveDistinctTags (facts ++ f ∷ []) → (is_meant q f ≡ true → MayStart kind f.times.start)
      → LetsCome kind q clock (meant facts) (Some f)
  lets_come kind clock pass facts f d starts e = record { passes = pass; changes = (new_tag facts f d, starts e) }

  -- ---- facts come, one after the other

  pub more_all : (done facts : List Fact) → more_facts q (meant done) facts ≡ meant (done ++ facts)
  more_all done [] = ap meant (sym (append-nil done))
  more_all done (f ∷ facts) =
      ap (λ arrivals. more_facts q arrivals facts) (more_one done (Some f)) ∙ more_all (done ++ f ∷ []) facts ∙ ap meant (append_assoc done (f ∷ []) facts)

  pub lets_all_come : (kind : WindowKind) (clock : ℤ) → MayPass kind clock clock → (done facts : List Fact) → HaveDistinctTags (done ++ facts)
      → ((f : Fact) → In f facts → is_meant q f ≡ true → MayStart kind f.times.start) → LetsAllCome kind q clock (meant done) facts
  lets_all_come kind clock pass done [] d starts = tt
  lets_all_come kind clock pass done (f ∷ facts) d starts =
      let behind : HaveDistinctTags ((done ++ f ∷ []) ++ facts) = subst (λ (all : List Fact). HaveDistinctTags all) (sym (append_assoc done (f ∷ []) facts)) d in (
        lets_come kind clock pass done f (distinct_front (done ++ f ∷ []) facts behind) (starts f (inl refl)),
        subst (λ arrivals. LetsAllCome kind q clock arrivals facts) (sym (more_one done (Some f)))
            (lets_all_come kind clock pass (done ++ f ∷ []) facts behind (λ g i. starts g (inr i))),
      )

  -- ---- nothing that is meant goes or comes

  none_goes : (gone : List Fact) (arrivals : List Arrival) → list_any (is_meant q) gone ≡ false → less_facts q arrivals gone ≡ arrivals
  none_goes [] arrivals e = refl
  none_goes (f ∷ gone) arrivals e =
      let h = neither_of (is_meant q f) (list_any (is_meant q) gone) e in
      ap (λ b. less_facts q (cond b (after arrivals (Gone (name_of f))) arrivals) gone) h.0 ∙ none_goes gone arrivals h.1

  none_comes : (come : Option Fact) (arrivals : List Arrival) → is_given_meant q come ≡ false → more_fact q arrivals come ≡ arrivals
  none_comes None arrivals e = refl
  none_comes (Some f) arrivals e = ap (λ b. cond b (after arrivals (Come (name_of f) f.times.start)) arrivals) e

  pub none_meant : (gone : List Fact) (come : Option Fact) (arrivals : List Arrival) → is_one_meant q gone come ≡ false → more_fact q (less_facts q arrivals gone) come ≡ arrivals
  none_meant gone come arrivals e =
      let h = neither_of (list_any (is_meant q) gone) (is_given_meant q come) e in
      ap (λ left. more_fact q left come) (none_goes gone arrivals h.0) ∙ none_comes come arrivals h.1
