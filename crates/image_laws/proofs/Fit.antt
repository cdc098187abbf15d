-- The image of a lawful world fits, where its numbers are small.
use Rattle.image_laws.proofs.Common.{◌≡◌, ◌∙◌, ◌&&◌, ◌||◌, ◌==◌, not, ℕ, ℤ, pos, ◌<◌, ◌≤◌, ◌^◌, ◌≤ℤ◌, inl, inr, Bool, true, false, List, [], ◌∷◌, map, length}
use Rattle.image_laws.proofs.Common.{Option, Some, None, refl, sym, ap, subst, arith, slice_get, take, IsSorted, In, EachOnce, Tag, Fact, Extra, FiredMatch}
use Rattle.image_laws.proofs.Common.{Image, Condition, Life, Plain, Explicit, Finite, Infinite, LifeTable, Match, Program, Rule, is_present, is_inside}
use Rattle.image_laws.proofs.Common.{is_candidate, candidates, fits, argument, pattern_of, tests_hold, name_of, unbound, in_map, of_map, passed, has_in}
use Rattle.image_laws.proofs.Common.{rule_of, IsLawful, FollowedBy, EventsInOrder, World, snapshot, pending, AreSafe, IsKept, named, is_alive, is_forgotten}
use Rattle.image_laws.proofs.Common.{is_pending_named, is_tested, not_alive, tag_cmp, match_fired, snapshot_of, IsImageOf, AreOwners, laden, int_cmp, IsExtraIn}
use Rattle.image_laws.proofs.Common.{and_from, and_parts, false_from_ne_true, tag_total, below_each, sorted_once, in_lost, laden_rows}
use Rattle.image_laws.{specs.Fitting.{world_of, IsNextNumber, IsForgettable, IsLadenRow, IsLadenMatch, IsNeeded, Fits}, proofs.Imaged.{image_tags, image_facts}}
use Rattle.{image_laws.proofs.Imaged.{image_kept, forgotten_is}, std.specs.{List.{AllByRecursion, list_any, IsDistinct}, Int.Signed.{≤ℤ_refl}}}
use Rattle.std.{proofs.lemmas.{Bool.Decides.{nat_tests}, Option.{slice_get_within}, List.{take_all, length-map}}, specs.List.Sorted.{IsStrictlySortedBy}}
use Rattle.{std.proofs.lemmas.Map.Steps.{length-le_from_distinct_below}, row_delta.specs.declared.row.{Named.{Named}, Row.{Row}}}
use Rattle.rule_model.specs.{declared.condition.{Condition.TheVariants.{Negated, Existing, Folded, Plain as plain_condition}, Pattern.{Pattern}}, Rows.{rows}}
use Rattle.rule_model.{proofs.{Named.{of_filter, named_of}, Once.{once_filter, once_facts, once_map, one_fact}}, specs.Matches.{matches, has_match}}
use Rattle.{rule_model.specs.Types.{is_event}, join_memory.specs.{Standing.{clean, cleaned}, Joined.{has_name}}, condition_rows.specs.Sets.{rows_of, partners}}
use Rattle.{condition_rows.proofs.Ends.{name_in, in_has as row_in_has}, kept_meaning.specs.Kept.{is_kept}, fx_base.proofs.Sequences.{list_any-In}}
use Rattle.{fx_base.{proofs.{Sequences.{list_any-none}, Orders.{nat_cmp-Less}}, specs.declared.ids.FactId.{FactId}}, laden_rows.specs.Extras.{lost_partners}}
use Rattle.laden_rows.{specs.{Extras.{values_gathered}, Placed.{IsSmall, CanGather}}, proofs.Extras.{first_of_some}}
use Rattle.{fold_fn.proofs.{ResultLemmas.{length-rising}, Sorting.{sorted-rising}}, rule_world.{specs.Events.{most_millis}, proofs.Fresh.{below_of, below_all}}}
use Rattle.rule_world.proofs.{Ids.{under_all, id_number, id_below, one_id}, Pending.{has_pending}, Sound.{sound_on}}

-- ---- numbers that are few

differ : (x : ℕ) (xs : List ℕ) → (In x xs → ⊥) → AllByRecursion (λ y. (x == y) ≡ false) xs
differ x [] h = tt
differ x (y ∷ xs) h = (false_from_ne_true (x == y) (λ e. h (inl (number_is x y e))), differ x xs (λ i. h (inr i)))
  where
    number_is : (m n : ℕ) → (m == n) ≡ true → m ≡ n
    number_is m n e = grind (arith, nat_tests)

are_distinct : (xs : List ℕ) → EachOnce xs → IsDistinct ◌==◌ xs
unfolding IsDistinct
are_distinct [] once = tt
are_distinct (x ∷ xs) once = (differ x xs once.0, are_distinct xs once.1)

all_below : (n : ℕ) (xs : List ℕ) → ((x : ℕ) → In x xs → x < n) → (q : ℕ) → list_any (λ y. q == y) xs ≡ true → q < n
all_below n xs h q e =
    let r = list_any-In (λ y. q == y) xs e in
    subst (λ z. z < n) (sym (number_is q r.0 r.2)) (h r.0 r.1)
  where
    number_is : (m n : ℕ) → (m == n) ≡ true → m ≡ n
    number_is m n e = grind (arith, nat_tests)

few : (xs : List ℕ) (n : ℕ) → EachOnce xs → ((x : ℕ) → In x xs → x < n) → length xs ≤ n
few xs n once h = length-le_from_distinct_below xs n (are_distinct xs once) (all_below n xs h)

-- ---- events in the order of their tags

-- of two events in order the one with the lesser tag comes first
in_turn : (p : Program) (facts : List Fact) → EventsInOrder p facts → (f g : Fact) → In f facts → In g facts → is_event p f.ty.0 ≡ true → is_event p g.ty.0 ≡ true → f.tag.0 < g.tag.0
    → FollowedBy p f g
in_turn p [] o f g i j e k less = absurd i
in_turn p (x ∷ facts) o f g (inl a) (inl b) e k less =
    absurd (let same : f.tag.0 ≡ g.tag.0 = ap (λ (z : Fact). z.tag.0) (a ∙ sym b) in omega arith)
in_turn p (x ∷ facts) o f g (inl a) (inr j) e k less = subst (λ (z : Fact). FollowedBy p z g) (sym a) (o.0 g j)
in_turn p (x ∷ facts) o f g (inr i) (inl b) e k less =
    let back : FollowedBy p g f = subst (λ (z : Fact). FollowedBy p z f) (sym b) (o.0 f i) in
    absurd (let other : g.tag.0 < f.tag.0 = back.tags k e in omega arith)
in_turn p (x ∷ facts) o f g (inr i) (inr j) e k less = in_turn p facts o.1 f g i j e k less

module _ (p : Program) (w : World) (o : EventsInOrder p w.facts) where
  followed : (f g : Fact) → In f w.facts → In g w.facts → f.tag.0 < g.tag.0 → FollowedBy p f g
  followed f g i j less = record { tags = λ e k. less; starts = λ e k same. (in_turn p w.facts o f g i j e k less).starts e k same }

  sorted_events : (fs : List Fact) → IsStrictlySortedBy tag_cmp fs → ((f : Fact) → In f fs → In f w.facts) → EventsInOrder p fs
  unfolding IsStrictlySortedBy
  sorted_events [] s there = tt
  sorted_events (f ∷ fs) s there = (
    λ g i. followed f g (there f (inl refl)) (there g (inr i)) (nat_cmp-Less f.tag.0 g.tag.0 (below_each tag_cmp tag_total f fs s.0 g i)),
    sorted_events fs s.1 (λ g i. there g (inr i)),
  )

-- ---- what a condition gathers

can_gather : (c : Condition) (e : Extra) (fs : List Fact) → e.count ≡ length fs → e.values ≡ values_gathered c fs → CanGather c e
can_gather (plain_condition q) e fs n g = g
can_gather (Negated q) e fs n g = g
can_gather (Existing q) e fs n g = g
can_gather (Folded a) e fs n g = (
  ap length g ∙ length-rising (map (argument a.arg) fs) ∙ length-map fs (argument a.arg) ∙ sym n,
  subst (λ vs. IsSorted int_cmp vs) (sym g) (sorted-rising (map (argument a.arg) fs)),
)

module _ (p : Program) (table : LifeTable) (w : World) (image : Image) (safe : AreSafe p table) (l : IsLawful p w) (is : IsImageOf p table w image) where
  there : (f : Fact) → In f image.facts → In f w.facts
  there f i = ((image_facts p table w image safe l is f).0 i).0

  -- ---- the facts of a lawful world

  image_once : EachOnce image.facts
  image_once = sorted_once tag_cmp tag_total image.facts is.facts_in_order

  pub image_lawful : IsLawful p (world_of image)
  image_lawful = record {
    ordered = record {
      ids = once_map (λ (f : Fact). f.id) image.facts image_once (λ f g i j e. one_id w.facts f g l.ordered.ids (there f i) (there g j) (ap (λ (id : FactId). id.0) e));
      fresh_ids = under_all id_number image.next_id image.facts (λ f i. subst (λ n. f.id.0 < n) (sym is.next_id) (id_below w.next_id w.facts f l.ordered.fresh_ids (there f i)));
      tags = image_tags p table w image safe l is;
      fresh = below_all image.next_tag image.facts (λ f i. subst (λ n. f.tag.0 < n) (sym is.next_tag) (below_of w.next_tag w.facts l.ordered.fresh f (there f i)));
      fired = λ m e. absurd (let n : false ≡ true = e in cc);
    };
    once = tt;
    clock_low = subst (λ z. pos 0 ≤ℤ z) (sym is.clock) l.clock_low;
    clock_high = subst (λ z. z ≤ℤ most_millis) (sym is.clock) l.clock_high;
    last_low = λ entry. subst (λ z. pos 0 ≤ℤ z) (sym (is.last_starts.each entry)) (l.last_low entry);
    last_high = λ entry. subst (λ z. z ≤ℤ image.clock) (sym (is.last_starts.each entry)) (subst (λ z. w.reached.last_start entry ≤ℤ z) (sym is.clock) (l.last_high entry));
    promise_low = λ entry. subst (λ z. pos 0 ≤ℤ z) (sym (is.promises.each entry)) (l.promise_low entry);
    promise_high = λ entry. subst (λ z. z ≤ℤ most_millis) (sym (is.promises.each entry)) (l.promise_high entry);
    sound = λ f i. sound_on p w (world_of image) f (record {
      clock = subst (λ z. w.clock ≤ℤ z) (sym is.clock) (≤ℤ_refl w.clock);
      last = λ entry. subst (λ z. w.reached.last_start entry ≤ℤ z) (sym (is.last_starts.each entry)) (≤ℤ_refl (w.reached.last_start entry));
    }) (l.sound f (there f i));
    events = sorted_events p w l.events image.facts is.facts_in_order there;
    unbegun = λ b f i. l.unbegun (sym is.begun ∙ b) f (there f i);
  }

  -- ---- its extras have their places

  module _ (e : Extra) (x : IsExtraIn p (snapshot w) (is_forgotten p table w) e) where
    abbrev q : Pattern
    q = pattern_of x.condition

    abbrev lost : List Fact
    lost = lost_partners p (snapshot w) (is_forgotten p table w) q e.row

    lost_there : (f : Fact) → In f lost → In f w.facts
    lost_there f i = of_filter (is_candidate p q (snapshot w)) f w.facts (in_lost p q (snapshot w) (is_forgotten p table w) e.row f i).0

    finite_by : (f : Fact) → is_present p w.clock f ≡ true → (life : Option Life) → slice_get table.lives f.ty.0 ≡ life → is_alive p life w.clock f ≡ false
        → (n : ℤ) × (slice_get table.lives f.ty.0 ≡ Some (Finite n))
    finite_by f present None at h = absurd cc
    finite_by f present (Some Plain) at h = absurd cc
    finite_by f present (Some (Explicit expiry)) at h = absurd (let n : true ≡ false = sym present ∙ h in cc)
    finite_by f present (Some (Finite n)) at h = (n, at)
    finite_by f present (Some Infinite) at h = absurd cc

    abbrev Gone : Type 0
    Gone = (f : Fact) × In f lost

    some_lost : (f : Fact) × In f lost
    some_lost = first_of_some lost (subst (λ n. 0 < n) x.counted x.some)

    number_is : (m n : ℕ) → (m == n) ≡ true → m ≡ n
    number_is m n h = grind (arith, nat_tests)

    has_life : (n : ℤ) × (slice_get table.lives q.ty.0 ≡ Some (Finite n))
    has_life =
        let f = some_lost.0 in
        let i = in_lost p q (snapshot w) (is_forgotten p table w) e.row f some_lost.1 in
        let fitting = (and_parts (fits p q w.clock f) (is_inside p q q.window w.clock w.facts f) (passed (is_candidate p q (snapshot w)) f w.facts i.0)).0 in
        let parts = and_parts (is_present p w.clock f) (f.ty.0 == q.ty.0 && (f.entry.0 == q.entry.0 && tests_hold unbound f q.alone)) fitting in
        let ty : f.ty.0 ≡ q.ty.0 = number_is f.ty.0 q.ty.0 (and_parts (f.ty.0 == q.ty.0) (f.entry.0 == q.entry.0 && tests_hold unbound f q.alone) parts.1).0 in
        let gone : is_forgotten p table w (name_of f) ≡ true = passed (λ (g : Fact). is_forgotten p table w (name_of g)) f (partners p q (snapshot w) e.row) some_lost.1 in
        let unkept : is_kept p table w f ≡ false = not_so (is_kept p table w f) (sym (forgotten_is p table w image safe l is f (lost_there f some_lost.1)) ∙ gone) in
        let life = finite_by f parts.0 (slice_get table.lives f.ty.0) refl (not_alive p table w safe f unkept) in
        (life.0, ap (slice_get table.lives) (sym ty) ∙ life.1)
      where
        not_so : (b : Bool) → not b ≡ true → b ≡ false
        not_so true h = sym h
        not_so false h = refl

    few_lost : length lost ≤ w.next_tag
    unfolding partners
    few_lost =
        let once = once_filter (λ (g : Fact). is_forgotten p table w (name_of g)) (partners p q (snapshot w) e.row)
        (once_filter _ (candidates p q (snapshot w)) (once_filter (is_candidate p q (snapshot w)) w.facts (once_facts w.facts l.ordered.tags))) in
        let tags = once_map (λ (f : Fact). f.tag.0) lost once (λ f g i j h. one_fact w.facts l.ordered.tags f g (lost_there f i) (lost_there g j) (ap tag_of h)) in
        let n = few (map (λ (f : Fact). f.tag.0) lost) w.next_tag tags (λ t i.
        let f = of_map (λ (f : Fact). f.tag.0) t lost i in
        subst (λ z. z < w.next_tag) f.2 (below_of w.next_tag w.facts l.ordered.fresh f.0 (lost_there f.0 f.1))) in
        subst (λ z. z ≤ w.next_tag) (length-map lost (λ (f : Fact). f.tag.0)) n
      where
        tag_of : ℕ → Tag
        tag_of n = record { 0 = n }

    is_placed : IsSmall image.next_tag → IsForgettable p table e
    is_placed small = record {
      place = record {
        rule = x.rule;
        stands = x.stands;
        condition = x.condition;
        placed = x.placed;
        aside = x.aside;
        first = x.first;
        some = (let h : 0 < e.count = x.some in omega arith);
        small = (let a : e.count ≡ length lost = x.counted in let b : length lost ≤ w.next_tag = few_lost in let c : image.next_tag ≤ 2 ^ 61 = small in let d : image.next_tag ≡ w.next_tag = is.next_tag in omega (arith, a, b, c, d));
        gathered = can_gather x.condition e lost x.counted x.gathered;
      };
      life = has_life.0;
      finite = has_life.1;
    }

  -- ---- its rows are there

  module _ (owners : ℕ → ℕ → ℕ) (own : AreOwners p owners) where
    laden_is : (place : ℕ) (rule : Rule) → slice_get p.rules place ≡ Some rule → (n : ℕ) (row : Row)
        → laden p (snapshot_of image) image.extras (owners place) rule.conditions n row ≡ cleaned (rows_of p (snapshot w) (take n rule.conditions)) (is_forgotten p table w) row
    laden_is place rule stands n row =
        laden_rows p (snapshot w) (snapshot_of image) (is_forgotten p table w) image.extras owners l.ordered.tags (image_kept p table w image safe l is) is.extras own place rule stands n row

    extra_laden : (e : Extra) → IsExtraIn p (snapshot w) (is_forgotten p table w) e → IsLadenRow p image owners e.rule.0 e.row e.condition
    extra_laden e x = record {
      rule = x.rule;
      stands = x.stands;
      conditions = (let h : e.condition < length x.rule.conditions = slice_get_within x.rule.conditions e.condition x.condition x.placed in omega arith);
      there = laden_is e.rule.0 x.rule x.stands e.condition e.row ∙ and_from (rows_of p (snapshot w) (take e.condition x.rule.conditions) e.row) (clean (is_forgotten p table w) e.row) x.there x.kept;
    }

    match_laden : (m : Match) → has_match (matches p (snapshot w)) m ≡ true → clean (is_forgotten p table w) m.row ≡ true → IsLadenMatch p image owners m.rule.0 m.row
    unfolding rows
    match_laden m e kept =
        let r = rule_of p (snapshot w) m e in
        let n : length r.rule.conditions ≤ length r.rule.conditions = omega arith in (
          r.rule,
          r.there,
          laden_is m.rule.0 r.rule r.there (length r.rule.conditions) m.row
              ∙ ap (λ cs. cleaned (rows_of p (snapshot w) cs) (is_forgotten p table w) m.row) (take_all (length r.rule.conditions) r.rule.conditions n)
              ∙ and_from (rows_of p (snapshot w) r.rule.conditions m.row) (clean (is_forgotten p table w) m.row) (row_in_has m.row _ r.row) kept,
        )

    fired_laden : (m : FiredMatch) → In m image.fired → IsLadenMatch p image owners m.rule.0 m.row
    fired_laden m i =
        let h = sym (is.fired (match_fired m)) ∙ has_in (match_fired m) (map match_fired image.fired) (in_map match_fired m image.fired i) in
        let parts = and_parts (has_match w.fired (match_fired m)) (clean (is_forgotten p table w) m.row) h in
        match_laden (match_fired m) (l.ordered.fired (match_fired m) parts.0) parts.1

    -- ---- its facts are kept

    -- a pending match names kept facts alone
    pending_clean : (m : Match) → has_match (pending p w) m ≡ true → has_match (matches p (snapshot w)) m ≡ true → clean (is_forgotten p table w) m.row ≡ true
    pending_clean m pends e =
        ap not (list_any-none (is_forgotten p table w) m.row.facts (λ who own.
        let r = rule_of p (snapshot w) m e in
        let f = named_of p (snapshot w) r.rule.conditions m.row r.row who own in
        let kept : IsKept p table w f.0 = named m f.1 pends (subst (λ (n : Named). In n m.row.facts) (sym f.2) own) in
        ap (is_forgotten p table w) (sym f.2) ∙ forgotten_is p table w image safe l is f.0 f.1 ∙ ap not (is_tested p table w safe f.0 kept)))

    fact_needed : (f : Fact) → In f image.facts → IsNeeded p table image owners f
    unfolding is_kept
    fact_needed f i dead =
        let kept = is_tested p table w safe f ((is.facts f).0 i) in
        let own : is_pending_named p w f ≡ true = from_second (is_alive p (slice_get table.lives f.ty.0) w.clock f) (is_pending_named p w f) kept (ap (λ clock. is_alive p (slice_get table.lives f.ty.0) clock f) (sym is.clock) ∙ dead) in
        let m = list_any-In (λ (n : Match). has_name n.row.facts (name_of f)) (pending p w) own in
        let pends = has_in m.0 (pending p w) m.1 in
        let parts = and_parts (has_match (matches p (snapshot w)) m.0) (not (has_match w.fired m.0)) (sym (has_pending p w m.0) ∙ pends) in
        let unfired : has_match w.fired m.0 ≡ false = not_so (has_match w.fired m.0) parts.1 in (
          m.0,
          match_laden m.0 parts.0 (pending_clean m.0 pends parts.0),
          is.fired m.0 ∙ ap (λ b. b && clean (is_forgotten p table w) m.0.row) unfired,
          name_in (name_of f) m.0.row.facts m.2,
        )
      where
        not_so : (b : Bool) → not b ≡ true → b ≡ false
        not_so true h = sym h
        not_so false h = refl

        from_second : (a b : Bool) → (a || b) ≡ true → a ≡ false → b ≡ true
        from_second true b h k = absurd (let n : true ≡ false = k in cc)
        from_second false b h k = h

  pub image_fits : IsNextNumber image.next_id → IsNextNumber image.next_tag → IsSmall image.run.lines → IsSmall image.run.firings → Fits p table image
  image_fits ids tags lines firings = record {
    last_starts = is.last_starts.as_many;
    promises = is.promises.as_many;
    next_id = ids;
    next_tag = tags;
    lines = lines;
    firings = firings;
    lawful = image_lawful;
    facts_in_order = is.facts_in_order;
    fired_in_order = is.fired_in_order;
    extras_in_order = is.extras.in_order;
    placed = λ e i. is_placed e ((is.extras.exact e).0 i) tags.1;
    rows = λ owners own e i. extra_laden owners own e ((is.extras.exact e).0 i);
    fired = λ owners own m i. fired_laden owners own m i;
    needed = λ owners own f i. fact_needed owners own f i;
  }
