-- What a good certificate shows.
use Rattle.life_proof.proofs.Common.{◌≡◌, ◌⊎◌, inl, inr, ℕ, zero, suc, ℤ, pos, negsuc, ◌+ℤ◌, ◌-ℤ◌, ◌≤ℤ◌, ◌<ℤ◌, Bool, true, false, List, [], ◌∷◌, length, Some}
use Rattle.life_proof.proofs.Common.{None, refl, sym, ap, subst, ◌∙◌, arith, slice_get, ints, In, NetEdge, total, Condition, WindowTag, Whole, Time, Length}
use Rattle.life_proof.proofs.Common.{Life, Plain, Explicit, Finite, Infinite, LifeTable, Program, Rule, pattern_of, is_event, in_place, IsRunnable, IsLifeOf}
use Rattle.life_proof.proofs.Common.{Adds, of_fact, of_event, LivesFor, IsLife, Limit, finite, infinite, Below, plus, Placed, IsReach, start_point_of, end_of}
use Rattle.life_proof.proofs.Common.{scope_at, Asked, Part, Proof, IsReachAsked, asked, asked_at, edges_for, tail_at, is_event_at, IsBounding, IsRound, IsShown}
use Rattle.life_proof.proofs.Common.{IsGoodPart, AreGoodParts, IsGood, IsLawfulLife, Spans, IsSafeLife, PatternLife, SolvesWith, distance, IsGreatestReach}
use Rattle.life_proof.{proofs.{Common.{of_times, same_distance}, Asked.{is_asked, scope_is}}, specs.Laws.{BoundsHold, LivesSuffice, GoodIsSafe}}
use Rattle.{life_proof.proofs.{Certified.{first_of, second_of, among, network_of, stands_at}, Tests.{false_is}}, fx_base.specs.declared.times.Times.{Times}}
use Rattle.{temporal_net.proofs.Sums.{adds_up}, rule_model.specs.declared.condition.Pattern.{Pattern}, life_meaning.specs.Lifetimes.{tail}}
use Rattle.{life_meaning.specs.Networks.{Occurrence}, life_edges.proofs.Solved.{points_of, points_agree}}

-- ---- what a part shows

-- the part for what is asked
record Shown (p : Program) (table : LifeTable) (a : Asked) (h : IsReachAsked p table a) : Type 0 where
  cycle : Bool
  edges : List NetEdge
  shown : IsShown cycle p (among h) a.from a.to a.life edges

part_for : (p : Program) (asked : List Asked) (parts : List Part) (a : Asked) → AreGoodParts p asked parts → In a asked → (part : Part) × IsGoodPart p a part
part_for p [] parts a g m = absurd m
part_for p (b ∷ asked) [] a g m = absurd g
part_for p (b ∷ asked) (part ∷ parts) a g (inl e) = (part, subst (λ (x : Asked). IsGoodPart p x part) (sym e) g.0)
part_for p (b ∷ asked) (part ∷ parts) a g (inr m) = part_for p asked parts a g.1 m

shown_for : (p : Program) (table : LifeTable) (certificate : Proof) → IsGood p table certificate → (a : Asked) (h : IsReachAsked p table a) → Shown p table a h
shown_for p table certificate good a h =
    let found = part_for p (asked p table) certificate.parts a good.parts (is_asked p table a h) in
    let part = found.0 in
    record {
      cycle = part.cycle;
      edges = part.edges;
      shown = subst (λ (cs : List Condition). IsShown part.cycle p cs a.from a.to a.life part.edges) (scope_is p a h.places) found.1.shown;
    }

-- in each solution of the network the start is at most the sum behind the end
along : (p : Program) (table : LifeTable) (a : Asked) → IsRunnable p → (h : IsReachAsked p table a) → (edges : List NetEdge) → IsBounding p (among h) a.from a.to a.life edges
    → (times : Occurrence → Times) → SolvesWith p (among h) (first_of h) (second_of h) times → distance (among h) (first_of h) (second_of h) times ≤ℤ total edges
along p table a runnable h edges b times s =
    let conditions = among h in
    let v = points_of conditions times in
    let solves = of_times p conditions (a.from ∷ a.to ∷ []) (network_of p table a runnable h).named times s in
    subst (λ (z : ℤ). z ≤ℤ total edges)
    (sym (same_distance conditions (first_of h) (second_of h) v times (points_agree conditions times) (scope_at h.places.rule.conditions (first_of h) h.places.i_stands) h.places.j_stands))
    (adds_up (edges_for p conditions a.from a.to) v solves (start_point_of a.to) edges (end_of a.from) b.members b.path)

-- no solution goes round a cycle whose sum is below 0
round : (p : Program) (table : LifeTable) (a : Asked) → IsRunnable p → (h : IsReachAsked p table a) → (edges : List NetEdge) → IsRound p (among h) a.from a.to edges
    → (times : Occurrence → Times) → SolvesWith p (among h) (first_of h) (second_of h) times → ⊥
round p table a runnable h edges r times s =
    let conditions = among h in
    let v = points_of conditions times in
    let solves = of_times p conditions (a.from ∷ a.to ∷ []) (network_of p table a runnable h).named times s in
    let x = r.closes.0 in
    none (v x) (total edges) (adds_up (edges_for p conditions a.from a.to) v solves x edges x r.members r.closes.1) r.negative
  where
    none : (a b : ℤ) → (a -ℤ a) ≤ℤ b → b <ℤ pos 0 → ⊥
    none a b h k = omega (arith, ints)

-- ---- bounds

within : (d sum n life : ℤ) → d ≤ℤ sum → (sum +ℤ n) ≤ℤ life → d ≤ℤ (life -ℤ n)
within d sum n life h k = omega (arith, ints)

shown_bounds : (p : Program) (table : LifeTable) (a : Asked) → IsRunnable p → (h : IsReachAsked p table a) → (cycle : Bool) (edges : List NetEdge)
    → IsShown cycle p (among h) a.from a.to a.life edges → (n : ℤ) → tail p (pattern_of h.places.j) ≡ finite n → (times : Occurrence → Times)
    → SolvesWith p (among h) (first_of h) (second_of h) times → distance (among h) (first_of h) (second_of h) times ≤ℤ (a.life -ℤ n)
shown_bounds p table a runnable h false edges b n e times s =
    let tail_is : tail_at p (slice_get (among h) a.to) ≡ finite n = ap (tail_at p) h.places.j_stands ∙ e in
    within (distance (among h) (first_of h) (second_of h) times) (total edges) n a.life (along p table a runnable h edges b times s)
    (subst (λ (l : Limit). Below (plus (finite (total edges)) l) (finite a.life)) tail_is b.within)
shown_bounds p table a runnable h true edges r n e times s = absurd (round p table a runnable h edges r times s)

pub bounds_hold : BoundsHold
bounds_hold p table certificate runnable good a h n e times s =
    let part = shown_for p table certificate good a h in
    shown_bounds p table a runnable h part.cycle part.edges part.shown n e times s

-- ---- reaches

-- solutions whose distances are bounded have a greatest one
greatest_of : (p : Program) (conditions : List Condition) (i j : Placed) (most : ℤ) → ((times : Occurrence → Times) → SolvesWith p conditions i j times → distance conditions i j times ≤ℤ most)
    → ((b : ℤ) → IsGreatestReach p conditions i j b → ⊥) → (d : ℕ) → (times : Occurrence → Times) → SolvesWith p conditions i j times → (most -ℤ pos d) ≤ℤ distance conditions i j times → ⊥
greatest_of p conditions i j most bounds none zero times s h =
    none most (record { bounds = bounds; times = times; solves = s; attained = equal (distance conditions i j times) most (bounds times s) h })
  where
    equal : (a b : ℤ) → a ≤ℤ b → (b -ℤ pos 0) ≤ℤ a → a ≡ b
    equal a b h k = omega (arith, ints)
greatest_of p conditions i j most bounds none (suc d) times s h =
    none (most -ℤ pos (suc d)) (record {
      bounds = λ other t. at_most (distance conditions i j other) (λ k. greatest_of p conditions i j most bounds none d other t k);
      times = times;
      solves = s;
      attained = equal (distance conditions i j times) (at_most (distance conditions i j times) (λ k. greatest_of p conditions i j most bounds none d times s k)) h;
    })
  where
    at_most : (a : ℤ) → ((most -ℤ pos d) ≤ℤ a → ⊥) → a ≤ℤ (most -ℤ pos (suc d))
    at_most a k = grind (arith, ints)

    equal : (a : ℤ) → a ≤ℤ (most -ℤ pos (suc d)) → (most -ℤ pos (suc d)) ≤ℤ a → a ≡ (most -ℤ pos (suc d))
    equal a h k = omega (arith, ints)

below_sum : (b sum n life : ℤ) → b ≤ℤ sum → (sum +ℤ n) ≤ℤ life → (b +ℤ n) ≤ℤ life
below_sum b sum n life h k = omega (arith, ints)

-- so far is a number that a number of steps down leads at most to another
steps : (a most : ℤ) → a ≤ℤ most → (d : ℕ) × ((most -ℤ pos d) ≤ℤ a)
steps a most h = by (most -ℤ a) refl
  where
    first : (d : ℕ) → (most -ℤ a) ≡ pos d → (most -ℤ pos d) ≤ℤ a
    first d e = omega (arith, ints)

    second : (d : ℕ) → (most -ℤ a) ≡ negsuc d → ⊥
    second d e = omega (arith, ints)

    by : (z : ℤ) → (most -ℤ a) ≡ z → (d : ℕ) × ((most -ℤ pos d) ≤ℤ a)
    by (pos d) e = (d, first d e)
    by (negsuc d) e = absurd (second d e)

-- a sum and a tail within the life, and a reach of at most the sum
reach_within : (sum : ℤ) (l : Limit) (life b : ℤ) → Below (plus (finite sum) l) (finite life) → b ≤ℤ sum → Below (plus (finite b) l) (finite life)
reach_within sum (finite n) life b h k = below_sum b sum n life k h
reach_within sum infinite life b h k = absurd h

-- a reach is within the life
shown_reach : (p : Program) (table : LifeTable) (a : Asked) → IsRunnable p → (h : IsReachAsked p table a) → (cycle : Bool) (edges : List NetEdge)
    → IsShown cycle p (among h) a.from a.to a.life edges → (r : Limit) → IsReach p (among h) (first_of h) (second_of h) r
    → Below (plus r (tail p (pattern_of h.places.j))) (finite a.life)
shown_reach p table a runnable h true edges g (finite b) reach = absurd (round p table a runnable h edges g reach.times reach.solves)
shown_reach p table a runnable h true edges g infinite reach = absurd (round p table a runnable h edges g reach.0.0 reach.0.1)
shown_reach p table a runnable h false edges g (finite b) reach =
    reach_within (total edges) (tail p (pattern_of h.places.j)) a.life b
    (subst (λ (l : Limit). Below (plus (finite (total edges)) l) (finite a.life)) (ap (tail_at p) h.places.j_stands) g.within)
    (subst (λ (z : ℤ). z ≤ℤ total edges) reach.attained (along p table a runnable h edges g reach.times reach.solves))
shown_reach p table a runnable h false edges g infinite reach =
    let times = reach.0.0 in
    let bounds = along p table a runnable h edges g in
    let down = steps (distance (among h) (first_of h) (second_of h) times) (total edges) (bounds times reach.0.1) in
    absurd (greatest_of p (among h) (first_of h) (second_of h) (total edges) bounds reach.1 down.0 times reach.0.1 down.1)

plain_tail : (p : Program) (pattern : Pattern) → is_event p pattern.ty.0 ≡ false → tail p pattern ≡ infinite
unfolding tail
plain_tail p pattern e = rw e refl

-- and what it runs over is on an event type
shown_event : (p : Program) (table : LifeTable) (a : Asked) (h : IsReachAsked p table a) → (cycle : Bool) (edges : List NetEdge)
    → IsShown cycle p (among h) a.from a.to a.life edges → is_event p (pattern_of h.places.j).ty.0 ≡ false → ⊥
shown_event p table a h true edges g e = false_is (sym e ∙ sym (ap (is_event_at p) h.places.j_stands) ∙ g.event)
shown_event p table a h false edges g e =
    subst (λ (l : Limit). Below (plus (finite (total edges)) l) (finite a.life)) (ap (tail_at p) h.places.j_stands ∙ plain_tail p (pattern_of h.places.j) e) g.within

shown_adds : (p : Program) (table : LifeTable) (a : Asked) → IsRunnable p → (h : IsReachAsked p table a) → Shown p table a h → (l : Limit)
    → Adds p (among h) (first_of h) (second_of h) l → Below l (finite a.life)
shown_adds p table a runnable h s l (of_fact fact is) = absurd (shown_event p table a h s.cycle s.edges s.shown fact)
shown_adds p table a runnable h s l (of_event event r reach is) =
    subst (λ (m : Limit). Below m (finite a.life)) (sym is) (shown_reach p table a runnable h s.cycle s.edges s.shown r reach)

-- ---- lives

by_window : (p : Program) (table : LifeTable) (certificate : Proof) → IsRunnable p → IsGood p table certificate → (rule : Rule) → In rule p.rules → (i : Placed)
    → slice_get rule.conditions i.place ≡ Some i.condition → (n : ℤ) → slice_get table.lives (pattern_of i.condition).ty.0 ≡ Some (Finite n)
    → (w : WindowTag) → (pattern_of i.condition).window ≡ w → (l : Limit) → LivesFor p rule.conditions i w l → Below l (finite n)
by_window p table certificate runnable good rule m i at n life (Time span) e l is =
    subst (λ (k : Limit). Below k (finite n)) (sym is) (subst (λ (w : WindowTag). Spans w n) e (good.lawful.windows rule m i.condition (in_place rule.conditions i.place i.condition at) n life))
by_window p table certificate runnable good rule m i at n life (Length count) e l is =
    absurd (subst (λ (w : WindowTag). Spans w n) e (good.lawful.windows rule m i.condition (in_place rule.conditions i.place i.condition at) n life))
by_window p table certificate runnable good rule m i at n life Whole e l some =
    let place = stands_at p.rules rule m in
    let a = asked_at place.0 i.place some.j.place n in
    let h : IsReachAsked p table a = record {
      places = record { rule = rule; stands = place.1; i = i.condition; i_stands = at; j = some.j.condition; j_stands = some.stands };
      whole = e;
      life_is = life;
      changes = some.changes;
    } in
    shown_adds p table a runnable h (shown_for p table certificate good a h) l some.adds

pub lives_suffice : LivesSuffice
lives_suffice p table certificate runnable good ty n life l g =
    by_window p table certificate runnable good g.rule g.stands g.i g.placed n (subst (λ (t : ℕ). slice_get table.lives t ≡ Some (Finite n)) (sym g.of_type) life)
    (pattern_of g.i.condition).window refl l g.lives

-- the life of a type is below a finite one of the table
life_below : (p : Program) (table : LifeTable) (certificate : Proof) → IsRunnable p → IsGood p table certificate → (ty : ℕ) (n : ℤ) → slice_get table.lives ty ≡ Some (Finite n)
    → pos 0 ≤ℤ n → (l : Limit) → IsLife p ty l → Below l (finite n)
life_below p table certificate runnable good ty n life low l is = by is.reached
  where
    by : (l ≡ finite (pos 0)) ⊎ PatternLife p ty l → Below l (finite n)
    by (inl e) = subst (λ (m : Limit). Below m (finite n)) (sym e) low
    by (inr g) = lives_suffice p table certificate runnable good ty n life l g

-- ---- tables

-- a life of one table has a place in another of the same length
other_life : (lives others : List Life) → length lives ≡ length others → (ty : ℕ) (life : Life) → slice_get lives ty ≡ Some life → (other : Life) × (slice_get others ty ≡ Some other)
other_life [] [] e ty life at = absurd cc
other_life [] (other ∷ others) e ty life at = absurd cc
other_life (life ∷ lives) [] e ty l at = absurd cc
other_life (life ∷ lives) (other ∷ others) e zero l at = (other, refl)
other_life (life ∷ lives) (other ∷ others) e (suc ty) l at = other_life lives others (omega (arith, e)) ty l at

safe_finite : (p : Program) (ty : ℕ) (n : ℤ) → is_event p ty ≡ true → (((l : Limit) → IsLife p ty l → Below l (finite n))) → (other : Life) → IsLifeOf p ty other
    → ((x : ℤ) → other ≡ Explicit x → ⊥) → IsSafeLife p ty (Finite n)
safe_finite p ty n event below Plain is none = absurd (false_is (sym is ∙ event))
safe_finite p ty n event below (Explicit x) is none = absurd (none x refl)
safe_finite p ty n event below (Finite m) is none = (m, is, below (finite m) is)
safe_finite p ty n event below Infinite is none = absurd (below infinite is)

pub good_is_safe : GoodIsSafe
good_is_safe p table lives certificate runnable is good = record { as_many = good.lawful.as_many; each = λ ty life at. by ty life at (good.lawful.each ty life at) }
  where
    by : (ty : ℕ) (life : Life) → slice_get table.lives ty ≡ Some life → IsLawfulLife p ty life → IsSafeLife p ty life
    by ty Plain at h = h
    by ty (Explicit x) at h = h
    by ty Infinite at h = h
    by ty (Finite n) at h =
        let other = other_life table.lives lives.lives (good.lawful.as_many ∙ sym is.as_many) ty (Finite n) at in
        let told = is.each ty other.0 other.1 in
        safe_finite p ty n h.0 (life_below p table certificate runnable good ty n at h.2) other.0 told
        (λ x e. unexpired x (sym h.1 ∙ (subst (IsLifeOf p ty) e told).1))
      where
        unexpired : (x : ℤ) → None ≡ Some x → ⊥
        unexpired x e = cc
