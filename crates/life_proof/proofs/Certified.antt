-- What is made of solved networks is good, since the table has the lives of the program.
use Rattle.life_proof.proofs.Common.{◌≡◌, ◌≢◌, inl, inr, ◌++◌, ◌<◌, ◌+◌, ℕ, zero, suc, ℤ, Bool, true, false, List, [], ◌∷◌, map, length, drop, get_or, Some}
use Rattle.life_proof.proofs.Common.{refl, sym, ap, subst, ◌∙◌, append_assoc, arith, slice_get, AllByRecursion, Contains, In, NetEdge, edge_at, total}
use Rattle.life_proof.proofs.Common.{IsUnboundedDifference, Condition, WindowTag, Whole, Time, Length, Life, Plain, Explicit, Finite, Infinite, LifeTable}
use Rattle.life_proof.proofs.Common.{Program, Rule, pattern_of, is_event, in_place, IsRunnable, IsLifeOf, scope, Adds, of_fact, of_event, LivesFor, IsLife}
use Rattle.life_proof.proofs.Common.{Limit, finite, infinite, Below, plus, Placed, IsReach, start_point_of, end_of, HaveNetwork, placed, rules_have_networks}
use Rattle.life_proof.proofs.Common.{scope_network, scope_at, Asked, Part, IsReachAsked, edges_for, scope_of, tail_at, is_event_at, IsBounding, IsRound}
use Rattle.life_proof.proofs.Common.{IsShown, IsGoodPart, AreGoodParts, IsSolvedPart, IsLawfulLife, Spans, IsLawfulTable, recursion_from_All, Contains-get_or}
use Rattle.life_proof.proofs.Common.{IsShortestPath, IsNegativeCycle, AreLives, tail, reached, AreSolved}
use Rattle.fx_base.specs.declared.bound.Bound.TheVariants as bound
use Rattle.life_proof.proofs.Asked.{scope_is}

-- ---- the two conditions that are asked about

abbrev pub first_of : {p : Program} {table : LifeTable} {a : Asked} → IsReachAsked p table a → Placed
first_of {a = a} h = placed a.from h.places.i

abbrev pub second_of : {p : Program} {table : LifeTable} {a : Asked} → IsReachAsked p table a → Placed
second_of {a = a} h = placed a.to h.places.j

abbrev pub among : {p : Program} {table : LifeTable} {a : Asked} → IsReachAsked p table a → List Condition
among h = scope h.places.rule.conditions (first_of h)

pub network_of : (p : Program) (table : LifeTable) (a : Asked) → IsRunnable p → (h : IsReachAsked p table a) → HaveNetwork (among h)
network_of p table a runnable h =
    scope_network h.places.rule.conditions (first_of h) (rules_have_networks p runnable h.places.rule (in_place p.rules a.rule h.places.rule h.places.stands))

-- what the second adds to the first is within the life
adds_below : (p : Program) (table : LifeTable) (a : Asked) → AreLives p table → (h : IsReachAsked p table a) → (l : Limit) → Adds p (among h) (first_of h) (second_of h) l
    → Below l (finite a.life)
adds_below p table a lives h l adds =
    let s = h.places in
    let conditions = s.rule.conditions in
    let life : IsLife p (pattern_of s.i).ty.0 (finite a.life) = lives.each (pattern_of s.i).ty.0 (Finite a.life) h.life_is in
    life.above_all l (record {
      rule = s.rule;
      stands = in_place p.rules a.rule s.rule s.stands;
      i = first_of h;
      placed = s.i_stands;
      of_type = refl;
      lives = subst (λ (w : WindowTag). LivesFor p conditions (first_of h) w l) (sym h.whole) (record { j = second_of h; stands = s.j_stands; changes = h.changes; adds = adds });
    })

-- so the second is on an event type
is_on_event : (p : Program) (table : LifeTable) (a : Asked) → AreLives p table → (h : IsReachAsked p table a) → is_event p (pattern_of h.places.j).ty.0 ≡ true
is_on_event p table a lives h = by (is_event p (pattern_of h.places.j).ty.0) refl
  where
    by : (b : Bool) → is_event p (pattern_of h.places.j).ty.0 ≡ b → is_event p (pattern_of h.places.j).ty.0 ≡ true
    by true e = e
    by false e = absurd (adds_below p table a lives h infinite (of_fact e refl))

reach_below : (p : Program) (table : LifeTable) (a : Asked) → AreLives p table → (h : IsReachAsked p table a) → (r : Limit) → IsReach p (among h) (first_of h) (second_of h) r
    → Below (plus r (tail p (pattern_of h.places.j))) (finite a.life)
reach_below p table a lives h r reach =
    adds_below p table a lives h (plus r (tail p (pattern_of h.places.j))) (of_event (is_on_event p table a lives h) r reach refl)

-- ---- its network

pub bounded : (p : Program) (table : LifeTable) (a : Asked) → IsRunnable p → AreLives p table → (h : IsReachAsked p table a)
    → IsUnboundedDifference (edges_for p (scope_of p a) a.from a.to) (start_point_of a.to) (end_of a.from) → ⊥
bounded p table a runnable lives h u =
    let conditions = among h in
    let here = subst (λ (cs : List Condition). IsUnboundedDifference (edges_for p cs a.from a.to) (start_point_of a.to) (end_of a.from)) (scope_is p a h.places) u in
    reach_below p table a lives h infinite
    (reached p conditions (first_of h) (second_of h) bound.Infinite (network_of p table a runnable h).named (scope_at h.places.rule.conditions (first_of h) h.places.i_stands) h.places.j_stands here)

path_good : (p : Program) (table : LifeTable) (a : Asked) → IsRunnable p → AreLives p table → (h : IsReachAsked p table a) → (edges : List NetEdge)
    → IsShortestPath (edges_for p (among h) a.from a.to) (start_point_of a.to) (end_of a.from) edges → IsBounding p (among h) a.from a.to a.life edges
path_good p table a runnable lives h edges s =
    let conditions = among h in
    let network = edges_for p conditions a.from a.to in
    let reach = reached p conditions (first_of h) (second_of h) (bound.Finite (total edges)) (network_of p table a runnable h).named
    (scope_at h.places.rule.conditions (first_of h) h.places.i_stands) h.places.j_stands s.sum in
    record {
      members = recursion_from_All (Contains network) edges s.way.members;
      path = s.way.leads;
      within = subst (λ (l : Limit). Below (plus (finite (total edges)) l) (finite a.life)) (sym (ap (tail_at p) h.places.j_stands)) (reach_below p table a lives h (finite (total edges)) reach);
    }

members_of : (edges : List NetEdge) (numbers : List ℕ) → AllByRecursion (λ (n : ℕ). n < length edges) numbers → AllByRecursion (Contains edges) (map (edge_at edges) numbers)
members_of edges [] h = tt
members_of edges (n ∷ numbers) h = (Contains-get_or edges n _ h.0, members_of edges numbers h.1)

some_of : (edges : List NetEdge) (numbers : List ℕ) → numbers ≢ [] → map (edge_at edges) numbers ≢ []
some_of edges [] some e = some refl
some_of edges (n ∷ numbers) some e = absurd cc

cycle_good : (p : Program) (table : LifeTable) (a : Asked) → AreLives p table → (h : IsReachAsked p table a) → (numbers : List ℕ)
    → IsNegativeCycle (edges_for p (among h) a.from a.to) numbers → IsRound p (among h) a.from a.to (map (edge_at (edges_for p (among h) a.from a.to)) numbers)
cycle_good p table a lives h numbers n =
    let network = edges_for p (among h) a.from a.to in
    record {
      members = members_of network numbers (recursion_from_All (λ (k : ℕ). k < length network) numbers n.numbers);
      some = some_of network numbers n.some;
      closes = n.closes;
      negative = n.negative;
      event = ap (is_event_at p) h.places.j_stands ∙ is_on_event p table a lives h;
    }

solved_good : (p : Program) (table : LifeTable) (a : Asked) → IsRunnable p → AreLives p table → (h : IsReachAsked p table a) → (cycle : Bool) (edges : List NetEdge)
    → AreSolved cycle (edges_for p (among h) a.from a.to) (start_point_of a.to) (end_of a.from) edges → IsShown cycle p (among h) a.from a.to a.life edges
solved_good p table a runnable lives h false edges s = path_good p table a runnable lives h edges s
solved_good p table a runnable lives h true edges (numbers, s, is) = subst (IsRound p (among h) a.from a.to) (sym is) (cycle_good p table a lives h numbers s)

pub part_good : (p : Program) (table : LifeTable) (a : Asked) → IsRunnable p → AreLives p table → IsReachAsked p table a → (part : Part) → IsSolvedPart p (scope_of p a) a part
    → IsGoodPart p a part
part_good p table a runnable lives h part s =
    let is = scope_is p a h.places in
    let here = subst (λ (cs : List Condition). AreSolved part.cycle (edges_for p cs a.from a.to) (start_point_of a.to) (end_of a.from) part.edges) is s.edges in
    record {
      rule = s.rule;
      from = s.from;
      to = s.to;
      shown = subst (λ (cs : List Condition). IsShown part.cycle p cs a.from a.to a.life part.edges) (sym is) (solved_good p table a runnable lives h part.cycle part.edges here);
    }

-- ---- the table

of_life : (p : Program) (ty : ℕ) (life : Life) → IsLifeOf p ty life → IsLawfulLife p ty life
of_life p ty Plain h = h
of_life p ty (Explicit expiry) h = h
of_life p ty (Finite n) h = (h.event, h.unexpired, h.above_zero)
of_life p ty Infinite h = (h.event, h.unexpired)

-- a place of what is in a list
pub stands_at : {A : Type 0} (xs : List A) (x : A) → In x xs → (place : ℕ) × (slice_get xs place ≡ Some x)
stands_at [] x h = absurd h
stands_at (y ∷ ys) x (inl e) = (0, ap Some (sym e))
stands_at (y ∷ ys) x (inr h) = let s = stands_at ys x h in (suc s.0, s.1)

spanned : (p : Program) (table : LifeTable) → AreLives p table → (rule : Rule) → In rule p.rules → (c : Condition) → In c rule.conditions → (n : ℤ)
    → slice_get table.lives (pattern_of c).ty.0 ≡ Some (Finite n) → Spans (pattern_of c).window n
spanned p table lives rule m c k n at = by (pattern_of c).window refl
  where
    life : IsLife p (pattern_of c).ty.0 (finite n)
    life = lives.each (pattern_of c).ty.0 (Finite n) at

    place : (place : ℕ) × (slice_get rule.conditions place ≡ Some c)
    place = stands_at rule.conditions c k

    given : (w : WindowTag) → (pattern_of c).window ≡ w → (l : Limit) → LivesFor p rule.conditions (placed place.0 c) w l → Below l (finite n)
    given w e l h = life.above_all l (record {
      rule = rule;
      stands = m;
      i = placed place.0 c;
      placed = place.1;
      of_type = refl;
      lives = subst (λ (v : WindowTag). LivesFor p rule.conditions (placed place.0 c) v l) (sym e) h;
    })

    by : (w : WindowTag) → (pattern_of c).window ≡ w → Spans w n
    by Whole e = tt
    by (Time span) e = given (Time span) e (finite span) refl
    by (Length count) e = given (Length count) e infinite refl

pub table_lawful : (p : Program) (table : LifeTable) → AreLives p table → IsLawfulTable p table
table_lawful p table lives = record { as_many = lives.as_many; each = λ ty life at. of_life p ty life (lives.each ty life at); windows = spanned p table lives }

-- ---- parts, one after the other

-- parts for what has been asked so far: with those for the rest they are all
abbrev pub Makes : Program → List Asked → ℕ → List Part → Type 0
Makes p asked place parts = (rest : List Part) → AreGoodParts p (drop place asked) rest → AreGoodParts p asked (parts ++ rest)

dropped : {A : Type 0} (xs : List A) (place : ℕ) (d : A) → place < length xs → drop place xs ≡ get_or xs place d ∷ drop (suc place) xs
dropped [] place d h = absurd (omega arith)
dropped (x ∷ xs) zero d h = refl
dropped (x ∷ xs) (suc place) d h = dropped xs place d (omega arith)

all_dropped : {A : Type 0} (xs : List A) → drop (length xs) xs ≡ []
all_dropped [] = refl
all_dropped (x ∷ xs) = all_dropped xs

pub makes_more : (p : Program) (asked : List Asked) (place : ℕ) (d : Asked) (parts : List Part) (part : Part) → place < length asked → IsGoodPart p (get_or asked place d) part
    → Makes p asked place parts → Makes p asked (place + 1) (parts ++ (part ∷ []))
makes_more p asked place d parts part h good makes rest goods =
    let one : place + 1 ≡ suc place = omega arith in
    let behind = subst (λ (n : ℕ). AreGoodParts p (drop n asked) rest) one goods in
    subst (AreGoodParts p asked) (sym (append_assoc parts (part ∷ []) rest))
    (makes (part ∷ rest) (subst (λ (xs : List Asked). AreGoodParts p xs (part ∷ rest)) (sym (dropped asked place d h)) (good, behind)))

append_none : {A : Type 0} (xs : List A) → xs ++ [] ≡ xs
append_none [] = refl
append_none (x ∷ xs) = ap (λ ys. x ∷ ys) (append_none xs)

pub makes_all : (p : Program) (asked : List Asked) (place : ℕ) (parts : List Part) → place ≡ length asked → Makes p asked place parts → AreGoodParts p asked parts
makes_all p asked place parts e makes =
    subst (AreGoodParts p asked) (append_none parts)
    (makes [] (subst (λ (xs : List Asked). AreGoodParts p xs []) (sym (ap (λ (n : ℕ). drop n asked) e ∙ all_dropped asked)) tt))
