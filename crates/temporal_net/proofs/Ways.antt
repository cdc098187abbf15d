-- The ways of a table: there is one for each distance, it meets no point twice, and so it has at most 15 edges.
use Rattle.temporal_net.proofs.Common.{◌≡◌, ℕ, zero, suc, ◌<◌, ◌≤◌, ◌⊎◌, ℤ, pos, negsuc, ◌*ℤ◌, ◌≤ℤ◌, List, [], ◌∷◌, map, length, true, false, ◌||◌, eqb, Option}
use Rattle.temporal_net.proofs.Common.{Some, None, IfSome, refl, sym, ◌∙◌, ap, subst, inl, inr, arith, All, AllByRecursion, Contains, ints, cases_eq, eqb_tells}
use Rattle.temporal_net.proofs.Common.{get_or_default, length-map, All-contains, length-le_from_distinct_below, NetEdge, Distance, LeadsWay, total, points_of}
use Rattle.temporal_net.proofs.Common.{edge_at, HasItsPoints, IsSmallEdge, Table, zero_distance, Begins, HasWays, StepsWay, FollowsWay, list_any}
use Rattle.{temporal_net.proofs.Common.{IsShortDistance}, std.specs.List.{IsDistinct}}

-- how many edges are left
abbrev pub edges_left : Option Distance → ℕ
edges_left None = 0
edges_left (Some d) = d.edges

-- two distances of one place are one
pub same_distance : (o : Option Distance) (a b : Distance) → o ≡ Some a → o ≡ Some b → a ≡ b
same_distance o a b p q = cc

-- an edge of the network has a number
pub record Numbered (edges : List NetEdge) (e : NetEdge) : Type 0 where
  pub number : ℕ
  pub known : number < length edges
  pub is : edge_at edges number ≡ e

pub numbered : (edges : List NetEdge) (e : NetEdge) → Contains edges e → Numbered edges e
numbered edges e c = record { number = c.0; known = c.1; is = get_or_default edges c.0 _ e c.1 ∙ c.2 }

pub ends_among : (points : ℕ) (edges : List NetEdge) (e : NetEdge) → All (HasItsPoints points) edges → Contains edges e → HasItsPoints points e
ends_among points edges e a c = All-contains (HasItsPoints points) edges e a c

-- a way from x to y
pub record Way (points : ℕ) (edges : List NetEdge) (t : Table) (x y : ℕ) : Type 0 where
  pub numbers : List ℕ
  pub follows : FollowsWay points edges t x y numbers

-- where inner points may be any, less is asked
pub widened : (points k l : ℕ) (edges : List NetEdge) (t : Table) → k ≤ l → HasWays points k edges t → HasWays points l edges t
widened points k l edges t le w = record {
  few = w.few;
  among = w.among;
  small = w.small;
  own = w.own;
  begins = λ x y xp yp ne d is.
      let b = w.begins x y xp yp ne d is in
      let inner : (b.0.y ≡ y) ⊎ (b.0.y < l) = elim b.1.inner [ inl e ↦ inl e | inr lt ↦ inr (omega arith) ] in
      (b.0, record { member = b.1.member; from = b.1.from; inner = inner; rest = b.1.rest; onward = b.1.onward; sum = b.1.sum; count = b.1.count });
}

module _ (points : ℕ) (edges : List NetEdge) (t : Table) (w : HasWays points points edges t) where
  step_on : (x y : ℕ) (d : Distance) → t x y ≡ Some d → (e : NetEdge) (b : Begins points edges t x y d e) (n : Numbered edges e) → Way points edges t e.y y → Way points edges t x y
  step_on x y d is e b n rest =
      let P : NetEdge → Type 0 = λ f. Begins points edges t x y d f in
      let Q : NetEdge → Type 0 = λ f. FollowsWay points edges t f.y y rest.numbers in
      record {
        numbers = n.number ∷ rest.numbers;
        follows = (record { known = n.known; distance = d; here = is; begins = subst P (sym n.is) b }, subst Q (sym n.is) rest.follows);
      }

  way_by : (m x y : ℕ) (d : Distance) → x < points → y < points → t x y ≡ Some d → d.edges ≡ m → Way points edges t x y
  way_by zero x y d xp yp is count =
      elim (cases_eq x y) [
        | inl e ↦ record { numbers = []; follows = e }
        | inr ne ↦ let b = (w.begins x y xp yp ne d is).1 in let c = b.count in absurd (omega arith)
      ]
  way_by (suc m) x y d xp yp is count =
      elim (cases_eq x y) [
        | inl e ↦ record { numbers = []; follows = e }
        | inr ne ↦
            let b = w.begins x y xp yp ne d is in
            let c = b.1.count in
            let left : b.1.rest.edges ≡ m = omega arith in
            step_on x y d is b.0 b.1 (numbered edges b.0 b.1.member) (way_by m b.0.y y b.1.rest (ends_among points edges b.0 w.among b.1.member).1 yp b.1.onward left)
      ]

  pub way_of : (x y : ℕ) (d : Distance) → x < points → y < points → t x y ≡ Some d → Way points edges t x y
  way_of x y d xp yp is = way_by d.edges x y d xp yp is refl

  -- ---- what a way has

  pub follows_leads : (x y : ℕ) (numbers : List ℕ) → FollowsWay points edges t x y numbers → LeadsWay x (map (edge_at edges) numbers) y
  follows_leads x y [] h = h
  follows_leads x y (n ∷ numbers) h = (h.0.begins.from, follows_leads (edge_at edges n).y y numbers h.1)

  pub follows_known : (x y : ℕ) (numbers : List ℕ) → FollowsWay points edges t x y numbers → AllByRecursion (λ n. n < length edges) numbers
  follows_known x y [] h = tt
  follows_known x y (n ∷ numbers) h = (h.0.known, follows_known (edge_at edges n).y y numbers h.1)

  pub follows_members : (x y : ℕ) (numbers : List ℕ) → FollowsWay points edges t x y numbers → AllByRecursion (Contains edges) (map (edge_at edges) numbers)
  follows_members x y [] h = tt
  follows_members x y (n ∷ numbers) h = (h.0.begins.member, follows_members (edge_at edges n).y y numbers h.1)

  among_at : (x y n : ℕ) → StepsWay points edges t x y n → HasItsPoints points (edge_at edges n)
  among_at x y n s = ends_among points edges (edge_at edges n) w.among s.begins.member

  -- the distance is the way's sum and its number of edges
  pub record Measures (d : Distance) (numbers : List ℕ) : Type 0 where
    pub sum : d.sum ≡ total (map (edge_at edges) numbers)
    pub count : d.edges ≡ length numbers

  pub measured : (x y : ℕ) → y < points → (numbers : List ℕ) → FollowsWay points edges t x y numbers → (d : Distance) → t x y ≡ Some d → Measures d numbers
  measured x y yp [] h d is =
      let at_y : t y y ≡ Some d = subst (λ p. t p y ≡ Some d) h is in
      let e : d ≡ zero_distance = same_distance (t y y) d zero_distance at_y (w.own y yp) in
      record { sum = ap (λ (a : Distance). a.sum) e; count = ap (λ (a : Distance). a.edges) e }
  measured x y yp (n ∷ numbers) h d is =
      let b = h.0.begins in
      let e : d ≡ h.0.distance = same_distance (t x y) d h.0.distance is h.0.here in
      let m = measured (edge_at edges n).y y yp numbers h.1 b.rest b.onward in
      let m_sum = m.sum in
      let m_count = m.count in
      let b_sum = b.sum in
      let b_count = b.count in
      record { sum = rw e (omega (arith, ints)); count = rw e (omega arith) }

  -- a point of the network from which fewer edges than this lead to y
  record Near (y limit p : ℕ) : Type 0 where
    inside : p < points
    distance : Distance
    at : t p y ≡ Some distance
    nearer : distance.edges < limit

  near_more : (y m n : ℕ) → m ≤ n → (ps : List ℕ) → AllByRecursion (Near y m) ps → AllByRecursion (Near y n) ps
  near_more y m n le [] h = tt
  near_more y m n le (p ∷ ps) h = (record { inside = h.0.inside; distance = h.0.distance; at = h.0.at; nearer = (let l = h.0.nearer in omega arith) }, near_more y m n le ps h.1)

  near_later : (x y : ℕ) → y < points → (numbers : List ℕ) → FollowsWay points edges t x y numbers → AllByRecursion (Near y (length numbers)) (map (λ (e : NetEdge). e.y) (map (edge_at edges) numbers))
  near_later x y yp [] h = tt
  near_later x y yp (n ∷ numbers) h =
      let b = h.0.begins in
      let m = measured (edge_at edges n).y y yp numbers h.1 b.rest b.onward in
      let count = m.count in (
        record { inside = (among_at x y n h.0).1; distance = b.rest; at = b.onward; nearer = omega arith },
        near_more y (length numbers) (suc (length numbers)) (omega arith) _ (near_later (edge_at edges n).y y yp numbers h.1),
      )

  apart : (x y : ℕ) (d : Distance) → t x y ≡ Some d → (ps : List ℕ) → AllByRecursion (Near y d.edges) ps → AllByRecursion (λ q. eqb x q ≡ false) ps
  apart x y d is [] h = tt
  apart x y d is (p ∷ ps) h = (
    elim (eqb_tells x p) [
      | inl e ↦
          let same : d ≡ h.0.distance = same_distance (t p y) d h.0.distance (subst (λ q. t q y ≡ Some d) e.1 is) h.0.at in
          let l = h.0.nearer in
          let count : d.edges ≡ h.0.distance.edges = ap (λ (a : Distance). a.edges) same in
          absurd (omega arith)
      | inr ne ↦ ne.0
    ],
    apart x y d is ps h.1,
  )

  pub distinct : (x y : ℕ) → y < points → (numbers : List ℕ) → FollowsWay points edges t x y numbers → IsDistinct eqb (points_of x (map (edge_at edges) numbers))
  unfolding IsDistinct
  distinct x y yp [] h = (tt, tt)
  distinct x y yp (n ∷ numbers) h =
      let s = h.0 in
      let m = measured x y yp (n ∷ numbers) h s.distance s.here in
      let near = near_later x y yp (n ∷ numbers) h in (
        apart x y s.distance s.here (map (λ (e : NetEdge). e.y) (map (edge_at edges) (n ∷ numbers))) (subst (λ l. AllByRecursion (Near y l) (map (λ (e : NetEdge). e.y) (map (edge_at edges) (n ∷ numbers)))) (sym m.count) near),
        distinct (edge_at edges n).y y yp numbers h.1,
      )

  inside_all : (y m : ℕ) (ps : List ℕ) → AllByRecursion (Near y m) ps → (q : ℕ) → list_any (eqb q) ps ≡ true → q < points
  inside_all y m [] h q any = absurd cc
  inside_all y m (p ∷ ps) h q any =
      elim (eqb_tells q p) [
        | inl e ↦ let l = h.0.inside in let same = e.1 in omega arith
        | inr ne ↦ inside_all y m ps h.1 q (subst (λ b. b || list_any (eqb q) ps ≡ true) ne.0 any)
      ]

  few_points : (x y : ℕ) → x < points → y < points → (numbers : List ℕ) → FollowsWay points edges t x y numbers → length numbers ≤ 15
  few_points x y xp yp numbers h =
      let later = map (λ (e : NetEdge). e.y) (map (edge_at edges) numbers) in
      let inside : (q : ℕ) → list_any (eqb q) (x ∷ later) ≡ true → q < points = λ q any.
      elim (eqb_tells q x) [
        | inl e ↦ let same = e.1 in omega arith
        | inr ne ↦ inside_all y (length numbers) later (near_later x y yp numbers h) q (subst (λ b. b || list_any (eqb q) later ≡ true) ne.0 any)
      ] in
      let most = length-le_from_distinct_below (x ∷ later) points (distinct x y yp numbers h) inside in
      let few = w.few in
      let same : length later ≡ length numbers = length-map (map (edge_at edges) numbers) (λ (e : NetEdge). e.y) ∙ length-map numbers (edge_at edges) in
      omega arith

  -- a sum of this many small edges
  record Bounded (sum : ℤ) (count : ℕ) : Type 0 where
    low : (negsuc 9007199254740992 *ℤ pos count) ≤ℤ sum
    high : sum ≤ℤ (pos 9007199254740993 *ℤ pos count)

  bounded : (x y : ℕ) (numbers : List ℕ) → FollowsWay points edges t x y numbers → Bounded (total (map (edge_at edges) numbers)) (length numbers)
  bounded x y [] h = record { low = omega (arith, ints); high = omega (arith, ints) }
  bounded x y (n ∷ numbers) h =
      let small = All-contains IsSmallEdge edges (edge_at edges n) w.small h.0.begins.member in
      let rest = bounded (edge_at edges n).y y numbers h.1 in
      let low = rest.low in
      let high = rest.high in
      record { low = omega (arith, ints); high = omega (arith, ints) }

  pub short : (x y : ℕ) (d : Distance) → x < points → y < points → t x y ≡ Some d → IsShortDistance d
  short x y d xp yp is =
      let way = way_of x y d xp yp is in
      let m = measured x y yp way.numbers way.follows d is in
      let few = few_points x y xp yp way.numbers way.follows in
      let b = bounded x y way.numbers way.follows in
      let low = b.low in
      let high = b.high in
      let count = m.count in
      let sum = m.sum in
      record { few = omega arith; low = omega (arith, ints); high = omega (arith, ints) }

  pub known_short : (x y : ℕ) → x < points → y < points → IfSome (t x y) IsShortDistance
  known_short x y xp yp = short_if (t x y) (λ d is. short x y d xp yp is) where
    short_if : (o : Option Distance) → ((d : Distance) → o ≡ Some d → IsShortDistance d) → IfSome o IsShortDistance
    short_if None h = tt
    short_if (Some d) h = h d refl
