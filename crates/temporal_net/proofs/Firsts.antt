-- An edge that leaves the rest of a distance begins the way, and there is one.
use Rattle.temporal_net.proofs.Common.{◌≡◌, ◌≢◌, ℕ, ◌+◌, ◌<◌, ℤ, ◌+ℤ◌, List, length, Bool, true, false, ◌&&◌, eqb, Option, Some, None, refl, sym, subst, inr}
use Rattle.temporal_net.proofs.Common.{arith, eq-eqb, ints, eqb-true, Contains-get_or, NetEdge, Distance, edge_at, Table, Begins, HasWays, StepsWay, opens}
use Rattle.{temporal_net.proofs.Ways.{ends_among, numbered}, std.specs.Ordering.{int_eq}}

-- the edge with this number leads from x, and leaves the rest of the way to y
abbrev pub is_first : List NetEdge → Table → ℕ → ℕ → ℕ → Bool
is_first edges t x y number = eqb (edge_at edges number).x x && opens (t x y) (t (edge_at edges number).y y) (edge_at edges number).most

both : (a b : Bool) → a && b ≡ true → (a ≡ true) × (b ≡ true)
both true b h = (refl, h)
both false b h = absurd cc

-- what a passed test says
record Opened (whole rest : Option Distance) (most : ℤ) : Type 0 where
  before : Distance
  after : Distance
  before_is : whole ≡ Some before
  after_is : rest ≡ Some after
  sum : before.sum ≡ (most +ℤ after.sum)
  count : before.edges ≡ 1 + after.edges

opened : (whole rest : Option Distance) (most : ℤ) → opens whole rest most ≡ true → Opened whole rest most
opened None rest most h = absurd cc
opened (Some d) None most h = absurd cc
opened (Some d) (Some r) most h =
    let p = both (int_eq d.sum (most +ℤ r.sum)) (eqb d.edges (r.edges + 1)) h in
    let count : d.edges ≡ r.edges + 1 = eqb-true d.edges (r.edges + 1) p.1 in
    let same = p.0 in
    record { before = d; after = r; before_is = refl; after_is = refl; sum = grind (arith, ints); count = omega arith }

opens_at : (d r : Distance) (most : ℤ) → d.sum ≡ (most +ℤ r.sum) → d.edges ≡ 1 + r.edges → opens (Some d) (Some r) most ≡ true
opens_at d r most s n =
    let a : int_eq d.sum (most +ℤ r.sum) ≡ true = grind (arith, ints) in
    let b : eqb d.edges (r.edges + 1) ≡ true = eq-eqb d.edges (r.edges + 1) (omega arith) in
    rw (a, b) refl

module _ (points : ℕ) (edges : List NetEdge) (t : Table) (w : HasWays points points edges t) (x y : ℕ) (xp : x < points) (yp : y < points) where
  pub first_steps : (n : ℕ) → n < length edges → is_first edges t x y n ≡ true → StepsWay points edges t x y n
  first_steps n np h =
      let e = edge_at edges n in
      let p = both (eqb e.x x) (opens (t x y) (t e.y y) e.most) h in
      let o = opened (t x y) (t e.y y) e.most p.1 in
      let member = Contains-get_or edges n _ np in
      record {
        known = np;
        distance = o.before;
        here = o.before_is;
        begins = record {
          member = member;
          from = eqb-true e.x x p.0;
          inner = inr (ends_among points edges e w.among member).1;
          rest = o.after;
          onward = o.after_is;
          sum = o.sum;
          count = o.count;
        };
      }

  first_is : (d : Distance) (e : NetEdge) → t x y ≡ Some d → (b : Begins points edges t x y d e) → (n : ℕ) → edge_at edges n ≡ e → is_first edges t x y n ≡ true
  first_is d e is b n here =
      let from : eqb e.x x ≡ true = eq-eqb e.x x b.from in
      let rest : opens (t x y) (t e.y y) e.most ≡ true = rw (is, b.onward) (opens_at d b.rest e.most b.sum b.count) in
      let whole : eqb e.x x && opens (t x y) (t e.y y) e.most ≡ true = rw from rest in
      subst (λ (f : NetEdge). eqb f.x x && opens (t x y) (t f.y y) f.most ≡ true) (sym here) whole

  -- some edge passes
  pub some_first : x ≢ y → t x y ≢ None → ((n : ℕ) → n < length edges → is_first edges t x y n ≡ false) → ⊥
  some_first apart known none = some_at (t x y) refl where
    some_at : (o : Option Distance) → t x y ≡ o → ⊥
    some_at None is = known is
    some_at (Some d) is =
        let b = w.begins x y xp yp apart d is in
        let n = numbered edges b.0 b.1.member in
        let yes = first_is d b.0 is b.1 n.number n.is in
        let no_one = none n.number n.known in
        absurd cc
