-- What is known of a distance's cost, and what a way over a third point makes of it.
use Rattle.temporal_net.proofs.Common.{◌≡◌, ◌⊎◌, ℤ, pos, ◌+ℤ◌, ◌≤ℤ◌, Bool, true, false, cond, Option, Some, None, refl, ap, inl, inr, arith, ints, Distance}
use Rattle.{temporal_net.proofs.Common.{cost, zero_distance, joined, lesser, lowered, ReachesWithin}, std.specs.Int.Signed.{lt_z}}

pub reaches_more : (o : Option Distance) (a b : ℤ) → ReachesWithin o a → a ≤ℤ b → ReachesWithin o b
reaches_more None a b h l = h
reaches_more (Some d) a b h l = omega (arith, ints)

pub reaches_known : (o : Option Distance) (d : Distance) → o ≡ Some d → ReachesWithin o (cost d)
reaches_known o d e = rw e (omega (arith, ints))

-- a distance that is known at this cost
pub record Known (o : Option Distance) (c : ℤ) : Type 0 where
  pub distance : Distance
  pub is : o ≡ Some distance
  pub least : cost distance ≤ℤ c

pub known_of : (o : Option Distance) (c : ℤ) → ReachesWithin o c → Known o c
known_of None c h = absurd h
known_of (Some d) c h = record { distance = d; is = refl; least = h }

pub cost-joined : (a b : Distance) → cost (joined a b) ≡ (cost a +ℤ cost b)
cost-joined a b = omega (arith, ints)

-- ---- the lesser of two

lesser_known : (d found : Distance) (t : Bool) (c : ℤ) → lt_z (cost found) (cost d) ≡ t → cost d ≤ℤ c → cost (cond t found d) ≤ℤ c
lesser_known d found true c e h = grind (arith, ints)
lesser_known d found false c e h = h

lesser_found : (d found : Distance) (t : Bool) → lt_z (cost found) (cost d) ≡ t → cost (cond t found d) ≤ℤ cost found
lesser_found d found true e = omega (arith, ints)
lesser_found d found false e = grind (arith, ints)

pub lesser_keeps : (known : Option Distance) (found : Distance) (c : ℤ) → ReachesWithin known c → cost (lesser known found) ≤ℤ c
lesser_keeps None found c h = absurd h
lesser_keeps (Some d) found c h = lesser_known d found (lt_z (cost found) (cost d)) c refl h

pub lesser_reaches : (known : Option Distance) (found : Distance) → cost (lesser known found) ≤ℤ cost found
lesser_reaches None found = omega (arith, ints)
lesser_reaches (Some d) found = lesser_found d found (lt_z (cost found) (cost d)) refl

pub lesser_from : (known : Option Distance) (found : Distance) → (Some (lesser known found) ≡ known) ⊎ (lesser known found ≡ found)
lesser_from None found = inr refl
lesser_from (Some d) found =
    elim (lt_z (cost found) (cost d)) as (λ t. (Some (cond t found d) ≡ Some d) ⊎ (cond t found d ≡ found)) [ true ↦ inr refl | false ↦ inl refl ]

pub zero_kept : (found : Distance) → pos 0 ≤ℤ found.sum → lesser (Some zero_distance) found ≡ zero_distance
zero_kept found l =
    let no : lt_z (cost found) (cost zero_distance) ≡ false = grind (arith, ints) in
    ap (λ t. cond t found zero_distance) no

-- ---- a way over a third point

pub lowered_keeps : (known first second : Option Distance) (c : ℤ) → ReachesWithin known c → ReachesWithin (lowered known first second) c
lowered_keeps known None second c h = h
lowered_keeps known (Some a) None c h = h
lowered_keeps known (Some a) (Some b) c h = lesser_keeps known (joined a b) c h

pub lowered_joins : (known first second : Option Distance) (a b : ℤ) → ReachesWithin first a → ReachesWithin second b → ReachesWithin (lowered known first second) (a +ℤ b)
lowered_joins known None second a b h k = absurd h
lowered_joins known (Some d) None a b h k = absurd k
lowered_joins known (Some d) (Some e) a b h k =
    let j = lesser_reaches known (joined d e) in
    let parts = cost-joined d e in
    omega (arith, ints)

-- ---- where a lowered distance comes from

-- it is the sum over the third point
pub record Over (first second lower : Option Distance) : Type 0 where
  pub before : Distance
  pub after : Distance
  pub first_is : first ≡ Some before
  pub second_is : second ≡ Some after
  pub sum : lower ≡ Some (joined before after)

pub lowered_from : (known first second : Option Distance) → (lowered known first second ≡ known) ⊎ Over first second (lowered known first second)
lowered_from known None second = inl refl
lowered_from known (Some a) None = inl refl
lowered_from known (Some a) (Some b) = elim (lesser_from known (joined a b)) [
  | inl kept ↦ inl kept
  | inr sum ↦ inr (record { before = a; after = b; first_is = refl; second_is = refl; sum = ap Some sum })
]

-- a distance that is no greater than zero is not lowered by a sum that is at least zero
pub zero_stays : (first second : Option Distance) → ((a b : Distance) → first ≡ Some a → second ≡ Some b → pos 0 ≤ℤ (a.sum +ℤ b.sum)) → lowered (Some zero_distance) first second ≡ Some zero_distance
zero_stays None second h = refl
zero_stays (Some a) None h = refl
zero_stays (Some a) (Some b) h =
    ap Some (zero_kept (joined a b) (h a b refl refl))

-- nothing before a way leaves it as it is
pub zero_first : (o : Option Distance) → lowered o (Some zero_distance) o ≡ o
zero_first None = refl
zero_first (Some d) =
    let no : lt_z (cost (joined zero_distance d)) (cost d) ≡ false = grind (arith, ints) in
    ap (λ t. Some (cond t (joined zero_distance d) d)) no
