-- The function that `confirm` computes decides the relation.
use Rattle.life_proof.proofs.Common.{◌≡◌, ◌≢◌, ◌==◌, ◌&&◌, ℕ, ℤ, pos, ◌+ℤ◌, ◌-ℤ◌, ◌≤ℤ◌, Bool, true, false, List, [], ◌∷◌, refl, sym, subst, ◌∙◌, arith}
use Rattle.life_proof.proofs.Common.{slice_get, Decides, AllByRecursion, Contains, list_all, int_le, Decides-int_eq, ints, NetEdge, total, Condition, LifeTable}
use Rattle.life_proof.proofs.Common.{Program, Limit, finite, infinite, Below, plus, start_point_of, end_of, Asked, Part, Proof, asked, edges_for, scope_of}
use Rattle.life_proof.proofs.Common.{tail_at, is_event_at, IsBounding, IsRound, IsShown, IsGoodPart, AreGoodParts, IsGood, leads, are_good_parts}
use Rattle.life_proof.{proofs.Common.{is_lawful_table, int_lt, LeadsWay, same_edge, has_edge, returns, is_within_limit}, specs.Good.{is_bounding, is_round}}
use Rattle.{life_proof.{specs.Good.{is_shown, is_good_part}, proofs.{Lawful.{lawful_from, lawful_to}, Tests.{false_is}}}, std.specs.Ordering.{int_eq}}
use Rattle.std.proofs.lemmas.{Bool.{eqb-true, eq-eqb, and_from, and_parts}, List.Folds.{list_any_at}, Map.Views.{Contains-from_any}}
use Rattle.fx_base.proofs.Orders.{int_lt-true, lt-int_lt}

-- ---- edges

abbrev edge_of : ℕ → ℕ → ℤ → NetEdge
edge_of x y most = record { x = x; y = y; most = most }

same_parts : (x x' y y' : ℕ) (most most' : ℤ) → x ≡ x' → y ≡ y' → most ≡ most' → edge_of x y most ≡ edge_of x' y' most'
same_parts x x' y y' most most' e f g = λ i. edge_of (e i) (f i) (g i)

same_from : (a b : NetEdge) → same_edge a b ≡ true → a ≡ b
same_from a b h =
    let p = and_parts (a.x == b.x) (a.y == b.y && int_eq a.most b.most) h in
    let q = and_parts (a.y == b.y) (int_eq a.most b.most) p.1 in
    same_parts a.x b.x a.y b.y a.most b.most (eqb-true a.x b.x p.0) (eqb-true a.y b.y q.0) ((Decides-int_eq a.most b.most).0 q.1)

same_itself : (a : NetEdge) → same_edge a a ≡ true
same_itself a =
    and_from (a.x == a.x) (a.y == a.y && int_eq a.most a.most) (eq-eqb a.x a.x refl)
    (and_from (a.y == a.y) (int_eq a.most a.most) (eq-eqb a.y a.y refl) ((Decides-int_eq a.most a.most).1 refl))

has_to : (network : List NetEdge) (e : NetEdge) → Contains network e → has_edge network e ≡ true
has_to network e m = list_any_at (same_edge e) network m.0 e m.1 (subst (λ (z : NetEdge). same_edge e z ≡ true) (sym m.2) (same_itself e))

members_from : (network edges : List NetEdge) → list_all (has_edge network) edges ≡ true → AllByRecursion (Contains network) edges
members_from network [] h = tt
members_from network (e ∷ edges) h =
    let p = and_parts (has_edge network e) (list_all (has_edge network) edges) h in
    (Contains-from_any same_from e network p.0, members_from network edges p.1)

members_to : (network edges : List NetEdge) → AllByRecursion (Contains network) edges → list_all (has_edge network) edges ≡ true
members_to network [] h = refl
members_to network (e ∷ edges) h = and_from (has_edge network e) (list_all (has_edge network) edges) (has_to network e h.0) (members_to network edges h.1)

-- ---- paths and cycles

leads_from : (x : ℕ) (way : List NetEdge) (y : ℕ) → leads x way y ≡ true → LeadsWay x way y
leads_from x [] y h = eqb-true x y h
leads_from x (e ∷ way) y h =
    let p = and_parts (e.x == x) (leads e.y way y) h in
    (eqb-true e.x x p.0, leads_from e.y way y p.1)

leads_to : (x : ℕ) (way : List NetEdge) (y : ℕ) → LeadsWay x way y → leads x way y ≡ true
leads_to x [] y h = eq-eqb x y h
leads_to x (e ∷ way) y h = and_from (e.x == x) (leads e.y way y) (eq-eqb e.x x h.0) (leads_to e.y way y h.1)

closes_from : (way : List NetEdge) → returns way ≡ true → (way ≢ []) × ((x : ℕ) × LeadsWay x way x)
closes_from [] h = false_is h
closes_from (e ∷ way) h = (λ n. absurd cc, (e.x, leads_from e.x (e ∷ way) e.x h))

closes_to : (way : List NetEdge) → way ≢ [] → (x : ℕ) × LeadsWay x way x → returns way ≡ true
closes_to [] some h = absurd (some refl)
closes_to (e ∷ way) some c = leads_to e.x (e ∷ way) e.x (subst (λ (z : ℕ). LeadsWay z (e ∷ way) z) (sym c.1.0) c.1)

-- ---- numbers

left_from : (a b c : ℤ) → int_le a (c -ℤ b) ≡ true → (a +ℤ b) ≤ℤ c
left_from a b c h = grind (arith, ints)

left_to : (a b c : ℤ) → (a +ℤ b) ≤ℤ c → int_le a (c -ℤ b) ≡ true
left_to a b c h = grind (arith, ints)

within_from : (sum : ℤ) (tail : Limit) (life : ℤ) → is_within_limit sum tail life ≡ true → Below (plus (finite sum) tail) (finite life)
within_from sum (finite most) life h = left_from sum most life h
within_from sum infinite life h = false_is h

within_to : (sum : ℤ) (tail : Limit) (life : ℤ) → Below (plus (finite sum) tail) (finite life) → is_within_limit sum tail life ≡ true
within_to sum (finite most) life h = left_to sum most life h
within_to sum infinite life h = absurd h

-- ---- parts

abbrev inside : Program → List Condition → ℕ → ℕ → List NetEdge → Bool
inside p conditions i j edges = list_all (has_edge (edges_for p conditions i j)) edges

abbrev fits_life : Program → List Condition → ℕ → ℤ → List NetEdge → Bool
fits_life p conditions j life edges = is_within_limit (total edges) (tail_at p (slice_get conditions j)) life

bounding_from : (p : Program) (conditions : List Condition) (i j : ℕ) (life : ℤ) (edges : List NetEdge) → is_bounding p conditions i j life edges ≡ true
    → IsBounding p conditions i j life edges
unfolding is_bounding
bounding_from p conditions i j life edges h =
    let a = and_parts (inside p conditions i j edges) (leads (start_point_of j) edges (end_of i) && fits_life p conditions j life edges) h in
    let b = and_parts (leads (start_point_of j) edges (end_of i)) (fits_life p conditions j life edges) a.1 in
    record {
      members = members_from (edges_for p conditions i j) edges a.0;
      path = leads_from (start_point_of j) edges (end_of i) b.0;
      within = within_from (total edges) (tail_at p (slice_get conditions j)) life b.1;
    }

bounding_to : (p : Program) (conditions : List Condition) (i j : ℕ) (life : ℤ) (edges : List NetEdge) → IsBounding p conditions i j life edges
    → is_bounding p conditions i j life edges ≡ true
unfolding is_bounding
bounding_to p conditions i j life edges g =
    and_from (inside p conditions i j edges) (leads (start_point_of j) edges (end_of i) && fits_life p conditions j life edges) (members_to (edges_for p conditions i j) edges g.members)
    (and_from (leads (start_point_of j) edges (end_of i)) (fits_life p conditions j life edges) (leads_to (start_point_of j) edges (end_of i) g.path)
    (within_to (total edges) (tail_at p (slice_get conditions j)) life g.within))

abbrev below_zero : Program → List Condition → ℕ → List NetEdge → Bool
below_zero p conditions j edges = int_lt (total edges) (pos 0) && is_event_at p (slice_get conditions j)

round_from : (p : Program) (conditions : List Condition) (i j : ℕ) (edges : List NetEdge) → is_round p conditions i j edges ≡ true → IsRound p conditions i j edges
unfolding is_round
round_from p conditions i j edges h =
    let a = and_parts (inside p conditions i j edges) (returns edges && below_zero p conditions j edges) h in
    let b = and_parts (returns edges) (below_zero p conditions j edges) a.1 in
    let d = and_parts (int_lt (total edges) (pos 0)) (is_event_at p (slice_get conditions j)) b.1 in
    let c = closes_from edges b.0 in
    record { members = members_from (edges_for p conditions i j) edges a.0; some = c.0; closes = c.1; negative = int_lt-true (total edges) (pos 0) d.0; event = d.1 }

round_to : (p : Program) (conditions : List Condition) (i j : ℕ) (edges : List NetEdge) → IsRound p conditions i j edges → is_round p conditions i j edges ≡ true
unfolding is_round
round_to p conditions i j edges g =
    and_from (inside p conditions i j edges) (returns edges && below_zero p conditions j edges) (members_to (edges_for p conditions i j) edges g.members)
    (and_from (returns edges) (below_zero p conditions j edges) (closes_to edges g.some g.closes)
    (and_from (int_lt (total edges) (pos 0)) (is_event_at p (slice_get conditions j)) (lt-int_lt (total edges) (pos 0) g.negative) g.event))

shown_from : (p : Program) (conditions : List Condition) (i j : ℕ) (life : ℤ) (cycle : Bool) (edges : List NetEdge) → is_shown p conditions i j life cycle edges ≡ true
    → IsShown cycle p conditions i j life edges
unfolding is_shown
shown_from p conditions i j life true edges h = round_from p conditions i j edges h
shown_from p conditions i j life false edges h = bounding_from p conditions i j life edges h

shown_to : (p : Program) (conditions : List Condition) (i j : ℕ) (life : ℤ) (cycle : Bool) (edges : List NetEdge) → IsShown cycle p conditions i j life edges
    → is_shown p conditions i j life cycle edges ≡ true
unfolding is_shown
shown_to p conditions i j life true edges g = round_to p conditions i j edges g
shown_to p conditions i j life false edges g = bounding_to p conditions i j life edges g

abbrev shows : Program → Asked → Part → Bool
shows p a part = is_shown p (scope_of p a) a.from a.to a.life part.cycle part.edges

part_from : (p : Program) (a : Asked) (part : Part) → is_good_part p a part ≡ true → IsGoodPart p a part
unfolding is_good_part
part_from p a part h =
    let f = and_parts (part.rule.0 == a.rule) (part.from == a.from && (part.to == a.to && shows p a part)) h in
    let g = and_parts (part.from == a.from) (part.to == a.to && shows p a part) f.1 in
    let k = and_parts (part.to == a.to) (shows p a part) g.1 in
    record {
      rule = eqb-true part.rule.0 a.rule f.0;
      from = eqb-true part.from a.from g.0;
      to = eqb-true part.to a.to k.0;
      shown = shown_from p (scope_of p a) a.from a.to a.life part.cycle part.edges k.1;
    }

part_to : (p : Program) (a : Asked) (part : Part) → IsGoodPart p a part → is_good_part p a part ≡ true
unfolding is_good_part
part_to p a part g =
    and_from (part.rule.0 == a.rule) (part.from == a.from && (part.to == a.to && shows p a part)) (eq-eqb part.rule.0 a.rule g.rule)
    (and_from (part.from == a.from) (part.to == a.to && shows p a part) (eq-eqb part.from a.from g.from)
    (and_from (part.to == a.to) (shows p a part) (eq-eqb part.to a.to g.to) (shown_to p (scope_of p a) a.from a.to a.life part.cycle part.edges g.shown)))

parts_from : (p : Program) (asked : List Asked) (parts : List Part) → are_good_parts p asked parts ≡ true → AreGoodParts p asked parts
parts_from p [] [] h = tt
parts_from p [] (part ∷ parts) h = false_is h
parts_from p (a ∷ asked) [] h = false_is h
parts_from p (a ∷ asked) (part ∷ parts) h =
    let f = and_parts (is_good_part p a part) (are_good_parts p asked parts) h in
    (part_from p a part f.0, parts_from p asked parts f.1)

parts_to : (p : Program) (asked : List Asked) (parts : List Part) → AreGoodParts p asked parts → are_good_parts p asked parts ≡ true
parts_to p [] [] g = refl
parts_to p [] (part ∷ parts) g = absurd g
parts_to p (a ∷ asked) [] g = absurd g
parts_to p (a ∷ asked) (part ∷ parts) g = and_from (is_good_part p a part) (are_good_parts p asked parts) (part_to p a part g.0) (parts_to p asked parts g.1)

-- ---- certificates

-- a table that is not lawful has no certificate
pub unlawful : (p : Program) (table : LifeTable) (certificate : Proof) → is_lawful_table p table ≡ false → Decides false (IsGood p table certificate)
unlawful p table certificate e = (λ h. false_is h, λ g. sym e ∙ lawful_to p table g.lawful)

-- one that is lawful has those whose parts are good
pub lawful : (p : Program) (table : LifeTable) (certificate : Proof) (answer : Bool) → is_lawful_table p table ≡ true
    → answer ≡ are_good_parts p (asked p table) certificate.parts → Decides answer (IsGood p table certificate)
lawful p table certificate answer e is = (
  λ h. record { lawful = lawful_from p table e; parts = parts_from p (asked p table) certificate.parts (sym is ∙ h) },
  λ g. is ∙ parts_to p (asked p table) certificate.parts g.parts,
)
