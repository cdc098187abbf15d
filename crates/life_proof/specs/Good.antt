-- Which certificates of lives are good (Dechter, Meiri, Pearl 1991: the edges of a path bound the difference of its ends in each solution
-- of a network, and a cycle with a sum below 0 leaves no solution).
use Rattle.std.specs.Prelude.{◌≡◌, ◌≢◌, ◌==◌, ◌&&◌, ℕ, ℤ, pos, ◌-ℤ◌, ◌<ℤ◌, Bool, true, false, List, [], ◌∷◌, Option, Some, None, slice_get, if◌then◌else◌}
use Rattle.std.specs.{List.{AllByRecursion, Contains, list_all, list_any}, Int.RustNames.{int_lt, int_le}, Ordering.{int_eq}}
use Rattle.temporal_net.specs.{declared.edge.NetEdge.{NetEdge}, Networks.{LeadsWay, total}}
use Rattle.rule_model.specs.declared.{condition.Condition.{Condition}, life.LifeTable.{LifeTable}, program.{Program.{Program}, Rule.{Rule}}}
use Rattle.rule_model.specs.{Rows.{pattern_of}, Types.{is_event}}
use Rattle.life_meaning.specs.{Lifetimes.{scope, tail}, Reach.{Limit, finite, infinite, Below, plus}}
use Rattle.life_edges.specs.{Edges.{start_point_of, end_of, edges_of_conditions}, Places.{placed}}
use Rattle.life_proof.specs.{declared.part.{Asked.{Asked}, Part.{Part}, Proof.{Proof}}, Asked.{asked}, Tables.{IsLawfulTable}}

-- ---- what a part is held against

-- the edges of the network of the conditions and of those of these two places
abbrev pub edges_for : Program → List Condition → ℕ → ℕ → List NetEdge
edges_for p conditions i j = edges_of_conditions p conditions (i ∷ j ∷ []) 0 conditions

-- the conditions that matter to the one of this place
abbrev pub scope_with : List Condition → ℕ → Option Condition → List Condition
scope_with conditions place (Some c) = scope conditions (placed place c)
scope_with conditions place None = []

abbrev pub scope_in : Option Rule → ℕ → List Condition
scope_in (Some rule) place = scope_with rule.conditions place (slice_get rule.conditions place)
scope_in None place = []

abbrev pub scope_of : Program → Asked → List Condition
scope_of p a = scope_in (slice_get p.rules a.rule) a.from

abbrev pub tail_at : Program → Option Condition → Limit
tail_at p (Some c) = tail p (pattern_of c)
tail_at p None = infinite

abbrev pub is_event_at : Program → Option Condition → Bool
is_event_at p (Some c) = is_event p (pattern_of c).ty.0
is_event_at p None = false

-- ---- as a relation

-- a path in the network from the start of the event of j to the end of that of i; its sum and j's tail are within the life
pub record IsBounding (p : Program) (conditions : List Condition) (i j : ℕ) (life : ℤ) (edges : List NetEdge) : Type 0 where
  pub members : AllByRecursion (Contains (edges_for p conditions i j)) edges
  pub path : LeadsWay (start_point_of j) edges (end_of i)
  pub within : Below (plus (finite (total edges)) (tail_at p (slice_get conditions j))) (finite life)

-- a cycle in the network, with a sum below 0, for an event type
pub record IsRound (p : Program) (conditions : List Condition) (i j : ℕ) (edges : List NetEdge) : Type 0 where
  pub members : AllByRecursion (Contains (edges_for p conditions i j)) edges
  pub some : edges ≢ []
  pub closes : (x : ℕ) × LeadsWay x edges x
  pub negative : total edges <ℤ pos 0
  pub event : is_event_at p (slice_get conditions j) ≡ true

abbrev pub IsShown : Bool → Program → List Condition → ℕ → ℕ → ℤ → List NetEdge → Type 0
IsShown false p conditions i j life edges = IsBounding p conditions i j life edges
IsShown true p conditions i j life edges = IsRound p conditions i j edges

-- the part is of the places that are asked for, and its edges show what is asked
pub record IsGoodPart (p : Program) (a : Asked) (part : Part) : Type 0 where
  pub rule : part.rule.0 ≡ a.rule
  pub from : part.from ≡ a.from
  pub to : part.to ≡ a.to
  pub shown : IsShown part.cycle p (scope_of p a) a.from a.to a.life part.edges

-- one part for each that is asked, in the same order
abbrev pub AreGoodParts : Program → List Asked → List Part → Type 0
AreGoodParts p [] [] = Unit {0}
AreGoodParts p [] (part ∷ parts) = ⊥
AreGoodParts p (a ∷ asked) [] = ⊥
AreGoodParts p (a ∷ asked) (part ∷ parts) = IsGoodPart p a part × AreGoodParts p asked parts

pub record IsGood (p : Program) (table : LifeTable) (certificate : Proof) : Type 0 where
  pub lawful : IsLawfulTable p table
  pub parts : AreGoodParts p (asked p table) certificate.parts

-- ---- as a function

abbrev pub same_edge : NetEdge → NetEdge → Bool
same_edge a b = a.x == b.x && (a.y == b.y && int_eq a.most b.most)

abbrev pub has_edge : List NetEdge → NetEdge → Bool
has_edge network e = list_any (same_edge e) network

abbrev pub leads : ℕ → List NetEdge → ℕ → Bool
leads x [] y = x == y
leads x (e ∷ way) y = e.x == x && leads e.y way y

abbrev pub returns : List NetEdge → Bool
returns [] = false
returns (e ∷ way) = leads e.x (e ∷ way) e.x

abbrev pub is_within_limit : ℤ → Limit → ℤ → Bool
is_within_limit sum (finite most) life = int_le sum (life -ℤ most)
is_within_limit sum infinite life = false

unfoldable pub is_bounding : Program → List Condition → ℕ → ℕ → ℤ → List NetEdge → Bool
is_bounding p conditions i j life edges =
    list_all (has_edge (edges_for p conditions i j)) edges && (leads (start_point_of j) edges (end_of i) && is_within_limit (total edges) (tail_at p (slice_get conditions j)) life)

unfoldable pub is_round : Program → List Condition → ℕ → ℕ → List NetEdge → Bool
is_round p conditions i j edges =
    list_all (has_edge (edges_for p conditions i j)) edges && (returns edges && (int_lt (total edges) (pos 0) && is_event_at p (slice_get conditions j)))

unfoldable pub is_shown : Program → List Condition → ℕ → ℕ → ℤ → Bool → List NetEdge → Bool
is_shown p conditions i j life cycle edges = if cycle then is_round p conditions i j edges else is_bounding p conditions i j life edges

unfoldable pub is_good_part : Program → Asked → Part → Bool
is_good_part p a part = part.rule.0 == a.rule && (part.from == a.from && (part.to == a.to && is_shown p (scope_of p a) a.from a.to a.life part.cycle part.edges))

abbrev pub are_good_parts : Program → List Asked → List Part → Bool
are_good_parts p [] [] = true
are_good_parts p [] (part ∷ parts) = false
are_good_parts p (a ∷ asked) [] = false
are_good_parts p (a ∷ asked) (part ∷ parts) = is_good_part p a part && are_good_parts p asked parts
