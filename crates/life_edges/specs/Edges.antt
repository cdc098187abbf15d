-- The network of the conditions of a rule as edges between numbered points (Dechter, Meiri, Pearl 1991): the event of the condition of
-- place k, which is below 8, starts at the point 2k and ends at the point 2k + 1.
use Rattle.std.specs.{Prelude.{◌==◌, ◌+◌, ◌≤◌, ℕ, zero, suc, pos, Bool, true, false, List, [], ◌∷◌, ◌*◌, ◌++◌, length, map, if◌then◌else◌}, List.{list_any}}
use Rattle.std.specs.List.{flat_map}
use Rattle.fx_base.specs.Lists.{In}
use Rattle.temporal_ops.specs.declared.edge.{Corner.{Corner, TheVariants.{AStart, AEnd, BStart, BEnd}}, OpEdge.{OpEdge}}
use Rattle.temporal_net.specs.declared.edge.NetEdge.{NetEdge}
use Rattle.rule_model.specs.declared.condition.{Condition.{Condition, TheVariants.{Plain, Negated, Existing, Folded}}, Pattern.{Pattern}}
use Rattle.rule_model.specs.{declared.{program.{Program.{Program}, Rule.{Rule}}, test.TimeTest.{TimeTest}}, Rows.{pattern_of, HaveOperators}, Types.{is_event}}
use Rattle.rule_model.specs.Types.{is_point}
use Rattle.rule_world.specs.Programs.{NameEarlier}

-- conditions that have a network of at most 16 points
pub record HaveNetwork (conditions : List Condition) : Type 0 where
  pub few : length conditions ≤ 8
  pub operators : HaveOperators conditions
  pub named : NameEarlier conditions

-- the conditions of each rule do
abbrev pub RulesHaveNetworks : Program → Type 0
RulesHaveNetworks p = (rule : Rule) → In rule p.rules → HaveNetwork rule.conditions

-- ---- points

abbrev pub start_point_of : ℕ → ℕ
start_point_of place = place * 2

abbrev pub end_of : ℕ → ℕ
end_of place = place * 2 + 1

-- the point of an edge between the events of two conditions, by their places
abbrev pub point_of : ℕ → ℕ → Corner → ℕ
point_of tested named AStart = start_point_of tested
point_of tested named AEnd = end_of tested
point_of tested named BStart = start_point_of named
point_of tested named BEnd = end_of named

-- the place of the condition that binds the fact of this number
abbrev pub place_of : List Condition → ℕ → ℕ
place_of [] number = 0
place_of (Plain pattern ∷ conditions) zero = 0
place_of (Plain pattern ∷ conditions) (suc number) = suc (place_of conditions number)
place_of (Negated pattern ∷ conditions) number = suc (place_of conditions number)
place_of (Existing pattern ∷ conditions) number = suc (place_of conditions number)
place_of (Folded a ∷ conditions) number = suc (place_of conditions number)

-- ---- edges

abbrev pub net_edge : ℕ → ℕ → OpEdge → NetEdge
net_edge tested named edge = record { x = point_of tested named edge.x; y = point_of tested named edge.y; most = edge.most }

-- what a temporal test of the condition of this place says
abbrev pub test_edges : List Condition → ℕ → TimeTest → List NetEdge
test_edges conditions place test = map (net_edge place (place_of conditions test.fact)) test.op

-- an event does not end before it starts, and one of points ends where it starts
abbrev pub event_edges : Bool → ℕ → List NetEdge
event_edges false place = record { x = start_point_of place; y = end_of place; most = pos 0 } ∷ []
event_edges true place = record { x = start_point_of place; y = end_of place; most = pos 0 } ∷ record { x = end_of place; y = start_point_of place; most = pos 0 } ∷ []

-- what the condition of this place with this pattern says
abbrev pub pattern_edges : Program → List Condition → ℕ → Pattern → List NetEdge
pattern_edges p conditions place pattern = event_edges (is_point p pattern.ty.0) place ++ flat_map (test_edges conditions place) pattern.times

-- whether the network that is made for these places has the condition
abbrev pub stands_in_network : Program → List ℕ → ℕ → Condition → Bool
stands_in_network p places place (Plain pattern) = is_event p pattern.ty.0
stands_in_network p places place (Negated pattern) = list_any (λ other. other == place) places
stands_in_network p places place (Existing pattern) = list_any (λ other. other == place) places
stands_in_network p places place (Folded a) = list_any (λ other. other == place) places

abbrev pub condition_edges : Program → List Condition → List ℕ → ℕ → Condition → List NetEdge
condition_edges p conditions places place c = if stands_in_network p places place c then pattern_edges p conditions place (pattern_of c) else []

-- the edges of the conditions from this place on
abbrev pub edges_of_conditions : Program → List Condition → List ℕ → ℕ → List Condition → List NetEdge
edges_of_conditions p all places place [] = []
edges_of_conditions p all places place (c ∷ conditions) = condition_edges p all places place c ++ edges_of_conditions p all places (suc place) conditions
