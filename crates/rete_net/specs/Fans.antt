-- Nodes that share the rows before them with siblings: which they are, and what they keep as if each had memories of its own.
use Rattle.std.specs.{Prelude.{◌≡◌, ◌<◌, ◌≤◌, ◌&&◌, ◌||◌, not, ℕ, suc, true, false, List, [], ◌∷◌, length, Option, Some, None, slice_get}, BTreeMap.{get}}
use Rattle.std.specs.{BTreeMap.{BTreeMap}, Option.{option_map}, Ordering.{nat_cmp}}
use Rattle.row_delta.specs.{declared.{delta.Delta.{Delta}, row.{Named.{Named}, Row.{Row}}}, Rows.{has}}
use Rattle.row_change.specs.Changes.{are_none, IsDifference}
use Rattle.rule_model.specs.declared.condition.Condition.TheVariants.{Plain}
use Rattle.join_tests.specs.Joins.{Look}
use Rattle.join_memory.specs.{declared.{candidates.Candidates.{Candidates}, left_rows.LeftRows.{LeftRows}}, Apart.{beside}, Memories.{has_left, has_right}}
use Rattle.join_memory.specs.Memories.{made, KeepsMemories}
use Rattle.fan_join.specs.{Fans.{member_delta, AreBeside, IsEmpty, IsReached}, Turns.{AreNamesTurned}}
use Rattle.beta_node.specs.declared.node.Node.{Node}
use Rattle.beta_node.specs.declared.node.Node.TheVariants as node
use Rattle.beta_node.specs.Nodes.{condition_of}
use Rattle.rete_net.specs.declared.{fans.{Fan.{Fan}, Fans.{Fans}, Seat.{Seat}, Span.{Span}}, lists.Lists.{Lists}, net.Rete.{Rete}, node.NetNode.{NetNode}}
use Rattle.rete_net.specs.{Indexes.{is_listed}, Steps.{no_change}}
use Rattle.fan_join.specs.{Reaching.{has_place}, Doors.{shared_key}}
use Rattle.beta_join.specs.Doors.{joined_pattern}

-- ---- what a node keeps

-- the rows that a member shares, and its candidates
pub record Member : Type 0 where
  pub left : LeftRows
  pub own : Candidates

-- a node that binds a fact, with the memories of a member in place of its own
abbrev pub with_member : Member → Node → Node
with_member m (node.Join join) = node.Join (record { memories = record { pattern = joined_pattern join; left = m.left.rows; right = m.own.names } })
with_member m (node.Not waiting) = node.Not waiting
with_member m (node.Exists tally) = node.Exists tally
with_member m (node.Fold fold) = node.Fold fold

-- a node with what it keeps as a member, if it is one
abbrev pub showing : Option Member → NetNode → NetNode
showing None n = n
showing (Some m) n = record { parent = n.parent; gate = n.gate; node = with_member m n.node }

-- nodes, each with what it keeps as a member
abbrev pub shown : (ℕ → Option Member) → List NetNode → List NetNode
shown members [] = []
shown members (n ∷ nodes) = showing (members 0) n ∷ shown (λ k. members (suc k)) nodes

-- ---- members by their seats

-- the seat in a place, where there is one
abbrev pub given_seat : Option (Option Seat) → Option Seat
given_seat None = None
given_seat (Some seat) = seat

abbrev pub seat_at : List (Option Seat) → ℕ → Option Seat
seat_at seats k = given_seat (slice_get seats k)

-- the member of a fan, if that is there
abbrev pub in_fan : ℕ → Option Fan → Option Member
in_fan k None = None
in_fan k (Some fan) = option_map (λ c. record { left = fan.join.left; own = c }) (slice_get fan.join.members.items k)

abbrev pub member_of : List Fan → Option Seat → Option Member
member_of fans None = None
member_of fans (Some seat) = in_fan seat.member (slice_get fans seat.fan)

-- the member that the node in a place is
abbrev pub member_at : Fans → ℕ → Option Member
member_at fans k = member_of fans.list.items (seat_at fans.seats.items k)

-- the nodes of a network with what each keeps, of its own or as a member
abbrev pub with_fans : List NetNode → Fans → List NetNode
with_fans nodes fans = shown (member_at fans) nodes

-- those of a network
abbrev pub shown_nodes : Rete → List NetNode
shown_nodes net = with_fans net.nodes.items net.fans

-- ---- where they stand

-- The node in a place is the member of this seat: of a fan behind its parent, which has the place, and the candidates of its pattern.
pub record IsSeat (fans : List Fan) (k : ℕ) (n : NetNode) (seat : Seat) : Type 0 where
  pub fan : Fan
  pub found : slice_get fans seat.fan ≡ Some fan
  pub own : Candidates
  pub member : slice_get fan.join.members.items seat.member ≡ Some own
  pub place : slice_get fan.places.items seat.member ≡ Some k
  pub parent : n.parent ≡ Some fan.parent
  pub pattern : condition_of n.node ≡ Plain own.pattern

-- a fan is behind a node exactly where it is in this span
abbrev pub IsInSpan : Span → ℕ → Type 0
IsInSpan span f = (span.from ≤ f) × (f < span.to)

-- the span in a place, or an empty one
abbrev pub given_span : Option Span → Span
given_span None = record { from = 0; to = 0 }
given_span (Some span) = span

-- a node with a parent and without a seat stands in the list of the parent
abbrev pub AreLoneFound : List NetNode → List (Option Seat) → Lists → Type 0
AreLoneFound nodes seats lone = (k parent : ℕ) (n : NetNode) → slice_get nodes k ≡ Some n → n.parent ≡ Some parent → seat_at seats k ≡ None → is_listed lone parent k ≡ true

-- Fans of the first parents, so many: each node with a seat is a member, and each member a node with this seat; each fan looks for rows where
-- they are kept, and is in the span of its parent, which has no fans of others.
pub record AreFansBelow (nodes : List NetNode) (fans : Fans) : Type 0 where
  pub many : length fans.seats.items ≡ length nodes
  pub seats : (k : ℕ) (n : NetNode) (seat : Seat) → slice_get nodes k ≡ Some n → seat_at fans.seats.items k ≡ Some seat → IsSeat fans.list.items k n seat
  pub places : (f m k : ℕ) (fan : Fan) → slice_get fans.list.items f ≡ Some fan → slice_get fan.places.items m ≡ Some k → seat_at fans.seats.items k ≡ Some (record { fan = f; member = m })
  pub counts : (f : ℕ) (fan : Fan) → slice_get fans.list.items f ≡ Some fan → length fan.places.items ≡ length fan.join.members.items
  pub beside : (f : ℕ) (fan : Fan) → slice_get fans.list.items f ≡ Some fan → AreBeside fan.join
  pub reached : (f : ℕ) (fan : Fan) → slice_get fans.list.items f ≡ Some fan → IsReached fan.join
  pub spanned : (f p : ℕ) (fan : Fan) (span : Span) → slice_get fans.list.items f ≡ Some fan → slice_get fans.spans.items p ≡ Some span → IsInSpan span f → fan.parent ≡ p

-- the fans of all nodes; a child that is no member is found by its parent
pub record AreFans (nodes : List NetNode) (fans : Fans) : Type 0 where
  pub below : AreFansBelow nodes fans
  pub lone : AreLoneFound nodes fans.seats.items fans.lone
  pub behind : (f : ℕ) (fan : Fan) → slice_get fans.list.items f ≡ Some fan → (span : Span) × (slice_get fans.spans.items fan.parent ≡ Some span) × IsInSpan span f

-- they keep nothing
abbrev pub AreEmpty : Fans → Type 0
AreEmpty fans = (f : ℕ) (fan : Fan) → slice_get fans.list.items f ≡ Some fan → IsEmpty fan.join

-- ---- a step

-- one fan has the parent, the places, the key and the patterns of another
pub record IsFanLike (old new : Fan) : Type 0 where
  pub parent : new.parent ≡ old.parent
  pub places : new.places ≡ old.places
  pub key : shared_key new.join ≡ shared_key old.join
  pub many : length new.join.members.items ≡ length old.join.members.items
  pub patterns : (m : ℕ) (c d : Candidates) → slice_get old.join.members.items m ≡ Some c → slice_get new.join.members.items m ≡ Some d → d.pattern ≡ c.pattern
  pub reached : IsReached old.join → IsReached new.join

-- fans with the same seats, spans and lone children, each like the one in its place
pub record IsLaidAs (old new : Fans) : Type 0 where
  pub seats : new.seats ≡ old.seats
  pub spans : new.spans ≡ old.spans
  pub lone : new.lone ≡ old.lone
  pub many : length new.list.items ≡ length old.list.items
  pub each : (f : ℕ) (a b : Fan) → slice_get old.list.items f ≡ Some a → slice_get new.list.items f ≡ Some b → IsFanLike a b

-- what the rows before a member have changed for it so far, where they changed something
abbrev pub half_in : ℕ → Option (BTreeMap ℕ Delta) → Delta
half_in k None = no_change
half_in k (Some deltas) = member_delta deltas k

abbrev pub half_at : Fans → Seat → Delta
half_at fans seat = half_in seat.member (get nat_cmp fans.halves seat.fan)

-- of a node that is no member, nothing
abbrev pub half_of : Fans → Option Seat → Delta
half_of fans None = no_change
half_of fans (Some seat) = half_at fans seat

-- The rows that a member shares left and came, and this is what has changed with them in the rows that it makes.
pub record IsHalfTurned (look : Look) (gone come : List Row) (was now : LeftRows) (c : Candidates) (half : Delta) : Type 0 where
  pub kept : KeepsMemories (beside was c) (beside now c) look (λ r. (has_left (beside was c) look r && not (has gone r)) || has come r) (has_right (beside was c) look)
  pub difference : IsDifference (made (beside was c) look) (made (beside now c) look) half

-- so it is for a node that is a member; one that is none stays none
abbrev pub IsHalf : Look → List Row → List Row → Option Member → Option Member → Delta → Type 0
IsHalf look gone come None None half = Unit {0}
IsHalf look gone come None (Some now) half = ⊥
IsHalf look gone come (Some was) None half = ⊥
IsHalf look gone come (Some was) (Some now) half = (now.own ≡ was.own) × IsHalfTurned look gone come was.left now.left was.own half

-- with a seat the node is a member, of its pattern
abbrev pub IsOfSeat : NetNode → List Fan → Option Seat → Type 0
IsOfSeat n fans None = Unit {0}
IsOfSeat n fans (Some seat) = (m : Member) × (member_of fans (Some seat) ≡ Some m) × (condition_of n.node ≡ Plain m.own.pattern)

-- another member keeps what it kept, and so does what its rows have changed
abbrev pub IsLeft : Fans → Fans → Seat → Type 0
IsLeft old new seat = (member_of new.list.items (Some seat) ≡ member_of old.list.items (Some seat)) × (half_at new seat ≡ half_at old seat)

-- Rows left and came for the fans behind the node in a place, where nothing had changed for their members before; the others stay.
pub record AreFanRowsTurned (look : Look) (place : ℕ) (gone come : List Row) (old new : Fans) : Type 0 where
  pub others : (seat : Seat) (fan : Fan) → slice_get old.list.items seat.fan ≡ Some fan → (fan.parent ≡ place → ⊥) → IsLeft old new seat
  pub turned : (seat : Seat) (fan : Fan) → slice_get old.list.items seat.fan ≡ Some fan → fan.parent ≡ place → half_at old seat ≡ no_change
      → IsHalf look gone come (member_of old.list.items (Some seat)) (member_of new.list.items (Some seat)) (half_at new seat)
  pub nothing : gone ≡ [] → come ≡ [] → (seat : Seat) → IsLeft old new seat

-- After rows of the node in a place left and came, what they concern is due: the children that keep rows of their own, where there are such
-- rows; and the members for which something has changed.
pub record AreWoken (place : ℕ) (gone come : List Row) (old new : Fans) (due due_now : List ℕ) : Type 0 where
  pub still : (k : ℕ) → has_place due k ≡ true → has_place due_now k ≡ true
  pub lone : (k : ℕ) → is_listed old.lone place k ≡ true → has_place due_now k ≡ false → are_none gone come ≡ true
  pub members : (seat : Seat) (fan : Fan) (k : ℕ) → slice_get old.list.items seat.fan ≡ Some fan → fan.parent ≡ place → slice_get fan.places.items seat.member ≡ Some k
      → half_at old seat ≡ no_change → has_place due_now k ≡ false → half_at new seat ≡ no_change

-- The candidates of a member left and came, behind what its rows had changed.
abbrev pub AreNamesTurnedAt : Look → List Named → List Named → Delta → Delta → List Fan → List Fan → Seat → Type 0
AreNamesTurnedAt look gone come half delta old new seat = (m : Member) → member_of old (Some seat) ≡ Some m
    → (d : Candidates) × (member_of new (Some seat) ≡ Some (record { left = m.left; own = d })) × AreNamesTurned m.left look gone come half m.own d delta
