-- Fans that are being built, parent by parent.
use Rattle.std.specs.Prelude.{◌≡◌, ◌<◌, ◌≤◌, ◌∷◌, ◌++◌, ℕ, List, [], length, Some, slice_get}
use Rattle.rule_model.specs.declared.condition.Pattern.{Pattern}
use Rattle.join_tests.specs.declared.row_key.RowKey.{RowKey}
use Rattle.join_memory.specs.declared.candidates.Candidates.{Candidates}
use Rattle.fan_join.specs.{Fans.{AreBeside, IsEmpty, IsReached}, Doors.{shared_key}}
use Rattle.rete_net.specs.{declared.{fans.{Fan.{Fan}, Fans.{Fans}, Span.{Span}}, node.NetNode.{NetNode}}, Fans.{AreEmpty, AreFansBelow, IsInSpan}}

-- The fans of the first parents have their spans, one for each; those from a place on are of the next parent. They keep nothing.
pub record AreGrowing (nodes : List NetNode) (fans : Fans) (from : ℕ) : Type 0 where
  pub below : AreFansBelow nodes fans
  pub behind : (f : ℕ) (fan : Fan) → f < from → slice_get fans.list.items f ≡ Some fan → (span : Span) × (slice_get fans.spans.items fan.parent ≡ Some span) × IsInSpan span f
  pub next : (f : ℕ) (fan : Fan) → from ≤ f → slice_get fans.list.items f ≡ Some fan → fan.parent ≡ length fans.spans.items
  pub ends : (p : ℕ) (span : Span) → slice_get fans.spans.items p ≡ Some span → span.to ≤ from
  pub within : from ≤ length fans.list.items
  pub empty : AreEmpty fans

-- fans grow, of the same parents
pub record GrowsTo (nodes : List NetNode) (from : ℕ) (old new : Fans) : Type 0 where
  pub spans : new.spans ≡ old.spans
  pub grows : AreGrowing nodes old from → AreGrowing nodes new from

-- a fan keeps rows by this key
pub record IsFanWith (fans : List Fan) (key : RowKey) (f : ℕ) : Type 0 where
  pub one : Fan
  pub found : slice_get fans f ≡ Some one
  pub same : shared_key one.join ≡ key

-- a fan of a parent without members
pub record IsNewFan (parent : ℕ) (key : RowKey) (fan : Fan) : Type 0 where
  pub behind : fan.parent ≡ parent
  pub same : shared_key fan.join ≡ key
  pub members : fan.join.members.items ≡ []
  pub places : fan.places.items ≡ []
  pub beside : AreBeside fan.join
  pub reached : IsReached fan.join
  pub empty : IsEmpty fan.join

-- a fan with one member more, which has no candidates of this pattern
pub record IsFanPut (old new : Fan) (place : ℕ) (pattern : Pattern) : Type 0 where
  pub parent : new.parent ≡ old.parent
  pub places : new.places.items ≡ old.places.items ++ place ∷ []
  pub own : Candidates
  pub members : new.join.members.items ≡ old.join.members.items ++ own ∷ []
  pub same : own.pattern ≡ pattern
  pub beside : AreBeside old.join → AreBeside new.join
  pub reached : IsReached old.join → IsReached new.join
  pub empty : IsEmpty old.join → IsEmpty new.join
