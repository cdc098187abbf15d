-- A network that stands for a snapshot, over the clock that its nodes have seen.
use Rattle.rete_net.proofs.Common.{◌≡◌, ◌∙◌, sym, ap, refl, subst, ℕ, ℤ, pos, negsuc, ◌<◌, ◌≤ℤ◌, ◌<ℤ◌, ◌^◌, arith, Bool, List, length, Option, Some, None}
use Rattle.rete_net.proofs.Common.{slice_get, SFits, w64, ≤ℤ_refl, ints, slice_get_within, Fact, Named, Row, has, Condition, Program, Rule, rows, Snapshot}
use Rattle.rete_net.proofs.Common.{floor, Look, cleaned, no_names, HasAllOf, rows_of, IsRunnable, IsOrderly, MovesSnapshot, at_clock, condition_of, IsBefore}
use Rattle.rete_net.proofs.Common.{AreFans, shown_nodes, RuleChange, Rete, NetNode, AreNotNeeded, IsIndexOf, AreNodeOwners, HaveSameFronts, NodesStand}
use Rattle.rete_net.proofs.Common.{AreSources, NetStands, clean_rows, AreBetween, AreQuiet, no_change, NetStep, AreScheduled, before, IsRuleFront, Moment, IsAt}
use Rattle.rete_net.proofs.{Common.{floor_on}, Advancing.{rows_made, same_first, first_stays, stands_now, between_now}, Answering.{few_ends}}
use Rattle.rete_net.proofs.{Beside.{both_held, both_known, both_known_now, stays_beside}, Chaining.{AreMade, IsGiven, AreStanding, StaysBeside}}
use Rattle.{rete_net.proofs.{Cleaning.{has_clean}, Quieting.{seen_now}, Turning.{rising}}, condition_rows.specs.Sets.{held}}
use Rattle.{candidate_source.specs.Sources.{source_at}, fx_base.proofs.{Orders.{≤ℤ_trans}, Sequences.{get-below}}}

-- a clock of 64 bits
pub fits_low : (clock : ℤ) → SFits w64 clock → clock <ℤ pos (2 ^ 63)
fits_low (pos n) fits = let low : n < 2 ^ 63 = fits.sfits in omega (arith, ints, low)
fits_low (negsuc n) fits = omega (arith, ints)

-- a store that has the versions of a snapshot has them at any clock
pub at_hand_at : (look : Look) (s : Snapshot) (clock : ℤ) (forgotten : Named → Bool) → HasAllOf look s forgotten → HasAllOf look (at_clock s clock) forgotten
unfolding held
at_hand_at look s clock forgotten has tag f e known = has tag f e known

-- a rule has the rows of its last node
rule_rows : (p : Program) (net : Rete) (at s other : Snapshot) (forgotten : Named → Bool) (nodes : NodesStand p net at forgotten) → HaveSameFronts p (shown_nodes net) nodes.shape.conditions forgotten s other
    → (place : ℕ) (rule : Rule) → slice_get p.rules place ≡ Some rule → cleaned (rows_of p s rule.conditions) forgotten ≡ cleaned (rows_of p other rule.conditions) forgotten
rule_rows p net at s other forgotten nodes same place rule e =
    let end = nodes.shape.lasts place rule e in
    subst (λ (cs : List Condition). cleaned (rows_of p s cs) forgotten ≡ cleaned (rows_of p other cs) forgotten) end.all (same.same_rows end.last end.node end.there)

-- ---- a step

module _ (p : Program) (look : Look) (s next : Snapshot) (gone : List Fact) (come : Option Fact) (moment : Moment) (forgotten : Named → Bool) (old new : Rete) (answers : List RuleChange)
    (moves : MovesSnapshot p s next gone come) (is_at : IsAt next moment) (apart : AreNotNeeded p forgotten s next gone come) (has_before : HasAllOf look s forgotten) (has_now : HasAllOf look next forgotten)
    (stands : NetStands p old s forgotten) (same : new.ends.items ≡ old.ends.items)
    (step : NetStep p look gone come moment no_change (source_at old.sources) (source_at new.sources) (shown_nodes old) (shown_nodes new) old.ends.items answers) where
  abbrev was : Snapshot
  was = at_clock s stands.seen

  abbrev world : Look
  world = both_held s next

  known_now : HasAllOf world next no_names
  known_now = both_known_now p look s next gone come forgotten moves apart has_before has_now

  abbrev from_seen : IsGiven p look was next gone come moment forgotten
  from_seen = record {
    moves = record {
      before = stands.kept;
      after = moves.after;
      clock = ≤ℤ_trans stands.seen s.clock next.clock stands.later moves.clock;
      floors = λ entry. ≤ℤ_trans (floor p was entry) (floor p s entry) (floor p next entry)
          (floor_on p was s entry stands.later (≤ℤ_refl (s.reached.last_start entry)) (≤ℤ_refl (s.reached.promise entry))) (moves.floors entry);
      held = moves.held;
      once = moves.once;
      facts = moves.facts;
    };
    is_at = is_at;
    at_hand = at_hand_at look s stands.seen forgotten has_before;
    at_hand_now = has_now;
    world = world;
    known = at_hand_at world s stands.seen no_names (both_known s next);
    known_now = known_now;
  }

  made : AreMade p was (rows_of p was)
  made = rows_made p was (rising s.facts stands.kept.in_order)

  made_now : AreMade p next (rows_of p next)
  made_now = rows_made p next (rising next.facts moves.after.in_order)

  standing : AreStanding p was (rows_of p was) forgotten (source_at old.sources) (shown_nodes old) stands.nodes.shape.conditions
  standing = record { shaped = stands.nodes.shape.shaped; windows = stands.nodes.shape.windows; stand = stands.nodes.nodes }

  same_before : (k : ℕ) (n : NetNode) → slice_get (shown_nodes old) k ≡ Some n → (parent : Option ℕ) → n.parent ≡ parent
      → cleaned (rows_of p s (before stands.nodes.shape.conditions parent)) forgotten ≡ cleaned (rows_of p was (before stands.nodes.shape.conditions parent)) forgotten
  same_before k n e None at = ap (λ (set : Row → Bool). cleaned set forgotten) (same_first p s was)
  same_before k n e (Some q) at =
      let lt : q < k = stands.nodes.shape.shaped.parents k q n e at in
      let within : k < length (shown_nodes old) = slice_get_within (shown_nodes old) k n e in
      let node = get-below (shown_nodes old) q (omega arith) in
      stands.unchanged.same_rows q node.0 node.1

  beside : (k : ℕ) (n : NetNode) → slice_get (shown_nodes old) k ≡ Some n
      → StaysBeside p from_seen.world was next (condition_of n.node) (rows_of p was (before stands.nodes.shape.conditions n.parent)) (rows_of p next (before stands.nodes.shape.conditions n.parent)) forgotten
  beside k n e =
      let behind = before stands.nodes.shape.conditions n.parent in
      stays_beside p world was s next gone come forgotten apart known_now behind (condition_of n.node) (subst (IsRuleFront p) (stands.nodes.shape.shaped.own k n e) (stands.nodes.shape.fronts k n e))
      (made_now.named behind) (same_before k n e n.parent refl) (stands.unchanged.same_candidates k n e)

  listed : (place : ℕ) (rule : Rule) → slice_get p.rules place ≡ Some rule → cleaned (rows_of p was rule.conditions) forgotten ≡ has (clean_rows p s forgotten rule)
  listed place rule e = sym (rule_rows p old was s was forgotten stands.nodes stands.unchanged place rule e) ∙ sym (has_clean (rows p s rule.conditions) forgotten)

  pub net_stands : AreQuiet p new.sources (shown_nodes new) new.quiet_until → IsIndexOf new.sources (shown_nodes new) new.ends.items new.index → AreScheduled p new.sources new.nodes.items new.schedule → AreFans new.nodes.items new.fans
      → AreSources new.nodes.items new.fans new.sources
      → AreNodeOwners p stands.nodes.shape.conditions (length (shown_nodes new)) new.owners.items → NetStands p new next forgotten
  net_stands quiet indexed scheduled fans sources owned =
      seen_now p new next forgotten
      (stands_now p look was next gone come moment forgotten no_change (rows_of p was) (clean_rows p s forgotten) old new stands.nodes.shape answers from_seen made (first_stays p was next forgotten) standing beside
      same step listed indexed scheduled fans sources owned)
      moves.after (≤ℤ_trans (pos 0) stands.seen next.clock stands.begun from_seen.moves.clock) quiet

  pub net_between : IsRunnable p → AreBetween p (clean_rows p s forgotten) (clean_rows p next forgotten) answers
  net_between runnable =
      between_now p look was next gone come moment forgotten no_change (rows_of p was) (clean_rows p s forgotten) old new stands.nodes.shape answers from_seen made (first_stays p was next forgotten) standing beside
      same step listed
      (few_ends p old.ends.items stands.nodes.shape.count runnable)

-- ---- the clock moves alone, before something is due

module _ (p : Program) (net : Rete) (s : Snapshot) (forgotten : Named → Bool) (clock : ℤ) (stands : NetStands p net s forgotten) (later : s.clock ≤ℤ clock) (low : clock <ℤ pos (2 ^ 63))
    (before_due : IsBefore net.quiet_until clock) (kept : IsOrderly p (at_clock s clock)) where
  pub quiet_stands : NetStands p net (at_clock s clock) forgotten
  quiet_stands = record {
    seen = stands.seen;
    begun = stands.begun;
    later = ≤ℤ_trans stands.seen s.clock clock stands.later later;
    kept = stands.kept;
    nodes = stands.nodes;
    unchanged = stands.quiet clock later low before_due kept;
    quiet = λ at more fits until there. stands.quiet at (≤ℤ_trans s.clock clock at later more) fits until there;
  }

  pub quiet_rows : (place : ℕ) (rule : Rule) → slice_get p.rules place ≡ Some rule
      → (row : Row) → cleaned (rows_of p (at_clock s clock) rule.conditions) forgotten row ≡ cleaned (rows_of p s rule.conditions) forgotten row
  quiet_rows place rule e row =
      let was = at_clock s stands.seen in
      ap (λ (set : Row → Bool). set row)
      (rule_rows p net was (at_clock s clock) was forgotten stands.nodes (stands.quiet clock later low before_due kept) place rule e
      ∙ sym (rule_rows p net was s was forgotten stands.nodes stands.unchanged place rule e))
