-- A turn of a node to which a source lends its candidates, out of what both answer.
use Rattle.rete_net.proofs.Common.{◌≡◌, ◌∙◌, sym, ap, refl, subst, ℕ, ◌&&◌, not, Bool, true, false, List, Option, Some, Fact, Delta, Named, Row, IsDifference}
use Rattle.rete_net.proofs.Common.{Condition, Pattern, Moment, Program, IsAt, pattern_of, Snapshot, Look, Candidates, IsNameDifference, cleaned, held}
use Rattle.rete_net.proofs.Common.{candidates_of, line, GateStands, PatternGate, condition_of, NodeStands, IsConditionTurn, node_moves, NetNode, IsNodeTurn}
use Rattle.rete_net.proofs.{Common.{StandsIn, TurnStep}, Lent.{condition_lent, lent_alike, lent_kept, lent_value, node_takes, value_before}}
use Rattle.{rete_net.specs.Lending.{IsFoundAnew, TurnsAt}, join_tests.specs.{Kept.{row_value}, NameKeys.{name_key}}, pattern_gate.specs.Alike.{TakesAlike}}
use Rattle.{pattern_gate.proofs.Alike.{same_candidates, same_gate, same_window}, candidate_source.specs.declared.source.Source.{Source}}
use Rattle.candidate_source.specs.{Doors.{source_candidates, source_gate, source_pattern, is_reached}, Sources.{HasTurnedAt}}
use Rattle.beta_node.specs.Lending.{with_candidates, NodeTakes}
use Rattle.rete_net.proofs.Turning as turning
use Rattle.{rete_net.proofs.Turning.{held_has}, fx_base.specs.declared.value.Value.{Value}}

-- a row that is behind a step was there before it, or came
came_or_was : (is was came : Bool) → came ≡ (is && not was) → is ≡ true → was ≡ false → came ≡ true
came_or_was is was came c e f = c ∙ ap (λ b. b && not was) e ∙ ap not f

module _ (p : Program) (look : Look) (gone : List Fact) (come : Option Fact) (moment : Moment) (old new : NetNode) (was source after : Source) (k : ℕ) (left delta : Delta) (leaving coming : List Named)
    (parent : new.parent ≡ old.parent) (condition : condition_of new.node ≡ condition_of old.node)
    (alike : TakesAlike (pattern_of (condition_of old.node)) (source_pattern was)) (keeps : name_key (pattern_of (condition_of old.node)) ≡ name_key (source_pattern was))
    (turned : TurnsAt p gone come moment.clock look was source k leaving coming)
    (reached : (value : Value) → is_reached source value k ≡ is_reached was value k) (anew : IsFoundAnew new.node look k left.come source after)
    (stays : (right : Delta) → NodeTakes (with_candidates (source_candidates source) old.node) (source_candidates was) look right leaving coming
    → (world : Look) (s next : Snapshot) (rows rows_now : Row → Bool) (forgotten : Named → Bool) → NodeStands p (with_candidates (source_candidates was) old.node) look s rows forgotten → IsAt next moment
    → IsConditionTurn p (condition_of old.node) look world s next rows rows_now forgotten left right → NodeStands p (with_candidates (source_candidates source) new.node) look next rows_now forgotten)
    (differs : (right : Delta) → NodeTakes (with_candidates (source_candidates source) old.node) (source_candidates was) look right leaving coming
    → (world : Look) (s next : Snapshot) (rows rows_now : Row → Bool) (forgotten : Named → Bool) → NodeStands p (with_candidates (source_candidates was) old.node) look s rows forgotten → IsAt next moment
    → IsConditionTurn p (condition_of old.node) look world s next rows rows_now forgotten left right
    → IsDifference (cleaned (line p s (condition_of old.node) rows) forgotten) (cleaned (line p next (condition_of old.node) rows_now) forgotten) delta) where
  abbrev q : Pattern
  q = pattern_of (condition_of old.node)

  module _ (s next : Snapshot) (rows rows_now : Row → Bool) (forgotten : Named → Bool) (standing : StandsIn p (Some was) k old s rows forgotten) (at : IsAt next moment)
      (is : IsNodeTurn p look s next gone come (condition_of old.node) rows rows_now forgotten left) where
    gate_was : GateStands p (source_pattern was) (source_gate was) s
    gate_was = (same_gate p q (source_pattern was) (source_gate was) s alike).0 (subst (λ (c : Condition). GateStands p (pattern_of c) (source_gate was) s) (condition_lent (source_candidates was) old.node) standing.stands.gate)

    turns : HasTurnedAt p s next was source look k leaving coming
    turns = turned s next (sym (same_window p q (source_pattern was) alike) ∙ is.window) gate_was is.moves at.clock

    here : NodeStands p (with_candidates (source_candidates was) old.node) look s rows forgotten
    here = node_moves p (held s) look s rows forgotten (held_has s forgotten) is.at_hand is.named (with_candidates (source_candidates was) old.node) standing.stands.node

    found : (row : Row) → cleaned rows forgotten row ≡ true → is_reached was (value_before old.node look row) k ≡ true
    found row e =
        subst (λ (v : Value). is_reached was v k ≡ true) (lent_alike p s rows forgotten (source_candidates was) (held s) look old.node standing.stands.node here row e) (standing.found row e)

    takes : NodeTakes (with_candidates (source_candidates source) old.node) (source_candidates was) look turns.right leaving coming
    takes = node_takes p s rows forgotten look was source k next leaving coming turns old.node here found keeps

    same : (t : Snapshot) (who : Named) → candidates_of p q t who ≡ candidates_of p (source_pattern was) t who
    same t who = same_candidates p q (source_pattern was) t who alike

    names : IsNameDifference (candidates_of p q s) (candidates_of p q next) turns.right
    names = record {
      goes = λ who. turns.difference.goes who ∙ ap (λ b. b && not (candidates_of p (source_pattern was) next who)) (sym (same s who)) ∙ ap (λ b. candidates_of p q s who && not b) (sym (same next who));
      comes = λ who. turns.difference.comes who ∙ ap (λ b. b && not (candidates_of p (source_pattern was) s who)) (sym (same next who)) ∙ ap (λ b. candidates_of p q next who && not b) (sym (same s who));
    }

    turn : IsConditionTurn p (condition_of old.node) look is.world s next rows rows_now forgotten left turns.right
    turn = turning.turn p look gone come moment old new left turns.right delta s next rows rows_now forgotten is names

    now : NodeStands p (with_candidates (source_candidates after) new.node) look next rows_now forgotten
    now =
        subst (λ (c : Candidates). NodeStands p (with_candidates c new.node) look next rows_now forgotten) (sym anew.candidates)
        (stays turns.right takes is.world s next rows rows_now forgotten here at turn)

    now_held : NodeStands p (with_candidates (source_candidates after) new.node) (held next) next rows_now forgotten
    now_held = node_moves p look (held next) next rows_now forgotten is.at_hand_now (held_has next forgotten) is.named_now (with_candidates (source_candidates after) new.node) now

    finds : (row : Row) → cleaned rows_now forgotten row ≡ true → is_reached after (value_before new.node (held next) row) k ≡ true
    finds row e =
        subst (λ (v : Value). is_reached after v k ≡ true) (lent_alike p next rows_now forgotten (source_candidates after) look (held next) new.node now now_held row e)
        (by (cleaned rows forgotten row) refl)
      where
        by : (b : Bool) → cleaned rows forgotten row ≡ b → is_reached after (value_before new.node look row) k ≡ true
        by true there =
            anew.kept (value_before new.node look row) row (reached (value_before new.node look row) ∙ subst (λ (c : Condition). is_reached was (row_value (pattern_of c) look row) k ≡ true) (sym condition) (found row there))
            (lent_kept p next rows_now forgotten (source_candidates after) look new.node now row e)
        by false none =
            subst (λ (v : Value). is_reached after v k ≡ true) (lent_value p next rows_now forgotten (source_candidates after) look new.node now look row)
            (anew.came row (came_or_was _ _ _ (is.leads.comes row) e none))

    stands_now : StandsIn p (Some after) k new next rows_now forgotten
    stands_now = record {
      stands = record {
        gate =
            subst (λ (c : Condition). GateStands p (pattern_of c) (source_gate after) next) (sym (condition_lent (source_candidates after) new.node ∙ condition))
            (subst (λ (g : PatternGate). GateStands p q g next) (sym anew.gate) ((same_gate p q (source_pattern was) (source_gate source) next alike).1 turns.gate));
        node = now_held;
      };
      found = finds;
    }

    differs_now : IsDifference (cleaned (line p s (condition_of old.node) rows) forgotten) (cleaned (line p next (condition_of old.node) rows_now) forgotten) delta
    differs_now = differs turns.right takes is.world s next rows rows_now forgotten here at turn

  pub turn_step : TurnStep p look gone come moment (Some was) (Some after) k old new left delta
  turn_step = record { parent = parent; condition = condition; stands = stands_now; difference = differs_now }
