-- New nodes stand for no facts with what they take of new sources.
use Rattle.rete_net.proofs.Common.{◌≡◌, ◌∙◌, sym, ap, refl, subst, ℕ, ◌&&◌, not, Bool, true, false, List, Option, Some, None, slice_get, Named, Row, Condition}
use Rattle.rete_net.proofs.Common.{Pattern, Program, pattern_of, Look, no_rows, empty_snapshot, GateStands, condition_of, NodeStands, Node, NetNode, IsFresh}
use Rattle.{rete_net.proofs.Common.{StandsIn, Member, showing, shown, taking, Fans, is_some, member_at, shown_nodes, Rete}, std.proofs.lemmas.Bool.{false≢true}}
use Rattle.{join_tests.specs.NameKeys.{name_key}, condition_rows.specs.Sets.{candidates_of, held}}
use Rattle.join_memory.specs.{declared.{candidates.Candidates.{Candidates}, memories.Memories.{Memories}}, Shared.{sharing}, Standing.{StandsFor}}
use Rattle.{counting_node.specs.Laws.{StandsCounted}, pattern_gate.{specs.Alike.{TakesAlike}, proofs.Alike.{same_gate}}}
use Rattle.candidate_source.specs.{declared.{source.Source.{Source}, sources.Sources.{Sources}}, Doors.{source_candidates, source_gate, source_pattern}}
use Rattle.{candidate_source.specs.Sources.{source_at, IsNewSource}, beta_node.specs.Lending.{with_candidates}}
use Rattle.beta_node.specs.declared.node.Node.TheVariants as node
use Rattle.rete_net.{specs.Sources.{AreSources, IsSourced}, proofs.{Lent.{condition_lent}, Showing.{condition_shown, shown_from}}}

pub no_candidate : (p : Program) (q : Pattern) (who : Named) → candidates_of p q empty_snapshot who ≡ false
unfolding candidates_of held
no_candidate p q who = refl

module _ (p : Program) (look : Look) (forgotten : Named → Bool) (s : Source) (wanted : Pattern) (new : IsNewSource wanted s) where
  abbrev c : Candidates
  c = source_candidates s

  memories_lent : {S : Type 0} (m : Memories S) (q : Pattern) → StandsFor m look no_rows (candidates_of p q empty_snapshot) forgotten → StandsFor (sharing m c) look no_rows (candidates_of p q empty_snapshot) forgotten
  memories_lent m q stands = record {
    rows = stands.rows;
    names = λ who. ap is_some (new.names _ who) ∙ sym (ap (λ b. b && not (forgotten who)) (no_candidate p q who));
    agrees = record { rows = stands.agrees.rows; names = λ value who there. absurd (false≢true (sym (ap is_some (new.names value who)) ∙ there)) };
  }

  tallies_lent : {T : Type 0} (holds : T → Look → (Named → Bool) → Type 0) (m : Memories T) (q : Pattern) (world : Look) (pass : Row → Named → Bool)
      → StandsCounted holds m look world pass no_rows (candidates_of p q empty_snapshot) forgotten → StandsCounted holds (sharing m c) look world pass no_rows (candidates_of p q empty_snapshot) forgotten
  tallies_lent holds m q world pass stands = record { stands = memories_lent m q stands.stands; counts = stands.counts }

  node_lent : (n : Node) → NodeStands p n look empty_snapshot no_rows forgotten → NodeStands p (with_candidates c n) look empty_snapshot no_rows forgotten
  node_lent (node.Join join) stands = memories_lent join.memories _ stands
  node_lent (node.Not waiting) stands = record { counts = tallies_lent _ _ _ _ _ stands.counts; in_step = stands.in_step; none_due = stands.none_due; floor = stands.floor }
  node_lent (node.Exists tally) stands = tallies_lent _ _ _ _ _ stands
  node_lent (node.Fold fold) stands = record { counts = tallies_lent _ _ _ _ _ stands.counts; pattern = stands.pattern }

-- the node takes and keeps alike as a member too
pub sourced_shown : (o : Option Member) (s : Source) (n : NetNode) → IsSourced s n → IsSourced s (showing o n)
sourced_shown o s n is = record {
  alike = subst (λ (c : Condition). TakesAlike (pattern_of c) (source_pattern s)) (sym (condition_shown o n)) is.alike;
  keeps = ap (λ (c : Condition). name_key (pattern_of c)) (condition_shown o n) ∙ is.keeps;
}

pub fresh_in : (p : Program) (o : Option Source) (k : ℕ) (n : NetNode) (forgotten : Named → Bool) → IsFresh p n → ((s : Source) → o ≡ Some s → IsNewSource (source_pattern s) s × IsSourced s n)
    → StandsIn p o k n empty_snapshot no_rows forgotten
fresh_in p None k n forgotten fresh new = record { stands = fresh forgotten; found = tt }
fresh_in p (Some s) k n forgotten fresh new =
    let is = new s refl in record {
      stands = record {
        gate = subst (λ (c : Condition). GateStands p (pattern_of c) (source_gate s) empty_snapshot) (sym (condition_lent (source_candidates s) n.node))
            ((same_gate p (pattern_of (condition_of n.node)) (source_pattern s) (source_gate s) empty_snapshot is.1.alike).1 (is.0.gate p));
        node = node_lent p (held empty_snapshot) forgotten s (source_pattern s) is.0 n.node (fresh forgotten).node;
      };
      found = λ row e. absurd (false≢true e);
    }

-- so it is for each node of those that were built, and their sources
pub fresh_standing : (p : Program) (members : ℕ → Option Member) (nodes : List NetNode) (fans : Fans) (sources : Sources) → AreSources nodes fans sources
    → ((k : ℕ) (s : Source) → source_at sources k ≡ Some s → IsNewSource (source_pattern s) s) → ((k : ℕ) (n : NetNode) → slice_get (shown members nodes) k ≡ Some n → IsFresh p n) → (forgotten : Named → Bool)
    → (k : ℕ) (n : NetNode) → slice_get (shown members nodes) k ≡ Some n → StandsIn p (source_at sources k) k n empty_snapshot no_rows forgotten
fresh_standing p members nodes fans sources are new fresh forgotten k n e =
    let raw = shown_from members nodes k n e in
    fresh_in p (source_at sources k) k n forgotten (fresh k n e) (λ s of. (new k s of, subst (IsSourced s) raw.2 (sourced_shown (members k) s raw.0 (are.sourced k raw.0 s raw.1 of))))

-- each of them keeps nothing with what it takes from its source
pub fresh_each : (p : Program) (net : Rete) → AreSources net.nodes.items net.fans net.sources → ((k : ℕ) (s : Source) → source_at net.sources k ≡ Some s → IsNewSource (source_pattern s) s)
    → ((k : ℕ) (n : NetNode) → slice_get (shown_nodes net) k ≡ Some n → IsFresh p n) → (k : ℕ) (n : NetNode) → slice_get (shown_nodes net) k ≡ Some n → IsFresh p (taking (source_at net.sources k) n)
fresh_each p net are new fresh k n e forgotten = (fresh_standing p (member_at net.fans) net.nodes.items net.fans net.sources are new fresh forgotten k n e).stands
