-- A step of the gate, and then of the candidates.
use Rattle.candidate_source.proofs.Common.{◌∙◌, ap, sym, subst, ◌≡◌, ℕ, List, Bool, true, false, not, ◌&&◌, ◌||◌, false≢true, is_some, BTreeMap, Value}
use Rattle.candidate_source.proofs.Common.{same_value, Delta, Named, name_cmp, has, Pattern, JoinIndex, at, is_under, Look, rows_sought, Candidates}
use Rattle.candidate_source.proofs.Common.{has_candidate, row_naming, has_name, KeepsNames, NamesAgree, Handed, Source, gone_at, come_at, is_under_one}
use Rattle.candidate_source.proofs.{Common.{concerns, AreOnce, LeavesOthers, HaveLeft, HaveCome, HasTurned}, Turning.{once_alike}}
use Rattle.{std.proofs.Math.Bool.{and-true}, fx_base.proofs.Tests.{and_where}, rule_model.specs.{declared.program.Program.{Program}, Snapshots.{Snapshot}}}
use Rattle.{join_memory.specs.{Inputs.{IsNameDifference}, Standing.{no_names}}, condition_rows.specs.Sets.{candidates_of}}
use Rattle.pattern_gate.specs.{declared.gate.PatternGate.{PatternGate}, Gates.{GateStands}}

-- what comes does not go, in a true difference
not_both : (old new gone come : Bool) → gone ≡ (old && not new) → come ≡ (new && not old) → come ≡ true → gone ≡ false
not_both true true gone come g c e = g
not_both true false gone come g c e = absurd (false≢true (sym c ∙ e))
not_both false new gone come g c e = g

still_there : (old gone : Bool) → gone ≡ false → (old && not gone) ≡ old
still_there old gone is = ap (λ b. old && not b) is ∙ and-true old

module _ (look : Look) (old mid new : Source) (gate : PatternGate) (before between after : BTreeMap ℕ Handed) (left came : List Named) where
  -- the gate has taken its step
  abbrev advanced : Source
  advanced = record { gate = gate; own = old.own; reached = old.reached }

  pub others_kept : HaveLeft advanced mid look left before between → HaveCome mid new look came between after → LeavesOthers old before after
  others_kept went come k none =
      let here = went.others k none in
      let then = come.others k (λ value. ap (λ (reached : JoinIndex Value ℕ (Unit {0})). is_under reached value k) went.reached ∙ none value) in
      (then.0 ∙ here.0, then.1 ∙ here.1)

  module _ (p : Program) (s next : Snapshot) (right : Delta) (is : IsNameDifference (candidates_of p old.own.pattern s) (candidates_of p old.own.pattern next) right)
      (are_left : (who : Named) → has_name left who ≡ has right.gone (row_naming who)) (have_come : (who : Named) → has_name came who ≡ has right.come (row_naming who)) where
    module _ (went : HaveLeft advanced mid look left before between) where
      concerns_alike : (who : Named) (k : ℕ) → concerns mid look who k ≡ concerns old look who k
      concerns_alike who k =
          ap (λ reached. is_under_one reached (rows_sought mid.own.pattern look who) k) went.reached ∙ ap (λ (q : Pattern). is_under_one old.reached (rows_sought q look who) k) went.kept.pattern

      was_there : (who : Named) → has right.come (row_naming who) ≡ true → has_candidate mid.own look who ≡ has_candidate old.own look who
      was_there who e =
          went.kept.names who ∙ ap (λ b. has_candidate old.own look who && not b) (are_left who)
          ∙ still_there (has_candidate old.own look who) (has right.gone (row_naming who)) (not_both _ _ _ _ (is.goes who) (is.comes who) e)

      come_alike : (k : ℕ) (who : Named) → (has_name came who && (not (has_candidate mid.own look who) && concerns mid look who k))
          ≡ (has right.come (row_naming who) && (not (has_candidate old.own look who) && concerns old look who k))
      come_alike k who =
          ap (λ b. b && (not (has_candidate mid.own look who) && concerns mid look who k)) (have_come who)
          ∙ ap (λ c. has right.come (row_naming who) && (not (has_candidate mid.own look who) && c)) (concerns_alike who k)
          ∙ and_where (has right.come (row_naming who)) _ _ (λ e. ap (λ b. not b && concerns old look who k) (was_there who e))

    pub turned : GateStands p old.own.pattern gate next → HaveLeft advanced mid look left before between → HaveCome mid new look came between after → HasTurned p s next old new look before after
    turned stands went come = record {
      gate = subst (λ (g : PatternGate). GateStands p old.own.pattern g next) (sym (come.gate ∙ went.gate)) stands;
      right = right;
      difference = is;
      kept = record {
        pattern = come.kept.pattern ∙ went.kept.pattern;
        names = λ who.
            come.kept.names who ∙ ap (λ b. b || has_name came who) (went.kept.names who) ∙ ap (λ b. (has_candidate old.own look who && not b) || has_name came who) (are_left who)
            ∙ ap (λ b. (has_candidate old.own look who && not (has right.gone (row_naming who))) || b) (have_come who);
        agrees = λ agree. come.kept.agrees (went.kept.agrees agree);
      };
      gone = λ k un.
          subst (AreOnce (λ who. has right.gone (row_naming who) && (has_candidate old.own look who && concerns old look who k))) (sym (come.gone k))
          (once_alike _ _ (gone_at between k) (λ who. ap (λ b. b && (has_candidate old.own look who && concerns old look who k)) (are_left who)) (went.gone k un));
      come = λ k un. once_alike _ _ (come_at after k) (come_alike went k) (come.come k (went.come k ∙ un.1));
    }

-- ---- a source that is loaded

module _ (look : Look) (empty own : Candidates) (names : List Named) (none : (value : Value) (who : Named) → is_some (at same_value name_cmp empty.names value who) ≡ false)
    (kept : KeepsNames empty own look (λ who. has_candidate empty look who || has_name names who)) where
  pub loaded_names : (right : Delta) (now : Named → Bool) → IsNameDifference no_names now right → ((who : Named) → has_name names who ≡ has right.come (row_naming who)) → (who : Named) → has_candidate own look who ≡ now who
  loaded_names right now is have_come who = kept.names who ∙ ap (λ b. b || has_name names who) (none _ who) ∙ have_come who ∙ is.comes who ∙ and-true (now who)

  pub loaded_listed : (who : Named) → has_candidate own look who ≡ has_name names who
  loaded_listed who = kept.names who ∙ ap (λ b. b || has_name names who) (none _ who)

  pub loaded_agrees : NamesAgree own.pattern own.names look
  loaded_agrees = kept.agrees (λ value who there. absurd (false≢true (sym (none value who) ∙ there)))
