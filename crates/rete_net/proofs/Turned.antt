-- Where a walk begins, and the sources have turned: which nodes may take their turn, and which are left alone.
use Rattle.rete_net.proofs.Common.{◌≡◌, ◌∙◌, sym, ap, refl, subst, ℕ, ℤ, not, Bool, true, false, List, [], Option, Some, None, IfSome, slice_get, Fact, Delta}
use Rattle.rete_net.proofs.Common.{Moment, Program, snapshot_at, floor, Look, is_one_meant, is_whole, condition_of, is_negated, pattern_of, Node, NetNode, Fans}
use Rattle.rete_net.proofs.Common.{is_changed_by_clock, has_place, IsGateStill, IsLeftAlone, IsStillAt, AreSources, Index, Schedule, AreScheduled, IsScheduled}
use Rattle.{rete_net.proofs.Common.{IsUndue, IsNodeFound, IsWired, is_in, changes_nothing}, std.proofs.lemmas.Bool.{false_from_ne_true}}
use Rattle.candidate_source.specs.{declared.{source.Source.{Source}, sources.Sources.{Sources}}, Reached.{is_under}, Sources.{handed_come, handed_gone}}
use Rattle.candidate_source.specs.Sources.{in_list, is_follower, is_lead, is_other, is_this, source_at, source_place, AreApart, AreLaidAs, AreOthersAtRest}
use Rattle.candidate_source.specs.Sources.{AreReachedAs, HaveTurned, IsPassedOver}
use Rattle.beta_node.specs.declared.node.Node.TheVariants as node
use Rattle.{fx_base.proofs.Tests.{or_first_false}, rete_net.{specs.{Lending.{MayTurn, MayTurnIn}, Schedules.{timed_gate}}, proofs.Alone.{IsAloneBy}}}
use Rattle.rete_net.proofs.{Sourced.{by_both}, Stillness.{others_rest}}

-- where no row waits for a moment nothing is due
still_untimed : (n : Node) (at : ℤ) → is_negated (condition_of n) ≡ false → IsStillAt n at
still_untimed (node.Join join) at e = tt
still_untimed (node.Not waiting) at e = absurd (let no : true ≡ false = e in cc)
still_untimed (node.Exists tally) at e = tt
still_untimed (node.Fold fold) at e = tt

-- a first node follows none
pub leads_not : (k : ℕ) (o : Option ℕ) → is_this k o ≡ true → is_other k o ≡ false
leads_not k None e = refl
leads_not k (Some lead) e = ap not e

module _ (nodes : List NetNode) (fans : Fans) (old : Sources) (are : AreSources nodes fans old) where
  -- one without a source follows none
  pub follows_none : (k : ℕ) → source_at old k ≡ None → is_follower old k ≡ false
  follows_none k e = by (source_place old k) refl
    where
      by : (o : Option ℕ) → source_place old k ≡ o → is_follower old k ≡ false
      by None none = ap (λ o. is_other k (in_list old.leads.items o)) none
      by (Some at) there =
          let s = are.apart.there k at there in absurd (let no : Some s.0 ≡ None = sym (ap (in_list old.list.items) there ∙ s.1) ∙ e in cc)

module _ (p : Program) (look : Look) (gone : List Fact) (come : Option Fact) (moment : Moment) (first : Delta) (nodes : List NetNode) (fans : Fans) (old new : Sources) (are : AreSources nodes fans old) where
  module _ (laid : AreLaidAs old new) (reached : AreReachedAs old new) (turned : HaveTurned p gone come moment.clock look old new) where
    pub may_all : (k : ℕ) (n : NetNode) → slice_get nodes k ≡ Some n → MayTurn p gone come moment.clock look (source_at old k) (source_at new k) k n (handed_gone new k) (handed_come new k)
    may_all k n e =
        by_both old new laid are.apart k (λ (was is : Option Source). MayTurn p gone come moment.clock look was is k n (handed_gone new k) (handed_come new k)) tt
        (λ i a b ea eb wa wb. record { sourced = are.sourced k n a e wa; turned = turned k a b wa wb; reached = λ value. ap (λ r. is_under r value k) (reached i a b ea eb) })

    -- a node to which nothing is handed, and that a step does not reach, is left alone
    pub alone_all : (k : ℕ) (n : NetNode) → slice_get nodes k ≡ Some n → IsPassedOver new k → IsLeftAlone p old k n first gone come moment → IsAloneBy p look gone come moment first (source_at old k) (source_at new k) k n
    alone_all k n e passed left = by (source_at old k) (source_at new k) refl (may_all k n e)
      where
        still : (t : Bool) → is_changed_by_clock n ≡ t → IsStillAt n.node (floor p (snapshot_at moment) (pattern_of (condition_of n.node)).entry.0)
        still true timed = (left.undue timed).node
        still false untimed = still_untimed n.node _ (or_first_false (is_negated (condition_of n.node)) (not (is_whole (pattern_of (condition_of n.node)).window)) untimed)

        by : (was is : Option Source) → source_at old k ≡ was → MayTurn p gone come moment.clock look was is k n (handed_gone new k) (handed_come new k) → IsAloneBy p look gone come moment first was is k n
        by None None at may = record {
          unmeant = left.unmeant (follows_none nodes fans old are k at);
          begun = left.begun;
          undue = λ timed.
              let undue = left.undue timed in
              record {
                gate = subst (λ (o : Option Source). IfSome (timed_gate o (is_lead old k) n) (λ gate. IsGateStill gate moment.clock)) at undue.gate;
                node = undue.node;
              };
        }
        by None (Some is) at may = absurd may
        by (Some was) None at may = absurd may
        by (Some was) (Some is) at may = record {
          may = subst (λ names. MayTurnIn p gone come moment.clock look was is k n names []) passed.0 (subst (MayTurnIn p gone come moment.clock look was is k n (handed_gone new k)) passed.1 may);
          begun = left.begun;
          still = still (is_changed_by_clock n) refl;
        }

-- ---- out of what the schedule, the index and the sources answer

module _ (p : Program) (look : Look) (gone : List Fact) (come : Option Fact) (moment : Moment) (first : Delta) (nodes : List NetNode) (fans : Fans) (old new : Sources) (ends : List ℕ) (index : Index) (schedule : Schedule)
    (lent : List NetNode) (lent_is : lent ≡ nodes) (by_time by_facts due : List ℕ) (undue : (of : Sources) (k : ℕ) (n : NetNode) → IsScheduled p of schedule k n → has_place by_time k ≡ false → IsUndue p of k n moment)
    (kept : (k : ℕ) → has_place by_time k ≡ true → has_place by_facts k ≡ true)
    (unmeant : (k : ℕ) (n : NetNode) → slice_get lent k ≡ Some n → IsNodeFound index k n → has_place by_facts k ≡ false → is_one_meant (pattern_of (condition_of n.node)) gone come ≡ false)
    (begun : (k : ℕ) → is_in index.firsts.items k ≡ true → has_place by_facts k ≡ false → changes_nothing first ≡ true)
    (laid : AreLaidAs old new) (reached : AreReachedAs old new) (kept_on : (k : ℕ) → has_place by_facts k ≡ true → has_place due k ≡ true) (passed : (k : ℕ) → has_place due k ≡ false → IsPassedOver new k)
    (turned : AreApart old → AreOthersAtRest old by_facts gone come moment.clock → HaveTurned p gone come moment.clock look old new)
    (wired : IsWired old nodes ends index) (scheduled : AreScheduled p old nodes schedule) (are : AreSources nodes fans old) where
  left : (k : ℕ) (n : NetNode) → slice_get nodes k ≡ Some n → has_place by_facts k ≡ false → IsLeftAlone p old k n first gone come moment
  left k n e out = record {
    unmeant = λ follows. unmeant k n (ap (λ (ns : List NetNode). slice_get ns k) lent_is ∙ e) (wired.indexed.found k n e follows) out;
    begun = λ none. begun k (wired.indexed.firsts k n e none) out;
    undue = λ timed. undue old k n (scheduled k n e timed) (false_from_ne_true (has_place by_time k) (λ there. let no : true ≡ false = sym (kept k there) ∙ out in cc));
  }

  have_turned : HaveTurned p gone come moment.clock look old new
  have_turned = turned are.apart (others_rest p nodes fans old are schedule scheduled first gone come moment by_facts left)

  pub may_begin : (k : ℕ) (n : NetNode) → slice_get nodes k ≡ Some n → MayTurn p gone come moment.clock look (source_at old k) (source_at new k) k n (handed_gone new k) (handed_come new k)
  may_begin = may_all p look gone come moment first nodes fans old new are laid reached have_turned

  pub alone_begin : (k : ℕ) (n : NetNode) → slice_get nodes k ≡ Some n → has_place due k ≡ false → IsAloneBy p look gone come moment first (source_at old k) (source_at new k) k n
  alone_begin k n e out =
      alone_all p look gone come moment first nodes fans old new are laid reached have_turned k n e (passed k out)
      (left k n e (false_from_ne_true (has_place by_facts k) (λ there. let no : true ≡ false = sym (kept_on k there) ∙ out in cc)))
