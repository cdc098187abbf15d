-- One of the sources is lent to a node for its turn: what becomes of all of them.
use Rattle.rete_net.proofs.Common.{◌≡◌, ◌∙◌, sym, ap, refl, subst, inl, inr, ℕ, List, length, length-set, set, Option, Some, None, slice_get, slice_get_within}
use Rattle.rete_net.proofs.Common.{◌<◌, arith, Look, Row, Node, NetNode, Fans, AreSources, IsReplaced, Condition, condition_of, pattern_of, seat_at}
use Rattle.{rete_net.{specs.Lending.{AreLentAs, IsFoundAnew, IsSameFor}, proofs.Walking.{equal_or_not}}, join_tests.specs.NameKeys.{name_key}}
use Rattle.{pattern_gate.specs.Alike.{TakesAlike}, candidate_source.{proofs.Moving.{place_alike}, specs.declared.source.Source.{Source}}}
use Rattle.candidate_source.specs.{declared.sources.Sources.{Sources}, Doors.{source_pattern}, Handed.{come_at, gone_at}, Lending.{with_given, with_source}}
use Rattle.candidate_source.{proofs.Lent.{lent_apart, lent_or_not, lent_other, lent_same}, specs.Sources.{handed_come, handed_gone, in_list, source_at}}
use Rattle.{candidate_source.specs.Sources.{source_place, AreApart, AreLaidAs}, fx_base.proofs.Sequences.{get-below, get-set_other, get-set_same, one_value}}
use Rattle.join_memory.specs.declared.candidates.Candidates.{Candidates}

-- a source is the same as itself
pub same_for : (o : Option Source) (k : ℕ) → IsSameFor o o k
same_for None k = tt
same_for (Some s) k = record { gate = refl; candidates = refl; reached = λ value. refl }

-- nothing is lent
pub lent_none : (place : ℕ) (sources : Sources) → AreLentAs place sources sources
lent_none place sources = record {
  laid = record { of = refl; leads = refl; many = refl; patterns = λ at a b e f. ap source_pattern (sym (one_value (slice_get sources.list.items at) a b e f)) };
  each = λ k other. same_for (source_at sources k) k;
  gone = λ k other. refl;
  come = λ k other. refl;
  apart = λ apart. apart;
}

module _ (n : Node) (look : Look) (come : List Row) (place : ℕ) (sources : Sources) (s new : Source) (is : source_at sources place ≡ Some s) (anew : IsFoundAnew n look place come s new) where
  laid_given : (o : Option ℕ) → in_list sources.list.items o ≡ Some s → AreLaidAs sources (with_given sources o new)
  laid_given None e = absurd (let no : None ≡ Some s = e in cc)
  laid_given (Some at) there = record { of = refl; leads = refl; many = length-set sources.list.items at new; patterns = patterns }
    where
      patterns : (i : ℕ) (a b : Source) → slice_get sources.list.items i ≡ Some a → slice_get (set sources.list.items at new) i ≡ Some b → source_pattern b ≡ source_pattern a
      patterns i a b e f = elim (equal_or_not i at) [
        | inl same ↦
            ap source_pattern (one_value (slice_get (set sources.list.items at new) at) b new (ap (slice_get (set sources.list.items at new)) (sym same) ∙ f) (get-set_same sources.list.items at new s there))
            ∙ ap (λ (c : Candidates). c.pattern) anew.candidates ∙ ap source_pattern (one_value (slice_get sources.list.items i) s a (ap (slice_get sources.list.items) same ∙ there) e)
        | inr other ↦ ap source_pattern (one_value (slice_get sources.list.items i) b a (sym (get-set_other sources.list.items at i new other) ∙ f) e)
      ]

  each : (k : ℕ) → (k ≡ place → ⊥) → IsSameFor (source_at sources k) (source_at (with_source sources place new) k) k
  each k away = elim (lent_or_not sources place s new is k) [
    | inl same ↦
        subst (λ (x : Option Source). IsSameFor x (source_at (with_source sources place new) k) k) (sym (ap (in_list sources.list.items) same ∙ is))
        (subst (λ (x : Option Source). IsSameFor (Some s) x k) (sym (lent_same sources place s new is k same)) (record { gate = anew.gate; candidates = anew.candidates; reached = λ value. anew.others value k away }))
    | inr other ↦ subst (λ (x : Option Source). IsSameFor (source_at sources k) x k) (sym (lent_other sources place s new is k other)) (same_for (source_at sources k) k)
  ]

  handed_given : (o : Option ℕ) → (with_given sources o new).handed ≡ sources.handed
  handed_given None = refl
  handed_given (Some at) = refl

  -- what is lent to a node comes back as it left the node
  pub lent_to_one : AreLentAs place sources (with_source sources place new)
  lent_to_one = record {
    laid = laid_given (source_place sources place) is;
    each = each;
    gone = λ k away. ap (λ handed. gone_at handed k) (handed_given (source_place sources place));
    come = λ k away. ap (λ handed. come_at handed k) (handed_given (source_place sources place));
    apart = lent_apart sources place s new is anew.others;
  }

  pub lent_here : source_at (with_source sources place new) place ≡ Some new
  lent_here = lent_same sources place s new is place refl

-- ---- what is handed to a node is taken first

pub handed_taken : (old mid : Sources) → mid.list ≡ old.list → mid.of ≡ old.of → mid.leads ≡ old.leads → mid ≡ record old { handed = mid.handed }
handed_taken old mid list of leads =
    ap (λ l. record { list = l; of = mid.of; leads = mid.leads; handed = mid.handed }) list
    ∙ ap (λ o. record { list = old.list; of = o; leads = mid.leads; handed = mid.handed }) of
    ∙ ap (λ l. record { list = old.list; of = old.of; leads = l; handed = mid.handed }) leads

-- and others are handed the same
pub lent_behind : (place : ℕ) (old mid new : Sources) → mid.list ≡ old.list → mid.of ≡ old.of → mid.leads ≡ old.leads
    → ((k : ℕ) → (k ≡ place → ⊥) → (handed_gone mid k ≡ handed_gone old k) × (handed_come mid k ≡ handed_come old k)) → AreLentAs place mid new → AreLentAs place old new
lent_behind place old mid new list of leads handed lent =
    let same = handed_taken old mid list of leads in
    let base : AreLentAs place (record old { handed = mid.handed }) new = subst (λ (x : Sources). AreLentAs place x new) same lent in
    record {
      laid = record { of = base.laid.of; leads = base.laid.leads; many = base.laid.many; patterns = base.laid.patterns };
      each = base.each;
      gone = λ k away. lent.gone k away ∙ (handed k away).0;
      come = λ k away. lent.come k away ∙ (handed k away).1;
      apart = λ apart. base.apart (record { many = apart.many; there = apart.there; led = apart.led; apart = apart.apart });
    }

pub source_again : (old mid : Sources) (place : ℕ) → mid.list ≡ old.list → mid.of ≡ old.of → mid.leads ≡ old.leads → source_at mid place ≡ source_at old place
source_again old mid place list of leads = ap (λ (x : Sources). source_at x place) (handed_taken old mid list of leads)

-- ---- sources that are laid alike

module _ (old new : Sources) (laid : AreLaidAs old new) (apart : AreApart old) (k : ℕ) where
  -- the node in a place is of none in both, or of one in both
  pub by_both : (P : Option Source → Option Source → Type 0) → P None None
      → ((at : ℕ) (a b : Source) → slice_get old.list.items at ≡ Some a → slice_get new.list.items at ≡ Some b → source_at old k ≡ Some a → source_at new k ≡ Some b → P (Some a) (Some b)) → P (source_at old k) (source_at new k)
  by_both P none some = by (source_place old k) refl
    where
      by : (o : Option ℕ) → source_place old k ≡ o → P (source_at old k) (source_at new k)
      by None e =
          subst (λ (a : Option Source). P a (source_at new k)) (sym (ap (in_list old.list.items) e)) (subst (P None) (sym (ap (in_list new.list.items) (place_alike old new laid k ∙ e))) none)
      by (Some at) e =
          let a = apart.there k at e in
          let within : at < length old.list.items = slice_get_within old.list.items at a.0 a.1 in
          let many : length new.list.items ≡ length old.list.items = laid.many in
          let b = get-below new.list.items at (omega (arith, within, many)) in
          let was : source_at old k ≡ Some a.0 = ap (in_list old.list.items) e ∙ a.1 in
          let is : source_at new k ≡ Some b.0 = ap (in_list new.list.items) (place_alike old new laid k ∙ e) ∙ b.1 in
          subst (λ (x : Option Source). P x (source_at new k)) (sym was) (subst (P (Some a.0)) (sym is) (some at a.0 b.0 a.1 b.1 was is))

-- sources of nodes are those of others in their places, where they are laid alike and stay apart
pub sources_again : (nodes nodes_now : List NetNode) (fans fans_now : Fans) (old new : Sources) → AreSources nodes fans old → IsReplaced nodes nodes_now → fans_now.seats ≡ fans.seats → AreLaidAs old new → AreApart new → AreSources nodes_now fans_now new
sources_again nodes nodes_now fans fans_now old new are replaced seats laid apart = record {
  apart = apart;
  many = ap (λ of. length of.items) laid.of ∙ are.many ∙ sym replaced.many;
  sourced = λ k n s e at.
      let o = was k n e in
      let a = by_both old new laid are.apart k (λ (x y : Option Source). y ≡ Some s → (a : Source) × (x ≡ Some a) × (source_pattern s ≡ source_pattern a))
      (λ f. absurd (let no : None ≡ Some s = f in cc))
      (λ i a b ea eb wa wb f. (a, refl, (let same : b ≡ s = cc in ap source_pattern (sym same) ∙ laid.patterns i a b ea eb))) at in
      let sourced = are.sourced k o.0 a.0 o.1 a.1 in
      let same = replaced.condition k o.0 n o.1 e in
      record {
        alike =
            subst (λ (c : Condition). TakesAlike (pattern_of c) (source_pattern s)) (sym same) (subst (TakesAlike (pattern_of (condition_of o.0.node))) (sym a.2) sourced.alike);
        keeps = ap (λ (c : Condition). name_key (pattern_of c)) same ∙ sourced.keeps ∙ ap name_key (sym a.2);
      };
  unseated = λ k s at.
      by_both old new laid are.apart k (λ (x y : Option Source). y ≡ Some s → seat_at fans_now.seats.items k ≡ None)
      (λ f. absurd (let no : None ≡ Some s = f in cc))
      (λ i a b ea eb wa wb f. ap (λ l. seat_at l.items k) seats ∙ are.unseated k a wa) at;
}
  where
    was : (k : ℕ) (n : NetNode) → slice_get nodes_now k ≡ Some n → (o : NetNode) × (slice_get nodes k ≡ Some o)
    was k n e =
        let many = replaced.many in
        let within : k < length nodes_now = slice_get_within nodes_now k n e in
        get-below nodes k (omega arith)
