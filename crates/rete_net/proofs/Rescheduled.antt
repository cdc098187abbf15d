-- Where sources change, the schedule tells of them still, but for nodes that are due.
use Rattle.rete_net.proofs.Common.{◌≡◌, ◌∙◌, sym, ap, refl, subst, inl, inr, ◌⊎◌, ℕ, zero, suc, ℤ, ◌+◌, ◌<◌, ◌≤◌, ◌==◌, Bool, true, false, arith, List, Option}
use Rattle.rete_net.proofs.Common.{Some, None, IfSome, slice_get, set, Program, IsBefore, NetNode, Schedule, has_place, is_changed_by_clock, IsGateStill}
use Rattle.rete_net.{proofs.{Common.{IsScheduled, PatternGate, Decides-eqb}, Sourced.{by_both}}, specs.{Lending.{IsSameFor}, Schedules.{gate_told, timed_gate}}}
use Rattle.{rete_net.proofs.Walking.{equal_or_not}, candidate_source.specs.{declared.{source.Source.{Source}, sources.Sources.{Sources}}, Sources.{is_lead}}}
use Rattle.candidate_source.{specs.Sources.{is_led, is_this, lead_of, source_at, AreApart, AreLaidAs}, proofs.Moving.{lead_alike}}
use Rattle.{std.proofs.Math.Nat.{eq-or-lt_of_le}, fx_base.proofs.{Orders.{below_or_last}, Sequences.{get-set_other, get-set_same, one_value}}}

-- a node stands under its moments by other sources that have the same gate for it
by_gate : (p : Program) (old new : Sources) (schedule : Schedule) (k : ℕ) (n : NetNode) → gate_told new k n ≡ gate_told old k n → IsScheduled p old schedule k n → IsScheduled p new schedule k n
by_gate p old new schedule k n same is = record {
  until = is.until;
  set = is.set;
  quiet = is.quiet;
  lent = is.lent;
  gate = subst (λ (o : Option PatternGate). IfSome o (λ gate. (clock : ℤ) → IsBefore is.until clock → IsGateStill gate clock)) (sym same) is.gate;
  line = is.line;
  timers = is.timers;
  found = is.found;
  entry = is.entry;
  up_to = is.up_to;
  waits = is.waits;
  still = is.still;
}

same_gate : (a b : Option Source) (k : ℕ) (leads : Bool) (n : NetNode) → IsSameFor a b k → timed_gate b leads n ≡ timed_gate a leads n
same_gate None None k leads n same = refl
same_gate None (Some b) k leads n same = absurd same
same_gate (Some a) None k leads n same = absurd same
same_gate (Some a) (Some b) k true n same = ap (λ (gate : PatternGate). Some gate) same.gate
same_gate (Some a) (Some b) k false n same = refl

module _ (p : Program) (old new : Sources) (laid : AreLaidAs old new) (schedule : Schedule) (k : ℕ) (n : NetNode) where
  leads_alike : is_lead new k ≡ is_lead old k
  leads_alike = ap (is_this k) (lead_alike old new laid k)

  -- so it is behind the turn of another node
  pub rescheduled : IsSameFor (source_at old k) (source_at new k) k → IsScheduled p old schedule k n → IsScheduled p new schedule k n
  rescheduled same = by_gate p old new schedule k n (ap (λ leads. timed_gate (source_at new k) leads n) leads_alike ∙ same_gate (source_at old k) (source_at new k) k (is_lead old k) n same)

  -- and where sources have turned whose first nodes are due
  pub scheduled_undue : AreApart old → (places : List ℕ) → (is_led (has_place places) (lead_of old k) ≡ false → source_at new k ≡ source_at old k) → has_place places k ≡ false → IsScheduled p old schedule k n → IsScheduled p new schedule k n
  scheduled_undue apart places rest out = by_gate p old new schedule k n (ap (λ leads. timed_gate (source_at new k) leads n) leads_alike ∙ told (lead_of old k) refl)
    where
      follows : (leads : Bool) → leads ≡ false → timed_gate (source_at new k) leads n ≡ timed_gate (source_at old k) leads n
      follows true e = absurd (let no : true ≡ false = e in cc)
      follows false e = by_both old new laid apart k (λ (a b : Option Source). timed_gate b false n ≡ timed_gate a false n) refl (λ i a b ea eb wa wb. refl)

      told : (o : Option ℕ) → lead_of old k ≡ o → timed_gate (source_at new k) (is_lead old k) n ≡ timed_gate (source_at old k) (is_lead old k) n
      told None e = follows (is_lead old k) (ap (is_this k) e)
      told (Some lead) e = by (lead == k) refl
        where
          by : (b : Bool) → (lead == k) ≡ b → timed_gate (source_at new k) (is_lead old k) n ≡ timed_gate (source_at old k) (is_lead old k) n
          by true same =
              let here : lead ≡ k = (Decides-eqb lead k).0 same in
              ap (λ (o : Option Source). timed_gate o (is_lead old k) n) (rest (ap (is_led (has_place places)) e ∙ ap (has_place places) here ∙ out))
          by false other = follows (is_lead old k) (ap (is_this k) e ∙ other)

below_or_from : (k place : ℕ) → (k < place) ⊎ (place ≤ k)
below_or_from zero zero = inr (omega arith)
below_or_from zero (suc place) = inl (omega arith)
below_or_from (suc k) zero = inr (omega arith)
below_or_from (suc k) (suc place) = elim (below_or_from k place) [
  | inl lt ↦ inl (omega (arith, lt))
  | inr le ↦ inr (omega (arith, le))
]

-- those that the walk has passed, and those that are not due, stand under their moments
abbrev pub AreScheduledBut : Program → Sources → List NetNode → Schedule → List ℕ → ℕ → Type 0
AreScheduledBut p sources nodes schedule due next = (k : ℕ) (n : NetNode) → slice_get nodes k ≡ Some n → is_changed_by_clock n ≡ true → (next ≤ k → has_place due k ≡ false) → IsScheduled p sources schedule k n

pub scheduled_next : (p : Program) (old new : Sources) (nodes : List NetNode) (was is : Schedule) (due due_now : List ℕ) (next place : ℕ) (n node : NetNode) → AreLaidAs old new → ((k : ℕ) → (k ≡ place → ⊥) → IsSameFor (source_at old k) (source_at new k) k)
    → slice_get nodes place ≡ Some n → (is_changed_by_clock node ≡ true → IsScheduled p new is place node) → ((p : Program) (of : Sources) (k : ℕ) (m : NetNode) → (k ≡ place → ⊥) → IsScheduled p of was k m → IsScheduled p of is k m)
    → ((k : ℕ) → next ≤ k → k < place → has_place due k ≡ false) → ((k : ℕ) → has_place due_now k ≡ false → has_place due k ≡ false)
    → AreScheduledBut p old nodes was due next → AreScheduledBut p new (set nodes place node) is due_now (place + 1)
scheduled_next p old new nodes was is due due_now next place n node laid same at here others out still all k m e timed passed = elim (equal_or_not k place) [
  | inl this ↦
      let there : node ≡ m = one_value (slice_get (set nodes place node) place) node m (get-set_same nodes place node n at) (ap (slice_get (set nodes place node)) (sym this) ∙ e) in
      subst (λ (i : ℕ). IsScheduled p new is i m) (sym this) (subst (IsScheduled p new is place) there (here (subst (λ (x : NetNode). is_changed_by_clock x ≡ true) (sym there) timed)))
  | inr other ↦
      others p new k m other (rescheduled p old new laid was k m (same k other) (all k m (sym (get-set_other nodes place k node other) ∙ e) timed (λ le. not_due le other)))
]
  where
    not_due : next ≤ k → (k ≡ place → ⊥) → has_place due k ≡ false
    not_due le other = elim (below_or_from k place) [
      | inl lt ↦ out k le lt
      | inr from ↦ elim (eq-or-lt_of_le from) [
        | inl this ↦ absurd (other (sym this))
        | inr behind ↦ still k (passed (omega (arith, behind)))
      ]
    ]

-- those before a place stand under their moments
abbrev pub AreScheduledBelow : Program → Sources → List NetNode → Schedule → ℕ → Type 0
AreScheduledBelow p sources nodes schedule place = (k : ℕ) (n : NetNode) → slice_get nodes k ≡ Some n → k < place → is_changed_by_clock n ≡ true → IsScheduled p sources schedule k n

-- one more is put
pub scheduled_below : (p : Program) (old new : Sources) (nodes : List NetNode) (was is : Schedule) (place : ℕ) (n node : NetNode) → AreLaidAs old new → ((k : ℕ) → (k ≡ place → ⊥) → IsSameFor (source_at old k) (source_at new k) k)
    → slice_get nodes place ≡ Some n → (is_changed_by_clock node ≡ true → IsScheduled p new is place node) → ((p : Program) (of : Sources) (k : ℕ) (m : NetNode) → (k ≡ place → ⊥) → IsScheduled p of was k m → IsScheduled p of is k m)
    → AreScheduledBelow p old nodes was place → AreScheduledBelow p new (set nodes place node) is (place + 1)
scheduled_below p old new nodes was is place n node laid same at here others all k m e lt timed = elim (equal_or_not k place) [
  | inl this ↦
      let there : node ≡ m = one_value (slice_get (set nodes place node) place) node m (get-set_same nodes place node n at) (ap (slice_get (set nodes place node)) (sym this) ∙ e) in
      subst (λ (i : ℕ). IsScheduled p new is i m) (sym this) (subst (IsScheduled p new is place) there (here (subst (λ (x : NetNode). is_changed_by_clock x ≡ true) (sym there) timed)))
  | inr other ↦
      let less : k < place = elim (below_or_last k place lt) [
        | inl below ↦ below
        | inr last ↦ absurd (other last)
      ] in
      others p new k m other (rescheduled p old new laid was k m (same k other) (all k m (sym (get-set_other nodes place k node other) ∙ e) less timed))
]
