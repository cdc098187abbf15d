-- Sources that have turned, or forgotten: those whose first nodes were due have moved, the others rest.
use Rattle.candidate_source.proofs.Common.{◌∙◌, ap, sym, refl, subst, ◌≡◌, ℕ, List, [], ◌∷◌, cond, eq_by_cmp, Bool, true, false, not, ◌&&◌, ◌||◌, Option, Some}
use Rattle.candidate_source.proofs.Common.{None, BTreeMap, Delta, Named, nat_cmp, Look, has_candidate, Handed, Source, gone_at, come_at, has_place, HaveLeft}
use Rattle.candidate_source.{proofs.Common.{false≢true}, specs.{declared.sources.Sources.{Sources}, Handed.{given_gone, given_come, IsUnhanded}}}
use Rattle.candidate_source.specs.{Moving.{HaveMoved, TurnStep}, Sources.{handed_gone, handed_come, in_list, is_lead, is_led, is_this, lead_of, source_at}}
use Rattle.candidate_source.specs.Sources.{source_place, AreApart, AreOthersAtRest, HasTurnedAt, HaveForgotten, HaveLeftAt, HaveTurned, IsAtRest}
use Rattle.{candidate_source.proofs.{Sharing.{left_at, turned_at}, Turning.{none_once}}, std.proofs.{Common.{ℤ, slice_get}, lemmas.Map.Made.{is_some-lookup}}}
use Rattle.{std.specs.{BTreeMap.{get, is_at}, Map.{keys_of, lookup}}, fx_base.{specs.declared.fact.Fact.{Fact}, proofs.Orders.{eqb-self, eq_by_nat_cmp-flip}}}
use Rattle.{fx_base.proofs.Sequences.{one_value, is_some-false}, rule_model.specs.{declared.program.Program.{Program}, Snapshots.{Snapshot}}}
use Rattle.{condition_rows.specs.Sets.{candidates_of}, pattern_gate.specs.{Moves.{MovesSnapshot}, Gates.{GateStands}}}

-- no candidate
abbrev none : Delta
none = record { gone = []; come = [] }

same_gone : (b : Bool) → false ≡ (b && not b)
same_gone true = refl
same_gone false = refl

kept_still : (b : Bool) → b ≡ ((b && not false) || false)
kept_still true = refl
kept_still false = refl

-- a source at rest hands nothing
rests : (p : Program) (s next : Snapshot) (gone : List Fact) (come : Option Fact) (clock : ℤ) (a : Source) (look : Look) (k : ℕ) (leaving coming : List Named) → IsAtRest a gone come clock
    → GateStands p a.own.pattern a.gate s → MovesSnapshot p s next gone come → next.clock ≡ clock → leaving ≡ [] → coming ≡ [] → HasTurnedAt p s next a a look k leaving coming
rests p s next gone come clock a look k leaving coming rest stands moves at none_leave none_come =
    let same = rest.candidates p s next stands moves at in
    record {
      gate = rest.stands p s next stands moves at;
      right = none;
      difference = record { goes = λ who. same_gone _ ∙ ap (λ b. candidates_of p a.own.pattern s who && not b) (sym (same who)); comes = λ who. same_gone _ ∙ ap (λ b. candidates_of p a.own.pattern next who && not b) (same who) };
      kept = record { pattern = refl; names = λ who. kept_still (has_candidate a.own look who); agrees = λ agree. agree };
      gone = none_once _ leaving none_leave (λ who. refl);
      come = none_once _ coming none_come (λ who. refl);
    }

module _ (old : Sources) (apart : AreApart old) where
  -- the first node of a source is of it
  pub lead_is : (k lead : ℕ) (a : Source) → source_at old k ≡ Some a → lead_of old k ≡ Some lead → (source_at old lead ≡ Some a) × (is_lead old lead ≡ true)
  lead_is k lead a = by (source_place old k)
    where
      by : (o : Option ℕ) → in_list old.list.items o ≡ Some a → in_list old.leads.items o ≡ Some lead → (source_at old lead ≡ Some a) × (is_lead old lead ≡ true)
      by None e f = absurd (let no : None ≡ Some lead = f in cc)
      by (Some at) e f =
          let one = apart.led at a e in
          let of_it : source_place old lead ≡ Some at = ap (source_place old) (one_value (slice_get old.leads.items at) lead one.0 f one.1) ∙ one.2 in
          (ap (in_list old.list.items) of_it ∙ e, ap (λ o. is_this lead (in_list old.leads.items o)) of_it ∙ ap (is_this lead) f ∙ eqb-self lead)

  -- each node of a source has a first one
  pub has_lead : (k : ℕ) (a : Source) → source_at old k ≡ Some a → (lead : ℕ) × (lead_of old k ≡ Some lead)
  has_lead k a = by (source_place old k)
    where
      by : (o : Option ℕ) → in_list old.list.items o ≡ Some a → (lead : ℕ) × (in_list old.leads.items o ≡ Some lead)
      by None e = absurd (let no : None ≡ Some a = e in cc)
      by (Some at) e = let one = apart.led at a e in (one.0, one.1)

  -- and a node with a first one is of a source
  has_source : (places : ℕ → Bool) (k : ℕ) → is_led places (lead_of old k) ≡ true → (a : Source) × (source_at old k ≡ Some a)
  has_source places k led = by (source_place old k) refl led
    where
      by : (o : Option ℕ) → source_place old k ≡ o → is_led places (in_list old.leads.items o) ≡ true → (a : Source) × (source_at old k ≡ Some a)
      by None e led = absurd (false≢true led)
      by (Some at) e led = let one = apart.there k at e in (one.0, ap (in_list old.list.items) e ∙ one.1)

  module _ (new : Sources) (empty : BTreeMap ℕ Handed) (un : (k : ℕ) → IsUnhanded empty k) (places : List ℕ) (look : Look) where
    abbrev begun : Sources
    begun = record { list = old.list; of = old.of; leads = old.leads; handed = empty }

    pub have_turned : (p : Program) (gone : List Fact) (come : Option Fact) (clock : ℤ) → HaveMoved (TurnStep p gone come clock look) (has_place places) begun new → AreOthersAtRest old places gone come clock
        → HaveTurned p gone come clock look old new
    have_turned p gone come clock moved rest k a b e f s next good stands moves at = by (is_led (has_place places) (lead_of old k)) refl
      where
        by : (led : Bool) → is_led (has_place places) (lead_of old k) ≡ led → HasTurnedAt p s next a b look k (handed_gone new k) (handed_come new k)
        by true led =
            let m = moved.moved k a e led in
            let turned = turned_at p s next a m.now look m.before m.after (m.moved.turned s next good stands moves at) k (m.from_gone ∙ (un k).0, m.from_come ∙ (un k).1) in
            subst (λ gone. HasTurnedAt p s next a b look k gone (handed_come new k)) (sym m.to_gone)
            (subst (λ come. HasTurnedAt p s next a b look k (gone_at m.after k) come) (sym m.to_come) (subst (λ (b : Source). HasTurnedAt p s next a b look k (gone_at m.after k) (come_at m.after k)) (one_value (source_at new k) m.now b m.is f) turned))
        by false led =
            let still = moved.others k led in
            let first = has_lead k a e in
            let of_it = lead_is k first.0 a e first.1 in
            let same : a ≡ b = one_value (source_at new k) a b (still.source ∙ e) f in
            subst (λ (b : Source). HasTurnedAt p s next a b look k (handed_gone new k) (handed_come new k)) same
            (rests p s next gone come clock a look k _ _ (rest first.0 a of_it.0 of_it.1 (sym (ap (is_led (has_place places)) first.1) ∙ led)) stands moves at (still.gone ∙ (un k).0) (still.come ∙ (un k).1))

    pub have_forgotten : (names : List Named) → HaveMoved (λ a b. HaveLeft a b look names) (has_place places) begun new → HaveForgotten look names places old new
    have_forgotten names moved = record {
      left = λ k a b e f led.
          let m = moved.moved k a e led in
          let left = left_at a m.now look names m.before m.after m.moved k (m.from_gone ∙ (un k).0, m.from_come ∙ (un k).1) in
          subst (HaveLeftAt a b look names k) (sym m.to_gone) (subst (λ (b : Source). HaveLeftAt a b look names k (gone_at m.after k)) (one_value (source_at new k) m.now b m.is f) left);
      none_come = λ k. come k (is_led (has_place places) (lead_of old k)) refl;
      others = λ k led. let still = moved.others k led in (still.source, (still.gone ∙ (un k).0, still.come ∙ (un k).1));
    }
      where
        come : (k : ℕ) (led : Bool) → is_led (has_place places) (lead_of old k) ≡ led → handed_come new k ≡ []
        come k true led =
            let one = has_source (has_place places) k led in
            let m = moved.moved k one.0 one.1 led in
            m.to_come ∙ m.moved.come k ∙ m.from_come ∙ (un k).1
        come k false led = let still = moved.others k led in still.come ∙ (un k).1

-- sources that begin to hand are apart as they were
pub begun_apart : (old : Sources) (empty : BTreeMap ℕ Handed) → AreApart old → AreApart (record { list = old.list; of = old.of; leads = old.leads; handed = empty })
begun_apart old empty apart = record { many = apart.many; there = apart.there; led = apart.led; apart = apart.apart }

-- ---- what is handed, and to whom

-- in an empty map, nothing
pub unhanded_empty : (handed : BTreeMap ℕ Handed) → handed.entries ≡ [] → (k : ℕ) → IsUnhanded handed k
unhanded_empty handed none k = (
  ap (λ (entries : List (ℕ × Handed)). given_gone (lookup (is_at (nat_cmp k)) entries)) none,
  ap (λ (entries : List (ℕ × Handed)). given_come (lookup (is_at (nat_cmp k)) entries)) none,
)

-- to a place that is no key, nothing
pub unhanded_unnamed : (handed : BTreeMap ℕ Handed) (k : ℕ) → has_place (keys_of handed.entries) k ≡ false → IsUnhanded handed k
unhanded_unnamed handed k out =
    let none = is_some-false (get nat_cmp handed k) (is_some-lookup (is_at (nat_cmp k)) handed.entries ∙ out) in
    (ap given_gone none, ap given_come none)

pub due_still : (place k : ℕ) (old now : Bool) → now ≡ cond (eq_by_cmp nat_cmp place k) true old → old ≡ true → now ≡ true
due_still place k old now is was = by (eq_by_cmp nat_cmp place k) is
  where
    by : (t : Bool) → now ≡ cond t true old → now ≡ true
    by true is = is
    by false is = is ∙ was

pub due_next : (place k : ℕ) (places : List ℕ) (old now : Bool) → now ≡ cond (eq_by_cmp nat_cmp place k) true old → (has_place (place ∷ places) k ≡ false → old ≡ true) → has_place places k ≡ false → now ≡ true
due_next place k places old now is was out = by (eq_by_cmp nat_cmp place k) (eq_by_nat_cmp-flip k place) is
  where
    by : (t : Bool) → eq_by_cmp nat_cmp k place ≡ t → now ≡ cond t true old → now ≡ true
    by true e is = is
    by false e is = is ∙ was (ap (λ t. t || has_place places k) e ∙ out)
