-- Sources that move, one after another.
use Rattle.candidate_source.proofs.Common.{◌∙◌, ap, sym, refl, subst, ◌≡◌, ℕ, ◌<◌, List, [], ◌∷◌, Bool, true, false, ◌&&◌, ◌||◌, false≢true, length, Option}
use Rattle.candidate_source.proofs.Common.{Some, None, option_map, eq_by_cmp, nat_cmp, BTreeMap, Value, JoinIndex, Handed, Source, has_place, is_under}
use Rattle.candidate_source.{proofs.Common.{LeavesOthers}, specs.{declared.sources.Sources.{Sources}, Doors.{node_count}, Moving.{Step, HasMovedAt, HaveMoved}}}
use Rattle.candidate_source.specs.{Moving.{IsStillAt}, Sources.{given_place, in_list, is_lead, is_led, is_this, lead_of, source_at, source_place, AreApart}}
use Rattle.{candidate_source.{specs.Sources.{AreLaidAs, AreReachedAs}, proofs.Places.{none_above}}, std.proofs.Common.{slice_get, arith, set, zero, suc, ◌⊎◌}}
use Rattle.std.{proofs.{Common.{inl, inr, length-set, eqb-true, MutBor}, lemmas.Option.{slice_get_within, slice_get-get_or}}, specs.List.{IsItemAtMut}}
use Rattle.std.specs.{Global.{Vec}, List.Sorted.{IsStrictlySortedBy}, Prelude.{OnOk}, declared.result.Result.{Result, TheVariants.{Ok, Err}}, Vec.{with_item}}
use Rattle.fx_base.proofs.{Orders.{eqb-self, eq_by_nat_cmp-flip, eq_by_nat_cmp-self, eq_by_nat_cmp-true}, Tests.{or_first_false, or_second_false}}
use Rattle.fx_base.proofs.Sequences.{get-below, get-set_other, get-set_same, one_value}

-- ---- the same nodes

-- a node of a source is one of so many
pub place_within : (sources : Sources) (k : ℕ) (s : Source) → source_at sources k ≡ Some s → k < node_count sources
place_within sources k s = by (slice_get sources.of.items k) refl
  where
    by : (o : Option (Option ℕ)) → slice_get sources.of.items k ≡ o → in_list sources.list.items (given_place o) ≡ Some s → k < node_count sources
    by None e f = absurd (let no : None ≡ Some s = f in cc)
    by (Some at) e f = slice_get_within sources.of.items k at e

pub place_alike : (a b : Sources) → AreLaidAs a b → (k : ℕ) → source_place b k ≡ source_place a k
place_alike a b laid k = ap (λ (of : Vec (Option ℕ)). given_place (slice_get of.items k)) laid.of

pub lead_alike : (a b : Sources) → AreLaidAs a b → (k : ℕ) → lead_of b k ≡ lead_of a k
lead_alike a b laid k = ap (in_list b.leads.items) (place_alike a b laid k) ∙ ap (λ (leads : Vec ℕ). in_list leads.items (source_place a k)) laid.leads

pub laid_itself : (a : Sources) → AreLaidAs a a
laid_itself a = record { of = refl; leads = refl; many = refl; patterns = λ at x y e f. ap (λ (s : Source). s.own.pattern) (one_value (slice_get a.list.items at) y x f e) }

pub laid_then : (a b c : Sources) → AreLaidAs a b → AreLaidAs b c → AreLaidAs a c
laid_then a b c first second = record {
  of = second.of ∙ first.of;
  leads = second.leads ∙ first.leads;
  many = second.many ∙ first.many;
  patterns = λ at x z e g.
      let within : at < length a.list.items = slice_get_within a.list.items at x e in
      let many = first.many in
      let mid = get-below b.list.items at (omega (arith, within, many)) in
      second.patterns at mid.0 z mid.1 g ∙ first.patterns at x mid.0 e mid.1;
}

pub reached_itself : (a : Sources) → AreReachedAs a a
reached_itself a at x y e f = ap (λ (s : Source). s.reached) (one_value (slice_get a.list.items at) y x f e)

pub reached_then : (a b c : Sources) → AreLaidAs a b → AreReachedAs a b → AreReachedAs b c → AreReachedAs a c
reached_then a b c laid first second at x z e g =
    let within : at < length a.list.items = slice_get_within a.list.items at x e in
    let many = laid.many in
    let mid = get-below b.list.items at (omega (arith, within, many)) in
    second at mid.0 z mid.1 g ∙ first at x mid.0 e mid.1

-- sources are apart still where the same nodes are found in them
pub still_apart : (a b : Sources) → AreLaidAs a b → AreReachedAs a b → AreApart a → AreApart b
still_apart a b laid found apart = record {
  many = ap (λ (leads : Vec ℕ). length leads.items) laid.leads ∙ apart.many ∙ sym laid.many;
  there = λ k at e.
      let was = apart.there k at (sym (place_alike a b laid k) ∙ e) in
      let within : at < length a.list.items = slice_get_within a.list.items at was.0 was.1 in
      let many = laid.many in
      get-below b.list.items at (omega (arith, within, many));
  led = λ at s e.
      let was = before at s e in
      let lead = apart.led at was.0 was.1 in
      (lead.0, ap (λ (leads : Vec ℕ). slice_get leads.items at) laid.leads ∙ lead.1, place_alike a b laid lead.0 ∙ lead.2);
  apart = λ k at s e other value.
      let was = before at s e in
      ap (λ (reached : JoinIndex Value ℕ (Unit {0})). is_under reached value k) (found at was.0 s was.1 e) ∙ apart.apart k at was.0 was.1 (λ there. other (place_alike a b laid k ∙ there)) value;
}
  where
    before : (at : ℕ) (s : Source) → slice_get b.list.items at ≡ Some s → (was : Source) × (slice_get a.list.items at ≡ Some was)
    before at s e =
        let within : at < length b.list.items = slice_get_within b.list.items at s e in
        let many = laid.many in
        get-below a.list.items at (omega (arith, within, many))

-- ---- one source

pub same_or_other : (j k : ℕ) → (j ≡ k) ⊎ (j ≡ k → ⊥)
same_or_other zero zero = inl refl
same_or_other zero (suc k) = inr (λ e. absurd (omega arith))
same_or_other (suc j) zero = inr (λ e. absurd (omega arith))
same_or_other (suc j) (suc k) = elim (same_or_other j k) [
  | inl e ↦ inl (ap suc e)
  | inr differ ↦ inr (λ e. let less : j ≡ k = omega arith in differ less)
]

some_same : (x y : ℕ) → Some x ≡ Some y → x ≡ y
some_same x y e = cc

none_some : {X : Type 0} (at : ℕ) → None ≡ Some at → X
none_some at e = cc

-- the first node is the one in a place
leads_itself : (k : ℕ) (o : Option ℕ) → is_this k o ≡ true → o ≡ Some k
leads_itself k None e = absurd (false≢true e)
leads_itself k (Some lead) e = ap Some (eqb-true lead k e)

led_by_one : (place : ℕ) (o : Option ℕ) → is_led (eq_by_cmp nat_cmp place) o ≡ true → o ≡ Some place
led_by_one place None e = absurd (false≢true e)
led_by_one place (Some lead) e = ap Some (sym (eq_by_nat_cmp-true place lead e))

module _ (old : Sources) (apart : AreApart old) where
  -- a node whose source has its first node in a place is of the same source as that
  same_source : (place k : ℕ) (was : Source) → source_at old k ≡ Some was → lead_of old k ≡ Some place → source_place old place ≡ source_place old k
  same_source place k was = by (source_place old k)
    where
      by : (o : Option ℕ) → in_list old.list.items o ≡ Some was → in_list old.leads.items o ≡ Some place → source_place old place ≡ o
      by None e f = none_some place f
      by (Some at) e f =
          let lead = apart.led at was e in
          ap (source_place old) (one_value (slice_get old.leads.items at) place lead.0 f lead.1) ∙ lead.2

  leads_there : (place k : ℕ) (was : Source) → source_at old k ≡ Some was → lead_of old k ≡ Some place → is_lead old place ≡ true
  leads_there place k was e f = ap (λ o. is_this place (in_list old.leads.items o)) (same_source place k was e f) ∙ ap (is_this place) f ∙ eqb-self place

  module _ (step : Step) (place : ℕ) where
    -- where no source has its first node there, nothing moves
    pub none_moved : is_lead old place ≡ false → HaveMoved step (eq_by_cmp nat_cmp place) old old
    none_moved none = record {
      moved = λ k was e led. absurd (false≢true (sym none ∙ leads_there place k was e (led_by_one place (lead_of old k) led)));
      others = λ k led. record { source = refl; gone = refl; come = refl };
    }

    module _ (leaves : (a b : Source) (before after : BTreeMap ℕ Handed) → step a b before after → LeavesOthers a before after) (at : ℕ) (was now : Source) (handed : BTreeMap ℕ Handed)
        (there : slice_get old.list.items at ≡ Some was) (moves : step was now old.handed handed) where
      abbrev moved_on : Sources
      moved_on = record { list = with_item old.list at now; of = old.of; leads = old.leads; handed = handed }

      pub laid_on : now.own.pattern ≡ was.own.pattern → AreLaidAs old moved_on
      laid_on pattern = record {
        of = refl;
        leads = refl;
        many = length-set old.list.items at now;
        patterns = λ i x y e f. elim (same_or_other i at) [
          | inl here ↦
              ap (λ (s : Source). s.own.pattern) (one_value (slice_get (set old.list.items at now) at) y now (ap (slice_get (set old.list.items at now)) (sym here) ∙ f) (get-set_same old.list.items at now was there))
              ∙ pattern ∙ ap (λ (s : Source). s.own.pattern) (one_value (slice_get old.list.items at) was x there (ap (slice_get old.list.items) (sym here) ∙ e))
          | inr other ↦ ap (λ (s : Source). s.own.pattern) (one_value (slice_get old.list.items i) y x (sym (get-set_other old.list.items at i now other) ∙ f) e)
        ];
      }

      pub reached_on : now.reached ≡ was.reached → AreReachedAs old moved_on
      reached_on reached i x y e f = elim (same_or_other i at) [
        | inl here ↦
            ap (λ (s : Source). s.reached) (one_value (slice_get (set old.list.items at now) at) y now (ap (slice_get (set old.list.items at now)) (sym here) ∙ f) (get-set_same old.list.items at now was there))
            ∙ reached ∙ ap (λ (s : Source). s.reached) (one_value (slice_get old.list.items at) was x there (ap (slice_get old.list.items) (sym here) ∙ e))
        | inr other ↦ ap (λ (s : Source). s.reached) (one_value (slice_get old.list.items i) y x (sym (get-set_other old.list.items at i now other) ∙ f) e)
      ]

      left_alone : (k : ℕ) → (source_place old k ≡ Some at → ⊥) → in_list (set old.list.items at now) (source_place old k) ≡ source_at old k → IsStillAt old moved_on k
      left_alone k other same =
          let as_before = leaves was now old.handed handed moves k (apart.apart k at was there other) in
          record { source = same; gone = as_before.0; come = as_before.1 }

      pub one_moved : source_place old place ≡ Some at → is_lead old place ≡ true → HaveMoved step (eq_by_cmp nat_cmp place) old moved_on
      one_moved of_it leads = record {
        moved = λ k a e led.
            let here : source_place old k ≡ Some at = sym (same_source place k a e (led_by_one place (lead_of old k) led)) ∙ of_it in
            let is : was ≡ a = one_value (slice_get old.list.items at) was a there (sym (ap (in_list old.list.items) here) ∙ e) in
            record {
              now = now;
              is = ap (in_list (set old.list.items at now)) here ∙ get-set_same old.list.items at now was there;
              before = old.handed;
              after = handed;
              moved = subst (λ (a : Source). step a now old.handed handed) is moves;
              from_gone = refl;
              from_come = refl;
              to_gone = refl;
              to_come = refl;
            };
        others = λ k led. by k (source_place old k) refl led;
      }
        where
          by : (k : ℕ) (o : Option ℕ) → source_place old k ≡ o → is_led (eq_by_cmp nat_cmp place) (in_list old.leads.items (source_place old k)) ≡ false → IsStillAt old moved_on k
          by k None e led = left_alone k (λ f. none_some at (sym e ∙ f)) (ap (in_list (set old.list.items at now)) e ∙ ap (in_list old.list.items) (sym e))
          by k (Some i) e led = elim (same_or_other i at) [
            | inl here ↦
                let lead : in_list old.leads.items (source_place old k) ≡ Some place = ap (in_list old.leads.items) (e ∙ ap Some here ∙ sym of_it) ∙ leads_itself place (lead_of old place) leads in
                absurd (false≢true (sym led ∙ ap (is_led (eq_by_cmp nat_cmp place)) lead ∙ eq_by_nat_cmp-self place))
            | inr other ↦
                left_alone k (λ f. other (some_same i at (sym e ∙ f)))
                (ap (in_list (set old.list.items at now)) e ∙ get-set_other old.list.items at i now other ∙ sym (ap (in_list old.list.items) e))
          ]

-- ---- one source after another

module _ (step : Step) (first second all : ℕ → Bool) (a b c : Sources) (laid : AreLaidAs a b) (not_both : (j : ℕ) → (first j && second j) ≡ false) (either : (j : ℕ) → (first j || second j) ≡ all j) where
  led_either : (o : Option ℕ) → (is_led first o || is_led second o) ≡ is_led all o
  led_either None = refl
  led_either (Some lead) = either lead

  led_once : (o : Option ℕ) → (is_led first o && is_led second o) ≡ false
  led_once None = refl
  led_once (Some lead) = not_both lead

  module _ (h : HaveMoved step first a b) (j : HaveMoved step second b c) where
    moved_at : (k : ℕ) (was : Source) → source_at a k ≡ Some was → (f s : Bool) → is_led first (lead_of a k) ≡ f → is_led second (lead_of a k) ≡ s → (f || s) ≡ true → (f && s) ≡ false → HasMovedAt step a c k was
    moved_at k was e true true f s is once = absurd (false≢true (sym once))
    moved_at k was e true false f s is once =
        let before = h.moved k was e f in
        let then = j.others k (ap (is_led second) (lead_alike a b laid k) ∙ s) in
        record {
          now = before.now;
          is = then.source ∙ before.is;
          before = before.before;
          after = before.after;
          moved = before.moved;
          from_gone = before.from_gone;
          from_come = before.from_come;
          to_gone = then.gone ∙ before.to_gone;
          to_come = then.come ∙ before.to_come;
        }
    moved_at k was e false true f s is once =
        let still = h.others k f in
        let then = j.moved k was (still.source ∙ e) (ap (is_led second) (lead_alike a b laid k) ∙ s) in
        record {
          now = then.now;
          is = then.is;
          before = then.before;
          after = then.after;
          moved = then.moved;
          from_gone = then.from_gone ∙ still.gone;
          from_come = then.from_come ∙ still.come;
          to_gone = then.to_gone;
          to_come = then.to_come;
        }
    moved_at k was e false false f s is once = absurd (false≢true is)

    pub moved_then : HaveMoved step all a c
    moved_then = record {
      moved = λ k was e led. moved_at k was e _ _ refl refl (led_either (lead_of a k) ∙ led) (led_once (lead_of a k));
      others = λ k led.
          let none = led_either (lead_of a k) ∙ led in
          let still = h.others k (or_first_false (is_led first (lead_of a k)) (is_led second (lead_of a k)) none) in
          let then = j.others k (ap (is_led second) (lead_alike a b laid k) ∙ or_second_false (is_led first (lead_of a k)) (is_led second (lead_of a k)) none) in
          record { source = then.source ∙ still.source; gone = then.gone ∙ still.gone; come = then.come ∙ still.come };
    }

-- those of a list of places, the first of which has moved
module _ (step : Step) (all : List ℕ) (place : ℕ) (places : List ℕ) (a b c : Sources) (laid : AreLaidAs a b) (is : all ≡ place ∷ places) (sorted : IsStrictlySortedBy nat_cmp (place ∷ places)) where
  once : (j : ℕ) (b : Bool) → eq_by_cmp nat_cmp place j ≡ b → (b && has_place places j) ≡ false
  unfolding IsStrictlySortedBy
  once j true e = ap (has_place places) (sym (eq_by_nat_cmp-true place j e)) ∙ none_above place places sorted.0
  once j false e = refl

  pub more_moved : HaveMoved step (eq_by_cmp nat_cmp place) a b → HaveMoved step (has_place places) b c → HaveMoved step (has_place all) a c
  more_moved =
      moved_then step (eq_by_cmp nat_cmp place) (has_place places) (has_place all) a b c laid (λ j. once j _ refl)
      (λ j. ap (λ e. e || has_place places j) (eq_by_nat_cmp-flip place j) ∙ ap (λ (all : List ℕ). has_place all j) (sym is))

-- those of none
pub none_move : (step : Step) (places : List ℕ) (a : Sources) → places ≡ [] → HaveMoved step (has_place places) a a
none_move step places a none = record {
  moved = λ k was e led. absurd (false≢true (sym (by (lead_of a k)) ∙ led));
  others = λ k led. record { source = refl; gone = refl; come = refl };
}
  where
    by : (o : Option ℕ) → is_led (has_place places) o ≡ false
    by None = refl
    by (Some lead) = ap (λ (places : List ℕ). has_place places lead) none

-- ---- a result that is told in several clauses

pub ok_both : {T E P Q R : Type 0} (r : Result T E) → (P → Q → R) → OnOk r P → OnOk r Q → OnOk r R
ok_both (Ok x) f p q = f p q
ok_both (Err e) f p q = tt

pub ok_three : {T E P Q R S : Type 0} (r : Result T E) → (P → Q → R → S) → OnOk r P → OnOk r Q → OnOk r R → OnOk r S
ok_three (Ok x) f p q s = f p q s
ok_three (Err e) f p q s = tt

-- ---- an item that is lent

module _ {X : Type 0} (items : List X) (at : ℕ) where
  pub lent_there : (r : MutBor X) → IsItemAtMut items at (Some r) → slice_get items at ≡ Some r.now
  lent_there r is = slice_get-get_or items at r.now is.3.0 ∙ ap Some (sym is.1)

  pub missing_none : (x : X) → slice_get items at ≡ Some x → IsItemAtMut items at None → ⊥
  missing_none x there is = let within = slice_get_within items at x there in let most = is.3 in omega (arith, within, most)

  pub lent_item : (r : Option (MutBor X)) → IsItemAtMut items at r → option_map (λ s. s.now) r ≡ slice_get items at
  lent_item None is = by (slice_get items at) refl
    where
      by : (o : Option X) → slice_get items at ≡ o → None ≡ o
      by None e = refl
      by (Some x) e = absurd (missing_none x e is)
  lent_item (Some r) is = sym (lent_there r is)
