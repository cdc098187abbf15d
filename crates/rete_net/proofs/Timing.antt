-- Places that wait for moments: what is put, and which are due.
use Rattle.rete_net.proofs.Common.{◌≡◌, ◌∙◌, sym, ap, refl, ℕ, ℤ, ◌≤ℤ◌, ◌<ℤ◌, List, Bool, true, false, cond, not, ◌&&◌, Option, Some, None, int_lt, arith}
use Rattle.{rete_net.proofs.Common.{nat_cmp, int_cmp, is_eq, is_gt, nat_tests, ints, IsBefore, is_in, IsFrom, IsSet, Timers}, std.specs.BTreeMap.{is_at}}
use Rattle.std.specs.{BTreeMap.Range.{is_past_end}, Option.{option_map, IsSomeAnd}, declared.ops.Bound.TheVariants.{Excluded}}
use Rattle.{std.proofs.lemmas.Cmp.{tied_itself, nat_cmp_total, int_cmp_total}, due_queue.specs.Moments.{found, pair_cmp, has_pair, is_moment, AreDue}}
use Rattle.due_queue.proofs.Clock.{below, not_later, has_key}

other_place : (j k : ℕ) → (k ≡ j → ⊥) → is_at (nat_cmp j) k ≡ false
other_place j k h = grind (arith, nat_tests)

module _ (was is : Timers) (place : ℕ) (o : Option (ℤ × Unit {0})) (next : (k : ℕ) → found nat_cmp is.waiting k ≡ cond (is_at (nat_cmp place) k) o (found nat_cmp was.waiting k)) where
  -- another place waits for what it waited for
  pub still_set : (k : ℕ) (until : Option ℤ) → (k ≡ place → ⊥) → IsSet was k until → IsSet is k until
  still_set k None other set = tt
  still_set k (Some at) other set = next k ∙ ap (λ b. cond b o (found nat_cmp was.waiting k)) (other_place place k other) ∙ set

  -- what was put is there
  pub set_there : found nat_cmp is.waiting place ≡ o
  set_there = next place ∙ ap (λ b. cond b o (found nat_cmp was.waiting place)) (ap is_eq (tied_itself nat_cmp_total place))

-- a place waits for its moment
pub set_already : (o : Option (ℤ × Unit {0})) (at : ℤ) → option_map (λ one. one.0) o ≡ Some at → o ≡ Some (at, tt)
set_already None at e = let f : None ≡ Some at = e in cc
set_already (Some one) at e = let same : one.0 ≡ at = cc in ap (λ z. Some (z, tt)) same

-- a place that is not due waits for no moment below the bound
pub all_from : (timers : Timers) (bound : ℤ) (places : List ℕ) → AreDue int_cmp nat_cmp (Excluded bound) timers.waiting places → (k : ℕ) (until : Option ℤ) → IsSet timers k until → is_in places k ≡ false → IsFrom bound until
all_from timers bound places are k None set out = tt
all_from timers bound places are k (Some at) set out =
    by (int_lt at bound) refl
  where
    at_least : (x : ℤ) → int_lt x bound ≡ false → bound ≤ℤ x
    at_least x e = grind (arith, ints)

    by : (b : Bool) → int_lt at bound ≡ b → bound ≤ℤ at
    by false e = at_least at e
    by true e =
        let there : has_pair int_cmp nat_cmp are.pairs (at, k) ≡ true = are.due (at, k) ∙ ap (λ o. is_moment int_cmp at o && not (is_past_end int_cmp (Excluded bound) at)) set
        ∙ ap (λ b. b && not (is_past_end int_cmp (Excluded bound) at)) (ap is_eq (tied_itself int_cmp_total at)) ∙ below bound at ∙ e in
        let f : true ≡ false = sym (has_key are.pairs at k there) ∙ sym (ap (λ ps. is_in ps k) are.are) ∙ out in
        absurd (cc)

-- nothing is due before the first moment
pub before_first : (timers : Timers) (first : Option (ℤ × ℕ)) → ((at : ℤ) (k : ℕ) → is_moment int_cmp at (found nat_cmp timers.waiting k) ≡ true → IsSomeAnd first (λ f. is_gt (pair_cmp int_cmp nat_cmp f (at, k)) ≡ false))
    → (k : ℕ) (until : Option ℤ) (clock : ℤ) → IsSet timers k until → IsBefore (option_map (λ f. f.0) first) clock → IsBefore until clock
before_first timers first least k None clock set h = tt
before_first timers first least k (Some at) clock set h = by first (least at k (ap (is_moment int_cmp at) set ∙ ap is_eq (tied_itself int_cmp_total at))) h
  where
    trans : (x : ℤ) → x ≤ℤ at → clock <ℤ x → clock <ℤ at
    trans x le lt = omega (arith, ints)

    by : (first : Option (ℤ × ℕ)) → IsSomeAnd first (λ f. is_gt (pair_cmp int_cmp nat_cmp f (at, k)) ≡ false) → IsBefore (option_map (λ f. f.0) first) clock → clock <ℤ at
    by None never h = absurd never
    by (Some f) le h = trans f.0 (not_later f.0 at (nat_cmp f.1 k) le) h
