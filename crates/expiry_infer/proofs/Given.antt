-- Reaches, what conditions add, and what patterns give, against the greatest limits that were found.
use Rattle.expiry_infer.proofs.Common.{◌≡◌, inl, inr, ◌≤◌, ℕ, suc, ℤ, pos, ◌≤ℤ◌, true, false, List, [], ◌∷◌, length, Some, None, refl, sym, ◌∙◌, ap, subst}
use Rattle.expiry_infer.proofs.Common.{arith, slice_get, Times, Condition, Program, Rule, TypeInfo, pattern_of, is_reference, in_place, Occurrence, Limit}
use Rattle.expiry_infer.proofs.Common.{finite, infinite, plus, tail, AddsAt, GivesAt, GivesIn, placed, Among, IsTop, false_is, is_event_type, expiry_in, Placed}
use Rattle.expiry_infer.proofs.{Common.{SolvesWith, IsReach, Adds, of_fact, of_event, AddsSome, LivesFor, PatternLife, IsLife, AddsBy}, Tops.{top_like}}
use Rattle.{expiry_infer.proofs.Tops.{top_of_none, anywhere}, fx_base.{specs.Lists.{In}, proofs.Orders.{≤ℤ_antisym}}, rule_model.specs.Types.{is_event}}
use Rattle.rule_model.specs.Types.{expiry_of}

-- ---- one reach

pub one_reach : (p : Program) (conditions : List Condition) (i j : Placed) (r s : Limit) → IsReach p conditions i j r → IsReach p conditions i j s → r ≡ s
one_reach p conditions i j (finite a) (finite b) h k =
    ap finite (≤ℤ_antisym a b (subst (λ (z : ℤ). z ≤ℤ b) h.attained (k.bounds h.times h.solves)) (subst (λ (z : ℤ). z ≤ℤ a) k.attained (h.bounds k.times k.solves)))
one_reach p conditions i j (finite a) infinite h k = absurd (k.1 a h)
one_reach p conditions i j infinite (finite b) h k = absurd (h.1 b k)
one_reach p conditions i j infinite infinite h k = refl

unsolved : (p : Program) (conditions : List Condition) (i j : Placed) (r : Limit) → ((times : Occurrence → Times) → SolvesWith p conditions i j times → ⊥) → IsReach p conditions i j r → ⊥
unsolved p conditions i j (finite a) none h = none h.times h.solves
unsolved p conditions i j infinite none h = none h.0.0 h.0.1

-- ---- what a condition adds

pub added : (p : Program) (conditions : List Condition) (i j : Placed) (r more low top : Limit) → is_reference p (pattern_of j.condition).ty.0 ≡ false → is_event p (pattern_of j.condition).ty.0 ≡ true → IsReach p conditions i j r
    → more ≡ plus r (tail p (pattern_of j.condition)) → IsTop (λ (l : Limit). l ≡ more) low top → IsTop (AddsBy p conditions i j) low top
added p conditions i j r more low top changes event reach is h =
    top_like (λ (l : Limit). l ≡ more) (AddsBy p conditions i j) low top (λ l e. (changes, of_event event r reach (e ∙ is))) (λ l a. it_is l a.1) h
  where
    it_is : (l : Limit) → Adds p conditions i j l → l ≡ more
    it_is l (of_fact fact e) = absurd (false_is (sym fact ∙ event))
    it_is l (of_event e s other k) = k ∙ ap (λ (z : Limit). plus z (tail p (pattern_of j.condition))) (one_reach p conditions i j s r other reach) ∙ sym is

pub none_added : (p : Program) (conditions : List Condition) (i j : Placed) (low : Limit) → is_event p (pattern_of j.condition).ty.0 ≡ true
    → ((times : Occurrence → Times) → SolvesWith p conditions i j times → ⊥) → IsTop (AddsBy p conditions i j) low low
none_added p conditions i j low event none = top_of_none (AddsBy p conditions i j) low (λ l a. never l a.1)
  where
    never : (l : Limit) → Adds p conditions i j l → ⊥
    never l (of_fact fact e) = false_is (sym fact ∙ event)
    never l (of_event e s other k) = unsolved p conditions i j s none other

pub all_added : (p : Program) (conditions : List Condition) (i : Placed) (end : ℕ) (low top : Limit) → length conditions ≤ end
    → IsTop (Among conditions (AddsAt p conditions i) end) low top → IsTop (AddsSome p conditions i) low top
all_added p conditions i end low top all h =
    top_like (Among conditions (AddsAt p conditions i) end) (AddsSome p conditions i) low top
    (λ l a. record { j = placed a.place a.x; stands = a.stands; changes = a.limit.0; adds = a.limit.1 })
    (λ l a. anywhere conditions (AddsAt p conditions i) end a.j.place a.j.condition l all a.stands (a.changes, a.adds)) h

-- ---- what the rules give

-- what a pattern on the type lives for is what its condition gives
pub of_pattern : (p : Program) (conditions : List Condition) (ty place : ℕ) (c : Condition) (low top : Limit) → (pattern_of c).ty.0 ≡ ty
    → IsTop (LivesFor p conditions (placed place c) (pattern_of c).window) low top → IsTop (GivesAt p conditions ty place c) low top
of_pattern p conditions ty place c low top is h =
    top_like (LivesFor p conditions (placed place c) (pattern_of c).window) (GivesAt p conditions ty place c) low top (λ l lives. (is, lives)) (λ l gives. gives.1) h

given : (p : Program) (ty end : ℕ) (l : Limit) → Among p.rules (GivesIn p ty) end l → PatternLife p ty l
given p ty end l h =
    let gives = h.limit in record {
      rule = h.x;
      stands = in_place p.rules h.place h.x h.stands;
      i = placed gives.place gives.x;
      placed = gives.stands;
      of_type = gives.limit.0;
      lives = gives.limit.1;
    }

rule_at : (rules : List Rule) (rule : Rule) → In rule rules → (place : ℕ) × (slice_get rules place ≡ Some rule)
rule_at [] rule h = absurd h
rule_at (r ∷ rules) rule (inl e) = (0, ap Some (sym e))
rule_at (r ∷ rules) rule (inr h) = let k = rule_at rules rule h in (suc k.0, k.1)

gives_among : (p : Program) (ty end : ℕ) (l : Limit) → length p.rules ≤ end → PatternLife p ty l → Among p.rules (GivesIn p ty) end l
gives_among p ty end l all h =
    let at = rule_at p.rules h.rule h.stands in
    let conditions = h.rule.conditions in
    let each : length conditions ≤ length conditions = omega arith in
    anywhere p.rules (GivesIn p ty) end at.0 h.rule l all at.1
    (anywhere conditions (GivesAt p conditions ty) (length conditions) h.i.place h.i.condition l each h.placed (h.of_type, h.lives))

pub is_life : (p : Program) (ty end : ℕ) (l : Limit) → is_event p ty ≡ true → expiry_of p ty ≡ None → length p.rules ≤ end
    → IsTop (Among p.rules (GivesIn p ty) end) (finite (pos 0)) l → IsLife p ty l
is_life p ty end l event unexpired all h =
    let top = top_like (Among p.rules (GivesIn p ty) end) (PatternLife p ty) (finite (pos 0)) l (given p ty end) (λ m g. gives_among p ty end m all g) h in record {
      event = event;
      unexpired = unexpired;
      above_zero = top.above_least;
      above_all = top.above_all;
      reached = top.reached;
    }

-- ---- types

pub event_here : (p : Program) (place : ℕ) (ty : TypeInfo) → slice_get p.types place ≡ Some ty → is_event p place ≡ ty.event
unfolding is_event
event_here p place ty at = ap is_event_type at

pub expiry_here : (p : Program) (place : ℕ) (ty : TypeInfo) → slice_get p.types place ≡ Some ty → expiry_of p place ≡ ty.expires
unfolding expiry_of
expiry_here p place ty at = ap expiry_in at
