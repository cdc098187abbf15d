-- What the rules of a program have that engines run.
use Rattle.life_edges.proofs.Common.{◌≡◌, inl, inr, ◌&&◌, ◌||◌, ◌≤◌, ℕ, ℤ, pos, ◌≤ℤ◌, Bool, true, false, nat_le, List, [], ◌∷◌, length, Option, Some, None}
use Rattle.life_edges.proofs.Common.{if◌then◌else◌, refl, subst, sym, arith, slice_get, All, list_all, ints, All-head, All-tail, In, Condition, Pattern}
use Rattle.life_edges.proofs.Common.{Program, pattern_of, HaveOperators, NameEarlier, infinite, HaveLives, int_le, IfSome, clamps, expiry_in, lateness_in}
use Rattle.life_edges.proofs.Common.{is_event, has_conditions, has_lateness, has_expiry, is_window, has_window, has_windows, UseOperators, IsRunnable, tail_by}
use Rattle.{life_edges.proofs.Common.{RulesHaveNetworks, IsShortSpan, IsShortLimit, HasShortWindow}, std.proofs.lemmas.Bool.{and_parts, Decides.{nat_tests}}}
use Rattle.{std.specs.Int.{int_max}, rule_model.specs.declared.condition.WindowTag.{WindowTag, TheVariants.{Whole, Time, Length}}}
use Rattle.rule_model.specs.{declared.program.{EntryInfo.{EntryInfo}, Rule.{Rule}, TypeInfo.{TypeInfo}}, Simple.{is_whole}, Types.{expiry_of, lateness_of}}
use Rattle.{rule_model.proofs.RuleOf.{in_place}, rule_world.{specs.Events.{most_millis}, proofs.Acting.{all_of}}, life_meaning.specs.Lifetimes.{tail}}
use Rattle.fx_base.proofs.Orders.{int_le-true}

few : (rule : Rule) → has_conditions rule ≡ true → length rule.conditions ≤ 8
few rule h = let e = (and_parts (nat_le 1 (length rule.conditions)) (nat_le (length rule.conditions) 8) h).1 in grind (arith, nat_tests)

operators : (rules : List Rule) (rule : Rule) → UseOperators rules → In rule rules → HaveOperators rule.conditions
operators [] rule h stands = absurd stands
operators (r ∷ rules) rule h (inl e) = subst (λ (r : Rule). HaveOperators r.conditions) (sym e) h.0
operators (r ∷ rules) rule h (inr stands) = operators rules rule h.1 stands

one_of_all : {A : Type 0} (P : A → Type 0) (xs : List A) (x : A) → All P xs → In x xs → P x
one_of_all P [] x h stands = absurd stands
one_of_all P (y ∷ ys) x h (inl e) = subst P (sym e) (All-head P y ys h)
one_of_all P (y ∷ ys) x h (inr stands) = one_of_all P ys x (All-tail P y ys h) stands

pub rules_have_networks : (p : Program) → IsRunnable p → RulesHaveNetworks p
rules_have_networks p runnable rule stands = record {
  few = few rule (all_of has_conditions p.rules rule runnable.conditions stands);
  operators = operators p.rules rule runnable.operators stands;
  named = one_of_all (λ (r : Rule). NameEarlier r.conditions) p.rules rule runnable.named stands;
}

-- ---- tails

span : (low n : ℤ) → pos 0 ≤ℤ low → (int_le low n && int_le n most_millis) ≡ true → IsShortSpan n
span low n least e =
    let q = and_parts (int_le low n) (int_le n most_millis) e in
    let above = int_le-true low n q.0 in (omega (arith, ints), int_le-true n most_millis q.1)

no_span : IsShortSpan (pos 0)
unfolding most_millis
no_span = (omega (arith, ints), omega (arith, ints))

longer : (a b : ℤ) → IsShortSpan a → IsShortSpan b → IsShortSpan (int_max a b)
longer a b h k =
    let (a_least, a_most) = h in
    let (b_least, b_most) = k in (omega (arith, ints, clamps), omega (arith, ints, clamps))

late : (p : Program) (entry : ℕ) → list_all has_lateness p.entries ≡ true → IsShortSpan (lateness_of p entry)
unfolding lateness_of
late p entry h = by (slice_get p.entries entry) refl
  where
    by : (found : Option EntryInfo) → slice_get p.entries entry ≡ found → IsShortSpan (lateness_in found)
    by None e = no_span
    by (Some info) e = span (pos 0) info.lateness (omega (arith, ints)) (all_of has_lateness p.entries info h (in_place p.entries entry info e))

expires : (p : Program) (ty : ℕ) → list_all has_expiry p.types ≡ true → IfSome (expiry_of p ty) IsShortSpan
unfolding expiry_of
expires p ty h = by (slice_get p.types ty) refl
  where
    of_type : (info : TypeInfo) (expiry : Option ℤ) → info.expires ≡ expiry → has_expiry info ≡ true → IfSome expiry IsShortSpan
    of_type info None e g = tt
    of_type info (Some expiry) e g = span (pos 1) expiry (omega (arith, ints)) (and_parts info.event _ (rw e at g)).1

    by : (found : Option TypeInfo) → slice_get p.types ty ≡ found → IfSome (expiry_in found) IsShortSpan
    by None e = tt
    by (Some info) e = of_type info info.expires refl (all_of has_expiry p.types info h (in_place p.types ty info e))

tail_by_short : (window : WindowTag) (event : Bool) (expiry : Option ℤ) (lateness : ℤ) → (is_whole window || event && is_window window) ≡ true
    → IfSome expiry IsShortSpan → IsShortSpan lateness → IsShortLimit (tail_by window expiry lateness)
tail_by_short Whole event None lateness w h k = k
tail_by_short Whole event (Some expiry) lateness w h k = longer expiry lateness h k
tail_by_short (Time time) event None lateness w h k = longer time lateness (span (pos 1) time (omega (arith, ints)) (and_parts event _ w).1) k
tail_by_short (Time time) event (Some expiry) lateness w h k =
    longer time (int_max expiry lateness) (span (pos 1) time (omega (arith, ints)) (and_parts event _ w).1) (longer expiry lateness h k)
tail_by_short (Length count) event expiry lateness w h k = tt

window_short : (window : WindowTag) (event : Bool) → (is_whole window || event && is_window window) ≡ true → HasShortWindow window
window_short Whole event w = tt
window_short (Time time) event w = span (pos 1) time (omega (arith, ints)) (and_parts event _ w).1
window_short (Length count) event w = tt

tail_short : (p : Program) (c : Condition) → IsRunnable p → has_window p c ≡ true → IsShortLimit (tail p (pattern_of c))
unfolding tail
tail_short p c runnable window = by (is_event p (pattern_of c).ty.0)
  where
    pattern : Pattern
    pattern = pattern_of c

    by : (event : Bool) → IsShortLimit (if event then tail_by pattern.window (expiry_of p pattern.ty.0) (lateness_of p pattern.entry.0) else infinite)
    by true = tail_by_short pattern.window _ _ _ window (expires p pattern.ty.0 runnable.expiry) (late p pattern.entry.0 runnable.lateness)
    by false = tt

pub rule_has_lives : (p : Program) → IsRunnable p → (rule : Rule) → In rule p.rules → HaveLives p rule.conditions
rule_has_lives p runnable rule stands = record {
  network = rules_have_networks p runnable rule stands;
  windows = λ place c at. window_short (pattern_of c).window (is_event p (pattern_of c).ty.0) (all_of (has_window p) rule.conditions c (all_of (has_windows p) p.rules rule runnable.windows stands) (in_place rule.conditions place c at));
  tails = λ place c at. tail_short p c runnable (all_of (has_window p) rule.conditions c (all_of (has_windows p) p.rules rule runnable.windows stands) (in_place rule.conditions place c at));
}
