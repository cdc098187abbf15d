-- A fact that is older than a pattern's tail, or of a reference type, passes over one snapshot exactly where it passes over another.
use Rattle.life_laws.proofs.Common.{◌≡◌, ◌==◌, ℕ, ℤ, ◌+ℤ◌, ◌-ℤ◌, ◌≤ℤ◌, ◌<ℤ◌, Bool, true, false, not, ◌&&◌, ◌||◌, List, Option, Some, None, if◌then◌else◌, refl}
use Rattle.life_laws.proofs.Common.{subst, ap, ◌∙◌, arith, ints, clamps, Fact, Times, Pattern, WindowTag, Whole, Time, Length, Program, is_inside, is_candidate}
use Rattle.life_laws.proofs.Common.{passes, Snapshot, times_hold, Tuple, bound_by, is_event, lateness_of, finite, infinite, is_within, fits, tests_hold}
use Rattle.{life_laws.proofs.{Common.{unbound, expiry_of, plain_present, tail_by}, Flagged.{Steady}}, std.proofs.lemmas.Bool.{and_from, and_parts, eq-eqb}}
use Rattle.{std.{proofs.{lemmas.Bool.{eqb-true}, Math.Bool.{or-true}}, specs.Int.{int_max}}, rule_model.specs.Candidates.{is_present}}
use Rattle.{life_meaning.specs.Lifetimes.{tail}, fx_base.proofs.Orders.{int_lt-true}}

-- ---- tails

-- what a finite tail says of a pattern
pub record HasTail (event : Bool) (window : WindowTag) (expiry : Option ℤ) (lateness most : ℤ) : Type 0 where
  pub is_event : event ≡ true
  pub late : lateness ≤ℤ most
  pub expires : (x : ℤ) → expiry ≡ Some x → x ≤ℤ most
  pub spans : (span : ℤ) → window ≡ Time span → span ≤ℤ most
  pub no_length : (count : ℕ) → window ≡ Length count → ⊥

limit_is : (a b : ℤ) → finite a ≡ finite b → a ≡ b
limit_is a b e = cc

tail_has : (event : Bool) (window : WindowTag) (expiry : Option ℤ) (lateness most : ℤ) → (if event then tail_by window expiry lateness else infinite) ≡ finite most
    → HasTail event window expiry lateness most
tail_has false window expiry l m e = absurd cc
tail_has true (Length count) expiry l m e = absurd cc
tail_has true Whole None l m e =
    let q = limit_is l m e in
    record { is_event = refl; late = omega (arith, ints); expires = λ x h. absurd cc; spans = λ t h. absurd cc; no_length = λ k h. absurd cc }
tail_has true Whole (Some x) l m e =
    let q = limit_is (int_max x l) m e in
    let a : l ≤ℤ m = omega (arith, ints, clamps) in
    let b : x ≤ℤ m = omega (arith, ints, clamps) in
    record { is_event = refl; late = a; expires = λ y h. let s : x ≡ y = cc in subst (λ (z : ℤ). z ≤ℤ m) s b; spans = λ t h. absurd cc; no_length = λ k h. absurd cc }
tail_has true (Time t) None l m e =
    let q = limit_is (int_max t l) m e in
    let a : l ≤ℤ m = omega (arith, ints, clamps) in
    let b : t ≤ℤ m = omega (arith, ints, clamps) in
    record { is_event = refl; late = a; expires = λ x h. absurd cc; spans = λ y h. let s : t ≡ y = cc in subst (λ (z : ℤ). z ≤ℤ m) s b; no_length = λ k h. absurd cc }
tail_has true (Time t) (Some x) l m e =
    let q = limit_is (int_max t (int_max x l)) m e in
    let a : l ≤ℤ m = omega (arith, ints, clamps) in
    let b : t ≤ℤ m = omega (arith, ints, clamps) in
    let d : x ≤ℤ m = omega (arith, ints, clamps) in
    record {
      is_event = refl;
      late = a;
      expires = λ y h. let s : x ≡ y = cc in subst (λ (z : ℤ). z ≤ℤ m) s d;
      spans = λ y h. let s : t ≡ y = cc in subst (λ (z : ℤ). z ≤ℤ m) s b;
      no_length = λ k h. absurd cc;
    }

-- the times are older than the pattern's tail at this moment
abbrev pub Settled : Program → ℤ → Pattern → Times → Type 0
Settled p c q y = (most : ℤ) × (tail p q ≡ finite most) × ((y.start +ℤ most) <ℤ c)

pub tail_of : (p : Program) (c : ℤ) (q : Pattern) (y : Times) (s : Settled p c q y) → HasTail (is_event p q.ty.0) q.window (expiry_of p q.ty.0) (lateness_of p q.entry.0) s.0
unfolding tail
tail_of p c q y s = tail_has (is_event p q.ty.0) q.window (expiry_of p q.ty.0) (lateness_of p q.entry.0) s.0 s.1

-- what counts at these times counts at every clock: the pattern is on an event type and they are older than its tail, or it is on a
-- reference type
pub data Still (p : Program) (c : ℤ) (q : Pattern) (y : Times) : Type 0 where
  old : is_event p q.ty.0 ≡ true → Settled p c q y → Still p c q y
  steady : Steady p q → Still p c q y

-- ---- what is left of the tests of an old fact

unexpired : (event : Bool) (expiry : Option ℤ) (now start c most : ℤ) → event ≡ true → ((x : ℤ) → expiry ≡ Some x → x ≤ℤ most)
    → (not event || is_within expiry (now -ℤ start)) ≡ true → c ≤ℤ now → (start +ℤ most) <ℤ c → expiry ≡ None
unexpired true None now start c most e least h from past = refl
unexpired true (Some x) now start c most e least h from past =
    let l = least x refl in
    let k = int_lt-true (now -ℤ start) x h in
    absurd (omega (arith, ints))
unexpired false expiry now start c most e least h from past = absurd cc

in_whole : (p : Program) (q : Pattern) (window : WindowTag) (now : ℤ) (facts : List Fact) (f : Fact) (c most : ℤ) → ((span : ℤ) → window ≡ Time span → span ≤ℤ most)
    → ((count : ℕ) → window ≡ Length count → ⊥) → is_inside p q window now facts f ≡ true → c ≤ℤ now → (f.times.start +ℤ most) <ℤ c → window ≡ Whole
in_whole p q Whole now facts f c most least free h from past = refl
in_whole p q (Time span) now facts f c most least free h from past =
    let l = least span refl in
    let k = int_lt-true (now -ℤ f.times.start) span h in
    absurd (omega (arith, ints))
in_whole p q (Length count) now facts f c most least free h from past = absurd (free count refl)

-- a candidate that also passes
abbrev pub counts : Program → Pattern → Snapshot → Tuple → Fact → Bool
counts p q s t f = is_candidate p q s f && passes q t f

pub record Counts (p : Program) (q : Pattern) (s : Snapshot) (t : Tuple) (f : Fact) : Type 0 where
  pub present : is_present p s.clock f ≡ true
  pub ty : f.ty.0 ≡ q.ty.0
  pub entry : f.entry.0 ≡ q.entry.0
  pub alone : tests_hold unbound f q.alone ≡ true
  pub inside : is_inside p q q.window s.clock s.facts f ≡ true
  pub joined : tests_hold (bound_by t) f q.joined ≡ true
  pub times : times_hold (bound_by t) f.times q.times ≡ true

pub counts_parts : (p : Program) (q : Pattern) (s : Snapshot) (t : Tuple) (f : Fact) → counts p q s t f ≡ true → Counts p q s t f
counts_parts p q s t f h =
    let a = and_parts (is_candidate p q s f) (passes q t f) h in
    let b = and_parts (fits p q s.clock f) (is_inside p q q.window s.clock s.facts f) a.0 in
    let d = and_parts (is_present p s.clock f) (f.ty.0 == q.ty.0 && (f.entry.0 == q.entry.0 && tests_hold unbound f q.alone)) b.0 in
    let e = and_parts (f.ty.0 == q.ty.0) (f.entry.0 == q.entry.0 && tests_hold unbound f q.alone) d.1 in
    let g = and_parts (f.entry.0 == q.entry.0) (tests_hold unbound f q.alone) e.1 in
    let k = and_parts (tests_hold (bound_by t) f q.joined) (times_hold (bound_by t) f.times q.times) a.1 in
    record { present = d.0; ty = eqb-true f.ty.0 q.ty.0 e.0; entry = eqb-true f.entry.0 q.entry.0 g.0; alone = g.1; inside = b.1; joined = k.0; times = k.1 }

pub counts_join : (p : Program) (q : Pattern) (s : Snapshot) (t : Tuple) (f : Fact) → Counts p q s t f → counts p q s t f ≡ true
counts_join p q s t f h =
    and_from _ _
    (and_from _ _ (and_from _ _ h.present (and_from _ _ (eq-eqb f.ty.0 q.ty.0 h.ty) (and_from _ _ (eq-eqb f.entry.0 q.entry.0 h.entry) h.alone))) h.inside)
    (and_from _ _ h.joined h.times)

present_parts : (p : Program) (now : ℤ) (f : Fact) → is_present p now f ≡ true → (not (is_event p f.ty.0) || is_within (expiry_of p f.ty.0) (now -ℤ f.times.start)) ≡ true
unfolding is_present
present_parts p now f h = h

pub always_present : (p : Program) (now : ℤ) (f : Fact) → expiry_of p f.ty.0 ≡ None → is_present p now f ≡ true
unfolding is_present
always_present p now f e = ap (λ (x : Option ℤ). not (is_event p f.ty.0) || is_within x (now -ℤ f.times.start)) e ∙ or-true (not (is_event p f.ty.0))

-- what counts at one clock from c on, and is still there, counts at every clock
pub stays : (p : Program) (q : Pattern) (s o : Snapshot) (c : ℤ) (t : Tuple) (f : Fact) → c ≤ℤ s.clock → Still p c q f.times → Counts p q s t f → Counts p q o t f
stays p q s o c t f from (steady is) h = record {
  present = plain_present p o.clock f (ap (is_event p) h.ty ∙ is.plain);
  ty = h.ty;
  entry = h.entry;
  alone = h.alone;
  inside = ap (λ (w : WindowTag). is_inside p q w o.clock o.facts f) is.is_whole;
  joined = h.joined;
  times = h.times;
}
stays p q s o c t f from (old event settled) h =
    let has = tail_of p c q f.times settled in
    let by_pattern = subst (λ (ty : ℕ). (not (is_event p ty) || is_within (expiry_of p ty) (s.clock -ℤ f.times.start)) ≡ true) h.ty (present_parts p s.clock f h.present) in
    let none : expiry_of p q.ty.0 ≡ None = unexpired (is_event p q.ty.0) (expiry_of p q.ty.0) s.clock f.times.start c settled.0 has.is_event has.expires by_pattern from settled.2 in
    let is_whole : q.window ≡ Whole = in_whole p q q.window s.clock s.facts f c settled.0 has.spans has.no_length h.inside from settled.2 in
    record {
      present = always_present p o.clock f (ap (expiry_of p) h.ty ∙ none);
      ty = h.ty;
      entry = h.entry;
      alone = h.alone;
      inside = ap (λ (w : WindowTag). is_inside p q w o.clock o.facts f) is_whole;
      joined = h.joined;
      times = h.times;
    }
