-- The step of a time window, tag by tag.
use Rattle.window_gate.proofs.Common.{◌≡◌, ◌∙◌, sym, ap, refl, subst, inl, inr, ◌⊎◌, ℕ, ℤ, pos, ◌+ℤ◌, ◌-ℤ◌, ◌≤ℤ◌, List, [], ◌∷◌, map, filter, Bool, true, false}
use Rattle.window_gate.proofs.Common.{cond, not, ◌==◌, ◌&&◌, ◌||◌, Option, Some, None, arith, negsuc, FitsSigned, w64, int_lt, int_le, IsStrictlySortedBy}
use Rattle.window_gate.proofs.Common.{list_any, option_or, option_to_list, Decides-eqb, ints, IsBetween, name_cmp, Delta, Named, Time, GateChange, Come, Gone}
use Rattle.window_gate.proofs.Common.{Clock, TimeWindow, Arrival, named_of, has_tag, inside, after, single, rows_inside, has_version, TagsDiffer, MayChange}
use Rattle.window_gate.proofs.Common.{with_tag, KeepsTime, HoldsArrivals, most, is_id, has_time_come, leaves, brings, Leave, Enter, find-append, and-false}
use Rattle.window_gate.proofs.{Common.{or-false, eqb-flip, or_first_false, or_second_false}, Names.{same_name, same_name-parts, none_with_tag, has_tag-same}}
use Rattle.window_gate.proofs.{Insides.{is_recent, inside_time, differ_after}, Lengths.{few_in_order}, Singles.{between_names}, Holding.{holds_same}}
use Rattle.{window_gate.proofs.Holding.{arrival_of}, std.specs.Int.{saturate_signed}}

-- ---- the arrival with a tag, where it passes a test

-- it, where it passes
abbrev pub only : (Arrival → Bool) → Option Arrival → Option Arrival
only p None = None
only p (Some arrival) = cond (p arrival) (Some arrival) None

-- a tag that is not there
no_arrival : (tag : ℕ) (arrivals : List Arrival) → list_any (has_tag tag) (map named_of arrivals) ≡ false → with_tag tag arrivals ≡ None
no_arrival tag [] e = refl
no_arrival tag (x ∷ arrivals) e =
    ap (λ b. cond b (Some x) (with_tag tag arrivals)) (or_first_false (has_tag tag x.named) (list_any (has_tag tag) (map named_of arrivals)) e)
    ∙ no_arrival tag arrivals (or_second_false (has_tag tag x.named) (list_any (has_tag tag) (map named_of arrivals)) e)

-- the tag of the first is not that of another
later_absent : (tag : ℕ) (x : Arrival) (arrivals : List Arrival) → has_tag tag x.named ≡ true → list_any (has_tag x.named.tag.0) (map named_of arrivals) ≡ false → list_any (has_tag tag) (map named_of arrivals) ≡ false
later_absent tag x arrivals is e = has_tag-same tag x.named.tag.0 (map named_of arrivals) is ∙ e

with_tag-filter : (p : Arrival → Bool) (tag : ℕ) (arrivals : List Arrival) → TagsDiffer (map named_of arrivals) → with_tag tag (filter p arrivals) ≡ only p (with_tag tag arrivals)
with_tag-filter p tag [] differ = refl
with_tag-filter p tag (x ∷ arrivals) differ =
    elim (has_tag tag x.named) as (λ b. has_tag tag x.named ≡ b → with_tag tag (cond (p x) (x ∷ filter p arrivals) (filter p arrivals)) ≡ only p (cond b (Some x) (with_tag tag arrivals))) [
      | true ↦ λ is. elim (p x) as (λ b. with_tag tag (cond b (x ∷ filter p arrivals) (filter p arrivals)) ≡ cond b (Some x) None) [
        | true ↦ ap (λ b. cond b (Some x) (with_tag tag (filter p arrivals))) is
        | false ↦ with_tag-filter p tag arrivals differ.1 ∙ ap (only p) (no_arrival tag arrivals (later_absent tag x arrivals is differ.0))
      ]
      | false ↦ λ is. elim (p x) as (λ b. with_tag tag (cond b (x ∷ filter p arrivals) (filter p arrivals)) ≡ only p (with_tag tag arrivals)) [
        | true ↦ ap (λ b. cond b (Some x) (with_tag tag (filter p arrivals))) is ∙ with_tag-filter p tag arrivals differ.1
        | false ↦ with_tag-filter p tag arrivals differ.1
      ]
    ] refl

-- the arrival inside with a tag
with_tag-inside : (millis now : ℤ) (tag : ℕ) (arrivals : List Arrival) → TagsDiffer (map named_of arrivals) → with_tag tag (inside (Time millis) now arrivals) ≡ only (is_recent millis now) (with_tag tag arrivals)
with_tag-inside millis now tag arrivals differ = ap (with_tag tag) (inside_time millis now arrivals) ∙ with_tag-filter (is_recent millis now) tag arrivals differ

-- those that pass have tags that differ
filter_absent : (p : Arrival → Bool) (tag : ℕ) (arrivals : List Arrival) → list_any (has_tag tag) (map named_of arrivals) ≡ false → list_any (has_tag tag) (map named_of (filter p arrivals)) ≡ false
filter_absent p tag [] e = refl
filter_absent p tag (x ∷ arrivals) e =
    elim (p x) as (λ b. list_any (has_tag tag) (map named_of (cond b (x ∷ filter p arrivals) (filter p arrivals))) ≡ false) [
      | true ↦ ap (λ b. b || list_any (has_tag tag) (map named_of (filter p arrivals))) (or_first_false (has_tag tag x.named) (list_any (has_tag tag) (map named_of arrivals)) e)
          ∙ filter_absent p tag arrivals (or_second_false (has_tag tag x.named) (list_any (has_tag tag) (map named_of arrivals)) e)
      | false ↦ filter_absent p tag arrivals (or_second_false (has_tag tag x.named) (list_any (has_tag tag) (map named_of arrivals)) e)
    ]

filter_differ : (p : Arrival → Bool) (arrivals : List Arrival) → TagsDiffer (map named_of arrivals) → TagsDiffer (map named_of (filter p arrivals))
filter_differ p [] differ = tt
filter_differ p (x ∷ arrivals) differ =
    elim (p x) as (λ b. TagsDiffer (map named_of (cond b (x ∷ filter p arrivals) (filter p arrivals)))) [
      | true ↦ (filter_absent p x.named.tag.0 arrivals differ.0, filter_differ p arrivals differ.1)
      | false ↦ filter_differ p arrivals differ.1
    ]

-- a version is there where the arrival with its tag has its id
has_name-with_tag : (arrivals : List Arrival) (named : Named) → TagsDiffer (map named_of arrivals) → has_version (map named_of arrivals) named ≡ is_id named.id.0 (with_tag named.tag.0 arrivals)
has_name-with_tag [] named differ = refl
has_name-with_tag (x ∷ arrivals) named differ =
    elim (has_tag named.tag.0 x.named) as (λ b. has_tag named.tag.0 x.named ≡ b → (same_name named x.named || has_version (map named_of arrivals) named) ≡ is_id named.id.0 (cond b (Some x) (with_tag named.tag.0 arrivals))) [
      | true ↦ λ is.
          ap (λ b. same_name named x.named || b) (none_with_tag (map named_of arrivals) named (later_absent named.tag.0 x arrivals is differ.0))
          ∙ or-false (same_name named x.named) ∙ same_name-parts named x.named ∙ ap (λ b. b && (named.id.0 == x.named.id.0)) is
      | false ↦ λ is.
          ap (λ b. b || has_version (map named_of arrivals) named) (same_name-parts named x.named ∙ ap (λ b. b && (named.id.0 == x.named.id.0)) is)
          ∙ has_name-with_tag arrivals named differ.1
    ] refl

-- a version is inside where the arrival inside with its tag has its id
name_inside : (millis now : ℤ) (arrivals : List Arrival) (named : Named) → TagsDiffer (map named_of arrivals)
    → has_version (map named_of (inside (Time millis) now arrivals)) named ≡ is_id named.id.0 (with_tag named.tag.0 (inside (Time millis) now arrivals))
name_inside millis now arrivals named differ =
    has_name-with_tag (inside (Time millis) now arrivals) named
    (subst (λ (xs : List Arrival). TagsDiffer (map named_of xs)) (sym (inside_time millis now arrivals)) (filter_differ (is_recent millis now) arrivals differ))

-- ---- the arrival with a tag after a change

only_other : (tag q : ℕ) (arrivals : List Arrival) → only (λ arrival. not (has_tag tag arrival.named)) (with_tag q arrivals) ≡ cond (q == tag) None (with_tag q arrivals)
only_other tag q [] = either_way (q == tag) None
  where
    either_way : (b : Bool) (o : Option Arrival) → o ≡ cond b o o
    either_way true o = refl
    either_way false o = refl
only_other tag q (x ∷ arrivals) =
    elim (has_tag q x.named) as (λ b. has_tag q x.named ≡ b → only (λ arrival. not (has_tag tag arrival.named)) (cond b (Some x) (with_tag q arrivals)) ≡ cond (q == tag) None (cond b (Some x) (with_tag q arrivals))) [
      | true ↦ λ is. ap (λ k. cond (not (tag == k)) (Some x) None) (sym ((Decides-eqb q x.named.tag.0).0 is)) ∙ ap (λ b. cond (not b) (Some x) None) (eqb-flip tag q) ∙ flipped (q == tag) x
      | false ↦ λ is. only_other tag q arrivals
    ] refl
  where
    flipped : (b : Bool) (x : Arrival) → cond (not b) (Some x) None ≡ cond b None (Some x)
    flipped true x = refl
    flipped false x = refl

with_tag-gone : (named : Named) (q : ℕ) (arrivals : List Arrival) → TagsDiffer (map named_of arrivals) → with_tag q (after arrivals (Gone named)) ≡ cond (q == named.tag.0) None (with_tag q arrivals)
with_tag-gone named q arrivals differ = with_tag-filter (λ arrival. not (has_tag named.tag.0 arrival.named)) q arrivals differ ∙ only_other named.tag.0 q arrivals

-- the one that comes is the one with its tag, and the others are as before
with_tag-come : (named : Named) (start : ℤ) (q : ℕ) (arrivals : List Arrival) → list_any (has_tag named.tag.0) (map named_of arrivals) ≡ false
    → with_tag q (after arrivals (Come named start)) ≡ cond (q == named.tag.0) (Some (arrival_of named start)) (with_tag q arrivals)
with_tag-come named start q arrivals absent =
    find-append (λ arrival. has_tag q arrival.named) arrivals (arrival_of named start ∷ [])
    ∙ last (q == named.tag.0) (arrival_of named start) (with_tag q arrivals) (λ e. ap (λ k. with_tag k arrivals) ((Decides-eqb q named.tag.0).0 e) ∙ no_arrival named.tag.0 arrivals absent)
  where
    last : (t : Bool) (a : Arrival) (o : Option Arrival) → (t ≡ true → o ≡ None) → option_or o (cond t (Some a) None) ≡ cond t (Some a) o
    last true a o e = ap (λ p. option_or p (Some a)) (e refl)
    last false a None e = refl
    last false a (Some b) e = refl

-- ---- the arrival inside with a tag after a step

-- it is inside until it leaves
recent_until : (millis now start : ℤ) → int_lt (now -ℤ start) millis ≡ not (int_le (start +ℤ millis) now)
recent_until millis now start = grind (arith, ints)

-- and before
recent_before : (millis was now start : ℤ) → was ≤ℤ now → int_lt (now -ℤ start) millis ≡ true → int_lt (was -ℤ start) millis ≡ true
recent_before millis was now start pass e = grind (arith, ints)

-- one that comes is inside where it is still to leave
still_recent : (millis now start : ℤ) → int_lt (now -ℤ start) millis ≡ int_lt now (start +ℤ millis)
still_recent millis now start = grind (arith, ints)

module _ (millis was now : ℤ) (pass : was ≤ℤ now) where
  -- what stays inside
  stays : (t : Bool) (o : Option Arrival) → only (is_recent millis now) (cond t None o) ≡ cond (has_time_come millis now (only (is_recent millis was) o) || t) None (only (is_recent millis was) o)
  stays true None = refl
  stays false None = refl
  stays t (Some a) = by t (is_recent millis was a) (is_recent millis now a) (int_le (a.start +ℤ millis) now) refl (recent_until millis now a.start) refl (recent_before millis was now a.start pass)
    where
      by : (t before later d : Bool) → int_le (a.start +ℤ millis) now ≡ d → later ≡ not d → is_recent millis now a ≡ later → (later ≡ true → before ≡ true)
          → only (is_recent millis now) (cond t None (Some a)) ≡ cond (has_time_come millis now (cond before (Some a) None) || t) None (cond before (Some a) None)
      by true true later d due e l g = either d ∙ ap (λ b. cond (b || true) None (Some a)) (sym due)
        where
          either : (d : Bool) → None ≡ cond (d || true) None (Some a)
          either true = refl
          either false = refl
      by true false later d due e l g = refl
      by false true later true due e l g = ap (λ b. cond b (Some a) None) (l ∙ e) ∙ ap (λ b. cond (b || false) None (Some a)) (sym due)
      by false true later false due e l g = ap (λ b. cond b (Some a) None) (l ∙ e) ∙ ap (λ b. cond (b || false) None (Some a)) (sym due)
      by false false true d due e l g = absurd (let f : false ≡ true = g refl in cc)
      by false false false d due e l g = ap (λ b. cond b (Some a) None) l

  module _ (arrivals : List Arrival) (differ : TagsDiffer (map named_of arrivals)) where
    -- what is inside before
    abbrev before : ℕ → Option Arrival
    before tag = with_tag tag (inside (Time millis) was arrivals)

    stays_inside : (t : Bool) (tag : ℕ) → only (is_recent millis now) (cond t None (with_tag tag arrivals)) ≡ cond (has_time_come millis now (before tag) || t) None (before tag)
    stays_inside t tag = stays t (with_tag tag arrivals) ∙ ap (λ o. cond (has_time_come millis now o || t) None o) (sym (with_tag-inside millis was tag arrivals differ))

    -- what is inside after
    inside_after : (change : GateChange) → MayChange (Time millis) (map named_of arrivals) change → (tag : ℕ)
        → with_tag tag (inside (Time millis) now (after arrivals change)) ≡ option_or (brings millis now change tag) (cond (leaves millis now change tag (before tag)) None (before tag))
    inside_after change may tag = with_tag-inside millis now tag (after arrivals change) (differ_after (Time millis) arrivals change differ may) ∙ by change may
      where
        joined : (t i : Bool) (new : Arrival) (o p : Option Arrival) → is_recent millis now new ≡ i → (t ≡ true → p ≡ None) → only (is_recent millis now) o ≡ p
            → only (is_recent millis now) (cond t (Some new) o) ≡ option_or (cond (i && t) (Some new) None) p
        joined true true new o p e absent is = ap (λ b. cond b (Some new) None) e
        joined true false new o p e absent is = ap (λ b. cond b (Some new) None) e ∙ sym (absent refl)
        joined false true new o p e absent is = is
        joined false false new o p e absent is = is

        by : (change : GateChange) → MayChange (Time millis) (map named_of arrivals) change
            → only (is_recent millis now) (with_tag tag (after arrivals change)) ≡ option_or (brings millis now change tag) (cond (leaves millis now change tag (before tag)) None (before tag))
        by (Come named start) may =
            ap (only (is_recent millis now)) (with_tag-come named start tag arrivals may.0)
            ∙ joined (tag == named.tag.0) (int_lt now (start +ℤ millis)) (arrival_of named start) (with_tag tag arrivals) (cond (has_time_come millis now (before tag) || false) None (before tag)) (still_recent millis now start)
            (λ e. sym (stays_inside false tag) ∙ ap (only (is_recent millis now)) (ap (λ k. with_tag k arrivals) ((Decides-eqb tag named.tag.0).0 e) ∙ no_arrival named.tag.0 arrivals may.0))
            (stays_inside false tag)
        by (Gone named) may = ap (only (is_recent millis now)) (with_tag-gone named tag arrivals differ) ∙ stays_inside (tag == named.tag.0) tag
        by Clock may = stays_inside false tag

    -- what is brought inside was not there
    brought_new : (change : GateChange) → MayChange (Time millis) (map named_of arrivals) change → (tag : ℕ) → (brings millis now change tag ≡ None) ⊎ (before tag ≡ None)
    brought_new (Gone named) may tag = inl refl
    brought_new Clock may tag = inl refl
    brought_new (Come named start) may tag = by (int_lt now (start +ℤ millis)) (tag == named.tag.0) refl
      where
        by : (i t : Bool) → (tag == named.tag.0) ≡ t → (cond (i && t) (Some (arrival_of named start)) None ≡ None) ⊎ (before tag ≡ None)
        by true false e = inl refl
        by false t e = inl refl
        by true true e = inr (with_tag-inside millis was tag arrivals differ ∙ ap (only (is_recent millis was)) (ap (λ k. with_tag k arrivals) ((Decides-eqb tag named.tag.0).0 e) ∙ no_arrival named.tag.0 arrivals may.0))

-- ---- the window after a step

-- what leaves is what was there and is there no more
goes : (id : ℕ) (l : Bool) (new o : Option Arrival) → (new ≡ None) ⊎ (o ≡ None) → (l && is_id id o) ≡ (is_id id o && not (is_id id (option_or new (cond l None o))))
goes id l new o (inl e) = either l (is_id id o) ∙ ap (λ b. is_id id o && not b) (moved l ∙ ap (λ n. is_id id (option_or n (cond l None o))) (sym e))
  where
    either : (l i : Bool) → (l && i) ≡ (i && not (cond l false i))
    either true true = refl
    either true false = refl
    either false true = refl
    either false false = refl

    moved : (l : Bool) → cond l false (is_id id o) ≡ is_id id (cond l None o)
    moved true = refl
    moved false = refl
goes id l new o (inr e) = ap (λ p. l && is_id id p) e ∙ and-false l ∙ ap (λ p. is_id id p && not (is_id id (option_or new (cond l None o)))) (sym e)

-- and what is brought the other way round
comes : (id : ℕ) (l : Bool) (new o : Option Arrival) → (new ≡ None) ⊎ (o ≡ None) → is_id id new ≡ (is_id id (option_or new (cond l None o)) && not (is_id id o))
comes id l new o (inl e) = ap (is_id id) e ∙ either l o ∙ ap (λ n. is_id id (option_or n (cond l None o)) && not (is_id id o)) (sym e)
  where
    never : (i : Bool) → false ≡ (i && not i)
    never true = refl
    never false = refl

    either : (l : Bool) (o : Option Arrival) → false ≡ (is_id id (cond l None o) && not (is_id id o))
    either true o = refl
    either false o = never (is_id id o)
comes id l new o (inr e) = alone new l ∙ ap (λ p. is_id id (option_or new (cond l None p)) && not (is_id id p)) (sym e)
  where
    and_true : (a : Bool) → a ≡ (a && true)
    and_true true = refl
    and_true false = refl

    alone : (new : Option Arrival) (l : Bool) → is_id id new ≡ (is_id id (option_or new (cond l None None)) && true)
    alone (Some a) l = and_true (id == a.named.id.0)
    alone None true = refl
    alone None false = refl

same_not : {a b c d : Bool} → a ≡ b → c ≡ d → (b && not d) ≡ (a && not c)
same_not {a} {b} {c} {d} e f = ap (λ x. x && not d) (sym e) ∙ ap (λ x. a && not x) (sym f)

module _ (old mid new : TimeWindow) (arrivals : List Arrival) (was now : ℤ) (pass : was ≤ℤ now) (keeps : KeepsTime old arrivals was) (differ : TagsDiffer (map named_of arrivals)) (change : GateChange)
    (may : MayChange (Time old.millis) (map named_of arrivals) change) (left : List Named) (come : Option Named) (leave : Leave old mid (leaves old.millis now change) left)
    (enter : Enter mid new (brings mid.millis now change) come) (same : new.millis ≡ mid.millis) where
  pub step_keeps : KeepsTime new (after arrivals change) now
  step_keeps =
      subst (λ m. HoldsArrivals new (λ tag. with_tag tag (inside (Time m) now (after arrivals change)))) (sym (same ∙ leave.millis))
      (holds_same new _ _ (λ tag. ap (λ m. option_or (brings m now change tag) (cond (leaves old.millis now change tag (with_tag tag (inside (Time old.millis) was arrivals))) None (with_tag tag (inside (Time old.millis) was arrivals)))) leave.millis
      ∙ sym (inside_after old.millis was now pass arrivals differ change may tag)) (enter.rest _ (leave.rest _ keeps)))

  -- the versions inside before and after
  was_named : (named : Named) → has_version (map named_of (inside (Time old.millis) was arrivals)) named ≡ is_id named.id.0 (before old.millis was now pass arrivals differ named.tag.0)
  was_named named = name_inside old.millis was arrivals named differ

  now_named : (named : Named) → has_version (map named_of (inside (Time old.millis) now (after arrivals change))) named
      ≡ is_id named.id.0 (option_or (brings old.millis now change named.tag.0) (cond (leaves old.millis now change named.tag.0 (before old.millis was now pass arrivals differ named.tag.0)) None (before old.millis was now pass arrivals differ named.tag.0)))
  now_named named =
      name_inside old.millis now (after arrivals change) named (differ_after (Time old.millis) arrivals change differ may)
      ∙ ap (is_id named.id.0) (inside_after old.millis was now pass arrivals differ change may named.tag.0)

  pub step_between : (delta : Delta) → IsStrictlySortedBy name_cmp left → delta.gone ≡ map single left → delta.come ≡ map single (option_to_list come)
      → IsBetween (rows_inside (Time old.millis) was arrivals) (rows_inside (Time old.millis) now (after arrivals change)) delta
  step_between delta sorted is_gone is_come =
      between_names (map named_of (inside (Time old.millis) was arrivals)) (map named_of (inside (Time old.millis) now (after arrivals change))) left (option_to_list come) sorted (few_in_order come)
      (λ named.
      leave.versions _ keeps named ∙ goes named.id.0 _ _ _ (brought_new old.millis was now pass arrivals differ change may named.tag.0)
      ∙ same_not (was_named named) (now_named named))
      (λ named.
      enter.version named ∙ ap (λ m. is_id named.id.0 (brings m now change named.tag.0)) leave.millis
      ∙ comes named.id.0 (leaves old.millis now change named.tag.0 (before old.millis was now pass arrivals differ named.tag.0)) _ _ (brought_new old.millis was now pass arrivals differ change may named.tag.0)
      ∙ same_not (now_named named) (was_named named))
      delta is_gone is_come

-- ---- the moment when one leaves

within : (z : ℤ) → FitsSigned w64 z → saturate_signed w64 z ≡ z
within (pos n) fits = ap (λ k. pos k) (omega arith)
within (negsuc n) fits = ap (λ k. negsuc k) (omega arith)

-- it is not cut off
pub moment_is : (start millis moment : ℤ) → (pos 0 ≤ℤ start) → (start ≤ℤ most) → (millis ≤ℤ most) → FitsSigned w64 millis → moment ≡ saturate_signed w64 (start +ℤ millis) → moment ≡ start +ℤ millis
moment_is start millis moment low high short fits is =
    let sum : FitsSigned w64 (start +ℤ millis) = grind (arith, ints) in
    is ∙ within (start +ℤ millis) sum
