-- A gate that stands for what its window needs of a snapshot stands for all of it.
use Rattle.pattern_gate.proofs.Common.{◌≡◌, ◌∙◌, ◌⊎◌, inl, inr, sym, ap, refl, subst, ℕ, ℤ, pos, ◌-ℤ◌, ◌==◌, ◌&&◌, ◌||◌, int_lt, List, [], ◌∷◌, map, Bool, true}
use Rattle.pattern_gate.proofs.Common.{false, cond, filter, list_any, AllByRecursion, Decides-eqb, In, Fact, Pattern, Program, HaveDistinctTags, tag_cmp}
use Rattle.pattern_gate.proofs.Common.{Snapshot, nat_cmp, Less, Tag, WindowTag, fits, is_inside, of_filter, in_filter, passed, distinct_filtered, HoldsArrivals}
use Rattle.pattern_gate.proofs.Common.{KeepsTime, KeepsLength, KeepsWindow, TagsDiffer, window_kept, with_tag, Arrival, named_of, has_tag, inside, WindowKind}
use Rattle.pattern_gate.proofs.{Common.{PatternGate, GateStands, arrival_of, arrivals, window_kind_of}, Arriving.{rising}, Inside.{inside_are}}
use Rattle.{pattern_gate.specs.Fronts.{IsLetBe, HasInFront}, std.specs.List.Sorted.{IsStrictlySortedBy}, window_gate.specs.declared.gate.Kept.{Kept}}
use Rattle.{window_gate.specs.declared.time_window.TimeWindow.{TimeWindow}, rule_model.proofs.Sorted.{tag_total, sorted_same}}
use Rattle.rule_model.specs.declared.condition.WindowTag.TheVariants as tag
use Rattle.window_gate.specs.declared.change.WindowKind.TheVariants as kind
use Rattle.window_gate.specs.declared.gate.Kept.TheVariants as kept

-- ---- lists in the order of their tags

abbrev number : Fact → ℕ
number f = f.tag.0

abbrev Rise : List Fact → Type 0
Rise facts = IsStrictlySortedBy nat_cmp (map number facts)

all_mapped : (n : ℕ) (facts : List Fact) → AllByRecursion (λ m. nat_cmp n m ≡ Less) (map number facts) → AllByRecursion (λ (g : Fact). nat_cmp n g.tag.0 ≡ Less) facts
all_mapped n [] all = tt
all_mapped n (f ∷ facts) all = (all.0, all_mapped n facts all.1)

by_tags : (facts : List Fact) → Rise facts → IsStrictlySortedBy tag_cmp facts
unfolding IsStrictlySortedBy
by_tags [] rise = tt
by_tags (f ∷ facts) rise = (all_mapped f.tag.0 facts rise.0, by_tags facts rise.1)

-- those that pass a test keep their order
all_filtered : (P : Fact → Type 0) (test : Fact → Bool) (facts : List Fact) → AllByRecursion P facts → AllByRecursion P (filter test facts)
all_filtered P test [] all = tt
all_filtered P test (f ∷ facts) all = by (test f) (all_filtered P test facts all.1)
  where
    by : (b : Bool) → AllByRecursion P (filter test facts) → AllByRecursion P (cond b (f ∷ filter test facts) (filter test facts))
    by true rest = (all.0, rest)
    by false rest = rest

sorted_filtered : (test : Fact → Bool) (facts : List Fact) → IsStrictlySortedBy tag_cmp facts → IsStrictlySortedBy tag_cmp (filter test facts)
unfolding IsStrictlySortedBy
sorted_filtered test [] s = s
sorted_filtered test (f ∷ facts) s = by (test f) (sorted_filtered test facts s.1)
  where
    by : (b : Bool) → IsStrictlySortedBy tag_cmp (filter test facts) → IsStrictlySortedBy tag_cmp (cond b (f ∷ filter test facts) (filter test facts))
    by true rest = (all_filtered (λ (g : Fact). tag_cmp f g ≡ Less) test facts s.0, rest)
    by false rest = rest

-- two lists have the same facts that pass, where what only the first has does not
pub same_passed : (test : Fact → Bool) (xs ys : List Fact) → Rise xs → Rise ys → ((f : Fact) → In f ys → In f xs) → ((f : Fact) → In f xs → In f ys ⊎ (test f ≡ false))
    → filter test xs ≡ filter test ys
same_passed test xs ys rise also among others =
    sorted_same tag_cmp tag_total (filter test xs) (filter test ys) (sorted_filtered test xs (by_tags xs rise)) (sorted_filtered test ys (by_tags ys also)) (λ f. (
      λ i. kept_by f (passed test f xs i) (others f (of_filter test f xs i)),
      λ i. in_filter test f xs (passed test f ys i) (among f (of_filter test f ys i)),
    ))
  where
    kept_by : (f : Fact) → test f ≡ true → In f ys ⊎ (test f ≡ false) → In f (filter test ys)
    kept_by f e (inl i) = in_filter test f ys e i
    kept_by f e (inr n) = absurd (let torn : true ≡ false = sym e ∙ n in cc)

-- ---- tags

abbrev tag_numbered : ℕ → Tag
tag_numbered n = record { 0 = n }

apart : (f g : Fact) → (f.tag ≡ g.tag → ⊥) → (f.tag.0 == g.tag.0) ≡ false
apart f g h = by (f.tag.0 == g.tag.0) refl
  where
    by : (b : Bool) → (f.tag.0 == g.tag.0) ≡ b → b ≡ false
    by true e = absurd (h (ap tag_numbered ((Decides-eqb f.tag.0 g.tag.0).0 e)))
    by false e = refl

none_has : (f : Fact) (facts : List Fact) → (In f.tag (map (λ (g : Fact). g.tag) facts) → ⊥) → list_any (has_tag f.tag.0) (map named_of (map arrival_of facts)) ≡ false
none_has f [] h = refl
none_has f (g ∷ facts) h =
    ap (λ b. b || list_any (has_tag f.tag.0) (map named_of (map arrival_of facts))) (apart f g (λ e. h (inl e))) ∙ none_has f facts (λ i. h (inr i))

tags_differ : (facts : List Fact) → HaveDistinctTags facts → TagsDiffer (map named_of (map arrival_of facts))
tags_differ [] d = tt
tags_differ (f ∷ facts) d = (none_has f facts d.0, tags_differ facts d.1)

-- ---- windows

abbrev millis_of : WindowKind → ℤ
millis_of kind.Whole = pos 0
millis_of (kind.Time millis) = millis
millis_of (kind.Length size) = pos 0

abbrev size_of : WindowKind → ℕ
size_of kind.Whole = 0
size_of (kind.Time millis) = 0
size_of (kind.Length size) = size

abbrev is_time : WindowKind → Bool
is_time kind.Whole = false
is_time (kind.Time millis) = true
is_time (kind.Length size) = false

abbrev is_length : WindowKind → Bool
is_length kind.Whole = false
is_length (kind.Time millis) = false
is_length (kind.Length size) = true

of_time : (w : WindowTag) (millis : ℤ) → kind.Time millis ≡ window_kind_of w → w ≡ tag.Time millis
of_time tag.Whole millis e = absurd (let torn : true ≡ false = ap is_time e in cc)
of_time (tag.Time span) millis e = ap tag.Time (sym (ap millis_of e))
of_time (tag.Length count) millis e = absurd (let torn : true ≡ false = ap is_time e in cc)

of_length : (w : WindowTag) (size : ℕ) → kind.Length size ≡ window_kind_of w → w ≡ tag.Length size
of_length tag.Whole size e = absurd (let torn : true ≡ false = ap is_length e in cc)
of_length (tag.Time span) size e = absurd (let torn : true ≡ false = ap is_length e in cc)
of_length (tag.Length count) size e = ap tag.Length (sym (ap size_of e))

-- ---- gates

module _ (p : Program) (q : Pattern) (s t : Snapshot) (rise : Rise s.facts) (also : Rise t.facts) (has : HasInFront p q s t) where
  -- a window of time has the same inside
  same_inside : (span : ℤ) → q.window ≡ tag.Time span → inside (kind.Time span) s.clock (arrivals p q s) ≡ inside (kind.Time span) t.clock (arrivals p q t)
  same_inside span window =
      inside_are p q s rise (tag.Time span)
      ∙ ap (map arrival_of) (same_passed (λ f. fits p q s.clock f && is_inside p q (tag.Time span) s.clock s.facts f) s.facts t.facts rise also has.among (λ f i.
      elim (has.others f i) [
        | inl j ↦ inl j
        | inr aside ↦ inr (ap (λ w. fits p q s.clock f && is_inside p q w s.clock s.facts f) (sym window) ∙ subst (λ w. IsLetBe w p q s f) window aside)
      ]))
      ∙ ap (λ now. map arrival_of (filter (λ f. fits p q now f && int_lt (now -ℤ f.times.start) span) t.facts)) (sym has.clock)
      ∙ sym (inside_are p q t also (tag.Time span))

  -- for one of length the same arrives
  same_arrivals : (count : ℕ) → q.window ≡ tag.Length count → arrivals p q s ≡ arrivals p q t
  same_arrivals count window =
      ap (map arrival_of) (same_passed (fits p q s.clock) s.facts t.facts rise also has.among (λ f i.
      elim (has.others f i) [
        | inl j ↦ inl j
        | inr aside ↦ inr (subst (λ w. IsLetBe w p q s f) window aside)
      ]))
      ∙ ap (λ now. map arrival_of (filter (fits p q now) t.facts)) (sym has.clock)

  keeps_time : (window : TimeWindow) → q.window ≡ tag.Time window.millis → KeepsTime window (arrivals p q t) t.clock → KeepsTime window (arrivals p q s) s.clock
  keeps_time window is k = subst (λ (list : List Arrival). HoldsArrivals window (λ tag. with_tag tag list)) (sym (same_inside window.millis is)) k

  keeps : (k : Kept) → window_kept k ≡ window_kind_of q.window → KeepsWindow k (arrivals p q t) t.clock → KeepsWindow k (arrivals p q s) s.clock
  keeps kept.Whole is k = tt
  keeps (kept.Time window) is k = keeps_time window (of_time q.window window.millis is) k
  keeps (kept.Length window) is k =
      subst (λ now. KeepsLength window (arrivals p q s) now) has.clock
      (subst (λ (list : List Arrival). KeepsLength window list t.clock) (sym (same_arrivals window.size (of_length q.window window.size is))) k)

  pub gate_of_all : (gate : PatternGate) → GateStands p q gate t → GateStands p q gate s
  gate_of_all gate stands = record {
    window = stands.window;
    stands = record {
      tags = tags_differ (filter (fits p q s.clock) s.facts) (distinct_filtered (fits p q s.clock) s.facts (rising s.facts rise));
      keeps = keeps gate.gate.kept stands.window stands.stands.keeps;
    };
  }
