-- A field put among others in the byte order of their names.
use Rattle.script_read.proofs.Common.{◌≡◌, ◌∙◌, sym, ap, refl, ℕ, ◌+◌, ◌-◌, ◌<◌, ◌≤◌, List, [], ◌∷◌, length, get_or, arith, Ordering, Less, Equal, Greater}
use Rattle.script_read.proofs.Common.{nat_cmp, zero, suc, inl, inr, true, false, slice_cmp, insert, AllByRecursion, AllWithin, put_given, Given, is_lt}
use Rattle.{script_read.proofs.Common.{match_ordering, ordering_index, ordering_reverse, name_cmp, IsRising}, std.proofs.lemmas.Bool.{cases_lt}}
use Rattle.std.{proofs.lemmas.{Cmp.{on_total, nat_list_cmp_total}, List.Sorted.{searchable_from_sorted}, Map.Keys.{Less-from_sorted}}, specs.Cmp.{IsTotalOrder}}
use Rattle.std.specs.List.Sorted.{IsStrictlySortedBy, IsSortedBy, IsNonDecreasingBy}

abbrev pub Field : Type 0
Field = List ℕ × Given

pub names_total : IsTotalOrder name_cmp
names_total = on_total (λ (f : Field). f.0) nat_list_cmp_total

-- the other way round
flipped : (one other : List ℕ) (o : Ordering) → slice_cmp nat_cmp other one ≡ o → slice_cmp nat_cmp one other ≡ ordering_reverse o
flipped one other o e = nat_list_cmp_total.antisymm one other ∙ ap ordering_reverse e

pub less_of : (o : Ordering) → is_lt o ≡ true → o ≡ Less
less_of Less e = refl
less_of Equal e = let x : false ≡ true = e in cc
less_of Greater e = let x : false ≡ true = e in cc

-- ---- where a name goes

-- the names before a place are before it, and that of the place is behind it
pub put_at : (fs : List Field) (place : ℕ) (name : List ℕ) → place ≤ length fs
    → ((k : ℕ) (d : Field) → k < place → slice_cmp nat_cmp (get_or fs k d).0 name ≡ Less)
    → ((d : Field) → place < length fs → slice_cmp nat_cmp (get_or fs place d).0 name ≡ Greater)
    → (g : Given) → put_given name g fs ≡ insert fs place (name, g)
put_at [] zero name within low high g = refl
put_at [] (suc place) name within low high g = absurd (omega arith)
put_at (f ∷ fs) zero name within low high g =
    ap (λ (o : Ordering). match_ordering o ((name, g) ∷ f ∷ fs) ((f.0, g) ∷ fs) (f ∷ put_given name g fs)) (flipped name f.0 Greater (high f (omega arith)))
put_at (f ∷ fs) (suc place) name within low high g =
    ap (λ (o : Ordering). match_ordering o ((name, g) ∷ f ∷ fs) ((f.0, g) ∷ fs) (f ∷ put_given name g fs)) (flipped name f.0 Less (low zero f (omega arith)))
    ∙ ap (λ (rest : List Field). f ∷ rest)
    (put_at fs place name (omega arith) (λ k d lt. low (suc k) d (omega arith)) (λ d lt. high d (omega arith)) g)

-- behind the last all are before it
pub all_before : (fs : List Field) (name : List ℕ) (last : Field) → IsRising fs → 0 < length fs → ((d : Field) → last ≡ get_or fs (length fs - 1) d)
    → slice_cmp nat_cmp last.0 name ≡ Less → AllWithin (λ (f : Field). slice_cmp nat_cmp f.0 name ≡ Less) fs 0 (length fs)
all_before fs name last rising some is less k d low lt = elim (cases_lt k (length fs - 1)) [
  | inl before ↦ nat_list_cmp_total.trans (get_or fs k d).0 last.0 name
      (ap (λ (f : Field). name_cmp (get_or fs k d) f) (is d) ∙ Less-from_sorted name_cmp fs k (length fs - 1) d rising before (omega arith)) less
  | inr from ↦
      let e : k ≡ length fs - 1 = omega arith in
      ap (λ (i : ℕ). slice_cmp nat_cmp (get_or fs i d).0 name) e ∙ ap (λ (f : Field). slice_cmp nat_cmp f.0 name) (sym (is d)) ∙ less
]

in_order : (fs : List Field) → IsRising fs → IsSortedBy (λ (a b : Field). is_lt (slice_cmp nat_cmp a.0 b.0)) fs
in_order fs rising k d low lt =
    ap is_lt (flipped (get_or fs (k + 1) d).0 (get_or fs k d).0 Less (Less-from_sorted name_cmp fs k (k + 1) d rising (omega arith) lt))

-- a search among names that rise
pub parted : (fs : List Field) (name : List ℕ) → IsRising fs → IsNonDecreasingBy (λ (f : Field). ordering_index (slice_cmp nat_cmp f.0 name)) fs
parted fs name rising = searchable_from_sorted nat_list_cmp_total (λ (f : Field). f.0) fs name (in_order fs rising)

-- ---- the names still rise

all_behind : (name : List ℕ) (f : Field) (fs : List Field) → slice_cmp nat_cmp name f.0 ≡ Less → AllByRecursion (λ y. name_cmp f y ≡ Less) fs
    → AllByRecursion (λ (y : Field). slice_cmp nat_cmp name y.0 ≡ Less) fs
all_behind name f [] less above = tt
all_behind name f (h ∷ hs) less above = (nat_list_cmp_total.trans name f.0 h.0 less above.0, all_behind name f hs less above.1)

-- at each case of the order of two names
all_by : (o : Ordering) (f h : Field) (hs now : List Field) (name : List ℕ) (g : Given) → slice_cmp nat_cmp f.0 name ≡ Less
    → AllByRecursion (λ y. name_cmp f y ≡ Less) (h ∷ hs) → AllByRecursion (λ y. name_cmp f y ≡ Less) now
    → AllByRecursion (λ y. name_cmp f y ≡ Less) (match_ordering o ((name, g) ∷ h ∷ hs) ((h.0, g) ∷ hs) (h ∷ now))
all_by Less f h hs now name g less above later = (less, above)
all_by Equal f h hs now name g less above later = above
all_by Greater f h hs now name g less above later = (above.0, later)

all_put : (f : Field) (fs : List Field) (name : List ℕ) (g : Given) → slice_cmp nat_cmp f.0 name ≡ Less → AllByRecursion (λ y. name_cmp f y ≡ Less) fs
    → AllByRecursion (λ y. name_cmp f y ≡ Less) (put_given name g fs)
all_put f [] name g less above = (less, tt)
all_put f (h ∷ hs) name g less above = all_by (slice_cmp nat_cmp name h.0) f h hs (put_given name g hs) name g less above (all_put f hs name g less above.1)

rises_by : (o : Ordering) (f : Field) (fs : List Field) (name : List ℕ) (g : Given) → slice_cmp nat_cmp name f.0 ≡ o → IsRising (f ∷ fs)
    → IsRising (put_given name g fs) → IsRising (match_ordering o ((name, g) ∷ f ∷ fs) ((f.0, g) ∷ fs) (f ∷ put_given name g fs))
unfolding IsStrictlySortedBy
rises_by Less f fs name g e rising later = ((e, all_behind name f fs e rising.0), rising)
rises_by Equal f fs name g e rising later = rising
rises_by Greater f fs name g e rising later = (all_put f fs name g (flipped f.0 name Greater e) rising.0, later)

pub put_rises : (fs : List Field) (name : List ℕ) (g : Given) → IsRising fs → IsRising (put_given name g fs)
unfolding IsStrictlySortedBy
put_rises [] name g rising = (tt, tt)
put_rises (f ∷ fs) name g rising = rises_by (slice_cmp nat_cmp name f.0) f fs name g refl rising (put_rises fs name g rising.1)

pub none_rise : (fs : List Field) → fs ≡ [] → IsRising fs
unfolding IsStrictlySortedBy
none_rise [] e = tt
none_rise (f ∷ fs) e = cc
