-- The difference of a window that is whole is the change.
use Rattle.window_gate.proofs.Common.{◌≡◌, ◌∙◌, sym, ap, refl, subst, ℤ, ◌<◌, arith, length, List, [], ◌∷◌, map, Bool, true, false, not, ◌==◌, ◌&&◌, ◌||◌}
use Rattle.window_gate.proofs.Common.{Result, Ok, Err, IfOk, list_any, eq_by_cmp, list_any-append, name_cmp, IsBetween, Named, Delta, Whole, GateChange, Come}
use Rattle.window_gate.proofs.Common.{Gone, Clock, Arrival, named_of, has_tag, single, after, rows_inside, has_version, TagsDiffer, MayChange, and_not_self}
use Rattle.window_gate.proofs.{Names.{same_name, equal_names, none_with_tag, names-without, only_one}, Singles.{between_names}, Insides.{inside_whole}}
use Rattle.{window_gate.proofs.Insides.{named-filter, named-push}, std.specs.List.Sorted.{IsStrictlySortedBy}}

-- one version is in order, and none
pub one_in_order : (named : Named) → IsStrictlySortedBy name_cmp (named ∷ [])
unfolding IsStrictlySortedBy
one_in_order named = (tt, tt)

pub none_in_order : IsStrictlySortedBy name_cmp []
unfolding IsStrictlySortedBy
none_in_order = tt

-- a list of one or none is
pub short_in_order : (xs : List Named) → length xs < 2 → IsStrictlySortedBy name_cmp xs
short_in_order [] short = none_in_order
short_in_order (x ∷ []) short = one_in_order x
short_in_order (x ∷ y ∷ xs) short = absurd (omega arith)

-- one version is there where it is asked for
pub only_it : (named one : Named) → has_version (one ∷ []) named ≡ same_name named one
only_it named one = or_false (same_name named one)
  where
    or_false : (a : Bool) → (a || false) ≡ a
    or_false true = refl
    or_false false = refl

-- what comes was not there
pub nothing_goes : (h x : Bool) → false ≡ (h && not (h || x))
nothing_goes true x = refl
nothing_goes false x = refl

pub one_comes : (h x : Bool) → (x ≡ true → h ≡ false) → x ≡ ((h || x) && not h)
one_comes true true e = let f : true ≡ false = e refl in cc
one_comes true false e = refl
one_comes false true e = refl
one_comes false false e = refl

-- what goes was there, and is not there after
one_goes : (h t n : Bool) → (h && t) ≡ n → n ≡ (h && not (h && not t))
one_goes true true n e = sym e
one_goes true false n e = sym e
one_goes false t n e = sym e

nothing_comes : (h t : Bool) → false ≡ ((h && not t) && not h)
nothing_comes true true = refl
nothing_comes true false = refl
nothing_comes false t = refl

-- the rows before and after
rows_are : (window_now : ℤ) (arrivals : List Arrival) → map single (map named_of arrivals) ≡ rows_inside Whole window_now arrivals
rows_are now arrivals = ap (λ xs. map single (map named_of xs)) (sym (inside_whole now arrivals))

-- a difference of all versions
pub whole_between : {E : Type 0} (arrivals : List Arrival) (was now : ℤ) (change : GateChange) (gone come : List Named) (r : Result Delta E) → IsStrictlySortedBy name_cmp gone → IsStrictlySortedBy name_cmp come
    → ((named : Named) → has_version gone named ≡ (has_version (map named_of arrivals) named && not (has_version (map named_of (after arrivals change)) named)))
    → ((named : Named) → has_version come named ≡ (has_version (map named_of (after arrivals change)) named && not (has_version (map named_of arrivals) named)))
    → IfOk r (λ delta. delta.gone ≡ map single gone) → IfOk r (λ delta. delta.come ≡ map single come)
    → IfOk r (IsBetween (rows_inside Whole was arrivals) (rows_inside Whole now (after arrivals change)))
whole_between arrivals was now change gone come (Ok delta) gone_sorted come_sorted goes comes is_gone is_come =
    subst (λ rows. IsBetween rows (rows_inside Whole now (after arrivals change)) delta) (rows_are was arrivals)
    (subst (λ rows. IsBetween (map single (map named_of arrivals)) rows delta) (rows_are now (after arrivals change))
    (between_names (map named_of arrivals) (map named_of (after arrivals change)) gone come gone_sorted come_sorted goes comes delta is_gone is_come))
whole_between arrivals was now change gone come (Err e) gone_sorted come_sorted goes comes is_gone is_come = tt

-- a version comes
pub whole_come : {E : Type 0} (arrivals : List Arrival) (was now : ℤ) (named : Named) (start : ℤ) (change : GateChange) (r : Result Delta E) → Come named start ≡ change
    → TagsDiffer (map named_of arrivals) → MayChange Whole (map named_of arrivals) change
    → IfOk r (λ delta. delta.gone ≡ map single []) → IfOk r (λ delta. delta.come ≡ map single (named ∷ []))
    → IfOk r (IsBetween (rows_inside Whole was arrivals) (rows_inside Whole now (after arrivals change)))
whole_come {E} arrivals was now named start change r is differ may is_gone is_come =
    let P : GateChange → Type 0 = λ change. MayChange Whole (map named_of arrivals) change → IfOk r (IsBetween (rows_inside Whole was arrivals) (rows_inside Whole now (after arrivals change))) in
    subst P is (λ fits. whole_between arrivals was now (Come named start) [] (named ∷ []) r none_in_order (one_in_order named)
    (λ other. nothing_goes (has_version (map named_of arrivals) other) (has_version (named ∷ []) other) ∙ ap (λ b. has_version (map named_of arrivals) other && not b) (sym (all other)))
    (λ other. one_comes (has_version (map named_of arrivals) other) (has_version (named ∷ []) other) (λ e. new other (fits.0) (sym (only_it other named) ∙ e)) ∙ ap (λ b. b && not (has_version (map named_of arrivals) other)) (sym (all other)))
    is_gone is_come) may
  where
    all : (other : Named) → has_version (map named_of (after arrivals (Come named start))) other ≡ (has_version (map named_of arrivals) other || has_version (named ∷ []) other)
    all other = ap (λ xs. has_version xs other) (named-push arrivals (record { named = named; start = start })) ∙ list_any-append (eq_by_cmp name_cmp other) (map named_of arrivals) (named ∷ [])

    new : (other : Named) → list_any (has_tag named.tag.0) (map named_of arrivals) ≡ false → same_name other named ≡ true → has_version (map named_of arrivals) other ≡ false
    new other absent e = ap (has_version (map named_of arrivals)) (equal_names other named e) ∙ none_with_tag (map named_of arrivals) named absent

-- a version goes
pub whole_gone : {E : Type 0} (arrivals : List Arrival) (was now : ℤ) (named : Named) (change : GateChange) (r : Result Delta E) → Gone named ≡ change
    → TagsDiffer (map named_of arrivals) → MayChange Whole (map named_of arrivals) change
    → IfOk r (λ delta. delta.gone ≡ map single (named ∷ [])) → IfOk r (λ delta. delta.come ≡ map single [])
    → IfOk r (IsBetween (rows_inside Whole was arrivals) (rows_inside Whole now (after arrivals change)))
whole_gone {E} arrivals was now named change r is differ may is_gone is_come =
    let P : GateChange → Type 0 = λ change. MayChange Whole (map named_of arrivals) change → IfOk r (IsBetween (rows_inside Whole was arrivals) (rows_inside Whole now (after arrivals change))) in
    subst P is (λ there. whole_between arrivals was now (Gone named) (named ∷ []) [] r (one_in_order named) none_in_order
    (λ other. only_it other named ∙ one_goes (has_version (map named_of arrivals) other) (named.tag.0 == other.tag.0) (same_name other named) (only_one (map named_of arrivals) named other differ there)
    ∙ ap (λ b. has_version (map named_of arrivals) other && not b) (sym (left other)))
    (λ other. nothing_comes (has_version (map named_of arrivals) other) (named.tag.0 == other.tag.0) ∙ ap (λ b. b && not (has_version (map named_of arrivals) other)) (sym (left other)))
    is_gone is_come) may
  where
    left : (other : Named) → has_version (map named_of (after arrivals (Gone named))) other ≡ (has_version (map named_of arrivals) other && not (named.tag.0 == other.tag.0))
    left other = ap (λ xs. has_version xs other) (named-filter named.tag.0 arrivals) ∙ names-without named.tag.0 (map named_of arrivals) other

-- the clock moves
pub whole_clock : {E : Type 0} (arrivals : List Arrival) (was now : ℤ) (change : GateChange) (r : Result Delta E) → Clock ≡ change
    → IfOk r (λ delta. delta.gone ≡ map single []) → IfOk r (λ delta. delta.come ≡ map single [])
    → IfOk r (IsBetween (rows_inside Whole was arrivals) (rows_inside Whole now (after arrivals change)))
whole_clock arrivals was now change r is is_gone is_come =
    let P : GateChange → Type 0 = λ change. IfOk r (IsBetween (rows_inside Whole was arrivals) (rows_inside Whole now (after arrivals change))) in
    subst P is (whole_between arrivals was now Clock [] [] r none_in_order none_in_order
    (λ other. and_not_self (has_version (map named_of arrivals) other)) (λ other. and_not_self (has_version (map named_of arrivals) other)) is_gone is_come)
