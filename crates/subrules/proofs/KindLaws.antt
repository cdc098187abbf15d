-- The types below a type need no look at which types others extend.
use Rattle.subrules.proofs.Common.{◌≡◌, ◌+◌, ◌||◌, ◌&&◌, not, inl, inr, ℕ, zero, suc, Bool, true, false, cond, List, [], ◌∷◌, ◌++◌, length, Option, Some, None}
use Rattle.subrules.proofs.Common.{is_some, slice_get, option_map, option_and_then, add-one, refl, sym, ap, subst, ◌∙◌, filter, flat_map, list_any, cases_Bool}
use Rattle.subrules.proofs.Common.{false_from_ne_true, false≢true, option_and_then_some, same_Some, none-some, bytes_eq-Decides, place_of_name, WrittenType}
use Rattle.subrules.proofs.Common.{written_type_names, first_names, written_type_named, is_type_of_name, parent_of, is_below, extended_by, has_subtypes}
use Rattle.subrules.proofs.Common.{kinds_of, is_other, is_subtype, option_to_list, list_any-append, with_entry_name, is_among, bytes_eq}
use Rattle.{subrules.{specs.Hierarchy.{ancestors}, proofs.HierarchyLaws.{above_none}}, std.proofs.Math.Bool.{or-false, or-true, or_assoc}}
use Rattle.{std.specs.Cmp.Lexicographic.{nat_list_eq_equiv}, drl_scope.{specs.{EntryPoints.{with_names}, Names.{place_from}}, proofs.NameLemmas.{placed_among}}}

-- ---- a type has the name by which it is found

one_on : (b : Bool) (k : ℕ) (o p : Option ℕ) → o ≡ option_map (λ j. j + 1) p → cond b (Some (k + 1)) o ≡ option_map (λ j. j + 1) (cond b (Some k) p)
one_on true k o p e = refl
one_on false k o p e = e

place_from_next : (k : ℕ) (names : List (List ℕ)) (name : List ℕ) → place_from (k + 1) names name ≡ option_map (λ j. j + 1) (place_from k names name)
unfolding place_from
place_from_next k [] name = refl
place_from_next k (n ∷ names) name = one_on (bytes_eq n name) k (place_from (k + 1 + 1) names name) (place_from (k + 1) names name) (place_from_next (k + 1) names name)

at_next : (t : WrittenType) (types : List WrittenType) (o : Option ℕ) → option_and_then (λ k. slice_get (t ∷ types) k) (option_map (λ j. j + 1) o) ≡ option_and_then (λ k. slice_get types k) o
at_next t types None = refl
at_next t types (Some k) = ap (slice_get (t ∷ types)) (add-one k)

first_or_later : (t : WrittenType) (types : List WrittenType) (name : List ℕ) → written_type_named (t ∷ types) name ≡ cond (bytes_eq t.name name) (Some t) (written_type_named types name)
unfolding place_from
first_or_later t types name = by_name (bytes_eq t.name name)
  where
    by_name : (b : Bool) → option_and_then (λ k. slice_get (t ∷ types) k) (cond b (Some 0) (place_from 1 (written_type_names types) name)) ≡ cond b (Some t) (written_type_named types name)
    by_name true = refl
    by_name false =
        ap (option_and_then (λ k. slice_get (t ∷ types) k)) (place_from_next 0 (written_type_names types) name) ∙ at_next t types (place_of_name (written_type_names types) name)

named_first : (s t : WrittenType) (name : List ℕ) (b : Bool) (later : Option WrittenType) → bytes_eq s.name name ≡ b → (later ≡ Some t → t.name ≡ name) → cond b (Some s) later ≡ Some t → t.name ≡ name
named_first s t name true later is further e = ap (λ (x : WrittenType). x.name) (sym (same_Some s t e)) ∙ (bytes_eq-Decides s.name name).0 is
named_first s t name false later is further e = further e

pub name_is : (types : List WrittenType) (name : List ℕ) (t : WrittenType) → written_type_named types name ≡ Some t → t.name ≡ name
unfolding place_from
name_is [] name t e = absurd (none-some t e)
name_is (s ∷ types) name t e =
    named_first s t name (bytes_eq s.name name) (written_type_named types name) refl (λ later. name_is types name t later) (sym (first_or_later s types name) ∙ e)

by_its_name : (types : List WrittenType) (name : List ℕ) (t : WrittenType) → written_type_named types name ≡ Some t → written_type_named types t.name ≡ Some t
by_its_name types name t e = subst (λ n. written_type_named types n ≡ Some t) (sym (name_is types name t e)) e

-- ---- its name is among the names that stand once

with_one : (known : List (List ℕ)) (n p : List ℕ) → is_among (with_entry_name known n) p ≡ (is_among known p || bytes_eq p n)
with_one known n p = by_known (is_among known n) refl
  where
    by_known : (b : Bool) → is_among known n ≡ b → is_among (cond b known (known ++ n ∷ [])) p ≡ (is_among known p || bytes_eq p n)
    by_known true is = elim (cases_Bool (bytes_eq p n)) [
      | inl same ↦ let there = subst (λ q. is_among known q ≡ true) (sym ((bytes_eq-Decides p n).0 same)) is in there ∙ sym (ap (λ b. b || bytes_eq p n) there)
      | inr other ↦ sym (ap (λ b. is_among known p || b) other ∙ or-false (is_among known p))
    ]
    by_known false is = list_any-append (bytes_eq p) known (n ∷ []) ∙ ap (λ b. is_among known p || b) (or-false (bytes_eq p n))

with_all : (known names : List (List ℕ)) (p : List ℕ) → is_among (with_names known names) p ≡ (is_among known p || is_among names p)
unfolding with_names
with_all known [] p = sym (or-false (is_among known p))
with_all known (n ∷ names) p =
    with_all (with_entry_name known n) names p ∙ ap (λ b. b || is_among names p) (with_one known n p) ∙ or_assoc (is_among known p) (bytes_eq p n) (is_among names p)

among_first : (types : List WrittenType) (name : List ℕ) (t : WrittenType) → written_type_named types name ≡ Some t → is_among (first_names types) name ≡ true
among_first types name t e =
    with_all [] (written_type_names types) name ∙ option_and_then_some (λ k. slice_get types k) (place_of_name (written_type_names types) name) t e
    (λ k at here. sym (placed_among 0 (written_type_names types) name) ∙ ap is_some at)

-- ---- a type that stands above another is extended

among_flat : (f : List ℕ → List (List ℕ)) (names : List (List ℕ)) (n q : List ℕ) → is_among names n ≡ true → f n ≡ q ∷ [] → is_among (flat_map f names) q ≡ true
among_flat f [] n q h e = absurd cc
among_flat f (m ∷ names) n q h e =
    list_any-append (bytes_eq q) (f m) (flat_map f names) ∙ by_first (bytes_eq n m) refl h (λ later. among_flat f names n q later e)
  where
    by_first : (b : Bool) → bytes_eq n m ≡ b → (b || is_among names n) ≡ true → (is_among names n ≡ true → is_among (flat_map f names) q ≡ true)
        → (is_among (f m) q || is_among (flat_map f names) q) ≡ true
    by_first true is h later =
        ap (λ xs. is_among xs q || is_among (flat_map f names) q) (ap f (sym ((bytes_eq-Decides n m).0 is)) ∙ e)
        ∙ ap (λ b. (b || false) || is_among (flat_map f names) q) ((bytes_eq-Decides q q).1 refl)
    by_first false is h later = ap (λ b. is_among (f m) q || b) (later h) ∙ or-true (is_among (f m) q)

next_extended : (types : List WrittenType) (name : List ℕ) (t u : WrittenType) → written_type_named types t.name ≡ Some t → parent_of types t ≡ Some u → u.name ≡ name
    → bytes_eq t.name name ≡ false → has_subtypes types name ≡ true
next_extended types name t u first up same apart =
    option_and_then_some (written_type_named types) t.parent u up (λ q given named.
    let other : q ≡ name = sym (name_is types q u named) ∙ same in
    among_flat (extended_by types) (first_names types) t.name name (among_first types t.name t first)
    (ap (λ o. filter (is_other t.name) (option_to_list (option_and_then (λ (x : WrittenType). x.parent) o))) first
    ∙ ap (λ o. filter (is_other t.name) (option_to_list o)) given ∙ ap (λ n. filter (is_other t.name) (n ∷ [])) other
    ∙ ap (λ b. cond (not b) (name ∷ []) []) (nat_list_eq_equiv.symm name t.name ∙ apart)))

parent_first : (types : List WrittenType) (t u : WrittenType) → parent_of types t ≡ Some u → written_type_named types u.name ≡ Some u
parent_first types t u up = option_and_then_some (written_type_named types) t.parent u up (λ q given named. by_its_name types q u named)

extended_above : (types : List WrittenType) (name : List ℕ) (n : ℕ) (t : WrittenType) (o : Option WrittenType) → parent_of types t ≡ o → written_type_named types t.name ≡ Some t
    → bytes_eq t.name name ≡ false → list_any (is_type_of_name name) (ancestors types n o) ≡ true → has_subtypes types name ≡ true
unfolding ancestors
extended_above types name zero t None up first apart is = absurd cc
extended_above types name (suc n) t None up first apart is = absurd cc
extended_above types name zero t (Some u) up first apart is = absurd cc
extended_above types name (suc n) t (Some u) up first apart is =
    by_first (is_type_of_name name u) refl is (λ other later. extended_above types name n u (parent_of types u) refl (parent_first types t u up) other later)
  where
    by_first : (b : Bool) → is_type_of_name name u ≡ b → (b || list_any (is_type_of_name name) (ancestors types n (parent_of types u))) ≡ true
        → (is_type_of_name name u ≡ false → list_any (is_type_of_name name) (ancestors types n (parent_of types u)) ≡ true → has_subtypes types name ≡ true)
        → has_subtypes types name ≡ true
    by_first true this is later = next_extended types name t u first up ((bytes_eq-Decides u.name name).0 this) apart
    by_first false this is later = later this is

named_extended : (types : List WrittenType) (name other : List ℕ) (o : Option WrittenType) → written_type_named types other ≡ o → bytes_eq other name ≡ false
    → list_any (is_type_of_name name) (ancestors types (length types) (option_and_then (parent_of types) o)) ≡ true → has_subtypes types name ≡ true
named_extended types name other None e apart is =
    let none = ap (list_any (is_type_of_name name)) (above_none types (length types)) in absurd (false≢true (sym none ∙ is))
named_extended types name other (Some t) e apart is =
    extended_above types name (length types) t (parent_of types t) refl (by_its_name types other t e) (ap (λ n. bytes_eq n name) (name_is types other t e) ∙ apart) is

subtype_extended : (types : List WrittenType) (name other : List ℕ) → is_subtype types name other ≡ true → has_subtypes types name ≡ true
subtype_extended types name other is = by_name (bytes_eq other name) refl is
  where
    by_name : (b : Bool) → bytes_eq other name ≡ b → (not b && is_below types name other) ≡ true → has_subtypes types name ≡ true
    by_name true same is = absurd cc
    by_name false apart is = named_extended types name other (written_type_named types other) refl apart is

-- ---- the names of a type and of those below it

none_left : (p : List ℕ → Bool) (names : List (List ℕ)) → ((name : List ℕ) → p name ≡ false) → filter p names ≡ []
none_left p [] h = refl
none_left p (name ∷ names) h = ap (λ b. cond b (name ∷ filter p names) (filter p names)) (h name) ∙ none_left p names h

pub kinds_are : (types : List WrittenType) (name : List ℕ) → kinds_of types name ≡ name ∷ filter (is_subtype types name) (first_names types)
kinds_are types name = ap (λ names. name ∷ names) (by_extended (has_subtypes types name) refl)
  where
    by_extended : (b : Bool) → has_subtypes types name ≡ b → cond b (filter (is_subtype types name) (first_names types)) [] ≡ filter (is_subtype types name) (first_names types)
    by_extended true is = refl
    by_extended false is =
        sym (none_left (is_subtype types name) (first_names types) (λ other.
        false_from_ne_true (is_subtype types name other) (λ below. false≢true (sym is ∙ subtype_extended types name other below))))
