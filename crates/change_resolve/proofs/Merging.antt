-- Members whose names rise, beside the fields of a type.
use Rattle.change_resolve.proofs.Common.{◌≡◌, ◌∙◌, sym, ap, ap₂, refl, subst, ℕ, zero, suc, ◌+◌, ◌<◌, ◌≤◌, List, [], ◌∷◌, ◌++◌, length, get_or, set, map, arith}
use Rattle.change_resolve.proofs.Common.{◌⊎◌, nat_lt, append_assoc, Bool, true, false, cond, ◌&&◌, ◌||◌, Option, Some, None, is_some, inl, inr, take, drop}
use Rattle.change_resolve.proofs.Common.{option_map, Err, option_and_then, FactId, Value, BadFields, Kind, set_for, is_field, are_given, are_declared}
use Rattle.change_resolve.proofs.Common.{are_fields, are_some_fields, get_or-map, length-take-le, take_all, take_more, bytes_decides, slice_cmp}
use Rattle.change_resolve.proofs.Common.{IsAllAdjacentAnswer, list_all, nat_cmp, is_lt, is_eq, ordering_index, bytes_eq, Given, fields_step, sets_step}
use Rattle.change_resolve.{proofs.Common.{name_cmp, IsRising, earlier_of, fields_of}, specs.Fields.{given_under, field_named, sets_given}}
use Rattle.std.proofs.{Math.{Nat.{eq-or-lt_of_le}, Bool.{and-false, and-true}}, lemmas.{Bool.{cases_lt}, Cmp.{nat_list_eq_equiv}, Map.Keys.{Less-from_sorted}}}
use Rattle.std.{proofs.lemmas.Map.{Keys.{sorted_from_all_adjacent}, Text.{is_eq-slice_cmp}}, specs.List.Sorted.{IsStrictlySortedBy, IsNonDecreasingBy}}
use Rattle.{std.specs.{List.Sorted.{IsPartitionPoint}, declared.cmp.Ordering.TheVariants.{Less, Equal, Greater}}, fx_base.proofs.Sequences.{drop_at, drop_past}}
use Rattle.script_read.{specs.declared.given.Given.TheVariants.{Other}, proofs.Rising.{names_total, less_of, parted as in_parts}}

abbrev pub Member : Type 0
Member = List ℕ × Given

abbrev pub Field : Type 0
Field = List ℕ × Kind

-- ---- the order of names

-- members of which each is before the next rise
pub rising_by : (ms : List Member) (r : Bool) → IsAllAdjacentAnswer (λ x y b. b ≡ is_lt (name_cmp x y)) ms r → r ≡ true → IsRising ms
unfolding IsStrictlySortedBy
rising_by [] r answer e = tt
rising_by (m ∷ ms) true answer e =
    sorted_from_all_adjacent names_total (m ∷ ms) m (λ k lt. less_of (name_cmp (get_or (m ∷ ms) k m) (get_or (m ∷ ms) (k + 1) m)) (sym (answer k m lt)))
rising_by (m ∷ ms) false answer e = cc

-- a name differs from those before it
behind : (ms : List Member) (i j : ℕ) (d : Member) → IsRising ms → i < j → j < length ms → bytes_eq (get_or ms i d).0 (get_or ms j d).0 ≡ false
behind ms i j d rising lt inside =
    sym (is_eq-slice_cmp (get_or ms i d).0 (get_or ms j d).0) ∙ ap is_eq (Less-from_sorted name_cmp ms i j d rising lt inside)

-- and from all others
apart : (ms : List Member) (i j : ℕ) (d : Member) → IsRising ms → i < length ms → j < length ms → (j ≡ i → ⊥) → bytes_eq (get_or ms i d).0 (get_or ms j d).0 ≡ false
apart ms i j d rising in_i in_j differ = elim (cases_lt i j) [
  | inl lt ↦ behind ms i j d rising lt in_j
  | inr le ↦ elim (eq-or-lt_of_le le) [
    | inl e ↦ absurd (differ e)
    | inr lt ↦ nat_list_eq_equiv.symm (get_or ms i d).0 (get_or ms j d).0 ∙ behind ms j i d rising lt in_i
  ]
]

-- names that compare as equal
pub equal_is : (one other : List ℕ) → slice_cmp nat_cmp one other ≡ Equal → one ≡ other
equal_is one other e = (bytes_decides one other).0 (sym (is_eq-slice_cmp one other) ∙ ap is_eq e)

-- ---- what is given under a name

-- by the first member that has it
first_given : (ms : List Member) (i : ℕ) (d : Member) (name : List ℕ) → i < length ms → bytes_eq (get_or ms i d).0 name ≡ true
    → ((k : ℕ) → k < i → bytes_eq (get_or ms k d).0 name ≡ false) → given_under name ms ≡ Some (get_or ms i d).1
unfolding given_under
first_given [] i d name inside is others = absurd (omega arith)
first_given (m ∷ ms) zero d name inside is others = ap (λ (b : Bool). cond b (Some m.1) (given_under name ms)) is
first_given (m ∷ ms) (suc i) d name inside is others =
    ap (λ (b : Bool). cond b (Some m.1) (given_under name ms)) (others zero (omega arith))
    ∙ first_given ms i d name (omega arith) is (λ k lt. others (suc k) (omega arith))

-- by the member of a place
pub given_at : (ms : List Member) (i : ℕ) (d : Member) (name : List ℕ) → IsRising ms → i < length ms → (get_or ms i d).0 ≡ name
    → given_under name ms ≡ Some (get_or ms i d).1
given_at ms i d name rising inside is =
    first_given ms i d name inside (subst (λ (n : List ℕ). bytes_eq (get_or ms i d).0 n ≡ true) is (nat_list_eq_equiv.refl (get_or ms i d).0))
    (λ k lt. subst (λ (n : List ℕ). bytes_eq (get_or ms k d).0 n ≡ false) is (behind ms k i d rising lt inside))

none_given : (ms : List Member) (name : List ℕ) → ((k : ℕ) (d : Member) → k < length ms → bytes_eq (get_or ms k d).0 name ≡ false) → given_under name ms ≡ None
unfolding given_under
none_given [] name h = refl
none_given (m ∷ ms) name h =
    ap (λ (b : Bool). cond b (Some m.1) (given_under name ms)) (h zero m (omega arith)) ∙ none_given ms name (λ k d lt. h (suc k) d (omega arith))

-- at each side of the place where a search ends
differs : (ms : List Member) (name : List ℕ) (i : ℕ)
    → IsPartitionPoint (λ (m : Member). slice_cmp nat_cmp m.0 name ≡ Less) (λ (m : Member). slice_cmp nat_cmp m.0 name ≡ Greater) ms i
    → (k : ℕ) (d : Member) → k < length ms → (k < i) ⊎ (i ≤ k) → bytes_eq (get_or ms k d).0 name ≡ false
differs ms name i parts k d lt (inl low) = sym (is_eq-slice_cmp (get_or ms k d).0 name) ∙ ap is_eq (parts.0 k d (omega arith) low)
differs ms name i parts k d lt (inr high) = sym (is_eq-slice_cmp (get_or ms k d).0 name) ∙ ap is_eq (parts.1 k d high lt)

-- nothing, where a search finds no member
pub none_found : (ms : List Member) (name : List ℕ) (i : ℕ) → IsRising ms
    → (IsNonDecreasingBy (λ (m : Member). ordering_index (slice_cmp nat_cmp m.0 name)) ms
    → IsPartitionPoint (λ (m : Member). slice_cmp nat_cmp m.0 name ≡ Less) (λ (m : Member). slice_cmp nat_cmp m.0 name ≡ Greater) ms i)
    → given_under name ms ≡ None
none_found ms name i rising parted = none_given ms name (λ k d lt. differs ms name i (parted (in_parts ms name rising)) k d lt (cases_lt k i))

-- ---- the fields of members, with one field more

named_other : (name : List ℕ) (fs : List Field) (f : Field) (p : ℕ) → bytes_eq f.0 name ≡ false → field_named name (fs ++ f ∷ []) p ≡ field_named name fs p
unfolding field_named
named_other name [] f p e = ap (λ (b : Bool). cond b (Some (p, f.1)) None) e
named_other name (g ∷ fs) f p e = ap (λ (rest : Option (ℕ × Kind)). cond (bytes_eq g.0 name) (Some (p, g.1)) rest) (named_other name fs f (p + 1) e)

-- at each case of the test of the first name
first_by : (b : Bool) (own field : ℕ × Kind) (rest more : Option (ℕ × Kind)) → more ≡ earlier_of rest field
    → cond b (Some own) more ≡ earlier_of (cond b (Some own) rest) field
first_by true own field rest more e = refl
first_by false own field rest more e = e

named_this : (name : List ℕ) (fs : List Field) (f : Field) (p n : ℕ) → n ≡ p + length fs → bytes_eq f.0 name ≡ true
    → field_named name (fs ++ f ∷ []) p ≡ earlier_of (field_named name fs p) (n, f.1)
unfolding field_named
named_this name [] f p n at e =
    let same : p ≡ n = omega arith in
    ap (λ (b : Bool). cond b (Some (p, f.1)) None) e ∙ ap (λ (m : ℕ). Some (m, f.1)) same
named_this name (g ∷ fs) f p n at e =
    first_by (bytes_eq g.0 name) (p, g.1) (n, f.1) (field_named name fs (p + 1)) (field_named name (fs ++ f ∷ []) (p + 1))
    (named_this name fs f (p + 1) n (omega arith) e)

map_same : {B : Type 0} (p q : Member → B) (ms : List Member) (d : Member) → ((k : ℕ) → k < length ms → p (get_or ms k d) ≡ q (get_or ms k d)) → map p ms ≡ map q ms
map_same p q [] d h = refl
map_same p q (m ∷ ms) d h = ap₂ (λ x xs. x ∷ xs) (h zero (omega arith)) (map_same p q ms d (λ k lt. h (suc k) (omega arith)))

-- a map in which one value is replaced
set_map : {B : Type 0} (p q : Member → B) (v : B) (ms : List Member) (i : ℕ) (d : Member) → i < length ms → v ≡ q (get_or ms i d)
    → ((k : ℕ) → k < length ms → (k ≡ i → ⊥) → p (get_or ms k d) ≡ q (get_or ms k d)) → set (map p ms) i v ≡ map q ms
set_map p q v [] i d inside is same = absurd (omega arith)
set_map p q v (m ∷ ms) zero d inside is same =
    ap₂ (λ x xs. x ∷ xs) is (map_same p q ms d (λ k lt. same (suc k) (omega arith) (λ e. omega arith)))
set_map p q v (m ∷ ms) (suc i) d inside is same =
    ap₂ (λ x xs. x ∷ xs) (same zero (omega arith) (λ e. omega arith))
    (set_map p q v ms i d (omega arith) is (λ k lt differ. same (suc k) (omega arith) (λ e. differ (omega arith))))

-- with a field whose name the member of a place has
pub fields_noted : (ms : List Member) (i : ℕ) (d : Member) (fs : List Field) (f : Field) (n : ℕ) → IsRising ms → i < length ms → (get_or ms i d).0 ≡ f.0
    → n ≡ length fs → set (fields_of fs ms) i (earlier_of (get_or (fields_of fs ms) i None) (n, f.1)) ≡ fields_of (fs ++ f ∷ []) ms
fields_noted ms i d fs f n rising inside is at =
    set_map (λ (m : Member). field_named m.0 fs 0) (λ (m : Member). field_named m.0 (fs ++ f ∷ []) 0) (earlier_of (get_or (fields_of fs ms) i None) (n, f.1)) ms i d inside
    (ap (λ (o : Option (ℕ × Kind)). earlier_of o (n, f.1)) (get_or-map (λ (m : Member). field_named m.0 fs 0) ms i d None inside)
    ∙ sym (named_this (get_or ms i d).0 fs f 0 n (omega arith) (subst (λ (l : List ℕ). bytes_eq f.0 l ≡ true) (sym is) (nat_list_eq_equiv.refl f.0))))
    (λ k lt differ. sym (named_other (get_or ms k d).0 fs f 0 (subst (λ (l : List ℕ). bytes_eq l (get_or ms k d).0 ≡ false) is (apart ms i k d rising inside lt differ))))

-- at each case of the test of the first name
none_first : (b : Bool) (m : Member) (rest : Option Given) → cond b (Some m.1) rest ≡ None → (b ≡ false) × (rest ≡ None)
none_first true m rest e = cc
none_first false m rest e = (refl, e)

-- with a field whose name no member has
pub fields_same : (ms : List Member) (fs : List Field) (f : Field) → given_under f.0 ms ≡ None → fields_of fs ms ≡ fields_of (fs ++ f ∷ []) ms
unfolding given_under
fields_same [] fs f e = refl
fields_same (m ∷ ms) fs f e =
    let none = none_first (bytes_eq m.0 f.0) m (given_under f.0 ms) e in
    ap₂ (λ x xs. x ∷ xs) (sym (named_other m.0 fs f 0 (nat_list_eq_equiv.symm f.0 m.0 ∙ none.0))) (fields_same ms fs f none.1)

-- ---- whether each member has a field

is_by : (b rest : Bool) (own : ℕ × Kind) (found : Option (ℕ × Kind)) → is_some found ≡ rest → is_some (cond b (Some own) found) ≡ (b || rest)
is_by true rest own found e = refl
is_by false rest own found e = e

named_is : (name : List ℕ) (fs : List Field) (p : ℕ) → is_some (field_named name fs p) ≡ is_field fs name
unfolding field_named
named_is name [] p = refl
named_is name (f ∷ fs) p = is_by (bytes_eq f.0 name) (is_field fs name) (p, f.1) (field_named name fs (p + 1)) (named_is name fs (p + 1))

pub named_declared : (fs : List Field) (ms : List Member) → list_all is_some (fields_of fs ms) ≡ are_declared fs ms
named_declared fs [] = refl
named_declared fs (m ∷ ms) = ap₂ (λ a b. a && b) (named_is m.0 fs 0) (named_declared fs ms)

-- ---- one field after another

-- the fields of members, and whether each field has a member, as far as the fields before a place say
pub record AreSoFar (fs : List Field) (ms : List Member) (k : ℕ) (named : List (Option (ℕ × Kind))) (all : Bool) : Type 0 where
  pub fields : named ≡ fields_of (take k fs) ms
  pub given : (all && are_given (drop k fs) ms) ≡ are_given fs ms

module _ (fs : List Field) (ms : List Member) (k : ℕ) (f : Field) (lt : k < length fs) (at : f ≡ get_or fs k f) where
  more : take k fs ++ f ∷ [] ≡ take (k + 1) fs
  more = ap (λ (x : Field). take k fs ++ x ∷ []) at ∙ sym (take_more fs k f lt)

  given_here : (all : Bool) → (all && are_given (drop k fs) ms) ≡ (all && (is_some (given_under f.0 ms) && are_given (drop (k + 1) fs) ms))
  given_here all = ap (λ (rest : List Field). all && are_given rest ms) (drop_at fs k f lt at)

  -- with a field that no member names
  pub with_missing : (named : List (Option (ℕ × Kind))) (all : Bool) → given_under f.0 ms ≡ None → AreSoFar fs ms k named all → AreSoFar fs ms (k + 1) named false
  with_missing named all none so_far = record {
    fields = so_far.fields ∙ fields_same ms (take k fs) f none ∙ ap (λ (front : List Field). fields_of front ms) more;
    given =
        sym (and-false all) ∙ sym (ap (λ (o : Option Given). all && (is_some o && are_given (drop (k + 1) fs) ms)) none)
        ∙ sym (given_here all) ∙ so_far.given;
  }

  -- with the field of a member
  pub with_found : (named now : List (Option (ℕ × Kind))) (all : Bool) (i : ℕ) → IsRising ms → i < length ms → ((d : Member) → (get_or ms i d).0 ≡ f.0)
      → now ≡ set named i (earlier_of (get_or named i None) (k, f.1)) → AreSoFar fs ms k named all → AreSoFar fs ms (k + 1) now all
  with_found named now all i rising inside is noted so_far = record {
    fields =
        noted ∙ ap (λ (xs : List (Option (ℕ × Kind))). set xs i (earlier_of (get_or xs i None) (k, f.1))) so_far.fields
        ∙ fields_noted ms i (f.0, Other) (take k fs) f k rising inside (is (f.0, Other)) (sym (length-take-le k fs (omega arith)))
        ∙ ap (λ (front : List Field). fields_of front ms) more;
    given =
        sym (given_here all ∙ ap (λ (o : Option Given). all && (is_some o && are_given (drop (k + 1) fs) ms)) (given_at ms i (f.0, Other) f.0 rising inside (is (f.0, Other))))
        ∙ so_far.given;
  }

-- behind the last field
pub all_so_far : (fs : List Field) (ms : List Member) (k : ℕ) (named : List (Option (ℕ × Kind))) (all : Bool) → length fs ≤ k → AreSoFar fs ms k named all
    → (named ≡ fields_of fs ms) × (all ≡ are_given fs ms)
all_so_far fs ms k named all past so_far = (
  so_far.fields ∙ ap (λ (front : List Field). fields_of front ms) (take_all k fs past),
  sym (and-true all) ∙ sym (ap (λ (rest : List Field). all && are_given rest ms) (drop_past fs k past)) ∙ so_far.given,
)

pub none_so_far : (fs : List Field) (ms : List Member) (named : List (Option (ℕ × Kind))) → named ≡ fields_of [] ms → AreSoFar fs ms 0 named true
none_so_far fs ms named e = record { fields = e; given = refl }

-- ---- where nothing is named

-- one member more
pub none_more : (ms : List Member) (xs : List (Option (ℕ × Kind))) → length xs < length ms → xs ≡ fields_of [] (take (length xs) ms)
    → xs ++ None ∷ [] ≡ fields_of [] (take (length (xs ++ None ∷ [])) ms)
unfolding field_named
none_more [] xs lt e = absurd (omega arith)
none_more (m ∷ ms) [] lt e = refl
none_more (m ∷ ms) (x ∷ xs) lt e =
    let first : x ≡ None = cc in
    let rest : xs ≡ fields_of [] (take (length xs) ms) = cc in
    ap₂ (λ y ys. y ∷ ys) first (none_more ms xs (omega arith) rest)

-- ---- what the fields of members decide

pub are_whole : (fs : List Field) (ms : List Member) (named : List (Option (ℕ × Kind))) (all : Bool) → named ≡ fields_of fs ms → all ≡ are_given fs ms
    → (all && list_all is_some named) ≡ are_fields fs ms
are_whole fs ms named all is given = ap₂ (λ a b. a && b) given (ap (list_all is_some) is ∙ named_declared fs ms)

pub are_part : (fs : List Field) (ms : List Member) (named : List (Option (ℕ × Kind))) → named ≡ fields_of fs ms
    → (nat_lt 0 (length ms) && list_all is_some named) ≡ are_some_fields fs ms
are_part fs ms named is = ap (λ (b : Bool). nat_lt 0 (length ms) && b) (ap (list_all is_some) is ∙ named_declared fs ms)

pub no_fields : (id : FactId) (fs : List Field) (ms : List Member) → are_some_fields fs ms ≡ false → Err BadFields ≡ fields_step id fs ms
no_fields id fs ms e = sym (ap (λ (b : Bool). cond b (sets_step id (sets_given fs ms)) (Err BadFields)) e)

pub some_fields : (id : FactId) (fs : List Field) (ms : List Member) (sets : Option (List (ℕ × Value))) → are_some_fields fs ms ≡ true → sets ≡ sets_given fs ms
    → sets_step id sets ≡ fields_step id fs ms
some_fields id fs ms sets e is = ap (sets_step id) is ∙ sym (ap (λ (b : Bool). cond b (sets_step id (sets_given fs ms)) (Err BadFields)) e)

-- the sets with one more
set_by : (set : ℕ × Value) (sets : List (ℕ × Value)) (rest : Option (List (ℕ × Value)))
    → option_map (λ (more : List (ℕ × Value)). (sets ++ set ∷ []) ++ more) rest ≡ option_map (λ (more : List (ℕ × Value)). sets ++ more) (option_map (λ (more : List (ℕ × Value)). set ∷ more) rest)
set_by set sets None = refl
set_by set sets (Some more) = ap Some (append_assoc sets (set ∷ []) more)

pub one_set : (fs : List Field) (ms : List Member) (named : List (Option (ℕ × Kind))) (k : ℕ) (m : Member) (sets now : List (ℕ × Value)) (set : ℕ × Value) (all : Option (List (ℕ × Value)))
    → k < length ms → m ≡ get_or ms k m → named ≡ fields_of fs ms → Some set ≡ set_for (get_or named k None) m.1 → now ≡ sets ++ set ∷ []
    → option_map (λ (more : List (ℕ × Value)). sets ++ more) (sets_given fs (drop k ms)) ≡ all
    → option_map (λ (more : List (ℕ × Value)). now ++ more) (sets_given fs (drop (k + 1) ms)) ≡ all
unfolding sets_given
one_set fs ms named k m sets now set all lt at is gives push before =
    let field : get_or named k None ≡ field_named m.0 fs 0 =
    ap (λ (xs : List (Option (ℕ × Kind))). get_or xs k None) is ∙ get_or-map (λ (x : Member). field_named x.0 fs 0) ms k m None lt ∙ sym (ap (λ (x : Member). field_named x.0 fs 0) at) in
    let own : set_for (field_named m.0 fs 0) m.1 ≡ Some set = sym (gives ∙ ap (λ (f : Option (ℕ × Kind)). set_for f m.1) field) in
    ap (λ (xs : List (ℕ × Value)). option_map (λ (more : List (ℕ × Value)). xs ++ more) (sets_given fs (drop (k + 1) ms))) push
    ∙ set_by set sets (sets_given fs (drop (k + 1) ms))
    ∙ sym (ap (λ (s : Option (ℕ × Value)). option_map (λ (more : List (ℕ × Value)). sets ++ more) (option_and_then (λ t. option_map (λ more. t ∷ more) (sets_given fs (drop (k + 1) ms))) s)) own)
    ∙ sym (ap (λ (rest : List Member). option_map (λ (more : List (ℕ × Value)). sets ++ more) (sets_given fs rest)) (drop_at ms k m lt at))
    ∙ before
