-- Versions under rising numbers: one put in at an end, one taken out by its number, and the numbers by their tags.
use Rattle.window_gate.proofs.Common.{◌≡◌, ◌∙◌, sym, ap, refl, subst, ℕ, ◌+◌, List, [], ◌∷◌, ◌++◌, filter, length, Bool, true, false, cond, not, ◌==◌, ◌||◌}
use Rattle.window_gate.proofs.Common.{Option, Some, None, arith, append-nil, ◌⊎◌, inl, inr, Less, Greater, insert_entry, is_at, unsigned_tied, list_any}
use Rattle.window_gate.proofs.Common.{AllByRecursion, keys_of, values_of, lookup, remove_entry, option_or, nat_cmp, is_eq, match_ordering, Decides-eqb}
use Rattle.window_gate.proofs.Common.{nat_tests, map-append, Named, has_tag, TagsDiffer, number_of, Numbered, or_first_false, or_second_false}
use Rattle.{window_gate.proofs.Names.{without, apart, differ_left, differ_right}, std.specs.List.Sorted.{IsStrictlySortedBy}}

-- ---- the order of numbers

-- the lesser comes first, seen from the greater
greater : (a b : ℕ) → nat_cmp a b ≡ Less → nat_cmp b a ≡ Greater
greater a b e = grind (arith, nat_tests)

-- and so on
less_less : (a b c : ℕ) → nat_cmp a b ≡ Less → nat_cmp b c ≡ Less → nat_cmp a c ≡ Less
less_less a b c e f = grind (arith, nat_tests)

-- the lesser is another
other_number : (a b : ℕ) → nat_cmp a b ≡ Less → is_eq (nat_cmp b a) ≡ false
other_number a b e = ap is_eq (greater a b e)

-- the next number comes after
pub less_next : (a b : ℕ) → b ≡ a + 1 → nat_cmp a b ≡ Less
less_next a b e = grind (arith, nat_tests)

-- what holds of all of both parts
all_left : (P : ℕ → Type 0) (xs ys : List ℕ) → AllByRecursion P (xs ++ ys) → AllByRecursion P xs
all_left P [] ys all = tt
all_left P (x ∷ xs) ys all = (all.0, all_left P xs ys all.1)

all_right : (P : ℕ → Type 0) (xs ys : List ℕ) → AllByRecursion P (xs ++ ys) → AllByRecursion P ys
all_right P [] ys all = all
all_right P (x ∷ xs) ys all = all_right P xs ys all.1

all_both : (P : ℕ → Type 0) (xs ys : List ℕ) → AllByRecursion P xs → AllByRecursion P ys → AllByRecursion P (xs ++ ys)
all_both P [] ys none all = all
all_both P (x ∷ xs) ys some all = (some.0, all_both P xs ys some.1 all)

-- the parts of rising numbers rise
pub rising_left : (xs ys : List ℕ) → IsStrictlySortedBy nat_cmp (xs ++ ys) → IsStrictlySortedBy nat_cmp xs
unfolding IsStrictlySortedBy
rising_left [] ys s = tt
rising_left (x ∷ xs) ys s = (all_left (λ y. nat_cmp x y ≡ Less) xs ys s.0, rising_left xs ys s.1)

pub rising_right : (xs ys : List ℕ) → IsStrictlySortedBy nat_cmp (xs ++ ys) → IsStrictlySortedBy nat_cmp ys
unfolding IsStrictlySortedBy
rising_right [] ys s = s
rising_right (x ∷ xs) ys s = rising_right xs ys s.1

-- the front is below what follows
all_below : (xs : List ℕ) (y : ℕ) (ys : List ℕ) → IsStrictlySortedBy nat_cmp (xs ++ y ∷ ys) → AllByRecursion (λ x. nat_cmp x y ≡ Less) xs
unfolding IsStrictlySortedBy
all_below [] y ys s = tt
all_below (x ∷ xs) y ys s = ((all_right (λ z. nat_cmp x z ≡ Less) xs (y ∷ ys) s.0).0, all_below xs y ys s.1)

-- the last is below the next
pub rising_next : (xs : List ℕ) (y z : ℕ) → nat_cmp y z ≡ Less → IsStrictlySortedBy nat_cmp (xs ++ y ∷ []) → IsStrictlySortedBy nat_cmp ((xs ++ y ∷ []) ++ z ∷ [])
unfolding IsStrictlySortedBy
rising_next [] y z less s = ((less, tt), (tt, tt))
rising_next (x ∷ xs) y z less s = (
  all_both (λ w. nat_cmp x w ≡ Less) (xs ++ y ∷ []) (z ∷ []) s.0 (less_less x y z (all_right (λ w. nat_cmp x w ≡ Less) xs (y ∷ []) s.0).0 less, tt),
  rising_next xs y z less s.1,
)

-- ---- one put in

put_last : (es : Numbered) (number : ℕ) (named : Named) → AllByRecursion (λ k. nat_cmp k number ≡ Less) (keys_of es) → insert_entry nat_cmp es number named ≡ es ++ (number, named) ∷ []
put_last [] number named below = refl
put_last (e ∷ es) number named below =
    ap (λ o. match_ordering o ((number, named) ∷ e ∷ es) ((e.0, named) ∷ es) (e ∷ insert_entry nat_cmp es number named)) (greater e.0 number below.0)
    ∙ ap (λ xs. e ∷ xs) (put_last es number named below.1)

put_first : (es : Numbered) (number : ℕ) (named : Named) → AllByRecursion (λ k. nat_cmp number k ≡ Less) (keys_of es) → insert_entry nat_cmp es number named ≡ (number, named) ∷ es
put_first [] number named above = refl
put_first (e ∷ es) number named above = ap (λ o. match_ordering o ((number, named) ∷ e ∷ es) ((e.0, named) ∷ es) (e ∷ insert_entry nat_cmp es number named)) above.0

-- the keys of both parts
pub keys-append : (xs ys : Numbered) → keys_of (xs ++ ys) ≡ keys_of xs ++ keys_of ys
keys-append xs ys = map-append (λ (e : ℕ × Named). e.0) xs ys

pub values-append : (xs ys : Numbered) → values_of (xs ++ ys) ≡ values_of xs ++ values_of ys
values-append xs ys = map-append (λ (e : ℕ × Named). e.1) xs ys

-- one put in behind all
pub put_behind : (es : Numbered) (number : ℕ) (named : Named) (rest : List ℕ) → IsStrictlySortedBy nat_cmp (keys_of es ++ number ∷ rest) → insert_entry nat_cmp es number named ≡ es ++ (number, named) ∷ []
put_behind es number named rest rising = put_last es number named (all_below (keys_of es) number rest rising)

-- one put in before all
pub put_before : (es : Numbered) (number : ℕ) (named : Named) → IsStrictlySortedBy nat_cmp (number ∷ keys_of es) → insert_entry nat_cmp es number named ≡ (number, named) ∷ es
unfolding IsStrictlySortedBy
put_before es number named rising = put_first es number named rising.0

-- ---- one taken out by its number

-- the numbered versions of other tags
abbrev pub others : ℕ → Numbered → Numbered
others tag es = filter (λ e. not (has_tag tag e.1)) es

pub values-others : (tag : ℕ) (es : Numbered) → values_of (others tag es) ≡ without tag (values_of es)
values-others tag [] = refl
values-others tag (e ∷ es) =
    values-cond (not (has_tag tag e.1)) e (others tag es) ∙ ap (λ xs. cond (not (has_tag tag e.1)) (e.1 ∷ xs) xs) (values-others tag es)
  where
    values-cond : (b : Bool) (e : ℕ × Named) (es : Numbered) → values_of (cond b (e ∷ es) es) ≡ cond b (e.1 ∷ values_of es) (values_of es)
    values-cond true e es = refl
    values-cond false e es = refl

pub others-append : (tag : ℕ) (xs ys : Numbered) → others tag (xs ++ ys) ≡ others tag xs ++ others tag ys
others-append tag [] ys = refl
others-append tag (e ∷ xs) ys =
    elim (not (has_tag tag e.1)) as (λ b. cond b (e ∷ others tag (xs ++ ys)) (others tag (xs ++ ys)) ≡ cond b (e ∷ others tag xs) (others tag xs) ++ others tag ys) [
      | true ↦ ap (λ es. e ∷ es) (others-append tag xs ys)
      | false ↦ others-append tag xs ys
    ]

pub others-absent : (tag : ℕ) (es : Numbered) → list_any (has_tag tag) (values_of es) ≡ false → others tag es ≡ es
others-absent tag [] absent = refl
others-absent tag (e ∷ es) absent =
    ap (λ b. cond (not b) (e ∷ others tag es) (others tag es)) (or_first_false (has_tag tag e.1) (list_any (has_tag tag) (values_of es)) absent)
    ∙ ap (λ xs. e ∷ xs) (others-absent tag es (or_second_false (has_tag tag e.1) (list_any (has_tag tag) (values_of es)) absent))

-- rising numbers of other tags rise up to the same next one
others_all : (P : ℕ → Type 0) (tag : ℕ) (es : Numbered) (ks : List ℕ) → AllByRecursion P (keys_of es ++ ks) → AllByRecursion P (keys_of (others tag es) ++ ks)
others_all P tag [] ks all = all
others_all P tag (e ∷ es) ks all =
    elim (has_tag tag e.1) as (λ b. AllByRecursion P (keys_of (cond (not b) (e ∷ others tag es) (others tag es)) ++ ks)) [
      | true ↦ others_all P tag es ks all.1
      | false ↦ (all.0, others_all P tag es ks all.1)
    ]

pub others_rise : (tag : ℕ) (es : Numbered) (ks : List ℕ) → IsStrictlySortedBy nat_cmp (keys_of es ++ ks) → IsStrictlySortedBy nat_cmp (keys_of (others tag es) ++ ks)
unfolding IsStrictlySortedBy
others_rise tag [] ks rising = rising
others_rise tag (e ∷ es) ks rising =
    elim (has_tag tag e.1) as (λ b. IsStrictlySortedBy nat_cmp (keys_of (cond (not b) (e ∷ others tag es) (others tag es)) ++ ks)) [
      | true ↦ others_rise tag es ks rising.1
      | false ↦ (others_all (λ y. nat_cmp e.0 y ≡ Less) tag es ks rising.0, others_rise tag es ks rising.1)
    ]

-- behind a number below them
pub head_rise : (number tag : ℕ) (es : Numbered) → IsStrictlySortedBy nat_cmp (number ∷ keys_of es) → IsStrictlySortedBy nat_cmp (number ∷ keys_of (others tag es))
unfolding IsStrictlySortedBy
head_rise number tag es rising =
    subst (λ ks. AllByRecursion (λ y. nat_cmp number y ≡ Less) ks × IsStrictlySortedBy nat_cmp ks) (append-nil (keys_of (others tag es))) (
      others_all (λ y. nat_cmp number y ≡ Less) tag es [] (subst (AllByRecursion (λ y. nat_cmp number y ≡ Less)) (sym (append-nil (keys_of es))) rising.0),
      others_rise tag es [] (subst (IsStrictlySortedBy nat_cmp) (sym (append-nil (keys_of es))) rising.1),
    )

-- ---- the numbers by their tags

pub number_of-append : (tag : ℕ) (xs ys : Numbered) → number_of tag (xs ++ ys) ≡ option_or (number_of tag xs) (number_of tag ys)
number_of-append tag [] ys = refl
number_of-append tag (e ∷ xs) ys =
    elim (has_tag tag e.1) as (λ b. cond b (Some e.0) (number_of tag (xs ++ ys)) ≡ option_or (cond b (Some e.0) (number_of tag xs)) (number_of tag ys)) [
      | true ↦ refl
      | false ↦ number_of-append tag xs ys
    ]

-- a tag without a number is not there, and the other way round
pub none_numbered : (tag : ℕ) (es : Numbered) → number_of tag es ≡ None → list_any (has_tag tag) (values_of es) ≡ false
none_numbered tag [] e = refl
none_numbered tag (x ∷ es) e =
    elim (has_tag tag x.1) as (λ b. cond b (Some x.0) (number_of tag es) ≡ None → (b || list_any (has_tag tag) (values_of es)) ≡ false) [
      | true ↦ λ h. let f : Some x.0 ≡ None = h in absurd (cc)
      | false ↦ λ h. none_numbered tag es h
    ] e

pub not_numbered : (tag : ℕ) (es : Numbered) → list_any (has_tag tag) (values_of es) ≡ false → number_of tag es ≡ None
not_numbered tag [] e = refl
not_numbered tag (x ∷ es) e =
    ap (λ b. cond b (Some x.0) (number_of tag es)) (or_first_false (has_tag tag x.1) (list_any (has_tag tag) (values_of es)) e)
    ∙ not_numbered tag es (or_second_false (has_tag tag x.1) (list_any (has_tag tag) (values_of es)) e)

some_numbered : (tag number : ℕ) (es : Numbered) → number_of tag es ≡ Some number → list_any (has_tag tag) (values_of es) ≡ true
some_numbered tag number [] e = let f : None ≡ Some number = e in absurd (cc)
some_numbered tag number (x ∷ es) e =
    elim (has_tag tag x.1) as (λ b. cond b (Some x.0) (number_of tag es) ≡ Some number → (b || list_any (has_tag tag) (values_of es)) ≡ true) [
      | true ↦ λ h. refl
      | false ↦ λ h. some_numbered tag number es h
    ] e

-- of other tags
pub number_of-others : (tag q : ℕ) (es : Numbered) → number_of q (others tag es) ≡ cond (tag == q) None (number_of q es)
number_of-others tag q [] = either_way (tag == q) None
  where
    either_way : (b : Bool) (o : Option ℕ) → o ≡ cond b o o
    either_way true o = refl
    either_way false o = refl
number_of-others tag q (e ∷ es) =
    elim (has_tag tag e.1) as (λ b. has_tag tag e.1 ≡ b → number_of q (cond (not b) (e ∷ others tag es) (others tag es)) ≡ cond (tag == q) None (cond (has_tag q e.1) (Some e.0) (number_of q es))) [
      | true ↦ λ is. number_of-others tag q es ∙ dropped (tag == q) (has_tag q e.1) e.0 (number_of q es) (λ h. (Decides-eqb tag q).1 ((Decides-eqb tag e.1.tag.0).0 is ∙ sym ((Decides-eqb q e.1.tag.0).0 h)))
      | false ↦ λ is. ap (cond (has_tag q e.1) (Some e.0)) (number_of-others tag q es) ∙ kept (tag == q) (has_tag q e.1) e.0 (number_of q es) (λ t. ap (λ x. has_tag x e.1) (sym ((Decides-eqb tag q).0 t)) ∙ is)
    ] refl
  where
    dropped : (t h : Bool) (k : ℕ) (o : Option ℕ) → (h ≡ true → t ≡ true) → cond t None o ≡ cond t None (cond h (Some k) o)
    dropped true h k o e = refl
    dropped false true k o e = let f : false ≡ true = e refl in absurd (cc)
    dropped false false k o e = refl

    kept : (t h : Bool) (k : ℕ) (o : Option ℕ) → (t ≡ true → h ≡ false) → cond h (Some k) (cond t None o) ≡ cond t None (cond h (Some k) o)
    kept false h k o e = refl
    kept true true k o e = let f : true ≡ false = e refl in absurd (cc)
    kept true false k o e = refl

-- ---- the version under the number of a tag

-- a number that is not there
absent_number : (number : ℕ) (es : Numbered) → AllByRecursion (λ k. is_at (nat_cmp number) k ≡ false) (keys_of es) → (lookup (is_at (nat_cmp number)) es ≡ None) × (remove_entry (is_at (nat_cmp number)) es ≡ es)
absent_number number [] apart = (refl, refl)
absent_number number (e ∷ es) apart =
    let rest = absent_number number es apart.1 in
    (ap (λ b. cond b (Some e.1) (lookup (is_at (nat_cmp number)) es)) apart.0 ∙ rest.0, ap (λ b. cond b es (e ∷ remove_entry (is_at (nat_cmp number)) es)) apart.0 ∙ ap (λ xs. e ∷ xs) rest.1)

-- the number of a tag is one of the numbers
among : (P : ℕ → Type 0) (tag number : ℕ) (es : Numbered) → number_of tag es ≡ Some number → AllByRecursion P (keys_of es) → P number
among P tag number [] e all = let f : None ≡ Some number = e in absurd (cc)
among P tag number (x ∷ es) e all =
    elim (has_tag tag x.1) as (λ b. cond b (Some x.0) (number_of tag es) ≡ Some number → P number) [
      | true ↦ λ h. let same : x.0 ≡ number = cc in subst P same all.0
      | false ↦ λ h. among P tag number es h all.1
    ] e

-- under it stands the version with the tag, and without it the others are left
pub record Found (tag number : ℕ) (es : Numbered) : Type 0 where
  pub named : Named
  pub found : lookup (is_at (nat_cmp number)) es ≡ Some named
  pub tagged : has_tag tag named ≡ true
  pub left : remove_entry (is_at (nat_cmp number)) es ≡ others tag es
  pub fewer : length (remove_entry (is_at (nat_cmp number)) es) + 1 ≡ length es

find_it : (tag number : ℕ) (es : Numbered) → IsStrictlySortedBy nat_cmp (keys_of es) → TagsDiffer (values_of es) → number_of tag es ≡ Some number → Found tag number es
unfolding IsStrictlySortedBy
find_it tag number [] rising differ e = let f : None ≡ Some number = e in absurd (cc)
find_it tag number (x ∷ es) rising differ e =
    elim (has_tag tag x.1) as (λ b. has_tag tag x.1 ≡ b → cond b (Some x.0) (number_of tag es) ≡ Some number → Found tag number (x ∷ es)) [
      | true ↦ λ is h.
          let same : x.0 ≡ number = cc in
          let here : is_at (nat_cmp number) x.0 ≡ true = ap (is_at (nat_cmp number)) same ∙ unsigned_tied number number ∙ (Decides-eqb number number).1 refl in
          let gone : list_any (has_tag tag) (values_of es) ≡ false = ap (λ t. list_any (has_tag t) (values_of es)) ((Decides-eqb tag x.1.tag.0).0 is) ∙ differ.0 in
          let rest : remove_entry (is_at (nat_cmp number)) (x ∷ es) ≡ es = ap (λ b. cond b es (x ∷ remove_entry (is_at (nat_cmp number)) es)) here in
          record {
            named = x.1;
            found = ap (λ b. cond b (Some x.1) (lookup (is_at (nat_cmp number)) es)) here;
            tagged = is;
            left = rest ∙ sym (ap (λ b. cond (not b) (x ∷ others tag es) (others tag es)) is ∙ others-absent tag es gone);
            fewer = let n = ap (λ (xs : Numbered). length xs) rest in omega arith;
          }
      | false ↦ λ is h.
          let it = find_it tag number es rising.1 differ.1 h in
          let less : nat_cmp x.0 number ≡ Less = among (λ k. nat_cmp x.0 k ≡ Less) tag number es h rising.0 in
          let there : is_at (nat_cmp number) x.0 ≡ false = other_number x.0 number less in
          let rest : remove_entry (is_at (nat_cmp number)) (x ∷ es) ≡ x ∷ remove_entry (is_at (nat_cmp number)) es = ap (λ b. cond b es (x ∷ remove_entry (is_at (nat_cmp number)) es)) there in
          record {
            named = it.named;
            found = ap (λ b. cond b (Some x.1) (lookup (is_at (nat_cmp number)) es)) there ∙ it.found;
            tagged = it.tagged;
            left = rest ∙ ap (λ xs. x ∷ xs) it.left ∙ sym (ap (λ b. cond (not b) (x ∷ others tag es) (others tag es)) is);
            fewer = let n = ap (λ (xs : Numbered). length xs) rest in let m = it.fewer in omega arith;
          }
    ] refl e

-- ---- the same in two parts

-- each number of the earlier part is below those of the later
all_across : (xs ys : List ℕ) → IsStrictlySortedBy nat_cmp (xs ++ ys) → AllByRecursion (λ x. AllByRecursion (λ y. nat_cmp x y ≡ Less) ys) xs
unfolding IsStrictlySortedBy
all_across [] ys rising = tt
all_across (x ∷ xs) ys rising = (all_right (λ y. nat_cmp x y ≡ Less) xs ys rising.0, all_across xs ys rising.1)

none_equal : (number : ℕ) (ys : List ℕ) → AllByRecursion (λ y. nat_cmp number y ≡ Less) ys → AllByRecursion (λ k. is_at (nat_cmp number) k ≡ false) ys
none_equal number [] above = tt
none_equal number (y ∷ ys) above = (ap is_eq above.0, none_equal number ys above.1)

-- the tag stands in the earlier part
pub record InOlder (tag number : ℕ) (older newer : Numbered) : Type 0 where
  pub it : Found tag number older
  pub absent : lookup (is_at (nat_cmp number)) newer ≡ None
  pub stay : others tag newer ≡ newer

-- the tag stands in the later part
pub record InNewer (tag number : ℕ) (older newer : Numbered) : Type 0 where
  pub it : Found tag number newer
  pub stay : others tag older ≡ older

pub in_either : (tag number : ℕ) (older newer : Numbered) → IsStrictlySortedBy nat_cmp (keys_of older ++ keys_of newer) → TagsDiffer (values_of older ++ values_of newer)
    → number_of tag (older ++ newer) ≡ Some number → InOlder tag number older newer ⊎ InNewer tag number older newer
in_either tag number older newer rising differ e =
    elim (number_of tag older) as (λ o. number_of tag older ≡ o → option_or o (number_of tag newer) ≡ Some number → InOlder tag number older newer ⊎ InNewer tag number older newer) [
      | Some k ↦ λ is h.
          let same : k ≡ number = cc in
          let there : number_of tag older ≡ Some number = is ∙ ap (λ n. Some n) same in
          inl (record {
            it = find_it tag number older (rising_left (keys_of older) (keys_of newer) rising) (differ_left (values_of older) (values_of newer) differ) there;
            absent = (absent_number number newer (none_equal number (keys_of newer) (among (λ x. AllByRecursion (λ y. nat_cmp x y ≡ Less) (keys_of newer)) tag number older there (all_across (keys_of older) (keys_of newer) rising)))).0;
            stay = others-absent tag newer (apart (values_of older) (values_of newer) tag differ (some_numbered tag number older there));
          })
      | None ↦ λ is h. inr (record {
        it = find_it tag number newer (rising_right (keys_of older) (keys_of newer) rising) (differ_right (values_of older) (values_of newer) differ) h;
        stay = others-absent tag older (none_numbered tag older is);
      })
    ] refl (sym (number_of-append tag older newer) ∙ e)
