-- What the directories and their pages hold.
use Rattle.page_map.proofs.Common.{◌≡◌, ◌∙◌, sym, ap, refl, subst, ℕ, zero, suc, ◌+◌, ◌*◌, ◌/◌, ◌%◌, ◌^◌, ◌<◌, ◌≤◌, List, [], ◌∷◌, ◌++◌, Bool, true, false}
use Rattle.page_map.proofs.Common.{cond, ◌&&◌, Option, Some, None, length, get_or, arith, eq-eqb, append_assoc, nat_eq, Less, nat_cmp, BTreeMap, is_at}
use Rattle.page_map.proofs.Common.{WritesThrough, lookup, keys_of, values_of, All, AllByRecursion, slice_get, recursion_from_All, exact_unsigned_eq, Page}
use Rattle.page_map.proofs.Common.{Directory, free, value_for_number, entries_from, entries_by, entries_of, ArePagesApart, AreDirectories, number_in}
use Rattle.page_map.proofs.Common.{number_in_pages, value_at, T, IfNone, OnSome, is_some, eq_by_cmp, is_eq, is_lt, insert_entry, set_value, remove_entry}
use Rattle.page_map.proofs.Common.{All-keys-insert_entry, All-values-insert_entry, All-map-remove_entry, All-values-set_value, NumberMap, entry_of}
use Rattle.std.specs.{Cmp.{nat_cmp_total, unsigned_tied}, List.Sorted.{IsStrictlySortedBy}, FinMap.{find, is_sorted, from_sorted, from_entries}}
use Rattle.std.specs.FinMap.{get-from_entries, get-from_sorted, get-insert, get-remove, entries-from_sorted, same_map, nat_cmp-IsAntisymmetric}
use Rattle.std.specs.FinMap.Entries.{below_all}
use Rattle.std.specs.FinMap as map
use Rattle.{std.proofs.lemmas.Cmp.{ranked}, page_map.specs.Pages.{numbers_of}, fx_base.proofs.Tests.{T_both}}

-- ---- numbers that tie

pub apart : (a b : ℕ) → (a ≡ b → ⊥) → is_eq (nat_cmp a b) ≡ false
apart a b differ = unsigned_tied a b ∙ by (nat_eq a b) refl
  where
    by : (t : Bool) → nat_eq a b ≡ t → t ≡ false
    by true e = absurd (differ (exact_unsigned_eq a b e))
    by false e = refl

pub together : (a b : ℕ) → a ≡ b → is_eq (nat_cmp a b) ≡ true
together a b e = grind (arith, e)

pub tied : (a b : ℕ) → is_eq (nat_cmp a b) ≡ true → a ≡ b
tied a b e = exact_unsigned_eq a b (sym (unsigned_tied a b) ∙ e)

-- ---- entries whose keys strictly rise, from a number on

abbrev pub Rises : ℕ → List (ℕ × ℕ) → Type 0
Rises low [] = Unit {0}
Rises low (e ∷ es) = (low ≤ e.0) × Rises (e.0 + 1) es

lower : (low high : ℕ) (es : List (ℕ × ℕ)) → low ≤ high → Rises high es → Rises low es
lower low high [] e rises = tt
lower low high (x ∷ es) e rises = let first = rises.0 in (omega arith, rises.1)

-- nothing is found below them
below : (low q : ℕ) (es : List (ℕ × ℕ)) → Rises low es → q < low → find nat_cmp q es ≡ None
below low q [] rises l = refl
below low q (e ∷ es) rises l =
    let first = rises.0 in
    ap (λ t. cond t (Some e.1) (find nat_cmp q es)) (apart q e.0 (λ s. omega (arith, s, first, l))) ∙ below (e.0 + 1) q es rises.1 (omega arith)

before : (low q : ℕ) (es : List (ℕ × ℕ)) → Rises low es → q < low → T (below_all nat_cmp q es)
before low q [] rises l = tt
before low q (e ∷ es) rises l =
    let first = rises.0 in
    let less : nat_cmp q e.0 ≡ Less = grind (arith, first, l) in
    subst (λ o. T (is_lt o && below_all nat_cmp q es)) (sym less) (before (e.0 + 1) q es rises.1 (omega arith))

in_order : (low : ℕ) (es : List (ℕ × ℕ)) → Rises low es → T (is_sorted nat_cmp es)
in_order low [] rises = tt
in_order low (e ∷ es) rises = T_both _ _ (before (e.0 + 1) e.0 es rises.1 (omega arith)) (in_order (e.0 + 1) es rises.1)

-- ---- one page

with_entry : (key : ℕ) (value : Option ℕ) (es : List (ℕ × ℕ)) → Rises (key + 1) es → Rises key (entry_of key value es)
with_entry key None es r = lower key (key + 1) es (omega arith) r
with_entry key (Some value) es r = (omega arith, r)

rising : (key : ℕ) (numbers : List ℕ) (rest : List (ℕ × ℕ)) → Rises (key + length numbers) rest → Rises key (entries_from key numbers rest)
rising key [] rest r = lower key (key + 0) rest (omega arith) r
rising key (number ∷ numbers) rest r =
    with_entry key (value_for_number number) (entries_from (key + 1) numbers rest)
    (rising (key + 1) numbers rest (lower (key + 1 + length numbers) (key + suc (length numbers)) rest (omega arith) r))

over : (q key : ℕ) (value : Option ℕ) (es : List (ℕ × ℕ)) → (q ≡ key → ⊥) → find nat_cmp q (entry_of key value es) ≡ find nat_cmp q es
over q key None es differ = refl
over q key (Some value) es differ = ap (λ t. cond t (Some value) (find nat_cmp q es)) (apart q key differ)

first_of : (q key : ℕ) (value : Option ℕ) (es : List (ℕ × ℕ)) → q ≡ key → find nat_cmp q es ≡ None → find nat_cmp q (entry_of key value es) ≡ value
first_of q key None es same none = none
first_of q key (Some value) es same none = ap (λ t. cond t (Some value) (find nat_cmp q es)) (together q key same)

-- what is found at a key of the page is the value at its place
found_in : (key place : ℕ) (numbers : List ℕ) (rest : List (ℕ × ℕ)) → Rises (key + length numbers) rest → find nat_cmp (key + place) rest ≡ None
    → find nat_cmp (key + place) (entries_from key numbers rest) ≡ value_for_number (get_or numbers place free)
found_in key place [] rest rises none = none
found_in key zero (number ∷ numbers) rest rises none =
    let tail = lower (key + 1 + length numbers) (key + suc (length numbers)) rest (omega arith) rises in
    first_of (key + 0) key (value_for_number number) (entries_from (key + 1) numbers rest) (omega arith)
    (below (key + 1) (key + 0) (entries_from (key + 1) numbers rest) (rising (key + 1) numbers rest tail) (omega arith))
found_in key (suc place) (number ∷ numbers) rest rises none =
    let tail = lower (key + 1 + length numbers) (key + suc (length numbers)) rest (omega arith) rises in
    let next : key + suc place ≡ key + 1 + place = omega arith in
    over (key + suc place) key (value_for_number number) (entries_from (key + 1) numbers rest) (λ e. omega (arith, e))
    ∙ ap (λ n. find nat_cmp n (entries_from (key + 1) numbers rest)) next
    ∙ found_in (key + 1) place numbers rest tail (ap (λ n. find nat_cmp n rest) (sym next) ∙ none)

-- another key is found elsewhere
found_past : (q key : ℕ) (numbers : List ℕ) (rest : List (ℕ × ℕ)) → ((place : ℕ) → place < length numbers → q ≡ key + place → ⊥) → find nat_cmp q (entries_from key numbers rest) ≡ find nat_cmp q rest
found_past q key [] rest outside = refl
found_past q key (number ∷ numbers) rest outside =
    over q key (value_for_number number) (entries_from (key + 1) numbers rest) (λ e. outside 0 (omega arith) (omega (arith, e)))
    ∙ found_past q (key + 1) numbers rest (λ place l e. outside (suc place) (omega (arith, l)) (omega (arith, e)))

-- a free place at the end says nothing
pub trimmed : (numbers : List ℕ) (k : ℕ) → get_or (numbers ++ free ∷ []) k free ≡ get_or numbers k free
trimmed [] zero = refl
trimmed [] (suc k) = refl
trimmed (number ∷ numbers) zero = refl
trimmed (number ∷ numbers) (suc k) = trimmed numbers k

pub popped : (old new : List ℕ) (k : ℕ) → old ≡ new ++ free ∷ [] → get_or new k free ≡ get_or old k free
popped old new k e = sym (trimmed new k) ∙ ap (λ xs. get_or xs k free) (sym e)

-- what a look-up shows stands there
pub shown : (numbers : List ℕ) (place number : ℕ) → slice_get numbers place ≡ Some number → (place < length numbers) × (get_or numbers place free ≡ number)
shown [] place number e = absurd (let x : None ≡ Some number = e in cc)
shown (first ∷ numbers) zero number e = (omega arith, cc)
shown (first ∷ numbers) (suc place) number e = let r = shown numbers place number e in (let l = r.0 in omega (arith, l), r.1)

-- an entry, and those that follow
entry_joined : (key : ℕ) (value : Option ℕ) (es rest : List (ℕ × ℕ)) → entry_of key value es ++ rest ≡ entry_of key value (es ++ rest)
entry_joined key None es rest = refl
entry_joined key (Some value) es rest = refl

-- the entries of a page, and those that follow
pub joined : (key : ℕ) (numbers : List ℕ) (rest : List (ℕ × ℕ)) → entries_from key numbers [] ++ rest ≡ entries_from key numbers rest
joined key [] rest = refl
joined key (number ∷ numbers) rest = entry_joined key (value_for_number number) (entries_from (key + 1) numbers []) rest ∙ ap (entry_of key (value_for_number number)) (joined (key + 1) numbers rest)

-- a number that is a value
pub is_value : (number : ℕ) → (number ≡ free → ⊥) → value_for_number number ≡ Some number
is_value number differs = by (nat_eq number free) refl
  where
    by : (t : Bool) → nat_eq number free ≡ t → cond t None (Some number) ≡ Some number
    by true e = absurd (differs (exact_unsigned_eq number free e))
    by false e = refl

-- the value at each place, where one number is written
pub value_written : (t : Bool) (number other : ℕ) → value_for_number (cond t number other) ≡ cond t (value_for_number number) (value_for_number other)
value_written true number other = refl
value_written false number other = refl

-- ---- the pages of a directory

abbrev pub Narrow : List Page → Type 0
Narrow pages = AllByRecursion (λ (page : Page). length page.items ≤ 64) pages

narrow : (pages : List Page) → ArePagesApart pages → Narrow pages
narrow pages short = recursion_from_All (λ (page : Page). length page.items ≤ 64) pages short.short

-- the entries of a directory, and those that follow
pub joined_pages : (key : ℕ) (pages : List Page) (rest : List (ℕ × ℕ)) → entries_by key pages [] ++ rest ≡ entries_by key pages rest
joined_pages key [] rest = refl
joined_pages key (page ∷ pages) rest =
    ap (λ es. es ++ rest) (sym (joined key page.items (entries_by (key + 64) pages [])))
    ∙ append_assoc (entries_from key page.items []) (entries_by (key + 64) pages []) rest
    ∙ ap (λ es. entries_from key page.items [] ++ es) (joined_pages (key + 64) pages rest)
    ∙ joined key page.items (entries_by (key + 64) pages rest)

rising_pages : (key : ℕ) (pages : List Page) (rest : List (ℕ × ℕ)) → Narrow pages → Rises (key + 64 * length pages) rest → Rises key (entries_by key pages rest)
rising_pages key [] rest fits r = lower key (key + 64 * 0) rest (omega arith) r
rising_pages key (page ∷ pages) rest fits r =
    let first = fits.0 in
    rising key page.items (entries_by (key + 64) pages rest)
    (lower (key + length page.items) (key + 64) (entries_by (key + 64) pages rest) (omega (arith, first))
    (rising_pages (key + 64) pages rest fits.1 (lower (key + 64 + 64 * length pages) (key + 64 * suc (length pages)) rest (omega arith) r)))

-- what is found at a key of the directory is the value at its place
found_at : (key i place : ℕ) (pages : List Page) (rest : List (ℕ × ℕ)) → place < 64 → Narrow pages → Rises (key + 64 * length pages) rest
    → find nat_cmp (key + 64 * i + place) rest ≡ None → find nat_cmp (key + 64 * i + place) (entries_by key pages rest) ≡ value_for_number (number_in pages i place)
found_at key i place [] rest within fits rises none = none
found_at key zero place (page ∷ pages) rest within fits rises none =
    let first = fits.0 in
    let tail = rising_pages (key + 64) pages rest fits.1 (lower (key + 64 + 64 * length pages) (key + 64 * suc (length pages)) rest (omega arith) rises) in
    let is : key + 64 * 0 + place ≡ key + place = omega arith in
    ap (λ n. find nat_cmp n (entries_from key page.items (entries_by (key + 64) pages rest))) is
    ∙ found_in key place page.items (entries_by (key + 64) pages rest)
    (lower (key + length page.items) (key + 64) (entries_by (key + 64) pages rest) (omega (arith, first)) tail)
    (below (key + 64) (key + place) (entries_by (key + 64) pages rest) tail (omega (arith, within)))
found_at key (suc i) place (page ∷ pages) rest within fits rises none =
    let first = fits.0 in
    let next : key + 64 * suc i + place ≡ key + 64 + 64 * i + place = omega arith in
    found_past (key + 64 * suc i + place) key page.items (entries_by (key + 64) pages rest) (λ k l e. omega (arith, l, e, first))
    ∙ ap (λ n. find nat_cmp n (entries_by (key + 64) pages rest)) next
    ∙ found_at (key + 64) i place pages rest within fits.1 (lower (key + 64 + 64 * length pages) (key + 64 * suc (length pages)) rest (omega arith) rises)
    (ap (λ n. find nat_cmp n rest) (sym next) ∙ none)

-- another key is found elsewhere
found_beside : (q key : ℕ) (pages : List Page) (rest : List (ℕ × ℕ)) → Narrow pages → ((place : ℕ) → place < 64 * length pages → q ≡ key + place → ⊥)
    → find nat_cmp q (entries_by key pages rest) ≡ find nat_cmp q rest
found_beside q key [] rest fits outside = refl
found_beside q key (page ∷ pages) rest fits outside =
    let first = fits.0 in
    found_past q key page.items (entries_by (key + 64) pages rest) (λ place l e. outside place (omega (arith, l, first)) e)
    ∙ found_beside q (key + 64) pages rest fits.1 (λ place l e. outside (64 + place) (omega (arith, l)) (omega (arith, e)))

-- beyond the pages nothing stands
pub past_pages : (pages : List Page) (i k : ℕ) → length pages ≤ i → number_in pages i k ≡ free
past_pages [] i k l = refl
past_pages (page ∷ pages) zero k l = absurd (omega (arith, l))
past_pages (page ∷ pages) (suc i) k l = past_pages pages i k (omega (arith, l))

pub no_pages : (pages : List Page) → pages ≡ [] → ArePagesApart pages
no_pages pages e = subst (λ (ps : List Page). ArePagesApart ps) (sym e) (record { few = omega arith; short = λ k d l. absurd (omega (arith, l)) })

-- ---- all directories

-- what is beyond a number
pub beyond : (a : ℕ) (ks : List ℕ) → AllByRecursion (λ k. nat_cmp a k ≡ Less) ks → AllByRecursion (λ k. a + 1 ≤ k) ks
beyond a [] less = tt
beyond a (k ∷ ks) less = let l = ranked a k Less (sym less.0) in (omega (arith, l), beyond a ks less.1)

abbrev Short : List (ℕ × Directory) → Type 0
Short directories = AllByRecursion (λ (d : Directory). ArePagesApart d.items) (values_of directories)

rise : (low : ℕ) (ds : List (ℕ × Directory)) → AllByRecursion (λ k. low ≤ k) (keys_of ds) → IsStrictlySortedBy nat_cmp (keys_of ds) → Short ds → Rises (2048 * low) (entries_of ds)
unfolding IsStrictlySortedBy
rise low [] from sorted short = tt
rise low (d ∷ ds) from sorted short =
    let start = from.0 in
    let few = short.0.few in
    let tail = rise (d.0 + 1) ds (beyond d.0 (keys_of ds) sorted.0) sorted.1 short.1 in
    lower (2048 * low) (2048 * d.0) (entries_by (2048 * d.0) d.1.items (entries_of ds)) (omega (arith, start))
    (rising_pages (2048 * d.0) d.1.items (entries_of ds) (narrow d.1.items short.0)
    (lower (2048 * d.0 + 64 * length d.1.items) (2048 * (d.0 + 1)) (entries_of ds) (omega (arith, few)) tail))

find_all : (q : ℕ) (ds : List (ℕ × Directory)) → IsStrictlySortedBy nat_cmp (keys_of ds) → Short ds
    → find nat_cmp q (entries_of ds) ≡ value_at (lookup (is_at (nat_cmp (q / 2048))) ds) (q % 2048)
unfolding IsStrictlySortedBy
find_all q [] sorted short = refl
find_all q (d ∷ ds) sorted short = by (is_at (nat_cmp (q / 2048)) d.0) refl (find_all q ds sorted.1 short.1)
  where
    by : (t : Bool) → is_at (nat_cmp (q / 2048)) d.0 ≡ t → find nat_cmp q (entries_of ds) ≡ value_at (lookup (is_at (nat_cmp (q / 2048))) ds) (q % 2048)
        → find nat_cmp q (entries_by (2048 * d.0) d.1.items (entries_of ds)) ≡ value_at (cond t (Some d.1) (lookup (is_at (nat_cmp (q / 2048))) ds)) (q % 2048)
    by true e rest =
        let number = tied (q / 2048) d.0 e in
        let few = short.0.few in
        let tail = rise (d.0 + 1) ds (beyond d.0 (keys_of ds) sorted.0) sorted.1 short.1 in
        let is : q ≡ 2048 * d.0 + 64 * (q % 2048 / 64) + q % 2048 % 64 = omega (arith, number) in
        ap (λ n. find nat_cmp n (entries_by (2048 * d.0) d.1.items (entries_of ds))) is
        ∙ found_at (2048 * d.0) (q % 2048 / 64) (q % 2048 % 64) d.1.items (entries_of ds) (omega arith) (narrow d.1.items short.0)
        (lower (2048 * d.0 + 64 * length d.1.items) (2048 * (d.0 + 1)) (entries_of ds) (omega (arith, few)) tail)
        (below (2048 * (d.0 + 1)) (2048 * d.0 + 64 * (q % 2048 / 64) + q % 2048 % 64) (entries_of ds) tail (omega arith))
    by false e rest =
        let few = short.0.few in
        found_beside q (2048 * d.0) d.1.items (entries_of ds) (narrow d.1.items short.0) (λ place l is.
        let number : q / 2048 ≡ d.0 = omega (arith, is, l, few) in
        let torn : true ≡ false = sym (together (q / 2048) d.0 number) ∙ e in cc) ∙ rest

pub all_above : (ks : List ℕ) → AllByRecursion (λ k. 0 ≤ k) ks
all_above [] = tt
all_above (k ∷ ks) = (omega arith, all_above ks)

module _ (ds : List (ℕ × Directory)) (are : AreDirectories ds) where
  short : Short ds
  short = recursion_from_All (λ (d : Directory). ArePagesApart d.items) (values_of ds) are.short

  -- the value of a key
  pub get-numbers : (q : ℕ) → map.get (numbers_of ds) q ≡ value_at (lookup (is_at (nat_cmp (q / 2048))) ds) (q % 2048)
  unfolding numbers_of
  get-numbers q = get-from_entries nat_cmp_total (entries_of ds) q ∙ find_all q ds are.ordered short

  -- the entries stand in order
  pub entries-numbers : map.entries (numbers_of ds) ≡ entries_of ds
  unfolding numbers_of
  entries-numbers =
      let order = in_order (2048 * 0) (entries_of ds) (rise 0 ds (all_above (keys_of ds)) are.ordered short) in
      let same = same_map nat_cmp_total nat_cmp-IsAntisymmetric (from_entries (entries_of ds)) (from_sorted (entries_of ds))
      (λ q. get-from_entries nat_cmp_total (entries_of ds) q ∙ sym (get-from_sorted nat_cmp (entries_of ds) q order)) in
      ap map.entries same ∙ entries-from_sorted nat_cmp (entries_of ds) order

-- ---- the directories after a change

-- a directory of those that fit fits
short_there : (test : ℕ → Bool) (ds : List (ℕ × Directory)) (directory : Directory) → Short ds → lookup test ds ≡ Some directory → ArePagesApart directory.items
short_there test [] directory shorts e = absurd (let x : None ≡ Some directory = e in cc)
short_there test (p ∷ ds) directory shorts e = by (test p.0) e (short_there test ds directory shorts.1)
  where
    by : (t : Bool) → cond t (Some p.1) (lookup test ds) ≡ Some directory → (lookup test ds ≡ Some directory → ArePagesApart directory.items) → ArePagesApart directory.items
    by true is rest = let same : p.1 ≡ directory = cc in subst (λ (x : Directory). ArePagesApart x.items) same shorts.0
    by false is rest = rest is

module _ (ds next : List (ℕ × Directory)) (are : AreDirectories ds) (ordered : IsStrictlySortedBy nat_cmp (keys_of next)) where
  pub directory_short : (test : ℕ → Bool) (directory : Directory) → lookup test ds ≡ Some directory → ArePagesApart directory.items
  directory_short test directory here = short_there test ds directory (short ds are) here

  -- a directory is written anew
  pub with_directory : (test : ℕ → Bool) (directory : Directory) → next ≡ set_value test ds directory → keys_of next ≡ keys_of ds → ArePagesApart directory.items → AreDirectories next
  with_directory test directory is keys fits = record {
    ordered = ordered;
    numbers = subst (All (λ number. number < 2 ^ 53)) (sym keys) are.numbers;
    short = subst (λ es. All (λ (d : Directory). ArePagesApart d.items) (values_of es)) (sym is) (All-values-set_value test (λ (d : Directory). ArePagesApart d.items) ds directory are.short fits);
  }

  -- a directory comes
  pub more_directories : (number : ℕ) (directory : Directory) → next ≡ insert_entry nat_cmp ds number directory → number < 2 ^ 53 → ArePagesApart directory.items → AreDirectories next
  more_directories number directory is below fits = record {
    ordered = ordered;
    numbers = subst (λ es. All (λ n. n < 2 ^ 53) (keys_of es)) (sym is) (All-keys-insert_entry nat_cmp number directory (λ n. n < 2 ^ 53) ds are.numbers below);
    short = subst (λ es. All (λ (d : Directory). ArePagesApart d.items) (values_of es)) (sym is) (All-values-insert_entry nat_cmp number directory (λ (d : Directory). ArePagesApart d.items) ds are.short fits);
  }

  -- a directory goes
  pub fewer_directories : (test : ℕ → Bool) → next ≡ remove_entry test ds → AreDirectories next
  fewer_directories test is = record {
    ordered = ordered;
    numbers = subst (λ es. All (λ n. n < 2 ^ 53) (keys_of es)) (sym is) (All-map-remove_entry test (λ (e : ℕ × Directory). e.0) (λ n. n < 2 ^ 53) ds are.numbers);
    short = subst (λ es. All (λ (d : Directory). ArePagesApart d.items) (values_of es)) (sym is) (All-map-remove_entry test (λ (e : ℕ × Directory). e.1) (λ (d : Directory). ArePagesApart d.items) ds are.short);
  }

-- a directory written and taken out again
pub emptied : (t : Bool) (directory other : Option Directory) → cond t None (cond t directory other) ≡ cond t None other
emptied true directory other = refl
emptied false directory other = refl

-- one value is put in or taken out, and with it perhaps a directory
module _ (was is : List (ℕ × Directory)) (were : AreDirectories was) (are : AreDirectories is) (key : ℕ) (next : Option Directory) (value : Option ℕ)
    (others : (n : ℕ) → lookup (is_at (nat_cmp n)) is ≡ cond (is_at (nat_cmp (key / 2048)) n) next (lookup (is_at (nat_cmp n)) was))
    (places : (k : ℕ) → value_at next k ≡ cond (nat_eq (key % 2048) k) value (value_at (lookup (is_at (nat_cmp (key / 2048))) was) k)) where
  changed : (q : ℕ) → map.get (numbers_of is) q ≡ cond (eq_by_cmp nat_cmp q key) value (map.get (numbers_of was) q)
  changed q =
      get-numbers is are q ∙ ap (λ o. value_at o (q % 2048)) (others (q / 2048)) ∙ by (is_at (nat_cmp (key / 2048)) (q / 2048)) refl
      ∙ ap (cond (eq_by_cmp nat_cmp q key) value) (sym (get-numbers was were q))
    where
      within : (t : Bool) (old : Option ℕ) → nat_eq (key % 2048) (q % 2048) ≡ t → key / 2048 ≡ q / 2048 → cond t value old ≡ cond (eq_by_cmp nat_cmp q key) value old
      within true old e directory =
          let place = exact_unsigned_eq (key % 2048) (q % 2048) e in
          ap (λ t. cond t value old) (sym (together q key (omega (arith, directory, place))))
      within false old e directory =
          ap (λ t. cond t value old) (sym (apart q key (λ same.
          let torn : true ≡ false = sym (ap (λ n. nat_eq (key % 2048) (n % 2048)) same ∙ eq-eqb (key % 2048) (key % 2048) refl) ∙ e in cc)))

      by : (t : Bool) → is_at (nat_cmp (key / 2048)) (q / 2048) ≡ t → value_at (cond t next (lookup (is_at (nat_cmp (q / 2048))) was)) (q % 2048) ≡ cond (eq_by_cmp nat_cmp q key) value (value_at (lookup (is_at (nat_cmp (q / 2048))) was) (q % 2048))
      by true e =
          let directory = tied (key / 2048) (q / 2048) e in
          places (q % 2048) ∙ ap (λ n. cond (nat_eq (key % 2048) (q % 2048)) value (value_at (lookup (is_at (nat_cmp n)) was) (q % 2048))) directory
          ∙ within (nat_eq (key % 2048) (q % 2048)) (value_at (lookup (is_at (nat_cmp (q / 2048))) was) (q % 2048)) refl directory
      by false e =
          ap (λ t. cond t value (value_at (lookup (is_at (nat_cmp (q / 2048))) was) (q % 2048))) (sym (apart q key (λ same.
          let torn : true ≡ false = sym (together (key / 2048) (q / 2048) (ap (λ n. n / 2048) (sym same))) ∙ e in cc)))

  -- the map with the key
  pub with_key : (v : ℕ) → value ≡ Some v → numbers_of is ≡ map.insert (numbers_of was) key v
  with_key v e = same_map nat_cmp_total nat_cmp-IsAntisymmetric (numbers_of is) (map.insert (numbers_of was) key v)
      (λ q. changed q ∙ ap (λ o. cond (eq_by_cmp nat_cmp q key) o (map.get (numbers_of was) q)) e ∙ sym (get-insert nat_cmp_total (numbers_of was) key v q))

  -- the map without it
  pub without_key : value ≡ None → numbers_of is ≡ map.remove (numbers_of was) key
  without_key e = same_map nat_cmp_total nat_cmp-IsAntisymmetric (numbers_of is) (map.remove (numbers_of was) key)
      (λ q. changed q ∙ ap (λ o. cond (eq_by_cmp nat_cmp q key) o (map.get (numbers_of was) q)) e ∙ sym (get-remove nat_cmp_total (numbers_of was) key q))

-- ---- nothing is changed

-- the same values at all places of all directories
pub same_values : (was is : List (ℕ × Directory)) → AreDirectories was → AreDirectories is
    → ((n k : ℕ) → value_at (lookup (is_at (nat_cmp n)) is) k ≡ value_at (lookup (is_at (nat_cmp n)) was) k) → numbers_of is ≡ numbers_of was
same_values was is were are values =
    same_map nat_cmp_total nat_cmp-IsAntisymmetric (numbers_of is) (numbers_of was)
    (λ q. get-numbers is are q ∙ values (q / 2048) (q % 2048) ∙ sym (get-numbers was were q))

-- ---- a directory is written

module _ (was is : List (ℕ × Directory)) (were : AreDirectories was) (are : AreDirectories is) (key : ℕ) where
  module _ (directory w : Directory) (here : lookup (is_at (nat_cmp (key / 2048))) was ≡ Some directory)
      (others : (n : ℕ) → lookup (is_at (nat_cmp n)) is ≡ cond (is_at (nat_cmp (key / 2048)) n) (Some w) (lookup (is_at (nat_cmp n)) was)) where
    places : (number : ℕ) → ((k : ℕ) → number_in_pages w.items k ≡ cond (nat_eq (key % 2048) k) number (number_in_pages directory.items k))
        → (k : ℕ) → value_at (Some w) k ≡ cond (nat_eq (key % 2048) k) (value_for_number number) (value_at (lookup (is_at (nat_cmp (key / 2048))) was) k)
    places number writes k =
        ap value_for_number (writes k) ∙ value_written (nat_eq (key % 2048) k) number (number_in_pages directory.items k) ∙ ap (λ o. cond (nat_eq (key % 2048) k) (value_for_number number) (value_at o k)) (sym here)

    -- one value is put in
    pub put_anew : (value : ℕ) → (value ≡ free → ⊥) → ((k : ℕ) → number_in_pages w.items k ≡ cond (nat_eq (key % 2048) k) value (number_in_pages directory.items k))
        → numbers_of is ≡ map.insert (numbers_of was) key value
    put_anew value proper writes = with_key was is were are key (Some w) (value_for_number value) others (places value writes) value (is_value value proper)

    -- one value is taken out
    pub take_out : ((k : ℕ) → number_in_pages w.items k ≡ cond (nat_eq (key % 2048) k) free (number_in_pages directory.items k)) → numbers_of is ≡ map.remove (numbers_of was) key
    take_out writes = without_key was is were are key (Some w) (value_for_number free) others (places free writes) refl

    -- nothing is written
    pub unchanged : ((k : ℕ) → number_in_pages w.items k ≡ number_in_pages directory.items k) → numbers_of is ≡ numbers_of was
    unchanged same = same_values was is were are (λ n k. ap (λ o. value_at o k) (others n) ∙ by n k (is_at (nat_cmp (key / 2048)) n) refl)
      where
        by : (n k : ℕ) (t : Bool) → is_at (nat_cmp (key / 2048)) n ≡ t → value_at (cond t (Some w) (lookup (is_at (nat_cmp n)) was)) k ≡ value_at (lookup (is_at (nat_cmp n)) was) k
        by n k true e =
            ap value_for_number (same k) ∙ ap (λ o. value_at o k) (sym here) ∙ ap (λ m. value_at (lookup (is_at (nat_cmp m)) was) k) (tied (key / 2048) n e)
        by n k false e = refl

  -- the last value of a directory is taken out, and the directory with it
  pub take_last : (directory w : Directory) → lookup (is_at (nat_cmp (key / 2048))) was ≡ Some directory
      → ((n : ℕ) → lookup (is_at (nat_cmp n)) is ≡ cond (is_at (nat_cmp (key / 2048)) n) None (lookup (is_at (nat_cmp n)) was))
      → length w.items ≡ 0 → ((k : ℕ) → number_in_pages w.items k ≡ cond (nat_eq (key % 2048) k) free (number_in_pages directory.items k)) → numbers_of is ≡ map.remove (numbers_of was) key
  take_last directory w here gone none writes =
      without_key was is were are key None (value_for_number free) gone
      (λ k. ap value_for_number (sym (past_pages w.items (k / 64) (k % 64) (omega (arith, none))) ∙ writes k) ∙ value_written (nat_eq (key % 2048) k) free (number_in_pages directory.items k)
      ∙ ap (λ o. cond (nat_eq (key % 2048) k) (value_for_number free) (value_at o k)) (sym here)) refl

  -- the first value of a directory
  pub put_first : (blank directory : Directory)
      → ((n : ℕ) → lookup (is_at (nat_cmp n)) is ≡ cond (is_at (nat_cmp (key / 2048)) n) (Some directory) (lookup (is_at (nat_cmp n)) was))
      → lookup (is_at (nat_cmp (key / 2048))) was ≡ None → blank.items ≡ [] → (value : ℕ) → (value ≡ free → ⊥)
      → ((k : ℕ) → number_in_pages directory.items k ≡ cond (nat_eq (key % 2048) k) value (number_in_pages blank.items k)) → numbers_of is ≡ map.insert (numbers_of was) key value
  put_first blank directory others none empty value proper writes =
      with_key was is were are key (Some directory) (value_for_number value) others
      (λ k. ap value_for_number (writes k ∙ ap (λ xs. cond (nat_eq (key % 2048) k) value (number_in_pages xs k)) empty) ∙ value_written (nat_eq (key % 2048) k) value free
      ∙ ap (λ o. cond (nat_eq (key % 2048) k) (value_for_number value) (value_at o k)) (sym none)) value (is_value value proper)

-- the directories of a tree behind a write through one that it lent
pub rewritten : (m n : BTreeMap ℕ Directory) (number : ℕ) (directory w : Directory) → AreDirectories m.entries → Some directory ≡ lookup (is_at (nat_cmp number)) m.entries
    → WritesThrough nat_cmp (nat_cmp number) m w n → (ArePagesApart directory.items → ArePagesApart w.items) → AreDirectories n.entries
rewritten m n number directory w were here wrote fits =
    with_directory m.entries n.entries were wrote.4 (is_at (nat_cmp number)) w wrote.0 wrote.1
    (fits (directory_short m.entries n.entries were wrote.4 (is_at (nat_cmp number)) directory (sym here)))

pub rewritten_others : (m n : BTreeMap ℕ Directory) (number : ℕ) (directory w : Directory) → Some directory ≡ lookup (is_at (nat_cmp number)) m.entries
    → WritesThrough nat_cmp (nat_cmp number) m w n → (q : ℕ) → lookup (is_at (nat_cmp q)) n.entries ≡ cond (is_at (nat_cmp number) q) (Some w) (lookup (is_at (nat_cmp q)) m.entries)
rewritten_others m n number directory w here wrote = (wrote.3 (ap is_some (sym here))).0

-- where nothing is, nothing is taken out
pub remove_absent : (m : NumberMap) (key : ℕ) → map.get m key ≡ None → m ≡ map.remove m key
remove_absent m key none =
    same_map nat_cmp_total nat_cmp-IsAntisymmetric m (map.remove m key) (λ q. sym (get-remove nat_cmp_total m key q ∙ by q (eq_by_cmp nat_cmp q key) refl))
  where
    by : (q : ℕ) (t : Bool) → eq_by_cmp nat_cmp q key ≡ t → cond t None (map.get m q) ≡ map.get m q
    by q true e = sym (ap (map.get m) (tied q key e) ∙ none)
    by q false e = refl

pub on_some_weaker : {P Q : Type 0} (o : Option ℕ) → (P → Q) → OnSome o P → OnSome o Q
on_some_weaker None f p = tt
on_some_weaker (Some n) f p = f p

pub if_none_weaker : {P Q : Type 0} (o : Option ℕ) → (P → Q) → IfNone o P → IfNone o Q
if_none_weaker None f p = f p
if_none_weaker (Some n) f p = tt
