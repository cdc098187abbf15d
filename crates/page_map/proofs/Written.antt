-- A directory after a write to one of its pages.
use Rattle.page_map.proofs.Common.{◌≡◌, ◌∙◌, sym, ap, refl, ℕ, zero, suc, ◌/◌, ◌%◌, ◌<◌, ◌≤◌, List, [], ◌∷◌, ◌++◌, Bool, true, false, cond, Option, length}
use Rattle.page_map.proofs.Common.{get_or, set, arith, eq-eqb, length-append, option_to_list, nat_eq, All-push, All-pop, exact_unsigned_eq, Page, free}
use Rattle.{page_map.proofs.Common.{ArePagesApart, number_in, number_in_pages, get_or_past}, std.proofs.lemmas.Bool.{eqb-false}}

-- what stands in one of the pages
pub in_page : (pages : List Page) (i k : ℕ) (page : Page) → i < length pages → page ≡ get_or pages i page → number_in pages i k ≡ get_or page.items k free
in_page [] i k page l e = absurd (omega (arith, l))
in_page (p ∷ pages) zero k page l e = ap (λ (x : Page). get_or x.items k free) (sym e)
in_page (p ∷ pages) (suc i) k page l e = in_page pages i k page (omega (arith, l)) e

in_set_here : (pages : List Page) (i : ℕ) (page : Page) (k : ℕ) → i < length pages → number_in (set pages i page) i k ≡ get_or page.items k free
in_set_here [] i page k l = absurd (omega (arith, l))
in_set_here (p ∷ pages) zero page k l = refl
in_set_here (p ∷ pages) (suc i) page k l = in_set_here pages i page k (omega (arith, l))

in_set_there : (pages : List Page) (i : ℕ) (page : Page) (j k : ℕ) → (i ≡ j → ⊥) → number_in (set pages i page) j k ≡ number_in pages j k
in_set_there [] i page j k differ = refl
in_set_there (p ∷ pages) zero page zero k differ = absurd (differ refl)
in_set_there (p ∷ pages) zero page (suc j) k differ = refl
in_set_there (p ∷ pages) (suc i) page zero k differ = refl
in_set_there (p ∷ pages) (suc i) page (suc j) k differ = in_set_there pages i page j k (λ e. differ (ap suc e))

-- two places in one page
beside : (p k : ℕ) → p / 64 ≡ k / 64 → nat_eq (p % 64) (k % 64) ≡ nat_eq p k
beside p k e = by (nat_eq (p % 64) (k % 64)) (nat_eq p k) refl refl
  where
    by : (s t : Bool) → nat_eq (p % 64) (k % 64) ≡ s → nat_eq p k ≡ t → s ≡ t
    by true true a b = refl
    by false false a b = refl
    by true false a b = let places = exact_unsigned_eq (p % 64) (k % 64) a in sym (eq-eqb p k (omega (arith, places, e))) ∙ b
    by false true a b = sym a ∙ eq-eqb (p % 64) (k % 64) (ap (λ n. n % 64) (exact_unsigned_eq p k b))

apart : (p k : ℕ) → nat_eq (p / 64) (k / 64) ≡ false → nat_eq p k ≡ false
apart p k e = by (nat_eq p k) refl
  where
    by : (t : Bool) → nat_eq p k ≡ t → t ≡ false
    by false b = refl
    by true b = absurd (eqb-false (p / 64) (k / 64) e (ap (λ n. n / 64) (exact_unsigned_eq p k b)))

-- where nothing stands, nothing is taken out
pub absent : (pages : List Page) (place k : ℕ) → number_in_pages pages place ≡ free → number_in_pages pages k ≡ cond (nat_eq place k) free (number_in_pages pages k)
absent pages place k none = by (nat_eq place k) refl
  where
    by : (t : Bool) → nat_eq place k ≡ t → number_in_pages pages k ≡ cond t free (number_in_pages pages k)
    by true e = ap (number_in_pages pages) (sym (exact_unsigned_eq place k e)) ∙ none
    by false e = refl

module _ (pages : List Page) (place : ℕ) (was page : Page) (l : place / 64 < length pages) (e : was ≡ get_or pages (place / 64) was) where
  -- one number is written
  pub written : (number : ℕ) → ((k : ℕ) → get_or page.items k free ≡ cond (nat_eq (place % 64) k) number (get_or was.items k free))
      → (k : ℕ) → number_in_pages (set pages (place / 64) page) k ≡ cond (nat_eq place k) number (number_in_pages pages k)
  written number writes k = by (nat_eq (place / 64) (k / 64)) refl
    where
      by : (t : Bool) → nat_eq (place / 64) (k / 64) ≡ t → number_in_pages (set pages (place / 64) page) k ≡ cond (nat_eq place k) number (number_in_pages pages k)
      by true same =
          let i = exact_unsigned_eq (place / 64) (k / 64) same in
          ap (λ n. number_in (set pages (place / 64) page) n (k % 64)) (sym i) ∙ in_set_here pages (place / 64) page (k % 64) l
          ∙ writes (k % 64) ∙ ap (λ t. cond t number (get_or was.items (k % 64) free)) (beside place k i)
          ∙ ap (cond (nat_eq place k) number) (sym (in_page pages (place / 64) (k % 64) was l e) ∙ ap (λ n. number_in pages n (k % 64)) i)
      by false differ =
          in_set_there pages (place / 64) page (k / 64) (k % 64) (eqb-false (place / 64) (k / 64) differ)
          ∙ ap (λ t. cond t number (number_in_pages pages k)) (sym (apart place k differ))

  -- nothing is written
  pub unwritten : page.items ≡ was.items → (k : ℕ) → number_in_pages (set pages (place / 64) page) k ≡ number_in_pages pages k
  unwritten same k = by (nat_eq (place / 64) (k / 64)) refl
    where
      by : (t : Bool) → nat_eq (place / 64) (k / 64) ≡ t → number_in_pages (set pages (place / 64) page) k ≡ number_in_pages pages k
      by true is =
          let i = exact_unsigned_eq (place / 64) (k / 64) is in
          ap (λ n. number_in (set pages (place / 64) page) n (k % 64)) (sym i) ∙ in_set_here pages (place / 64) page (k % 64) l
          ∙ ap (λ xs. get_or xs (k % 64) free) same ∙ sym (in_page pages (place / 64) (k % 64) was l e) ∙ ap (λ n. number_in pages n (k % 64)) i
      by false is = in_set_there pages (place / 64) page (k / 64) (k % 64) (eqb-false (place / 64) (k / 64) is)

-- a page without values at the end says nothing
pub lengthened : (pages : List Page) (blank : Page) → length blank.items ≡ 0 → (i k : ℕ) → number_in (pages ++ blank ∷ []) i k ≡ number_in pages i k
lengthened [] blank none zero k = get_or_past blank.items k free (omega (arith, none))
lengthened [] blank none (suc i) k = refl
lengthened (p ∷ pages) blank none zero k = refl
lengthened (p ∷ pages) blank none (suc i) k = lengthened pages blank none i k

pub more_short : (pages : List Page) (blank : Page) → length blank.items ≡ 0 → length pages < 32 → ArePagesApart pages → ArePagesApart (pages ++ blank ∷ [])
more_short pages blank none few are =
    let one_more = length-append pages (blank ∷ []) in
    record { few = omega (arith, one_more, few); short = All-push (λ (p : Page). length p.items ≤ 64) pages blank are.short (omega (arith, none)) }

pub shortened : (pages fewer : List Page) (last : Option Page) → pages ≡ fewer ++ option_to_list last → length fewer ≤ length pages → ArePagesApart pages → ArePagesApart fewer
shortened pages fewer last is less are =
    let few = are.few in
    record { few = omega (arith, few, less); short = (All-pop (λ (p : Page). length p.items ≤ 64) pages fewer last is are.short).0 }
