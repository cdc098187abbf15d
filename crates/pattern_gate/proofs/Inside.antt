-- What is inside the window of a pattern is what is of its candidates.
use Rattle.pattern_gate.proofs.Common.{◌≡◌, ◌∙◌, sym, ap, refl, ℕ, nat_lt, ℤ, List, [], ◌∷◌, map, length, Bool, true, false, cond, ◌&&◌, arith, filter, nat_cmp}
use Rattle.pattern_gate.proofs.Common.{Less, nat_tests, In, Fact, has, Named, fits, candidates, is_inside, Snapshot, name_of, Pattern, WindowTag, Program}
use Rattle.pattern_gate.proofs.Common.{filter_same, row_naming, candidates_of, named_of, inside, rows_inside, arrival_of, arrivals, window_kind_of, length-map}
use Rattle.pattern_gate.proofs.{Common.{IsStrictlySortedBy, Whole, Time, Length}, Arriving.{map_if, filter_made, filter_both, filter_among, number, rises}}
use Rattle.{pattern_gate.proofs.Arriving.{rising_rest, rising}, join_memory.specs.Joined.{has_name}, condition_rows.proofs.Joined.{candidates_named}}
use Rattle.window_gate.proofs.{Insides.{inside_whole, inside_time, is_recent}, Singles.{has-single}}
use Rattle.window_gate.specs.declared.change.WindowKind.TheVariants as kind

and_true : (b : Bool) → b ≡ (b && true)
and_true true = refl
and_true false = refl

less_than : (m n : ℕ) → nat_cmp m n ≡ Less → nat_lt m n ≡ true
less_than m n e = grind (arith, nat_tests)

not_behind : (m n : ℕ) → nat_cmp m n ≡ Less → nat_lt n m ≡ false
not_behind m n e = grind (arith, nat_tests)

not_itself : (m : ℕ) → nat_lt m m ≡ false
not_itself m = grind (arith, nat_tests)

-- ---- the latest of the facts that pass, where they stand in the order of their tags

module _ (test : Fact → Bool) (size : ℕ) (now : ℤ) where
  -- how many pass and have a greater tag
  abbrev count : Fact → List Fact → ℕ
  count f facts = length (filter (λ (g : Fact). nat_lt f.tag.0 g.tag.0 && test g) facts)

  abbrev is_latest : List Fact → Fact → Bool
  is_latest facts f = test f && nat_lt (count f facts) size

  module _ (x : Fact) (facts : List Fact) (rise : IsStrictlySortedBy nat_cmp (map number (x ∷ facts))) where
    behind_first : count x (x ∷ facts) ≡ length (filter test facts)
    behind_first =
        ap (λ b. length (cond (b && test x) (x ∷ filter (λ (g : Fact). nat_lt x.tag.0 g.tag.0 && test g) facts) (filter (λ (g : Fact). nat_lt x.tag.0 g.tag.0 && test g) facts))) (not_itself x.tag.0)
        ∙ ap (λ (gs : List Fact). length gs) (filter_among (λ (g : Fact). nat_lt x.tag.0 g.tag.0 && test g) test facts (λ g i. ap (λ b. b && test g) (less_than x.tag.0 g.tag.0 (rises x facts rise g i))))

    behind_later : (f : Fact) → In f facts → count f (x ∷ facts) ≡ count f facts
    behind_later f i =
        ap (λ b. length (cond (b && test x) (x ∷ filter (λ (g : Fact). nat_lt f.tag.0 g.tag.0 && test g) facts) (filter (λ (g : Fact). nat_lt f.tag.0 g.tag.0 && test g) facts)))
        (not_behind x.tag.0 f.tag.0 (rises x facts rise f i))

    latest_first : filter (is_latest (x ∷ facts)) (x ∷ facts) ≡ cond (test x && nat_lt (length (filter test facts)) size) (x ∷ filter (is_latest facts) facts) (filter (is_latest facts) facts)
    latest_first =
        ap (λ n. cond (test x && nat_lt n size) (x ∷ filter (is_latest (x ∷ facts)) facts) (filter (is_latest (x ∷ facts)) facts)) behind_first
        ∙ ap (λ gs. cond (test x && nat_lt (length (filter test facts)) size) (x ∷ gs) gs)
        (filter_among (is_latest (x ∷ facts)) (is_latest facts) facts (λ f i. ap (λ n. test f && nat_lt n size) (behind_later f i)))

    inside_by : (b : Bool) → inside (kind.Length size) now (map arrival_of (filter test facts)) ≡ map arrival_of (filter (is_latest facts) facts)
        → inside (kind.Length size) now (map arrival_of (cond b (x ∷ filter test facts) (filter test facts)))
        ≡ map arrival_of (cond (b && nat_lt (length (filter test facts)) size) (x ∷ filter (is_latest facts) facts) (filter (is_latest facts) facts))
    inside_by true rest =
        let among = inside (kind.Length size) now (map arrival_of (filter test facts)) in
        ap (λ n. cond (nat_lt n size) (arrival_of x ∷ among) among) (length-map (filter test facts) arrival_of)
        ∙ ap (λ ys. cond (nat_lt (length (filter test facts)) size) (arrival_of x ∷ ys) ys) rest
        ∙ map_if arrival_of (nat_lt (length (filter test facts)) size) x (filter (is_latest facts) facts)
    inside_by false rest = rest

  inside_latest : (facts : List Fact) → IsStrictlySortedBy nat_cmp (map number facts) → inside (kind.Length size) now (map arrival_of (filter test facts)) ≡ map arrival_of (filter (is_latest facts) facts)
  inside_latest [] rise = refl
  inside_latest (x ∷ facts) rise =
      inside_by x facts rise (test x) (inside_latest facts (rising_rest x facts rise)) ∙ ap (map arrival_of) (sym (latest_first x facts rise))

-- ---- the candidates

named_arrivals : (facts : List Fact) → map named_of (map arrival_of facts) ≡ map name_of facts
named_arrivals [] = refl
named_arrivals (f ∷ facts) = ap (λ names. name_of f ∷ names) (named_arrivals facts)

module _ (p : Program) (q : Pattern) (s : Snapshot) (rise : IsStrictlySortedBy nat_cmp (map number s.facts)) where
  -- what is inside is what arrived of the candidates
  pub inside_are : (w : WindowTag) → inside (window_kind_of w) s.clock (arrivals p q s) ≡ map arrival_of (filter (λ f. fits p q s.clock f && is_inside p q w s.clock s.facts f) s.facts)
  inside_are Whole = inside_whole s.clock (arrivals p q s) ∙ ap (map arrival_of) (filter_same (fits p q s.clock) (λ f. fits p q s.clock f && true) s.facts (λ f. and_true (fits p q s.clock f)))
  inside_are (Time span) =
      inside_time span s.clock (arrivals p q s) ∙ filter_made (is_recent span s.clock) arrival_of (filter (fits p q s.clock) s.facts)
      ∙ ap (map arrival_of) (filter_both (fits p q s.clock) (λ f. is_recent span s.clock (arrival_of f)) s.facts)
  inside_are (Length count) = inside_latest (fits p q s.clock) count s.clock s.facts rise

  -- the rows inside name the candidates
  pub rows_named : (who : Named) → has (rows_inside (window_kind_of q.window) s.clock (arrivals p q s)) (row_naming who) ≡ candidates_of p q s who
  rows_named who =
      has-single who (map named_of (inside (window_kind_of q.window) s.clock (arrivals p q s)))
      ∙ ap (λ names. has_name names who) (ap (map named_of) (inside_are q.window) ∙ named_arrivals (candidates p q s))
      ∙ candidates_named p s (rising s.facts rise) q who
