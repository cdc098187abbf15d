-- What is not present makes no row: a world has the matches, the faults and the next worlds of the world with its present facts only.
use Rattle.rule_world.proofs.Common.{◌≡◌, ◌&&◌, ◌==◌, not, ℕ, Bool, true, false, cond, List, [], ◌∷◌, ◌++◌, map, refl, sym, ◌∙◌, ap, filter, fun_ext, Fact, Row}
use Rattle.rule_world.proofs.Common.{Condition, Plain, Negated, Existing, Folded, Pattern, Program, Rule, is_present, fits, is_inside, is_candidate, candidates}
use Rattle.rule_world.proofs.Common.{passes, passing, first, matches, has_match, fire_cmp, saliences, Snapshot, floor, tests_hold, Tuple, empty_tuple, bound_by}
use Rattle.rule_world.proofs.Common.{unbound, World, snapshot, present, only_present, found, fact_of, pending, settled, first_pending, flat_map, is_behind}
use Rattle.rule_world.proofs.Common.{count_behind, matches_from, result_of, with_result, extended, tuples, with_fact, row_of, same_floor}
use Rattle.{std.proofs.{lemmas.Bool.{and_parts}, Common.{nat_lt, length, if◌then◌else◌}}, rule_model.specs.declared.condition.WindowTag.{WindowTag}}
use Rattle.rule_model.specs.{declared.condition.WindowTag.TheVariants.{Whole, Time, Length}, Maturity.{is_mature}, Rows.{rows}}

-- ---- filters

within_by : {A : Type 0} (test keep : A → Bool) (x : A) (xs : List A) → (test x ≡ true → keep x ≡ true) → filter test (filter keep xs) ≡ filter test xs → (k t : Bool) → keep x ≡ k → test x ≡ t
    → filter test (cond k (x ∷ filter keep xs) (filter keep xs)) ≡ cond t (x ∷ filter test xs) (filter test xs)
within_by test keep x xs h rest true t ek et =
    ap (λ b. cond b (x ∷ filter test (filter keep xs)) (filter test (filter keep xs))) et ∙ ap (λ ys. cond t (x ∷ ys) ys) rest
within_by test keep x xs h rest false false ek et = rest
within_by test keep x xs h rest false true ek et = absurd (let n : false ≡ true = sym ek ∙ h et in cc)

pub filter_within : {A : Type 0} (test keep : A → Bool) (xs : List A) → ((x : A) → test x ≡ true → keep x ≡ true) → filter test (filter keep xs) ≡ filter test xs
filter_within test keep [] h = refl
filter_within test keep (x ∷ xs) h = within_by test keep x xs (h x) (filter_within test keep xs h) (keep x) (test x) refl refl

-- two tests that agree on what another one lets pass
pub filter_alike : {A : Type 0} (test other keep : A → Bool) (xs : List A) → ((x : A) → keep x ≡ true → test x ≡ other x) → filter test (filter keep xs) ≡ filter other (filter keep xs)
filter_alike test other keep [] h = refl
filter_alike {A} test other keep (x ∷ xs) h = by (keep x) refl (filter_alike test other keep xs h)
  where
    by : (k : Bool) → keep x ≡ k → filter test (filter keep xs) ≡ filter other (filter keep xs)
        → filter test (cond k (x ∷ filter keep xs) (filter keep xs)) ≡ filter other (cond k (x ∷ filter keep xs) (filter keep xs))
    by true e rest = ap (λ b. cond b (x ∷ filter test (filter keep xs)) (filter test (filter keep xs))) (h x e) ∙ ap (λ ys. cond (other x) (x ∷ ys) ys) rest
    by false e rest = rest

pub filter_same : {A : Type 0} (test other : A → Bool) (xs : List A) → ((x : A) → test x ≡ other x) → filter test xs ≡ filter other xs
filter_same test other xs h = ap (λ t. filter t xs) (fun_ext h)

swap_by : {A : Type 0} (test keep : A → Bool) (x : A) (xs : List A) → filter test (filter keep xs) ≡ filter keep (filter test xs) → (k t : Bool) → keep x ≡ k → test x ≡ t
    → filter test (cond k (x ∷ filter keep xs) (filter keep xs)) ≡ filter keep (cond t (x ∷ filter test xs) (filter test xs))
swap_by test keep x xs rest true true ek et =
    ap (λ b. cond b (x ∷ filter test (filter keep xs)) (filter test (filter keep xs))) et ∙ ap (λ ys. x ∷ ys) rest
    ∙ ap (λ b. cond b (x ∷ filter keep (filter test xs)) (filter keep (filter test xs))) (sym ek)
swap_by test keep x xs rest true false ek et = ap (λ b. cond b (x ∷ filter test (filter keep xs)) (filter test (filter keep xs))) et ∙ rest
swap_by test keep x xs rest false true ek et = rest ∙ ap (λ b. cond b (x ∷ filter keep (filter test xs)) (filter keep (filter test xs))) (sym ek)
swap_by test keep x xs rest false false ek et = rest

pub filter_swap : {A : Type 0} (test keep : A → Bool) (xs : List A) → filter test (filter keep xs) ≡ filter keep (filter test xs)
filter_swap test keep [] = refl
filter_swap test keep (x ∷ xs) = swap_by test keep x xs (filter_swap test keep xs) (keep x) (test x) refl refl

map_by : {A : Type 0} (g : A → A) (x : A) (xs ys : List A) → ys ≡ map g xs → (b : Bool) → cond b (g x ∷ ys) ys ≡ map g (cond b (x ∷ xs) xs)
map_by g x xs ys e true = ap (λ zs. g x ∷ zs) e
map_by g x xs ys e false = e

pub filter_map : {A : Type 0} (test : A → Bool) (g : A → A) (xs : List A) → ((x : A) → test (g x) ≡ test x) → filter test (map g xs) ≡ map g (filter test xs)
filter_map test g [] h = refl
filter_map test g (x ∷ xs) h =
    ap (λ b. cond b (g x ∷ filter test (map g xs)) (filter test (map g xs))) (h x)
    ∙ map_by g x (filter test xs) (filter test (map g xs)) (filter_map test g xs h) (test x)

pub filter_append : {A : Type 0} (test : A → Bool) (xs ys : List A) → filter test (xs ++ ys) ≡ filter test xs ++ filter test ys
filter_append test [] ys = refl
filter_append {A} test (x ∷ xs) ys = ap (λ zs. cond (test x) (x ∷ zs) zs) (filter_append test xs ys) ∙ by (test x)
  where
    by : (b : Bool) → cond b (x ∷ (filter test xs ++ filter test ys)) (filter test xs ++ filter test ys) ≡ cond b (x ∷ filter test xs) (filter test xs) ++ filter test ys
    by true = refl
    by false = refl

-- ---- rows

module _ (p : Program) (w : World) where
  abbrev s : Snapshot
  s = snapshot w

  abbrev o : Snapshot
  o = snapshot (only_present p w)

  fits_present : (q : Pattern) (f : Fact) → fits p q w.clock f ≡ true → is_present p w.clock f ≡ true
  fits_present q f e = (and_parts (is_present p w.clock f) (f.ty.0 == q.ty.0 && (f.entry.0 == q.entry.0 && tests_hold unbound f q.alone)) e).0

  same_behind : (q : Pattern) (f : Fact) → count_behind p q w.clock f (present p w) ≡ count_behind p q w.clock f w.facts
  same_behind q f =
      ap length (filter_within (is_behind p q w.clock f) (is_present p w.clock) w.facts
      (λ g e. fits_present q g (and_parts (nat_lt f.tag.0 g.tag.0) (fits p q w.clock g) e).1))

  same_inside : (q : Pattern) (window : WindowTag) (f : Fact) → is_inside p q window w.clock (present p w) f ≡ is_inside p q window w.clock w.facts f
  same_inside q Whole f = refl
  same_inside q (Time span) f = refl
  same_inside q (Length count) f = ap (λ n. nat_lt n count) (same_behind q f)

  same_candidates : (q : Pattern) → candidates p q o ≡ candidates p q s
  same_candidates q =
      filter_same (is_candidate p q o) (is_candidate p q s) (present p w) (λ f. ap (λ b. fits p q w.clock f && b) (same_inside q q.window f))
      ∙ filter_within (is_candidate p q s) (is_present p w.clock) w.facts
      (λ f e. fits_present q f (and_parts (fits p q w.clock f) (is_inside p q q.window w.clock w.facts f) e).0)

  same_passing : (q : Pattern) (t : Tuple) → passing p q o t ≡ passing p q s t
  same_passing q t = ap (filter (passes q t)) (same_candidates q)

  same_extended : (c : Condition) (t : Tuple) → extended p o c t ≡ extended p s c t
  same_extended (Plain q) t = ap (map (with_fact t)) (same_passing q t)
  same_extended (Negated q) t =
      ap (λ fs. if length fs == 0 && is_mature p q (bound_by t) (floor p o q.entry.0) then t ∷ [] else []) (same_passing q t)
      ∙ ap (λ m. if length (passing p q s t) == 0 && is_mature p q (bound_by t) m then t ∷ [] else []) (same_floor p o s q.entry.0 refl refl)
  same_extended (Existing q) t = ap (λ (fs : List Fact). if length fs == 0 then [] else (t ∷ [])) (same_passing q t)
  same_extended (Folded a) t = ap (λ fs. with_result a t (result_of a fs)) (same_passing a.pattern t)

  same_tuples : (cs : List Condition) (t : Tuple) → tuples p o cs t ≡ tuples p s cs t
  same_tuples [] t = refl
  same_tuples (c ∷ cs) t = ap (flat_map (tuples p o cs)) (same_extended c t) ∙ ap (λ g. flat_map g (extended p s c t)) (fun_ext (same_tuples cs))

  pub kept_rows : (cs : List Condition) → rows p o cs ≡ rows p s cs
  unfolding rows
  kept_rows cs = ap (map row_of) (same_tuples cs empty_tuple)

  pub kept_matches : matches p o ≡ matches p s
  kept_matches = ap (λ (found : Rule → List Row). matches_from 0 (map found p.rules)) (fun_ext (λ (rule : Rule). kept_rows rule.conditions))

  pub kept_pending : pending p (only_present p w) ≡ pending p w
  kept_pending = ap (filter (λ m. not (has_match w.fired m))) kept_matches

  pub kept_first : first_pending p (only_present p w) ≡ first_pending p w
  kept_first = ap (first (fire_cmp (saliences p.rules))) kept_pending

  pub kept_present : present p (only_present p w) ≡ present p w
  kept_present = filter_within (is_present p w.clock) (is_present p w.clock) w.facts (λ f e. e)

  pub kept_found : (id : ℕ) → found p (only_present p w) id ≡ found p w id
  kept_found id = ap (λ facts. fact_of facts id) kept_present

  pub kept_settled : only_present p (settled p w) ≡ settled p (only_present p w)
  kept_settled = ap (λ ms. record w { facts = present p w; fired = filter (has_match ms) w.fired }) (sym kept_matches)
