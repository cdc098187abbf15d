-- What is told of the rules, one behind the other.
use Rattle.change_rules.proofs.Common.{List, None, Option, Program, Rule, [], ap, ap₂, arith, drop, get_or, is_place, length, list_any, place_in, refl, sym}
use Rattle.change_rules.{proofs.Common.{take, true, ℕ, ◌++◌, ◌+◌, ◌<◌, ◌∙◌, ◌∷◌, ◌≡◌, ◌≤◌}, specs.Told.{all_told, was_told, with_told}}
use Rattle.{fx_base.proofs.Sequences.{drop_at, drop_past}, rule_change.specs.Told.{ToldRule, each_once, gone_told, is_same_told, new_told, places_from}}
use Rattle.{rule_change.specs.{Told.{rules_told, status_of}, declared.code.RuleStatus.TheVariants.{Gone}}, std.proofs.Common.{Bool, append-nil, append_assoc}}
use Rattle.std.proofs.Common.{cond, false, min, suc, zero, ◌||◌}

-- ---- each once

any_last : {A : Type 0} (test : A → Bool) (xs : List A) (x : A) → list_any test (xs ++ x ∷ []) ≡ (test x || list_any test xs)
any_last test [] x = refl
any_last test (y ∷ xs) x = by (test y) (test x) (list_any test xs) (list_any test (xs ++ x ∷ [])) (any_last test xs x)
  where
    by : (y x rest all : Bool) → all ≡ (x || rest) → (y || all) ≡ (x || (y || rest))
    by true true rest all e = refl
    by true false rest all e = refl
    by false true rest all e = e
    by false false rest all e = e

-- those before have the same members as those that are told
same_last : (done before : List ToldRule) (told : ToldRule) → ((other : ToldRule) → list_any (is_same_told other) before ≡ was_told done other)
    → (other : ToldRule) → list_any (is_same_told other) (told ∷ before) ≡ was_told (done ++ told ∷ []) other
same_last done before told same other = ap (λ (b : Bool). is_same_told other told || b) (same other) ∙ sym (any_last (is_same_told other) done told)

each_is : (done before more : List ToldRule) → ((told : ToldRule) → list_any (is_same_told told) before ≡ was_told done told)
    → done ++ each_once before more ≡ all_told done more
unfolding each_once
each_is done before [] same = append-nil done
each_is done before (told ∷ more) same =
    by (list_any (is_same_told told) before) (same told) (each_is done before more same)
    (each_is (done ++ told ∷ []) (told ∷ before) more (same_last done before told same))
  where
    by : (b : Bool) → b ≡ was_told done told → done ++ each_once before more ≡ all_told done more
        → (done ++ told ∷ []) ++ each_once (told ∷ before) more ≡ all_told (done ++ told ∷ []) more
        → done ++ cond b (each_once before more) (told ∷ each_once (told ∷ before) more) ≡ all_told (with_told done told) more
    by true e skipped taken = skipped ∙ ap (λ (b : Bool). all_told (cond b done (done ++ told ∷ [])) more) e
    by false e skipped taken =
        sym (append_assoc done (told ∷ []) (each_once (told ∷ before) more)) ∙ taken
        ∙ ap (λ (b : Bool). all_told (cond b done (done ++ told ∷ [])) more) e

all_behind : (done first second : List ToldRule) → all_told done (first ++ second) ≡ all_told (all_told done first) second
all_behind done [] second = refl
all_behind done (told ∷ first) second = all_behind (with_told done told) first second

-- ---- the old rules that stay

-- a list that has the same places
gone_same : (a b : List (Option ℕ)) → ((old : ℕ) → list_any (is_place old) a ≡ list_any (is_place old) b) → (rules : List Rule) (place : ℕ)
    → gone_told a rules place ≡ gone_told b rules place
unfolding gone_told
gone_same a b same [] place = refl
gone_same a b same (rule ∷ rules) place =
    ap₂ (λ (t : Bool) (more : List ToldRule). cond t more ((rule.name, Gone) ∷ more)) (same place) (gone_same a b same rules (place + 1))

here : (k : ℕ) → k ≡ k + 0
here k = omega arith

further : (k n : ℕ) → k + 1 + n ≡ k + suc n
further k n = omega arith

module _ (old : ℕ) (from : ℕ → Option ℕ) where
  none_stays : (rules : List Rule) (place : ℕ) → ((n : ℕ) → from (place + n) ≡ None) → list_any (is_place old) (places_from from rules place) ≡ false
  unfolding places_from
  none_stays [] place none = refl
  none_stays (rule ∷ rules) place none =
      ap₂ (λ (o : Option ℕ) (rest : Bool). is_place old o || rest) (ap from (here place) ∙ none 0)
      (none_stays rules (place + 1) (λ n. ap from (further place n) ∙ none (suc n)))

  none_among : (many : ℕ) → false ≡ list_any (is_place old) (take many [])
  none_among zero = refl
  none_among (suc many) = refl

  -- the places of new rules are the front of a list of places
  stay_is : (rules : List Rule) (place : ℕ) (places : List (Option ℕ)) (many : ℕ) → ((n : ℕ) → from (place + n) ≡ place_in places n)
      → ((n : ℕ) → n < length rules → n < length places → n < many) → many ≤ length rules
      → list_any (is_place old) (places_from from rules place) ≡ list_any (is_place old) (take many places)
  unfolding places_from
  stay_is [] place places zero is all few = refl
  stay_is [] place places (suc many) is all few = absurd (omega (arith, few))
  stay_is (rule ∷ rules) place [] many is all few = none_stays (rule ∷ rules) place is ∙ none_among many
  stay_is (rule ∷ rules) place (x ∷ places) zero is all few = absurd (let torn : 0 < 0 = all 0 (omega arith) (omega arith) in omega (arith, torn))
  stay_is (rule ∷ rules) place (x ∷ places) (suc many) is all few =
      ap₂ (λ (o : Option ℕ) (rest : Bool). is_place old o || rest) (ap from (here place) ∙ is 0)
      (stay_is rules (place + 1) places many (λ n. ap from (further place n) ∙ is (suc n))
      (λ n low less. let more : suc n < suc many = all (suc n) (omega (arith, low)) (omega (arith, less)) in omega (arith, more)) (omega (arith, few)))

-- ---- all of it

pub told_is : (p q : Program) (places stay : List (Option ℕ)) (many : ℕ) (first second : List ToldRule) → many ≡ min (length places) (length q.rules)
    → stay ≡ take many places
    → first ≡ all_told [] (new_told (place_in places) q.rules 0) → second ≡ all_told first (gone_told stay p.rules 0)
    → second ≡ rules_told p q (place_in places)
unfolding rules_told
told_is p q places stay many first second count front one two =
    let from = place_in places in
    let new = new_told (place_in places) q.rules 0 in
    let stays : (old : ℕ) → list_any (is_place old) stay ≡ list_any (is_place old) (places_from (place_in places) q.rules 0) =
    λ old. ap (list_any (is_place old)) front
    ∙ sym (stay_is old (place_in places) q.rules 0 places many (λ n. ap (place_in places) (behind_none n))
    (λ n low less. omega (arith, count, low, less)) (omega (arith, count))) in
    two ∙ ap (λ (done : List ToldRule). all_told done (gone_told stay p.rules 0)) one
    ∙ ap (all_told (all_told [] new)) (gone_same stay (places_from (place_in places) q.rules 0) stays p.rules 0)
    ∙ sym (all_behind [] new (gone_told (places_from (place_in places) q.rules 0) p.rules 0))
    ∙ sym (each_is [] [] (new ++ gone_told (places_from (place_in places) q.rules 0) p.rules 0) (λ told. refl))
  where
    behind_none : (n : ℕ) → 0 + n ≡ n
    behind_none n = omega arith

-- ---- rule by rule

module _ (rules : List Rule) (place : ℕ) (done total : List ToldRule) where
  module _ (rule : Rule) (low : place < length rules) (stands : rule ≡ get_or rules place rule) where
    abbrev next : List Rule
    next = drop (place + 1) rules

    cut : drop place rules ≡ rule ∷ next
    cut = drop_at rules place rule low stands

    pub new_goes_on : (from : ℕ → Option ℕ) (now : List ToldRule) → now ≡ with_told done (rule.name, status_of (from place))
        → all_told done (new_told from (drop place rules) place) ≡ total → all_told now (new_told from next (place + 1)) ≡ total
    unfolding new_told
    new_goes_on from now is so =
        ap (λ (d : List ToldRule). all_told d (new_told from next (place + 1))) is
        ∙ sym (ap (λ (rs : List Rule). all_told done (new_told from rs place)) cut) ∙ so

    gone_cut : (stay : List (Option ℕ)) → all_told done (gone_told stay (drop place rules) place)
        ≡ all_told done (cond (list_any (is_place place) stay) (gone_told stay next (place + 1)) ((rule.name, Gone) ∷ gone_told stay next (place + 1)))
    unfolding gone_told
    gone_cut stay = ap (λ (rs : List Rule). all_told done (gone_told stay rs place)) cut

    pub gone_goes_on : (stay : List (Option ℕ)) (now : List ToldRule) → list_any (is_place place) stay ≡ false → now ≡ with_told done (rule.name, Gone)
        → all_told done (gone_told stay (drop place rules) place) ≡ total → all_told now (gone_told stay next (place + 1)) ≡ total
    gone_goes_on stay now gone is so =
        let more = gone_told stay next (place + 1) in
        ap (λ (d : List ToldRule). all_told d (gone_told stay next (place + 1))) is
        ∙ sym (gone_cut stay ∙ ap (λ (b : Bool). all_told done (cond b more ((rule.name, Gone) ∷ more))) gone) ∙ so

    pub gone_stays : (stay : List (Option ℕ)) → list_any (is_place place) stay ≡ true
        → all_told done (gone_told stay (drop place rules) place) ≡ total → all_told done (gone_told stay next (place + 1)) ≡ total
    gone_stays stay taken so =
        let more = gone_told stay next (place + 1) in
        sym (gone_cut stay ∙ ap (λ (b : Bool). all_told done (cond b more ((rule.name, Gone) ∷ more))) taken) ∙ so

  pub new_ends : (from : ℕ → Option ℕ) → length rules ≤ place → all_told done (new_told from (drop place rules) place) ≡ total → done ≡ total
  unfolding new_told
  new_ends from past so = sym (ap (λ (rs : List Rule). all_told done (new_told from rs place)) (drop_past rules place past)) ∙ so

  pub gone_ends : (stay : List (Option ℕ)) → length rules ≤ place → all_told done (gone_told stay (drop place rules) place) ≡ total → done ≡ total
  unfolding gone_told
  gone_ends stay past so = sym (ap (λ (rs : List Rule). all_told done (gone_told stay rs place)) (drop_past rules place past)) ∙ so
