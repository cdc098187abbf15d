-- Facts that leave a session, by their tags.
use Rattle.session_model.proofs.Common.{◌≡◌, ◌∙◌, ◌++◌, ◌||◌, inl, inr, ℕ, Bool, true, false, nat_eq, ◌==◌, length, List, [], ◌∷◌, Option, None, if◌then◌else◌}
use Rattle.session_model.proofs.Common.{refl, sym, ap, subst, append_assoc, arith, Less, Equal, AllByRecursion, list_any, nat_cmp, ordering_then, or-false}
use Rattle.session_model.proofs.{Common.{nat_tests, list_any-append, In, EachOnce, Fact, Timers, due_cmp, moment_of, HeldFacts, fact_left_at}, Members.{is_out}}
use Rattle.{session_model.proofs.Members.{not_out}, std.proofs.lemmas.{Bool.{eqb-false, eqb-true}, Cmp.{nat_cmp_total, int_cmp_total, tied_itself}}}
use Rattle.std.specs.List.Sorted.{IsStrictlySortedBy}
use Rattle.std.specs.FinMap as map

-- ---- what is left

or_none : (a b : Bool) (o : Option Fact) → (if b then None else (if a then None else o)) ≡ (if a || b then None else o)
or_none true true o = refl
or_none true false o = refl
or_none false true o = refl
or_none false false o = refl

out_by : (facts : HeldFacts) (tag t : ℕ) (b : Bool) → nat_eq t tag ≡ b → map.get (map.remove facts tag) t ≡ (if b then None else map.get facts t)
out_by facts tag t true e = ap (map.get (map.remove facts tag)) (eqb-true t tag e) ∙ is_out facts tag
out_by facts tag t false e = not_out facts tag t (eqb-false t tag e)

-- no tags, where their count says so
no_count : (n : ℕ) → (n == 0) ≡ true → n ≡ 0
no_count n e = grind (arith, nat_tests)

pub no_tags : (n : ℕ) (b : Bool) (gone : List ℕ) → b ≡ (n == 0) → b ≡ true → n ≡ length gone → gone ≡ []
no_tags n b [] e t count = refl
no_tags n b (tag ∷ gone) e t count = let zero_is : n ≡ 0 = no_count n (sym e ∙ t) in absurd (omega arith)

-- where none go, all are left
pub none_gone : (facts : HeldFacts) (gone : List ℕ) → gone ≡ [] → (tag : ℕ) → map.get facts tag ≡ fact_left_at facts gone tag
none_gone facts [] e tag = refl
none_gone facts (t ∷ gone) e tag = absurd cc

-- one more is gone
pub one_gone : (first facts rest : HeldFacts) (done : List ℕ) (tag : ℕ) → ((t : ℕ) → map.get facts t ≡ fact_left_at first done t) → rest ≡ map.remove facts tag
    → (t : ℕ) → map.get rest t ≡ fact_left_at first (done ++ tag ∷ []) t
one_gone first facts rest done tag left is t =
    ap (λ m. map.get m t) is ∙ out_by facts tag t (nat_eq t tag) refl ∙ ap (λ o. if nat_eq t tag then None else o) (left t)
    ∙ or_none (list_any (nat_eq t) done) (nat_eq t tag) (map.get first t)
    ∙ ap (λ b. if b then None else map.get first t)
    (ap (λ b. list_any (nat_eq t) done || b) (sym (or-false (nat_eq t tag))) ∙ sym (list_any-append (nat_eq t) done (tag ∷ [])))

-- some had their turn, and these are ahead
abbrev pub AreGone : HeldFacts → List ℕ → HeldFacts → List ℕ → Type 0
AreGone first tags facts ahead = (done : List ℕ) × (tags ≡ done ++ ahead) × ((tag : ℕ) → map.get facts tag ≡ fact_left_at first done tag)

pub turn_gone : (first : HeldFacts) (tags : List ℕ) (facts rest : HeldFacts) (tag : ℕ) (ahead more : List ℕ) → AreGone first tags facts ahead → ahead ≡ tag ∷ more → rest ≡ map.remove facts tag → AreGone first tags rest more
turn_gone first tags facts rest tag ahead more g step made = (
  g.0 ++ tag ∷ [],
  g.1 ∙ ap (λ xs. g.0 ++ xs) step ∙ sym (append_assoc g.0 (tag ∷ []) more),
  one_gone first facts rest g.0 tag g.2 made,
)

-- ---- tags that are due

due_apart : (timers : Timers) (tag : ℕ) → due_cmp timers tag tag ≡ Less → ⊥
due_apart timers tag e =
    let same : due_cmp timers tag tag ≡ Equal = ap (λ o. ordering_then o (nat_cmp tag tag)) (tied_itself int_cmp_total (moment_of timers tag)) ∙ tied_itself nat_cmp_total tag in
    let n : Equal ≡ Less = sym same ∙ e in absurd (cc)

-- each is due once
pub due_once : (timers : Timers) (tags : List ℕ) → IsStrictlySortedBy (due_cmp timers) tags → EachOnce tags
unfolding IsStrictlySortedBy
due_once timers [] sorted = tt
due_once timers (tag ∷ tags) sorted = (λ i. due_apart timers tag (later tags sorted.0 i), due_once timers tags sorted.1)
  where
    later : (tags : List ℕ) → AllByRecursion (λ t. due_cmp timers tag t ≡ Less) tags → In tag tags → due_cmp timers tag tag ≡ Less
    later [] all i = absurd i
    later (t ∷ tags) all (inl e) = subst (λ n. due_cmp timers tag n ≡ Less) (sym e) all.0
    later (t ∷ tags) all (inr i) = later tags all.1 i
