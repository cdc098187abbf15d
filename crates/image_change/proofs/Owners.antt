-- For each condition of each rule there is a first rule that has the conditions up to it.
use Rattle.image_change.proofs.Common.{AreOwners, Condition, IsFirstWith, List, None, Option, Program, Rule, Some, [], ap, ap₂, arith, inl, inr, refl}
use Rattle.{image_change.proofs.Common.{slice_get, subst, suc, sym, take, zero, ℕ, ◌<◌, ◌∙◌, ◌∷◌, ◌≡◌}, std.{proofs.Common.{◌⊎◌}, specs.Coded.{Coded, codes}}}
use base.Stored.{Gv, gcons, gnil, gnum}

-- ---- whether conditions are the same can be told

abbrev Told : {A : Type 0} → A → A → Type 0
Told x y = (x ≡ y) ⊎ (x ≡ y → ⊥)

number_told : (m n : ℕ) → Told m n
number_told zero zero = inl refl
number_told zero (suc n) = inr (λ e. omega (arith, e))
number_told (suc m) zero = inr (λ e. omega (arith, e))
number_told (suc m) (suc n) = elim (number_told m n) [
  | inl e ↦ inl (ap suc e)
  | inr other ↦ inr (λ e. other (omega (arith, e)))
]

code_told : (x y : Gv) → Told x y
code_told gnil gnil = inl refl
code_told gnil (gnum n) = inr (λ e. cc)
code_told gnil (gcons c d) = inr (λ e. cc)
code_told (gnum m) gnil = inr (λ e. cc)
code_told (gnum m) (gnum n) = elim (number_told m n) [
  | inl e ↦ inl (ap gnum e)
  | inr other ↦ inr (λ e. other cc)
]
code_told (gnum m) (gcons c d) = inr (λ e. cc)
code_told (gcons a b) gnil = inr (λ e. cc)
code_told (gcons a b) (gnum n) = inr (λ e. cc)
code_told (gcons a b) (gcons c d) = both (code_told a c) (code_told b d)
  where
    both : Told a c → Told b d → Told (gcons a b) (gcons c d)
    both (inl e) (inl h) = inl (ap₂ gcons e h)
    both (inr other) h = inr (λ e. other cc)
    both e (inr other) = inr (λ e. other cc)

conditions_code : Coded (List Condition)
conditions_code = hlevel codes

conditions_told : (xs ys : List Condition) → Told xs ys
conditions_told xs ys = elim (code_told (conditions_code.code xs) (conditions_code.code ys)) [
  | inl e ↦ inl (conditions_code.inj xs ys e)
  | inr other ↦ inr (λ e. other (ap conditions_code.code e))
]

-- ---- the first rule

module _ (n : ℕ) (conditions : List Condition) where
  abbrev Begins : Rule → Type 0
  Begins rule = take n rule.conditions ≡ take n conditions

  record IsFirst (rules : List Rule) (place : ℕ) : Type 0 where
    rule : Rule
    stands : slice_get rules place ≡ Some rule
    begins : Begins rule
    earlier : (k : ℕ) (other : Rule) → k < place → slice_get rules k ≡ Some other → Begins other → ⊥

  first : (rules : List Rule) (place : ℕ) (rule : Rule) → slice_get rules place ≡ Some rule → Begins rule → (k : ℕ) × IsFirst rules k
  first [] place rule e b = absurd cc
  first (x ∷ rules) place rule e b = by (conditions_told (take n x.conditions) (take n conditions)) place e (λ k h. first rules k rule h b)
    where
      by : Told (take n x.conditions) (take n conditions) → (place : ℕ) → slice_get (x ∷ rules) place ≡ Some rule
          → ((place : ℕ) → slice_get rules place ≡ Some rule → (k : ℕ) × IsFirst rules k) → (k : ℕ) × IsFirst (x ∷ rules) k
      by (inl same) place e later = (0, record { rule = x; stands = refl; begins = same; earlier = λ k other less at same. absurd (omega (arith, less)) })
      by (inr other) zero e later = absurd (other (let same : x ≡ rule = cc in subst Begins (sym same) b))
      by (inr other) (suc place) e later =
          let r = later place e in
          (suc r.0, record { rule = r.1.rule; stands = r.1.stands; begins = r.1.begins; earlier = earlier r.0 r.1 })
        where
          earlier : (place : ℕ) → IsFirst rules place → (k : ℕ) (rule : Rule) → k < suc place → slice_get (x ∷ rules) k ≡ Some rule → Begins rule → ⊥
          earlier place r zero rule less at same = other (let one : x ≡ rule = cc in subst Begins (sym one) same)
          earlier place r (suc k) rule less at same = r.earlier k rule (omega (arith, less)) at same

pub first_with : (p : Program) (n : ℕ) (conditions : List Condition) (place : ℕ) (rule : Rule) → slice_get p.rules place ≡ Some rule → take n rule.conditions ≡ take n conditions
    → (k : ℕ) × IsFirstWith p n conditions k
first_with p n conditions place rule e b =
    let r = first n conditions p.rules place rule e b in
    (r.0, record { rule = r.1.rule; stands = r.1.stands; begins = r.1.begins; earlier = r.1.earlier })

module _ (p : Program) where
  owner : (place k : ℕ) (there : Option Rule) → slice_get p.rules place ≡ there
      → (n : ℕ) × ((rule : Rule) → slice_get p.rules place ≡ Some rule → IsFirstWith p (suc k) rule.conditions n)
  owner place k None e = (0, λ rule h. absurd (let torn : None ≡ Some rule = sym e ∙ h in cc))
  owner place k (Some rule) e =
      let r = first_with p (suc k) rule.conditions place rule e refl in
      (r.0, λ other h. let same : rule ≡ other = (let both : Some rule ≡ Some other = sym e ∙ h in cc) in subst (λ (x : Rule). IsFirstWith p (suc k) x.conditions r.0) same r.1)

  pub owners : (owners : ℕ → ℕ → ℕ) × AreOwners p owners
  owners = (λ place k. (owner place k (slice_get p.rules place) refl).0, λ place k rule e less. (owner place k (slice_get p.rules place) refl).1 rule e)
