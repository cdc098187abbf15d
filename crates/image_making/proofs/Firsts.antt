-- Moments of entry points, one after the other.
use Rattle.std.proofs.Common.{List, Option, [], ap, arith, inl, inr, length, refl, subst, suc, sym, zero, ℕ, ℤ, pos, ◌++◌, ◌+◌, ◌<◌, ◌∙◌, ◌∷◌, ◌≡◌, ◌≤◌, ◌⊎◌}
use Rattle.std.{proofs.lemmas.{Bool.{cases_lt}, Option.{slice_get_past}, List.{length-append}}, specs.Option.{option_and_then}}
use Rattle.{fx_base.proofs.Orders.{below_or_last}, image_laws.specs.Images.{AreMoments}, rule_change.specs.Changed.{entry_in, moment_or_zero}}
use Rattle.{rule_model.specs.{declared.program.{Program.{Program}, EntryInfo.{EntryInfo}}, Moments.{moment_in}}, change_resolve.specs.Changes.{entry_named}}

-- the first so many moments
pub record AreFirst (of : ℕ → ℤ) (entries : ℕ) (moments : List ℤ) : Type 0 where
  pub as_many : length moments ≡ entries
  pub each : (entry : ℕ) → entry < entries → moment_in moments entry ≡ of entry

pub none_first : (of : ℕ → ℤ) → AreFirst of 0 []
none_first of = record { as_many = refl; each = λ entry less. absurd (omega (arith, less)) }

at_end : (moments : List ℤ) (moment : ℤ) → moment_in (moments ++ moment ∷ []) (length moments) ≡ moment
at_end [] moment = refl
at_end (m ∷ moments) moment = at_end moments moment

before_end : (moments : List ℤ) (moment : ℤ) (k : ℕ) → k < length moments → moment_in (moments ++ moment ∷ []) k ≡ moment_in moments k
before_end [] moment k less = absurd (omega (arith, less))
before_end (m ∷ moments) moment zero less = refl
before_end (m ∷ moments) moment (suc k) less = before_end moments moment k (omega (arith, less))

pub one_first : (of : ℕ → ℤ) (n : ℕ) (moments : List ℤ) (moment : ℤ) → moment ≡ of n → AreFirst of n moments → AreFirst of (n + 1) (moments ++ moment ∷ [])
one_first of n moments moment is are = record {
  as_many = length-append moments (moment ∷ []) ∙ ap (λ m. m + 1) are.as_many;
  each = λ entry less. by entry (below_or_last entry n less);
}
  where
    by : (entry : ℕ) → (entry < n) ⊎ (entry ≡ n) → moment_in (moments ++ moment ∷ []) entry ≡ of entry
    by entry (inl less) = before_end moments moment entry (subst (λ (m : ℕ). entry < m) (sym are.as_many) less) ∙ are.each entry less
    by entry (inr same) =
        ap (moment_in (moments ++ moment ∷ [])) (same ∙ sym are.as_many) ∙ at_end moments moment ∙ is ∙ ap of (sym same)

beyond : (moments : List ℤ) (k : ℕ) → length moments ≤ k → moment_in moments k ≡ pos 0
beyond [] k over = refl
beyond (m ∷ moments) zero over = absurd (omega (arith, over))
beyond (m ∷ moments) (suc k) over = beyond moments k (omega (arith, over))

-- all of them
pub all_first : (p q : Program) (was : ℕ → ℤ) (moments : List ℤ) → AreFirst (λ entry. moment_or_zero was (entry_in q p entry)) (length q.entries) moments
    → AreMoments (λ entry. moment_or_zero was (entry_in q p entry)) (length q.entries) moments
all_first p q was moments are = record {
  as_many = are.as_many;
  each = λ entry. elim (cases_lt entry (length q.entries)) [
    | inl less ↦ are.each entry less
    | inr over ↦ beyond moments entry (subst (λ (m : ℕ). m ≤ entry) (sym are.as_many) over) ∙ sym (none entry over)
  ];
}
  where
    none : (entry : ℕ) → length q.entries ≤ entry → moment_or_zero was (entry_in q p entry) ≡ pos 0
    none entry over = ap (λ (o : Option EntryInfo). moment_or_zero was (option_and_then (λ (e : EntryInfo). entry_named e.name p.entries 0) o)) (slice_get_past q.entries entry over)
