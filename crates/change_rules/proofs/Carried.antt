-- The carried table, made life by life.
use Rattle.change_rules.proofs.Common.{Life, LifeTable, List, TypeInfo, [], ap, ap₂, arith, cases_lt, drop, get_or, inl, inr, length, refl, sym, type_named, ℕ}
use Rattle.{change_rules.proofs.Common.{◌++◌, ◌+◌, ◌<◌, ◌∙◌, ◌∷◌, ◌≡◌, ◌≤◌}, fx_base.proofs.Sequences.{drop_at, drop_past}}
use Rattle.{rule_change.specs.Changed.{carried_life, carried_lives}, std.proofs.{Common.{append-nil, append_assoc, min}, lemmas.List.{get_or_default}}}

module _ (old : List TypeInfo) (table : LifeTable) (types : List TypeInfo) (own lives : List Life) (place : ℕ) where
  abbrev rest : ℕ → List Life
  rest n = carried_lives old table (drop n types) (drop n own)

  pub one_carried : (ty : TypeInfo) (none : Life) (now : List Life) → place < length types → place < length own
      → now ≡ lives ++ carried_life table (get_or own place none) (type_named (get_or types place ty).name old 0) ∷ []
      → lives ++ rest place ≡ carried_lives old table types own → now ++ rest (place + 1) ≡ carried_lives old table types own
  unfolding carried_lives
  one_carried ty none now low less made so =
      let t = get_or types place ty in
      let needs = get_or own place none in
      ap (λ (xs : List Life). xs ++ rest (place + 1)) made ∙ append_assoc lives (carried_life table needs (type_named t.name old 0) ∷ []) (rest (place + 1))
      ∙ ap (λ (more : List Life). lives ++ more)
      (sym (ap₂ (carried_lives old table) (drop_at types place t low (get_or_default types place ty t low))
      (drop_at own place needs less (get_or_default own place none needs less)))) ∙ so

  none_left : (rest_types : List TypeInfo) → carried_lives old table rest_types [] ≡ []
  unfolding carried_lives
  none_left [] = refl
  none_left (ty ∷ types) = refl

  pub all_carried : min (length types) (length own) ≤ place → lives ++ rest place ≡ carried_lives old table types own → lives ≡ carried_lives old table types own
  unfolding carried_lives
  all_carried end so = sym (ap (λ (more : List Life). lives ++ more) nothing ∙ append-nil lives) ∙ so
    where
      nothing : rest place ≡ []
      nothing = elim (cases_lt place (length types)) [
        | inl low ↦ (ap (carried_lives old table (drop place types)) (drop_past own place (omega (arith, end, low))) ∙ none_left (drop place types))
        | inr high ↦ ap (λ (more : List TypeInfo). carried_lives old table more (drop place own)) (drop_past types place high)
      ]
