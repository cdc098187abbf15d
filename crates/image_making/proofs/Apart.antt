-- First conditions of old rules that are the same under their new places are the same.
use Rattle.{std.proofs.Common.{List, Option, [], ap, ap₂, inl, inr, map, refl, take, ℕ, ◌∷◌, ◌≡◌}, fx_base.specs.Lists.{In}}
use Rattle.{image_change.proofs.Lists.{in_take}, rule_change.{proofs.{Matching.{over_moves}, Places.{Moves, entries_apart}}, specs.Alike.{AreOver, HasPlaces}}}
use Rattle.{rule_change.specs.Changed.{moved_condition, moved_pattern}, rule_model.{proofs.RuleOf.{in_place}, specs.declared.condition.Accumulate.{Accumulate}}}
use Rattle.rule_model.specs.declared.condition.{Condition.{Condition, TheVariants.{Existing, Folded, Negated, Plain}}, Pattern.{Pattern}}
use Rattle.{rule_model.specs.declared.program.Program.{Program}, image_making.specs.Moved.{MovesApart}}

module _ (p q : Program) (m : Moves p q) where
  pattern_apart : (a b : Pattern) → HasPlaces p (Plain a) → HasPlaces p (Plain b) → moved_pattern p q a ≡ moved_pattern p q b → a ≡ b
  pattern_apart a b ha hb e =
      let ty = m.types_apart a.ty.0 b.ty.0 ha.0 hb.0 (ap (λ (x : Pattern). x.ty.0) e) in
      let entry = entries_apart p q m a.entry.0 b.entry.0 ha.1 hb.1 (ap (λ (x : Pattern). x.entry.0) e) in
      λ i. record {
        ty = record { 0 = ty i };
        entry = record { 0 = entry i };
        window = ap (λ (x : Pattern). x.window) e i;
        alone = ap (λ (x : Pattern). x.alone) e i;
        joined = ap (λ (x : Pattern). x.joined) e i;
        times = ap (λ (x : Pattern). x.times) e i;
      }

  condition_apart : (a b : Condition) → HasPlaces p a → HasPlaces p b → moved_condition p q a ≡ moved_condition p q b → a ≡ b
  condition_apart (Plain a) (Plain b) ha hb e = ap Plain (pattern_apart a b ha hb (let s : moved_pattern p q a ≡ moved_pattern p q b = cc in s))
  condition_apart (Negated a) (Negated b) ha hb e = ap Negated (pattern_apart a b ha hb (let s : moved_pattern p q a ≡ moved_pattern p q b = cc in s))
  condition_apart (Existing a) (Existing b) ha hb e = ap Existing (pattern_apart a b ha hb (let s : moved_pattern p q a ≡ moved_pattern p q b = cc in s))
  condition_apart (Folded a) (Folded b) ha hb e =
      let s : (record a { pattern = moved_pattern p q a.pattern }) ≡ (record b { pattern = moved_pattern p q b.pattern }) = cc in
      let t = pattern_apart a.pattern b.pattern ha hb (ap (λ (x : Accumulate). x.pattern) s) in
      λ i. Folded (record { pattern = t i; kind = ap (λ (x : Accumulate). x.kind) s i; arg = ap (λ (x : Accumulate). x.arg) s i; tests = ap (λ (x : Accumulate). x.tests) s i })
  condition_apart (Plain a) (Negated b) ha hb e = absurd cc
  condition_apart (Plain a) (Existing b) ha hb e = absurd cc
  condition_apart (Plain a) (Folded b) ha hb e = absurd cc
  condition_apart (Negated a) (Plain b) ha hb e = absurd cc
  condition_apart (Negated a) (Existing b) ha hb e = absurd cc
  condition_apart (Negated a) (Folded b) ha hb e = absurd cc
  condition_apart (Existing a) (Plain b) ha hb e = absurd cc
  condition_apart (Existing a) (Negated b) ha hb e = absurd cc
  condition_apart (Existing a) (Folded b) ha hb e = absurd cc
  condition_apart (Folded a) (Plain b) ha hb e = absurd cc
  condition_apart (Folded a) (Negated b) ha hb e = absurd cc
  condition_apart (Folded a) (Existing b) ha hb e = absurd cc

  abbrev HavePlacesAll : List Condition → Type 0
  HavePlacesAll cs = (c : Condition) → In c cs → HasPlaces p c

  conditions_apart : (ours others : List Condition) → HavePlacesAll ours → HavePlacesAll others → map (moved_condition p q) ours ≡ map (moved_condition p q) others → ours ≡ others
  conditions_apart [] [] ha hb e = refl
  conditions_apart [] (b ∷ others) ha hb e = absurd cc
  conditions_apart (a ∷ ours) [] ha hb e = absurd cc
  conditions_apart (a ∷ ours) (b ∷ others) ha hb e =
      let first : moved_condition p q a ≡ moved_condition p q b = cc in
      let rest : map (moved_condition p q) ours ≡ map (moved_condition p q) others = cc in
      ap₂ (λ (c : Condition) (cs : List Condition). c ∷ cs) (condition_apart a b (ha a (inl refl)) (hb b (inl refl)) first)
      (conditions_apart ours others (λ c i. ha c (inr i)) (λ c i. hb c (inr i)) rest)

pub moves_apart : (p q : Program) (from : ℕ → Option ℕ) → AreOver p q from → MovesApart p q
moves_apart p q from over a b n one other at there e =
    conditions_apart p q (over_moves p q from over) (take n one.conditions) (take n other.conditions)
    (λ c i. over.places one (in_place p.rules a one at) c (in_take n one.conditions c i))
    (λ c i. over.places other (in_place p.rules b other there) c (in_take n other.conditions c i)) e
