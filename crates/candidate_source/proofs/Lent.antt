-- Sources that lend one of them: what it is afterwards, and that they stay apart.
use Rattle.candidate_source.{proofs.Common.{◌∙◌, ap, sym, refl, ◌≡◌, ℕ, Option, Some, None, Value, Source, is_under}, specs.declared.sources.Sources.{Sources}}
use Rattle.candidate_source.specs.{Lending.{with_given, with_source}, Sources.{in_list, lead_of, source_at, source_place, AreApart}}
use Rattle.{candidate_source.proofs.Moving.{same_or_other}, std.proofs.Common.{◌⊎◌, inl, inr, length-set, set, slice_get}}
use Rattle.fx_base.proofs.Sequences.{get-set_other, get-set_same, one_value}

module _ (old : Sources) (k : ℕ) (was is : Source) (there : source_at old k ≡ Some was) where
  -- the nodes are of the sources of which they were, and each source has its first node
  pub lent_place : (j : ℕ) → source_place (with_source old k is) j ≡ source_place old j
  lent_place j = by (source_place old k)
    where
      by : (o : Option ℕ) → source_place (with_given old o is) j ≡ source_place old j
      by None = refl
      by (Some at) = refl

  pub lent_lead : (j : ℕ) → lead_of (with_source old k is) j ≡ lead_of old j
  lent_lead j = by (source_place old k)
    where
      by : (o : Option ℕ) → lead_of (with_given old o is) j ≡ lead_of old j
      by None = refl
      by (Some at) = refl

  -- nodes of the one that was lent have what was given back, the others what they had
  pub lent_same : (j : ℕ) → source_place old j ≡ source_place old k → source_at (with_source old k is) j ≡ Some is
  lent_same j same = by (source_place old k) there same
    where
      by : (o : Option ℕ) → in_list old.list.items o ≡ Some was → source_place old j ≡ o → source_at (with_given old o is) j ≡ Some is
      by None e same = absurd (let no : None ≡ Some was = e in cc)
      by (Some at) e same = ap (in_list (set old.list.items at is)) same ∙ get-set_same old.list.items at is was e

  pub lent_other : (j : ℕ) → (source_place old j ≡ source_place old k → ⊥) → source_at (with_source old k is) j ≡ source_at old j
  lent_other j other = by (source_place old k) other (source_place old j) refl
    where
      by : (o : Option ℕ) → (source_place old j ≡ o → ⊥) → (i : Option ℕ) → source_place old j ≡ i → source_at (with_given old o is) j ≡ source_at old j
      by None other i e = refl
      by (Some at) other None e = ap (in_list (set old.list.items at is)) e ∙ sym (ap (in_list old.list.items) e)
      by (Some at) other (Some i) e =
          ap (in_list (set old.list.items at is)) e ∙ get-set_other old.list.items at i is (λ same. other (e ∙ ap Some same)) ∙ sym (ap (in_list old.list.items) e)

  -- each node is of the one that was lent, or not
  pub lent_or_not : (j : ℕ) → (source_place old j ≡ source_place old k) ⊎ (source_place old j ≡ source_place old k → ⊥)
  lent_or_not j = by (source_place old j) (source_place old k)
    where
      by : (a b : Option ℕ) → (a ≡ b) ⊎ (a ≡ b → ⊥)
      by None None = inl refl
      by None (Some b) = inr (λ e. cc)
      by (Some a) None = inr (λ e. cc)
      by (Some a) (Some b) = elim (same_or_other a b) [
        | inl same ↦ inl (ap Some same)
        | inr other ↦ inr (λ e. other (let same : a ≡ b = cc in same))
      ]

  -- they stay apart where the others are found in it as they were
  pub lent_apart : ((value : Value) (j : ℕ) → (j ≡ k → ⊥) → is_under is.reached value j ≡ is_under was.reached value j) → AreApart old → AreApart (with_source old k is)
  lent_apart others apart = by (source_place old k) there refl
    where
      by : (o : Option ℕ) → in_list old.list.items o ≡ Some was → source_place old k ≡ o → AreApart (with_given old o is)
      by None e of_it = apart
      by (Some at) e of_it = record {
        many = apart.many ∙ sym (length-set old.list.items at is);
        there = λ j i of. elim (same_or_other i at) [
          | inl here ↦ (is, ap (slice_get (set old.list.items at is)) here ∙ get-set_same old.list.items at is was e)
          | inr other ↦ let one = apart.there j i of in (one.0, get-set_other old.list.items at i is other ∙ one.1)
        ];
        led = λ i s f. elim (same_or_other i at) [
          | inl here ↦ apart.led i was (ap (slice_get old.list.items) here ∙ e)
          | inr other ↦ apart.led i s (sym (get-set_other old.list.items at i is other) ∙ f)
        ];
        apart = λ j i s f none. elim (same_or_other i at) [
          | inl here ↦ λ value.
              ap (λ (s : Source). is_under s.reached value j) (one_value (slice_get (set old.list.items at is) at) s is (ap (slice_get (set old.list.items at is)) (sym here) ∙ f) (get-set_same old.list.items at is was e))
              ∙ others value j (λ same. none (ap (source_place old) same ∙ of_it ∙ ap Some (sym here)))
              ∙ apart.apart j i was (ap (slice_get old.list.items) here ∙ e) none value
          | inr other ↦ apart.apart j i s (sym (get-set_other old.list.items at i is other) ∙ f) none
        ];
      }
