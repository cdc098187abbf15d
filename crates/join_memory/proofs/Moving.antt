-- What is kept is seen alike in two stores that have the same facts at the tags that are kept.
use Rattle.join_memory.proofs.Common.{◌≡◌, ◌∙◌, sym, ap, refl, subst, ℕ, zero, suc, List, [], ◌∷◌, map, Bool, true, false, cond, Option, Some, None, is_some}
use Rattle.join_memory.proofs.Common.{option_map, Value, same_value, equal_values, Named, Row, row_cmp, name_cmp, Pattern, Look, at, has_left, has_right}
use Rattle.join_memory.proofs.Common.{option_and_then, is_named_version, version_at, versions_at, tuple_at, passes_given, kept_under, AlikeOn, MemoryMoveLaw}
use Rattle.{fx_base.{specs.declared.fact.Fact.{Fact}, proofs.Sequences.{is_some-false}}, rule_model.specs.Lent.{named_at, bound_in, tuple_of}}
use Rattle.{rule_model.specs.Tests.{field_of}, join_tests.specs.declared.key.{JoinKey.{JoinKey}, JoinSide.{JoinSide, TheVariants.{Field, Accumulated}}}}
use Rattle.join_tests.specs.{Joins.{joins}, declared.time_key.TimeKey.{TimeKey}, Keys.{join_keys, earlier_value, given_or_true}, TimeKeys.{time_key}}
use Rattle.join_tests.specs.{Slots.{moment_at_point}, Kept.{row_value, candidate_value}}

module _ (look other : Look) where
  pub named_alike : (names : List Named) → AlikeOn look other names → (k : ℕ) → named_at look names k ≡ named_at other names k
  named_alike [] h k = refl
  named_alike (n ∷ names) h zero = h.0
  named_alike (n ∷ names) h (suc k) = named_alike names h.1 k

  side_alike : (side : JoinSide) (row : Row) → AlikeOn look other row.facts → earlier_value (bound_in look row) side ≡ earlier_value (bound_in other row) side
  side_alike (Field fact of) row h = ap (λ found. field_of found of) (named_alike row.facts h fact)
  side_alike (Accumulated place) row h = refl

  row_value_alike : (p : Pattern) (row : Row) → AlikeOn look other row.facts → row_value p look row ≡ row_value p other row
  unfolding row_value
  row_value_alike p row h =
      λ i. kept_under (map (λ (key : JoinKey). given_or_true (side_alike key.side row h i)) (join_keys p)) (time_key p) (λ (key : TimeKey). moment_at_point key.event (named_alike row.facts h key.fact i))

  candidate_value_alike : (p : Pattern) (who : Named) → look who.tag ≡ other who.tag → candidate_value p look who ≡ candidate_value p other who
  unfolding candidate_value
  candidate_value_alike p who h =
      ap (λ found. kept_under (map (λ (key : JoinKey). given_or_true (field_of found key.field)) (join_keys p)) (time_key p) (λ (key : TimeKey). moment_at_point key.own found)) h

  version_alike : (named : Named) → look named.tag ≡ other named.tag → version_at look named ≡ version_at other named
  version_alike named h = ap (option_and_then (λ (f : Fact). cond (is_named_version named f) (Some f) None)) h

  versions_alike : (names : List Named) → AlikeOn look other names → versions_at look names ≡ versions_at other names
  versions_alike [] h = refl
  versions_alike (n ∷ names) h =
      ap (λ rest. option_and_then (λ (f : Fact). option_map (λ facts. f ∷ facts) rest) (version_at look n)) (versions_alike names h.1)
      ∙ ap (option_and_then (λ (f : Fact). option_map (λ facts. f ∷ facts) (versions_at other names))) (version_alike n h.0)

  pub joins_alike : (p : Pattern) (row : Row) (who : Named) → AlikeOn look other row.facts → look who.tag ≡ other who.tag → joins p look row who ≡ joins p other row who
  unfolding joins
  joins_alike p row who h e =
      ap (λ all. passes_given p (option_map (λ facts. tuple_of facts row.values) all) (version_at look who)) (versions_alike row.facts h)
      ∙ ap (passes_given p (tuple_at other row)) (version_alike who e)

-- one memory: f and g are the join values in the two stores
module _ {K S : Type 0} (kept : Value → K → Option S) (f g : K → Value) (agrees : (v : Value) (k : K) → is_some (kept v k) ≡ true → same_value (f k) v ≡ true) (alike : (k : K) → is_some (kept (f k) k) ≡ true → f k ≡ g k) where
  -- what is kept anywhere stands under its value
  under : (v : Value) (k : K) → is_some (kept v k) ≡ true → is_some (kept (f k) k) ≡ true
  under v k h = subst (λ w. is_some (kept w k) ≡ true) (sym (equal_values (f k) v (agrees v k h))) h

  pub agrees_too : (v : Value) (k : K) → is_some (kept v k) ≡ true → same_value (g k) v ≡ true
  agrees_too v k h = subst (λ w. same_value w v ≡ true) (alike k (under v k h)) (agrees v k h)

  not_there : (k : K) → is_some (kept (f k) k) ≡ false → (b : Bool) → is_some (kept (g k) k) ≡ b → b ≡ false
  not_there k e true h = sym (under (g k) k h) ∙ e
  not_there k e false h = refl

  same_by : (k : K) (b : Bool) → is_some (kept (f k) k) ≡ b → kept (g k) k ≡ kept (f k) k
  same_by k true e = ap (λ v. kept v k) (sym (alike k e))
  same_by k false e = is_some-false (kept (g k) k) (not_there k e (is_some (kept (g k) k)) refl) ∙ sym (is_some-false (kept (f k) k) e)

  pub same_kept : (k : K) → kept (g k) k ≡ kept (f k) k
  same_kept k = same_by k (is_some (kept (f k) k)) refl

pub move_law : (S : Type 0) → MemoryMoveLaw S
move_law S m look other agrees alike =
    let p = m.pattern in
    let rows_alike : (row : Row) → has_left m look row ≡ true → row_value p look row ≡ row_value p other row = λ row e. row_value_alike look other p row (alike.rows row e) in
    let names_alike : (who : Named) → has_right m look who ≡ true → candidate_value p look who ≡ candidate_value p other who = λ who e. candidate_value_alike look other p who (alike.names who e) in (
      record {
        rows = agrees_too (at same_value row_cmp m.left) (row_value p look) (row_value p other) agrees.rows rows_alike;
        names = agrees_too (at same_value name_cmp m.right) (candidate_value p look) (candidate_value p other) agrees.names names_alike;
      },
      same_kept (at same_value row_cmp m.left) (row_value p look) (row_value p other) agrees.rows rows_alike,
      (λ who. ap is_some (same_kept (at same_value name_cmp m.right) (candidate_value p look) (candidate_value p other) agrees.names names_alike who)),
      (λ row who e f. sym (joins_alike look other m.pattern row who (alike.rows row e) (alike.names who f))),
    )
