-- The candidates that the memory's indexes give, in the order of their insertion.
use Rattle.alpha_memory.proofs.Common.{◌≡◌, ◌∙◌, ap, refl, subst, ℕ, suc, zero, ◌<◌, List, [], ◌∷◌, length, Bool, true, Option, Some, None, BTreeMap, arith}
use Rattle.alpha_memory.proofs.Common.{Contains, is_some, option_and_then, nat_cmp, nat_cmp_total, nat_eq_equiv, IsFromIterResult, is_at, keys_of, values_of}
use Rattle.alpha_memory.proofs.Common.{lookup, eqb-true, exact_unsigned, lookup-from_Contains, Value, same_value, Named, Candidate, names_of, with_join, at}
use Rattle.alpha_memory.proofs.Common.{bucket_at, candidate, name_entry, under, AgreePlaces, JoinIndex, Place, slice_index_or, IfSome, Contains-from_lookup}
use Rattle.{alpha_memory.proofs.Common.{IfSome-btree_map_get_from_list, btree_map_contains_key_from_list, numbered}, std.proofs.Common.{map as list_map}}
use Rattle.std.specs.BTreeMap as tree
use Rattle.std.specs.FinMap as map
use Rattle.{std.specs.List.Sorted.{IsStrictlySortedBy}, alpha_memory.proofs.{Numbers.{same_option, HasNumber, has_number, number_has}, Listed.{chosen}}}
use Rattle.{alpha_memory.proofs.{Listed.{names_in_order, no_names, all_pass}, Agreeing.{listed}}, fx_base.proofs.Sequences.{is_some-value, one_value}}

-- ---- the candidates with one join value

-- what stands under a join value is what passes the test for it
under_chosen : (join : Value) (o : Option Candidate) → under join o ≡ chosen (λ c. same_value join c.1) o
under_chosen join None = refl
under_chosen join (Some c) = refl

module _ (places : List (ℕ × Place)) (next : ℕ) (index : JoinIndex Value ℕ Named) (agree : AgreePlaces places next index) (join : Value) where
  pub bucket_names : (entries : List (ℕ × Named)) → Some entries ≡ bucket_at same_value index join → IsStrictlySortedBy nat_cmp (keys_of entries) → values_of entries ≡ names_of (with_join (listed places) join)
  bucket_names entries here sorted =
      names_in_order (numbered places) (λ c. same_value join c.1) entries sorted (λ n.
      ap (option_and_then (lookup (is_at (nat_cmp n)))) here ∙ agree.by_join join n ∙ under_chosen join (map.get (numbered places) n))

  pub no_bucket : None ≡ bucket_at same_value index join → [] ≡ names_of (with_join (listed places) join)
  no_bucket none =
      no_names (numbered places) (λ c. same_value join c.1) (λ n.
      ap (option_and_then (lookup (is_at (nat_cmp n)))) none ∙ agree.by_join join n ∙ under_chosen join (map.get (numbered places) n))

-- ---- all candidates

-- a name under a number has its place under some tag
place_of : (places : List (ℕ × Place)) (n : ℕ) (who : Named) → Contains (list_map name_entry places) (n, who)
    → (tag : ℕ) × (place : Place) × Contains places (tag, place) × (place.number ≡ n) × ((candidate tag place).0 ≡ who)
place_of [] n who at = absurd (let h : at.0 < 0 = at.1 in omega arith)
place_of (x ∷ xs) n who at = by at.0 at.1 at.2 (place_of xs n who)
  where
    Found : List (ℕ × Place) → Type 0
    Found ps = (tag : ℕ) × (place : Place) × Contains ps (tag, place) × (place.number ≡ n) × ((candidate tag place).0 ≡ who)

    by : (k : ℕ) → k < suc (length (list_map name_entry xs)) → slice_index_or (name_entry x ∷ list_map name_entry xs) k (n, who) ≡ (n, who) → (Contains (list_map name_entry xs) (n, who) → Found xs) → Found (x ∷ xs)
    by zero below e rest = (x.0, x.1, (0, omega arith, refl), ap (λ (p : ℕ × Named). p.0) e, ap (λ (p : ℕ × Named). p.1) e)
    by (suc k) below e rest =
        let r = rest (k, omega arith, e) in
        (r.0, r.1, (suc r.2.0, omega (arith, r.2.1), r.2.2), r.3, r.4)

-- each place gives a name under its number
number_of : (places : List (ℕ × Place)) (tag : ℕ) (place : Place) → Contains places (tag, place) → Contains (keys_of (list_map name_entry places)) place.number
number_of [] tag place at = absurd (let h : at.0 < 0 = at.1 in omega arith)
number_of (x ∷ xs) tag place at = by at.0 at.1 at.2 (number_of xs tag place)
  where
    by : (k : ℕ) → k < suc (length xs) → slice_index_or (x ∷ xs) k (tag, place) ≡ (tag, place) → (Contains xs (tag, place) → Contains (keys_of (list_map name_entry xs)) place.number)
        → Contains (x.1.number ∷ keys_of (list_map name_entry xs)) place.number
    by zero below e rest = (0, omega arith, ap (λ (p : ℕ × Place). p.1.number) e)
    by (suc k) below e rest = let r = rest (k, omega arith, e) in (suc r.0, omega (arith, r.1), r.2)

module _ (places : List (ℕ × Place)) (next : ℕ) (index : JoinIndex Value ℕ Named) (agree : AgreePlaces places next index) (names : BTreeMap ℕ Named)
    (made : IsFromIterResult nat_cmp (list_map name_entry places) names) where
  any : Candidate → Bool
  any c = true

  -- a number has the name of its candidate
  forth : (n : ℕ) (who : Named) → tree.get nat_cmp names n ≡ Some who → chosen any (map.get (numbered places) n) ≡ Some who
  unfolding any
  forth n who e =
      let at = IfSome-btree_map_get_from_list nat_cmp_total exact_unsigned (list_map name_entry places) names made n in
      let p = place_of places n who (subst (λ (o : Option Named). IfSome o (λ v. Contains (list_map name_entry places) (n, v))) e at) in
      let h : HasNumber places n (candidate p.0 p.1) = record { tag = p.0; place = p.1; here = lookup-from_Contains nat_eq_equiv p.0 p.1 places agree.once p.2; own = p.3; is = refl } in
      ap (chosen any) (number_has places agree.once agree.apart n (candidate p.0 p.1) h) ∙ ap Some p.4

  -- and each candidate has its name there
  back : (n : ℕ) (who : Named) → chosen any (map.get (numbered places) n) ≡ Some who → tree.get nat_cmp names n ≡ Some who
  unfolding any
  back n who e = by (map.get (numbered places) n) refl e
    where
      by : (o : Option Candidate) → map.get (numbered places) n ≡ o → chosen any o ≡ Some who → tree.get nat_cmp names n ≡ Some who
      by None f g = absurd (let x : None ≡ Some who = g in cc)
      by (Some c) f g =
          let h = has_number places agree.once n c f in
          let key = number_of places h.tag h.place (Contains-from_lookup eqb-true h.tag h.place places h.here) in
          let found = (btree_map_contains_key_from_list nat_cmp_total exact_unsigned (list_map name_entry places) names made h.place.number).1 key in
          let s = is_some-value (tree.get nat_cmp names n) (subst (λ k. is_some (tree.get nat_cmp names k) ≡ true) h.own found) in
          s.1 ∙ ap Some (one_value (chosen any (map.get (numbered places) n)) s.0 who (forth n s.0 s.1) e)

  pub all_names : IsStrictlySortedBy nat_cmp (keys_of names.entries) → values_of names.entries ≡ names_of (listed places)
  unfolding any
  all_names sorted =
      names_in_order (numbered places) any names.entries sorted
      (λ n. same_option (tree.get nat_cmp names n) (chosen any (map.get (numbered places) n)) (forth n) (back n))
      ∙ ap names_of (all_pass (listed places))
