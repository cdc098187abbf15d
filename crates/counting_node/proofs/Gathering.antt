-- One candidate more in a fold, and one less; rows with a value more.
use Rattle.counting_node.proofs.Common.{◌≡◌, ◌∙◌, sym, ap, refl, ℤ, List, [], ◌∷◌, map, Bool, true, false, cond, not, ◌&&◌, ◌||◌, Option, Some, None}
use Rattle.counting_node.proofs.Common.{option_map, eq_by_cmp, Held, insert_rising, in_rising_order, insert-insert, Named, Row, row_cmp, name_cmp, name_equiv}
use Rattle.counting_node.proofs.Common.{Accumulate, Look, has_name, with_row_value, unvalued, splits_value, without_value, shows_value, name_decides}
use Rattle.counting_node.proofs.Common.{row_decides, from_unvalued, unvalued_with, with_one, less_one, AreDistinct, argument_of, Gathers, is_from, and_from}
use Rattle.{counting_node.proofs.{Common.{and_parts, or_comm, same_test}, Counting.{dropped, has_dropped, dropped_distinct}}, std.specs.Ordering.{int_eq}}
use Rattle.std.proofs.lemmas.Bool.Decides.{Decides-int_eq}

-- ---- the values of candidates
module _ (arg : Named → ℤ) where
  pub dropped_values : (who : Named) (xs : List Named) → has_name xs who ≡ true → in_rising_order (map arg xs) ≡ insert_rising (arg who) (in_rising_order (map arg (dropped who xs)))
  dropped_values who [] e = let f : false ≡ true = e in cc
  dropped_values who (x ∷ xs) e = by (dropped_values who xs) (eq_by_cmp name_cmp who x) refl e
    where
      by : (has_name xs who ≡ true → in_rising_order (map arg xs) ≡ insert_rising (arg who) (in_rising_order (map arg (dropped who xs)))) → (b : Bool) → eq_by_cmp name_cmp who x ≡ b → (b || has_name xs who) ≡ true
          → insert_rising (arg x) (in_rising_order (map arg xs)) ≡ insert_rising (arg who) (in_rising_order (map arg (cond b xs (x ∷ dropped who xs))))
      by rest true f h = ap (λ y. insert_rising (arg y) (in_rising_order (map arg xs))) (sym ((name_decides who x).0 f))
      by rest false f h = ap (insert_rising (arg x)) (rest h) ∙ insert-insert (arg x) (arg who) (in_rising_order (map arg (dropped who xs)))

  both_ways : (e h : Bool) → (e ≡ true → h ≡ false) → h ≡ ((e || h) && not e)
  both_ways true true k = k refl
  both_ways true false k = refl
  both_ways false true k = refl
  both_ways false false k = refl

  -- lists of the same candidates, each once, have the same values
  pub same_values : (xs ys : List Named) → AreDistinct xs → AreDistinct ys → ((c : Named) → has_name xs c ≡ has_name ys c) → in_rising_order (map arg xs) ≡ in_rising_order (map arg ys)
  same_values [] [] dx dy same = refl
  same_values [] (y ∷ ys) dx dy same = let f : false ≡ true = same y ∙ ap (λ b. b || has_name ys y) (name_equiv.refl y) in cc
  same_values (x ∷ xs) ys dx dy same =
      let rest = same_values xs (dropped x ys) dx.1 (dropped_distinct x ys dy)
      (λ c. both_ways (eq_by_cmp name_cmp x c) (has_name xs c) (λ e. ap (has_name xs) (sym ((name_decides x c).0 e)) ∙ dx.0)
      ∙ ap (λ b. (b || has_name xs c) && not (eq_by_cmp name_cmp x c)) (name_equiv.symm x c) ∙ ap (λ b. b && not (eq_by_cmp name_cmp x c)) (same c) ∙ sym (has_dropped x ys dy c)) in
      ap (insert_rising (arg x)) rest ∙ sym (dropped_values x ys (sym (same x) ∙ ap (λ b. b || has_name xs x) (name_equiv.refl x)))

-- ---- one candidate
module _ (a : Accumulate) (world : Look) where
  pub gathers_more : (set : Named → Bool) (held now : Held) (who : Named) → Gathers a world set held → set who ≡ false → now.kind ≡ held.kind → now.values ≡ insert_rising (argument_of a world who) held.values → Gathers a world (with_one set who) now
  gathers_more set held now who is absent kind values = record {
    names = who ∷ is.names;
    distinct = (is.all who ∙ absent, is.distinct);
    all = λ c. ap (λ b. b || has_name is.names c) (name_equiv.symm c who) ∙ ap (λ b. eq_by_cmp name_cmp who c || b) (is.all c) ∙ or_comm (eq_by_cmp name_cmp who c) (set c);
    kind = kind ∙ is.kind;
    values = values ∙ ap (insert_rising (argument_of a world who)) is.values;
  }

  pub gathers_less : (set : Named → Bool) (held now : Held) (who : Named) → Gathers a world set held → set who ≡ true → now.kind ≡ held.kind
      → ((rest : List ℤ) → held.values ≡ insert_rising (argument_of a world who) rest → now.values ≡ rest) → Gathers a world (less_one set who) now
  gathers_less set held now who is present kind values = record {
    names = dropped who is.names;
    distinct = dropped_distinct who is.names is.distinct;
    all = λ c. has_dropped who is.names is.distinct c ∙ ap (λ b. b && not (eq_by_cmp name_cmp who c)) (is.all c);
    kind = kind ∙ is.kind;
    values = values (in_rising_order (map (argument_of a world) (dropped who is.names))) (is.values ∙ dropped_values (argument_of a world) who is.names (is.all who ∙ present));
  }

-- the row with a value more is what it is read backward to be
pub value_row : (r row : Row) (v : ℤ) → eq_by_cmp row_cmp r (with_row_value row v) ≡ (is_from (without_value r) row && shows_value v r)
value_row r row v = same_test _ _ forth (back (unvalued r) refl)
  where
    read : Option (Row × ℤ) → Bool
    read o = is_from (option_map (λ (p : Row × ℤ). p.0) o) row && splits_value (λ left last. int_eq v last) o

    forth : eq_by_cmp row_cmp r (with_row_value row v) ≡ true → read (unvalued r) ≡ true
    forth e =
        ap (λ (x : Row). read (unvalued x)) ((row_decides r (with_row_value row v)).0 e) ∙ ap read (unvalued_with row v)
        ∙ and_from (eq_by_cmp row_cmp row row) (int_eq v v) ((row_decides row row).1 refl) ((Decides-int_eq v v).1 refl)

    back : (o : Option (Row × ℤ)) → unvalued r ≡ o → read (unvalued r) ≡ true → eq_by_cmp row_cmp r (with_row_value row v) ≡ true
    back None s e = let f : false ≡ true = ap read (sym s) ∙ e in cc
    back (Some p) s e =
        let k = and_parts (eq_by_cmp row_cmp row p.0) (int_eq v p.1) (ap read (sym s) ∙ e) in
        (row_decides r (with_row_value row v)).1
        (from_unvalued r p s ∙ ap (λ x. with_row_value p.0 x) (sym ((Decides-int_eq v p.1).0 k.1)) ∙ ap (λ (x : Row). with_row_value x v) (sym ((row_decides row p.0).0 k.0)))
