-- Rows that are made by one fact more.
use Rattle.join_memory.proofs.Common.{◌≡◌, ◌∙◌, sym, ap, refl, subst, List, [], ◌∷◌, Bool, true, false, ◌&&◌, ◌||◌, Option, Some, None, is_some, option_map}
use Rattle.join_memory.proofs.Common.{is_at, eq_by_cmp, is_some-lookup, Named, Row, row_cmp, has, same_equiv, name_cmp, name_equiv, found, with_name}
use Rattle.join_memory.proofs.{Common.{split_last, unjoined, splits, has_name, row_exact, name_exact, front_of}, Lasts.{split_snoc, is_snoc}}
use Rattle.{join_memory.specs.Joined.{joined}, std.proofs.{lemmas.Bool.{and_from, and_parts, Decides.{same_from_decides}}, Math.Bool.{and-false, or-false}}}
use Rattle.{std.{proofs.Math.Bool.{or_assoc}, specs.Bool.{Decides}}, alpha_memory.specs.declared.bucket.Bucket.TheVariants.{One}}
use Rattle.fx_base.proofs.{Orders.{is_eq-true}, Tests.{and_or_and}}

pub row_decides : (a b : Row) → Decides (eq_by_cmp row_cmp a b) (a ≡ b)
row_decides a b = (λ e. row_exact a b (is_eq-true (row_cmp a b) e), λ e. subst (λ c. eq_by_cmp row_cmp a c ≡ true) e (same_equiv.refl a))

pub name_decides : (a b : Named) → Decides (eq_by_cmp name_cmp a b) (a ≡ b)
name_decides a b = (λ e. name_exact a b (is_eq-true (name_cmp a b) e), λ e. subst (λ c. eq_by_cmp name_cmp a c ≡ true) e (name_equiv.refl a))

abbrev row_of : List Named → Row → Row
row_of facts row = record { facts = facts; values = row.values }

pub unjoined_with : (row : Row) (who : Named) → unjoined (with_name row who) ≡ Some (row, who)
unjoined_with row who = ap (λ o. option_map (front_of row) o) (split_snoc row.facts who)

unjoined_is : (row : Row) (o : Option (List Named × Named)) → split_last row.facts ≡ o → (p : Row × Named) → option_map (front_of row) o ≡ Some p → row ≡ with_name p.0 p.1
unjoined_is row None s p e = cc
unjoined_is row (Some q) s p e =
    let h : front_of row q ≡ p = cc in
    ap (λ facts. row_of facts row) (is_snoc row.facts q s) ∙ ap (λ p. with_name p.0 p.1) h

pub from_unjoined : (row : Row) (p : Row × Named) → unjoined row ≡ Some p → row ≡ with_name p.0 p.1
from_unjoined row p e = unjoined_is row (split_last row.facts) refl p e

-- the test that a row is the one with this fact more
abbrev is_pair : Row → Named → Row → Named → Bool
is_pair l who front last = eq_by_cmp row_cmp front l && eq_by_cmp name_cmp last who

pair_from : (row l : Row) (who : Named) (o : Option (Row × Named)) → unjoined row ≡ o → splits (is_pair l who) o ≡ true → row ≡ with_name l who
pair_from row l who None e h = let f : false ≡ true = h in cc
pair_from row l who (Some p) e h =
    let k = and_parts (eq_by_cmp row_cmp p.0 l) (eq_by_cmp name_cmp p.1 who) h in
    from_unjoined row p e ∙ ap (λ r. with_name r p.1) ((row_decides p.0 l).0 k.0) ∙ ap (λ c. with_name l c) ((name_decides p.1 who).0 k.1)

pub is_with : (row l : Row) (who : Named) → eq_by_cmp row_cmp row (with_name l who) ≡ splits (is_pair l who) (unjoined row)
is_with row l who =
    same_from_decides _ _ (row_decides row (with_name l who)) (
      pair_from row l who (unjoined row) refl,
      λ e. subst (λ r. splits (is_pair l who) (unjoined r) ≡ true) (sym e) (subst (λ o. splits (is_pair l who) o ≡ true) (sym (unjoined_with l who)) (and_from _ _ (same_equiv.refl l) (name_equiv.refl who))),
    )

-- ---- one turn of a loop over the rows, or the candidates, of a bucket

-- tests that answer alike
pub splits_alike : (t u : Row → Named → Bool) → ((l : Row) (c : Named) → t l c ≡ u l c) → (o : Option (Row × Named)) → splits t o ≡ splits u o
splits_alike t u h None = refl
splits_alike t u h (Some p) = h p.0 p.1

pub splits_or : (t u : Row → Named → Bool) (o : Option (Row × Named)) → splits (λ l c. t l c || u l c) o ≡ (splits t o || splits u o)
splits_or t u None = refl
splits_or t u (Some p) = refl

splits_and : (t : Row → Named → Bool) (b : Bool) (o : Option (Row × Named)) → splits (λ l c. t l c && b) o ≡ (splits t o && b)
splits_and t b None = refl
splits_and t b (Some p) = refl

or_and : (a n b : Bool) → ((a || n) && b) ≡ ((a && b) || (n && b))
or_and true n true = refl
or_and true true false = refl
or_and true false false = refl
or_and false n b = refl

under : (x y q v : Bool) → (x ≡ true → y ≡ true → q ≡ v) → (x && (y && q)) ≡ ((x && y) && v)
under true true q v h = h refl refl
under true false q v h = refl
under false y q v h = refl

-- what one turn makes is among what is found, and no longer to come
pub one_more : (one was now after all total : Bool) → all ≡ (one || after) → (was || all) ≡ total → now ≡ (was || one) → (now || after) ≡ total
one_more one was now after all total more so_far is =
    ap (λ b. b || after) is ∙ or_assoc was one after ∙ ap (λ b. was || b) (sym more) ∙ so_far

module _ (pass : Row → Named → Bool) where
  pair_passes : (l : Row) (who : Named) (o : Option (Row × Named))
      → splits (λ m c. eq_by_cmp row_cmp m l && (eq_by_cmp name_cmp who c && pass m c)) o ≡ (splits (is_pair l who) o && pass l who)
  pair_passes l who o =
      splits_alike _ _ (λ m c. ap (λ b. eq_by_cmp row_cmp m l && (b && pass m c)) (name_equiv.symm who c)
      ∙ under (eq_by_cmp row_cmp m l) (eq_by_cmp name_cmp c who) (pass m c) (pass l who) (λ x y. ap (λ r. pass r c) ((row_decides m l).0 x) ∙ ap (pass l) ((name_decides c who).0 y))) o
      ∙ splits_and (is_pair l who) (pass l who) o

  pair_passes_right : (l : Row) (who : Named) (o : Option (Row × Named))
      → splits (λ m c. eq_by_cmp row_cmp l m && (eq_by_cmp name_cmp c who && pass m c)) o ≡ (splits (is_pair l who) o && pass l who)
  pair_passes_right l who o =
      splits_alike _ _ (λ m c. ap (λ b. b && (eq_by_cmp name_cmp c who && pass m c)) (same_equiv.symm l m)
      ∙ under (eq_by_cmp row_cmp m l) (eq_by_cmp name_cmp c who) (pass m c) (pass l who) (λ x y. ap (λ r. pass r c) ((row_decides m l).0 x) ∙ ap (pass l) ((name_decides c who).0 y))) o
      ∙ splits_and (is_pair l who) (pass l who) o

  pub more_rows : (l : Row) (next : List Row) (who : Named) (r : Row)
      → joined pass (has (l ∷ next)) (eq_by_cmp name_cmp who) r ≡ ((eq_by_cmp row_cmp r (with_name l who) && pass l who) || joined pass (has next) (eq_by_cmp name_cmp who) r)
  unfolding joined
  more_rows l next who r =
      splits_alike _ _ (λ m c. or_and (eq_by_cmp row_cmp m l) (has next m) (eq_by_cmp name_cmp who c && pass m c)) (unjoined r)
      ∙ splits_or _ _ (unjoined r)
      ∙ ap (λ b. b || splits (λ m c. has next m && (eq_by_cmp name_cmp who c && pass m c)) (unjoined r)) (pair_passes l who (unjoined r) ∙ ap (λ b. b && pass l who) (sym (is_with r l who)))

  pub more_names : (l : Row) (who : Named) (next : List Named) (r : Row)
      → joined pass (eq_by_cmp row_cmp l) (has_name (who ∷ next)) r ≡ ((eq_by_cmp row_cmp r (with_name l who) && pass l who) || joined pass (eq_by_cmp row_cmp l) (has_name next) r)
  unfolding joined
  more_names l who next r =
      splits_alike _ _ (λ m c. and_or_and (eq_by_cmp row_cmp l m) (eq_by_cmp name_cmp c who) (has_name next c) (pass m c)) (unjoined r)
      ∙ splits_or _ _ (unjoined r)
      ∙ ap (λ b. b || splits (λ m c. eq_by_cmp row_cmp l m && (has_name next c && pass m c)) (unjoined r)) (pair_passes_right l who (unjoined r) ∙ ap (λ b. b && pass l who) (sym (is_with r l who)))

-- ---- the ends of such a loop

none_split : (t : Row → Named → Bool) → ((l : Row) (c : Named) → t l c ≡ false) → (o : Option (Row × Named)) → splits t o ≡ false
none_split t h None = refl
none_split t h (Some p) = h p.0 p.1

-- sets that answer alike make the same rows
pub joined_alike : (pass : Row → Named → Bool) (left left_too : Row → Bool) (right right_too : Named → Bool) → ((l : Row) → left l ≡ left_too l) → ((c : Named) → right c ≡ right_too c)
    → (r : Row) → joined pass left right r ≡ joined pass left_too right_too r
unfolding joined
joined_alike pass left left_too right right_too h k r =
    splits_alike _ _ (λ l c. ap (λ b. b && (right c && pass l c)) (h l) ∙ ap (λ b. left_too l && (b && pass l c)) (k c)) (unjoined r)

no_left : (pass : Row → Named → Bool) (right : Named → Bool) (r : Row) → joined pass (has []) right r ≡ false
unfolding joined
no_left pass right r = none_split _ (λ l c. refl) (unjoined r)

no_right : (pass : Row → Named → Bool) (left : Row → Bool) (r : Row) → joined pass left (has_name []) r ≡ false
unfolding joined
no_right pass left r = none_split _ (λ l c. and-false (left l)) (unjoined r)

module _ (pass : Row → Named → Bool) (found : List Row) (r : Row) where
  pub rows_begin : (keys : List Row) (left : Row → Bool) (right : Named → Bool) → found ≡ [] → ((q : Row) → left q ≡ has keys q)
      → (has found r || joined pass (has keys) right r) ≡ joined pass left right r
  rows_begin keys left right none h =
      ap (λ (rows : List Row). has rows r || joined pass (has keys) right r) none
      ∙ joined_alike pass (has keys) left right right (λ q. sym (h q)) (λ c. refl) r

  pub names_begin : (keys : List Named) (left : Row → Bool) (right : Named → Bool) → found ≡ [] → ((q : Named) → right q ≡ has_name keys q)
      → (has found r || joined pass left (has_name keys) r) ≡ joined pass left right r
  names_begin keys left right none h =
      ap (λ (rows : List Row). has rows r || joined pass left (has_name keys) r) none
      ∙ joined_alike pass left left (has_name keys) right (λ q. refl) (λ q. sym (h q)) r

  pub rows_end : (rest : List Row) (right : Named → Bool) (total : Bool) → rest ≡ [] → (has found r || joined pass (has rest) right r) ≡ total → has found r ≡ total
  rows_end rest right total none so_far =
      sym (or-false (has found r)) ∙ ap (λ b. has found r || b) (sym (no_left pass right r))
      ∙ ap (λ (rows : List Row). has found r || joined pass (has rows) right r) (sym none) ∙ so_far

  pub names_end : (rest : List Named) (left : Row → Bool) (total : Bool) → rest ≡ [] → (has found r || joined pass left (has_name rest) r) ≡ total → has found r ≡ total
  names_end rest left total none so_far =
      sym (or-false (has found r)) ∙ ap (λ b. has found r || b) (sym (no_right pass left r))
      ∙ ap (λ (names : List Named). has found r || joined pass left (has_name names) r) (sym none) ∙ so_far

-- ---- a bucket of one row, or of one candidate

module _ (pass : Row → Named → Bool) {S : Type 0} (l : Row) (who : Named) (kept : S) (r : Row) where
  pub one_row : (eq_by_cmp row_cmp r (with_name l who) && pass l who) ≡ joined pass (λ q. is_some (found row_cmp (One l kept) q)) (eq_by_cmp name_cmp who) r
  one_row =
      sym (or-false (eq_by_cmp row_cmp r (with_name l who) && pass l who))
      ∙ ap (λ b. (eq_by_cmp row_cmp r (with_name l who) && pass l who) || b) (sym (no_left pass (eq_by_cmp name_cmp who) r))
      ∙ sym (more_rows pass l [] who r)
      ∙ joined_alike pass (has (l ∷ [])) (λ q. is_some (found row_cmp (One l kept) q)) (eq_by_cmp name_cmp who) (eq_by_cmp name_cmp who) (λ q. sym (is_some-lookup (is_at (row_cmp q)) ((l, kept) ∷ []))) (λ c. refl) r

  pub one_name : (eq_by_cmp row_cmp r (with_name l who) && pass l who) ≡ joined pass (eq_by_cmp row_cmp l) (λ q. is_some (found name_cmp (One who kept) q)) r
  one_name =
      sym (or-false (eq_by_cmp row_cmp r (with_name l who) && pass l who))
      ∙ ap (λ b. (eq_by_cmp row_cmp r (with_name l who) && pass l who) || b) (sym (no_right pass (eq_by_cmp row_cmp l) r))
      ∙ sym (more_names pass l who [] r)
      ∙ joined_alike pass (eq_by_cmp row_cmp l) (eq_by_cmp row_cmp l) (has_name (who ∷ [])) (λ q. is_some (found name_cmp (One who kept) q)) (λ q. refl) (λ q. sym (is_some-lookup (is_at (name_cmp q)) ((who, kept) ∷ []))) r

-- from no rows, or with no candidates, nothing is made
pub none_left : (pass : Row → Named → Bool) (left : Row → Bool) (right : Named → Bool) → ((l : Row) → left l ≡ false) → (r : Row) → joined pass left right r ≡ false
unfolding joined
none_left pass left right h r = none_split _ (λ l c. ap (λ b. b && (right c && pass l c)) (h l)) (unjoined r)

pub none_right : (pass : Row → Named → Bool) (left : Row → Bool) (right : Named → Bool) → ((c : Named) → right c ≡ false) → (r : Row) → joined pass left right r ≡ false
unfolding joined
none_right pass left right h r = none_split _ (λ l c. ap (λ b. left l && (b && pass l c)) (h c) ∙ and-false (left l)) (unjoined r)

-- ---- a row that is made, as a row with one fact more

pub joined_with : (pass : Row → Named → Bool) (left : Row → Bool) (right : Named → Bool) (row : Row) (who : Named) → joined pass left right (with_name row who) ≡ (left row && (right who && pass row who))
unfolding joined
joined_with pass left right row who = ap (splits (λ l c. left l && (right c && pass l c))) (unjoined_with row who)

split_from : (test : Row → Named → Bool) (made : Row) (o : Option (Row × Named)) → unjoined made ≡ o → splits test o ≡ true → (row : Row) × (who : Named) × (made ≡ with_name row who)
split_from test made None is e = let f : false ≡ true = e in cc
split_from test made (Some p) is e = (p.0, p.1, from_unjoined made p is)

pub joined_from : (pass : Row → Named → Bool) (left : Row → Bool) (right : Named → Bool) (made : Row) → joined pass left right made ≡ true → (row : Row) × (who : Named) × (made ≡ with_name row who)
unfolding joined
joined_from pass left right made e = split_from _ made (unjoined made) refl e
