-- The memory's indexes agree, and show the list that is wanted, after each call.
use Rattle.alpha_memory.proofs.Common.{◌≡◌, ◌∙◌, sym, ap, refl, subst, ℕ, ◌+◌, ◌<◌, List, [], ◌∷◌, ◌++◌, length, Bool, true, false, ◌&&◌, cond, Option, Some}
use Rattle.alpha_memory.proofs.Common.{None, arith, eq-eqb, nat_eq, option_and_then, nat_cmp, eq_by_cmp, nat_cmp_total, is_at, get-insert, get-remove, keys_of}
use Rattle.alpha_memory.proofs.Common.{lookup, eqb-true, Value, same_value, Named, Candidate, has_candidate_tag, without_tag, at, bucket_at, candidate, under}
use Rattle.{alpha_memory.proofs.Common.{AgreePlaces, JoinIndex, Place, get-empty, len-empty, len-entries, is_tagged}, std.proofs.Common.{map as list_map}}
use Rattle.std.specs.FinMap as map
use Rattle.{std.specs.List.{IsDistinct}, fx_base.{specs.SameValues.{same_value_equiv}, proofs.Orders.{eq_by_nat_cmp-flip, eq_by_nat_cmp-self}}}
use Rattle.{fx_base.proofs.{Orders.{eq_by_nat_cmp-true}, Sequences.{one_value}, Tests.{both_ways_absurd}}, alpha_memory.specs.Places.{numbered}}
use Rattle.alpha_memory.proofs.Numbers.{untied, has_number, number_has, Apart-same, numbered-same, Apart-put, unused, numbered-put, Apart-take, has_taken}
use Rattle.alpha_memory.proofs.{Numbers.{numbered-take}, Listed.{values-insert, values-remove, none_of, one_of, all_stay}}

-- what the memory's candidates are
abbrev pub listed : List (ℕ × Place) → List Candidate
listed places = map.values (numbered places)

-- ---- no candidates

no_length : {A : Type 0} (xs : List A) → length xs ≡ 0 → xs ≡ []
no_length [] e = refl
no_length (x ∷ xs) e = absurd (omega arith)

pub listed-none : listed [] ≡ []
unfolding numbered
listed-none = ap (list_map (λ (e : ℕ × Candidate). e.1)) (no_length (map.entries (map.empty {X = Candidate} {R = nat_cmp})) (sym (len-entries (map.empty {X = Candidate} {R = nat_cmp})) ∙ len-empty nat_cmp Candidate))

pub Agree-none : (index : JoinIndex Value ℕ Named) → ((join : Value) → bucket_at same_value index join ≡ None) → AgreePlaces [] 0 index
unfolding numbered IsDistinct
Agree-none index none = record {
  once = tt;
  apart = λ s t p q e f same. absurd (let x : None ≡ Some p = e in cc);
  below = λ tag place e. absurd (let x : None ≡ Some place = e in cc);
  by_join = λ join number. by (bucket_at same_value index join) (none join) number ∙ ap (under join) (sym (get-empty nat_cmp number));
}
  where
    by : (o : Option (List (ℕ × Named))) → o ≡ None → (number : ℕ) → option_and_then (lookup (is_at (nat_cmp number))) o ≡ None
    by None e number = refl
    by (Some es) e number = absurd (let x : Some es ≡ None = e in cc)

-- ---- whether there is a candidate with a tag

module _ (places : List (ℕ × Place)) (next : ℕ) (index : JoinIndex Value ℕ Named) (agree : AgreePlaces places next index) (tag : ℕ) where
  -- a place gives a candidate with its tag
  pub there : (place : Place) → lookup (nat_eq tag) places ≡ Some place → has_candidate_tag (listed places) tag ≡ true
  there place e =
      one_of (numbered places) (is_tagged tag) place.number (candidate tag place)
      (number_has places agree.once agree.apart place.number (candidate tag place) (record { tag = tag; place = place; here = e; own = refl; is = refl }))
      (eq-eqb tag tag refl)

  -- where there is no place, there is no such candidate
  pub absent : lookup (nat_eq tag) places ≡ None → has_candidate_tag (listed places) tag ≡ false
  absent none =
      none_of (numbered places) (is_tagged tag) (λ k c e.
      let h = has_number places agree.once k c e in
      ap (is_tagged tag) (sym h.is) ∙ by (nat_eq tag h.tag) h.tag h.place h.here refl)
    where
      by : (b : Bool) → (t : ℕ) → (place : Place) → lookup (nat_eq t) places ≡ Some place → nat_eq tag t ≡ b → b ≡ false
      by true t place e same = absurd (let f : None ≡ Some place = sym none ∙ ap (λ k. lookup (nat_eq k) places) (eqb-true tag t same) ∙ e in cc)
      by false t place e same = refl

  -- where there is no such candidate, there is no place
  pub no_place : has_candidate_tag (listed places) tag ≡ false → lookup (nat_eq tag) places ≡ None
  no_place none = by (lookup (nat_eq tag) places) refl
    where
      by : (o : Option Place) → lookup (nat_eq tag) places ≡ o → o ≡ None
      by None e = refl
      by (Some place) e = both_ways_absurd (has_candidate_tag (listed places) tag) (there place e) none

-- ---- the same places

module _ (was is : List (ℕ × Place)) (next : ℕ) (index after : JoinIndex Value ℕ Named) (agree : AgreePlaces was next index) (once : IsDistinct nat_eq (keys_of is))
    (alike : (t : ℕ) → lookup (nat_eq t) is ≡ lookup (nat_eq t) was) (kept : (join : Value) (number : ℕ) → at same_value nat_cmp after join number ≡ at same_value nat_cmp index join number) where
  pub Agree-same : AgreePlaces is next after
  Agree-same = record {
    once = once;
    apart = Apart-same was is agree.once agree.apart once alike;
    below = λ tag place e. agree.below tag place (sym (alike tag) ∙ e);
    by_join = λ join number. kept join number ∙ agree.by_join join number ∙ ap (λ m. under join (map.get m number)) (sym (numbered-same was is agree.once agree.apart once alike));
  }

  pub listed-same : listed is ≡ listed was
  listed-same = ap map.values (numbered-same was is agree.once agree.apart once alike)

-- ---- choices under a join value and a number

-- another number
other : {X : Type 0} (b : Bool) (x y : X) → cond (b && false) x y ≡ y
other true x y = refl
other false x y = refl

-- the number itself, which had nothing
fresh : {X : Type 0} (a b : Bool) (x : X) (o : Option X) → a ≡ b → o ≡ None → cond (a && true) (Some x) o ≡ cond b (Some x) None
fresh true b x o e f = ap (λ c. cond c (Some x) None) e
fresh false b x o e f = f ∙ ap (λ c. cond c (Some x) None) e

-- the number itself, which had one thing
gone : {X : Type 0} (a b : Bool) (x : X) (o : Option X) → a ≡ b → o ≡ cond b (Some x) None → cond (a && true) None o ≡ None
gone true b x o e f = refl
gone false b x o e f = f ∙ ap (λ c. cond c (Some x) None) (sym e)

-- ---- a candidate more

module _ (was is : List (ℕ × Place)) (index after : JoinIndex Value ℕ Named) (tag : ℕ) (place : Place) (agree : AgreePlaces was place.number index) (once : IsDistinct nat_eq (keys_of is))
    (new : has_candidate_tag (listed was) tag ≡ false) (put : (t : ℕ) → lookup (nat_eq t) is ≡ cond (nat_eq tag t) (Some place) (lookup (nat_eq t) was))
    (kept : (join : Value) (number : ℕ) → at same_value nat_cmp after join number
    ≡ cond (same_value place.join join && is_at (nat_cmp place.number) number) (Some (candidate tag place).0) (at same_value nat_cmp index join number)) where
  none : lookup (nat_eq tag) was ≡ None
  none = no_place was place.number index agree tag new

  one_more : numbered is ≡ map.insert (numbered was) place.number (candidate tag place)
  one_more = numbered-put was is tag place agree.once agree.apart once none agree.below put

  pub Agree-put : AgreePlaces is (place.number + 1) after
  Agree-put = record {
    once = once;
    apart = Apart-put was is tag place agree.once agree.apart once none agree.below put;
    below = λ t p e. by t p (nat_eq tag t) (sym (put t) ∙ e);
    by_join = λ join number.
        kept join number
        ∙ under_put join number (eq_by_cmp nat_cmp number place.number) refl
        ∙ ap (under join) (sym (get-insert nat_cmp_total (numbered was) place.number (candidate tag place) number))
        ∙ ap (λ m. under join (map.get m number)) (sym one_more);
  }
    where
      by : (t : ℕ) (p : Place) (b : Bool) → cond b (Some place) (lookup (nat_eq t) was) ≡ Some p → p.number < place.number + 1
      by t p true e = let f : place ≡ p = cc in let g : place.number ≡ p.number = ap (λ (r : Place). r.number) f in omega arith
      by t p false e = let l = agree.below t p e in omega arith

      under_put : (join : Value) (number : ℕ) (b : Bool) → eq_by_cmp nat_cmp number place.number ≡ b
          → cond (same_value place.join join && is_at (nat_cmp place.number) number) (Some (candidate tag place).0) (at same_value nat_cmp index join number)
          ≡ under join (cond b (Some (candidate tag place)) (map.get (numbered was) number))
      under_put join number true e =
          ap (λ b. cond (same_value place.join join && b) (Some (candidate tag place).0) (at same_value nat_cmp index join number)) (eq_by_nat_cmp-flip place.number number ∙ e)
          ∙ fresh (same_value place.join join) (same_value join place.join) (candidate tag place).0 (at same_value nat_cmp index join number) (same_value_equiv.symm place.join join)
          (agree.by_join join number ∙ ap (λ n. under join (map.get (numbered was) n)) (eq_by_nat_cmp-true number place.number e) ∙ ap (under join) (unused was is tag place agree.once agree.apart once none agree.below put))
      under_put join number false e =
          ap (λ b. cond (same_value place.join join && b) (Some (candidate tag place).0) (at same_value nat_cmp index join number)) (eq_by_nat_cmp-flip place.number number ∙ e)
          ∙ other (same_value place.join join) (Some (candidate tag place).0) (at same_value nat_cmp index join number) ∙ agree.by_join join number

  pub listed-put : listed is ≡ listed was ++ candidate tag place ∷ []
  listed-put =
      ap map.values one_more
      ∙ values-insert (numbered was) place.number (candidate tag place) (λ k c e.
      let h = has_number was agree.once k c e in subst (λ n. n < place.number) h.own (agree.below h.tag h.place h.here))

-- ---- a candidate fewer

module _ (was is : List (ℕ × Place)) (next : ℕ) (index after : JoinIndex Value ℕ Named) (tag : ℕ) (place : Place) (agree : AgreePlaces was next index) (once : IsDistinct nat_eq (keys_of is))
    (here : lookup (nat_eq tag) was ≡ Some place) (taken : (t : ℕ) → lookup (nat_eq t) is ≡ cond (nat_eq tag t) None (lookup (nat_eq t) was))
    (kept : (join : Value) (number : ℕ) → at same_value nat_cmp after join number ≡ cond (same_value place.join join && is_at (nat_cmp place.number) number) None (at same_value nat_cmp index join number)) where
  one_less : numbered is ≡ map.remove (numbered was) place.number
  one_less = numbered-take was is tag place agree.once agree.apart once here taken

  pub Agree-take : AgreePlaces is next after
  Agree-take = record {
    once = once;
    apart = Apart-take was is tag place agree.once agree.apart once here taken;
    below = λ t p e. agree.below t p (by t p (nat_eq tag t) (sym (taken t) ∙ e));
    by_join = λ join number.
        kept join number
        ∙ under_taken join number (eq_by_cmp nat_cmp number place.number) refl
        ∙ ap (under join) (sym (get-remove nat_cmp_total (numbered was) place.number number))
        ∙ ap (λ m. under join (map.get m number)) (sym one_less);
  }
    where
      by : (t : ℕ) (p : Place) (b : Bool) → cond b None (lookup (nat_eq t) was) ≡ Some p → lookup (nat_eq t) was ≡ Some p
      by t p true e = absurd (let x : None ≡ Some p = e in cc)
      by t p false e = e

      under_taken : (join : Value) (number : ℕ) (b : Bool) → eq_by_cmp nat_cmp number place.number ≡ b
          → cond (same_value place.join join && is_at (nat_cmp place.number) number) None (at same_value nat_cmp index join number) ≡ under join (cond b None (map.get (numbered was) number))
      under_taken join number true e =
          ap (λ b. cond (same_value place.join join && b) None (at same_value nat_cmp index join number)) (eq_by_nat_cmp-flip place.number number ∙ e)
          ∙ gone (same_value place.join join) (same_value join place.join) (candidate tag place).0 (at same_value nat_cmp index join number) (same_value_equiv.symm place.join join)
          (agree.by_join join number ∙ ap (λ n. under join (map.get (numbered was) n)) (eq_by_nat_cmp-true number place.number e) ∙ ap (under join) (has_taken was is tag place agree.once agree.apart once here taken))
      under_taken join number false e =
          ap (λ b. cond (same_value place.join join && b) None (at same_value nat_cmp index join number)) (eq_by_nat_cmp-flip place.number number ∙ e)
          ∙ other (same_value place.join join) None (at same_value nat_cmp index join number) ∙ agree.by_join join number

  pub listed-take : listed is ≡ without_tag (listed was) tag
  listed-take =
      ap map.values one_less
      ∙ values-remove (numbered was) place.number (is_tagged tag) (λ k c e.
      let h = has_number was agree.once k c e in
      ap (is_tagged tag) (sym h.is) ∙ tagged k h.tag h.place h.here h.own (nat_eq tag h.tag) refl)
    where
      tagged : (k : ℕ) (t : ℕ) (p : Place) → lookup (nat_eq t) was ≡ Some p → p.number ≡ k → (b : Bool) → nat_eq tag t ≡ b → b ≡ eq_by_cmp nat_cmp place.number k
      tagged k t p e own true same =
          let places : place ≡ p = one_value (lookup (nat_eq tag) was) place p here (ap (λ n. lookup (nat_eq n) was) (eqb-true tag t same) ∙ e) in
          sym (eq_by_nat_cmp-self place.number) ∙ ap (eq_by_cmp nat_cmp place.number) (ap (λ (r : Place). r.number) places ∙ own)
      tagged k t p e own false same =
          sym (untied place.number k (λ numbers. both_ways_absurd (nat_eq tag t) (eq-eqb tag t (agree.apart tag t place p here e (numbers ∙ sym own))) same))

-- ---- nothing is taken

pub listed-absent : (was is : List (ℕ × Place)) (next : ℕ) (index : JoinIndex Value ℕ Named) → AgreePlaces was next index → (tag : ℕ) → lookup (nat_eq tag) was ≡ None → is ≡ was → listed is ≡ without_tag (listed was) tag
listed-absent was is next index agree tag none same = ap listed same ∙ sym (all_stay (is_tagged tag) (listed was) (absent was next index agree tag none))

-- a place put in and taken out again leaves what was
pub undone : (was mid is : List (ℕ × Place)) (tag : ℕ) (place : Place) → lookup (nat_eq tag) was ≡ None → ((t : ℕ) → lookup (nat_eq t) mid ≡ cond (nat_eq tag t) (Some place) (lookup (nat_eq t) was))
    → ((t : ℕ) → lookup (nat_eq t) is ≡ cond (nat_eq tag t) None (lookup (nat_eq t) mid)) → (t : ℕ) → lookup (nat_eq t) is ≡ lookup (nat_eq t) was
undone was mid is tag place none put taken t = taken t ∙ ap (cond (nat_eq tag t) None) (put t) ∙ by (nat_eq tag t) refl
  where
    by : (b : Bool) → nat_eq tag t ≡ b → cond b None (cond b (Some place) (lookup (nat_eq t) was)) ≡ lookup (nat_eq t) was
    by true e = sym none ∙ ap (λ k. lookup (nat_eq k) was) (eqb-true tag t e)
    by false e = refl
