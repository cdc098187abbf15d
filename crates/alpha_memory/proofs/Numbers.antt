-- Which candidate has which number, before and after one place is put in or taken out.
use Rattle.alpha_memory.proofs.Common.{◌≡◌, ◌≢◌, ◌∙◌, sym, ap, refl, ℕ, suc, ◌<◌, List, [], ◌∷◌, Bool, true, false, cond, Option, Some, None, arith, eq-eqb}
use Rattle.alpha_memory.proofs.Common.{inl, inr, ◌⊎◌, nat_eq, Contains, is_some, nat_cmp, eq_by_cmp, nat_cmp_total, nat_eq_equiv, find, get-insert, get-remove}
use Rattle.alpha_memory.proofs.Common.{nat_cmp-IsAntisymmetric, keys_of, lookup, eqb-true, lookup-from_Contains, Candidate, candidate, Place, get-from_entries}
use Rattle.{alpha_memory.proofs.Common.{same_map, IsDistinct, numbered_entry}, std.proofs.Common.{map as list_map}}
use Rattle.std.specs.FinMap as map
use Rattle.{alpha_memory.specs.Places.{numbered}, fx_base.proofs.{Orders.{eq_by_nat_cmp-self, eq_by_nat_cmp-true}, Sequences.{is_some-value, one_value}}}
use Rattle.fx_base.proofs.Tests.{both_ways_absurd}

-- ---- options, tests and numbers

-- options that are alike in each case are equal
pub same_option : {X : Type 0} (o p : Option X) → ((x : X) → o ≡ Some x → p ≡ Some x) → ((x : X) → p ≡ Some x → o ≡ Some x) → o ≡ p
same_option None None f g = refl
same_option None (Some y) f g = g y refl
same_option (Some x) p f g = sym (f x refl)

-- numbers that differ do not tie
pub untied : (a b : ℕ) → a ≢ b → eq_by_cmp nat_cmp a b ≡ false
untied a b differ = elim (eq_by_cmp nat_cmp a b) as (λ t. eq_by_cmp nat_cmp a b ≡ t → t ≡ false) [ true ↦ λ t. absurd (differ (eq_by_nat_cmp-true a b t)) | false ↦ λ t. refl ] refl

-- ---- entries by numbers

-- what stands in a list stands in a longer one
later : {X : Type 0} (x : X) (xs : List X) (y : X) → Contains xs y → Contains (x ∷ xs) y
later x xs y at = (suc at.0, omega arith, at.2)

-- what is found under a number has its place under some tag
found : (places : List (ℕ × Place)) (n : ℕ) (c : Candidate) → find nat_cmp n (list_map numbered_entry places) ≡ Some c
    → (tag : ℕ) × (place : Place) × Contains places (tag, place) × (place.number ≡ n) × (candidate tag place ≡ c)
found [] n c e = absurd (let x : None ≡ Some c = e in cc)
found (x ∷ xs) n c e = by (eq_by_cmp nat_cmp n x.1.number) refl e (found xs n c)
  where
    by : (b : Bool) → eq_by_cmp nat_cmp n x.1.number ≡ b → cond b (Some (candidate x.0 x.1)) (find nat_cmp n (list_map numbered_entry xs)) ≡ Some c
        → (find nat_cmp n (list_map numbered_entry xs) ≡ Some c → (tag : ℕ) × (place : Place) × Contains xs (tag, place) × (place.number ≡ n) × (candidate tag place ≡ c))
        → (tag : ℕ) × (place : Place) × Contains (x ∷ xs) (tag, place) × (place.number ≡ n) × (candidate tag place ≡ c)
    by true t f rest = (x.0, x.1, (0, omega arith, refl), sym (eq_by_nat_cmp-true n x.1.number t), one_value (Some (candidate x.0 x.1)) _ _ refl f)
    by false t f rest = let r = rest f in (r.0, r.1, later x xs (r.0, r.1) r.2, r.3, r.4)

-- something is found under the number of each place
there : (places : List (ℕ × Place)) (tag : ℕ) (place : Place) → lookup (nat_eq tag) places ≡ Some place → is_some (find nat_cmp place.number (list_map numbered_entry places)) ≡ true
there [] tag place e = absurd (let x : None ≡ Some place = e in cc)
there (x ∷ xs) tag place e = by (nat_eq tag x.0) refl e (there xs tag place)
  where
    either : (b : Bool) → is_some (find nat_cmp place.number (list_map numbered_entry xs)) ≡ true → is_some (cond b (Some (candidate x.0 x.1)) (find nat_cmp place.number (list_map numbered_entry xs))) ≡ true
    either true f = refl
    either false f = f

    by : (b : Bool) → nat_eq tag x.0 ≡ b → cond b (Some x.1) (lookup (nat_eq tag) xs) ≡ Some place
        → (lookup (nat_eq tag) xs ≡ Some place → is_some (find nat_cmp place.number (list_map numbered_entry xs)) ≡ true)
        → is_some (cond (eq_by_cmp nat_cmp place.number x.1.number) (Some (candidate x.0 x.1)) (find nat_cmp place.number (list_map numbered_entry xs))) ≡ true
    by true t f rest =
        let e : x.1 ≡ place = one_value (Some x.1) _ _ refl f in
        let same : eq_by_cmp nat_cmp place.number x.1.number ≡ true = ap (λ (p : Place). eq_by_cmp nat_cmp p.number x.1.number) (sym e) ∙ eq_by_nat_cmp-self x.1.number in
        ap (λ b. is_some (cond b (Some (candidate x.0 x.1)) (find nat_cmp place.number (list_map numbered_entry xs)))) same
    by false t f rest = either (eq_by_cmp nat_cmp place.number x.1.number) (rest f)

-- a candidate has a number by the place of its tag
pub record HasNumber (places : List (ℕ × Place)) (number : ℕ) (c : Candidate) : Type 0 where
  pub tag : ℕ
  pub place : Place
  pub here : lookup (nat_eq tag) places ≡ Some place
  pub own : place.number ≡ number
  pub is : candidate tag place ≡ c

-- numbers are those of one tag
abbrev pub Apart : List (ℕ × Place) → Type 0
Apart places = (s t : ℕ) (p q : Place) → lookup (nat_eq s) places ≡ Some p → lookup (nat_eq t) places ≡ Some q → p.number ≡ q.number → s ≡ t

module _ (places : List (ℕ × Place)) (once : IsDistinct nat_eq (keys_of places)) where
  -- what the numbered candidates have has its number by a place
  pub has_number : (n : ℕ) (c : Candidate) → map.get (numbered places) n ≡ Some c → HasNumber places n c
  unfolding numbered
  has_number n c e =
      let r = found places n c (sym (get-from_entries nat_cmp_total (list_map numbered_entry places) n) ∙ e) in
      record { tag = r.0; place = r.1; here = lookup-from_Contains nat_eq_equiv r.0 r.1 places once r.2; own = r.3; is = r.4 }

  -- and the other way round
  pub number_has : Apart places → (n : ℕ) (c : Candidate) → HasNumber places n c → map.get (numbered places) n ≡ Some c
  unfolding numbered
  number_has apart n c h =
      let s = is_some-value (find nat_cmp h.place.number (list_map numbered_entry places)) (there places h.tag h.place h.here) in
      let e : map.get (numbered places) h.place.number ≡ Some s.0 = get-from_entries nat_cmp_total (list_map numbered_entry places) h.place.number ∙ s.1 in
      let k = has_number h.place.number s.0 e in
      let tags : k.tag ≡ h.tag = apart k.tag h.tag k.place h.place k.here h.here k.own in
      let same : k.place ≡ h.place = one_value (lookup (nat_eq h.tag) places) k.place h.place (ap (λ t. lookup (nat_eq t) places) (sym tags) ∙ k.here) h.here in
      let alike : s.0 ≡ c = sym k.is ∙ ap (λ t. candidate t k.place) tags ∙ ap (candidate h.tag) same ∙ h.is in
      ap (map.get (numbered places)) (sym h.own) ∙ e ∙ ap Some alike

  -- the numbered candidates are those of a map that has just them
  pub numbered_is : Apart places → (m : map.FinMap nat_cmp Candidate) → ((n : ℕ) (c : Candidate) → HasNumber places n c → map.get m n ≡ Some c)
      → ((n : ℕ) (c : Candidate) → map.get m n ≡ Some c → HasNumber places n c) → numbered places ≡ m
  numbered_is apart m to from =
      same_map nat_cmp_total nat_cmp-IsAntisymmetric (numbered places) m (λ n.
      same_option (map.get (numbered places) n) (map.get m n) (λ c e. to n c (has_number n c e)) (λ c e. number_has apart n c (from n c e)))

-- ---- the same places

module _ (was is : List (ℕ × Place)) (once : IsDistinct nat_eq (keys_of was)) (apart : Apart was) (still_once : IsDistinct nat_eq (keys_of is))
    (alike : (t : ℕ) → lookup (nat_eq t) is ≡ lookup (nat_eq t) was) where
  pub Apart-same : Apart is
  Apart-same s t p q e f = apart s t p q (sym (alike s) ∙ e) (sym (alike t) ∙ f)

  pub numbered-same : numbered is ≡ numbered was
  numbered-same =
      numbered_is is still_once Apart-same (numbered was)
      (λ n c h. number_has was once apart n c (record { tag = h.tag; place = h.place; here = sym (alike h.tag) ∙ h.here; own = h.own; is = h.is }))
      (λ n c e. let h = has_number was once n c e in record { tag = h.tag; place = h.place; here = alike h.tag ∙ h.here; own = h.own; is = h.is })

-- ---- one place more

module _ (was is : List (ℕ × Place)) (tag : ℕ) (place : Place) (once : IsDistinct nat_eq (keys_of was)) (apart : Apart was) (still_once : IsDistinct nat_eq (keys_of is))
    (new : lookup (nat_eq tag) was ≡ None) (below : (t : ℕ) (p : Place) → lookup (nat_eq t) was ≡ Some p → p.number < place.number)
    (put : (t : ℕ) → lookup (nat_eq t) is ≡ cond (nat_eq tag t) (Some place) (lookup (nat_eq t) was)) where
  -- a place is the new one or an old one
  told : (t : ℕ) (p : Place) → lookup (nat_eq t) is ≡ Some p → ((tag ≡ t) × (place ≡ p)) ⊎ (lookup (nat_eq t) was ≡ Some p)
  told t p e = by (nat_eq tag t) refl (sym (put t) ∙ e)
    where
      by : (b : Bool) → nat_eq tag t ≡ b → cond b (Some place) (lookup (nat_eq t) was) ≡ Some p → ((tag ≡ t) × (place ≡ p)) ⊎ (lookup (nat_eq t) was ≡ Some p)
      by true x f = inl (eqb-true tag t x, one_value (Some place) place p refl f)
      by false x f = inr f

  -- the new place
  here : lookup (nat_eq tag) is ≡ Some place
  here = put tag ∙ ap (λ b. cond b (Some place) (lookup (nat_eq tag) was)) (eq-eqb tag tag refl)

  -- the old places
  kept : (t : ℕ) (p : Place) → lookup (nat_eq t) was ≡ Some p → lookup (nat_eq t) is ≡ Some p
  kept t p e = put t ∙ by (nat_eq tag t) refl
    where
      by : (b : Bool) → nat_eq tag t ≡ b → cond b (Some place) (lookup (nat_eq t) was) ≡ Some p
      by true x = absurd (let f : None ≡ Some p = sym new ∙ ap (λ n. lookup (nat_eq n) was) (eqb-true tag t x) ∙ e in cc)
      by false x = e

  -- numbers are still those of one tag
  pub Apart-put : Apart is
  Apart-put s t p q e f same =
      elim (told s p e) as (λ _. s ≡ t) [
        | inl x ↦ elim (told t q f) as (λ _. s ≡ t) [
          | inl y ↦ sym x.0 ∙ y.0
          | inr y ↦ absurd (let l = below t q y in let m : place.number ≡ q.number = ap (λ (r : Place). r.number) x.1 ∙ same in omega arith)
        ]
        | inr x ↦ elim (told t q f) as (λ _. s ≡ t) [
          | inl y ↦ absurd (let l = below s p x in let m : place.number ≡ p.number = ap (λ (r : Place). r.number) y.1 ∙ sym same in omega arith)
          | inr y ↦ apart s t p q x y same
        ]
      ]

  -- no candidate has the new number yet
  pub unused : map.get (numbered was) place.number ≡ None
  unused = by (map.get (numbered was) place.number) refl
    where
      by : (o : Option Candidate) → map.get (numbered was) place.number ≡ o → o ≡ None
      by None e = refl
      by (Some c) e = let h = has_number was once place.number c e in absurd (let l = below h.tag h.place h.here in let m = h.own in omega arith)

  pub numbered-put : numbered is ≡ map.insert (numbered was) place.number (candidate tag place)
  numbered-put =
      numbered_is is still_once Apart-put (map.insert (numbered was) place.number (candidate tag place))
      (λ n c h. get-insert nat_cmp_total (numbered was) place.number (candidate tag place) n ∙ forth n c h)
      (λ n c e. back n c (eq_by_cmp nat_cmp n place.number) refl (sym (get-insert nat_cmp_total (numbered was) place.number (candidate tag place) n) ∙ e))
    where
      forth : (n : ℕ) (c : Candidate) → HasNumber is n c → cond (eq_by_cmp nat_cmp n place.number) (Some (candidate tag place)) (map.get (numbered was) n) ≡ Some c
      forth n c h =
          elim (told h.tag h.place h.here) as (λ _. cond (eq_by_cmp nat_cmp n place.number) (Some (candidate tag place)) (map.get (numbered was) n) ≡ Some c) [
            | inl x ↦ ap (λ b. cond b (Some (candidate tag place)) (map.get (numbered was) n))
                (ap (λ k. eq_by_cmp nat_cmp k place.number) (sym h.own ∙ ap (λ (r : Place). r.number) (sym x.1)) ∙ eq_by_nat_cmp-self place.number)
                ∙ ap Some (ap (λ t. candidate t place) x.0 ∙ ap (candidate h.tag) x.1 ∙ h.is)
            | inr x ↦ ap (λ b. cond b (Some (candidate tag place)) (map.get (numbered was) n))
                (untied n place.number (λ e. let l = below h.tag h.place x in let m = h.own in omega arith))
                ∙ number_has was once apart n c (record { tag = h.tag; place = h.place; here = x; own = h.own; is = h.is })
          ]

      back : (n : ℕ) (c : Candidate) (b : Bool) → eq_by_cmp nat_cmp n place.number ≡ b → cond b (Some (candidate tag place)) (map.get (numbered was) n) ≡ Some c → HasNumber is n c
      back n c true t e = record { tag = tag; place = place; here = here; own = sym (eq_by_nat_cmp-true n place.number t); is = one_value (Some (candidate tag place)) _ _ refl e }
      back n c false t e = let h = has_number was once n c e in record { tag = h.tag; place = h.place; here = kept h.tag h.place h.here; own = h.own; is = h.is }

-- ---- one place fewer

module _ (was is : List (ℕ × Place)) (tag : ℕ) (place : Place) (once : IsDistinct nat_eq (keys_of was)) (apart : Apart was) (still_once : IsDistinct nat_eq (keys_of is))
    (here : lookup (nat_eq tag) was ≡ Some place) (taken : (t : ℕ) → lookup (nat_eq t) is ≡ cond (nat_eq tag t) None (lookup (nat_eq t) was)) where
  -- the places that are left
  left : (t : ℕ) (p : Place) → lookup (nat_eq t) is ≡ Some p → (tag ≢ t) × (lookup (nat_eq t) was ≡ Some p)
  left t p e = by (nat_eq tag t) refl (sym (taken t) ∙ e)
    where
      by : (b : Bool) → nat_eq tag t ≡ b → cond b None (lookup (nat_eq t) was) ≡ Some p → (tag ≢ t) × (lookup (nat_eq t) was ≡ Some p)
      by true x f = absurd (let e : None ≡ Some p = f in cc)
      by false x f = (λ same. both_ways_absurd (nat_eq tag t) (eq-eqb tag t same) x, f)

  -- what is not taken is left
  stays : (t : ℕ) (p : Place) → tag ≢ t → lookup (nat_eq t) was ≡ Some p → lookup (nat_eq t) is ≡ Some p
  stays t p differ e = taken t ∙ by (nat_eq tag t) refl
    where
      by : (b : Bool) → nat_eq tag t ≡ b → cond b None (lookup (nat_eq t) was) ≡ Some p
      by true x = absurd (differ (eqb-true tag t x))
      by false x = e

  pub Apart-take : Apart is
  Apart-take s t p q e f = apart s t p q (left s p e).1 (left t q f).1

  -- the candidate that is taken
  pub has_taken : map.get (numbered was) place.number ≡ Some (candidate tag place)
  has_taken = number_has was once apart place.number (candidate tag place) (record { tag = tag; place = place; here = here; own = refl; is = refl })

  pub numbered-take : numbered is ≡ map.remove (numbered was) place.number
  numbered-take =
      numbered_is is still_once Apart-take (map.remove (numbered was) place.number)
      (λ n c h. get-remove nat_cmp_total (numbered was) place.number n ∙ forth n c h)
      (λ n c e. back n c (eq_by_cmp nat_cmp n place.number) refl (sym (get-remove nat_cmp_total (numbered was) place.number n) ∙ e))
    where
      forth : (n : ℕ) (c : Candidate) → HasNumber is n c → cond (eq_by_cmp nat_cmp n place.number) None (map.get (numbered was) n) ≡ Some c
      forth n c h =
          let l = left h.tag h.place h.here in
          ap (λ b. cond b None (map.get (numbered was) n))
          (untied n place.number (λ e. l.0 (apart tag h.tag place h.place here l.1 (sym e ∙ sym h.own))))
          ∙ number_has was once apart n c (record { tag = h.tag; place = h.place; here = l.1; own = h.own; is = h.is })

      back : (n : ℕ) (c : Candidate) (b : Bool) → eq_by_cmp nat_cmp n place.number ≡ b → cond b None (map.get (numbered was) n) ≡ Some c → HasNumber is n c
      back n c true t e = absurd (let f : None ≡ Some c = e in cc)
      back n c false t e =
          let h = has_number was once n c e in
          let differ : tag ≢ h.tag = λ same.
          let places : place ≡ h.place = one_value (lookup (nat_eq tag) was) place h.place here (ap (λ k. lookup (nat_eq k) was) same ∙ h.here) in
          both_ways_absurd (eq_by_cmp nat_cmp n place.number) (ap (λ k. eq_by_cmp nat_cmp k place.number) (sym h.own ∙ ap (λ (r : Place). r.number) (sym places)) ∙ eq_by_nat_cmp-self place.number) t in
          record { tag = h.tag; place = h.place; here = stays h.tag h.place differ h.here; own = h.own; is = h.is }
