-- What a set of rows, or of candidates, that goes or comes does to the rows that are made.
use Rattle.fan_join.proofs.Common.{◌≡◌, ◌∙◌, sym, ap, refl, Bool, true, false, not, ◌&&◌, ◌||◌, Option, Some, None, Named, Row, unjoined, splits}
use Rattle.join_memory.specs.Joined.{joined}

splits_imply : (t u : Row → Named → Bool) (b : Bool) → ((l : Row) (c : Named) → t l c ≡ true → u l c ≡ b) → (o : Option (Row × Named)) → splits t o ≡ true → splits u o ≡ b
splits_imply t u b h None e = let f : false ≡ true = e in cc
splits_imply t u b h (Some p) e = h p.0 p.1 e

splits_minus : (t u v : Row → Named → Bool) → ((l : Row) (c : Named) → v l c ≡ (t l c && not (u l c))) → (o : Option (Row × Named)) → splits v o ≡ (splits t o && not (splits u o))
splits_minus t u v h None = refl
splits_minus t u v h (Some p) = h p.0 p.1

splits_plus : (t u v : Row → Named → Bool) → ((l : Row) (c : Named) → v l c ≡ (t l c || u l c)) → (o : Option (Row × Named)) → splits v o ≡ (splits t o || splits u o)
splits_plus t u v h None = refl
splits_plus t u v h (Some p) = h p.0 p.1

splits_none : (t : Row → Named → Bool) → ((l : Row) (c : Named) → t l c ≡ false) → (o : Option (Row × Named)) → splits t o ≡ false
splits_none t h None = refl
splits_none t h (Some p) = h p.0 p.1

none_passes : (a b p : Bool) → (a ≡ true → b ≡ true → p ≡ false) → (a && (b && p)) ≡ false
none_passes true true p h = h refl refl
none_passes true false p h = refl
none_passes false b p h = refl

-- where none passes, no row is made
pub none_joined : (pass : Row → Named → Bool) (left : Row → Bool) (right : Named → Bool) → ((l : Row) (c : Named) → left l ≡ true → right c ≡ true → pass l c ≡ false) → (r : Row) → joined pass left right r ≡ false
unfolding joined
none_joined pass left right h r = splits_none _ (λ l c. none_passes (left l) (right c) (pass l c) (h l c)) (unjoined r)

-- kernels: a is the side that changes, g that it goes or comes, w that it does so in truth, q the rest
less_by : (a g q : Bool) → ((a && not g) && q) ≡ ((a && q) && not ((g && a) && q))
less_by true true true = refl
less_by true true false = refl
less_by true false true = refl
less_by true false false = refl
less_by false true q = refl
less_by false false q = refl

minus : (a g w q : Bool) → w ≡ (g && a) → ((a && not g) && q) ≡ ((a && q) && not (w && q))
minus a g w q is = less_by a g q ∙ ap (λ x. (a && q) && not (x && q)) (sym is)

more_by : (a g q : Bool) → ((a || g) && q) ≡ ((a && q) || ((g && not a) && q))
more_by true true true = refl
more_by true true false = refl
more_by true false true = refl
more_by true false false = refl
more_by false true q = refl
more_by false false q = refl

plus : (a g w q : Bool) → w ≡ (g && not a) → ((a || g) && q) ≡ ((a && q) || (w && q))
plus a g w q is = more_by a g q ∙ ap (λ x. (a && q) || (x && q)) (sym is)

inside_by : (a g q : Bool) → ((g && a) && q) ≡ true → (a && q) ≡ true
inside_by a true q e = e
inside_by a false q e = let f : false ≡ true = e in cc

inside : (a g w q : Bool) → w ≡ (g && a) → (w && q) ≡ true → (a && q) ≡ true
inside a g w q is e = inside_by a g q (ap (λ x. x && q) (sym is) ∙ e)

outside_by : (a g q : Bool) → ((g && not a) && q) ≡ true → (a && q) ≡ false
outside_by true true q e = let f : false ≡ true = e in cc
outside_by true false q e = let f : false ≡ true = e in cc
outside_by false g q e = refl

outside : (a g w q : Bool) → w ≡ (g && not a) → (w && q) ≡ true → (a && q) ≡ false
outside a g w q is e = outside_by a g q (ap (λ x. x && q) (sym is) ∙ e)

-- the same behind the row's side
behind_minus : (x a g w q : Bool) → w ≡ (g && a) → (x && ((a && not g) && q)) ≡ ((x && (a && q)) && not (x && (w && q)))
behind_minus true a g w q is = minus a g w q is
behind_minus false a g w q is = refl

behind_plus : (x a g w q : Bool) → w ≡ (g && not a) → (x && ((a || g) && q)) ≡ ((x && (a && q)) || (x && (w && q)))
behind_plus true a g w q is = plus a g w q is
behind_plus false a g w q is = refl

behind_inside : (x a g w q : Bool) → w ≡ (g && a) → (x && (w && q)) ≡ true → (x && (a && q)) ≡ true
behind_inside true a g w q is e = inside a g w q is e
behind_inside false a g w q is e = e

behind_outside : (x a g w q : Bool) → w ≡ (g && not a) → (x && (w && q)) ≡ true → (x && (a && q)) ≡ false
behind_outside true a g w q is e = outside a g w q is e
behind_outside false a g w q is e = refl

module _ (pass : Row → Named → Bool) (left goes w : Row → Bool) (right : Named → Bool) where
  pub rows_less : ((l : Row) → w l ≡ (goes l && left l)) → (r : Row) → joined pass (λ l. left l && not (goes l)) right r ≡ (joined pass left right r && not (joined pass w right r))
  unfolding joined
  rows_less is r = splits_minus _ _ _ (λ l c. minus (left l) (goes l) (w l) (right c && pass l c) (is l)) (unjoined r)

  pub rows_more : ((l : Row) → w l ≡ (goes l && not (left l))) → (r : Row) → joined pass (λ l. left l || goes l) right r ≡ (joined pass left right r || joined pass w right r)
  unfolding joined
  rows_more is r = splits_plus _ _ _ (λ l c. plus (left l) (goes l) (w l) (right c && pass l c) (is l)) (unjoined r)

  pub rows_inside : ((l : Row) → w l ≡ (goes l && left l)) → (r : Row) → joined pass w right r ≡ true → joined pass left right r ≡ true
  unfolding joined
  rows_inside is r = splits_imply _ _ true (λ l c. inside (left l) (goes l) (w l) (right c && pass l c) (is l)) (unjoined r)

  pub rows_outside : ((l : Row) → w l ≡ (goes l && not (left l))) → (r : Row) → joined pass w right r ≡ true → joined pass left right r ≡ false
  unfolding joined
  rows_outside is r = splits_imply _ _ false (λ l c. outside (left l) (goes l) (w l) (right c && pass l c) (is l)) (unjoined r)

module _ (pass : Row → Named → Bool) (left : Row → Bool) (right goes w : Named → Bool) where
  pub names_less : ((c : Named) → w c ≡ (goes c && right c)) → (r : Row) → joined pass left (λ c. right c && not (goes c)) r ≡ (joined pass left right r && not (joined pass left w r))
  unfolding joined
  names_less is r = splits_minus _ _ _ (λ l c. behind_minus (left l) (right c) (goes c) (w c) (pass l c) (is c)) (unjoined r)

  pub names_more : ((c : Named) → w c ≡ (goes c && not (right c))) → (r : Row) → joined pass left (λ c. right c || goes c) r ≡ (joined pass left right r || joined pass left w r)
  unfolding joined
  names_more is r = splits_plus _ _ _ (λ l c. behind_plus (left l) (right c) (goes c) (w c) (pass l c) (is c)) (unjoined r)

  pub names_inside : ((c : Named) → w c ≡ (goes c && right c)) → (r : Row) → joined pass left w r ≡ true → joined pass left right r ≡ true
  unfolding joined
  names_inside is r = splits_imply _ _ true (λ l c. behind_inside (left l) (right c) (goes c) (w c) (pass l c) (is c)) (unjoined r)

  pub names_outside : ((c : Named) → w c ≡ (goes c && not (right c))) → (r : Row) → joined pass left w r ≡ true → joined pass left right r ≡ false
  unfolding joined
  names_outside is r = splits_imply _ _ false (λ l c. behind_outside (left l) (right c) (goes c) (w c) (pass l c) (is c)) (unjoined r)
