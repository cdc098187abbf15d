-- What a rising part of a rising list leaves of it.
use Rattle.counting_node.proofs.Common.{◌≡◌, ◌∙◌, sym, ap, refl, int_lt, int_eq, ℕ, zero, suc, add-one, ◌+◌, ◌<◌, ◌≤◌, ℤ, length, get_or, drop, arith, List, []}
use Rattle.counting_node.proofs.{Common.{◌∷◌, ◌++◌, Bool, true, false, cond, ints, insert_rising, in_rising_order}, Extras.{rising_of_front}}
use Rattle.{std.proofs.Math.Seq.{drop-cons}, fx_base.proofs.Orders.{int_eq-self, int_lt-flip}}

-- the values of a list without those of a part of it, where both are walked once
abbrev pub leaves : List ℤ → List ℤ → List ℤ
leaves [] part = []
leaves (v ∷ vs) [] = v ∷ leaves vs []
leaves (v ∷ vs) (p ∷ ps) = cond (int_eq p v) (leaves vs ps) (v ∷ leaves vs (p ∷ ps))

-- one value more in both lists, which is not above the others of the part
abbrev IsBelow : ℤ → List ℤ → Type 0
IsBelow p [] = Unit {0}
IsBelow p (q ∷ qs) = int_lt q p ≡ false

less_other : (z p : ℤ) → int_lt z p ≡ true → int_eq p z ≡ false
less_other z p e = grind (arith, ints)

less_all : (z p q : ℤ) → int_lt z p ≡ true → int_lt q p ≡ false → int_eq q z ≡ false
less_all z p q e f = grind (arith, ints)

one_of_both : (p : ℤ) (zs ps : List ℤ) → IsBelow p ps → leaves (insert_rising p zs) (p ∷ ps) ≡ leaves zs ps
one_of_both p [] ps below = ap (λ b. cond b (leaves [] ps) (p ∷ leaves [] (p ∷ ps))) (int_eq-self p)
one_of_both p (z ∷ zs) ps below = by (int_lt z p) refl (one_of_both p zs ps below)
  where
    passed : int_lt z p ≡ true → (qs : List ℤ) → IsBelow p qs → z ∷ leaves zs qs ≡ leaves (z ∷ zs) qs
    passed e [] low = refl
    passed e (q ∷ qs) low = sym (ap (λ b. cond b (leaves zs qs) (z ∷ leaves zs (q ∷ qs))) (less_all z p q e low))

    by : (b : Bool) → int_lt z p ≡ b → leaves (insert_rising p zs) (p ∷ ps) ≡ leaves zs ps → leaves (cond b (z ∷ insert_rising p zs) (p ∷ (z ∷ zs))) (p ∷ ps) ≡ leaves (z ∷ zs) ps
    by true e rest =
        ap (λ b. cond b (leaves (insert_rising p zs) ps) (z ∷ leaves (insert_rising p zs) (p ∷ ps))) (less_other z p e)
        ∙ ap (λ (vs : List ℤ). z ∷ vs) rest ∙ passed e ps below
    by false e rest = ap (λ b. cond b (leaves (z ∷ zs) ps) (p ∷ leaves (z ∷ zs) (p ∷ ps))) (int_eq-self p)

nothing_left : (vs : List ℤ) → leaves vs [] ≡ vs
nothing_left [] = refl
nothing_left (v ∷ vs) = ap (λ (ws : List ℤ). v ∷ ws) (nothing_left vs)

abbrev Rises : List ℤ → Type 0
Rises [] = Unit {0}
Rises (p ∷ ps) = IsBelow p ps × Rises ps

leaves_rest : (part ys : List ℤ) → Rises part → leaves (in_rising_order (part ++ ys)) part ≡ in_rising_order ys
leaves_rest [] ys r = nothing_left (in_rising_order ys)
leaves_rest (p ∷ ps) ys r = one_of_both p (in_rising_order (ps ++ ys)) ps r.0 ∙ leaves_rest ps ys r.1

-- what is in rising order rises
below_insert : (v p : ℤ) (qs : List ℤ) → int_lt v p ≡ false → IsBelow p qs → IsBelow p (insert_rising v qs)
below_insert v p [] e low = e
below_insert v p (q ∷ qs) e low = by (int_lt q v)
  where
    by : (b : Bool) → IsBelow p (cond b (q ∷ insert_rising v qs) (v ∷ (q ∷ qs)))
    by true = low
    by false = e

rises_insert : (v : ℤ) (qs : List ℤ) → Rises qs → Rises (insert_rising v qs)
rises_insert v [] r = (tt, tt)
rises_insert v (q ∷ qs) r = by (int_lt q v) refl (rises_insert v qs r.1)
  where
    by : (b : Bool) → int_lt q v ≡ b → Rises (insert_rising v qs) → Rises (cond b (q ∷ insert_rising v qs) (v ∷ (q ∷ qs)))
    by true e rest = (below_insert v q qs (int_lt-flip q v e) r.0, rest)
    by false e rest = (e, r)

rises : (xs : List ℤ) → Rises (in_rising_order xs)
rises [] = tt
rises (x ∷ xs) = rises_insert x (in_rising_order xs) (rises xs)

pub leaves_beyond : (values part xs ys : List ℤ) → values ≡ in_rising_order (xs ++ ys) → part ≡ in_rising_order xs → leaves values part ≡ in_rising_order ys
leaves_beyond values part xs ys all kept =
    ap (λ (vs : List ℤ). leaves vs part) (all ∙ sym (rising_of_front xs ys)) ∙ ap (leaves (in_rising_order (in_rising_order xs ++ ys))) kept
    ∙ leaves_rest (in_rising_order xs) ys (rises xs)

-- ---- one turn of the walk
drop_more : (xs : List ℤ) (i : ℕ) (d : ℤ) → i < length xs → drop i xs ≡ get_or xs i d ∷ drop (i + 1) xs
drop_more xs i d below = drop-cons xs i d below ∙ ap (λ n. get_or xs i d ∷ drop n xs) (sym (add-one i))

drop_past : (xs : List ℤ) (n : ℕ) → length xs ≤ n → drop n xs ≡ []
drop_past [] zero h = refl
drop_past [] (suc n) h = refl
drop_past (x ∷ xs) zero h = absurd (omega arith)
drop_past (x ∷ xs) (suc n) h = drop_past xs n (omega arith)

module _ (values part : List ℤ) (i j : ℕ) (d e : ℤ) (below : i < length values) where
  pub leave_end : length part ≤ j → leaves (drop i values) (drop j part) ≡ get_or values i d ∷ leaves (drop (i + 1) values) (drop j part)
  leave_end past =
      ap (λ (vs : List ℤ). leaves vs (drop j part)) (drop_more values i d below)
      ∙ ap (leaves (get_or values i d ∷ drop (i + 1) values)) (drop_past part j past) ∙ ap (λ (ps : List ℤ). get_or values i d ∷ leaves (drop (i + 1) values) ps) (sym (drop_past part j past))

  module _ (inside : j < length part) where
    opened : leaves (drop i values) (drop j part) ≡ leaves (get_or values i d ∷ drop (i + 1) values) (get_or part j e ∷ drop (j + 1) part)
    opened = ap (λ (vs : List ℤ). leaves vs (drop j part)) (drop_more values i d below) ∙ ap (leaves (get_or values i d ∷ drop (i + 1) values)) (drop_more part j e inside)

    pub leave_here : int_eq (get_or part j e) (get_or values i d) ≡ true → leaves (drop i values) (drop j part) ≡ leaves (drop (i + 1) values) (drop (j + 1) part)
    leave_here same = opened ∙ ap (λ b. cond b (leaves (drop (i + 1) values) (drop (j + 1) part)) (get_or values i d ∷ leaves (drop (i + 1) values) (get_or part j e ∷ drop (j + 1) part))) same

    pub leave_not : int_eq (get_or part j e) (get_or values i d) ≡ false → leaves (drop i values) (drop j part) ≡ get_or values i d ∷ leaves (drop (i + 1) values) (drop j part)
    leave_not other =
        opened ∙ ap (λ b. cond b (leaves (drop (i + 1) values) (drop (j + 1) part)) (get_or values i d ∷ leaves (drop (i + 1) values) (get_or part j e ∷ drop (j + 1) part))) other
        ∙ ap (λ (ps : List ℤ). get_or values i d ∷ leaves (drop (i + 1) values) ps) (sym (drop_more part j e inside))

-- all of both lists
pub nothing_to_walk : (values part : List ℤ) (i : ℕ) → length values ≤ i → (qs : List ℤ) → leaves (drop i values) qs ≡ []
nothing_to_walk values part i past qs = ap (λ (vs : List ℤ). leaves vs qs) (drop_past values i past)

-- what was found, with one value more, and what is to come of a walk
pub behind : (done now next later all : List ℤ) (v : ℤ) → done ++ next ≡ all → now ≡ done ++ v ∷ [] → next ≡ v ∷ later → now ++ later ≡ all
behind done now next later all v was is more = ap (λ (xs : List ℤ). xs ++ later) is ∙ append_one done ∙ ap (λ (xs : List ℤ). done ++ xs) (sym more) ∙ was
  where
    append_one : (xs : List ℤ) → (xs ++ v ∷ []) ++ later ≡ xs ++ v ∷ later
    append_one [] = refl
    append_one (x ∷ xs) = ap (λ (ys : List ℤ). x ∷ ys) (append_one xs)
