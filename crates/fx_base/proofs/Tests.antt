-- Lemmas on truth values that the standard library lacks. What it has (`and_parts`, `or-false`, ..) is cited from there.
use Rattle.std.proofs.{Common.{◌≡◌, Bool, true, false, not, cond, ◌&&◌, ◌||◌, T, refl, sym, ap}, Math.Bool.{and-false, and-true, or-false, or-true}}

pub and_first : (a b : Bool) → (a && b) ≡ true → a ≡ true
and_first true b e = refl
and_first false b e = e

pub and_second : (a b : Bool) → (a && b) ≡ true → b ≡ true
and_second true b e = e
and_second false b e = absurd cc

pub or_first_false : (a b : Bool) → (a || b) ≡ false → a ≡ false
or_first_false true b e = e
or_first_false false b e = refl

pub or_second_false : (a b : Bool) → (a || b) ≡ false → b ≡ false
or_second_false false b e = e
or_second_false true b e = absurd cc

pub same_test : (a b : Bool) → (a ≡ true → b ≡ true) → (b ≡ true → a ≡ true) → a ≡ b
same_test true b f g = sym (f refl)
same_test false true f g = g refl
same_test false false f g = refl

pub not_not : (b : Bool) → not (not b) ≡ b
not_not true = refl
not_not false = refl

pub both_ways_absurd : {X : Type 0} (b : Bool) → b ≡ true → b ≡ false → X
both_ways_absurd true e f = absurd (let n : true ≡ false = f in cc)
both_ways_absurd false e f = absurd (let n : false ≡ true = e in cc)

pub and_not_not : (p a b : Bool) → ((p && not a) && not b) ≡ (p && not (a || b))
and_not_not true true b = refl
and_not_not true false b = refl
and_not_not false a b = refl

pub and_where : (a b c : Bool) → (a ≡ true → b ≡ c) → (a && b) ≡ (a && c)
and_where true b c h = h refl
and_where false b c h = refl

pub and_implied : (c t : Bool) → (c ≡ true → t ≡ true) → c ≡ (c && t)
and_implied true t h = sym (h refl)
and_implied false t h = refl

pub and_not_excluded : (w l : Bool) → (w ≡ true → l ≡ false) → w ≡ (w && not l)
and_not_excluded true l h = sym (ap not (h refl))
and_not_excluded false l h = refl

pub and_is : (k s : Bool) → s ≡ true → (k && s) ≡ k
and_is true s e = e
and_is false s e = refl

pub and_not_self : (b : Bool) → false ≡ (b && not b)
and_not_self true = refl
and_not_self false = refl

pub and_or_and : (d a n q : Bool) → (d && ((a || n) && q)) ≡ ((d && (a && q)) || (d && (n && q)))
and_or_and true true n true = refl
and_or_and true true true false = refl
and_or_and true true false false = refl
and_or_and true false n q = refl
and_or_and false a n q = refl

pub or_and_join : (o t a b : Bool) → ((o || (t && a)) || (t && b)) ≡ (o || (t && (a || b)))
or_and_join true t a b = refl
or_and_join false false a b = refl
or_and_join false true true b = refl
or_and_join false true false b = refl

pub or_implied : (t e : Bool) → (e ≡ true → t ≡ true) → t ≡ (t || e)
or_implied true e h = refl
or_implied false true h = h refl
or_implied false false h = refl

pub or_weaker : (a b c : Bool) → (b ≡ true → c ≡ true) → (a || b) ≡ true → (a || c) ≡ true
or_weaker true b c h e = refl
or_weaker false b c h e = h e

pub or_and_implied : (e h t : Bool) → (e ≡ true → t ≡ true) → (e || (h && t)) ≡ ((e || h) && t)
or_and_implied true h t k = sym (k refl)
or_and_implied false h t k = refl

pub or_and_excluded : (e h t : Bool) → (e ≡ true → t ≡ false) → (h && t) ≡ ((e || h) && t)
or_and_excluded true true t k = refl
or_and_excluded true false t k = sym (k refl)
or_and_excluded false h t k = refl

pub cond_false_first : (t o : Bool) → cond t false o ≡ (o && not t)
cond_false_first true o = sym (and-false o)
cond_false_first false o = sym (and-true o)

pub cond_true_first : (old t : Bool) → cond t true old ≡ (old || t)
cond_true_first old true = sym (or-true old)
cond_true_first old false = sym (or-false old)

pub cond_not : {X : Type 0} (b : Bool) (x y : X) → cond b x y ≡ cond (not b) y x
cond_not true x y = refl
cond_not false x y = refl

pub T_first : (a b : Bool) → T (a && b) → T a
T_first true b p = tt
T_first false b p = p

pub T_second : (a b : Bool) → T (a && b) → T b
T_second true b p = p
T_second false b p = absurd p

pub T_both : (a b : Bool) → T a → T b → T (a && b)
T_both true b p q = q
T_both false b p q = p
