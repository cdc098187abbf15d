-- The places of names in a list that grows at its end, and names that stand once.
use Rattle.drl_scope.proofs.Common.{◌≡◌, ◌+◌, ◌++◌, ◌∷◌, ◌&&◌, ◌||◌, ℕ, ◌<◌, Bool, true, false, not, List, [], length, get_or, drop, drop-cons, add-one, Option}
use Rattle.drl_scope.proofs.Common.{Some, None, is_some, cond, refl, sym, ap, subst, ◌∙◌, append_assoc, suc, arith, place_of_name, is_among}
use Rattle.{drl_scope.specs.Names.{place_from, are_distinct}, std.{proofs.lemmas.Bool.{or_right}, specs.Str.{bytes_eq}}}
use Rattle.{std.specs.Cmp.Lexicographic.{nat_list_eq_equiv}, fx_base.proofs.Tests.{or_first_false, or_second_false}}

abbrev turned : (a b : List ℕ) → bytes_eq a b ≡ bytes_eq b a
turned a b = nat_list_eq_equiv.symm a b

among_with : (a b : Bool) (k : ℕ) (o : Option ℕ) (rest : Bool) → a ≡ b → is_some o ≡ rest → is_some (cond a (Some k) o) ≡ (b || rest)
among_with true true k o rest e h = refl
among_with true false k o rest e h = cc
among_with false true k o rest e h = cc
among_with false false k o rest e h = h

pub placed_among : (k : ℕ) (names : List (List ℕ)) (name : List ℕ) → is_some (place_from k names name) ≡ is_among names name
unfolding place_from
placed_among k [] name = refl
placed_among k (first ∷ names) name = among_with (bytes_eq first name) (bytes_eq name first) k (place_from (k + 1) names name) (is_among names name) (turned first name) (placed_among (k + 1) names name)

-- ---- one name more at the end

abbrev or_else : Option ℕ → Option ℕ → Option ℕ
or_else None p = p
or_else (Some k) p = Some k

first_or : (b : Bool) (k : ℕ) (o p q : Option ℕ) → o ≡ or_else p q → cond b (Some k) o ≡ or_else (cond b (Some k) p) q
first_or true k o p q e = refl
first_or false k o p q e = e

placed_last : (k j : ℕ) (names : List (List ℕ)) (n name : List ℕ) → j ≡ k + length names → place_from k (names ++ n ∷ []) name ≡ or_else (place_from k names name) (cond (bytes_eq n name) (Some j) None)
unfolding place_from
placed_last k j [] n name e = let h : k ≡ j = omega arith in ap (λ x. cond (bytes_eq n name) (Some x) None) h
placed_last k j (first ∷ names) n name e =
    let h : j ≡ k + 1 + length names = omega arith in
    first_or (bytes_eq first name) k (place_from (k + 1) (names ++ n ∷ []) name) (place_from (k + 1) names name) (cond (bytes_eq n name) (Some j) None) (placed_last (k + 1) j names n name h)

-- names that are equal have the same place
placed_same : (k : ℕ) (names : List (List ℕ)) (n name : List ℕ) → bytes_eq n name ≡ true → place_from k names n ≡ place_from k names name
unfolding place_from
placed_same k [] n name e = refl
placed_same k (first ∷ names) n name e =
    let h : bytes_eq first n ≡ bytes_eq first name = turned first n ∙ nat_list_eq_equiv.congr n name first e ∙ turned name first in
    ap (λ b. cond b (Some k) (place_from (k + 1) names n)) h ∙ ap (λ o. cond (bytes_eq first name) (Some k) o) (placed_same (k + 1) names n name e)

kept_by : (b : Bool) (o p : Option ℕ) (j : ℕ) → is_some p ≡ true → (b ≡ true → p ≡ o) → or_else o (cond b (Some j) None) ≡ o
kept_by b (Some k) p j h e = refl
kept_by true None p j h e = let f : is_some {T = ℕ} None ≡ true = ap is_some (sym (e refl)) ∙ h in cc
kept_by false None p j h e = refl

added_by : (b : Bool) (o p : Option ℕ) (j : ℕ) → is_some p ≡ false → (b ≡ true → p ≡ o) → or_else o (cond b (Some j) None) ≡ cond b (Some j) o
added_by true (Some k) p j h e = let f : is_some (Some k) ≡ false = ap is_some (sym (e refl)) ∙ h in cc
added_by false (Some k) p j h e = refl
added_by true None p j h e = refl
added_by false None p j h e = refl

-- a name that is there keeps its place
pub kept : (names : List (List ℕ)) (n name : List ℕ) → is_some (place_of_name names n) ≡ true → place_of_name (names ++ n ∷ []) name ≡ place_of_name names name
kept names n name e =
    placed_last 0 (length names) names n name (omega arith) ∙ kept_by (bytes_eq n name) (place_of_name names name) (place_of_name names n) (length names) e (λ h. placed_same 0 names n name h)

-- a new name has the last place
pub added : (names : List (List ℕ)) (n name : List ℕ) → is_some (place_of_name names n) ≡ false → place_of_name (names ++ n ∷ []) name ≡ cond (bytes_eq n name) (Some (length names)) (place_of_name names name)
added names n name e =
    placed_last 0 (length names) names n name (omega arith) ∙ added_by (bytes_eq n name) (place_of_name names name) (place_of_name names n) (length names) e (λ h. placed_same 0 names n name h)

-- ---- names that stand once

or_any : (a b c : Bool) → b ≡ true → (a || (b || c)) ≡ true
or_any true true c e = refl
or_any true false c e = refl
or_any false true c e = refl
or_any false false c e = cc

among_middle : (names others : List (List ℕ)) (n name : List ℕ) → bytes_eq name n ≡ true → is_among (names ++ n ∷ others) name ≡ true
among_middle [] others n name e = or_any false (bytes_eq name n) (is_among others name) e
among_middle (first ∷ names) others n name e = or_right (bytes_eq name first) (is_among (names ++ n ∷ others) name) (among_middle names others n name e)

first_twice : (a b c : Bool) → a ≡ true → (not a && b) ≡ false
first_twice true b c e = refl
first_twice false b c e = cc

rest_twice : (a b : Bool) → b ≡ false → (not a && b) ≡ false
rest_twice true b e = refl
rest_twice false b e = e

-- a name that stands before and again
twice_at : (b : Bool) (first : List ℕ) (names others : List (List ℕ)) (name : List ℕ) → bytes_eq name first ≡ b → (b || is_among names name) ≡ true
    → (is_among names name ≡ true → are_distinct (names ++ name ∷ others) ≡ false) → are_distinct ((first ∷ names) ++ name ∷ others) ≡ false
unfolding are_distinct
twice_at true first names others name h e more = first_twice (is_among (names ++ name ∷ others) first) (are_distinct (names ++ name ∷ others)) true (among_middle names others name first (turned first name ∙ h))
twice_at false first names others name h e more = rest_twice (is_among (names ++ name ∷ others) first) (are_distinct (names ++ name ∷ others)) (more e)

pub twice : (names others : List (List ℕ)) (name : List ℕ) → is_among names name ≡ true → are_distinct (names ++ name ∷ others) ≡ false
twice [] others name e = cc
twice (first ∷ names) others name e = twice_at (bytes_eq name first) first names others name refl e (twice names others name)

among_last : (names : List (List ℕ)) (n name : List ℕ) → is_among names name ≡ false → bytes_eq name n ≡ false → is_among (names ++ n ∷ []) name ≡ false
among_last [] n name e h = rw h refl
among_last (first ∷ names) n name e h = among_last_at (bytes_eq name first) (is_among names name) (is_among (names ++ n ∷ []) name) e (λ g. among_last names n name g h) where
  among_last_at : (a b c : Bool) → (a || b) ≡ false → (b ≡ false → c ≡ false) → (a || c) ≡ false
  among_last_at true b c e h = e
  among_last_at false b c e h = h e

still_apart : (a b c d : Bool) → (not a && b) ≡ true → (a ≡ false → c ≡ false) → (b ≡ true → d ≡ true) → (not c && d) ≡ true
still_apart true b c d e h g = cc
still_apart false b true d e h g = let f : true ≡ false = h refl in cc
still_apart false b false d e h g = g e

-- one name more that is new
pub still_distinct : (names : List (List ℕ)) (name : List ℕ) → are_distinct names ≡ true → is_among names name ≡ false → are_distinct (names ++ name ∷ []) ≡ true
unfolding are_distinct
still_distinct [] name e h = refl
still_distinct (first ∷ names) name e h =
    still_apart (is_among names first) (are_distinct names) (is_among (names ++ name ∷ []) first) (are_distinct (names ++ name ∷ [])) e
    (λ g. among_last names name first g (turned first name ∙ or_first_false (bytes_eq name first) (is_among names name) h))
    (λ g. still_distinct names name g (or_second_false (bytes_eq name first) (is_among names name) h))

-- ---- the same, of a list that is read from its front

pub next_of : {A : Type 0} (done all : List A) (k : ℕ) (x : A) → done ++ drop k all ≡ all → k < length all → x ≡ get_or all k x → (done ++ x ∷ []) ++ drop (k + 1) all ≡ all
next_of done all k x e lt is = append_assoc done (x ∷ []) (drop (k + 1) all) ∙ ap (λ rest. done ++ rest) (sym (rw (add-one, drop-cons all k x lt) (ap (λ z. z ∷ drop (suc k) all) (sym is)))) ∙ e

pub twice_in : (done all : List (List ℕ)) (k : ℕ) (x : List ℕ) → done ++ drop k all ≡ all → k < length all → x ≡ get_or all k x → is_among done x ≡ true → are_distinct all ≡ false
twice_in done all k x e lt is h = subst (λ (z : List (List ℕ)). are_distinct z ≡ false) (sym (append_assoc done (x ∷ []) (drop (k + 1) all)) ∙ next_of done all k x e lt is) (twice done (drop (k + 1) all) x h)
