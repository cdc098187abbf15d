-- How the tuples of a list grow, whatever is asked besides of what they bind.
use Rattle.rule_model.proofs.Common.{◌≡◌, ◌==◌, ◌&&◌, ℤ, inl, inr, List, [], ◌∷◌, ◌++◌, length, Some, sym, ◌∙◌, ap, subst, In, Fact, Row, Condition, Plain}
use Rattle.rule_model.proofs.Common.{Negated, Existing, Folded, Program, passing, is_mature, IsRow, Extends, Makes, result_of, extended, tuples, Snapshot}
use Rattle.rule_model.proofs.{Common.{floor, Tuple, empty_tuple, with_fact, with_value, row_of, bound_by}, Listed.{of_map, of_flat_map, of_if, of_unless}}
use Rattle.{rule_model.{proofs.Listed.{of_result}, specs.Rows.{rows}}, std.proofs.lemmas.List.{append-nil, append_assoc}}

-- a condition makes the second tuple of the first, without what it asks of absence, of maturity and of results
abbrev pub Grows : Program → Snapshot → Condition → Tuple → Tuple → Type 0
Grows p s (Plain q) t next = (f : Fact) × In f (passing p q s t) × (next ≡ with_fact t f)
Grows p s (Negated q) t next = next ≡ t
Grows p s (Existing q) t next = next ≡ t
Grows p s (Folded a) t next = (v : ℤ) × (result_of a (passing p a.pattern s t) ≡ Some v) × (next ≡ with_value t v)

abbrev pub GrowsAll : Program → Snapshot → List Condition → Tuple → Tuple → Type 0
GrowsAll p s [] t made = made ≡ t
GrowsAll p s (c ∷ cs) t made = (next : Tuple) × Grows p s c t next × GrowsAll p s cs next made

pub extends_grows : (p : Program) (s : Snapshot) (c : Condition) (t next : Tuple) → Extends p s c t next → Grows p s c t next
extends_grows p s (Plain q) t next x = x
extends_grows p s (Negated q) t next x = x.2
extends_grows p s (Existing q) t next x = x.2
extends_grows p s (Folded a) t next x = (x.0, x.1, x.3)

pub listed_grows : (p : Program) (s : Snapshot) (c : Condition) (t next : Tuple) → In next (extended p s c t) → Grows p s c t next
listed_grows p s (Plain q) t next i = let r = of_map (with_fact t) next (passing p q s t) i in (r.0, r.1, sym r.2)
listed_grows p s (Negated q) t next i = (of_if (length (passing p q s t) == 0 && is_mature p q (bound_by t) (floor p s q.entry.0)) t next i).1
listed_grows p s (Existing q) t next i = (of_unless (length (passing p q s t) == 0) t next i).1
listed_grows p s (Folded a) t next i = let r = of_result a t next (result_of a (passing p a.pattern s t)) i in (r.0, r.1, r.3)

pub makes_grow : (p : Program) (s : Snapshot) (cs : List Condition) (t made : Tuple) → Makes p s cs t made → GrowsAll p s cs t made
makes_grow p s [] t made m = m
makes_grow p s (c ∷ cs) t made m = (m.0, extends_grows p s c t m.0 m.1, makes_grow p s cs m.0 made m.2)

pub tuples_grow : (p : Program) (s : Snapshot) (cs : List Condition) (t made : Tuple) → In made (tuples p s cs t) → GrowsAll p s cs t made
tuples_grow p s [] t made (inl e) = e
tuples_grow p s [] t made (inr none) = absurd none
tuples_grow p s (c ∷ cs) t made i =
    let r = of_flat_map (tuples p s cs) made (extended p s c t) i in
    (r.0, listed_grows p s c t r.0 r.1, tuples_grow p s cs r.0 made r.2)

-- a row of a tuple that grew
pub record IsGrown (p : Program) (s : Snapshot) (cs : List Condition) (row : Row) : Type 0 where
  pub tuple : Tuple
  pub grown : GrowsAll p s cs empty_tuple tuple
  pub named : row_of tuple ≡ row

pub row_grown : (p : Program) (s : Snapshot) (cs : List Condition) (row : Row) → IsRow p s cs row → IsGrown p s cs row
row_grown p s cs row is = record { tuple = is.tuple; grown = makes_grow p s cs empty_tuple is.tuple is.made; named = is.named }

pub listed_grown : (p : Program) (s : Snapshot) (cs : List Condition) (row : Row) → In row (rows p s cs) → IsGrown p s cs row
unfolding rows
listed_grown p s cs row i =
    let r = of_map row_of row (tuples p s cs empty_tuple) i in
    record { tuple = r.0; grown = tuples_grow p s cs empty_tuple r.0 r.1; named = r.2 }

-- ---- what was bound stays in front

abbrev Begins : Tuple → Tuple → Type 0
Begins t next = (more : List Fact) × (next.facts ≡ t.facts ++ more)

grows_begins : (p : Program) (s : Snapshot) (c : Condition) (t next : Tuple) → Grows p s c t next → Begins t next
grows_begins p s (Plain q) t next x = (x.0 ∷ [], ap (λ (u : Tuple). u.facts) x.2)
grows_begins p s (Negated q) t next x = ([], ap (λ (u : Tuple). u.facts) x ∙ sym (append-nil t.facts))
grows_begins p s (Existing q) t next x = ([], ap (λ (u : Tuple). u.facts) x ∙ sym (append-nil t.facts))
grows_begins p s (Folded a) t next x = ([], ap (λ (u : Tuple). u.facts) x.2 ∙ sym (append-nil t.facts))

pub begins : (p : Program) (s : Snapshot) (cs : List Condition) (t made : Tuple) → GrowsAll p s cs t made → Begins t made
begins p s [] t made m = ([], ap (λ (u : Tuple). u.facts) m ∙ sym (append-nil t.facts))
begins p s (c ∷ cs) t made m =
    let a = grows_begins p s c t m.0 m.1 in
    let b = begins p s cs m.0 made m.2 in
    (a.0 ++ b.0, b.1 ∙ ap (λ fs. fs ++ b.0) a.1 ∙ append_assoc t.facts a.0 b.0)

-- what stands behind a common front
pub next_same : {A : Type 0} (front : List A) (x y : A) (xs ys : List A) → front ++ x ∷ xs ≡ front ++ y ∷ ys → x ≡ y
next_same [] x y xs ys e = cc
next_same (z ∷ front) x y xs ys e = let rest : front ++ x ∷ xs ≡ front ++ y ∷ ys = cc in next_same front x y xs ys rest

-- of one tuple a condition makes one for each fact at most
pub one_way : (p : Program) (s : Snapshot) (c : Condition) (t a b : Tuple) (xs ys : List Fact) → Grows p s c t a → Grows p s c t b → a.facts ++ xs ≡ b.facts ++ ys → a ≡ b
one_way p s (Plain q) t a b xs ys x y e =
    let left : (t.facts ++ x.0 ∷ []) ++ xs ≡ a.facts ++ xs = ap (λ (u : Tuple). u.facts ++ xs) (sym x.2) in
    let right : b.facts ++ ys ≡ (t.facts ++ y.0 ∷ []) ++ ys = ap (λ (u : Tuple). u.facts ++ ys) y.2 in
    let same : x.0 ≡ y.0 = next_same t.facts x.0 y.0 xs ys (sym (append_assoc t.facts (x.0 ∷ []) xs) ∙ left ∙ e ∙ right ∙ append_assoc t.facts (y.0 ∷ []) ys) in
    x.2 ∙ ap (with_fact t) same ∙ sym y.2
one_way p s (Negated q) t a b xs ys x y e = x ∙ sym y
one_way p s (Existing q) t a b xs ys x y e = x ∙ sym y
one_way p s (Folded f) t a b xs ys x y e =
    let same : x.0 ≡ y.0 = cc in
    x.2 ∙ ap (with_value t) same ∙ sym y.2

-- tuples that grew of one, and have the same facts, are the same
pub one_made : (p : Program) (s : Snapshot) (cs : List Condition) (t m n : Tuple) → GrowsAll p s cs t m → GrowsAll p s cs t n → m.facts ≡ n.facts → m ≡ n
one_made p s [] t m n x y e = x ∙ sym y
one_made p s (c ∷ cs) t m n x y e =
    let a = begins p s cs x.0 m x.2 in
    let b = begins p s cs y.0 n y.2 in
    let same : x.0 ≡ y.0 = one_way p s c t x.0 y.0 a.0 b.0 x.1 y.1 (sym a.1 ∙ e ∙ b.1) in
    one_made p s cs y.0 m n (subst (λ (u : Tuple). GrowsAll p s cs u m) same x.2) y.2 e
