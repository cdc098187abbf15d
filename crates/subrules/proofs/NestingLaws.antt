-- The walk over the pieces of a rule finds the ways that the nesting of its alternatives says.
use Rattle.subrules.proofs.Common.{◌≡◌, ◌+◌, ◌-◌, ℕ, List, [], ◌∷◌, ◌++◌, length, take, Some, slice_get, refl, sym, ap, ◌∙◌, append_assoc, arith, length-append}
use Rattle.subrules.proofs.Common.{append-nil, Piece, WrittenType, Alternatives, Walk, Way, times, choices, all_ways, asks, closed_in, taken, at_begin, begun}
use Rattle.subrules.specs.{Ways.{each_behind, walked, ways_of}, Nesting.{OneHas, AllHave, AnyHas, OneHas.{condition, alternatives}, AllHave.{last, further}}}
use Rattle.{subrules.specs.Nesting.AnyHas.{only, or_else}, std.proofs.Math.Seq.{take-append_seam}, drl_lex.specs.declared.token.TokenKind.{TokenKind}}
use Rattle.drl_grammar.specs.{declared.written.Piece.TheVariants.{Open, Or, Close}, Conditions.{IsChoice, AreAll, AreAny, IsChoice.{one as choice_one}}}
use Rattle.drl_grammar.specs.Conditions.{IsChoice.{alternatives as choice_alternatives}, AreAll.{last as all_last, further as all_further}}
use Rattle.drl_grammar.specs.Conditions.AreAny.{only as any_only, or_else as any_or_else}

-- ---- products of ways

behind_both : (x y : Way) (zs : List Way) → each_behind zs (x ++ y) ≡ each_behind (each_behind zs y) x
unfolding each_behind
behind_both x y [] = refl
behind_both x y (z ∷ zs) = ap (λ w. w ∷ each_behind zs (x ++ y)) (append_assoc x y z) ∙ ap (λ ws. (x ++ (y ++ z)) ∷ ws) (behind_both x y zs)

behind_append : (x : Way) (ys zs : List Way) → each_behind (ys ++ zs) x ≡ each_behind ys x ++ each_behind zs x
unfolding each_behind
behind_append x [] zs = refl
behind_append x (y ∷ ys) zs = ap (λ ws. (x ++ y) ∷ ws) (behind_append x ys zs)

times_append : (xs ys zs : List Way) → times (xs ++ ys) zs ≡ times xs zs ++ times ys zs
times_append [] ys zs = refl
times_append (x ∷ xs) ys zs = ap (λ ws. each_behind zs x ++ ws) (times_append xs ys zs) ∙ sym (append_assoc (each_behind zs x) (times xs zs) (times ys zs))

times_behind : (x : Way) (ys zs : List Way) → times (each_behind ys x) zs ≡ each_behind (times ys zs) x
unfolding each_behind
times_behind x [] zs = refl
times_behind x (y ∷ ys) zs =
    ap (λ ws. ws ++ times (each_behind ys x) zs) (behind_both x y zs) ∙ ap (λ ws. each_behind (each_behind zs y) x ++ ws) (times_behind x ys zs)
    ∙ sym (behind_append x (each_behind zs y) (times ys zs))

times_assoc : (xs ys zs : List Way) → times (times xs ys) zs ≡ times xs (times ys zs)
times_assoc [] ys zs = refl
times_assoc (x ∷ xs) ys zs = times_append (each_behind ys x) (times xs ys) zs ∙ ap (λ ws. ws ++ times (times xs ys) zs) (times_behind x ys zs) ∙ ap (λ ws. each_behind (times ys zs) x ++ ws) (times_assoc xs ys zs)

free_behind : (ys : List Way) → each_behind ys [] ≡ ys
unfolding each_behind
free_behind [] = refl
free_behind (y ∷ ys) = ap (λ ws. y ∷ ws) (free_behind ys)

free_times : (ys : List Way) → times ([] ∷ []) ys ≡ ys
free_times ys = append-nil (each_behind ys []) ∙ free_behind ys

-- ---- walks

walked_on : (types : List WrittenType) (w : Walk) (ps qs : List Piece) → walked types w (ps ++ qs) ≡ walked types (walked types w ps) qs
unfolding walked
walked_on types w [] qs = refl
walked_on types w (p ∷ ps) qs = walked_on types (taken types w p) ps qs

abbrev with_inner : Walk → Alternatives → Walk
with_inner w a = record { inner = a; outer = w.outer }

one_less : (outer : List Alternatives) (a : Alternatives) → length (outer ++ a ∷ []) - 1 ≡ length outer
one_less outer a = ap (λ n. n - 1) (length-append outer (a ∷ [])) ∙ more_less (length outer)
  where
    more_less : (n : ℕ) → (n + 1) - 1 ≡ n
    more_less n = Prim.grind arith

at_end : (outer : List Alternatives) (a : Alternatives) → slice_get (outer ++ a ∷ []) (length outer) ≡ Some a
at_end [] a = refl
at_end (b ∷ outer) a = at_end outer a

last_is : (outer : List Alternatives) (a : Alternatives) → slice_get (outer ++ a ∷ []) (length (outer ++ a ∷ []) - 1) ≡ Some a
last_is outer a = ap (slice_get (outer ++ a ∷ [])) (one_less outer a) ∙ at_end outer a

front_is : (outer : List Alternatives) (a : Alternatives) → take (length (outer ++ a ∷ []) - 1) (outer ++ a ∷ []) ≡ outer
front_is outer a = ap (λ n. take n (outer ++ a ∷ [])) (one_less outer a) ∙ take-append_seam outer (a ∷ [])

closing : (types : List WrittenType) (w v : Walk) (ways : List Way) → v.outer ≡ w.outer ++ w.inner ∷ [] → all_ways v.inner ≡ ways
    → taken types v Close ≡ with_inner w (asks w.inner ways)
closing types w v ways outer inner =
    ap (λ o. closed_in v (slice_get o (length o - 1))) outer ∙ ap (closed_in v) (last_is w.outer w.inner)
    ∙ ap (λ ws. record { inner = asks w.inner ws; outer = take (length v.outer - 1) v.outer }) inner
    ∙ ap (λ o. record { inner = asks w.inner ways; outer = o }) (ap (λ o. take (length o - 1) o) outer ∙ front_is w.outer w.inner)

asks_twice : (a : Alternatives) (first others : List Way) → asks (asks a first) others ≡ asks a (times first others)
asks_twice a first others = ap (λ ws. record { done = a.done; here = ws }) (times_assoc a.here first others)

-- what has been done and asked for behind alternatives that begin free
behind_free : (a : Alternatives) (ways : List Way) → a.here ≡ [] ∷ [] → all_ways (asks a ways) ≡ a.done ++ ways
behind_free a ways free = ap (λ ws. a.done ++ times ws ways) free ∙ ap (λ ws. a.done ++ ws) (free_times ways)

mutual
  unfolding walked

  one_walked : (types : List WrittenType) {ps : List Piece} {ways : List Way} → OneHas types ps ways → (w : Walk) → walked types w ps ≡ with_inner w (asks w.inner ways)
  one_walked types condition w = refl
  one_walked types (alternatives {ps} {qs} {first} {others} a b) w =
      let opened : Walk = record { inner = begun; outer = w.outer ++ w.inner ∷ [] } in
      let parted : Walk = record { inner = record { done = all_ways (asks begun first); here = [] ∷ [] }; outer = w.outer ++ w.inner ∷ [] } in
      let inside : walked types w ((Open ∷ ps) ++ (Or ∷ qs)) ≡ walked types parted qs =
      walked_on types w (Open ∷ ps) (Or ∷ qs) ∙ ap (λ v. walked types v (Or ∷ qs)) (all_walked types a opened) in
      let r = any_walked types b parted refl in
      walked_on types w ((Open ∷ ps) ++ (Or ∷ qs)) (Close ∷ []) ∙ ap (λ v. taken types v Close) inside
      ∙ closing types w (walked types parted qs) (first ++ others) r.1 (r.0 ∙ ap (λ ws. ws ++ others) (behind_free begun first refl))

  all_walked : (types : List WrittenType) {ps : List Piece} {ways : List Way} → AllHave types ps ways → (w : Walk) → walked types w ps ≡ with_inner w (asks w.inner ways)
  all_walked types (last a) w = one_walked types a w
  all_walked types (further {ps} {qs} {first} {others} a b) w =
      walked_on types w ps qs ∙ ap (λ v. walked types v qs) (one_walked types a w) ∙ all_walked types b (with_inner w (asks w.inner first))
      ∙ ap (with_inner w) (asks_twice w.inner first others)

  any_walked : (types : List WrittenType) {ps : List Piece} {ways : List Way} → AnyHas types ps ways → (w : Walk) → w.inner.here ≡ [] ∷ []
      → (all_ways (walked types w ps).inner ≡ w.inner.done ++ ways) × ((walked types w ps).outer ≡ w.outer)
  any_walked types (only {ps} {ways} a) w free =
      (ap (λ v. all_ways v.inner) (all_walked types a w) ∙ behind_free w.inner ways free, ap (λ v. v.outer) (all_walked types a w))
  any_walked types (or_else {ps} {qs} {first} {others} a b) w free =
      let parted : Walk = record { inner = record { done = all_ways (asks w.inner first); here = [] ∷ [] }; outer = w.outer } in
      let same : walked types w (ps ++ Or ∷ qs) ≡ walked types parted qs = walked_on types w ps (Or ∷ qs) ∙ ap (λ v. walked types v (Or ∷ qs)) (all_walked types a w) in
      let r = any_walked types b parted refl in
      (ap (λ v. all_ways v.inner) same ∙ r.0 ∙ ap (λ ws. ws ++ others) (behind_free w.inner first free) ∙ append_assoc w.inner.done first others, ap (λ v. v.outer) same ∙ r.1)

pub walk_finds : (types : List WrittenType) (pieces : List Piece) (ways : List Way) → AllHave types pieces ways → ways_of types pieces ≡ ways
unfolding ways_of
walk_finds types pieces ways h = ap (λ w. all_ways w.inner) (all_walked types h at_begin) ∙ free_times ways

-- ---- what the grammar has

mutual
  one_has : (types : List WrittenType) {d : ℕ} {ps : List Piece} {ts rest : List TokenKind} → IsChoice d ps ts rest → (ways : List Way) × OneHas types ps ways
  one_has types (choice_one {d} {c} is) = (choices types c, condition)
  one_has types (choice_alternatives a b) = let x = all_have types a in let y = any_have types b in (x.0 ++ y.0, alternatives x.1 y.1)

  pub all_have : (types : List WrittenType) {d : ℕ} {ps : List Piece} {ts rest : List TokenKind} → AreAll d ps ts rest → (ways : List Way) × AllHave types ps ways
  all_have types (all_last a) = let x = one_has types a in (x.0, last x.1)
  all_have types (all_further a b) = let x = one_has types a in let y = all_have types b in (times x.0 y.0, further x.1 y.1)

  any_have : (types : List WrittenType) {d : ℕ} {ps : List Piece} {ts rest : List TokenKind} → AreAny d ps ts rest → (ways : List Way) × AnyHas types ps ways
  any_have types (any_only a) = let x = all_have types a in (x.0, only x.1)
  any_have types (any_or_else a b) = let x = all_have types a in let y = any_have types b in (x.0 ++ y.0, or_else x.1 y.1)
