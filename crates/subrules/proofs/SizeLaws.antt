-- Sizes of ways are those of the ways that are written out.
use Rattle.subrules.proofs.Common.{◌≡◌, ◌<◌, ◌≤◌, ◌+◌, ◌-◌, ◌*◌, ◌||◌, ℕ, zero, suc, nat_lt, nat_eq, min, max, Bool, true, false, List, [], ◌∷◌, ◌++◌, length}
use Rattle.subrules.proofs.Common.{map, take, Option, Some, None, slice_get, option_map, cond, refl, sym, ap, ◌∙◌, arith, filter, list_any, length-append}
use Rattle.subrules.proofs.Common.{length-map, map-append, take-map, Piece, WrittenType, Alternatives, Walk, first_names, has_subtypes, is_subtype, kinds_of}
use Rattle.subrules.proofs.Common.{Way, times, over_type, choices, all_ways, asks, closed_in, taken, at_begin, at_no_piece, longest, sized, size_of, nothing}
use Rattle.subrules.proofs.Common.{free_size, begun_size, size_times, size_plus, size_of_choices, all_size, asks_size, closed_size, measured, size_of_all}
use Rattle.subrules.{proofs.Common.{size_of_walk, passes_limits, slice_get-map, are_too_many, CondTree}, specs.Ways.{each_behind, walked, ways_of}}
use Rattle.subrules.specs.{Sizes.{all_measured}, declared.sizes.{Size.{Size}, SizeOfAlternatives.{SizeOfAlternatives}, SizeWalk.{SizeWalk}}}
use Rattle.{std.proofs.Math.Nat.{mul_comm}, drl_grammar.specs.declared.condition.SourceTree.{SourceTree}}
use Rattle.drl_grammar.specs.declared.condition.CondTree.TheVariants as condition
use Rattle.drl_grammar.specs.declared.written.Piece.TheVariants as piece

-- ---- lists of ways

longest_append : (xs ys : List Way) → longest (xs ++ ys) ≡ max (longest xs) (longest ys)
longest_append [] ys = Prim.grind arith
longest_append (a ∷ xs) ys = let e = longest_append xs ys in Prim.grind arith

abbrev behind : Way → List Way → List Way
behind a ys = each_behind ys a

many_behind : (a : Way) (ys : List Way) → length (behind a ys) ≡ length ys
unfolding each_behind
many_behind a ys = length-map ys (λ (b : Way). a ++ b)

longest_behind : (a : Way) (b : Way) (ys : List Way) → longest (behind a (b ∷ ys)) ≡ length a + longest (b ∷ ys)
unfolding each_behind
longest_behind a b [] = let l = length-append a b in Prim.grind arith
longest_behind a b (c ∷ ys) = let l = length-append a b in let e = longest_behind a c ys in Prim.grind arith

many_times : (xs ys : List Way) → length (times xs ys) ≡ length xs * length ys
unfolding each_behind
many_times [] ys = Prim.grind arith
many_times (a ∷ xs) ys = length-append (behind a ys) (times xs ys) ∙ ap (λ n. n + length (times xs ys)) (many_behind a ys) ∙ ap (λ n. length ys + n) (many_times xs ys) ∙ Prim.grind arith

longest_times : (a b : Way) (xs ys : List Way) → longest (times (a ∷ xs) (b ∷ ys)) ≡ longest (a ∷ xs) + longest (b ∷ ys)
unfolding each_behind
longest_times a b [] ys = longest_append (behind a (b ∷ ys)) [] ∙ ap (λ n. max n 0) (longest_behind a b ys) ∙ Prim.grind arith
longest_times a b (c ∷ xs) ys =
    longest_append (behind a (b ∷ ys)) (times (c ∷ xs) (b ∷ ys)) ∙ ap (λ n. max n (longest (times (c ∷ xs) (b ∷ ys)))) (longest_behind a b ys)
    ∙ ap (λ n. max (length a + longest (b ∷ ys)) n) (longest_times c b xs ys) ∙ Prim.grind arith

times_nothing : (xs : List Way) → times xs [] ≡ []
unfolding each_behind
times_nothing [] = refl
times_nothing (a ∷ xs) = times_nothing xs

-- ---- sizes

-- a product with a number beyond the limit is beyond it
beyond : (a b : ℕ) → 257 ≤ a → 1 ≤ b → 257 ≤ a * b
beyond a zero many some = Prim.grind arith
beyond a (suc b) many some = Prim.grind arith

below : (a : ℕ) → a < 257 → min 257 a ≡ a
below a lt = Prim.grind arith

full : (a b : ℕ) → 257 ≤ a → 1 ≤ b → min 257 (a * b) ≡ 257
full a b many some = let n = beyond a b many some in Prim.grind arith

swapped : (a b : ℕ) → 1 ≤ a → 257 ≤ b → min 257 (a * b) ≡ 257
swapped a b some many = ap (min 257) (mul_comm a b) ∙ full b a many some

both_capped : (a b : ℕ) → 1 ≤ a → 1 ≤ b → min 257 (min 257 a * min 257 b) ≡ min 257 (a * b)
both_capped a b one two = by_cases (nat_lt a 257) (nat_lt b 257) refl refl
  where
    by_cases : (x y : Bool) → nat_lt a 257 ≡ x → nat_lt b 257 ≡ y → min 257 (min 257 a * min 257 b) ≡ min 257 (a * b)
    by_cases true true e f = ap (λ n. min 257 (n * min 257 b)) (below a (Prim.grind arith)) ∙ ap (λ n. min 257 (a * n)) (below b (Prim.grind arith))
    by_cases false y e f = full (min 257 a) (min 257 b) (Prim.grind arith) (Prim.grind arith) ∙ sym (full a b (Prim.grind arith) two)
    by_cases true false e f = swapped (min 257 a) (min 257 b) (Prim.grind arith) (Prim.grind arith) ∙ sym (swapped a b one (Prim.grind arith))

some_is : (m : ℕ) → 1 ≤ m → nat_eq (min 257 m) 0 ≡ false
some_is m some = Prim.grind arith

not_none : (m n c d : ℕ) → 1 ≤ m → 1 ≤ n → size_times (sized m c) (sized n d) ≡ sized (min 257 m * min 257 n) (min 9 c + min 9 d)
not_none m n c d some more = rw (some_is m some) (rw (some_is n more) refl)

capped_sum : (c d : ℕ) → min 9 (min 9 c + min 9 d) ≡ min 9 (c + d)
capped_sum c d = Prim.grind arith

product_of : (a b c d : ℕ) → 1 ≤ a → 1 ≤ b → size_times (sized a c) (sized b d) ≡ sized (a * b) (c + d)
product_of a b c d one two =
    not_none a b c d one two ∙ ap (λ (x : ℕ). record { count = x; longest = min 9 (min 9 c + min 9 d) }) (both_capped a b one two)
    ∙ ap (λ (x : ℕ). record { count = min 257 (a * b); longest = x }) (capped_sum c d)

size_of_times : (xs ys : List Way) → size_of (times xs ys) ≡ size_times (size_of xs) (size_of ys)
size_of_times [] ys = refl
size_of_times (a ∷ xs) [] = ap size_of (times_nothing (a ∷ xs)) ∙ sym (nothing_behind (length (a ∷ xs)) (longest (a ∷ xs)))
  where
    nothing_behind : (m k : ℕ) → size_times (sized m k) (size_of []) ≡ size_of []
    nothing_behind m k = either_none (nat_eq (min 257 m) 0)
      where
        either_none : (x : Bool) → (cond (x || true) nothing (sized (min 257 m * 0) (min 9 k + 0))) ≡ nothing
        either_none true = refl
        either_none false = refl
size_of_times (a ∷ xs) (b ∷ ys) =
    ap (λ n. sized n (longest (times (a ∷ xs) (b ∷ ys)))) (many_times (a ∷ xs) (b ∷ ys)) ∙ ap (sized (length (a ∷ xs) * length (b ∷ ys))) (longest_times a b xs ys)
    ∙ sym (product_of (length (a ∷ xs)) (length (b ∷ ys)) (longest (a ∷ xs)) (longest (b ∷ ys)) (Prim.grind arith) (Prim.grind arith))

size_of_plus : (xs ys : List Way) → size_of (xs ++ ys) ≡ size_plus (size_of xs) (size_of ys)
size_of_plus xs ys =
    ap (λ n. sized n (longest (xs ++ ys))) (length-append xs ys) ∙ ap (sized (length xs + length ys)) (longest_append xs ys) ∙ both_sized (length xs) (length ys) (longest xs) (longest ys)
  where
    both_sized : (m n k l : ℕ) → sized (m + n) (max k l) ≡ size_plus (sized m k) (sized n l)
    both_sized m n k l = ap (λ x. record { count = x; longest = min 9 (max k l) }) (counts m n) ∙ ap (λ x. record { count = min 257 (min 257 m + min 257 n); longest = x }) (longests k l)
      where
        counts : (m n : ℕ) → min 257 (m + n) ≡ min 257 (min 257 m + min 257 n)
        counts m n = Prim.grind arith

        longests : (k l : ℕ) → min 9 (max k l) ≡ min 9 (max (min 9 k) (min 9 l))
        longests k l = Prim.grind arith

longest_single : (f : List ℕ → CondTree) (name : List ℕ) (names : List (List ℕ)) → longest (map (λ k. f k ∷ []) (name ∷ names)) ≡ 1
longest_single f name [] = refl
longest_single f name (other ∷ names) = let e = longest_single f other names in Prim.grind arith

size_of_condition : (types : List WrittenType) (c : CondTree) → size_of (choices types c) ≡ size_of_choices types c
size_of_condition types (condition.Plain s) =
    let one = λ (name : List ℕ). condition.Plain (over_type s name) in
    ap (λ n. sized n (longest (choices types (condition.Plain s)))) (length-map (kinds_of types s.ty) (λ name. one name ∷ []))
    ∙ ap (sized (length (kinds_of types s.ty))) (longest_single one s.ty (cond (has_subtypes types s.ty) (filter (is_subtype types s.ty) (first_names types)) []))
size_of_condition types (condition.Negated s) =
    let long = length-map (kinds_of types s.ty) (λ name. condition.Negated (over_type s name)) in ap (sized 1) (ap (λ n. max n 0) long ∙ max_zero (length (kinds_of types s.ty)))
  where
    max_zero : (n : ℕ) → max n 0 ≡ n
    max_zero n = Prim.grind arith
size_of_condition types (condition.Existing s) = refl
size_of_condition types (condition.Folded result s kind arg tests) = refl

-- ---- numbers that stand still

count_still : (here : Size) (k : ℕ) → here.count ≡ 257 → 1 ≤ k → size_times here (sized 1 1) ≡ size_times here (sized k 1)
count_still here k e some = rw e (rw (some_is k some) (ap (λ (n : ℕ). record { count = n; longest = min 9 (here.longest + 1) }) (sym (full 257 (min 257 k) (Prim.grind arith) (Prim.grind arith)))))

longest_still : (here : Size) (k : ℕ) → here.longest ≡ 9 → 1 ≤ k → size_times here (sized 1 1) ≡ size_times here (sized 1 k)
longest_still here k e some = ap (λ (n : ℕ). cond (nat_eq here.count 0 || false) nothing (record { count = min 257 (here.count * 1); longest = n })) (still here.longest k e some)
  where
    still : (l k : ℕ) → l ≡ 9 → 1 ≤ k → min 9 (l + 1) ≡ min 9 (l + min 9 k)
    still l k e some = Prim.grind arith

pub plain_still : (types : List WrittenType) (here : Size) (s : SourceTree) → here.count ≡ 257
    → size_times here (sized 1 1) ≡ size_times here (size_of_choices types (condition.Plain s))
plain_still types here s e = count_still here (length (kinds_of types s.ty)) e (Prim.grind arith)

pub negated_still : (types : List WrittenType) (here : Size) (s : SourceTree) → here.longest ≡ 9
    → size_times here (sized 1 1) ≡ size_times here (size_of_choices types (condition.Negated s))
negated_still types here s e = longest_still here (length (kinds_of types s.ty)) e (Prim.grind arith)

-- ---- walks

asks_sized : (a : Alternatives) (ways : List Way) → size_of_all (asks a ways) ≡ asks_size (size_of_all a) (size_of ways)
asks_sized a ways = ap (λ (s : Size). record { done = size_of a.done; here = s }) (size_of_times a.here ways)

all_sized : (a : Alternatives) → size_of (all_ways a) ≡ all_size (size_of_all a)
all_sized a = size_of_plus a.done a.here

abbrev last_of : List Alternatives → Option Alternatives
last_of outer = slice_get outer (length outer - 1)

last_sized : (outer : List Alternatives) → slice_get (map size_of_all outer) (length (map size_of_all outer) - 1) ≡ option_map size_of_all (last_of outer)
last_sized outer = ap (λ n. slice_get (map size_of_all outer) (n - 1)) (length-map outer size_of_all) ∙ slice_get-map size_of_all outer (length outer - 1)

front_sized : (outer : List Alternatives) → map size_of_all (take (length outer - 1) outer) ≡ take (length (map size_of_all outer) - 1) (map size_of_all outer)
front_sized outer = sym (take-map size_of_all (length outer - 1) outer) ∙ ap (λ n. take (n - 1) (map size_of_all outer)) (sym (length-map outer size_of_all))

closed_sized : (w : Walk) (last : Option Alternatives) → size_of_walk (closed_in w last) ≡ closed_size (size_of_walk w) (option_map size_of_all last)
closed_sized w None = refl
closed_sized w (Some around) =
    ap (λ (i : SizeOfAlternatives). record { inner = i; outer = map size_of_all (take (length w.outer - 1) w.outer) }) (asks_sized around (all_ways w.inner) ∙ ap (asks_size (size_of_all around)) (all_sized w.inner))
    ∙ ap (λ (o : List SizeOfAlternatives). record { inner = asks_size (size_of_all around) (all_size (size_of_all w.inner)); outer = o }) (front_sized w.outer)

taken_sized : (types : List WrittenType) (w : Walk) (p : Piece) → size_of_walk (taken types w p) ≡ measured types (size_of_walk w) p
taken_sized types w (piece.One c) =
    ap (λ (i : SizeOfAlternatives). record { inner = i; outer = map size_of_all w.outer }) (asks_sized w.inner (choices types c) ∙ ap (asks_size (size_of_all w.inner)) (size_of_condition types c))
taken_sized types w piece.Open = ap (λ (o : List SizeOfAlternatives). record { inner = begun_size; outer = o }) (map-append size_of_all w.outer (w.inner ∷ []))
taken_sized types w piece.Or = ap (λ (s : Size). record { inner = record { done = s; here = free_size }; outer = map size_of_all w.outer }) (all_sized w.inner)
taken_sized types w piece.Close = closed_sized w (last_of w.outer) ∙ ap (closed_size (size_of_walk w)) (sym (last_sized w.outer))

walked_sized : (types : List WrittenType) (w : Walk) (pieces : List Piece) → size_of_walk (walked types w pieces) ≡ all_measured types (size_of_walk w) pieces
unfolding walked all_measured
walked_sized types w [] = refl
walked_sized types w (p ∷ pieces) = walked_sized types (taken types w p) pieces ∙ ap (λ (v : SizeWalk). all_measured types v pieces) (taken_sized types w p)

-- ---- limits

either_passes : (ways : List Way) → nat_lt 8 (longest ways) ≡ list_any (λ (way : Way). nat_lt 8 (length way)) ways
either_passes [] = refl
either_passes (way ∷ ways) = of_max (length way) (longest ways) ∙ ap (λ b. nat_lt 8 (length way) || b) (either_passes ways)
  where
    of_max : (m n : ℕ) → nat_lt 8 (max m n) ≡ (nat_lt 8 m || nat_lt 8 n)
    of_max m n = Prim.grind arith

many_passes : (n : ℕ) → nat_lt 256 (min 257 n) ≡ nat_lt 256 n
many_passes n = Prim.grind arith

long_passes : (n : ℕ) → nat_lt 8 (min 9 n) ≡ nat_lt 8 n
long_passes n = Prim.grind arith

-- the size of a walk over all pieces tells whether the limits are passed
pub passes_alike : (types : List WrittenType) (pieces : List Piece) (size : Size) → size ≡ all_size (all_measured types at_no_piece pieces).inner
    → passes_limits size ≡ are_too_many (ways_of types pieces)
unfolding ways_of
passes_alike types pieces size is =
    let ways = ways_of types pieces in
    let same : size ≡ size_of ways =
    is ∙ ap (λ (w : SizeWalk). all_size w.inner) (sym (walked_sized types at_begin pieces)) ∙ sym (all_sized (walked types at_begin pieces).inner) in
    ap (λ (s : Size). nat_lt 256 s.count || nat_lt 8 s.longest) same
    ∙ ap (λ b. b || nat_lt 8 (min 9 (longest ways))) (many_passes (length ways)) ∙ ap (λ b. nat_lt 256 (length ways) || b) (long_passes (longest ways) ∙ either_passes ways)
