-- What items are written out to behind the front watches the same types, and declares the same, as what they are written out to whole.
use Rattle.subrules.proofs.Common.{◌≡◌, ◌≤◌, ◌<◌, ◌+◌, ◌-◌, ◌||◌, ℕ, zero, suc, Bool, true, false, cond, List, [], ◌∷◌, ◌++◌, length, map, take, Option, Some}
use Rattle.subrules.proofs.Common.{None, slice_get, refl, sym, ap, ◌∙◌, subst, arith, nat_eq, length-append, length-map, flat_map, list_any, list_any-append}
use Rattle.subrules.proofs.Common.{is_among, CondTree, Piece, WrittenType, Alternatives, Walk, kinds_of, Way, times, over_type, choices, all_ways, asks}
use Rattle.subrules.proofs.Common.{closed_in, taken, at_begin, at_line, plain_items, titles_in, short_items, watching, slice_get_within, add-one, append_assoc}
use Rattle.{subrules.proofs.Common.{append-nil, none-some, same_Some}, std.specs.{Prelude.{get_or}, List.{All}, Str.{bytes_eq}}}
use Rattle.std.proofs.lemmas.{Grind.{flat_map-append}, List.{length-take-le, take-append-drop, Elements.{All-append, All-cons, All-nil, All-take}}}
use Rattle.{std.proofs.lemmas.Option.{slice_get-get_or}, fx_base.proofs.Sequences.{drop_at, drop_past}}
use Rattle.drl_grammar.specs.declared.condition.CondTree.TheVariants as condition
use Rattle.drl_grammar.specs.declared.{condition.SourceTree.{SourceTree}, file.Body.{Body}}
use Rattle.drl_grammar.specs.declared.file.Body.TheVariants as plain
use Rattle.drl_grammar.specs.declared.file.{Item.{Item}, RuleTree.{RuleTree}}
use Rattle.drl_grammar.specs.declared.written.Piece.TheVariants as piece
use Rattle.drl_grammar.specs.declared.written.WrittenBody.{WrittenBody}
use Rattle.drl_grammar.specs.declared.written.WrittenBody.TheVariants as body
use Rattle.{drl_grammar.specs.declared.written.{WrittenItem.{WrittenItem}, WrittenRule.{WrittenRule}}, drl_scope.specs.Declarations.{types_of, rules_of}}
use Rattle.{drl_scope.specs.Observed.{is_of_length, watched_by, watched_names}, subrules.specs.Expanded.{numbered_rules, origins_from, plain_bodies}}
use Rattle.subrules.specs.{Expanded.{plain_rules, rules_of_ways}, Front.{is_closed, open_at_end, open_behind, watches, watcher, shortened}, Ways.{each_behind}}
use Rattle.subrules.specs.Ways.{walked, ways_of}

-- ---- truth values

or_assoc : (a b c : Bool) → ((a || b) || c) ≡ (a || (b || c))
or_assoc true b c = refl
or_assoc false b c = refl

or_false : (a : Bool) → (a || false) ≡ a
or_false true = refl
or_false false = refl

or_twice : (a b m : Bool) → ((a || b) || (a || m)) ≡ (a || (b || m))
or_twice true b m = refl
or_twice false b m = refl

or_shared : (x r m : Bool) → ((x || m) || (r || m)) ≡ ((x || r) || m)
or_shared true r m = refl
or_shared false true true = refl
or_shared false true false = refl
or_shared false false true = refl
or_shared false false false = refl

end_or : (x m : Bool) → ((x || m) || false) ≡ ((x || false) || m)
end_or true m = refl
end_or false m = or_false m

-- ---- ways of which a condition passes a test

module _ (test : CondTree → Bool) where
  abbrev pub meets : List Way → Bool
  meets ways = list_any (list_any test) ways

  meets_behind : (a b : Way) (ys : List Way) → meets (each_behind (b ∷ ys) a) ≡ (list_any test a || meets (b ∷ ys))
  unfolding each_behind
  meets_behind a b [] = ap (λ x. x || false) (list_any-append test a b) ∙ or_assoc (list_any test a) (list_any test b) false
  meets_behind a b (c ∷ ys) =
      ap (λ x. x || meets (each_behind (c ∷ ys) a)) (list_any-append test a b) ∙ ap (λ x. (list_any test a || list_any test b) || x) (meets_behind a c ys)
      ∙ or_twice (list_any test a) (list_any test b) (meets (c ∷ ys))

  meets_times : (xs ys : List Way) → 1 ≤ length xs → 1 ≤ length ys → meets (times xs ys) ≡ (meets xs || meets ys)
  meets_times [] ys some more = absurd (omega (arith, some))
  meets_times (x ∷ xs) [] some more = absurd (omega (arith, more))
  meets_times (x ∷ []) (y ∷ ys) some more =
      list_any-append (list_any test) (each_behind (y ∷ ys) x) [] ∙ ap (λ b. b || false) (meets_behind x y ys) ∙ end_or (list_any test x) (meets (y ∷ ys))
  meets_times (x ∷ (z ∷ xs)) (y ∷ ys) some more =
      list_any-append (list_any test) (each_behind (y ∷ ys) x) (times (z ∷ xs) (y ∷ ys)) ∙ ap (λ b. b || meets (times (z ∷ xs) (y ∷ ys))) (meets_behind x y ys)
      ∙ ap (λ b. (list_any test x || meets (y ∷ ys)) || b) (meets_times (z ∷ xs) (y ∷ ys) (omega arith) more) ∙ or_shared (list_any test x) (meets (z ∷ xs)) (meets (y ∷ ys))

  of_all : (ways : List Way) → list_any test (flat_map (λ (way : Way). way) ways) ≡ meets ways
  of_all [] = refl
  of_all (way ∷ ways) = list_any-append test way (flat_map (λ (way : Way). way) ways) ∙ ap (λ b. list_any test way || b) (of_all ways)

times_some : (xs ys : List Way) → 1 ≤ length xs → 1 ≤ length ys → 1 ≤ length (times xs ys)
unfolding each_behind
times_some [] ys some more = absurd (omega (arith, some))
times_some (x ∷ xs) [] some more = absurd (omega (arith, more))
times_some (x ∷ xs) (y ∷ ys) some more = Prim.grind arith

choices_some : (types : List WrittenType) (c : CondTree) → 1 ≤ length (choices types c)
choices_some types (condition.Plain s) = Prim.grind arith
choices_some types (condition.Negated s) = Prim.grind arith
choices_some types (condition.Existing s) = Prim.grind arith
choices_some types (condition.Folded result s kind arg tests) = Prim.grind arith

-- ---- the last of a list

last_is : {A : Type 0} (xs : List A) (x : A) → slice_get xs (length xs - 1) ≡ Some x → xs ≡ take (length xs - 1) xs ++ x ∷ []
last_is xs x e =
    let i = length xs - 1 in
    let within : i < length xs = slice_get_within xs i x e in
    let is : x ≡ get_or xs i x = same_Some x (get_or xs i x) (sym e ∙ slice_get-get_or xs i x within) in
    sym (take-append-drop i xs) ∙ ap (λ zs. take i xs ++ zs) (drop_at xs i x within is ∙ ap (λ zs. x ∷ zs) (drop_past xs (i + 1) (omega arith)))

no_last : {A : Type 0} (xs : List A) → slice_get xs (length xs - 1) ≡ None → xs ≡ []
no_last [] e = refl
no_last (y ∷ ys) e = absurd (none-some _ (sym e ∙ slice_get-get_or (y ∷ ys) (length (y ∷ ys) - 1) y (omega arith)))

-- ---- walks

module _ (test : CondTree → Bool) (types : List WrittenType) where
  abbrev in_alternatives : Alternatives → Bool
  in_alternatives a = meets test a.done || meets test a.here

  abbrev in_walk : Walk → Bool
  in_walk w = list_any in_alternatives w.outer || in_alternatives w.inner

  abbrev in_piece : Piece → Bool
  in_piece (piece.One c) = meets test (choices types c)
  in_piece piece.Open = false
  in_piece piece.Or = false
  in_piece piece.Close = false

  -- something can be asked for in all alternatives that are open
  abbrev HasWay : Alternatives → Type 0
  HasWay a = 1 ≤ length a.here

  abbrev HaveWays : Walk → Type 0
  HaveWays w = HasWay w.inner × All HasWay w.outer

  asks_meets : (a : Alternatives) (ways : List Way) → HasWay a → 1 ≤ length ways → in_alternatives (asks a ways) ≡ (in_alternatives a || meets test ways)
  asks_meets a ways some more = ap (λ b. meets test a.done || b) (meets_times test a.here ways some more) ∙ sym (or_assoc (meets test a.done) (meets test a.here) (meets test ways))

  all_meets : (a : Alternatives) → meets test (all_ways a) ≡ in_alternatives a
  all_meets a = list_any-append (list_any test) a.done a.here

  all_some : (a : Alternatives) → HasWay a → 1 ≤ length (all_ways a)
  all_some a some = let n = length-append a.done a.here in omega (arith, some, n)

  outer_meets : (outer : List Alternatives) (a : Alternatives) → list_any in_alternatives (outer ++ a ∷ []) ≡ (list_any in_alternatives outer || in_alternatives a)
  outer_meets outer a = list_any-append in_alternatives outer (a ∷ []) ∙ ap (λ b. list_any in_alternatives outer || b) (or_false (in_alternatives a))

  last_has : (outer : List Alternatives) (i : ℕ) (a : Alternatives) → All HasWay outer → slice_get outer i ≡ Some a → HasWay a
  last_has outer i a have e =
      let within : i < length outer = slice_get_within outer i a e in
      subst HasWay (same_Some (get_or outer i a) a (sym (slice_get-get_or outer i a within) ∙ e)) (have i a within)

  closed_meets : (w : Walk) (last : Option Alternatives) → HaveWays w → slice_get w.outer (length w.outer - 1) ≡ last → in_walk (closed_in w last) ≡ (in_walk w || false)
  closed_meets w None some e = sym (or_false (in_walk w))
  closed_meets w (Some around) some e =
      let before = take (length w.outer - 1) w.outer in
      let parts : w.outer ≡ before ++ around ∷ [] = last_is w.outer around e in
      let has : HasWay around = last_has w.outer (length w.outer - 1) around some.1 e in
      ap (λ b. list_any in_alternatives before || b) (asks_meets around (all_ways w.inner) has (all_some w.inner some.0) ∙ ap (λ b. in_alternatives around || b) (all_meets w.inner))
      ∙ sym (or_assoc (list_any in_alternatives before) (in_alternatives around) (in_alternatives w.inner))
      ∙ ap (λ b. b || in_alternatives w.inner) (sym (outer_meets before around) ∙ ap (list_any in_alternatives) (sym parts)) ∙ sym (or_false (in_walk w))

  taken_meets : (w : Walk) (p : Piece) → HaveWays w → in_walk (taken types w p) ≡ (in_walk w || in_piece p)
  taken_meets w (piece.One c) some =
      ap (λ b. list_any in_alternatives w.outer || b) (asks_meets w.inner (choices types c) some.0 (choices_some types c))
      ∙ sym (or_assoc (list_any in_alternatives w.outer) (in_alternatives w.inner) (meets test (choices types c)))
  taken_meets w piece.Open some = ap (λ b. b || false) (outer_meets w.outer w.inner)
  taken_meets w piece.Or some =
      ap (λ b. list_any in_alternatives w.outer || (b || false)) (all_meets w.inner) ∙ sym (or_assoc (list_any in_alternatives w.outer) (in_alternatives w.inner) false)
  taken_meets w piece.Close some = closed_meets w (slice_get w.outer (length w.outer - 1)) some refl

  closed_some : (w : Walk) (last : Option Alternatives) → HaveWays w → slice_get w.outer (length w.outer - 1) ≡ last → HaveWays (closed_in w last)
  closed_some w None some e = some
  closed_some w (Some around) some e =
      (times_some around.here (all_ways w.inner) (last_has w.outer (length w.outer - 1) around some.1 e) (all_some w.inner some.0), All-take HasWay (length w.outer - 1) w.outer some.1)

  taken_some : (w : Walk) (p : Piece) → HaveWays w → HaveWays (taken types w p)
  taken_some w (piece.One c) some = (times_some w.inner.here (choices types c) some.0 (choices_some types c), some.1)
  taken_some w piece.Open some = (Prim.grind arith, All-append HasWay w.outer (w.inner ∷ []) some.1 (All-cons HasWay w.inner [] some.0 (All-nil HasWay)))
  taken_some w piece.Or some = (Prim.grind arith, some.1)
  taken_some w piece.Close some = closed_some w (slice_get w.outer (length w.outer - 1)) some refl

  walked_meets : (w : Walk) (pieces : List Piece) → HaveWays w → in_walk (walked types w pieces) ≡ (in_walk w || list_any in_piece pieces)
  unfolding walked
  walked_meets w [] some = sym (or_false (in_walk w))
  walked_meets w (p ∷ pieces) some =
      walked_meets (taken types w p) pieces (taken_some w p some) ∙ ap (λ b. b || list_any in_piece pieces) (taken_meets w p some) ∙ or_assoc (in_walk w) (in_piece p) (list_any in_piece pieces)

  -- how many alternatives are open

  closed_open : (w : Walk) (last : Option Alternatives) → slice_get w.outer (length w.outer - 1) ≡ last → length (closed_in w last).outer ≡ length w.outer - 1
  closed_open w None e = let n = ap length (no_last w.outer e) in omega (arith, n)
  closed_open w (Some around) e = length-take-le (length w.outer - 1) w.outer (omega arith)

  taken_open : (w : Walk) (p : Piece) → length (taken types w p).outer ≡ open_behind (length w.outer) p
  taken_open w (piece.One c) = refl
  taken_open w piece.Open = length-append w.outer (w.inner ∷ [])
  taken_open w piece.Or = refl
  taken_open w piece.Close = closed_open w (slice_get w.outer (length w.outer - 1)) refl

  walked_open : (w : Walk) (pieces : List Piece) → length (walked types w pieces).outer ≡ open_at_end (length w.outer) pieces
  unfolding walked open_at_end
  walked_open w [] = refl
  walked_open w (p ∷ pieces) = walked_open (taken types w p) pieces ∙ ap (λ n. open_at_end n pieces) (taken_open w p)

  none_open : (outer : List Alternatives) → length outer ≡ 0 → list_any in_alternatives outer ≡ false
  none_open [] e = refl
  none_open (a ∷ outer) e = absurd (omega (arith, e))

  -- a rule can be met in a way of which a condition passes the test exactly where such a condition is a choice of one of its pieces
  ways_meet : (pieces : List Piece) → is_closed pieces ≡ true → meets test (ways_of types pieces) ≡ list_any in_piece pieces
  unfolding ways_of
  ways_meet pieces closed =
      let w = walked types at_begin pieces in
      let open_none : length w.outer ≡ 0 = walked_open at_begin pieces ∙ is_zero (open_at_end 0 pieces) closed in
      all_meets w.inner ∙ ap (λ b. b || in_alternatives w.inner) (sym (none_open w.outer open_none)) ∙ walked_meets at_begin pieces (Prim.grind arith, All-nil HasWay)
    where
      is_zero : (n : ℕ) → nat_eq n 0 ≡ true → n ≡ 0
      is_zero n e = Prim.grind arith

-- ---- what is watched

module _ (types : List WrittenType) (name : List ℕ) where
  abbrev on : CondTree → Bool
  on c = is_among (watched_by c) name

  names_watched : (conditions : List CondTree) → is_among (flat_map watched_by conditions) name ≡ list_any on conditions
  names_watched [] = refl
  names_watched (c ∷ conditions) = list_any-append (bytes_eq name) (watched_by c) (flat_map watched_by conditions) ∙ ap (λ b. on c || b) (names_watched conditions)

  unwatched_over : (s : SourceTree) (names : List (List ℕ)) → is_of_length s.window ≡ false → meets on (map (λ name. condition.Plain (over_type s name) ∷ []) names) ≡ false
  unwatched_over s [] e = refl
  unwatched_over s (n ∷ names) e =
      ap (λ b. (is_among (cond b (n ∷ []) []) name || false) || meets on (map (λ name. condition.Plain (over_type s name) ∷ []) names)) e ∙ unwatched_over s names e

  unwatched : (c : CondTree) → watches c ≡ false → meets on (choices types c) ≡ false
  unwatched (condition.Plain s) e = unwatched_over s (kinds_of types s.ty) e
  unwatched (condition.Negated s) e = absurd cc
  unwatched (condition.Existing s) e = absurd cc
  unwatched (condition.Folded result s kind arg tests) e = absurd cc

  watching_one : (c : CondTree) (b : Bool) → watches c ≡ b → list_any on (cond b (flat_map (λ (way : Way). way) (choices types c)) []) ≡ meets on (choices types c)
  watching_one c true e = of_all on (choices types c)
  watching_one c false e = sym (unwatched c e)

  watching_piece : (p : Piece) → list_any on (watching types p) ≡ in_piece on types p
  watching_piece (piece.One c) = watching_one c (watches c) refl
  watching_piece piece.Open = refl
  watching_piece piece.Or = refl
  watching_piece piece.Close = refl

  watching_pieces : (pieces : List Piece) → list_any on (flat_map (watching types) pieces) ≡ list_any (in_piece on types) pieces
  watching_pieces [] = refl
  watching_pieces (p ∷ pieces) =
      list_any-append on (watching types p) (flat_map (watching types) pieces) ∙ ap (λ b. b || list_any on (flat_map (watching types) pieces)) (watching_piece p)
      ∙ ap (λ b. in_piece on types p || b) (watching_pieces pieces)

  -- ---- rules

  abbrev by_rules : List RuleTree → Bool
  by_rules rules = list_any (λ (r : RuleTree). list_any on r.conditions) rules

  abbrev items_of : ℕ → List RuleTree → List Item
  items_of line rules = map (at_line line) (map plain.Rule rules)

  rules_watch : (line : ℕ) (rules : List RuleTree) → is_among (watched_names (items_of line rules)) name ≡ by_rules rules
  rules_watch line [] = refl
  rules_watch line (r ∷ rules) =
      list_any-append (bytes_eq name) (flat_map watched_by r.conditions) (watched_names (items_of line rules)) ∙ ap (λ b. b || is_among (watched_names (items_of line rules)) name) (names_watched r.conditions)
      ∙ ap (λ b. list_any on r.conditions || b) (rules_watch line rules)

  numbered_watch : (r : WrittenRule) (k : ℕ) (ways : List Way) → by_rules (numbered_rules r k ways) ≡ meets on ways
  unfolding numbered_rules
  numbered_watch r k [] = refl
  numbered_watch r k (way ∷ ways) = ap (λ b. list_any on way || b) (numbered_watch r (k + 1) ways)

  ways_watch : (r : WrittenRule) (ways : List Way) → by_rules (rules_of_ways r ways) ≡ meets on ways
  ways_watch r [] = refl
  ways_watch r (way ∷ []) = refl
  ways_watch r (way ∷ (other ∷ ways)) = numbered_watch r 1 (way ∷ other ∷ ways)

  shortened_by : (r : WrittenRule) (b : Bool) → is_closed r.pieces ≡ b → by_rules (cond b (watcher types r ∷ []) (plain_rules types r)) ≡ by_rules (plain_rules types r)
  shortened_by r true e =
      or_false (list_any on (flat_map (watching types) r.pieces)) ∙ watching_pieces r.pieces ∙ sym (ways_meet on types r.pieces e) ∙ sym (ways_watch r (ways_of types r.pieces))
  shortened_by r false e = refl

  item_watches : (line : ℕ) (b : WrittenBody) → is_among (watched_names (plain_items types (record { line = line; body = b }))) name ≡ is_among (watched_names (short_items types (record { line = line; body = b }))) name
  item_watches line (body.Rule r) =
      rules_watch line (plain_rules types r) ∙ sym (shortened_by r (is_closed r.pieces) refl) ∙ sym (rules_watch line (shortened types r))
  item_watches line (body.Package path) = refl
  item_watches line (body.Import path star) = refl
  item_watches line (body.Dialect text) = refl
  item_watches line (body.Declare t) = refl
  item_watches line (body.Entry n lateness) = refl

  pub watched_append : (a b : List Item) → is_among (watched_names (a ++ b)) name ≡ (is_among (watched_names a) name || is_among (watched_names b) name)
  watched_append a b = ap (λ names. is_among names name) (flat_map-append _ a b) ∙ list_any-append (bytes_eq name) (watched_names a) (watched_names b)

  pub same_watched : (items : List WrittenItem) → is_among (watched_names (flat_map (plain_items types) items)) name ≡ is_among (watched_names (flat_map (short_items types) items)) name
  same_watched [] = refl
  same_watched (item ∷ items) =
      watched_append (plain_items types item) (flat_map (plain_items types) items) ∙ ap (λ b. b || is_among (watched_names (flat_map (plain_items types) items)) name) (item_watches item.line item.body)
      ∙ ap (λ b. is_among (watched_names (short_items types item)) name || b) (same_watched items) ∙ sym (watched_append (short_items types item) (flat_map (short_items types) items))

-- ---- what is declared

no_types : (line : ℕ) (rules : List RuleTree) → types_of (map (at_line line) (map plain.Rule rules)) ≡ []
no_types line [] = refl
no_types line (r ∷ rules) = no_types line rules

module _ (types : List WrittenType) where
  item_declares : (line : ℕ) (b : WrittenBody) → types_of (plain_items types (record { line = line; body = b })) ≡ types_of (short_items types (record { line = line; body = b }))
  item_declares line (body.Rule r) = no_types line (plain_rules types r) ∙ sym (no_types line (shortened types r))
  item_declares line (body.Package path) = refl
  item_declares line (body.Import path star) = refl
  item_declares line (body.Dialect text) = refl
  item_declares line (body.Declare t) = refl
  item_declares line (body.Entry name lateness) = refl

  pub same_types : (items : List WrittenItem) → types_of (flat_map (plain_items types) items) ≡ types_of (flat_map (short_items types) items)
  same_types [] = refl
  same_types (item ∷ items) =
      flat_map-append _ (plain_items types item) (flat_map (plain_items types) items) ∙ ap (λ ts. ts ++ types_of (flat_map (plain_items types) items)) (item_declares item.line item.body)
      ∙ ap (λ ts. types_of (short_items types item) ++ ts) (same_types items) ∙ sym (flat_map-append _ (short_items types item) (flat_map (short_items types) items))

  -- ---- how many there are

  all_rules : (line : ℕ) (rules : List RuleTree) → rules_of (map (at_line line) (map plain.Rule rules)) ≡ rules
  all_rules line [] = refl
  all_rules line (r ∷ rules) = ap (λ rs. r ∷ rs) (all_rules line rules)

  titles_counted : (line : ℕ) (b : WrittenBody) → length (rules_of (plain_items types (record { line = line; body = b }))) ≡ length (titles_in types b)
  titles_counted line (body.Rule r) = ap length (all_rules line (plain_rules types r)) ∙ sym (length-map (plain_rules types r) (λ (made : RuleTree). r.name))
  titles_counted line (body.Package path) = refl
  titles_counted line (body.Import path star) = refl
  titles_counted line (body.Dialect text) = refl
  titles_counted line (body.Declare t) = refl
  titles_counted line (body.Entry name lateness) = refl

  -- there are as many titles as rules
  pub as_many_titles : (items : List WrittenItem) → length (rules_of (flat_map (plain_items types) items)) ≡ length (flat_map (λ (item : WrittenItem). titles_in types item.body) items)
  as_many_titles [] = refl
  as_many_titles (item ∷ items) =
      ap length (flat_map-append _ (plain_items types item) (flat_map (plain_items types) items)) ∙ length-append (rules_of (plain_items types item)) (rules_of (flat_map (plain_items types) items))
      ∙ ap (λ n. n + length (rules_of (flat_map (plain_items types) items))) (titles_counted item.line item.body)
      ∙ ap (λ n. length (titles_in types item.body) + n) (as_many_titles items)
      ∙ sym (length-append (titles_in types item.body) (flat_map (λ (item : WrittenItem). titles_in types item.body) items))

  -- and as many origins as items
  pub as_many_origins : (k : ℕ) (items : List WrittenItem) → length (origins_from types k items) ≡ length (flat_map (plain_items types) items)
  unfolding origins_from
  as_many_origins k [] = refl
  as_many_origins k (item ∷ items) =
      length-append (map (λ (b : Body). k) (plain_bodies types item.body)) (origins_from types (k + 1) items)
      ∙ ap (λ n. n + length (origins_from types (k + 1) items)) (length-map (plain_bodies types item.body) (λ (b : Body). k) ∙ sym (length-map (plain_bodies types item.body) (at_line item.line)))
      ∙ ap (λ n. length (plain_items types item) + n) (as_many_origins (k + 1) items) ∙ sym (length-append (plain_items types item) (flat_map (plain_items types) items))

  pub origins_append : (k : ℕ) (a b : List WrittenItem) → origins_from types k (a ++ b) ≡ origins_from types k a ++ origins_from types (k + length a) b
  unfolding origins_from
  origins_append k [] b = ap (λ n. origins_from types n b) (omega arith)
  origins_append k (item ∷ a) b =
      ap (λ os. map (λ (b : Body). k) (plain_bodies types item.body) ++ os) (origins_append (k + 1) a b ∙ ap (λ n. origins_from types (k + 1) a ++ origins_from types n b) (omega arith))
      ∙ sym (append_assoc (map (λ (b : Body). k) (plain_bodies types item.body)) (origins_from types (k + 1) a) (origins_from types (k + length (item ∷ a)) b))

-- ---- one item more

take_suc : {A : Type 0} (xs : List A) (k : ℕ) (x : A) → k < length xs → x ≡ get_or xs k x → take (suc k) xs ≡ take k xs ++ x ∷ []
take_suc [] k x lt e = absurd (omega (arith, lt))
take_suc (y ∷ xs) zero x lt e = ap (λ z. z ∷ []) (sym e)
take_suc (y ∷ xs) (suc k) x lt e = let less : k < length xs = omega (arith, lt) in ap (λ zs. y ∷ zs) (take_suc xs k x less e)

take_next : {A : Type 0} (xs : List A) (k : ℕ) (x : A) → k < length xs → x ≡ get_or xs k x → take (k + 1) xs ≡ take k xs ++ x ∷ []
take_next xs k x lt e = rw add-one (take_suc xs k x lt e)

pub each_next : {A B : Type 0} (f : A → List B) (xs : List A) (k : ℕ) (x : A) → k < length xs → x ≡ get_or xs k x → flat_map f (take (k + 1) xs) ≡ flat_map f (take k xs) ++ f x
each_next f xs k x lt e = ap (flat_map f) (take_next xs k x lt e) ∙ flat_map-append f (take k xs) (x ∷ []) ∙ ap (λ ys. flat_map f (take k xs) ++ ys) (append-nil (f x))

pub origins_next : (types : List WrittenType) (items : List WrittenItem) (k : ℕ) (item : WrittenItem) → k < length items → item ≡ get_or items k item
    → origins_from types 1 (take (k + 1) items) ≡ origins_from types 1 (take k items) ++ map (λ (b : Body). k + 1) (plain_bodies types item.body)
unfolding origins_from
origins_next types items k item lt e =
    let n : 1 + length (take k items) ≡ k + 1 = let m = length-take-le k items (omega (arith, lt)) in omega (arith, m) in
    ap (origins_from types 1) (take_next items k item lt e) ∙ origins_append types 1 (take k items) (item ∷ [])
    ∙ ap (λ j. origins_from types 1 (take k items) ++ (map (λ (b : Body). j) (plain_bodies types item.body) ++ [])) n
    ∙ ap (λ os. origins_from types 1 (take k items) ++ os) (append-nil (map (λ (b : Body). k + 1) (plain_bodies types item.body)))
