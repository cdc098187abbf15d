-- The steps of reading what a rule asks for, as the code takes them: pieces behind those that are read already.
use Rattle.drl_condition.proofs.Common.{◌≡◌, ℕ, zero, suc, ◌-◌, ◌+◌, ◌<◌, ◌≤◌, true, false, List, [], ◌∷◌, ◌++◌, length, Some, None, refl, sym, ap, ◌∙◌}
use Rattle.drl_condition.proofs.Common.{append_assoc, arith, codes, TokenKind, Read, CondTree, Piece, One, Open, Or, Close, ◌>>=◌, with_front, condition_at}
use Rattle.drl_condition.proofs.Common.{PieceReader, after, after_word, ends_all, after_open}
use Rattle.drl_phrase.specs.declared.phrase.Punctuation.TheVariants as p
use Rattle.{drl_phrase.specs.Reading.{closed}, drl_condition.specs.Choices.{all_turns, all_at, any_turns, any_at, alternatives_at, choice_at}}

-- pieces behind others
regrouped : (xs ys : List Piece) (o : Read (List Piece)) → with_front xs (with_front ys o) ≡ with_front (xs ++ ys) o
regrouped xs ys None = refl
regrouped xs ys (Some ps) = ap (λ (whole : List Piece). Some (whole, ps.1)) (sym (append_assoc xs ys ps.0))

-- where nothing is read, nothing is read behind it
none_then : (front back : List Piece) (o : Read (List Piece)) (go : List Piece × List TokenKind → Read (List Piece)) → with_front back o ≡ None → with_front front (o >>= go) ≡ None
none_then front back None go e = refl
none_then front back (Some ps) go e = absurd cc

-- what was read, behind these pieces
record Behind (front : List Piece) (o : Read (List Piece)) (whole : List Piece) (rest : List TokenKind) : Type 0 where
  pieces : List Piece
  is_read : o ≡ Some (pieces, rest)
  are_all : whole ≡ front ++ pieces

abbrev pieces_of : Read (List Piece) → List Piece
pieces_of None = []
pieces_of (Some ps) = ps.0

abbrev rest_of : Read (List Piece) → List TokenKind
rest_of None = []
rest_of (Some ps) = ps.1

read_behind : (front : List Piece) (o : Read (List Piece)) (whole : List Piece) (rest : List TokenKind) → with_front front o ≡ Some (whole, rest) → Behind front o whole rest
read_behind front None whole rest e = absurd cc
read_behind front (Some (ps, behind)) whole rest e = record { pieces = ps; is_read = ap (λ (o : Read (List Piece)). Some (ps, rest_of o)) e; are_all = sym (ap pieces_of e) }

-- two alternatives, as they are appended
in_order : (front ps qs whole all : List Piece) → whole ≡ front ++ ps → all ≡ (whole ++ Or ∷ []) ++ qs → all ++ Close ∷ [] ≡ front ++ (ps ++ Or ∷ qs ++ Close ∷ [])
in_order front ps qs whole all e h = rw (h, e) (simp append_assoc)

-- ---- what is asked for together, and others of it

pub all_begins : (choice : PieceReader) (front : List Piece) (ts : List TokenKind) → with_front front (all_turns choice (length ts - 0) ts) ≡ with_front front (all_at choice ts)
unfolding all_at
all_begins choice front ts = let k : length ts - 0 ≡ length ts = omega arith in rw k refl

pub any_begins : (all : PieceReader) (front : List Piece) (ts : List TokenKind) → with_front front (any_turns all (length ts - 0) ts) ≡ with_front front (any_at all ts)
unfolding any_at
any_begins all front ts = let k : length ts - 0 ≡ length ts = omega arith in rw k refl

module _ (choice : PieceReader) (front : List Piece) (count i : ℕ) (ts : List TokenKind) (total : Read (List Piece)) where
  pub all_stops : i < count → with_front front (choice ts) ≡ None → with_front front (all_turns choice (count - i) ts) ≡ total → None ≡ total
  unfolding all_turns
  all_stops lt none so_far =
      let k : count - i ≡ suc (count - (i + 1)) = omega arith in
      let turn : with_front front (all_turns choice (count - i) ts) ≡ None = rw k (none_then front front (choice ts) _ none) in
      sym turn ∙ so_far

  pub all_ends : (whole : List Piece) (rest : List TokenKind) → i < count → with_front front (choice ts) ≡ Some (whole, rest) → ends_all rest ≡ true → with_front front (all_turns choice (count - i) ts) ≡ total
      → Some (whole, rest) ≡ total
  unfolding all_turns
  all_ends whole rest lt e end so_far =
      let read = read_behind front (choice ts) whole rest e in
      let k : count - i ≡ suc (count - (i + 1)) = omega arith in
      let turn : with_front front (all_turns choice (count - i) ts) ≡ Some (whole, rest) = rw (k, read.is_read, end, ← read.are_all) refl in
      sym turn ∙ so_far

  pub all_goes_on : (whole : List Piece) (rest : List TokenKind) → i < count → with_front front (choice ts) ≡ Some (whole, rest) → ends_all rest ≡ false → with_front front (all_turns choice (count - i) ts) ≡ total
      → with_front whole (all_turns choice (count - (i + 1)) rest) ≡ total
  unfolding all_turns
  all_goes_on whole rest lt e end so_far =
      let read = read_behind front (choice ts) whole rest e in
      let k : count - i ≡ suc (count - (i + 1)) = omega arith in
      let others = all_turns choice (count - (i + 1)) rest in
      let turn : with_front front (all_turns choice (count - i) ts) ≡ with_front whole others =
      rw (k, read.is_read, end) (regrouped front read.pieces others ∙ ap (λ (ps : List Piece). with_front ps others) (sym read.are_all)) in
      sym turn ∙ so_far

  pub all_no_turn : count ≤ i → with_front front (all_turns choice (count - i) ts) ≡ total → None ≡ total
  unfolding all_turns
  all_no_turn le so_far =
      let k : count - i ≡ 0 = omega arith in
      let turn : with_front front (all_turns choice (count - i) ts) ≡ None = rw k refl in
      sym turn ∙ so_far

module _ (all : PieceReader) (front : List Piece) (count i : ℕ) (ts : List TokenKind) (total : Read (List Piece)) where
  pub any_stops : i < count → with_front front (all ts) ≡ None → with_front front (any_turns all (count - i) ts) ≡ total → None ≡ total
  unfolding any_turns
  any_stops lt none so_far =
      let k : count - i ≡ suc (count - (i + 1)) = omega arith in
      let turn : with_front front (any_turns all (count - i) ts) ≡ None = rw k (none_then front front (all ts) _ none) in
      sym turn ∙ so_far

  pub any_ends : (whole : List Piece) (rest : List TokenKind) → i < count → with_front front (all ts) ≡ Some (whole, rest) → None ≡ after_word (codes "or") rest
      → with_front front (any_turns all (count - i) ts) ≡ total → Some (whole, rest) ≡ total
  unfolding any_turns
  any_ends whole rest lt e last so_far =
      let read = read_behind front (all ts) whole rest e in
      let k : count - i ≡ suc (count - (i + 1)) = omega arith in
      let turn : with_front front (any_turns all (count - i) ts) ≡ Some (whole, rest) = rw (k, read.is_read, ← last, ← read.are_all) refl in
      sym turn ∙ so_far

  pub any_goes_on : (whole : List Piece) (rest next : List TokenKind) → i < count → with_front front (all ts) ≡ Some (whole, rest) → Some next ≡ after_word (codes "or") rest
      → with_front front (any_turns all (count - i) ts) ≡ total → with_front (whole ++ Or ∷ []) (any_turns all (count - (i + 1)) next) ≡ total
  unfolding any_turns
  any_goes_on whole rest next lt e further so_far =
      let read = read_behind front (all ts) whole rest e in
      let others = any_turns all (count - (i + 1)) next in
      let k : count - i ≡ suc (count - (i + 1)) = omega arith in
      let turn : with_front front (any_turns all (count - i) ts) ≡ with_front (whole ++ Or ∷ []) others =
      rw (k, read.is_read, ← further) (regrouped front read.pieces (with_front (Or ∷ []) others) ∙ (regrouped (front ++ read.pieces) (Or ∷ []) others ∙ ap (λ (ps : List Piece). with_front (ps ++ Or ∷ []) others) (sym read.are_all))) in
      sym turn ∙ so_far

  pub any_no_turn : count ≤ i → with_front front (any_turns all (count - i) ts) ≡ total → None ≡ total
  unfolding any_turns
  any_no_turn le so_far =
      let k : count - i ≡ 0 = omega arith in
      let turn : with_front front (any_turns all (count - i) ts) ≡ None = rw k refl in
      sym turn ∙ so_far

-- ---- alternatives

module _ (choice : PieceReader) (front : List Piece) (ts : List TokenKind) where
  pub no_first : with_front front (all_at choice ts) ≡ None → None ≡ with_front front (alternatives_at choice ts)
  unfolding alternatives_at
  no_first none = sym (none_then front front (all_at choice ts) _ none)

  module _ (whole : List Piece) (rest : List TokenKind) (first : with_front front (all_at choice ts) ≡ Some (whole, rest)) where
    pub no_other : None ≡ after_word (codes "or") rest → None ≡ with_front front (alternatives_at choice ts)
    unfolding alternatives_at
    no_other last =
        let read = read_behind front (all_at choice ts) whole rest first in
        rw (read.is_read, ← last) refl

    pub no_more : (next : List TokenKind) → Some next ≡ after_word (codes "or") rest → with_front (whole ++ Or ∷ []) (any_at (all_at choice) next) ≡ None → None ≡ with_front front (alternatives_at choice ts)
    unfolding alternatives_at
    no_more next further none =
        let read = read_behind front (all_at choice ts) whole rest first in
        rw (read.is_read, ← further) (sym (none_then front (whole ++ Or ∷ []) (any_at (all_at choice) next) _ none))

    module _ (next : List TokenKind) (further : Some next ≡ after_word (codes "or") rest) (all : List Piece) (behind : List TokenKind) (others : with_front (whole ++ Or ∷ []) (any_at (all_at choice) next) ≡ Some (all, behind)) where
      pub still_open : None ≡ after p.CloseParenthesis behind → None ≡ with_front front (alternatives_at choice ts)
      unfolding alternatives_at closed
      still_open open_still =
          let read = read_behind front (all_at choice ts) whole rest first in
          let more = read_behind (whole ++ Or ∷ []) (any_at (all_at choice) next) all behind others in
          rw (read.is_read, ← further, more.is_read, ← open_still) refl

      pub closes : (end : List TokenKind) → Some end ≡ after p.CloseParenthesis behind → Some (all ++ Close ∷ [], end) ≡ with_front front (alternatives_at choice ts)
      unfolding alternatives_at closed
      closes end is_end =
          let read = read_behind front (all_at choice ts) whole rest first in
          let more = read_behind (whole ++ Or ∷ []) (any_at (all_at choice) next) all behind others in
          rw (read.is_read, ← further, more.is_read, ← is_end) (ap (λ (ps : List Piece). Some (ps, end)) (in_order front read.pieces more.pieces whole all read.are_all more.are_all))

-- ---- one choice

pub too_deep : (front : List Piece) (d : ℕ) (ts inside : List TokenKind) → Some inside ≡ after_open ts → d ≡ 0 → None ≡ with_front front (choice_at d ts)
unfolding choice_at
too_deep front zero ts inside opens e = rw (← opens) refl
too_deep front (suc d) ts inside opens e = absurd (omega arith)

pub deeper : (front all : List Piece) (d : ℕ) (ts inside : List TokenKind) → all ≡ front ++ Open ∷ [] → Some inside ≡ after_open ts → 0 < d
    → with_front all (alternatives_at (choice_at (d - 1)) inside) ≡ with_front front (choice_at d ts)
unfolding choice_at
deeper front all zero ts inside e opens lt = absurd (omega arith)
deeper front all (suc d) ts inside e opens lt = let k : suc d - 1 ≡ d = omega arith in rw (k, ← opens, e) (sym (regrouped front (Open ∷ []) (alternatives_at (choice_at d) inside)))

pub one_is : (d : ℕ) (ts : List TokenKind) → None ≡ after_open ts → choice_at d ts ≡ (condition_at ts >>= λ c. Some (One c.0 ∷ [], c.1))
unfolding choice_at
one_is zero ts shut = rw (← shut) refl
one_is (suc d) ts shut = rw (← shut) refl

pub no_condition : (front : List Piece) (d : ℕ) (ts : List TokenKind) → None ≡ after_open ts → condition_at ts ≡ None → None ≡ with_front front (choice_at d ts)
no_condition front d ts shut none = rw (one_is d ts shut, none) refl

pub one_condition : (front : List Piece) (d : ℕ) (ts rest : List TokenKind) (c : CondTree) → None ≡ after_open ts → condition_at ts ≡ Some (c, rest) → Some (front ++ One c ∷ [], rest) ≡ with_front front (choice_at d ts)
one_condition front d ts rest c shut is = rw (one_is d ts shut, is) refl
