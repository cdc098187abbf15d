-- A rule without alternatives, and without a pattern or a `not` on a type with subtypes, can be met in one way.
use Rattle.subrules.proofs.Common.{◌≡◌, false, cond, List, [], ◌∷◌, ◌++◌, map, refl, sym, ap, ◌∙◌, append_assoc, filter, flat_map, list_any, append-nil}
use Rattle.subrules.proofs.Common.{WrittenType, or_parts, Piece, is_varied, first_names, is_subtype, Way, times, over_type, choices, all_ways, conditions_of}
use Rattle.subrules.{proofs.Common.{CondTree}, specs.Ways.{each_behind, walked, ways_of}}
use Rattle.drl_grammar.specs.declared.condition.CondTree.TheVariants as condition
use Rattle.drl_grammar.specs.declared.written.Piece.TheVariants as piece

one_choice : (types : List WrittenType) (c : CondTree) → is_varied types (piece.One c) ≡ false → choices types c ≡ (c ∷ []) ∷ []
one_choice types (condition.Plain s) e =
    ap (λ b. map (λ name. condition.Plain (over_type s name) ∷ []) (s.ty ∷ cond b (filter (is_subtype types s.ty) (first_names types)) [])) e
one_choice types (condition.Negated s) e =
    ap (λ b. map (λ name. condition.Negated (over_type s name)) (s.ty ∷ cond b (filter (is_subtype types s.ty) (first_names types)) []) ∷ []) e
one_choice types (condition.Existing s) e = refl
one_choice types (condition.Folded result s kind arg tests) e = refl

-- behind a way that is all that has been asked for
straight : (types : List WrittenType) (pieces : List Piece) (way : Way) → list_any (is_varied types) pieces ≡ false
    → all_ways (walked types (record { inner = record { done = []; here = way ∷ [] }; outer = [] }) pieces).inner ≡ (way ++ flat_map conditions_of pieces) ∷ []
unfolding walked each_behind
straight types [] way e = ap (λ w. w ∷ []) (sym (append-nil way))
straight types (piece.One c ∷ pieces) way e =
    let parts = or_parts (is_varied types (piece.One c)) (list_any (is_varied types) pieces) e in
    ap (λ ways. all_ways (walked types (record { inner = record { done = []; here = times (way ∷ []) ways }; outer = [] }) pieces).inner) (one_choice types c parts.0)
    ∙ straight types pieces (way ++ c ∷ []) parts.1 ∙ ap (λ w. w ∷ []) (append_assoc way (c ∷ []) (flat_map conditions_of pieces))
straight types (piece.Open ∷ pieces) way e = absurd cc
straight types (piece.Or ∷ pieces) way e = absurd cc
straight types (piece.Close ∷ pieces) way e = absurd cc

pub one_way : (types : List WrittenType) (pieces : List Piece) → list_any (is_varied types) pieces ≡ false → ways_of types pieces ≡ flat_map conditions_of pieces ∷ []
unfolding ways_of
one_way types pieces e = straight types pieces [] e
