-- A tag that a match named which has stopped pending.
use Rattle.retention.proofs.Common.{◌≡◌, ◌||◌, Bool, true, false, List, [], ◌∷◌, refl, sym, ◌∙◌, ap, list_any, eq_by_cmp, or_parts, or_right, eq_by_cmp_equiv}
use Rattle.{retention.proofs.Common.{TagsLeftLaw}, rule_model.specs.{declared.matched.Match.{Match}, Matches.{match_cmp, has_match}, MatchOrders.{match_total}}}
use Rattle.{rule_model.proofs.Exact.{decides_by, match_exact}, agenda.specs.Agendas.{names_tag}}

itself : (m : Match) → eq_by_cmp match_cmp m m ≡ true
itself m = (eq_by_cmp_equiv match_total).refl m

-- a match that passes stands in no list of which none passes
not_there : (p : Match → Bool) (m : Match) (xs : List Match) → p m ≡ true → list_any p xs ≡ false → has_match xs m ≡ false
not_there p m [] is free = refl
not_there p m (x ∷ xs) is free = ap (λ t. t || has_match xs m) (apart (eq_by_cmp match_cmp m x) refl) ∙ not_there p m xs is (or_parts (p x) (list_any p xs) free).1
  where
    apart : (t : Bool) → eq_by_cmp match_cmp m x ≡ t → t ≡ false
    apart true e = let f : true ≡ false = sym is ∙ ap p ((decides_by match_cmp match_total match_exact m x).0 e) ∙ (or_parts (p x) (list_any p xs) free).0 in f
    apart false e = refl

-- where some match passes, there is one
witness : (p : Match → Bool) (xs : List Match) → list_any p xs ≡ true → (m : Match) × (p m ≡ true) × (has_match xs m ≡ true)
witness p [] is = let f : false ≡ true = is in cc
witness p (x ∷ xs) is = by (p x) refl is (witness p xs)
  where
    by : (t : Bool) → p x ≡ t → (t || list_any p xs) ≡ true → (list_any p xs ≡ true → (m : Match) × (p m ≡ true) × (has_match xs m ≡ true))
        → (m : Match) × (p m ≡ true) × (has_match (x ∷ xs) m ≡ true)
    by true e is rest = (x, e, ap (λ t. t || has_match xs x) (itself x))
    by false e is rest = let w = rest is in (w.0, w.1, or_right (eq_by_cmp match_cmp w.0 x) (has_match xs w.0) w.2)

pub left_law : TagsLeftLaw
left_law before after left leaves tag named free =
    let w = witness (names_tag tag) before.pending named in
    leaves w.0 tag w.2 (not_there (names_tag tag) w.0 after.pending w.1 free) w.1
