-- What is read as a setter is one, and a setter is read.
use Rattle.drl_action.proofs.Common.{◌≡◌, ◌&&◌, ℕ, Bool, true, false, cond, List, [], ◌∷◌, ◌++◌, take, drop, Some, None, refl, sym, ap, ◌∙◌, IfSome, codes}
use Rattle.drl_action.{proofs.Common.{bytes_eq, bytes_eq-Decides, small, IsSetter, setter, set_field_named}, specs.Reading.{setter_at}}
use Rattle.{std.proofs.lemmas.List.{take-append-drop}, drl_lex.specs.Bytes.{begins_word}, drl_expr.specs.Words.{is_ident}}

named_sound : (b : ℕ) (bytes word : List ℕ) (begins ok : Bool) → begins_word (small b) ≡ begins → is_ident (small b ∷ bytes) ≡ ok → word ≡ codes "set" ++ (b ∷ bytes)
    → IfSome (cond (begins && ok) (Some (small b ∷ bytes)) None) (λ f. IsSetter f word)
named_sound b bytes word true true first e is = rw is (setter first e)
named_sound b bytes word true false first e is = tt
named_sound b bytes word false ok first e is = tt

field_sound : (word behind : List ℕ) → word ≡ codes "set" ++ behind → IfSome (set_field_named behind) (λ f. IsSetter f word)
field_sound word [] is = tt
field_sound word (b ∷ bytes) is = named_sound b bytes word (begins_word (small b)) (is_ident (small b ∷ bytes)) refl refl is

set_sound : (word : List ℕ) (set : Bool) → bytes_eq (take 3 word) (codes "set") ≡ set → IfSome (cond set (set_field_named (drop 3 word)) None) (λ f. IsSetter f word)
set_sound word true e = field_sound word (drop 3 word) (sym (take-append-drop 3 word) ∙ ap (λ (front : List ℕ). front ++ drop 3 word) ((bytes_eq-Decides (take 3 word) (codes "set")).0 e))
set_sound word false e = tt

pub setter_sound : (word : List ℕ) → IfSome (setter_at word) (λ f. IsSetter f word)
unfolding setter_at
setter_sound word = set_sound word (bytes_eq (take 3 word) (codes "set")) refl

pub setter_again : (f word : List ℕ) → IsSetter f word → setter_at word ≡ Some f
unfolding setter_at
setter_again f word (setter {b} {bytes} first h) = rw (first, h) refl
