-- The turns of loops over two lists side by side.
use Rattle.life_proof.proofs.Common.{◌≡◌, suc, false, List, [], ◌∷◌, length, refl, ap, Life, Program, TypeInfo, Asked, Part, are_good_parts, is_life_of}
use Rattle.{life_proof.proofs.Common.{are_lives_of, is_good_part}, std.proofs.lemmas.Bool.{and_right}}

-- lists of different length do not agree
pub unlike_lives : (types : List TypeInfo) (lives : List Life) → (length types ≡ length lives → ⊥) → are_lives_of types lives ≡ false
unlike_lives [] [] n = absurd (n refl)
unlike_lives [] (life ∷ lives) n = refl
unlike_lives (ty ∷ types) [] n = refl
unlike_lives (ty ∷ types) (life ∷ lives) n = and_right (is_life_of ty life) (are_lives_of types lives) (unlike_lives types lives (λ e. n (ap suc e)))

pub unlike_parts : (p : Program) (asked : List Asked) (parts : List Part) → (length asked ≡ length parts → ⊥) → are_good_parts p asked parts ≡ false
unlike_parts p [] [] n = absurd (n refl)
unlike_parts p [] (part ∷ parts) n = refl
unlike_parts p (a ∷ asked) [] n = refl
unlike_parts p (a ∷ asked) (part ∷ parts) n = and_right (is_good_part p a part) (are_good_parts p asked parts) (unlike_parts p asked parts (λ e. n (ap suc e)))
