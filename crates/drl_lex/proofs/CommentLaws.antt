-- The first end of a comment.
use Rattle.drl_lex.proofs.Common.{◌≡◌, ℕ, ◌++◌, ◌&&◌, Bool, true, false, eqb, List, [], ◌∷◌, drop, Option, Some, None, refl, ap, ◌∙◌, codes, eqb-true, begins}
use Rattle.{drl_lex.{proofs.Common.{IsWithout, close_step}, specs.Fronts.{behind_close}}, std.proofs.lemmas.Bool.{and_parts}}

-- a body without `*/`, and the `*/` behind it
pub record Closes (bytes rest : List ℕ) : Type 0 where
  pub body : List ℕ
  pub parts : bytes ≡ body ++ (codes "*/" ++ rest)
  pub first : IsWithout (codes "*/") body

abbrev pub CloseIs : List ℕ → Option (List ℕ) → Type 0
CloseIs bytes (Some rest) = Closes bytes rest
CloseIs bytes None = IsWithout (codes "*/") bytes

-- whether the bytes begin with `*/`
abbrev closes_at : ℕ → List ℕ → Bool
closes_at b bytes = eqb b 42 && begins (λ c. eqb c 47) bytes

slash_is : (bytes : List ℕ) → begins (λ c. eqb c 47) bytes ≡ true → bytes ≡ 47 ∷ drop 1 bytes
slash_is [] e = absurd cc
slash_is (c ∷ bytes) e = ap (λ (x : ℕ). x ∷ bytes) (eqb-true c 47 e)

without_more : (b : ℕ) (bytes : List ℕ) → closes_at b bytes ≡ false → IsWithout (codes "*/") bytes → IsWithout (codes "*/") (b ∷ bytes)
without_more b bytes e h [] back parts =
    let first : b ≡ 42 = cc in
    let behind : bytes ≡ 47 ∷ back = cc in
    let clash = rw (first, behind) at e in
    cc
without_more b bytes e h (f ∷ front) back parts = h front back cc

nothing_without : IsWithout (codes "*/") []
nothing_without [] back e = cc
nothing_without (f ∷ front) back e = cc

same_close : (b : ℕ) (body rest : List ℕ) → closes_at b body ≡ closes_at b (body ++ (codes "*/" ++ rest))
same_close b [] rest = refl
same_close b (c ∷ body) rest = refl

close_case : (t : Bool) (b : ℕ) (bytes : List ℕ) (more : Option (List ℕ)) → closes_at b bytes ≡ t → CloseIs bytes more → CloseIs (b ∷ bytes) (close_step t (drop 1 bytes) more)
close_case true b bytes more e h =
    let parts = and_parts (eqb b 42) (begins (λ c. eqb c 47) bytes) e in
    let first : b ≡ 42 = eqb-true b 42 parts.0 in
    record { body = []; parts = rw first (ap (λ (bs : List ℕ). 42 ∷ bs) (slash_is bytes parts.1)); first = nothing_without }
close_case false b bytes (Some rest) e h = record { body = b ∷ h.body; parts = ap (λ (bs : List ℕ). b ∷ bs) h.parts; first = without_more b h.body (same_close b h.body rest ∙ rw (← h.parts) e) h.first }
close_case false b bytes None e h = without_more b bytes e h

pub close_is : (bytes : List ℕ) → CloseIs bytes (behind_close bytes)
unfolding behind_close
close_is [] = nothing_without
close_is (b ∷ bytes) = close_case (closes_at b bytes) b bytes (behind_close bytes) refl (close_is bytes)

-- ---- what stands there is read

tail_without : (b : ℕ) (bytes : List ℕ) → IsWithout (codes "*/") (b ∷ bytes) → IsWithout (codes "*/") bytes
tail_without b bytes h front back e = h (b ∷ front) back (ap (λ (bs : List ℕ). b ∷ bs) e)

no_close : (t : Bool) (b : ℕ) (bytes : List ℕ) → closes_at b bytes ≡ t → IsWithout (codes "*/") (b ∷ bytes) → closes_at b bytes ≡ false
no_close false b bytes e h = e
no_close true b bytes e h =
    let parts = and_parts (eqb b 42) (begins (λ c. eqb c 47) bytes) e in
    let first : b ≡ 42 = eqb-true b 42 parts.0 in
    let behind : bytes ≡ 47 ∷ drop 1 bytes = slash_is bytes parts.1 in
    absurd (h [] (drop 1 bytes) (rw first (ap (λ (bs : List ℕ). 42 ∷ bs) behind)))

pub close_again : (body rest : List ℕ) → IsWithout (codes "*/") body → behind_close (body ++ (codes "*/" ++ rest)) ≡ Some rest
unfolding behind_close
close_again [] rest h = refl
close_again (b ∷ body) rest h = rw (← same_close b body rest, no_close (closes_at b body) b body refl h, close_again body rest (tail_without b body h)) refl

pub open_again : (bytes : List ℕ) → IsWithout (codes "*/") bytes → behind_close bytes ≡ None
unfolding behind_close
open_again [] h = refl
open_again (b ∷ bytes) h = rw (no_close (closes_at b bytes) b bytes refl h, open_again bytes (tail_without b bytes h)) refl
