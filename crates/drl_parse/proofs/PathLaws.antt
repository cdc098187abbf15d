-- Names with dots are read exactly.
use Rattle.drl_parse.proofs.Common.{◌≡◌, ℕ, ◌<◌, ◌≤◌, Bool, List, ◌∷◌, length, Some, None, refl, arith, TokenKind, Word, Mark, Found, IsPath, Many}
use Rattle.drl_parse.proofs.Common.{phrase_binds, ExactPhrase, many_at, then, ident_then, ident_is, Begins, many_sound, many_again, many_shorter, Dot, Star}
use Rattle.drl_parse.proofs.Common.{IsPathStep, IsStar}
use Rattle.drl_grammar.specs.Items as g
use Rattle.drl_parse.specs.Reading.{step_at, path_at, path_star_at}

step_exact : ExactPhrase IsPathStep step_at 0
unfolding step_at
step_exact = record { sound = sound; again = again; shorter = shorter }
  where
    sound : (ts : List TokenKind) → Found IsPathStep ts (step_at ts)
    sound (Mark Dot ∷ Word f ∷ rest) = ident_then IsPathStep _ f _ (λ h. g.step h)
    sound ts = tt

    again : (x : List ℕ) (ts rest : List TokenKind) → IsPathStep x ts rest → 0 ≤ phrase_binds rest → step_at ts ≡ Some (x, rest)
    again x ts rest (g.step h) stop = ident_is x _ h

    shorter : (x : List ℕ) (ts rest : List TokenKind) → IsPathStep x ts rest → length rest < length ts
    shorter x ts rest (g.step h) = omega arith

step_begins : Begins IsPathStep 0
step_begins x ts rest h = omega arith

-- what is no dot begins no further name
pub no_step : (rest : List TokenKind) → 1 ≤ phrase_binds rest → step_at rest ≡ None
unfolding step_at
no_step (Mark Dot ∷ rest) stop = absurd (omega arith)
no_step rest stop = refl

-- where the tokens behind begin no further name
pub path_again : (x : List (List ℕ)) (ts rest : List TokenKind) → IsPath x ts rest → step_at rest ≡ None → path_at ts ≡ Some (x, rest)
unfolding path_at
path_again x ts rest (g.path {f} {fs} {ts = behind} h hs) stop = rw (ident_is f _ h, many_again step_exact step_begins fs behind rest hs stop (omega arith)) refl

pub path_exact : ExactPhrase IsPath path_at 1
unfolding path_at
path_exact = record { sound = sound; again = again; shorter = shorter }
  where
    sound : (ts : List TokenKind) → Found IsPath ts (path_at ts)
    sound (Word f ∷ ts) = ident_then IsPath _ f _ (λ h. then (Many IsPathStep) ts (many_at step_at ts) _ IsPath _ (many_sound step_exact ts) (λ fs hfs. g.path h hfs))
    sound ts = tt

    again : (x : List (List ℕ)) (ts rest : List TokenKind) → IsPath x ts rest → 1 ≤ phrase_binds rest → path_at ts ≡ Some (x, rest)
    again x ts rest h stop = path_again x ts rest h (no_step rest stop)

    shorter : (x : List (List ℕ)) (ts rest : List TokenKind) → IsPath x ts rest → length rest < length ts
    shorter x ts rest (g.path {fs} {ts = behind} h hs) = let less = many_shorter step_exact fs behind rest hs in omega arith

-- ---- a star at the end

pub star_sound : (ts : List TokenKind) → IsStar (path_star_at ts).0 ts (path_star_at ts).1
unfolding path_star_at
star_sound (Mark Dot ∷ Mark Star ∷ rest) = g.star
star_sound ts = g.no_star

pub star_again : (all : Bool) (ts rest : List TokenKind) → IsStar all ts rest → 1 ≤ phrase_binds rest → path_star_at ts ≡ (all, rest)
unfolding path_star_at
star_again all (Mark Dot ∷ ts) rest g.no_star stop = absurd (omega arith)
star_again all ts rest g.no_star stop = refl
star_again all ts rest g.star stop = refl

-- a path ends before a star
pub star_ends : (all : Bool) (ts rest : List TokenKind) → IsStar all ts rest → 1 ≤ phrase_binds rest → step_at ts ≡ None
unfolding step_at
star_ends all ts rest g.no_star stop = no_step ts stop
star_ends all ts rest g.star stop = refl

pub star_shorter : (all : Bool) (ts rest : List TokenKind) → IsStar all ts rest → length rest ≤ length ts
star_shorter all ts rest g.no_star = omega arith
star_shorter all ts rest g.star = omega arith
