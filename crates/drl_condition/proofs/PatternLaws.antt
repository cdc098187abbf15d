-- Patterns with their windows and entry points are read exactly.
use Rattle.drl_condition.proofs.Common.{◌≡◌, ◌&&◌, ℕ, ◌<◌, ◌≤◌, List, ◌∷◌, length, Option, Some, None, refl, arith, codes, bytes_eq, TokenKind, Word, Var}
use Rattle.drl_condition.proofs.Common.{Number, Mark, OpenParenthesis, CloseParenthesis, Colon, Minus, Found, SourceTree, Listed, IsSpan, IsPart, IsBinding}
use Rattle.drl_condition.proofs.Common.{IsSource, IsGroup, phrase_binds, ExactPhrase, listed_at, span_at, then, if_some_then, guarded, ident_then, ident_is}
use Rattle.drl_condition.proofs.Common.{same_bytes, closed_then, span_exact, WindowWord, TimeWord, LengthWord, Maybe, left_out, written, IsName, IsWindow}
use Rattle.drl_condition.proofs.Common.{IsPlace, maybe_at, name_at, maybe_sound, maybe_again, maybe_shorter, name_exact, window_word, part_at}
use Rattle.{std.proofs.lemmas.Bool.{and_parts}, drl_grammar.specs.declared.condition.WindowTree.{WindowTree}}
use Rattle.drl_grammar.specs.Conditions as g
use Rattle.drl_phrase.specs.declared.phrase.Punctuation.TheVariants as p
use Rattle.{drl_phrase.specs.Reading.{closed, after}, drl_condition.specs.Reading.{extent_at, window_at, place_at, binding_at, pattern_at, source_at, group_at}}
use Rattle.drl_condition.proofs.{WordLaws.{window_text, window_sound, window_again, word_differs}, PartLaws.{parts_exact}}

-- ---- windows and entry points

extent_sound : (word : WindowWord) (ts : List TokenKind)
    → Found IsWindow (Word (codes "over") ∷ Word (codes "window") ∷ Mark Colon ∷ Word (window_text word) ∷ Mark OpenParenthesis ∷ ts) (extent_at word ts)
unfolding extent_at
extent_sound TimeWord ts = then IsSpan ts (span_at ts) _ IsWindow _ (span_exact.sound ts) (λ ms hms. closed_then p.CloseParenthesis IsSpan ms.0 ts _ ms.1 IsWindow _ hms (λ rest hr. g.time hr))
extent_sound LengthWord (Number n ∷ Mark CloseParenthesis ∷ rest) = g.length
extent_sound LengthWord ts = tt

kind_sound : (kind : List ℕ) (ts : List TokenKind)
    → Found IsWindow (Word (codes "over") ∷ Word (codes "window") ∷ Mark Colon ∷ Word kind ∷ Mark OpenParenthesis ∷ ts) (window_at (Word (codes "over") ∷ Word (codes "window") ∷ Mark Colon ∷ Word kind ∷ Mark OpenParenthesis ∷ ts))
unfolding window_at
kind_sound kind ts = if_some_then (window_word kind) (λ word. kind ≡ window_text word) (λ word. extent_at word ts) IsWindow _ (window_sound kind) (λ word e. rw e (extent_sound word ts))

pub window_exact : ExactPhrase IsWindow window_at 0
unfolding window_at extent_at closed after
window_exact = record { sound = sound; again = again; shorter = shorter }
  where
    sound : (ts : List TokenKind) → Found IsWindow ts (window_at ts)
    sound (Word o ∷ Word w ∷ Mark Colon ∷ Word kind ∷ Mark OpenParenthesis ∷ ts) = guarded IsWindow _ (bytes_eq o (codes "over") && bytes_eq w (codes "window")) _ (λ e.
        let words = and_parts (bytes_eq o (codes "over")) (bytes_eq w (codes "window")) e in rw (same_bytes o (codes "over") words.0, same_bytes w (codes "window") words.1) (kind_sound kind ts))
    sound ts = tt

    again : (x : WindowTree) (ts rest : List TokenKind) → IsWindow x ts rest → 0 ≤ phrase_binds rest → window_at ts ≡ Some (x, rest)
    again x ts rest (g.time {ms} {ts = inner} h) stop = rw (window_again TimeWord, span_exact.again ms inner (Mark CloseParenthesis ∷ rest) h (omega arith)) refl
    again x ts rest g.length stop = rw (window_again LengthWord) refl

    shorter : (x : WindowTree) (ts rest : List TokenKind) → IsWindow x ts rest → length rest < length ts
    shorter x ts rest (g.time {ms} {ts = inner} h) = let less = span_exact.shorter ms inner (Mark CloseParenthesis ∷ rest) h in omega arith
    shorter x ts rest g.length = omega arith

pub place_exact : ExactPhrase IsPlace place_at 0
unfolding place_at
place_exact = record { sound = sound; again = again; shorter = shorter }
  where
    named : (ts : List TokenKind) (o : _) → Found IsName ts o → Found IsPlace (Word (codes "from") ∷ Word (codes "entry") ∷ Mark Minus ∷ Word (codes "point") ∷ ts) o
    named ts None h = tt
    named ts (Some x) h = g.place h

    sound : (ts : List TokenKind) → Found IsPlace ts (place_at ts)
    sound (Word f ∷ Word e ∷ Mark Minus ∷ Word point ∷ ts) = guarded IsPlace _ (bytes_eq f (codes "from") && (bytes_eq e (codes "entry") && bytes_eq point (codes "point"))) _ (λ h.
        let words = and_parts (bytes_eq f (codes "from")) (bytes_eq e (codes "entry") && bytes_eq point (codes "point")) h in
        let others = and_parts (bytes_eq e (codes "entry")) (bytes_eq point (codes "point")) words.1 in
        rw (same_bytes f (codes "from") words.0, same_bytes e (codes "entry") others.0, same_bytes point (codes "point") others.1) (named ts (name_at ts) (name_exact.sound ts)))
    sound ts = tt

    again : (x : List ℕ) (ts rest : List TokenKind) → IsPlace x ts rest → 0 ≤ phrase_binds rest → place_at ts ≡ Some (x, rest)
    again x ts rest (g.place {ts = inner} h) stop = name_exact.again x inner rest h stop

    shorter : (x : List ℕ) (ts rest : List TokenKind) → IsPlace x ts rest → length rest < length ts
    shorter x ts rest (g.place {ts = inner} h) = let less = name_exact.shorter x inner rest h in omega arith

-- what goes on with no pattern begins no window and no entry point
pub no_window : (ts : List TokenKind) → 9 ≤ phrase_binds ts → window_at ts ≡ None
unfolding window_at
no_window (Word o ∷ Word w ∷ Mark Colon ∷ Word kind ∷ Mark OpenParenthesis ∷ ts) low = rw (word_differs o (Word w ∷ Mark Colon ∷ Word kind ∷ Mark OpenParenthesis ∷ ts) low).0 refl
no_window ts low = refl

pub no_place : (ts : List TokenKind) → 9 ≤ phrase_binds ts → place_at ts ≡ None
unfolding place_at
no_place (Word f ∷ Word e ∷ Mark Minus ∷ Word point ∷ ts) low = rw (word_differs f (Word e ∷ Mark Minus ∷ Word point ∷ ts) low).1 refl
no_place ts low = refl

-- an entry point begins no window
no_window_before : (e : Option (List ℕ)) (ts rest : List TokenKind) → Maybe IsPlace e ts rest → window_at rest ≡ None → window_at ts ≡ None
unfolding window_at
no_window_before e ts rest left_out stop = stop
no_window_before e ts rest (written (g.place h)) stop = refl

-- ---- the variable in front

pub binding_sound : (ts : List TokenKind) → IsBinding (binding_at ts).0 ts (binding_at ts).1
unfolding binding_at
binding_sound (Var v ∷ Mark Colon ∷ rest) = g.bound
binding_sound ts = g.unbound

pub binding_again : (v : Option (List ℕ)) (ts : List TokenKind) (w : List ℕ) (rest : List TokenKind) → IsBinding v ts (Word w ∷ rest) → binding_at ts ≡ (v, Word w ∷ rest)
unfolding binding_at
binding_again v ts w rest g.unbound = refl
binding_again v ts w rest g.bound = refl

pub binding_shorter : (v : Option (List ℕ)) (ts rest : List TokenKind) → IsBinding v ts rest → length rest ≤ length ts
binding_shorter v ts rest g.unbound = omega arith
binding_shorter v ts rest g.bound = omega arith

-- ---- patterns

pattern_sound : (v : Option (List ℕ)) (whole ts : List TokenKind) → IsBinding v whole ts → Found IsSource whole (pattern_at v ts)
unfolding pattern_at
pattern_sound v whole (Word ty ∷ Mark OpenParenthesis ∷ inner) hv = ident_then IsSource _ ty _ (λ h.
    then (Listed IsPart) inner (listed_at part_at inner) _ IsSource _ (parts_exact.sound inner) (λ ps hps.
    then (Maybe IsWindow) ps.1 (maybe_at window_at ps.1) _ IsSource _ (maybe_sound window_exact ps.1) (λ w hw.
    then (Maybe IsPlace) w.1 (maybe_at place_at w.1) _ IsSource _ (maybe_sound place_exact w.1) (λ e he. g.source hv h hps hw he))))
pattern_sound v whole ts hv = tt

-- a pattern is read if what follows it is no window and no entry point
pub source_again : (s : SourceTree) (ts rest : List TokenKind) → IsSource s ts rest → window_at rest ≡ None → place_at rest ≡ None → source_at ts ≡ Some (s, rest)
unfolding source_at pattern_at
source_again s ts rest (g.source {v} {ty} {ps} {w} {e} {inner} {behind} {middle} hv h hps hw he) no_w no_p =
    rw (
      binding_again v ts ty (Mark OpenParenthesis ∷ inner) hv,
      ident_is ty _ h,
      parts_exact.again ps inner behind hps (omega arith),
      maybe_again window_exact w behind middle hw (no_window_before e middle rest he no_w) (omega arith),
      maybe_again place_exact e middle rest he no_p (omega arith),
    ) refl

pub source_exact : ExactPhrase IsSource source_at 9
unfolding source_at
source_exact = record { sound = sound; again = again; shorter = shorter }
  where
    sound : (ts : List TokenKind) → Found IsSource ts (source_at ts)
    sound ts = pattern_sound (binding_at ts).0 ts (binding_at ts).1 (binding_sound ts)

    again : (s : SourceTree) (ts rest : List TokenKind) → IsSource s ts rest → 9 ≤ phrase_binds rest → source_at ts ≡ Some (s, rest)
    again s ts rest h stop = source_again s ts rest h (no_window rest stop) (no_place rest stop)

    shorter : (s : SourceTree) (ts rest : List TokenKind) → IsSource s ts rest → length rest < length ts
    shorter s ts rest (g.source {v} {ty} {ps} {w} {e} {inner} {behind} {middle} hv h hps hw he) =
        let one = binding_shorter v ts (Word ty ∷ Mark OpenParenthesis ∷ inner) hv in let two = parts_exact.shorter ps inner behind hps in
        let three = maybe_shorter window_exact w behind middle hw in let four = maybe_shorter place_exact e middle rest he in omega arith

-- ---- groups

group_is_source : (s : SourceTree) (ts rest : List TokenKind) → IsSource s ts rest → group_at ts ≡ source_at ts
unfolding group_at
group_is_source s ts rest (g.source g.unbound h hps hw he) = refl
group_is_source s ts rest (g.source g.bound h hps hw he) = refl

as_group : (ts : List TokenKind) (o : _) → Found IsSource ts o → Found IsGroup ts o
as_group ts None h = tt
as_group ts (Some x) h = g.open_group h

in_parentheses_again : (s : SourceTree) (ts rest : List TokenKind) → IsSource s ts (Mark CloseParenthesis ∷ rest) → group_at (Mark OpenParenthesis ∷ ts) ≡ Some (s, rest)
unfolding group_at window_at place_at closed after
in_parentheses_again s ts rest h = rw (source_again s ts (Mark CloseParenthesis ∷ rest) h refl refl) refl

pub group_exact : ExactPhrase IsGroup group_at 9
unfolding group_at
group_exact = record { sound = sound; again = again; shorter = shorter }
  where
    sound : (ts : List TokenKind) → Found IsGroup ts (group_at ts)
    sound (Mark OpenParenthesis ∷ ts) = then IsSource ts (source_at ts) _ IsGroup _ (source_exact.sound ts) (λ s hs. closed_then p.CloseParenthesis IsSource s.0 ts _ s.1 IsGroup _ hs (λ rest hr. g.in_parentheses hr))
    sound ts = as_group ts (source_at ts) (source_exact.sound ts)

    again : (s : SourceTree) (ts rest : List TokenKind) → IsGroup s ts rest → 9 ≤ phrase_binds rest → group_at ts ≡ Some (s, rest)
    again s ts rest (g.in_parentheses {ts = inner} h) stop = in_parentheses_again s inner rest h
    again s ts rest (g.open_group h) stop = rw (group_is_source s ts rest h) (source_exact.again s ts rest h stop)

    shorter : (s : SourceTree) (ts rest : List TokenKind) → IsGroup s ts rest → length rest < length ts
    shorter s ts rest (g.in_parentheses {ts = inner} h) = let less = source_exact.shorter s inner (Mark CloseParenthesis ∷ rest) h in omega arith
    shorter s ts rest (g.open_group h) = source_exact.shorter s ts rest h
