-- Conditions are read exactly.
use Rattle.drl_condition.proofs.Common.{◌≡◌, ℕ, ◌<◌, ◌≤◌, Bool, true, false, cond, List, [], ◌∷◌, length, Option, Some, None, refl, arith, codes, bytes_eq}
use Rattle.drl_condition.proofs.Common.{TokenKind, Word, Var, Mark, OpenParenthesis, Colon, Read, Found, SourceTree, CondTree, IsBinding, IsSource, IsGroup}
use Rattle.drl_condition.proofs.Common.{IsFolded, IsCondition, phrase_binds, ExactPhrase, then, same_bytes, source_at, Begins, group_at, number_at}
use Rattle.{drl_condition.proofs.Common.{accumulate_at}, drl_expr.specs.Words.{is_ident}}
use Rattle.drl_grammar.specs.Conditions as g
use Rattle.{drl_phrase.proofs.Carried.{ident_binds}, drl_condition.specs.declared.words.Form.{Form}}
use Rattle.drl_condition.specs.declared.words.Form.TheVariants as form
use Rattle.drl_condition.{specs.{Words.{word_form}, Reading.{form_at, formed_at, condition_at}}, proofs.WordLaws.{ident_differs, name_form}}
use Rattle.drl_condition.proofs.{PatternLaws.{source_exact, group_exact}, FoldLaws.{number_sound, number_again, accumulate_sound, accumulate_again}}
use Rattle.drl_condition.proofs.FoldLaws.{folded_shorter}

-- ---- forms

-- the word of its own that a form begins with
abbrev Led : Form → List TokenKind → Type 0
Led form.Negation (t ∷ ts) = t ≡ Word (codes "not")
Led form.Existence (t ∷ ts) = t ≡ Word (codes "exists")
Led form.Accumulate (t ∷ ts) = t ≡ Word (codes "accumulate")
Led f ts = Unit {0}

word_led : (w : List ℕ) (rest : List TokenKind) → Led (word_form w) (Word w ∷ rest)
unfolding word_form
word_led w rest = go (bytes_eq w (codes "not")) (bytes_eq w (codes "exists")) (bytes_eq w (codes "accumulate")) (bytes_eq w (codes "Number")) refl refl refl
  where
    go : (n e a f : Bool) → bytes_eq w (codes "not") ≡ n → bytes_eq w (codes "exists") ≡ e → bytes_eq w (codes "accumulate") ≡ a
        → Led (cond n form.Negation (cond e form.Existence (cond a form.Accumulate (cond f form.Number form.Pattern)))) (Word w ∷ rest)
    go true e a f is_not is_exists is_accumulate = rw (same_bytes w (codes "not") is_not) refl
    go false true a f is_not is_exists is_accumulate = rw (same_bytes w (codes "exists") is_exists) refl
    go false false true f is_not is_exists is_accumulate = rw (same_bytes w (codes "accumulate") is_accumulate) refl
    go false false false true is_not is_exists is_accumulate = tt
    go false false false false is_not is_exists is_accumulate = tt

bound_led : (b : Bool) (ts : List TokenKind) → Led (cond b form.Number form.Pattern) ts
bound_led true ts = tt
bound_led false ts = tt

form_led : (ts : List TokenKind) → Led (form_at ts) ts
unfolding form_at
form_led (Var v ∷ Mark Colon ∷ Word w ∷ rest) = bound_led (bytes_eq w (codes "Number")) (Var v ∷ Mark Colon ∷ Word w ∷ rest)
form_led (Word w ∷ rest) = word_led w rest
form_led ts = tt

source_form : (s : SourceTree) (ts rest : List TokenKind) → IsSource s ts rest → form_at ts ≡ form.Pattern
unfolding form_at is_ident
source_form s ts rest (g.source {ty} g.unbound h hps hw he) = name_form ty h
source_form s ts rest (g.source {ty} g.bound h hps hw he) = rw (ident_differs ty (codes "Number") h refl) refl

number_form : (v : Option (List ℕ)) (ts rest : List TokenKind) → IsBinding v ts (Word (codes "Number") ∷ rest) → form_at ts ≡ form.Number
unfolding form_at word_form
number_form v ts rest g.unbound = refl
number_form v ts rest g.bound = refl

-- ---- conditions

as_condition : (ts : List TokenKind) (o : Read CondTree) → Found IsFolded ts o → Found IsCondition ts o
as_condition ts None h = tt
as_condition ts (Some x) h = g.folded h

formed_sound : (f : Form) (ts : List TokenKind) → Led f ts → Found IsCondition ts (formed_at f ts)
unfolding formed_at
formed_sound form.Pattern ts led = then IsSource ts (source_at ts) _ IsCondition _ (source_exact.sound ts) (λ s hs. g.plain hs)
formed_sound form.Number ts led = as_condition ts (number_at ts) (number_sound ts)
formed_sound form.Negation (t ∷ ts) led = rw led (then IsGroup ts (group_at ts) _ IsCondition _ (group_exact.sound ts) (λ s hs. g.negated hs))
formed_sound form.Existence (t ∷ ts) led = rw led (then IsGroup ts (group_at ts) _ IsCondition _ (group_exact.sound ts) (λ s hs. g.existing hs))
formed_sound form.Accumulate (t ∷ ts) led = rw led (as_condition _ (accumulate_at ts) (accumulate_sound ts))
formed_sound f [] led = tt

pub condition_exact : ExactPhrase IsCondition condition_at 9
unfolding condition_at formed_at form_at word_form
condition_exact = record { sound = sound; again = again; shorter = shorter }
  where
    sound : (ts : List TokenKind) → Found IsCondition ts (condition_at ts)
    sound ts = formed_sound (form_at ts) ts (form_led ts)

    again : (x : CondTree) (ts rest : List TokenKind) → IsCondition x ts rest → 9 ≤ phrase_binds rest → condition_at ts ≡ Some (x, rest)
    again x ts rest (g.plain {s} h) stop = rw (source_form s ts rest h, source_exact.again s ts rest h stop) refl
    again x ts rest (g.negated {s} {ts = inner} h) stop = rw (group_exact.again s inner rest h stop) refl
    again x ts rest (g.existing {s} {ts = inner} h) stop = rw (group_exact.again s inner rest h stop) refl
    again x ts rest (g.folded (g.number_form {result} {s} {word} {arg} {tests} {inner} {source_tokens} hv ht hs)) stop =
        rw (number_form result ts (Mark OpenParenthesis ∷ inner) hv) (number_again result s word arg tests ts inner source_tokens rest hv ht hs)
    again x ts rest (g.folded (g.accumulate_form {result} {s} {word} {arg} {tests} {ts = inner} {behind} hs ht)) stop = accumulate_again result s word arg tests inner behind rest hs ht

    shorter : (x : CondTree) (ts rest : List TokenKind) → IsCondition x ts rest → length rest < length ts
    shorter x ts rest (g.plain {s} h) = source_exact.shorter s ts rest h
    shorter x ts rest (g.negated {s} {ts = inner} h) = let less = group_exact.shorter s inner rest h in omega arith
    shorter x ts rest (g.existing {s} {ts = inner} h) = let less = group_exact.shorter s inner rest h in omega arith
    shorter x ts rest (g.folded h) = folded_shorter x ts rest h

-- a condition goes on with nothing that stands before it
pub condition_begins : Begins IsCondition 9
condition_begins x ts rest (g.plain (g.source {ty} {inner} g.unbound h hps hw he)) = let low = ident_binds ty (Mark OpenParenthesis ∷ inner) h in omega arith
condition_begins x ts rest (g.plain (g.source g.bound h hps hw he)) = omega arith
condition_begins x ts rest (g.negated h) = omega arith
condition_begins x ts rest (g.existing h) = omega arith
condition_begins x ts rest (g.folded (g.number_form g.unbound ht hs)) = omega arith
condition_begins x ts rest (g.folded (g.number_form g.bound ht hs)) = omega arith
condition_begins x ts rest (g.folded (g.accumulate_form hs ht)) = omega arith
