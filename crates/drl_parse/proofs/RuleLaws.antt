-- Rules are read exactly.
use Rattle.drl_parse.proofs.Common.{◌≡◌, ℕ, ℤ, ◌<◌, ◌≤◌, true, cond, List, ◌∷◌, length, Some, None, refl, subst, arith, codes, bytes_eq, TokenKind, Word, Text}
use Rattle.drl_parse.proofs.Common.{Mark, Minus, Found, IsName, IsRule, Many, phrase_binds, ExactPhrase, ◌>>=◌, many_at, name_at, name_exact, then, guarded}
use Rattle.drl_parse.proofs.Common.{same_bytes, ended_then, ended_is, Begins, many_sound, many_again, many_shorter, optional_sound, optional_again}
use Rattle.drl_parse.proofs.Common.{optional_shorter, Number, Comma, IsAsked, IsSalience, IsAttr, after_word, optional_at, if_some_then, word_sound, word_again}
use Rattle.drl_grammar.specs.declared.file.Attr.{Attr}
use Rattle.drl_grammar.specs.declared.file.Attr.TheVariants as attr
use Rattle.drl_grammar.specs.declared.written.WrittenRule.{WrittenRule}
use Rattle.drl_grammar.specs.Actions as a
use Rattle.drl_grammar.specs.Actions.{IsAction}
use Rattle.drl_grammar.specs.Items as g
use Rattle.drl_phrase.specs.declared.phrase.Punctuation.TheVariants as p
use Rattle.drl_condition.{specs.Choices.{ends_all, pieces_at}, proofs.ChoiceLaws.{asked_sound, asked_again, asked_shorter}}
use Rattle.{drl_action.{specs.Reading.{action_word, action_at}, proofs.ActionLaws.{action_exact}}, drl_parse.specs.Reading.{salience_at, attr_at, actions_at}}
use Rattle.drl_parse.specs.Reading.{conditions_at, rule_at}

-- ---- attributes

salience_exact : ExactPhrase IsSalience salience_at 0
unfolding salience_at
salience_exact = record { sound = sound; again = again; shorter = shorter }
  where
    sound : (ts : List TokenKind) → Found IsSalience ts (salience_at ts)
    sound (Number n ∷ rest) = g.high
    sound (Mark Minus ∷ Number n ∷ rest) = g.low
    sound ts = tt

    again : (x : ℤ) (ts rest : List TokenKind) → IsSalience x ts rest → 0 ≤ phrase_binds rest → salience_at ts ≡ Some (x, rest)
    again x ts rest g.high stop = refl
    again x ts rest g.low stop = refl

    shorter : (x : ℤ) (ts rest : List TokenKind) → IsSalience x ts rest → length rest < length ts
    shorter x ts rest g.high = omega arith
    shorter x ts rest g.low = omega arith

salience_found : (w : List ℕ) (ts : List TokenKind)
    → Found IsAttr (Word w ∷ ts) (cond (bytes_eq w (codes "salience")) (salience_at ts >>= λ n. Some (attr.Salience n.0, optional_at p.Comma n.1)) None)
salience_found w ts = guarded IsAttr _ (bytes_eq w (codes "salience")) _ (λ e. rw (same_bytes w (codes "salience") e) (
    then IsSalience ts (salience_at ts) _ IsAttr _ (salience_exact.sound ts) (λ n hn. g.salience hn (optional_sound p.Comma n.1))))

attr_exact : ExactPhrase IsAttr attr_at 6
unfolding attr_at salience_at
attr_exact = record { sound = sound; again = again; shorter = shorter }
  where
    sound : (ts : List TokenKind) → Found IsAttr ts (attr_at ts)
    sound (Word w ∷ Text s ∷ ts) = guarded IsAttr _ (bytes_eq w (codes "dialect")) _ (λ e. rw (same_bytes w (codes "dialect") e) (g.dialect (optional_sound p.Comma ts)))
    sound (Word w ∷ ts) = salience_found w ts
    sound ts = tt

    again : (x : Attr) (ts rest : List TokenKind) → IsAttr x ts rest → 6 ≤ phrase_binds rest → attr_at ts ≡ Some (x, rest)
    again x ts rest (g.salience {middle} g.high behind) stop = rw (optional_again p.Comma middle rest behind (omega arith)) refl
    again x ts rest (g.salience {middle} g.low behind) stop = rw (optional_again p.Comma middle rest behind (omega arith)) refl
    again x ts rest (g.dialect {middle} behind) stop = rw (optional_again p.Comma middle rest behind (omega arith)) refl

    shorter : (x : Attr) (ts rest : List TokenKind) → IsAttr x ts rest → length rest < length ts
    shorter x ts rest (g.salience {n} {ts = number} {middle} h behind) =
        let first = salience_exact.shorter n number middle h in let others = optional_shorter (Mark Comma) middle rest behind in omega arith
    shorter x ts rest (g.dialect {middle} behind) = let others = optional_shorter (Mark Comma) middle rest behind in omega arith

attr_begins : Begins IsAttr 6
attr_begins x ts rest (g.salience h behind) = omega arith
attr_begins x ts rest (g.dialect behind) = omega arith

-- the word `when` begins no attribute
no_attr : (rest : List TokenKind) → attr_at (Word (codes "when") ∷ rest) ≡ None
unfolding attr_at
no_attr (Text s ∷ rest) = refl
no_attr rest = refl

-- ---- actions

action_begins : Begins IsAction 7
action_begins x ts rest (a.insert h values behind) = omega arith
action_begins x ts rest (a.modify sets behind) = omega arith
action_begins x ts rest (a.retract behind) = omega arith

-- the word `end` begins no action
no_action : (rest : List TokenKind) → action_at (Word (codes "end") ∷ rest) ≡ None
unfolding action_at action_word
no_action rest = refl

-- the word `then` ends what is asked for
then_ends : (rest : List TokenKind) → ends_all (Word (codes "then") ∷ rest) ≡ true
unfolding ends_all
then_ends rest = refl

-- ---- rules

pub rule_exact : ExactPhrase IsRule rule_at 0
unfolding rule_at conditions_at actions_at
rule_exact = record { sound = sound; again = again; shorter = shorter }
  where
    sound : (ts : List TokenKind) → Found IsRule ts (rule_at ts)
    sound ts = then IsName ts (name_at ts) _ IsRule ts (name_exact.sound ts) (λ s hs.
        then (Many IsAttr) s.1 (many_at attr_at s.1) _ IsRule ts (many_sound attr_exact s.1) (λ attrs hattrs.
        if_some_then (after_word (codes "when") attrs.1) (λ rest. attrs.1 ≡ Word (codes "when") ∷ rest) _ IsRule ts (word_sound (codes "when") attrs.1) (λ asked is_when.
        then IsAsked asked (pieces_at asked) _ IsRule ts (asked_sound asked) (λ ps hps.
        if_some_then (after_word (codes "then") ps.1) (λ rest. ps.1 ≡ Word (codes "then") ∷ rest) _ IsRule ts (word_sound (codes "then") ps.1) (λ actions is_then.
        then (Many IsAction) actions (many_at action_at actions) _ IsRule ts (many_sound action_exact actions) (λ acts hacts.
        ended_then (codes "end") (Many IsAction) acts.0 actions (record { name = s.0; attrs = attrs.0; pieces = ps.0; actions = acts.0 }) acts.1 IsRule ts hacts (λ rest hr.
        g.rule hs (subst (Many IsAttr attrs.0 s.1) is_when hattrs) (subst (IsAsked ps.0 asked) is_then hps) hr)))))))

    again : (x : WrittenRule) (ts rest : List TokenKind) → IsRule x ts rest → 0 ≤ phrase_binds rest → rule_at ts ≡ Some (x, rest)
    again x ts rest (g.rule {s} {attrs} {ps} {acts} {behind_name} {asked} {actions} hs hattrs hps hacts) stop =
        rw (
          name_exact.again s ts behind_name hs (omega arith),
          many_again attr_exact attr_begins attrs behind_name (Word (codes "when") ∷ asked) hattrs (no_attr asked) (omega arith),
          word_again (codes "when") asked,
          asked_again ps asked (Word (codes "then") ∷ actions) hps (then_ends actions),
          word_again (codes "then") actions,
          many_again action_exact action_begins acts actions (Word (codes "end") ∷ rest) hacts (no_action rest) (omega arith),
        ) (ended_is (codes "end") x rest)

    shorter : (x : WrittenRule) (ts rest : List TokenKind) → IsRule x ts rest → length rest < length ts
    shorter x ts rest (g.rule {s} {attrs} {ps} {acts} {behind_name} {asked} {actions} hs hattrs hps hacts) =
        let first = name_exact.shorter s ts behind_name hs in
        let second = many_shorter attr_exact attrs behind_name (Word (codes "when") ∷ asked) hattrs in
        let third = asked_shorter hps in
        let fourth = many_shorter action_exact acts actions (Word (codes "end") ∷ rest) hacts in
        omega arith
