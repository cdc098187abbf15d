-- The tokens of the parts of items stand for them again.
use Rattle.drl_show.proofs.Common.{◌≡◌, ℕ, ℤ, zero, suc, pos, true, List, [], ◌∷◌, ◌++◌, Option, refl, sym, ap, ◌∙◌, append_assoc, neg_ℤ, codes, list_all}
use Rattle.drl_show.proofs.Common.{TokenKind, Word, Text, Mark, OpenParenthesis, CloseParenthesis, Comma, Colon, Dot, Minus, Phrase, IsPathStep, IsPath, IsStar}
use Rattle.drl_show.proofs.Common.{IsType, IsEntry, IsRule, each, maybe, number_tokens, name_tokens, path_tokens, star_tokens, piece_tokens, action_tokens, At}
use Rattle.drl_show.proofs.Common.{IsMeta, IsField, IsParentName, IsLateness, IsSalience, IsAttr, meta_tokens, field_tokens, parent_tokens, lateness_tokens}
use Rattle.{drl_show.proofs.Common.{attr_tokens}, drl_lex.specs.Bytes.{begins_word, is_word_byte}}
use Rattle.drl_grammar.specs.Shapes as shapes
use Rattle.drl_grammar.specs.Items as g
use Rattle.{drl_grammar.specs.declared.written.{WrittenType.{WrittenType}, WrittenRule.{WrittenRule}}, drl_show.specs.Canonical.{type_tokens, entry_tokens}}
use Rattle.drl_show.{specs.Canonical.{rule_tokens}, proofs.{Fine.{AllGood, fine, fine_word, fine_number, fine_text, fine_append}, AgainShapes.{Agains}}}
use Rattle.drl_show.proofs.{AgainShapes.{regroup, many_again, maybe_again, optional_good}, AgainConditions.{negative_fine, span_again, name_again}}
use Rattle.drl_show.proofs.{AgainChoices.{asked_again}, AgainActions.{action_again}}

-- ---- names with dots

step_again : Agains IsPathStep IsPathStep (λ f. Mark Dot ∷ name_tokens f)
step_again x ts rest (g.step {f} h) good = record { stands = λ k. g.step h; is_fine = fine_word f [] h good.1.0 refl; behind = good.1.1 }

pub path_again : Agains IsPath IsPath path_tokens
path_again x ts rest (g.path {f} {fs} {ts = inner} h hs) good =
    let all = many_again step_again fs inner rest hs good.1 in
    record { stands = λ k. g.path h (all.stands k); is_fine = fine_word f (each (λ y. Mark Dot ∷ name_tokens y) fs) h good.0 all.is_fine; behind = all.behind }

pub star_again : Agains IsStar IsStar star_tokens
star_again x ts rest g.no_star good = record { stands = λ k. g.no_star; is_fine = refl; behind = good }
star_again x ts rest g.star good = record { stands = λ k. g.star; is_fine = refl; behind = good.1.1 }

-- ---- types and entry points

meta_again : Agains IsMeta IsMeta meta_tokens
unfolding begins_word is_word_byte
meta_again x ts rest g.event_role good = record { stands = λ k. g.event_role; is_fine = refl; behind = good.1.1.1.1.1 }
meta_again x ts rest g.fact_role good = record { stands = λ k. g.fact_role; is_fine = refl; behind = good.1.1.1.1.1 }
meta_again x ts rest (g.timestamp {f} h) good = record { stands = λ k. g.timestamp h; is_fine = fine_word f (Mark CloseParenthesis ∷ []) h good.1.1.1.0 refl; behind = good.1.1.1.1.1 }
meta_again x ts rest (g.duration {f} h) good = record { stands = λ k. g.duration h; is_fine = fine_word f (Mark CloseParenthesis ∷ []) h good.1.1.1.0 refl; behind = good.1.1.1.1.1 }
meta_again x ts rest (g.expires {ms} {ts = inner} h) good =
    let one = span_again ms inner (Mark CloseParenthesis ∷ rest) h good.1.1.1 in
    record {
      stands = λ k. regroup IsMeta x (Mark At ∷ Word (codes "expires") ∷ Mark OpenParenthesis ∷ number_tokens ms) (Mark CloseParenthesis ∷ []) k (g.expires (one.stands (Mark CloseParenthesis ∷ k)));
      is_fine = fine_append (number_tokens ms) (Mark CloseParenthesis ∷ []) one.is_fine refl;
      behind = one.behind.1;
    }
meta_again x ts rest g.reference good = record { stands = λ k. g.reference; is_fine = refl; behind = good.1.1 }

field_again : Agains IsField IsField field_tokens
field_again x ts rest (g.field {f} {k = kind} hf hk) good =
    record { stands = λ k. g.field hf hk; is_fine = fine_word f (Mark Colon ∷ Word kind ∷ []) hf good.0 (fine_word kind [] hk good.1.1.0 refl); behind = good.1.1.1 }

-- tokens that stand for a value, with the word `end` as the last one alone
pub record Block {A : Type 0} (Is : Phrase A) (x : A) (tokens : List TokenKind) : Type 0 where
  pub stands : Is x tokens []
  pub inner : List TokenKind
  pub same : tokens ≡ inner ++ (Word (codes "end") ∷ [])
  pub is_fine : list_all fine inner ≡ true

parent_again : Agains IsParentName IsParentName parent_tokens
unfolding begins_word is_word_byte
parent_again x ts rest (g.parent {ty} h) good = record { stands = λ k. g.parent h; is_fine = fine_word ty [] h good.1.0 refl; behind = good.1.1 }

pub type_block : (t : WrittenType) (ts : List TokenKind) → IsType t ts [] → AllGood ts → Block IsType t (type_tokens t)
unfolding type_tokens
type_block t ts (g.type_of {ty} {above} {ms} {fs} {ts = inner} {behind_parent} {middle} h ha hms hfs) good =
    let p = maybe_again parent_again above inner behind_parent ha good.1 in
    let a = many_again meta_again ms behind_parent middle hms p.behind in
    let b = many_again field_again fs middle (Word (codes "end") ∷ []) hfs a.behind in
    let front = maybe parent_tokens above in
    let metas = each meta_tokens ms in
    let fields = each field_tokens fs in
    let end : List TokenKind = Word (codes "end") ∷ [] in
    record {
      stands = g.type_of h (p.stands (metas ++ (fields ++ end))) (a.stands (fields ++ end)) (b.stands end);
      inner = Word ty ∷ (front ++ (metas ++ fields));
      same = ap (λ (back : List TokenKind). Word ty ∷ back) (ap (λ (back : List TokenKind). front ++ back) (sym (append_assoc metas fields end)) ∙ sym (append_assoc front (metas ++ fields) end));
      is_fine = fine_word ty (front ++ (metas ++ fields)) h good.0 (fine_append front (metas ++ fields) p.is_fine (fine_append metas fields a.is_fine b.is_fine));
    }

lateness_again : Agains IsLateness IsLateness lateness_tokens
unfolding begins_word is_word_byte
lateness_again x ts rest (g.lateness {ms} {ts = inner} h) good =
    let one = span_again ms inner (Mark CloseParenthesis ∷ rest) h good.1.1.1 in
    record {
      stands = λ k. regroup IsLateness x (Mark At ∷ Word (codes "lateness") ∷ Mark OpenParenthesis ∷ number_tokens ms) (Mark CloseParenthesis ∷ []) k (g.lateness (one.stands (Mark CloseParenthesis ∷ k)));
      is_fine = fine_append (number_tokens ms) (Mark CloseParenthesis ∷ []) one.is_fine refl;
      behind = one.behind.1;
    }

pub entry_block : (s : List ℕ) (late : Option ℤ) (ts : List TokenKind) → IsEntry (s, late) ts [] → AllGood ts → Block IsEntry (s, late) (entry_tokens s late)
unfolding entry_tokens begins_word is_word_byte
entry_block name written ts (g.entry {s} {late} {ts = inner} {middle} hs hl) good =
    let a = name_again s inner middle hs good.1.1.1 in
    let b = maybe_again lateness_again late middle (Word (codes "end") ∷ []) hl a.behind in
    record {
      stands = g.entry (a.stands (maybe lateness_tokens late ++ (Word (codes "end") ∷ []))) (b.stands (Word (codes "end") ∷ []));
      inner = Word (codes "entry") ∷ Mark Minus ∷ Word (codes "point") ∷ Text s ∷ maybe lateness_tokens late;
      same = refl;
      is_fine = fine_append (Text s ∷ []) (maybe lateness_tokens late) a.is_fine b.is_fine;
    }

-- ---- rules

negative_salience : (n : ℕ) (k : List TokenKind) → IsSalience (neg_ℤ (pos n)) (number_tokens (neg_ℤ (pos n)) ++ k) k
negative_salience zero k = g.high
negative_salience (suc n) k = g.low {n = suc n}

salience_again : Agains IsSalience IsSalience number_tokens
salience_again x ts rest (g.high {n}) good = record { stands = λ k. g.high; is_fine = fine_number n [] good.0 refl; behind = good.1 }
salience_again x ts rest (g.low {n}) good = record { stands = negative_salience n; is_fine = negative_fine n good.1.0; behind = good.1.1 }

attr_again : Agains IsAttr IsAttr attr_tokens
unfolding begins_word is_word_byte
attr_again x ts rest (g.salience {n} {ts = inner} {middle} h ho) good =
    let one = salience_again n inner middle h good.1 in
    record { stands = λ k. g.salience (one.stands k) shapes.absent; is_fine = one.is_fine; behind = optional_good (Mark Comma) middle rest ho one.behind }
attr_again x ts rest (g.dialect {s} {middle} ho) good =
    record { stands = λ k. g.dialect shapes.absent; is_fine = fine_text s [] good.1.0 refl; behind = optional_good (Mark Comma) middle rest ho good.1.1 }

rule_order : (a b c d : List TokenKind) (t u : TokenKind) → a ++ (t ∷ (b ++ (u ∷ (c ++ d)))) ≡ (a ++ (t ∷ (b ++ (u ∷ c)))) ++ d
rule_order a b c d t u = sym (append_assoc a (t ∷ (b ++ (u ∷ c))) d ∙ ap (λ (back : List TokenKind). a ++ (t ∷ back)) (append_assoc b (u ∷ c) d))

pub rule_block : (r : WrittenRule) (ts : List TokenKind) → IsRule r ts [] → AllGood ts → Block IsRule r (rule_tokens r)
unfolding rule_tokens begins_word is_word_byte
rule_block r ts (g.rule {s} {attrs} {ps} {acts} {ts = inner} {behind_name} {asked} {actions} hs ha hc hact) good =
    let a = name_again s inner behind_name hs good in
    let b = many_again attr_again attrs behind_name (Word (codes "when") ∷ asked) ha a.behind in
    let c = asked_again ps asked (Word (codes "then") ∷ actions) hc b.behind.1 in
    let d = many_again action_again acts actions (Word (codes "end") ∷ []) hact c.behind.1 in
    record {
      stands = g.rule (a.stands (each attr_tokens attrs ++ (Word (codes "when") ∷ (each piece_tokens ps ++ (Word (codes "then") ∷ (each action_tokens acts ++ (Word (codes "end") ∷ [])))))))
          (b.stands (Word (codes "when") ∷ (each piece_tokens ps ++ (Word (codes "then") ∷ (each action_tokens acts ++ (Word (codes "end") ∷ []))))))
          (c.stands (Word (codes "then") ∷ (each action_tokens acts ++ (Word (codes "end") ∷ [])))) (d.stands (Word (codes "end") ∷ []));
      inner = Text s ∷ (each attr_tokens attrs ++ (Word (codes "when") ∷ (each piece_tokens ps ++ (Word (codes "then") ∷ each action_tokens acts))));
      same = ap (λ (back : List TokenKind). Text s ∷ back) (rule_order (each attr_tokens attrs) (each piece_tokens ps) (each action_tokens acts) (Word (codes "end") ∷ []) (Word (codes "when")) (Word (codes "then")));
      is_fine = fine_append (Text s ∷ []) (each attr_tokens attrs ++ (Word (codes "when") ∷ (each piece_tokens ps ++ (Word (codes "then") ∷ each action_tokens acts)))) a.is_fine
          (fine_append (each attr_tokens attrs) (Word (codes "when") ∷ (each piece_tokens ps ++ (Word (codes "then") ∷ each action_tokens acts))) b.is_fine
          (fine_append (each piece_tokens ps) (Word (codes "then") ∷ each action_tokens acts) c.is_fine d.is_fine));
    }
