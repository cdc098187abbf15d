-- Items are read exactly.
use Rattle.drl_parse.proofs.Common.{◌≡◌, ℕ, ℤ, ◌<◌, ◌≤◌, Bool, true, false, cond, List, [], ◌∷◌, length, Option, Some, None, refl, arith, IfSome, codes}
use Rattle.drl_parse.proofs.Common.{bytes_eq, TokenKind, Word, Text, Mark, Minus, Found, WrittenBody, WrittenType, IsPath, IsType, IsEntry, IsRule, IsItem}
use Rattle.drl_parse.proofs.Common.{phrase_binds, ExactPhrase, ◌>>=◌, then, same_bytes, optional_sound, optional_again, optional_shorter, Semicolon, Read}
use Rattle.drl_parse.proofs.Common.{Optional, absent, present, whole_found, item_text, path_at, path_star_at, type_at, entry_at, rule_at}
use Rattle.drl_grammar.specs.declared.written.WrittenBody.TheVariants as body
use Rattle.drl_grammar.specs.Items as g
use Rattle.drl_grammar.specs.Shapes as m
use Rattle.drl_phrase.specs.declared.phrase.Punctuation.TheVariants as p
use Rattle.{drl_phrase.specs.Reading.{whole_at}, drl_parse.specs.declared.words.ItemWord.{ItemWord, TheVariants.{PackageWord, ImportWord, DialectWord}}}
use Rattle.drl_parse.specs.{declared.words.ItemWord.TheVariants.{DeclareWord, RuleWord}, Reading.{item_word, declare_at, behind_item, item_at}}
use Rattle.drl_parse.proofs.{ItemLaws.{Exactly}, PathLaws.{no_step, path_again, path_exact, star_sound, star_again, star_ends, star_shorter}}
use Rattle.drl_parse.proofs.{RuleLaws.{rule_exact}, TypeLaws.{type_exact, entry_exact}}

-- ---- declarations

abbrev IsDeclaration : WrittenBody → List TokenKind → List TokenKind → Type 0
IsDeclaration x ts rest = IsItem x (Word (codes "declare") ∷ ts) rest

type_found : (ts : List TokenKind) → Found IsDeclaration ts (type_at ts >>= λ t. Some (body.Declare t.0, t.1))
type_found ts = then IsType ts (type_at ts) _ IsDeclaration ts (type_exact.sound ts) (λ t ht. g.declare_type ht)

declare_sound : (ts : List TokenKind) → Found IsDeclaration ts (declare_at ts)
unfolding declare_at
declare_sound (Word w ∷ Mark Minus ∷ ts) =
    then IsEntry (Word w ∷ Mark Minus ∷ ts) (entry_at (Word w ∷ Mark Minus ∷ ts)) _ IsDeclaration (Word w ∷ Mark Minus ∷ ts) (entry_exact.sound (Word w ∷ Mark Minus ∷ ts)) (λ e he. g.declare_entry he)
declare_sound ts = type_found ts

-- no type has a minus behind its name
no_minus : (t : WrittenType) (ts rest : List TokenKind) → IsType t ts rest → declare_at ts ≡ (type_at ts >>= λ t. Some (body.Declare t.0, t.1))
unfolding declare_at
no_minus t ts rest (g.type_of h (m.written (g.parent hp)) metas fields) = refl
no_minus t ts rest (g.type_of h m.left_out m.nothing m.nothing) = refl
no_minus t ts rest (g.type_of h m.left_out m.nothing (m.further (g.field hf hk) fields)) = refl
no_minus t ts rest (g.type_of h m.left_out (m.further g.event_role metas) fields) = refl
no_minus t ts rest (g.type_of h m.left_out (m.further g.fact_role metas) fields) = refl
no_minus t ts rest (g.type_of h m.left_out (m.further (g.timestamp hf) metas) fields) = refl
no_minus t ts rest (g.type_of h m.left_out (m.further (g.duration hf) metas) fields) = refl
no_minus t ts rest (g.type_of h m.left_out (m.further (g.expires hf) metas) fields) = refl
no_minus t ts rest (g.type_of h m.left_out (m.further g.reference metas) fields) = refl

type_again : (t : WrittenType) (ts rest : List TokenKind) → IsType t ts rest → declare_at ts ≡ Some (body.Declare t, rest)
type_again t ts rest h = rw (no_minus t ts rest h, type_exact.again t ts rest h (omega arith)) refl

entry_again : (s : List ℕ) (late : Option ℤ) (ts rest : List TokenKind) → IsEntry (s, late) ts rest → declare_at ts ≡ Some (body.Entry s late, rest)
unfolding declare_at
entry_again s late ts rest (g.entry {ts = behind} hs hlate) =
    rw (entry_exact.again (s, late) (Word (codes "entry") ∷ Mark Minus ∷ Word (codes "point") ∷ behind) rest (g.entry hs hlate) (omega arith)) refl

-- ---- items

word_sound : (w : List ℕ) → IfSome (item_word w) (λ k. w ≡ item_text k)
unfolding item_word
word_sound w = pick (bytes_eq w (codes "package")) PackageWord _ (same_bytes w _) (λ o. pick (bytes_eq w (codes "import")) ImportWord _ (same_bytes w _) (λ o.
    pick (bytes_eq w (codes "dialect")) DialectWord _ (same_bytes w _) (λ o. pick (bytes_eq w (codes "declare")) DeclareWord _ (same_bytes w _) (λ o.
    pick (bytes_eq w (codes "rule")) RuleWord _ (same_bytes w _) (λ o. tt)))))
  where
    pick : (b : Bool) (k : ItemWord) (others : Option ItemWord) → (b ≡ true → w ≡ item_text k) → (b ≡ false → IfSome others (λ k. w ≡ item_text k)) → IfSome (cond b (Some k) others) (λ k. w ≡ item_text k)
    pick true k others is go = is refl
    pick false k others is go = go refl

declared : (ts : List TokenKind) (o : Read WrittenBody) → Found IsDeclaration ts o → Found IsItem (Word (codes "declare") ∷ ts) o
declared ts None h = tt
declared ts (Some x) h = h

behind_sound : (k : ItemWord) (ts : List TokenKind) → Found IsItem (Word (item_text k) ∷ ts) (behind_item k ts)
unfolding behind_item
behind_sound PackageWord ts = then IsPath ts (path_at ts) _ IsItem _ (path_exact.sound ts) (λ path hpath. g.package_item hpath (optional_sound p.Semicolon path.1))
behind_sound ImportWord ts = then IsPath ts (path_at ts) _ IsItem _ (path_exact.sound ts) (λ path hpath. g.import_item hpath (star_sound path.1) (optional_sound p.Semicolon (path_star_at path.1).1))
behind_sound DialectWord (Text s ∷ ts) = g.dialect_item (optional_sound p.Semicolon ts)
behind_sound DeclareWord ts = declared ts (declare_at ts) (declare_sound ts)
behind_sound RuleWord ts = then IsRule ts (rule_at ts) _ IsItem _ (rule_exact.sound ts) (λ r hr. g.rule_item hr)
behind_sound word ts = tt

-- before an optional semicolon stands no dot
no_dot : (ts rest : List TokenKind) → Optional (Mark Semicolon) ts rest → 9 ≤ phrase_binds rest → 1 ≤ phrase_binds ts
no_dot ts rest absent stop = omega arith
no_dot ts rest present stop = omega arith

pub item_exact : ExactPhrase IsItem item_at 9
unfolding item_at item_word behind_item
item_exact = record { sound = sound; again = again; shorter = shorter }
  where
    word_then : (w : List ℕ) (rest : List TokenKind) (o : Option ItemWord) → IfSome o (λ k. w ≡ item_text k) → Found IsItem (Word w ∷ rest) (o >>= λ word. behind_item word rest)
    word_then w rest None h = tt
    word_then w rest (Some k) h = rw h (behind_sound k rest)

    sound : (ts : List TokenKind) → Found IsItem ts (item_at ts)
    sound (Word w ∷ rest) = word_then w rest (item_word w) (word_sound w)
    sound ts = tt

    again : (x : WrittenBody) (ts rest : List TokenKind) → IsItem x ts rest → 9 ≤ phrase_binds rest → item_at ts ≡ Some (x, rest)
    again x ts rest (g.package_item {path} {ts = behind} {middle} hpath hend) stop =
        rw (path_again path behind middle hpath (no_step middle (no_dot middle rest hend stop)), optional_again p.Semicolon middle rest hend (omega arith)) refl
    again x ts rest (g.import_item {path} {all} {ts = behind} {behind_path} {middle} hpath hstar hend) stop =
        let last = no_dot middle rest hend stop in
        rw (path_again path behind behind_path hpath (star_ends all behind_path middle hstar last), star_again all behind_path middle hstar last, optional_again p.Semicolon middle rest hend (omega arith)) refl
    again x ts rest (g.dialect_item {middle} hend) stop = rw (optional_again p.Semicolon middle rest hend (omega arith)) refl
    again x ts rest (g.declare_type {t} {ts = behind} h) stop = type_again t behind rest h
    again x ts rest (g.declare_entry {s} {late} {ts = behind} h) stop = entry_again s late behind rest h
    again x ts rest (g.rule_item {r} {ts = behind} h) stop = rw (rule_exact.again r behind rest h (omega arith)) refl

    shorter : (x : WrittenBody) (ts rest : List TokenKind) → IsItem x ts rest → length rest < length ts
    shorter x ts rest (g.package_item {path} {ts = behind} {middle} hpath hend) =
        let first = path_exact.shorter path behind middle hpath in let others = optional_shorter (Mark Semicolon) middle rest hend in omega arith
    shorter x ts rest (g.import_item {path} {all} {ts = behind} {behind_path} {middle} hpath hstar hend) =
        let first = path_exact.shorter path behind behind_path hpath in
        let second = star_shorter all behind_path middle hstar in
        let others = optional_shorter (Mark Semicolon) middle rest hend in
        omega arith
    shorter x ts rest (g.dialect_item {middle} hend) = let others = optional_shorter (Mark Semicolon) middle rest hend in omega arith
    shorter x ts rest (g.declare_type {t} {ts = behind} h) = let first = type_exact.shorter t behind rest h in omega arith
    shorter x ts rest (g.declare_entry {s} {late} {ts = behind} h) = let first = entry_exact.shorter (s, late) behind rest h in omega arith
    shorter x ts rest (g.rule_item {r} {ts = behind} h) = let first = rule_exact.shorter r behind rest h in omega arith

-- ---- all the tokens of an item

pub items_read : Exactly (whole_at item_at)
unfolding whole_at
items_read = record {
  stands = λ ts. whole_found item_exact ts (whole_at item_at ts) refl;
  again = λ body ts h. rw (item_exact.again body ts [] h (omega arith)) refl;
}
