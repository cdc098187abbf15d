-- The text of a file is a file with the same items.
use Rattle.drl_show.proofs.Common.{◌≡◌, ℕ, suc, ◌+◌, true, false, List, [], ◌∷◌, ◌++◌, None, length, take, drop, map, refl, sym, ap, subst, ◌∙◌, append_assoc}
use Rattle.drl_show.proofs.Common.{length-append, length-drop, arith, All, begins, Spells, longer, TokenKind, Word, extent, IsItem, WrittenBody, each}
use Rattle.drl_show.proofs.Common.{item_word_shown, behind_word, tokens_of_item, shown_items, spaced, length-map, IsPiece, ReadsTokens, begins_item, line_at}
use Rattle.{drl_show.proofs.Common.{lines_at, AreItems, StandsInGrammar, InGrammar, IsReadAgain, token_text}, std.proofs.Math.Seq.{take-append_seam}}
use Rattle.{std.proofs.Math.Seq.{drop-append_seam}, drl_lex.specs.{Bytes.{is_blank}, Kinds.{kinds, starts}}}
use Rattle.drl_lex.specs.Tokens as p
use Rattle.drl_lex.{proofs.FileLaws.{ends_there}, specs.declared.token.Token.{Token}}
use Rattle.drl_grammar.specs.Files as files
use Rattle.{drl_grammar.specs.declared.written.{Written.{Written}, WrittenItem.{WrittenItem}}, drl_show.{specs.Shown.{shown}, proofs.Fine.{all_good}}}
use Rattle.drl_show.proofs.{Spellings.{AllSpelled, ended_by_space, ended_by_newline}, Extents.{StartsWith}, ItemsAgain.{ItemAgain, item_again, first_begins}}

-- ---- the bytes are the tokens

-- from an offset on the bytes are tokens that say this
record Says (at : ℕ) (said : List TokenKind) (bytes : List ℕ) : Type 0 where
  tokens : List Token
  end : ℕ
  same : kinds tokens ≡ said
  reads : ReadsTokens at tokens bytes end []

stops : (t : TokenKind) (ts : List TokenKind) (rest : List ℕ) → begins (longer t) (spaced ts ++ (10 ∷ rest)) ≡ false
stops t [] rest = ended_by_newline t
stops t (u ∷ ts) rest = ended_by_space t

blank_piece : (b : ℕ) (rest : List ℕ) → is_blank b ≡ true → IsPiece None (b ∷ []) rest
blank_piece b rest h = p.blank h

space_is_blank : is_blank 32 ≡ true
unfolding is_blank
space_is_blank = refl

newline_is_blank : is_blank 10 ≡ true
unfolding is_blank
newline_is_blank = refl

skipped : (at b : ℕ) (said : List TokenKind) (rest : List ℕ) → is_blank b ≡ true → Says (at + length (b ∷ [])) said rest → Says at said (b ∷ rest)
skipped at b said rest h more = record { tokens = more.tokens; end = more.end; same = more.same; reads = p.skip {text = b ∷ []} {bytes = rest} refl (blank_piece b rest h) more.reads }

one_token : (at : ℕ) (t : TokenKind) (ts said : List TokenKind) (rest : List ℕ) → Spells t (token_text t) → Says (at + length (token_text t)) said (spaced ts ++ (10 ∷ rest))
    → Says at (t ∷ said) ((token_text t ++ spaced ts) ++ (10 ∷ rest))
one_token at t ts said rest h more = record {
  tokens = record { kind = t; at = at; len = length (token_text t) } ∷ more.tokens;
  end = more.end;
  same = ap (λ (ks : List TokenKind). t ∷ ks) more.same;
  reads = p.next {text = token_text t} {bytes = spaced ts ++ (10 ∷ rest)} (append_assoc (token_text t) (spaced ts) (10 ∷ rest)) (p.token h (stops t ts rest)) more.reads;
}

spaced_says : (ts said : List TokenKind) (rest : List ℕ) → AllSpelled ts → ((at : ℕ) → Says at said rest) → (at : ℕ) → Says at (ts ++ said) (spaced ts ++ (10 ∷ rest))
spaced_says [] said rest h more at = skipped at 10 said rest newline_is_blank (more (at + length {A = ℕ} (10 ∷ [])))
spaced_says (t ∷ ts) said rest h more at = skipped at 32 (t ∷ (ts ++ said)) ((token_text t ++ spaced ts) ++ (10 ∷ rest)) space_is_blank
    (one_token (at + length {A = ℕ} (32 ∷ [])) t ts (ts ++ said) rest h.0 (spaced_says ts said rest h.1 more (at + length {A = ℕ} (32 ∷ []) + length (token_text t))))

-- ---- the items

abbrev AllAgain : List WrittenItem → Type 0
AllAgain [] = Unit {0}
AllAgain (item ∷ items) = ItemAgain item.body × AllAgain items

all_again : (items : List WrittenItem) → All (λ item. StandsInGrammar item.body) items → AllAgain items
all_again [] all = tt
all_again (item ∷ items) all = let first = all 0 item (omega arith) in (item_again item.body first.tokens first.stands (all_good first.tokens first.spelled), all_again items (λ k d lt. all (suc k) d (omega arith)))

abbrev all_tokens : List WrittenItem → List TokenKind
all_tokens items = each (λ item. tokens_of_item item.body) items

items_say : (items : List WrittenItem) → AllAgain items → (at : ℕ) → Says at (all_tokens items) (shown_items items)
items_say [] all at = record { tokens = []; end = at; same = refl; reads = p.done }
items_say (item ∷ items) all at =
    let is = all.0.spelled in
    one_token at (Word (item_word_shown item.body)) (behind_word item.body) (behind_word item.body ++ all_tokens items) (shown_items items) is.0
    (spaced_says (behind_word item.body) (all_tokens items) (shown_items items) is.1 (items_say items all.1) (at + length (token_text (Word (item_word_shown item.body)))))

-- items with these bodies stand for the tokens
record Stand (items : List WrittenItem) (lines : List ℕ) : Type 0 where
  found : List WrittenItem
  same : map (λ item. item.body) found ≡ map (λ item. item.body) items
  stand : AreItems found (all_tokens items) lines

one_item : (b : WrittenBody) (items : List WrittenItem) (t : TokenKind) (behind others : List TokenKind) (line : ℕ) (lines : List ℕ) → extent t (behind ++ others) ≡ length behind → IsItem b (t ∷ behind) []
    → AreItems items others (drop (length behind) lines) → AreItems (record { line = line; body = b } ∷ items) (t ∷ (behind ++ others)) (line ∷ lines)
one_item b items t behind others line lines ext is more =
    let front : take (extent t (behind ++ others)) (behind ++ others) ≡ behind = rw ext (take-append_seam behind others) in
    let back : drop (extent t (behind ++ others)) (behind ++ others) ≡ others = rw ext (drop-append_seam behind others) in
    let rest : drop (extent t (behind ++ others)) lines ≡ drop (length behind) lines = rw ext refl in
    files.next_item (subst (λ (ts : List TokenKind). IsItem b (t ∷ ts) []) (sym front) is)
    (subst (λ (ts : List TokenKind). AreItems items ts (drop (extent t (behind ++ others)) lines)) (sym back) (subst (λ (ls : List ℕ). AreItems items others ls) (sym rest) more))

items_start : (items : List WrittenItem) → StartsWith begins_item (all_tokens items)
items_start [] = tt
items_start (item ∷ items) = first_begins item.body

items_stand : (items : List WrittenItem) → AllAgain items → (lines : List ℕ) → length lines ≡ length (all_tokens items) → Stand items lines
items_stand [] all [] e = record { found = []; same = refl; stand = files.no_items }
items_stand [] all (line ∷ lines) e = absurd (omega arith)
items_stand (item ∷ items) all [] e = absurd (omega arith)
items_stand (item ∷ items) all (line ∷ lines) e =
    let count = length-append (behind_word item.body) (all_tokens items) in
    let enough : length (drop (length (behind_word item.body)) lines) ≡ length (all_tokens items) = rw length-drop (omega arith) in
    let more = items_stand items all.1 (drop (length (behind_word item.body)) lines) enough in
    record {
      found = record { line = line; body = item.body } ∷ more.found;
      same = ap (λ (bs : List WrittenBody). item.body ∷ bs) more.same;
      stand = one_item item.body more.found (Word (item_word_shown item.body)) (behind_word item.body) (all_tokens items) line lines (all.0.extent_is (all_tokens items) (items_start items)) all.0.stands more.stand;
    }

pub read_again : (file : Written) → InGrammar file → IsReadAgain file (shown file)
unfolding shown
read_again file all =
    let again = all_again file.items all.items in
    let says = items_say file.items again 0 in
    let bytes : List ℕ = shown_items file.items in
    let count : length (lines_at bytes says.tokens) ≡ length (all_tokens file.items) =
    length-map (starts says.tokens) (line_at bytes) ∙ length-map says.tokens (λ (token : Token). token.at) ∙ sym (length-map says.tokens (λ (token : Token). token.kind)) ∙ ap (λ (ks : List TokenKind). length ks) says.same in
    let stand = items_stand file.items again (lines_at bytes says.tokens) count in
    record {
      again = record { items = stand.found };
      same = stand.same;
      is_read = record {
        tokens = says.tokens;
        spelled = ends_there says.tokens bytes says.end says.reads;
        stand = subst (λ (ks : List TokenKind). AreItems stand.found ks (lines_at bytes says.tokens)) (sym says.same) stand.stand;
      };
    }
