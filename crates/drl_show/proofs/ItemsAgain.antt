-- The tokens of an item stand for it again, are spelled by their texts, and are what its first token takes from a file.
use Rattle.drl_show.proofs.Common.{◌≡◌, ℕ, true, false, Bool, List, [], ◌∷◌, ◌++◌, length, refl, sym, subst, append-nil, codes, Spells, TokenKind, Word, Text}
use Rattle.drl_show.proofs.Common.{Mark, Dot, Many, IsPathStep, IsPath, IsStar, IsItem, extent, WrittenBody, each, name_tokens, path_tokens, star_tokens}
use Rattle.{drl_show.proofs.Common.{item_word_shown, behind_word, tokens_of_item, type_tokens, entry_tokens, rule_tokens}, drl_lex.specs.Bytes.{begins_word}}
use Rattle.drl_lex.specs.Bytes.{is_word_byte}
use Rattle.drl_grammar.specs.Shapes as shapes
use Rattle.drl_grammar.specs.Items as g
use Rattle.drl_grammar.specs.Files.{opens_block, begins_item}
use Rattle.drl_grammar.specs.declared.written.WrittenBody.TheVariants as body
use Rattle.drl_show.{specs.Texts.{token_text}, proofs.{Fine.{AllGood, fine_text, fine_append}, AgainItems.{path_again, star_again, type_block, entry_block}}}
use Rattle.drl_show.proofs.{AgainItems.{rule_block}, Spellings.{AllSpelled, fine_spelled, spelled_append}, Extents.{Calm, StartsWith, ident_calm, calm_append}}
use Rattle.drl_show.proofs.Extents.{open_extent, block_extent}

pub record ItemAgain (b : WrittenBody) : Type 0 where
  pub stands : IsItem b (tokens_of_item b) []
  pub spelled : AllSpelled (tokens_of_item b)
  pub extent_is : (more : List TokenKind) → StartsWith begins_item more → extent (Word (item_word_shown b)) (behind_word b ++ more) ≡ length (behind_word b)

-- ---- words that items begin and end with

first_spelled : (b : WrittenBody) → Spells (Word (item_word_shown b)) (token_text (Word (item_word_shown b)))
unfolding token_text begins_word is_word_byte
first_spelled (body.Package path) = (refl, refl, refl)
first_spelled (body.Import path all) = (refl, refl, refl)
first_spelled (body.Dialect s) = (refl, refl, refl)
first_spelled (body.Declare t) = (refl, refl, refl)
first_spelled (body.Entry name late) = (refl, refl, refl)
first_spelled (body.Rule r) = (refl, refl, refl)

end_spelled : Spells (Word (codes "end")) (token_text (Word (codes "end")))
unfolding token_text begins_word is_word_byte
end_spelled = (refl, refl, refl)

pub first_begins : (b : WrittenBody) → begins_item (Word (item_word_shown b)) ≡ true
unfolding begins_item
first_begins (body.Package path) = refl
first_begins (body.Import path all) = refl
first_begins (body.Dialect s) = refl
first_begins (body.Declare t) = refl
first_begins (body.Entry name late) = refl
first_begins (body.Rule r) = refl

package_opens : opens_block (Word (codes "package")) ≡ false
unfolding opens_block
package_opens = refl

import_opens : opens_block (Word (codes "import")) ≡ false
unfolding opens_block
import_opens = refl

dialect_opens : opens_block (Word (codes "dialect")) ≡ false
unfolding opens_block
dialect_opens = refl

declare_opens : opens_block (Word (codes "declare")) ≡ true
unfolding opens_block
declare_opens = refl

rule_opens : opens_block (Word (codes "rule")) ≡ true
unfolding opens_block
rule_opens = refl

-- ---- items without an end of their own

steps_calm : (fs : List (List ℕ)) (ts rest : List TokenKind) → Many IsPathStep fs ts rest → Calm begins_item (each (λ y. Mark Dot ∷ name_tokens y) fs)
unfolding begins_item
steps_calm fs ts rest shapes.nothing = tt
steps_calm fs ts rest (shapes.further {middle} (g.step {f} h) hs) = let all = steps_calm _ middle rest hs in (refl, (ident_calm f h, all))

path_calm : (path : List (List ℕ)) (ts rest : List TokenKind) → IsPath path ts rest → Calm begins_item (path_tokens path)
path_calm path ts rest (g.path {f} {fs} {ts = inner} h hs) = (ident_calm f h, steps_calm fs inner rest hs)

star_calm : (all : Bool) → Calm begins_item (star_tokens all)
unfolding begins_item
star_calm true = (refl, (refl, tt))
star_calm false = tt

text_calm : (s : List ℕ) → Calm begins_item (Text s ∷ [])
unfolding begins_item
text_calm s = (refl, tt)

-- ---- items that the word `end` ends

block_spelled : (tokens inner : List TokenKind) → tokens ≡ inner ++ (Word (codes "end") ∷ []) → AllSpelled inner → AllSpelled tokens
block_spelled tokens inner same h = subst AllSpelled (sym same) (spelled_append inner (Word (codes "end") ∷ []) h (end_spelled, tt))

pub item_again : (b : WrittenBody) (ts : List TokenKind) → IsItem b ts [] → AllGood ts → ItemAgain b
item_again b ts (g.package_item {path} {ts = inner} {middle} hp ho) good =
    let a = path_again path inner middle hp good.1 in
    record {
      stands = g.package_item (subst (λ (front : List TokenKind). IsPath path front []) (append-nil (path_tokens path)) (a.stands [])) shapes.absent;
      spelled = (first_spelled (body.Package path), fine_spelled (path_tokens path) a.is_fine);
      extent_is = λ more starts. open_extent (Word (codes "package")) (path_tokens path) more package_opens (path_calm path inner middle hp) starts;
    }
item_again b ts (g.import_item {path} {all} {ts = inner} {behind_path} {middle} hp hs ho) good =
    let a = path_again path inner behind_path hp good.1 in
    let c = star_again all behind_path middle hs a.behind in
    record {
      stands = g.import_item (a.stands (star_tokens all)) (subst (λ (front : List TokenKind). IsStar all front []) (append-nil (star_tokens all)) (c.stands [])) shapes.absent;
      spelled = (first_spelled (body.Import path all), fine_spelled (path_tokens path ++ star_tokens all) (fine_append (path_tokens path) (star_tokens all) a.is_fine c.is_fine));
      extent_is = λ more starts. open_extent (Word (codes "import")) (path_tokens path ++ star_tokens all) more import_opens
          (calm_append begins_item (path_tokens path) (star_tokens all) (path_calm path inner behind_path hp) (star_calm all)) starts;
    }
item_again b ts (g.dialect_item {s} {middle} ho) good = record {
  stands = g.dialect_item shapes.absent;
  spelled = (first_spelled (body.Dialect s), fine_spelled (Text s ∷ []) (fine_text s [] good.1.0 refl));
  extent_is = λ more starts. open_extent (Word (codes "dialect")) (Text s ∷ []) more dialect_opens (text_calm s) starts;
}
item_again b ts (g.declare_type {t} {ts = inner} h) good =
    let block = type_block t inner h good.1 in
    record {
      stands = g.declare_type block.stands;
      spelled = (first_spelled (body.Declare t), block_spelled (type_tokens t) block.inner block.same (fine_spelled block.inner block.is_fine));
      extent_is = λ more starts. subst (λ (back : List TokenKind). extent (Word (codes "declare")) (back ++ more) ≡ length back) (sym block.same)
          (block_extent (Word (codes "declare")) block.inner more declare_opens block.is_fine);
    }
item_again b ts (g.declare_entry {s} {late} {ts = inner} h) good =
    let block = entry_block s late inner h good.1 in
    record {
      stands = g.declare_entry block.stands;
      spelled = (first_spelled (body.Entry s late), block_spelled (entry_tokens s late) block.inner block.same (fine_spelled block.inner block.is_fine));
      extent_is = λ more starts. subst (λ (back : List TokenKind). extent (Word (codes "declare")) (back ++ more) ≡ length back) (sym block.same)
          (block_extent (Word (codes "declare")) block.inner more declare_opens block.is_fine);
    }
item_again b ts (g.rule_item {r} {ts = inner} h) good =
    let block = rule_block r inner h good.1 in
    record {
      stands = g.rule_item block.stands;
      spelled = (first_spelled (body.Rule r), block_spelled (rule_tokens r) block.inner block.same (fine_spelled block.inner block.is_fine));
      extent_is = λ more starts. subst (λ (back : List TokenKind). extent (Word (codes "rule")) (back ++ more) ≡ length back) (sym block.same)
          (block_extent (Word (codes "rule")) block.inner more rule_opens block.is_fine);
    }
