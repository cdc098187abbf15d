-- What is read of the items of a file stands there, and what stands there is read.
use Rattle.drl_parse.proofs.Common.{◌≡◌, ℕ, zero, suc, ◌≤◌, List, [], ◌∷◌, length, take, drop, length-drop, Option, Some, None, Ok, Err, refl, ap, arith}
use Rattle.drl_parse.proofs.Common.{IfSome, TokenKind, WrittenItem, WrittenBody, IsItem, ItemsRead, extent, AreItems, no_items, next_item, IsItemRefused, here}
use Rattle.drl_parse.{proofs.Common.{later, item_step}, specs.Items.{items_at}}

-- what is read of all the tokens of an item is the tree that stands for them
pub record Exactly (body_of : List TokenKind → Option WrittenBody) : Type 0 where
  pub stands : (ts : List TokenKind) → IfSome (body_of ts) (λ body. IsItem body ts [])
  pub again : (body : WrittenBody) (ts : List TokenKind) → IsItem body ts [] → body_of ts ≡ Some body

abbrev pub Stands : ItemsRead → List TokenKind → List ℕ → Type 0
Stands (Ok items) ts lines = AreItems items ts lines
Stands (Err refused) ts lines = IsItemRefused refused.0 refused.1 ts lines

item_sound : (body_of : List TokenKind → Option WrittenBody) (t : TokenKind) (ts : List TokenKind) (line : ℕ) (lines : List ℕ) (o : Option WrittenBody) (read : ItemsRead) → Exactly body_of
    → body_of (t ∷ take (extent t ts) ts) ≡ o → Stands read (drop (extent t ts) ts) (drop (extent t ts) lines) → Stands (item_step line o read) (t ∷ ts) (line ∷ lines)
item_sound body_of t ts line lines None read exact e h = here (λ body is. let again = exact.again body (t ∷ take (extent t ts) ts) is in absurd cc)
item_sound body_of t ts line lines (Some body) (Ok items) exact e h = next_item (rw e at (exact.stands (t ∷ take (extent t ts) ts))) h
item_sound body_of t ts line lines (Some body) (Err refused) exact e h = later (rw e at (exact.stands (t ∷ take (extent t ts) ts))) h

pub items_sound : (body_of : List TokenKind → Option WrittenBody) (n : ℕ) (ts : List TokenKind) (lines : List ℕ) → Exactly body_of → length lines ≡ length ts → length ts ≤ n → Stands (items_at body_of n ts lines) ts lines
unfolding items_at
items_sound body_of n [] [] exact same le = no_items
items_sound body_of n [] (line ∷ lines) exact same le = absurd (omega arith)
items_sound body_of n (t ∷ ts) [] exact same le = absurd (omega arith)
items_sound body_of zero (t ∷ ts) (line ∷ lines) exact same le = absurd (omega arith)
items_sound body_of (suc n) (t ∷ ts) (line ∷ lines) exact same le =
    item_sound body_of t ts line lines (body_of (t ∷ take (extent t ts) ts)) (items_at body_of n (drop (extent t ts) ts) (drop (extent t ts) lines)) exact refl
    (items_sound body_of n (drop (extent t ts) ts) (drop (extent t ts) lines) exact (omega (arith, length-drop (extent t ts) ts, length-drop (extent t ts) lines)) (omega (arith, length-drop (extent t ts) ts)))

no_body : (body_of : List TokenKind → Option WrittenBody) (ts : List TokenKind) (o : Option WrittenBody) → Exactly body_of → body_of ts ≡ o → ((body : WrittenBody) → IsItem body ts [] → ⊥) → body_of ts ≡ None
no_body body_of ts None exact e h = e
no_body body_of ts (Some body) exact e h = absurd (h body (rw e at (exact.stands ts)))

pub items_again : (body_of : List TokenKind → Option WrittenBody) (n : ℕ) (items : List WrittenItem) (ts : List TokenKind) (lines : List ℕ) → Exactly body_of → AreItems items ts lines → length ts ≤ n
    → items_at body_of n ts lines ≡ Ok items
unfolding items_at
items_again body_of n items ts lines exact no_items le = refl
items_again body_of zero items ts lines exact (next_item h more) le = absurd (omega arith)
items_again body_of (suc n) items ts lines exact (next_item {body} {items = others} {t} {ts = behind} {line} {lines = later_lines} h more) le =
    rw (
      exact.again body (t ∷ take (extent t behind) behind) h,
      items_again body_of n others (drop (extent t behind) behind) (drop (extent t behind) later_lines) exact more (omega (arith, length-drop (extent t behind) behind)),
    ) refl

pub refused_again : (body_of : List TokenKind → Option WrittenBody) (n number line : ℕ) (ts : List TokenKind) (lines : List ℕ) → Exactly body_of → IsItemRefused number line ts lines → length ts ≤ n
    → items_at body_of n ts lines ≡ Err (number, line)
unfolding items_at
refused_again body_of zero number line ts lines exact (here h) le = absurd (omega arith)
refused_again body_of (suc n) number line ts lines exact (here {t} {ts = behind} h) le = rw (no_body body_of (t ∷ take (extent t behind) behind) _ exact refl h) refl
refused_again body_of zero number line ts lines exact (later h more) le = absurd (omega arith)
refused_again body_of (suc n) number line ts lines exact (later {k} {body} {t} {ts = behind} {lines = later_lines} h more) le =
    rw (
      exact.again body (t ∷ take (extent t behind) behind) h,
      refused_again body_of n k line (drop (extent t behind) behind) (drop (extent t behind) later_lines) exact more (omega (arith, length-drop (extent t behind) behind)),
    ) refl

-- more turns change nothing
pub enough_turns : (body_of : List TokenKind → Option WrittenBody) (m n : ℕ) (ts : List TokenKind) (lines : List ℕ) → length ts ≤ m → length ts ≤ n → items_at body_of m ts lines ≡ items_at body_of n ts lines
unfolding items_at
enough_turns body_of m n [] lines le le2 = refl
enough_turns body_of m n (t ∷ ts) [] le le2 = refl
enough_turns body_of zero n (t ∷ ts) (line ∷ lines) le le2 = absurd (omega arith)
enough_turns body_of (suc m) zero (t ∷ ts) (line ∷ lines) le le2 = absurd (omega arith)
enough_turns body_of (suc m) (suc n) (t ∷ ts) (line ∷ lines) le le2 =
    ap (item_step line (body_of (t ∷ take (extent t ts) ts)))
    (enough_turns body_of m n (drop (extent t ts) ts) (drop (extent t ts) lines) (omega (arith, length-drop (extent t ts) ts)) (omega (arith, length-drop (extent t ts) ts)))
