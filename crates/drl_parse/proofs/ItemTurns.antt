-- Reading items one after the other, as a loop does.
use Rattle.drl_parse.proofs.Common.{◌≡◌, ℕ, ◌+◌, ◌≤◌, Bool, true, false, not, cond, min, List, [], ◌∷◌, ◌++◌, length, get_or, take, drop, length-drop, Option}
use Rattle.drl_parse.proofs.Common.{Some, None, Ok, Err, refl, sym, ap, ◌∙◌, append_assoc, add-one, arith, length-append, TokenKind, WrittenItem, WrittenBody}
use Rattle.drl_parse.proofs.Common.{ItemsRead, length-take, append-nil, prefix_len-le-length, opens_block, begins_item, ends_block, count_before, with_item}
use Rattle.{drl_parse.{specs.Items.{first_item, items_at}, proofs.ItemLaws.{enough_turns}}, std.proofs.lemmas.Option.{same_Some}}
use Rattle.{std.proofs.lemmas.List.Folds.{length-prefix_len}, drl_grammar.specs.Files.{extent}}

-- what was read before, and what is still read
abbrev pub behind : List WrittenItem → ItemsRead → ItemsRead
behind front (Ok items) = Ok (front ++ items)
behind front (Err refused) = Err (length front + refused.0, refused.1)

-- what the loop keeps: the items so far and what is read of the tokens that are left are what is read of all
pub record SoFar (body_of : List TokenKind → Option WrittenBody) (tokens : List TokenKind) (lines : List ℕ) (items : List WrittenItem) (number : ℕ) (rest : List TokenKind) (rest_lines : List ℕ) : Type 0 where
  pub read : behind items (items_at body_of (length rest) rest rest_lines) ≡ items_at body_of (length tokens) tokens lines
  pub same : length rest_lines ≡ length rest
  pub counted : number ≡ length items
  pub few : number + length rest ≤ length tokens

nothing_before : (o : ItemsRead) → behind [] o ≡ o
nothing_before (Ok items) = refl
nothing_before (Err (number, line)) = let same : 0 + number ≡ number = omega arith in ap (λ (n : ℕ). Err (n, line)) same

pub starts : (body_of : List TokenKind → Option WrittenBody) (tokens : List TokenKind) (lines : List ℕ) (items : List WrittenItem) → items ≡ [] → length lines ≡ length tokens → SoFar body_of tokens lines items 0 tokens lines
starts body_of tokens lines items e same = rw e (record {
  read = nothing_before (items_at body_of (length tokens) tokens lines);
  same = same;
  counted = refl;
  few = omega arith;
})

regroup : (front : List WrittenItem) (item : WrittenItem) (read : ItemsRead) → behind front (with_item item read) ≡ behind (front ++ item ∷ []) read
regroup front item (Ok items) = ap (λ (all : List WrittenItem). Ok all) (simp append_assoc)
regroup front item (Err (number, line)) = let len : length front + (number + 1) ≡ length (front ++ item ∷ []) + number = rw length-append (omega arith) in rw len refl

pub cut_at : (t : TokenKind) (ts : List TokenKind) (n : ℕ) → n ≡ extent t ts + 1 → first_item (t ∷ ts) ≡ Some (take n (t ∷ ts), drop n (t ∷ ts))
unfolding first_item
cut_at t ts n e = rw (e, add-one) refl

before_within : (test : TokenKind → Bool) (ts : List TokenKind) → count_before test ts ≤ length ts
before_within test ts = omega (arith, length-prefix_len (λ t. not (test t)) ts, prefix_len-le-length (λ t. not (test t)) ts)

-- an item has no more tokens than there are
extent_within : (t : TokenKind) (ts : List TokenKind) → extent t ts ≤ length ts
unfolding extent
extent_within t ts = go (opens_block t)
  where
    go : (b : Bool) → cond b (min (count_before ends_block ts + 1) (length ts)) (count_before begins_item ts) ≤ length ts
    go true = omega arith
    go false = before_within begins_item ts

-- the lines behind those of the first item
lines_behind : (t : TokenKind) (ts : List TokenKind) (line : ℕ) (later : List ℕ) → drop (length (t ∷ take (extent t ts) ts)) (line ∷ later) ≡ drop (extent t ts) later
lines_behind t ts line later =
    let within = extent_within t ts in
    let len : length (take (extent t ts) ts) ≡ extent t ts = omega (arith, length-take (extent t ts) ts) in
    ap (λ (n : ℕ). drop n later) len

parts_are : (own next : List TokenKind) (t : TokenKind) (ts : List TokenKind) → Some (own, next) ≡ first_item (t ∷ ts) → (own ≡ t ∷ take (extent t ts) ts) × (next ≡ drop (extent t ts) ts)
unfolding first_item
parts_are own next t ts cut =
    let e = same_Some (own, next) (t ∷ take (extent t ts) ts, drop (extent t ts) ts) cut in
    (ap (λ (p : List TokenKind × List TokenKind). p.0) e, ap (λ (p : List TokenKind × List TokenKind). p.1) e)

-- one more item
pub kept : (body_of : List TokenKind → Option WrittenBody) (tokens : List TokenKind) (lines : List ℕ) (items : List WrittenItem) (number : ℕ) (rest own next : List TokenKind) (rest_lines : List ℕ) (body : WrittenBody)
    → SoFar body_of tokens lines items number rest rest_lines → Some (own, next) ≡ first_item rest → body_of own ≡ Some body
    → SoFar body_of tokens lines (items ++ record { line = get_or rest_lines 0 0; body = body } ∷ []) (number + 1) next (drop (length own) rest_lines)
unfolding items_at first_item
kept body_of tokens lines items number [] own next rest_lines body so_far cut is = absurd cc
kept body_of tokens lines items number (t ∷ ts) own next [] body so_far cut is = absurd (omega (arith, so_far.same))
kept body_of tokens lines items number (t ∷ ts) own next (line ∷ later) body so_far cut is =
    let cut_is = parts_are own next t ts cut in
    let is_body : body_of (t ∷ take (extent t ts) ts) ≡ Some body = rw cut_is.0 at is in
    let item : WrittenItem = record { line = line; body = body } in
    let turns : items_at body_of (length (drop (extent t ts) ts)) (drop (extent t ts) ts) (drop (extent t ts) later) ≡ items_at body_of (length ts) (drop (extent t ts) ts) (drop (extent t ts) later) =
    enough_turns body_of (length (drop (extent t ts) ts)) (length ts) (drop (extent t ts) ts) (drop (extent t ts) later) (omega arith) (omega (arith, length-drop (extent t ts) ts)) in
    let one : behind items (items_at body_of (length (t ∷ ts)) (t ∷ ts) (line ∷ later)) ≡ behind (items ++ item ∷ []) (items_at body_of (length ts) (drop (extent t ts) ts) (drop (extent t ts) later)) =
    rw is_body (regroup items item (items_at body_of (length ts) (drop (extent t ts) ts) (drop (extent t ts) later))) in
    rw (cut_is.0, cut_is.1, lines_behind t ts line later) (record {
      read = rw turns (sym one ∙ so_far.read);
      same = omega (arith, so_far.same, length-drop (extent t ts) ts, length-drop (extent t ts) later);
      counted = rw length-append (omega (arith, so_far.counted));
      few = omega (arith, so_far.few, length-drop (extent t ts) ts);
    })

-- an item that does not stand
pub stops : (body_of : List TokenKind → Option WrittenBody) (tokens : List TokenKind) (lines : List ℕ) (items : List WrittenItem) (number : ℕ) (rest own next : List TokenKind) (rest_lines : List ℕ)
    → SoFar body_of tokens lines items number rest rest_lines → Some (own, next) ≡ first_item rest → body_of own ≡ None
    → items_at body_of (length tokens) tokens lines ≡ Err (number + 1, get_or rest_lines 0 0)
unfolding items_at first_item
stops body_of tokens lines items number [] own next rest_lines so_far cut is = absurd cc
stops body_of tokens lines items number (t ∷ ts) own next [] so_far cut is = absurd (omega (arith, so_far.same))
stops body_of tokens lines items number (t ∷ ts) own next (line ∷ later) so_far cut is =
    let cut_is = parts_are own next t ts cut in
    let nothing : body_of (t ∷ take (extent t ts) ts) ≡ None = rw cut_is.0 at is in
    let one : behind items (items_at body_of (length (t ∷ ts)) (t ∷ ts) (line ∷ later)) ≡ Err (length items + 1, line) = rw nothing refl in
    rw so_far.counted (sym so_far.read ∙ one)

-- no token is left
pub ends : (body_of : List TokenKind → Option WrittenBody) (tokens : List TokenKind) (lines : List ℕ) (items : List WrittenItem) (number : ℕ) (rest : List TokenKind) (rest_lines : List ℕ)
    → SoFar body_of tokens lines items number rest rest_lines → None ≡ first_item rest → items_at body_of (length tokens) tokens lines ≡ Ok items
unfolding items_at first_item
ends body_of tokens lines items number [] rest_lines so_far cut = sym so_far.read ∙ ap (λ (all : List WrittenItem). Ok all) (append-nil items)
ends body_of tokens lines items number (t ∷ ts) rest_lines so_far cut = absurd cc
