use Rattle.join_memory.proofs.{Common.{◌≡◌, ◌∙◌, sym, ap, rules, List, Row, has, map-id, Option, Some, None, Look, has_left, Agrees}, Listing.{keys_kept}}
use Rattle.join_memory.{proofs.Listing.{RowsAgree}, specs.{declared.candidates.Candidates.{Candidates}, Shared.{over}}}
use Rattle.std.proofs.lemmas.Iterator.{items_from_drains, Adapters.{YieldsList-from_vec}}
use Rattle.join_memory.proofs.memories.Memories.left_rows.Goals as goal
use Rattle.join_memory.proofs.memories.Memories.left_rows.Goals.{In_ok-collect}

-- the items that the set was made of
items : (g : _) (c : In_ok-collect g) → c.in_ok-rows.ensures.ran.0 ≡ c.in_ok-keys.keys.items
items g c =
    sym (map-id c.in_ok-rows.ensures.ran.0)
    ∙ items_from_drains c.in_ok-rows.ensures.ran.0 c.in_ok-rows.ensures.ran.1 (YieldsList-from_vec c.in_ok-keys.keys.items (cc) (cc))

kept : (g : _) (c : In_ok-collect g) (look : Look) → RowsAgree c.args.self.now look → (row : Row) → has c.in_ok-collect.field-0.items row ≡ has_left c.args.self.now look row
kept g c look agrees row =
    let all : c.in_ok-collect.field-0.items ≡ c.in_ok-rows.rows.keys = search rules in
    ap (λ (rows : List Row). has rows row) all
    ∙ c.in_ok-rows.ensures.ran.2.0 row
    ∙ ap (λ (rows : List Row). has rows row) (items g c)
    ∙ keys_kept c.args.self.now look c.in_ok-keys.keys.items c.in_ok-keys.ensures agrees row

pub returns-clause-rows : goal.returns-clause-rows
returns-clause-rows g c look agrees = kept g c look agrees.rows

pub returns-clause-shared : goal.returns-clause-shared
returns-clause-shared g c shared look agrees row = by shared agrees
  where
    by : (s : Option Candidates) → Agrees (over c.args.self.now s) look → has c.in_ok-collect.field-0.items row ≡ has_left c.args.self.now look row
    by None are = kept g c look are.rows row
    by (Some s) are = kept g c look are.rows row
