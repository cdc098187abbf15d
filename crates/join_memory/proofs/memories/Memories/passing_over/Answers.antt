use Rattle.join_memory.proofs.Common.{◌∙◌, ◌&&◌, sym, ap, [], ◌∷◌, IfOk-weaker, JoinIndex, Named, Value, all_sought, joins, name_kept, option_map}
use Rattle.join_memory.proofs.{Found.{passing_alone, passing_both}, Sharing.{kept_over}}
use Rattle.join_memory.proofs.memories.Memories.passing_over.Goals as goal

pub returns-in-One-clause-names : goal.returns-in-One-clause-names
returns-in-One-clause-names g c =
    let look = g.F.Facts.map c.args.facts.now in
    let p = c.args.self.now.pattern in
    let row = c.args.row.now in
    let is = sym c.candidates_sought.ensures ∙ ap all_sought c.in-One.is ∙ ap (λ (v : Value). v ∷ []) (sym c.value.ensures) in
    IfOk-weaker c.passing_under.result _ _ (λ found h k.
    h k ∙ passing_alone p c.names-names.result.now look row c.value.result.now is k
    ∙ ap (λ (names : JoinIndex Value Named (Unit {0})). name_kept p names look k && joins p look row k) c.names-names.ensures
    ∙ ap (λ b. b && joins p look row k) (kept_over c.args.self.now (option_map (λ s. s.now) c.args.shared) look k)) c.passing_under.ensures.names

pub returns-in-Two-clause-names : goal.returns-in-Two-clause-names
returns-in-Two-clause-names g c =
    let look = g.F.Facts.map c.args.facts.now in
    let p = c.args.self.now.pattern in
    let row = c.args.row.now in
    let is = sym c.candidates_sought.ensures ∙ ap all_sought c.in-Two.is in
    IfOk-weaker c.passing_of_both.result _ _ (λ found h k.
    h k ∙ passing_both p c.names-names.result.now look row c.in-Two.first c.in-Two.second is k
    ∙ ap (λ (names : JoinIndex Value Named (Unit {0})). name_kept p names look k && joins p look row k) c.names-names.ensures
    ∙ ap (λ b. b && joins p look row k) (kept_over c.args.self.now (option_map (λ s. s.now) c.args.shared) look k)) c.passing_of_both.ensures.names
