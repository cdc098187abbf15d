use Rattle.page_map.proofs.{Common.{◌∙◌, sym, ap, subst, ◌+◌, ◌∷◌, List, Directory, AreDirectoriesApart, held}, Moved.{sent_held, sent_same, trimmed_held}}
use Rattle.page_map.proofs.Moved.{trimmed_same}
use Rattle.page_map.proofs.moves.retreat.Goals as goal

pub returns-in_default-send-clause-are : goal.returns-in_default-send-clause-are
returns-in_default-send-clause-are c =
    let first = c.args.run.now.first in
    let row = c.pop_front.new.self.items in
    let tree = c.args.tree.now.entries in
    let next = c.send.new.tree.entries in
    let were : AreDirectoriesApart first (c.in-Some.pages ∷ row) tree = subst (λ (r : List Directory). AreDirectoriesApart first r tree) c.in-Some.ensures.items c.requires in
    trimmed_held (first + 1) row c.trim.new.self.first c.trim.new.self.directories.items next c.trim.ensures
    (sent_held first c.in-Some.pages row tree next were c.send.ensures.are c.send.ensures.rest c.in_default-send.ensures.sent)

pub returns-in_default-send-clause-same : goal.returns-in_default-send-clause-same
returns-in_default-send-clause-same c =
    let first = c.args.run.now.first in
    let row = c.pop_front.new.self.items in
    let tree = c.args.tree.now.entries in
    let next = c.send.new.tree.entries in
    let were : AreDirectoriesApart first (c.in-Some.pages ∷ row) tree = subst (λ (r : List Directory). AreDirectoriesApart first r tree) c.in-Some.ensures.items c.requires in
    trimmed_same (first + 1) row c.trim.new.self.first c.trim.new.self.directories.items next c.trim.ensures
    (sent_held first c.in-Some.pages row tree next were c.send.ensures.are c.send.ensures.rest c.in_default-send.ensures.sent)
    ∙ sent_same first c.in-Some.pages row tree next were c.send.ensures.are c.send.ensures.rest c.in_default-send.ensures.sent
    ∙ ap (λ r. held first r tree) (sym c.in-Some.ensures.items)
