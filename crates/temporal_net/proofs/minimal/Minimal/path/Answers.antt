use Rattle.temporal_net.proofs.Common.{◌≡◌, ◌≢◌, ◌<◌, length, map, Vec, Global, None, sym, ◌∙◌, ap, subst, All, All-from_recursion, NetEdge, edge_at}
use Rattle.temporal_net.proofs.{Common.{IsShortestPath, cell}, Solved.{distance_known, followed, on_items, path_seen}, Ways.{follows_known}}
use Rattle.temporal_net.proofs.minimal.Minimal.path.Goals as goal

pub way-requires-clause-known : goal.way-requires-clause-known
way-requires-clause-known c =
    let known = distance_known c.args.self.now c.self.inside.edges.items c.self.inside.rows.items c.self.view_is c.self.invariant c.args.x c.args.y c.requires.x c.requires.y c.requires.finite in
    subst (λ rows. cell rows c.args.x c.args.y ≢ None) (sym c.deref-2.ensures.value) known

pub edges_at-requires : goal.edges_at-requires
edges_at-requires c =
    let edges = c.self.inside.edges.items in
    let rows = c.self.inside.rows.items in
    let numbers = c.in_ok-numbers.numbers.items in
    let follows = followed edges c.deref.result.now rows c.deref-2.result.now c.args.x c.args.y numbers c.deref.ensures.value c.deref-2.ensures.value c.in_ok-numbers.ensures in
    let known = All-from_recursion (λ n. n < length edges) numbers (follows_known (length rows) edges (cell rows) c.self.invariant.ways c.args.x c.args.y numbers follows) in
    subst (λ es. All (λ n. n < length es) c.deref-4.result.now) (sym c.deref-3.ensures.value) (subst (All (λ n. n < length edges)) (sym c.deref-4.ensures.value) known)

pub returns : goal.returns
returns c =
    let edges = c.self.inside.edges.items in
    let rows = c.self.inside.rows.items in
    let numbers = c.in_ok-numbers.numbers.items in
    let follows = followed edges c.deref.result.now rows c.deref-2.result.now c.args.x c.args.y numbers c.deref.ensures.value c.deref-2.ensures.value c.in_ok-numbers.ensures in
    let path = path_seen c.args.self.now edges rows c.self.view_is c.self.invariant c.args.x c.args.y c.requires.x c.requires.y numbers follows in
    let lent : map (edge_at edges) numbers ≡ map (edge_at c.deref-3.result.now) c.deref-4.result.now =
    ap (λ ns. map (edge_at edges) ns) (sym c.deref-4.ensures.value) ∙ ap (λ es. map (edge_at es) c.deref-4.result.now) (sym c.deref-3.ensures.value) in
    on_items (λ (v : Vec NetEdge Global). v.items) (IsShortestPath c.args.self.now.edges c.args.x c.args.y) (map (edge_at c.deref-3.result.now) c.deref-4.result.now) c.edges_at.result c.edges_at.ensures
    (subst (IsShortestPath c.args.self.now.edges c.args.x c.args.y) lent path)
