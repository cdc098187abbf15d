use Rattle.{beta_node.{proofs.Common.{◌≡◌, sym, ap, subst, false, Node}, specs.Lending.{node_has_under, node_keeps_under}}, std.specs.Option.{is_some}}
use Rattle.beta_node.proofs.node.Node.has_rows_under.Goals as goal

pub returns-in-Join : goal.returns-in-Join
returns-in-Join c = record {
  bucket = subst (λ (n : Node). c.has_rows_under.result ≡ node_has_under n c.args.value.now) (sym c.in-Join.is) c.has_rows_under.ensures.bucket;
  none = λ e row. subst (λ (n : Node). node_keeps_under n c.args.value.now row ≡ false) (sym c.in-Join.is) (ap is_some (c.has_rows_under.ensures.none e row));
}

pub returns-in-Not : goal.returns-in-Not
returns-in-Not c = record {
  bucket = subst (λ (n : Node). c.has_rows_under-in-Not.result ≡ node_has_under n c.args.value.now) (sym c.in-Not.is) c.has_rows_under-in-Not.ensures.bucket;
  none = λ e row. subst (λ (n : Node). node_keeps_under n c.args.value.now row ≡ false) (sym c.in-Not.is) (ap is_some (c.has_rows_under-in-Not.ensures.none e row));
}

pub returns-in-Exists : goal.returns-in-Exists
returns-in-Exists c = record {
  bucket = subst (λ (n : Node). c.has_rows_under-in-Exists.result ≡ node_has_under n c.args.value.now) (sym c.in-Exists.is) c.has_rows_under-in-Exists.ensures.bucket;
  none = λ e row. subst (λ (n : Node). node_keeps_under n c.args.value.now row ≡ false) (sym c.in-Exists.is) (ap is_some (c.has_rows_under-in-Exists.ensures.none e row));
}

pub returns-in-Fold : goal.returns-in-Fold
returns-in-Fold c = record {
  bucket = subst (λ (n : Node). c.has_rows_under-in-Fold.result ≡ node_has_under n c.args.value.now) (sym c.in-Fold.is) c.has_rows_under-in-Fold.ensures.bucket;
  none = λ e row. subst (λ (n : Node). node_keeps_under n c.args.value.now row ≡ false) (sym c.in-Fold.is) (ap is_some (c.has_rows_under-in-Fold.ensures.none e row));
}
