use Rattle.std.proofs.Common.{subst, sym, ◌∙◌}
use Rattle.std.specs.FinMap as fin
use Rattle.ebs_node_rules.specs.inner.Lookups.{AreChained}
use Rattle.ebs_node_rules.specs.Nodes as forest
use Rattle.ebs_tables.specs.Full.{held}
use Rattle.ebs_holds.specs.Holders.{holder_cmp}
use Rattle.ebs_restored.specs.Holders.{AreNumbered, HaveNodes, named}
use Rattle.ebs_restored.proofs.Whole.{all_numbered, chained, grown_is, holders_held, marked_are, open_named, restored}
use Rattle.ebs_restored.proofs.holdings.holdings_of.Goals as goal

pub regrow-requires-clause-chained : goal.regrow-requires-clause-chained
regrow-requires-clause-chained c = subst AreChained (sym c.as_slice-2.ensures) (chained c.args.point.now c.requires.ordered c.requires.forest)

pub regrow-requires-clause-named : goal.regrow-requires-clause-named
regrow-requires-clause-named c =
    let marked = marked_are c.args.point.now c.as_slice-snapshots.result.now c.as_slice-volumes.result.now c.as_slice.result.now c.in_ok-named.named.items c.in_ok-kept.kept
    c.as_slice-snapshots.ensures c.as_slice-volumes.ensures c.in_ok-named.ensures c.as_slice.ensures.value c.in_ok-kept.ensures in
    (λ i. forest.open_are_named (c.as_slice-2.ensures i) (fin.contains_key (marked i))) ∙ open_named c.args.point.now c.requires.ordered c.requires.forest

pub holders_of-requires : goal.holders_of-requires
holders_of-requires c =
    let point = c.args.point.now in
    let marked = marked_are point c.as_slice-snapshots.result.now c.as_slice-volumes.result.now c.as_slice.result.now c.in_ok-named.named.items c.in_ok-kept.kept
    c.as_slice-snapshots.ensures c.as_slice-volumes.ensures c.in_ok-named.ensures c.as_slice.ensures.value c.in_ok-kept.ensures in
    let of = c.in_ok-grown.grown.numbers in
    let grown = grown_is c.as_slice-2.result.now point.nodes c.in_ok-kept.kept _ of c.in_ok-grown.grown.lineage c.as_slice-2.ensures marked c.in_ok-grown.ensures.grown in
    subst (AreNumbered of) (λ i. forest.names (sym c.as_slice-snapshots.ensures i) (sym c.as_slice-volumes.ensures i)) (all_numbered point c.requires.ordered c.requires.forest of c.in_ok-grown.grown.lineage grown)

pub of-requires-clause-holders : goal.of-requires-clause-holders
of-requires-clause-holders c =
    let point = c.args.point.now in
    let marked = marked_are point c.as_slice-snapshots.result.now c.as_slice-volumes.result.now c.as_slice.result.now c.in_ok-named.named.items c.in_ok-kept.kept
    c.as_slice-snapshots.ensures c.as_slice-volumes.ensures c.in_ok-named.ensures c.as_slice.ensures.value c.in_ok-kept.ensures in
    let of = c.in_ok-grown.grown.numbers in
    let grown = grown_is c.as_slice-2.result.now point.nodes c.in_ok-kept.kept _ of c.in_ok-grown.grown.lineage c.as_slice-2.ensures marked c.in_ok-grown.ensures.grown in
    let nodes = held holder_cmp c.in_ok-nodes.nodes in
    let have = subst (λ names. HaveNodes of names nodes) (λ i. named (c.as_slice-snapshots.ensures i) (c.as_slice-volumes.ensures i)) c.in_ok-nodes.ensures in
    holders_held point c.requires.ordered c.requires.forest of c.in_ok-grown.grown.lineage grown nodes have c.keeps_lines.ensures

pub returns : goal.returns
returns c =
    let point = c.args.point.now in
    let marked = marked_are point c.as_slice-snapshots.result.now c.as_slice-volumes.result.now c.as_slice.result.now c.in_ok-named.named.items c.in_ok-kept.kept
    c.as_slice-snapshots.ensures c.as_slice-volumes.ensures c.in_ok-named.ensures c.as_slice.ensures.value c.in_ok-kept.ensures in
    let of = c.in_ok-grown.grown.numbers in
    let grown = grown_is c.as_slice-2.result.now point.nodes c.in_ok-kept.kept _ of c.in_ok-grown.grown.lineage c.as_slice-2.ensures marked c.in_ok-grown.ensures.grown in
    let nodes = held holder_cmp c.in_ok-nodes.nodes in
    let have = subst (λ names. HaveNodes of names nodes) (λ i. named (c.as_slice-snapshots.ensures i) (c.as_slice-volumes.ensures i)) c.in_ok-nodes.ensures in
    restored point c.requires.ordered c.requires.forest of c.in_ok-grown.grown.lineage grown nodes have c.of.result c.of.ensures.lines c.of.ensures.held
