use Rattle.std.proofs.Common.{ℕ, map, sym, ap, ◌∙◌}
use Rattle.std.specs.Cmp.{nat_cmp_total}
use Rattle.std.specs.List.{filter}
use Rattle.std.specs.Ordering.{is_le, nat_cmp}
use Rattle.std.specs.FinMap.{entries}
use Rattle.ebs_tables.specs.Full.{held}
use Rattle.ebs_model.proofs.Values.{entries-map_values}
use Rattle.ebs_bin.specs.Books.{Shelf, book}
use Rattle.ebs_catalog.specs.Held.{Held, rows_in}
use Rattle.ebs_catalog.proofs.AllRows.{all-kept, least-account}
use Rattle.ebs_catalog.proofs.catalog.Catalog.rules.Goals as goal

pub returns : goal.returns
returns c =
    let m = held nat_cmp c.self.inside.books in
    ap (map (λ (e : ℕ × Shelf). (e.0, book e.1))) (c.from.ensures.values ∙ (λ i. filter (λ e. is_le (nat_cmp (c.new.ensures i) e.0)) (entries m)) ∙ all-kept _ (λ e. least-account e.0) (entries m))
    ∙ sym (entries-map_values nat_cmp_total book m) ∙ ap (λ (h : Held). entries (rows_in h).books) c.self.view_is
