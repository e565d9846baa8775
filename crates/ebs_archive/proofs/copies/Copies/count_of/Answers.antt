use Rattle.std.proofs.Common.{sym, ap, subst, ◌∙◌, List}
use Rattle.std.specs.FinMap.{entries}
use Rattle.ebs_tables.specs.Full.{full, held}
use Rattle.ebs_archive.specs.Copies.{CopySlots}
use Rattle.ebs_archive.specs.Keys.{copy_key_cmp, IsFrom}
use Rattle.ebs_archive.proofs.Counts.{Entry, count, from-found, count-found}
use Rattle.ebs_archive.proofs.copies.Copies.count_of.Goals as goal

pub count_of-requires-clause-ordered : goal.count_of-requires-clause-ordered
count_of-requires-clause-ordered c =
    subst (λ (es : List Entry). IsFrom c.args.key.now es) (sym c.from.ensures.values) (from-found c.args.key.now (held copy_key_cmp c.self.inside.slots))

pub returns : goal.returns
returns c =
    let key = c.args.key.now in
    let m = held copy_key_cmp c.self.inside.slots in
    c.count_of.ensures ∙ ap (count key) c.from.ensures.values ∙ count-found key (entries m) ∙ ap (λ (h : CopySlots). count key (entries (full h))) c.self.view_is
