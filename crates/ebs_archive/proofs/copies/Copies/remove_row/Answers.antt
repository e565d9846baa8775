use Rattle.std.proofs.Common.{◌<◌, sym, ap, subst, ◌∙◌}
use Rattle.std.specs.FinMap.{FinMap, get, len}
use Rattle.ebs_tables.specs.Full.{full}
use Rattle.ebs_archive.specs.declared.copies.ArchiveCopy.{ArchiveCopy}
use Rattle.ebs_archive.specs.Keys.{copy_key_cmp, copy_key, without_row}
use Rattle.ebs_archive.specs.Copies.{CopySlots}
use Rattle.ebs_archive.proofs.Rows.{without-remove, without-none, fewer, get-others, own-row, zero_least}
use Rattle.ebs_archive.proofs.copies.Copies.remove_row.Goals as goal

abbrev Kept : Type 0
Kept = FinMap copy_key_cmp ArchiveCopy

pub loop-index-smaller : goal.loop-index-smaller
loop-index-smaller c =
    let m = full c.loop-index.self in
    let at = copy_key c.args.key.now c.in-Some.index in
    subst (λ (n : Kept). len n < len m) (sym c.remove.ensures.copies) (fewer m at _ c.in-Some.ensures.1)

pub loop-index-preserved : goal.loop-index-preserved
loop-index-preserved c =
    let key = c.args.key.now in
    let m = full c.loop-index.self in
    let at = copy_key key c.in-Some.index in (
      ap (λ (n : Kept). without_row n key) c.remove.ensures.copies ∙ without-remove m key at (own-row key c.in-Some.index) ∙ c.loop-index.invariant.0,
      λ q other. ap (λ (n : CopySlots). get n q) c.remove.ensures.room ∙ get-others c.loop-index.self key c.in-Some.index q other ∙ c.loop-index.invariant.1 q other,
    )

pub returns-clause-copies : goal.returns-clause-copies
returns-clause-copies c =
    sym (without-none (full c.loop-index.self) c.args.key.now (λ i. c.in_default.ensures i (zero_least i))) ∙ c.loop-index.invariant.0

pub returns-clause-others : goal.returns-clause-others
returns-clause-others c = c.loop-index.invariant.1
