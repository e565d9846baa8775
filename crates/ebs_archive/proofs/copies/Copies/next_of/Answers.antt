use Rattle.std.proofs.Common.{ℕ, Option, None, Some, Bor, sym, subst, ◌∙◌}
use Rattle.std.specs.Option.{option_map}
use Rattle.ebs_tables.specs.Full.{full, held}
use Rattle.ebs_archive.specs.declared.copy_key.CopyKey.{CopyKey}
use Rattle.ebs_archive.specs.declared.copies.ArchiveCopy.{ArchiveCopy}
use Rattle.ebs_archive.specs.Copies.{CopySlots}
use Rattle.ebs_archive.specs.Keys.{copy_key_cmp, row, IsLeastFrom}
use Rattle.ebs_archive.proofs.Rows.{least-none, least-other, least-own, other-row, same-row}
use Rattle.ebs_archive.proofs.copies.Copies.next_of.Goals as goal

pub returns-in_err-copy_key : goal.returns-in_err-copy_key
returns-in_err-copy_key c =
    let key = c.args.key.now in
    let m = held copy_key_cmp c.self.inside.slots in
    subst (λ (r : Option (ℕ × Bor ArchiveCopy)). IsLeastFrom (row (full c.args.self.now) key) c.args.from (option_map (λ e. (e.0, e.1.now)) r)) (sym c.from_residual.ensures)
    (subst (λ (h : CopySlots). IsLeastFrom (row (full h) key) c.args.from None) c.self.view_is
    (least-none m key c.args.from (sym c.from.ensures.values ∙ c.in_err-copy_key.ensures.steps.0)))

pub returns-then-ne : goal.returns-then-ne
returns-then-ne c =
    let key = c.args.key.now in
    let m = held copy_key_cmp c.self.inside.slots in
    let e : CopyKey × ArchiveCopy = (c.in_ok-copy_key.copy_key.now, c.in_ok-copy_key.copy.now) in
    subst (λ (h : CopySlots). IsLeastFrom (row (full h) key) c.args.from None) c.self.view_is
    (least-other m key c.args.from e _ (sym c.from.ensures.values ∙ c.in_ok-copy_key.ensures.steps) (other-row key e.0 (sym c.ne.ensures ∙ c.if-ne.true)))

pub returns : goal.returns
returns c =
    let key = c.args.key.now in
    let m = held copy_key_cmp c.self.inside.slots in
    let e : CopyKey × ArchiveCopy = (c.in_ok-copy_key.copy_key.now, c.in_ok-copy_key.copy.now) in
    subst (λ (h : CopySlots). IsLeastFrom (row (full h) key) c.args.from (Some (e.0.index, e.1))) c.self.view_is
    (least-own m key c.args.from e _ (sym c.from.ensures.values ∙ c.in_ok-copy_key.ensures.steps) (same-row key e.0 (sym c.ne.ensures ∙ c.if-ne.false)))
