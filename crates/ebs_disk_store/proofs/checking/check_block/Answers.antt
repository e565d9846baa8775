use Rattle.std.proofs.Common.{◌≡◌, ℕ, Bool, true, List, Option, Some, Result, sym, ap, subst, ◌∙◌}
use Rattle.std.specs.Prelude.{IfOk}
use Rattle.std.specs.FinMap as fin
use Rattle.sha2.specs.Sha256.{sha256}
use Rattle.ebs_world.specs.declared.area.Area.{Area}
use Rattle.ebs_slots.specs.Slots.{IsBlock}
use Rattle.ebs_disk_store.specs.declared.store.Stop.{Stop}
use Rattle.ebs_recovery.specs.Stands.{bytes_in}
use Rattle.ebs_disk_store.specs.Checked.{differs}
use Rattle.ebs_disk_store.specs.inner.Checked.{judged}
use Rattle.ebs_disk_store.proofs.Checks.{in-slot, judges}
use Rattle.ebs_disk_store.proofs.checking.check_block.Goals as goal

pub returns-clause-damaged : goal.returns-clause-damaged
returns-clause-damaged g c =
    let v = g.D.Disk.view c.args.disk.now in
    let Damaged : Result Bool Stop → Option (List ℕ) → Type 0 = λ r kept.
    IfOk r (λ damaged. (slot : ℕ) → fin.get c.args.slots.now.keys c.args.stamp ≡ Some slot → v.tells ≡ true → damaged ≡ differs kept (sha256 (bytes_in v.reads (Some slot)))) in
    subst (Damaged c.judge.result) (c.copied-kept.ensures ∙ c.get.ensures)
    (subst (λ (r : Result Bool Stop). Damaged r c.copied-kept.result) (sym (c.judge.ensures ∙ ap (judged c.read-read.result) c.is_some.ensures))
    (judges c.read-read.result c.copied-kept.result c.unwrap_or.result _ (λ slot. fin.get c.args.slots.now.keys c.args.stamp ≡ Some slot) (v.tells ≡ true) (λ slot. bytes_in v.reads (Some slot)) c.unwrap_or.ensures
    (λ slot has tells. c.read-read.ensures.exact slot (bytes_in v.reads (Some slot)) has tells (subst (λ (a : Area). IsBlock v.reads a slot (bytes_in v.reads (Some slot))) (sym c.requires.area) (in-slot v.reads slot)))))
