use Rattle.std.proofs.Common.{sym, subst}
use Rattle.ebs_recovery.specs.inner.Fits.{Seen}
use Rattle.ebs_disk_store.specs.declared.heads.PutHead.{PutHead}
use Rattle.ebs_disk_store.specs.inner.Puts.{IsBounded}
use Rattle.ebs_disk_store.proofs.store.Store.check_place.Goals as goal

pub returns-in-Snapshot : goal.returns-in-Snapshot
returns-in-Snapshot g c =
    subst (λ (s : Seen). IsBounded s.recorded c.args.head.now) c.self.view_is
    (subst (λ (put : PutHead). IsBounded c.self.inside.kept.machine put) (sym c.in-Snapshot.is) (c.check_key.ensures, c.keeps_rows.ensures))
