use Rattle.std.proofs.Common.{◌≤◌, arith, sym, ap, subst, ◌∙◌}
use Rattle.ebs_model.specs.Rows.{Rows}
use Rattle.ebs_model.specs.Machine.{aged_rows}
use Rattle.ebs_model.proofs.Aged.{aged-empty}
use Rattle.ebs_catalog.specs.Held.{rows_in}
use Rattle.ebs_kept.specs.inner.Shown.{IsSound, snap_array, disk_array}
use Rattle.ebs_kept.proofs.AsKept.{with-none}
use Rattle.ebs_kept.proofs.Sound.{sound-empty}
use Rattle.ebs_kept.proofs.Disks.{disks-none}
use Rattle.ebs_kept.proofs.kept.Kept.new.Goals as goal

pub returns-clause-machine : goal.returns-clause-machine
returns-clause-machine c =
    let rows = ap (λ (r : Rows). r.snaps) c.new.ensures.rows in
    let own = ap (λ (r : Rows). r.own) c.new.ensures.rows in
    let tokens = ap (λ (r : Rows). r.tokens) c.new.ensures.rows in
    let vols = ap (λ (r : Rows). r.vols) c.new.ensures.rows in
    let books = ap (λ (r : Rows). r.books) c.new.ensures.rows in
    let policies = ap (λ (r : Rows). r.policies) c.new.ensures.rows in
    let disks = disks-none (rows_in c.new.result).vols (disk_array c.new-2.result) vols in
    let snaps = ap (aged_rows 0) (with-none (rows_in c.new.result).snaps (snap_array c.new-2.result) rows) ∙ aged-empty 0 in
    λ i. record { clock = record { second = 0 }; changes = 0; stamps = 0; secret = c.args.secret; snaps = snaps i; own = own i; tokens = tokens i; vols = vols i; disks = disks i; books = books i; policies = policies i }

pub invariant_of-result : goal.invariant_of-result
invariant_of-result c =
    let rows = ap (λ (r : Rows). r.snaps) c.new.ensures.rows in
    let own = ap (λ (r : Rows). r.own) c.new.ensures.rows in
    let tokens = ap (λ (r : Rows). r.tokens) c.new.ensures.rows in
    let vols = ap (λ (r : Rows). r.vols) c.new.ensures.rows in
    let books = ap (λ (r : Rows). r.books) c.new.ensures.rows in
    let policies = ap (λ (r : Rows). r.policies) c.new.ensures.rows in
    let disks = disks-none (rows_in c.new.result).vols (disk_array c.new-2.result) vols in
    let snaps = ap (aged_rows 0) (with-none (rows_in c.new.result).snaps (snap_array c.new-2.result) rows) ∙ aged-empty 0 in
    (subst IsSound (sym (λ i. record { clock = record { second = 0 }; changes = 0; stamps = 0; secret = c.args.secret; snaps = snaps i; own = own i; tokens = tokens i; vols = vols i; disks = disks i; books = books i; policies = policies i })) (sound-empty c.args.secret), (subst (λ n. n ≤ 0) (sym c.new.ensures.latest) (omega arith), λ _ q _. c.new-2.ensures.arrays q))
