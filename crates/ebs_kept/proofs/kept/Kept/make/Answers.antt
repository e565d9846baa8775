use Rattle.std.proofs.Common.{◌≤◌, ◌^◌, sym, ap, subst, refl, ◌∙◌}
use Rattle.ebs_model.specs.declared.keys.Moment.{Moment}
use Rattle.ebs_catalog.specs.Held.{rows_in}
use Rattle.ebs_kept.specs.inner.Shown.{Form, IsSound}
use Rattle.ebs_kept.specs.inner.Room.{IsReserved}
use Rattle.ebs_kept.specs.inner.Counted.{IsAllShown}
use Rattle.ebs_kept.proofs.Changed.{brings-digest}
use Rattle.ebs_kept.proofs.Making as making
use Rattle.ebs_kept.proofs.AsKept.{reached, le_self}
use Rattle.ebs_kept.proofs.kept.Kept.make.Goals as goal

pub write-requires-clause-room : goal.write-requires-clause-room
write-requires-clause-room c = (subst (λ (f : Form). IsReserved f c.args.change c.args.reserved) (sym c.self.view_is) c.requires.reserved).arrays

pub write-requires-clause-small : goal.write-requires-clause-small
write-requires-clause-small c =
    let is = ap (λ (f : Form). f.machine) c.self.view_is in
    let sound = subst IsSound is c.self.invariant.0 in
    making.small c.self.inside c.args.self.now.machine is sound c.args.now c.requires.later c.args.change c.requires.at c.requires.decided

pub commit-requires-clause-room : goal.commit-requires-clause-room
commit-requires-clause-room c = (subst (λ (f : Form). IsReserved f c.args.change c.args.reserved) (sym c.self.view_is) c.requires.reserved).rows

pub commit-requires-clause-later : goal.commit-requires-clause-later
commit-requires-clause-later c =
    let is = ap (λ (f : Form). f.machine) c.self.view_is in
    let late = reached c.self.inside c.args.self.now.machine is c.args.now c.requires.later c.self.invariant.1.0 in
    let at = ap (λ (t : Moment). t.second) c.requires.at in
    subst (λ n. c.self.inside.catalog.latest ≤ n) (sym at) late

pub commit-requires-clause-moment : goal.commit-requires-clause-moment
commit-requires-clause-moment c = subst (λ (t : Moment). t.second ≤ 2 ^ 36) (sym c.requires.at) c.requires.early

pub commit-requires-clause-decided : goal.commit-requires-clause-decided
commit-requires-clause-decided c =
    let is = ap (λ (f : Form). f.machine) c.self.view_is in
    let sound = subst IsSound is c.self.invariant.0 in
    making.decided-there c.self.inside c.args.self.now.machine is sound c.args.now c.requires.later c.args.change c.requires.at c.requires.decided
    (rows_in c.self.inside.catalog) refl

pub invariant_of-self : goal.invariant_of-self
invariant_of-self c =
    let k = c.self.inside in
    let m = c.args.self.now.machine in
    let is = ap (λ (f : Form). f.machine) c.self.view_is in
    let sound = subst IsSound is c.self.invariant.0 in
    let digest = c.args.digest in
    let made = making.machine-after k m is sound c.args.now c.requires.later c.args.change c.requires.at c.requires.decided
    digest digest (brings-digest c.args.change.request digest) (rows_in c.commit.new.self) c.write.new.holdings c.source_of-source.result c.writes_of-writes.result
    c.source_of-source.ensures c.commit.ensures.rows c.write.ensures.arrays c.writes_of-writes.ensures.value in (
      subst IsSound (sym made) (making.sound-after k m is sound c.args.now c.requires.later c.args.change c.requires.at c.requires.decided digest c.requires.early c.requires.few),
      (
        subst (λ n. n ≤ c.args.now.second) (sym (c.commit.ensures.latest ∙ ap (λ (t : Moment). t.second) c.requires.at)) (le_self c.args.now.second),
        λ set.
            making.settled-after k m is sound c.args.now c.requires.later c.args.change c.requires.at c.requires.decided (rows_in c.commit.new.self) c.write.new.holdings c.source_of-source.result (record { stamp = k.stamps; digest = digest })
            c.commit.ensures.rows c.write.ensures.arrays (sym c.writes_of-writes.ensures.value ∙ c.writes_settled-self-inside.ensures.writes set)
            (subst (λ n. IsAllShown n (rows_in k.catalog) k.holdings) (sym (c.writes_settled-self-inside.ensures.same set)) (c.self.invariant.1.1 (c.writes_settled-self-inside.ensures.settled set))),
      ),
    )

pub returns-clause-ended : goal.returns-clause-ended
returns-clause-ended c = (subst (λ (f : Form). IsReserved f c.args.change c.args.reserved) (sym c.self.view_is) c.requires.reserved).ended

pub returns-clause-changed : goal.returns-clause-changed
returns-clause-changed c bytes brings =
    let k = c.self.inside in
    let m = c.args.self.now.machine in
    let is = ap (λ (f : Form). f.machine) c.self.view_is in
    let sound = subst IsSound is c.self.invariant.0 in
    making.machine-after k m is sound c.args.now c.requires.later c.args.change c.requires.at c.requires.decided
    bytes c.args.digest brings (rows_in c.commit.new.self) c.write.new.holdings c.source_of-source.result c.writes_of-writes.result
    c.source_of-source.ensures c.commit.ensures.rows c.write.ensures.arrays c.writes_of-writes.ensures.value

pub returns-clause-counted : goal.returns-clause-counted
returns-clause-counted c = rw (← c.self.view_is) c.write.ensures.counted
