use Rattle.std.proofs.Common.{[], sym, ap, subst, ◌∙◌}
use Rattle.ebs_model.specs.Machine.{advance, is_spent, rows_of}
use Rattle.ebs_model.specs.Decide.{decide}
use Rattle.ebs_model.specs.inner.Follows.{Agrees}
use Rattle.ebs_recovery.specs.inner.Fits.{Seen}
use Rattle.ebs_model.specs.Refuse.{refuse_bad}
use Rattle.ebs_model.specs.Kept.{same}
use Rattle.ebs_model.specs.Step.{refuse_digest}
use Rattle.ebs_disk_store.specs.inner.Puts.{PutRules, bad_index, index_of, refuse_head, with_bytes}
use Rattle.ebs_disk_store.proofs.PutRuled as lemma
use Rattle.ebs_disk_store.proofs.store.Store.rule_put.Goals as goal

pub returns-in-Ok : goal.returns-in-Ok
returns-in-Ok g c =
    let s = c.args.self.now in
    let m = advance s.recorded c.args.now in
    let put = c.args.head.now in
    let found = c.args.found in
    let tests = lemma.tests_ok (refuse_bad (bad_index (index_of put))) (refuse_digest same (with_bytes put found)) (subst (λ r. Agrees r (refuse_head put found)) c.in_default.is c.check_head.ensures) in
    let given = subst (λ r. Agrees r (decide (rows_of m) c.args.now c.args.account (with_bytes put []))) c.in-Ok.is c.decide_put.ensures in
    subst (PutRules m c.args.account put found) (sym c.ruling_of.ensures)
    (lemma.rules_of m c.args.account put found tests.0 tests.1 c.in-Ok.decision c.is_spent.result (c.is_spent.ensures.test ∙ ap (λ (u : Seen). is_spent u.recorded) c.self.view_is) (sym given))
