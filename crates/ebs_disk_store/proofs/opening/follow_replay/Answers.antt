use Rattle.std.proofs.Common.{◌≡◌, List, ℕ, Err, ◌∙◌, sym, subst, rules}
use Rattle.ebs_disk_store.specs.inner.Following.{IsStopped, Leads}
use Rattle.ebs_disk_store.specs.inner.Opened.{Begun, IsUnread}
use Rattle.ebs_disk_store.proofs.Opens.{gives, unread, within}
use Rattle.ebs_disk_store.proofs.opening.follow_replay.Goals as goal

pub follow_all-requires : goal.follow_all-requires
follow_all-requires c = record { state = c.in_ok-kept.ensures.begun.kept; counted = c.in_ok-kept.ensures.counted }

pub refuse-requires : goal.refuse-requires
refuse-requires c =
    let replay = c.args.replay.now in
    let m = c.in_ok-kept.kept.machine in
    let slots = c.in_ok-kept.slots in
    let begun : Begun replay.checkpoint m slots = subst (λ (bytes : List ℕ). Begun bytes m slots) c.as_slice.ensures c.in_ok-kept.ensures.begun in
    let stopped : IsStopped begun.base replay.records c.in-Err.stopped = subst (λ (ps : List (List ℕ)). IsStopped begun.base ps c.in-Err.stopped) c.as_slice-2.ensures (c.in-Err.ensures.follows begun.base begun.of) in
    within replay.checkpoint replay.records m slots begun c.in-Err.stopped stopped c.as_slice-in-Err.result.now (c.as_slice-in-Err.ensures ∙ c.requires)

pub returns-in-Ok-clause-gives : goal.returns-in-Ok-clause-gives
returns-in-Ok-clause-gives c =
    let replay = c.args.replay.now in
    let m = c.in_ok-kept.kept.machine in
    let slots = c.in_ok-kept.slots in
    let begun : Begun replay.checkpoint m slots = subst (λ (bytes : List ℕ). Begun bytes m slots) c.as_slice.ensures c.in_ok-kept.ensures.begun in
    let n = c.follow_all.new.kept.machine in
    let leads : Leads m slots n c.follow_all.new.slots replay.records = subst (Leads m slots n c.follow_all.new.slots) c.as_slice-2.ensures c.in-Ok.ensures.follows in
    gives replay.checkpoint replay.records m slots begun n c.follow_all.new.slots leads
    c.sweep.new.kept.machine c.sweep.new.slots c.sweep.ensures.machine c.sweep.ensures.frees c.sweep.ensures.slotted c.sweep.ensures.shared c.top-top.ensures.apart c.keeps_limits.ensures.early c.keeps_limits.ensures.few

pub returns-in-Err-clause-refused : goal.returns-in-Err-clause-refused
returns-in-Err-clause-refused c =
    let replay = c.args.replay.now in
    let m = c.in_ok-kept.kept.machine in
    let slots = c.in_ok-kept.slots in
    let begun : Begun replay.checkpoint m slots = subst (λ (bytes : List ℕ). Begun bytes m slots) c.as_slice.ensures c.in_ok-kept.ensures.begun in
    let stopped : IsStopped begun.base replay.records c.in-Err.stopped = subst (λ (ps : List (List ℕ)). IsStopped begun.base ps c.in-Err.stopped) c.as_slice-2.ensures (c.in-Err.ensures.follows begun.base begun.of) in
    subst (IsUnread replay.checkpoint replay.records) (sym c.refuse.ensures)
    (unread replay.checkpoint replay.records m slots begun c.in-Err.stopped stopped c.as_slice-in-Err.result.now (c.as_slice-in-Err.ensures ∙ c.requires))

pub returns-in_err-kept-clause-refused : goal.returns-in_err-kept-clause-refused
returns-in_err-kept-clause-refused c =
    let replay = c.args.replay.now in
    let is : c.from_residual.result ≡ Err c.in_err-kept.field-0.0 = search rules in
    rw is (subst (λ (bytes : List ℕ). IsUnread bytes replay.records c.in_err-kept.field-0.0) c.as_slice.ensures (c.in_err-kept.ensures.refused replay.records))
