-- RunPolicy: a policy makes snapshots where it is due, and gives up old ones (Amazon Data Lifecycle Manager).
use Rattle.std.specs.Prelude.{ℕ, List, [], if◌then◌else◌, ◌+◌, ◌∷◌, Option, None, Some, map, length, nat_lt, Result, Ok, ◌++◌}
use Rattle.std.specs.FinMap as fin
use Rattle.ebs_model.specs.declared.keys.SnapKey.{SnapKey}
use Rattle.ebs_model.specs.declared.keys.VolKey.{VolKey}
use Rattle.ebs_model.specs.declared.keys.PolicyKey.{PolicyKey}
use Rattle.ebs_model.specs.declared.keys.Moment.{Moment}
use Rattle.ebs_model.specs.declared.keys.AnyKey.TheVariants.{Snap, Vol}
use Rattle.ebs_model.specs.declared.policy.Policy.{Policy}
use Rattle.ebs_model.specs.declared.rows.SnapRow.{SnapRow}
use Rattle.ebs_model.specs.declared.rows.VolRow.{VolRow}
use Rattle.ebs_model.specs.declared.request.Request.TheVariants.{RunPolicy}
use Rattle.ebs_model.specs.declared.change.Change.{Change}
use Rattle.ebs_model.specs.declared.change.Decision.{Decision}
use Rattle.ebs_model.specs.declared.change.Decision.TheVariants as decision
use Rattle.ebs_model.specs.declared.answer.Answer.TheVariants.{PolicyRan}
use Rattle.ebs_model.specs.declared.answer.Refusal.{Refusal}
use Rattle.ebs_model.specs.declared.answer.Refusal.TheVariants.{Quota}
use Rattle.ebs_model.specs.declared.answer.QuotaName.TheVariants.{Snapshots, Ids}
use Rattle.ebs_model.specs.Quotas.{most_kept, most_ids}
use Rattle.ebs_model.specs.Refuse.{◌>>=◌, ◌>>◌, refuse_if}
use Rattle.ebs_model.specs.Rows.{Rows, is_key, with_row, the_policy, kept_count}
use Rattle.ebs_model.specs.Decisions.{makes}
use Rattle.ebs_model.specs.Policies.{is_due, targets, managed, released, ended}
use Rattle.ebs_model.specs.Calls.Start.{next_key, with_upload}
use Rattle.ebs_model.specs.Calls.Delete.{commit_delete}
use Rattle.ebs_model.specs.Calls.Disk.{snapped_row}

-- ---- what a run makes

-- the volumes that it makes a snapshot of, in ascending id: the targets where a due moment has come since the last run
abbrev pub due_targets : Rows → PolicyKey → Policy → ℕ → List (VolKey × VolRow)
due_targets rows key p now = if is_due p p.last.second now then targets rows key.account p else []

abbrev pub following : SnapKey → SnapKey
following key = record key { number = key.number + 1 }

-- their snapshots, numbered one after another
abbrev pub new_keys : SnapKey → List (VolKey × VolRow) → List SnapKey
new_keys first [] = []
new_keys first (e ∷ volumes) = first ∷ new_keys (following first) volumes

-- the volume of a snapshot that is made so
abbrev pub source_of : SnapKey → List (VolKey × VolRow) → SnapKey → Option VolKey
source_of first [] key = None
source_of first (e ∷ volumes) key = if is_key key first then Some e.0 else source_of (following first) volumes key

-- started now, with the policy and the tags that it adds
abbrev pub run_row : Moment → SnapKey → PolicyKey → Policy → VolKey × VolRow → SnapRow
run_row at key policy p e = record (snapped_row at key e.0 e.1 None p.add) { policy = Some policy }

abbrev pub with_new : Rows → Moment → PolicyKey → Policy → List (VolKey × VolRow) → Rows
with_new rows at policy p [] = rows
with_new rows at policy p (e ∷ volumes) =
    with_new (with_upload rows (next_key rows policy.account) (run_row at (next_key rows policy.account) policy p e)) at policy p volumes

-- ---- what it gives up

-- the rows with what a run makes
abbrev pub made_rows : Rows → Moment → PolicyKey → Policy → Rows
made_rows rows at key p = with_new rows at key p (due_targets rows key p at.second)

-- what is given up of them, the new ones among what is counted
abbrev pub run_released : Rows → Moment → PolicyKey → Policy → List SnapKey
run_released rows at key p = released p at.second (managed (made_rows rows at key p) key at.second)

abbrev pub run_ended : Rows → Moment → PolicyKey → Policy → List SnapKey
run_ended rows at key p = ended p at.second (managed (made_rows rows at key p) key at.second)

-- the policy is taken away
abbrev pub freed : SnapRow → SnapRow
freed row = record row { policy = None }

abbrev pub with_freed : Rows → List SnapKey → Rows
with_freed rows [] = rows
with_freed rows (key ∷ keys) = with_freed (with_row rows key freed) keys

abbrev pub with_deleted : Rows → Moment → List SnapKey → Rows
with_deleted rows at [] = rows
with_deleted rows at (key ∷ keys) = with_deleted (commit_delete rows at key) at keys

-- ---- the call

abbrev pub run_change : ℕ → Moment → PolicyKey → List SnapKey → List (VolKey × VolRow) → List SnapKey → List SnapKey → Change
run_change account at key made sources ended released = record (makes account at (RunPolicy key) (map Snap made)) {
  sources = map (λ (e : VolKey × VolRow). Vol e.0) sources;
  ended = map Snap ended;
  released = map Snap released;
}

-- what a run within its quotas does, and answers
abbrev pub run_decided : Rows → Moment → ℕ → PolicyKey → Policy → Decision
run_decided rows at account key p =
    let volumes : List (VolKey × VolRow) = due_targets rows key p at.second in
    let made : List SnapKey = new_keys (next_key rows account) volumes in
    let gone : List SnapKey = run_ended rows at key p in
    decision.Change (run_change account at key made volumes gone (run_released rows at key p)) (PolicyRan (map Snap gone) (map Snap made))

-- all that it makes is counted before anything is deleted
abbrev pub decide_run : Rows → Moment → ℕ → PolicyKey → Result Decision Refusal
decide_run rows at account key = do
  p ← the_policy rows account key
  let more : ℕ = length (due_targets rows key p at.second)
  refuse_if (nat_lt most_kept (kept_count rows account + more)) (Quota Snapshots most_kept)
  refuse_if (nat_lt most_ids ((next_key rows account).number + more)) (Quota Ids most_ids)
  Ok (run_decided rows at account key p)

abbrev pub with_last : Rows → Moment → PolicyKey → Policy → Rows
with_last rows at key p = record rows { policies = fin.insert rows.policies key (record p { last = at }) }

-- made, then released and deleted; the deleted ones lose their policy first
abbrev pub run_rows : Rows → Moment → PolicyKey → Policy → Rows
run_rows rows at key p =
    let gone : List SnapKey = run_ended rows at key p in
    with_last (with_deleted (with_freed (made_rows rows at key p) (run_released rows at key p ++ gone)) at gone) at key p

abbrev pub run_by : Rows → Moment → PolicyKey → Option Policy → Rows
run_by rows at key None = rows
run_by rows at key (Some p) = run_rows rows at key p

abbrev pub commit_run : Rows → Moment → PolicyKey → Rows
commit_run rows at key = run_by rows at key (fin.get rows.policies key)

-- the volume of a snapshot that the run makes
abbrev pub run_source : Rows → ℕ → PolicyKey → Option Policy → SnapKey → Option VolKey
run_source rows now key None snap = None
run_source rows now key (Some p) snap = source_of (next_key rows key.account) (due_targets rows key p now) snap
