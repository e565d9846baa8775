-- Changes of policies, and what a run of one makes.
use Rattle.std.specs.Prelude.{ℕ, Bool, true, false, List, [], ◌∷◌}
use Rattle.std.specs.List.{list_any}
use Rattle.std.specs.FinMap as map
use Rattle.std.specs.declared.option.Option.{Option}
use Rattle.std.specs.declared.option.Option.TheVariants.{None, Some}
use Rattle.ebs_model.specs.declared.keys.SnapKey.{SnapKey}
use Rattle.ebs_model.specs.declared.keys.VolKey.{VolKey}
use Rattle.ebs_model.specs.declared.keys.PolicyKey.{PolicyKey}
use Rattle.ebs_model.specs.declared.keys.Moment.{Moment}
use Rattle.ebs_model.specs.declared.keys.AnyKey.{AnyKey}
use Rattle.ebs_model.specs.declared.keys.AnyKey.TheVariants.{Snap, Vol, Rule, Policy as policy_id}
use Rattle.ebs_model.specs.declared.policy.Policy.{Policy}
use Rattle.ebs_model.specs.declared.rows.SnapRow.{SnapRow}
use Rattle.ebs_model.specs.declared.rows.VolRow.{VolRow}
use Rattle.ebs_model.specs.declared.request.Request.{Request}
use Rattle.ebs_model.specs.declared.request.Request.TheVariants.{CreatePolicy, DeletePolicy, RunPolicy}
use Rattle.ebs_model.specs.Rows.{Rows, is_key}
use Rattle.ebs_model.specs.Calls.Run.{run_row}

-- a creation or a deletion of a policy, or a run of one
abbrev pub is_policy_change : Request → Bool
is_policy_change (CreatePolicy targets hours at retain add) = true
is_policy_change (DeletePolicy key) = true
is_policy_change (RunPolicy key) = true
is_policy_change request = false

abbrev pub is_run : Request → Bool
is_run (RunPolicy key) = true
is_run request = false

-- the first policy that is made
abbrev pub made_policy : List AnyKey → Option PolicyKey
made_policy [] = None
made_policy (Snap key ∷ made) = None
made_policy (Vol key ∷ made) = None
made_policy (Rule key ∷ made) = None
made_policy (policy_id key ∷ made) = Some key

-- the snapshot is among these
abbrev pub is_id : SnapKey → AnyKey → Bool
is_id key (Snap other) = is_key key other
is_id key (Vol other) = false
is_id key (Rule other) = false
is_id key (policy_id other) = false

abbrev pub is_among : SnapKey → List AnyKey → Bool
is_among key ids = list_any (is_id key) ids

-- the row of a snapshot that a run makes of a volume, where that is there
abbrev pub row_of : Moment → PolicyKey → Policy → SnapKey → VolKey → Option VolRow → Option SnapRow
row_of at policy p key volume None = None
row_of at policy p key volume (Some row) = Some (run_row at key policy p (volume, row))

abbrev pub row_by : Rows → Moment → PolicyKey → Policy → AnyKey → AnyKey → Option SnapRow
row_by rows at policy p (Snap key) (Vol volume) = row_of at policy p key volume (map.get rows.vols volume)
row_by rows at policy p made source = None

abbrev pub with_found : Option SnapRow → List SnapRow → List SnapRow
with_found None rows = rows
with_found (Some row) rows = row ∷ rows

-- those of all that it makes, each of its source
abbrev pub rows_by : Rows → Moment → PolicyKey → Policy → List AnyKey → List AnyKey → List SnapRow
rows_by rows at policy p made [] = []
rows_by rows at policy p [] (source ∷ sources) = []
rows_by rows at policy p (id ∷ made) (source ∷ sources) = with_found (row_by rows at policy p id source) (rows_by rows at policy p made sources)

abbrev pub made_rows : Rows → Moment → PolicyKey → Option Policy → List AnyKey → List AnyKey → List SnapRow
made_rows rows at key None made sources = []
made_rows rows at key (Some p) made sources = rows_by rows at key p made sources

-- what a change has of rows beforehand: those of a run, and no other
abbrev pub rows_of_run : Rows → Moment → List AnyKey → List AnyKey → Request → Option (List SnapRow)
rows_of_run rows at made sources (RunPolicy key) = Some (made_rows rows at key (map.get rows.policies key) made sources)
rows_of_run rows at made sources request = None
