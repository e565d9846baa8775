-- A creation of a volume that repeats no other decides by its tests, and its size fits what rows keep.
use Rattle.std.proofs.Common.{◌≡◌, ℕ, Bool, true, false, cond, List, [], ◌∷◌, Option, Some, None, Result, Ok, unwrap_or, refl, sym, ap, ◌∙◌}
use Rattle.std.specs.Prelude.{◌&&◌, nat_le, nat_lt}
use Rattle.std.specs.Option.{option_map}
use Rattle.std.specs.FinMap.{FinMap, get}
use Rattle.ebs_model.specs.declared.keys.SnapKey.{SnapKey}
use Rattle.ebs_model.specs.declared.keys.VolKey.{VolKey}
use Rattle.ebs_model.specs.declared.keys.Moment.{Moment}
use Rattle.ebs_model.specs.declared.keys.AnyKey.TheVariants.{Vol}
use Rattle.ebs_model.specs.declared.tags.Tag.{Tag}
use Rattle.ebs_model.specs.declared.rows.SnapRow.{SnapRow}
use Rattle.ebs_model.specs.declared.request.Request.TheVariants.{CreateVolume}
use Rattle.ebs_model.specs.declared.change.Decision.{Decision}
use Rattle.ebs_model.specs.declared.change.Decision.TheVariants as decision
use Rattle.ebs_model.specs.declared.answer.Answer.TheVariants.{VolumeShown}
use Rattle.ebs_model.specs.declared.answer.Refusal.{Refusal}
use Rattle.ebs_model.specs.declared.answer.Refusal.TheVariants.{BadSize, Quota}
use Rattle.ebs_model.specs.declared.answer.QuotaName.TheVariants.{Volumes, ClientTokens, Ids}
use Rattle.ebs_model.specs.Keys.{snap_cmp}
use Rattle.ebs_model.specs.Limits.{is_size}
use Rattle.ebs_model.specs.Quotas.{most_volumes, most_tokens, most_ids}
use Rattle.ebs_model.specs.Refuse.{◌>>=◌, ◌>>◌, refuse_if}
use Rattle.ebs_model.specs.Time.{stays, rested_row}
use Rattle.ebs_model.specs.Rows.{Rows, volume_count, token_count}
use Rattle.ebs_model.specs.inner.Rows.{aged_snaps}
use Rattle.ebs_model.specs.Decisions.{makes}
use Rattle.ebs_model.specs.Calls.Start.{least_size, has_token}
use Rattle.ebs_model.specs.Calls.Volume.{fresh_create, next_volume}
use Rattle.ebs_model.proofs.RowLaws.{left_row, get-aged_snaps}
use Rattle.ebs_catalog.specs.Decided.{HasLimits}
use Rattle.ebs_catalog.specs.Volumes.{next_created}
use Rattle.ebs_catalog.proofs.Begins.{bound, behind}

-- what an accepted creation decides
abbrev pub created : Moment → ℕ → Option SnapKey → List Tag → Option (List ℕ) → VolKey × ℕ → Decision
created at account origin tags token new =
    decision.Change (makes account at (CreateVolume origin (Some new.1) tags token) (Vol new.0 ∷ [])) (VolumeShown true new.1 origin tags new.0)

pub creates : (rows : Rows) (at : Moment) (account : ℕ) (origin : Option SnapKey) (size : Option ℕ) (tags : List Tag) (token : Option (List ℕ))
    → (next_created rows at account origin size token >>= λ new. Ok (created at account origin tags token new)) ≡ fresh_create rows at account origin size tags token
creates rows at account origin size tags token =
    let key : VolKey = next_volume rows account in
    let f : VolKey × ℕ → Result Decision Refusal = λ new. Ok (created at account origin tags token new) in
    let last : ℕ → Result (VolKey × ℕ) Refusal = λ least. Ok (key, unwrap_or size least) in
    let small = λ (least : ℕ). refuse_if (nat_lt (unwrap_or size least) least) BadSize in
    let count_test = refuse_if (nat_le most_volumes (volume_count rows account)) (Quota Volumes most_volumes) in
    let token_test = refuse_if (has_token token && nat_le most_tokens (token_count rows account)) (Quota ClientTokens most_tokens) in
    let id_test = refuse_if (nat_le most_ids key.number) (Quota Ids most_ids) in
    bound (least_size rows account at.second origin) (λ least. small least >> (count_test >> (token_test >> (id_test >> last least)))) f
    ∙ (λ i. least_size rows account at.second origin >>= λ least.
    (behind (small least) (count_test >> (token_test >> (id_test >> last least))) f
    ∙ ap (λ (z : Result Decision Refusal). small least >> z) (behind count_test (token_test >> (id_test >> last least)) f
    ∙ ap (λ (z : Result Decision Refusal). count_test >> z) (behind token_test (id_test >> last least) f
    ∙ ap (λ (z : Result Decision Refusal). token_test >> z) (behind id_test (last least) f)))) i)

none_some : (a : SnapRow) → ◌≡◌ {A = Option SnapRow} None (Some a) → ⊥
none_some a e = cc

some_same : (a b : SnapRow) → Some a ≡ Some b → a ≡ b
some_same a b e = cc

-- a row at the moment has a size in GiB that an image can have, where the kept rows do
pub sized-row : (now : ℕ) (s : FinMap snap_cmp SnapRow) (key : SnapKey) (row : SnapRow) → get (aged_snaps now s) key ≡ Some row → ((r : SnapRow) → get s key ≡ Some r → HasLimits r) → is_size row.size ≡ true
sized-row now s key row e limits = at (get s key) refl (sym (get-aged_snaps now s key) ∙ e)
  where
    left : (r : SnapRow) → get s key ≡ Some r → (b : Bool) → option_map (rested_row now) (cond b (Some r) None) ≡ Some row → is_size row.size ≡ true
    left r t true h = ap (λ (x : SnapRow). is_size x.size) (sym (some_same (rested_row now r) row h)) ∙ (limits r t).size
    left r t false h = absurd (none_some row h)

    at : (o : Option SnapRow) → get s key ≡ o → left_row now o ≡ Some row → is_size row.size ≡ true
    at None t h = absurd (none_some row h)
    at (Some r) t h = left r t (stays now r) h
