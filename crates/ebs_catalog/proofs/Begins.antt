-- A start that repeats no other decides by its tests.
use Rattle.std.proofs.Common.{◌≡◌, ℕ, List, [], ◌∷◌, Option, Result, Ok, Err, refl, ap, ◌∙◌}
use Rattle.std.specs.Prelude.{◌&&◌, nat_le, nat_lt}
use Rattle.ebs_model.specs.declared.keys.SnapKey.{SnapKey}
use Rattle.ebs_model.specs.declared.keys.Moment.{Moment}
use Rattle.ebs_model.specs.declared.keys.AnyKey.TheVariants.{Snap}
use Rattle.ebs_model.specs.declared.tags.Tag.{Tag}
use Rattle.ebs_model.specs.declared.request.Request.TheVariants.{StartSnapshot}
use Rattle.ebs_model.specs.declared.change.Decision.{Decision}
use Rattle.ebs_model.specs.declared.change.Decision.TheVariants as decision
use Rattle.ebs_model.specs.declared.answer.Answer.TheVariants.{Started}
use Rattle.ebs_model.specs.declared.answer.Refusal.{Refusal}
use Rattle.ebs_model.specs.declared.answer.Refusal.TheVariants.{BadSize, OpenUploads, Quota}
use Rattle.ebs_model.specs.declared.answer.QuotaName.TheVariants.{Snapshots, ClientTokens, Ids}
use Rattle.ebs_model.specs.Quotas.{most_open, most_kept, most_tokens, most_ids}
use Rattle.ebs_model.specs.Refuse.{◌>>=◌, ◌>>◌, refuse_if}
use Rattle.ebs_model.specs.Rows.{Rows, open_count, kept_count, token_count}
use Rattle.ebs_model.specs.Decisions.{makes}
use Rattle.ebs_model.specs.Calls.Start.{fresh_start, least_size, next_key, has_token}
use Rattle.ebs_catalog.specs.Starts.{next_upload}

pub bound : {A B C : Type 0} (x : Result A Refusal) (g : A → Result B Refusal) (f : B → Result C Refusal) → ((x >>= g) >>= f) ≡ (x >>= λ v. g v >>= f)
bound (Ok v) g f = refl
bound (Err r) g f = refl

pub behind : {B C : Type 0} (x : Result (Unit {0}) Refusal) (y : Result B Refusal) (f : B → Result C Refusal) → ((x >> y) >>= f) ≡ (x >> (y >>= f))
behind (Ok u) y f = refl
behind (Err r) y f = refl

-- what an accepted start decides
abbrev pub begun : Moment → ℕ → ℕ → Option SnapKey → Option (List ℕ) → List Tag → Option (List ℕ) → ℕ → SnapKey → Decision
begun at account size parent description tags token timeout key =
    decision.Change (makes account at (StartSnapshot size parent description tags token timeout) (Snap key ∷ [])) (Started description account parent key at tags size)

pub begins : (rows : Rows) (at : Moment) (account size : ℕ) (parent : Option SnapKey) (description : Option (List ℕ)) (tags : List Tag) (token : Option (List ℕ)) (timeout : ℕ)
    → (next_upload rows at account size parent token >>= λ key. Ok (begun at account size parent description tags token timeout key)) ≡ fresh_start rows at account size parent description tags token timeout
begins rows at account size parent description tags token timeout =
    let key : SnapKey = next_key rows account in
    let f : SnapKey → Result Decision Refusal = λ k. Ok (begun at account size parent description tags token timeout k) in
    let small = λ (least : ℕ). refuse_if (nat_lt size least) BadSize in
    let open_test = refuse_if (nat_le most_open (open_count rows account at.second)) OpenUploads in
    let kept_test = refuse_if (nat_le most_kept (kept_count rows account)) (Quota Snapshots most_kept) in
    let token_test = refuse_if (has_token token && nat_le most_tokens (token_count rows account)) (Quota ClientTokens most_tokens) in
    let id_test = refuse_if (nat_le most_ids key.number) (Quota Ids most_ids) in
    bound (least_size rows account at.second parent) (λ least. small least >> (open_test >> (kept_test >> (token_test >> (id_test >> Ok key))))) f
    ∙ (λ i. least_size rows account at.second parent >>= λ least.
    (behind (small least) (open_test >> (kept_test >> (token_test >> (id_test >> Ok key)))) f
    ∙ ap (λ (z : Result Decision Refusal). small least >> z) (behind open_test (kept_test >> (token_test >> (id_test >> Ok key))) f
    ∙ ap (λ (z : Result Decision Refusal). open_test >> z) (behind kept_test (token_test >> (id_test >> Ok key)) f
    ∙ ap (λ (z : Result Decision Refusal). kept_test >> z) (behind token_test (id_test >> Ok key) f
    ∙ ap (λ (z : Result Decision Refusal). token_test >> z) (behind id_test (Ok key) f))))) i)
