-- In which order a start's tests refuse it.
use Rattle.std.proofs.Common.{◌≡◌, ℕ, Bool, true, false, not, ◌&&◌, is_some, cond, nat_le, nat_lt, List, [], ◌∷◌, ◌++◌, codes, Option, Some, None, Result, Ok, Err, sym, ap, ◌∙◌, refl, arith}
use Rattle.std.proofs.lemmas.Bool.Decides.{nat_tests}
use Rattle.std.specs.FinMap as fin
use Rattle.ebs_model.specs.declared.keys.SnapKey.{SnapKey}
use Rattle.ebs_model.specs.declared.tags.Tag.{Tag}
use Rattle.ebs_model.specs.declared.rows.Tier.{Tier}
use Rattle.ebs_model.specs.declared.rows.Tier.TheVariants.{Standard, Archived, Temporary}
use Rattle.ebs_model.specs.declared.request.Request.TheVariants.{StartSnapshot}
use Rattle.ebs_model.specs.declared.answer.Answer.TheVariants.{Started}
use Rattle.ebs_model.specs.declared.answer.Kind.TheVariants.{Snapshot as snapshot}
use Rattle.ebs_model.specs.declared.answer.StateName.TheVariants as state
use Rattle.ebs_model.specs.declared.answer.QuotaName.TheVariants.{Snapshots, ClientTokens, Ids}
use Rattle.ebs_model.specs.declared.rows.TokenRow.{TokenRow}
use Rattle.ebs_model.specs.declared.answer.Spent.TheVariants.{Changes}
use Rattle.ebs_model.specs.declared.answer.Refusal.{Refusal}
use Rattle.ebs_model.specs.declared.answer.Refusal.TheVariants.{BadParameter, BadSize, TokenConflict, WrongState, NotFound, OpenUploads, Quota, Exhausted}
use Rattle.ebs_model.specs.Quotas.{most_open, most_kept, most_tokens, most_ids}
use Rattle.ebs_model.specs.Refuse.{◌>>=◌, ◌>>◌, refuse_if, some_or}
use Rattle.ebs_model.specs.Limits.{unless, is_description, are_tags, is_token_given, is_timeout, is_size}
use Rattle.ebs_model.specs.Time.{Snapshot}
use Rattle.ebs_model.specs.Access.{ready, base, is_temporary}
use Rattle.ebs_model.specs.Rows.{open_count, kept_count, token_count}
use Rattle.ebs_model.specs.Machine.{Machine, advance, is_spent, rows_of}
use Rattle.ebs_model.specs.Calls.Start.{started_row, is_same_start, first_key, has_token}
use Rattle.ebs_laws.specs.Words.{moment_at, use_of}
use Rattle.ebs_laws.specs.OrderLaws.{Tests, first_of, reader_tests, is_restored, room_tests, found_tests, parent_tests, token_tests, start_tests, StartIsRefusedInOrder}
use Rattle.ebs_laws.proofs.Cases.{Outcome}
use Rattle.ebs_laws.proofs.Begun.{numbered}
use Rattle.ebs_laws.proofs.Rooms.{kept-own, open-own}
use Rattle.ebs_laws.proofs.Ordered.{refusal_in, one, bad, more, reader-order, change_test, spent, refused-so}
use Rattle.ebs_laws.proofs.Whole as whole
use Rattle.ebs_laws.proofs.Whole.{Origin, own_of, origin, of_snapshot, of_nothing, with_started, with_use, by_use}

pub restored-same : (tier : Tier) → is_temporary tier ≡ is_restored tier
restored-same Standard = refl
restored-same Archived = refl
restored-same (Temporary until) = refl

pub last : (b : Bool) (r : Refusal) → refusal_in (refuse_if b r) ≡ first_of ((b, r) ∷ [])
last true r = refl
last false r = refl

pub moved : (x : Result (Unit {0}) Refusal) (s : Snapshot) (next : Origin → Result Outcome Refusal) → (((x >> Ok s) >>= λ s. Ok (of_snapshot s)) >>= next) ≡ (x >> next (of_snapshot s))
moved (Ok u) s next = refl
moved (Err r) s next = refl

pub never_below_nothing : (size : ℕ) → nat_lt size 0 ≡ false
never_below_nothing size = grind (arith, nat_tests)

module _ (at : Machine) (account size : ℕ) (parent : Option SnapKey) (text : Option (List ℕ)) (tags : List Tag) (token : Option (List ℕ)) (timeout : ℕ) where
  abbrev given : SnapKey
  given = record { account = account; number = (own_of at account).next_snap }

  abbrev done : Origin → Outcome
  done from = (with_use at (with_started at given (started_row at.clock given size parent from.line text tags timeout) from.array) given (StartSnapshot size parent text tags token timeout) token, Started text account parent given at.clock tags size)

  abbrev numbers : Origin → Result Outcome Refusal
  numbers from = refuse_if (nat_le most_ids given.number) (Quota Ids most_ids) >> (refuse_if (is_spent at) (Exhausted Changes) >> Ok (done from))

  abbrev uses : Origin → Result Outcome Refusal
  uses from = refuse_if (has_token token && nat_le most_tokens (token_count (rows_of at) account)) (Quota ClientTokens most_tokens) >> numbers from

  abbrev kept : Origin → Result Outcome Refusal
  kept from = refuse_if (nat_le most_kept (kept_count (rows_of at) account)) (Quota Snapshots most_kept) >> uses from

  abbrev rooms : Origin → Result Outcome Refusal
  rooms from = refuse_if (nat_le most_open (open_count (rows_of at) account at.clock.second)) OpenUploads >> kept from

  abbrev rest : Origin → Result Outcome Refusal
  rest from = refuse_if (nat_lt size from.size) BadSize >> rooms from

  abbrev is_full : Option (List ℕ) → Bool
  is_full token = has_token token && nat_le most_tokens (token_count (rows_of at) account)

  full-is : (token : Option (List ℕ)) → is_full token ≡ (is_some token && nat_le most_tokens (token_count (rows_of at) account))
  full-is None = refl
  full-is (Some text) = refl

  room-order : (from : Origin) → refusal_in (rooms from) ≡ first_of (room_tests at account token)
  room-order from =
      one (nat_le most_open (open_count (rows_of at) account at.clock.second)) OpenUploads (kept from) ((nat_le most_kept (kept_count (rows_of at) account), Quota Snapshots most_kept) ∷ (is_full token, Quota ClientTokens most_tokens) ∷ (nat_le most_ids given.number, Quota Ids most_ids) ∷ change_test at account)
      (one (nat_le most_kept (kept_count (rows_of at) account)) (Quota Snapshots most_kept) (uses from) ((is_full token, Quota ClientTokens most_tokens) ∷ (nat_le most_ids given.number, Quota Ids most_ids) ∷ change_test at account)
      (one (is_full token) (Quota ClientTokens most_tokens) (numbers from) ((nat_le most_ids given.number, Quota Ids most_ids) ∷ change_test at account)
      (one (nat_le most_ids given.number) (Quota Ids most_ids) (refuse_if (is_spent at) (Exhausted Changes) >> Ok (done from)) (change_test at account) (spent at account (done from)))))
      ∙ (λ i. first_of (
      (nat_le most_open (open-own at account at.clock.second i), OpenUploads)
      ∷ (nat_le most_kept (kept-own at account i), Quota Snapshots most_kept)
      ∷ (full-is token i, Quota ClientTokens most_tokens)
      ∷ (nat_le most_ids (sym (numbered (fin.get at.own account)) i), Quota Ids most_ids)
      ∷ change_test at account))

  base-order : (key : SnapKey) (s : Snapshot) → refusal_in (base account key at.clock.second s.row) ≡ first_of (reader_tests account key at.clock.second s.row ++ ((is_restored s.row.tier, WrongState state.Temporary) ∷ []))
  base-order key s = more (ready account key at.clock.second s.row) (refuse_if (is_temporary s.row.tier) (WrongState state.Temporary)) (reader_tests account key at.clock.second s.row) ((is_restored s.row.tier, WrongState state.Temporary) ∷ [])
      (reader-order account key at.clock.second s.row)
      (last (is_temporary s.row.tier) (WrongState state.Temporary) ∙ ap (λ b. cond b (Some (WrongState state.Temporary)) None) (restored-same s.row.tier))

  found-order : (key : SnapKey) (o : Option Snapshot) → refusal_in (((some_or o (NotFound snapshot) >>= λ s. base account key at.clock.second s.row >> Ok s) >>= λ s. Ok (of_snapshot s)) >>= rest) ≡ first_of (found_tests at account token size key o)
  found-order key None = refl
  found-order key (Some s) =
      ap refusal_in (moved (base account key at.clock.second s.row) s rest)
      ∙ more (base account key at.clock.second s.row) (rest (of_snapshot s)) (reader_tests account key at.clock.second s.row ++ ((is_restored s.row.tier, WrongState state.Temporary) ∷ [])) ((nat_lt size s.row.size, BadSize) ∷ room_tests at account token)
      (base-order key s)
      (one (nat_lt size s.row.size) BadSize (rooms (of_snapshot s)) (room_tests at account token) (room-order (of_snapshot s)))

  parent-order : (from : Option SnapKey) → refusal_in (origin at account given from >>= rest) ≡ first_of (parent_tests at account token size from)
  parent-order None = ap (λ b. refusal_in (refuse_if b BadSize >> rooms (of_nothing given))) (never_below_nothing size) ∙ room-order (of_nothing given)
  parent-order (Some key) = found-order key (fin.get at.snaps key)

  conflict : (row : TokenRow) → refusal_in (whole.repeat at account size parent text tags timeout row) ≡ first_of ((not (is_same_start row.first size parent text tags timeout), TokenConflict (first_key account row)) ∷ [])
  conflict row = one (not (is_same_start row.first size parent text tags timeout)) (TokenConflict (first_key account row)) _ [] refl

  use-order : (o : Option TokenRow) → refusal_in (by_use o (whole.repeat at account size parent text tags timeout) (whole.fresh at account size parent text tags token timeout)) ≡ first_of (token_tests at account size parent text tags token timeout o)
  use-order None = parent-order parent
  use-order (Some row) = conflict row

  start-order : refusal_in (whole.call at account (StartSnapshot size parent text tags token timeout)) ≡ first_of (start_tests at account size parent text tags token timeout)
  start-order =
      let all = whole.start at account size parent text tags token timeout in
      let sized : Tests = (not (is_size size), BadSize) ∷ token_tests at account size parent text tags token timeout (use_of at account token) in
      let timed : Tests = (not (is_timeout timeout), BadParameter (codes "Timeout")) ∷ sized in
      let named : Tests = (not (is_token_given token), BadParameter (codes "ClientToken")) ∷ timed in
      let tagged : Tests = (not (are_tags tags), BadParameter (codes "Tags")) ∷ named in
      let late : Option (List ℕ) = unless (is_timeout timeout) (codes "Timeout") None in
      let bad_token : Option (List ℕ) = unless (is_token_given token) (codes "ClientToken") late in
      bad (is_description text) (codes "Description") (unless (are_tags tags) (codes "Tags") bad_token) all tagged
      (bad (are_tags tags) (codes "Tags") bad_token all named
      (bad (is_token_given token) (codes "ClientToken") late all timed
      (bad (is_timeout timeout) (codes "Timeout") None all sized
      (one (not (is_size size)) BadSize (by_use (use_of at account token) (whole.repeat at account size parent text tags timeout) (whole.fresh at account size parent text tags token timeout)) (token_tests at account size parent text tags token timeout (use_of at account token)) (use-order (use_of at account token))))))

pub start-refused : StartIsRefusedInOrder
start-refused m account reading size parent text tags token timeout =
    let at = advance m (moment_at m reading) in
    refused-so at account (StartSnapshot size parent text tags token timeout) (start_tests at account size parent text tags token timeout) (start-order at account size parent text tags token timeout)
