-- What a client token is worth: a start with it acts once (EBS direct APIs reference, StartSnapshot, ClientToken).
use Rattle.std.specs.Prelude.{◌≡◌, ◌≢◌, ◌⊎◌, ℕ, true, List}
use Rattle.std.specs.FinMap as fin
use Rattle.std.specs.declared.option.Option.{Option}
use Rattle.std.specs.declared.option.Option.TheVariants.{None, Some}
use Rattle.std.specs.declared.result.Result.TheVariants.{Ok}
use Rattle.ebs_model.specs.declared.keys.SnapKey.{SnapKey}
use Rattle.ebs_model.specs.declared.keys.TokenKey.{TokenKey}
use Rattle.ebs_model.specs.declared.keys.Moment.{Moment}
use Rattle.ebs_model.specs.declared.tags.Tag.{Tag}
use Rattle.ebs_model.specs.declared.rows.TokenRow.{TokenRow}
use Rattle.ebs_model.specs.declared.request.Request.{Request}
use Rattle.ebs_model.specs.declared.request.Request.TheVariants.{StartSnapshot}
use Rattle.ebs_model.specs.declared.answer.Answer.TheVariants.{Started, Refused}
use Rattle.ebs_model.specs.declared.answer.FirstKey.TheVariants.{Snap}
use Rattle.ebs_model.specs.declared.answer.Refusal.{Refusal}
use Rattle.ebs_model.specs.declared.answer.Refusal.TheVariants.{TokenConflict}
use Rattle.ebs_model.specs.Limits.{bad_member}
use Rattle.ebs_model.specs.Machine.{Machine, advance}
use Rattle.ebs_model.specs.Step.{refuse_size, step}
use Rattle.ebs_model.specs.Timed.{Timed, after_all, made_id}
use Rattle.ebs_model.specs.Calls.Start.{first_key}
use Rattle.ebs_laws.specs.Words.{moment_at, started_id, use_of, IsUnused, is_repeat}

-- a start that was answered is answered alike when it is repeated, whatever was called in between by whomever, and then nothing
-- changes but by time: also where the snapshot that it made isn't there any more
abbrev pub StartActsOnce : Type 0
StartActsOnce =
    (m : Machine) (turns : List Timed) (account : ℕ) (reading later : Moment) (size : ℕ) (parent : Option SnapKey) (text : Option (List ℕ)) (tags : List Tag) (token : List ℕ) (timeout : ℕ)
    (told : Option (List ℕ)) (owner : ℕ) (from : Option SnapKey) (key : SnapKey) (begin : Moment) (shown : List Tag) (gib : ℕ)
    → let request = StartSnapshot size parent text tags (Some token) timeout in let s = step m account reading request in let n = after_all s.0 turns in
    s.1 ≡ Started told owner from key begin shown gib → step n account later request ≡ (advance n (moment_at n later), s.1)

-- another start of the account with its token, within its limits, is refused by what the first one made, and changes nothing but by time
abbrev pub OtherStartConflicts : Type 0
OtherStartConflicts =
    (m : Machine) (turns : List Timed) (account : ℕ) (reading later : Moment) (size : ℕ) (parent : Option SnapKey) (text : Option (List ℕ)) (tags : List Tag) (token : List ℕ) (timeout : ℕ)
    (told : Option (List ℕ)) (owner : ℕ) (from : Option SnapKey) (key : SnapKey) (begin : Moment) (shown : List Tag) (gib : ℕ)
    (other_size : ℕ) (other_parent : Option SnapKey) (other_text : Option (List ℕ)) (other_tags : List Tag) (other_timeout : ℕ)
    → let request = StartSnapshot size parent text tags (Some token) timeout in let other = StartSnapshot other_size other_parent other_text other_tags (Some token) other_timeout in
    let s = step m account reading request in let n = after_all s.0 turns in
    s.1 ≡ Started told owner from key begin shown gib → other ≢ request → bad_member other ≡ None → refuse_size other ≡ Ok tt
    → step n account later other ≡ (advance n (moment_at n later), Refused (TokenConflict (Snap key)))

-- a start that is answered keeps its unused token, with its moment, itself and the number that it made
abbrev pub StartKeepsToken : Type 0
StartKeepsToken =
    (m : Machine) (account : ℕ) (reading : Moment) (size : ℕ) (parent : Option SnapKey) (text : Option (List ℕ)) (tags : List Tag) (token : List ℕ) (timeout : ℕ)
    (told : Option (List ℕ)) (owner : ℕ) (from : Option SnapKey) (key : SnapKey) (begin : Moment) (shown : List Tag) (gib : ℕ)
    → let request = StartSnapshot size parent text tags (Some token) timeout in let s = step m account reading request in
    IsUnused m account (Some token) → s.1 ≡ Started told owner from key begin shown gib
    → use_of s.0 account (Some token) ≡ Some (record { at = moment_at m reading; first = request; number = key.number })

-- a token that was used stays so for good, with its first use
abbrev pub TokensStay : Type 0
TokensStay = (m : Machine) (turns : List Timed) (key : TokenKey) (row : TokenRow) → fin.get m.tokens key ≡ Some row → fin.get (after_all m turns).tokens key ≡ Some row

-- a token is used by nothing but a start or a creation of its account, whose answer has the id that is kept with it, of its kind
abbrev pub OnlyStartsUseTokens : Type 0
OnlyStartsUseTokens =
    (m : Machine) (account : ℕ) (reading : Moment) (request : Request) (key : TokenKey) (row : TokenRow)
    → let s = step m account reading request in fin.get s.0.tokens key ≡ Some row
    → (fin.get m.tokens key ≡ Some row) ⊎ ((key.account ≡ account) × (made_id s.1 ≡ Some (first_key account row)))

-- a start whose token was used is answered, if at all, by the id that is kept with the token, and that is a snapshot's
abbrev pub RepeatTellsFirst : Type 0
RepeatTellsFirst =
    (m : Machine) (account : ℕ) (reading : Moment) (size : ℕ) (parent : Option SnapKey) (text : Option (List ℕ)) (tags : List Tag) (token : Option (List ℕ)) (timeout : ℕ) (row : TokenRow) (key : SnapKey)
    → use_of m account token ≡ Some row → started_id (step m account reading (StartSnapshot size parent text tags token timeout)).1 ≡ Some key
    → first_key account row ≡ Snap key

-- a start or a creation whose token was used changes nothing but by time, however it is answered
abbrev pub RepeatChangesNothing : Type 0
RepeatChangesNothing = (m : Machine) (account : ℕ) (reading : Moment) (request : Request) → is_repeat m account request ≡ true → (step m account reading request).0 ≡ advance m (moment_at m reading)

-- a refused call uses no token
abbrev pub RefusedUsesNoToken : Type 0
RefusedUsesNoToken = (m : Machine) (account : ℕ) (reading : Moment) (request : Request) (refusal : Refusal) → let s = step m account reading request in s.1 ≡ Refused refusal → s.0.tokens ≡ m.tokens
